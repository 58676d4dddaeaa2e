use Rattle.std.proofs.Common.{◌≡◌, Result, refl, sym, ap, ◌∙◌, subst}
use Rattle.std.specs.Prelude.{IfOk, IfErr}
use Rattle.nfs_model.specs.Parts.{Hand}
use Rattle.affinity.specs.Affinity.{kind_of}
use Rattle.affinity.specs.declared.affinity.Kind.TheVariants as kinds
use Rattle.filer_state.specs.declared.files.Files.{Files}
use Rattle.filer_state.specs.state.Jobs.{InnerCall, inner_node}
use Rattle.desk.specs.Words.{books}
use Rattle.service.specs.Jobs.{batch_reply_of, inner_of}
use Rattle.service.specs.Works.{range_call_of, range_hand_of, logical_call_of, logical_hand_of, batch_call_of, batch_hand_of}
use Rattle.service.specs.lemmas.Inner.{is-inner}
use Rattle.service.specs.declared.job.BatchReply.{BatchReply}
use Rattle.service.specs.declared.job.Job.{Job}
use Rattle.service.specs.declared.job.JobReply.{JobReply}
use Rattle.service.specs.declared.job.JobReply.TheVariants.{Moved}
use Rattle.service.specs.declared.works.BatchWork.{BatchWork}
use Rattle.service.specs.declared.works.RangeWork.{RangeWork}
use Rattle.service.specs.declared.works.RangeWork.TheVariants as ranges
use Rattle.service.specs.declared.works.LogicalWork.{LogicalWork}
use Rattle.service.specs.declared.works.LogicalWork.TheVariants as logicals
use Rattle.engine.specs.laws.Store.{FilerBooks}
use Rattle.engine.specs.Inner.{IsMade, IsRefusedFor, MayMake}
use Rattle.engine.proofs.inner.make.Goals as goal

on-range : (work : RangeWork) → kind_of (inner_node (range_call_of work)) ≡ kinds.Range
on-range (ranges.Fetch v r) = refl
on-range (ranges.Free v r batch) = refl

on-logical : (work : LogicalWork) → kind_of (inner_node (logical_call_of work)) ≡ kinds.VolumeLogical
on-logical (logicals.Deliver v batch) = refl
on-logical (logicals.Cull v) = refl

made-so : {E : Type 0} (b c : FilerBooks Files Job JobReply) (call : InnerCall) (work : BatchWork) → call ≡ batch_call_of work → (hand : Hand)
    → batch_hand_of work ≡ hand → (result : Result BatchReply E) → IfOk result (λ reply. IsMade b call hand (Moved reply) c)
    → IfOk result (λ reply. IsMade b (batch_call_of work) (batch_hand_of work) (Moved reply) c)
made-so b c call work same hand carried result made =
    subst (λ (k : InnerCall). IfOk result (λ reply. IsMade b k (batch_hand_of work) (Moved reply) c)) same
    (subst (λ (h : Hand). IfOk result (λ reply. IsMade b call h (Moved reply) c)) (sym carried) made)

-- ---- under a range

pub make_on-requires-clause-runs : goal.make_on-requires-clause-runs
make_on-requires-clause-runs c =
    is-inner batch_reply_of (range_call_of c.in-Range.work) (inner_of c.call-call.result) (range_hand_of c.in-Range.work)
    (sym (c.call-call.ensures ∙ ap batch_call_of c.in-Range.is))

pub make_on-requires-clause-may : goal.make_on-requires-clause-may
make_on-requires-clause-may c =
    subst (λ (k : InnerCall). MayMake (books c.args.desk.now) c.args.worker k (range_hand_of c.in-Range.work)) (sym c.call-call.ensures)
    (subst (λ (w : BatchWork). MayMake (books c.args.desk.now) c.args.worker (batch_call_of c.args.work) (batch_hand_of w)) c.in-Range.is c.requires.may)

pub make_on-requires-clause-kind : goal.make_on-requires-clause-kind
make_on-requires-clause-kind c =
    ap (λ (k : InnerCall). kind_of (inner_node k)) (c.call-call.ensures ∙ ap batch_call_of c.in-Range.is) ∙ on-range c.in-Range.work

pub returns-in-Range-clause-made : goal.returns-in-Range-clause-made
returns-in-Range-clause-made c =
    made-so (books c.args.desk.now) (books c.make_on.new.desk) (inner_of c.call-call.result) c.args.work (c.call-call.ensures)
    (range_hand_of c.in-Range.work) (ap batch_hand_of c.in-Range.is) c.make_on.result c.make_on.ensures.made

pub returns-in-Range-clause-refused : goal.returns-in-Range-clause-refused
returns-in-Range-clause-refused c =
    subst (λ (k : InnerCall). IfErr c.make_on.result (λ r. IsRefusedFor (books c.args.desk.now) k r.0)) c.call-call.ensures
    c.make_on.ensures.refused

pub returns-in-Range-clause-hand : goal.returns-in-Range-clause-hand
returns-in-Range-clause-hand c =
    subst (λ (h : Hand). IfErr c.make_on.result (λ r. r.1 ≡ h)) (sym (ap batch_hand_of c.in-Range.is)) c.make_on.ensures.hand

-- ---- under Logical

pub make_on-requires-in-Logical-clause-runs : goal.make_on-requires-in-Logical-clause-runs
make_on-requires-in-Logical-clause-runs c =
    is-inner batch_reply_of (logical_call_of c.in-Logical.work) (inner_of c.call-call.result) (logical_hand_of c.in-Logical.work)
    (sym (c.call-call.ensures ∙ ap batch_call_of c.in-Logical.is))

pub make_on-requires-in-Logical-clause-may : goal.make_on-requires-in-Logical-clause-may
make_on-requires-in-Logical-clause-may c =
    subst (λ (k : InnerCall). MayMake (books c.args.desk.now) c.args.worker k (logical_hand_of c.in-Logical.work)) (sym c.call-call.ensures)
    (subst (λ (w : BatchWork). MayMake (books c.args.desk.now) c.args.worker (batch_call_of c.args.work) (batch_hand_of w)) c.in-Logical.is c.requires.may)

pub make_on-requires-in-Logical-clause-kind : goal.make_on-requires-in-Logical-clause-kind
make_on-requires-in-Logical-clause-kind c =
    ap (λ (k : InnerCall). kind_of (inner_node k)) (c.call-call.ensures ∙ ap batch_call_of c.in-Logical.is) ∙ on-logical c.in-Logical.work

pub returns-in-Logical-clause-made : goal.returns-in-Logical-clause-made
returns-in-Logical-clause-made c =
    made-so (books c.args.desk.now) (books c.make_on-in-Logical.new.desk) (inner_of c.call-call.result) c.args.work (c.call-call.ensures)
    (logical_hand_of c.in-Logical.work) (ap batch_hand_of c.in-Logical.is) c.make_on-in-Logical.result c.make_on-in-Logical.ensures.made

pub returns-in-Logical-clause-refused : goal.returns-in-Logical-clause-refused
returns-in-Logical-clause-refused c =
    subst (λ (k : InnerCall). IfErr c.make_on-in-Logical.result (λ r. IsRefusedFor (books c.args.desk.now) k r.0)) c.call-call.ensures
    c.make_on-in-Logical.ensures.refused

pub returns-in-Logical-clause-hand : goal.returns-in-Logical-clause-hand
returns-in-Logical-clause-hand c =
    subst (λ (h : Hand). IfErr c.make_on-in-Logical.result (λ r. r.1 ≡ h)) (sym (ap batch_hand_of c.in-Logical.is)) c.make_on-in-Logical.ensures.hand
