use Rattle.std.proofs.Common.{◌≡◌, ap, sym, ◌∙◌, subst}
use Rattle.affinity.specs.declared.affinity.Kind.TheVariants as kinds
use Rattle.affinity.specs.Tree.{IsNode}
use Rattle.depot.specs.Words.{view, IsNodeOf}
use Rattle.filer_state.specs.state.Jobs.{InnerCall, inner_node}
use Rattle.service.specs.Jobs.{batch_reply_of, inner_of}
use Rattle.service.specs.Works.{range_call_of, range_hand_of, logical_call_of, logical_hand_of, batch_call_of, batch_hand_of}
use Rattle.service.specs.declared.works.BatchWork.{BatchWork}
use Rattle.service.specs.lemmas.Inner.{is-inner}
use Rattle.turns.specs.Carries.{node_tried, HasCarried, MayCarry}
use Rattle.granted_calls.specs.Filers.{layout_in}
use Rattle.turns.proofs.Ran.{range-node, logical-node}
use Rattle.turns.proofs.inner.carry.Goals as goal

-- ---- under a range

pub carry_on-requires-clause-runs : goal.carry_on-requires-clause-runs
carry_on-requires-clause-runs c =
    is-inner batch_reply_of (range_call_of c.in-Range.work) (inner_of c.args.call) (range_hand_of c.in-Range.work)
    (sym (c.requires.call ∙ ap batch_call_of c.in-Range.is))

pub carry_on-requires-clause-looks : goal.carry_on-requires-clause-looks
carry_on-requires-clause-looks c = record { finds = λ L a f. tt; leaves = λ L a f looked f' h. h }

pub carry_on-requires-clause-may : goal.carry_on-requires-clause-may
carry_on-requires-clause-may c =
    subst (λ (w : BatchWork). MayCarry (layout_in c.args.filer.now) (view c.args.seat.now) (inner_of c.args.call) (batch_hand_of w)) c.in-Range.is
    c.requires.may

pub carry_on-requires-clause-kind : goal.carry_on-requires-clause-kind
carry_on-requires-clause-kind c =
    let L = layout_in c.args.filer.now in
    let same : inner_of c.args.call ≡ range_call_of c.in-Range.work = c.requires.call ∙ ap batch_call_of c.in-Range.is in
    subst (λ (k : InnerCall). IsNodeOf L kinds.Range (node_tried k)) (sym same)
    (range-node L c.in-Range.work (subst (λ (k : InnerCall). IsNode L (inner_node k)) same c.requires.may.fits.node))

pub returns-in-Range-clause-carried : goal.returns-in-Range-clause-carried
returns-in-Range-clause-carried c =
    subst (λ (w : BatchWork). HasCarried (layout_in c.args.filer.now) (view c.args.seat.now) (inner_of c.args.call) (batch_hand_of w) c.carry_on.result
    (view c.carry_on.new.seat)) (sym c.in-Range.is) c.carry_on.ensures.carried

-- ---- under Logical

pub carry_on-requires-in-Logical-clause-runs : goal.carry_on-requires-in-Logical-clause-runs
carry_on-requires-in-Logical-clause-runs c =
    is-inner batch_reply_of (logical_call_of c.in-Logical.work) (inner_of c.args.call) (logical_hand_of c.in-Logical.work)
    (sym (c.requires.call ∙ ap batch_call_of c.in-Logical.is))

pub carry_on-requires-in-Logical-clause-looks : goal.carry_on-requires-in-Logical-clause-looks
carry_on-requires-in-Logical-clause-looks c = record { finds = λ L a f. tt; leaves = λ L a f looked f' h. h }

pub carry_on-requires-in-Logical-clause-may : goal.carry_on-requires-in-Logical-clause-may
carry_on-requires-in-Logical-clause-may c =
    subst (λ (w : BatchWork). MayCarry (layout_in c.args.filer.now) (view c.args.seat.now) (inner_of c.args.call) (batch_hand_of w)) c.in-Logical.is
    c.requires.may

pub carry_on-requires-in-Logical-clause-kind : goal.carry_on-requires-in-Logical-clause-kind
carry_on-requires-in-Logical-clause-kind c =
    let L = layout_in c.args.filer.now in
    let same : inner_of c.args.call ≡ logical_call_of c.in-Logical.work = c.requires.call ∙ ap batch_call_of c.in-Logical.is in
    subst (λ (k : InnerCall). IsNodeOf L kinds.VolumeLogical (node_tried k)) (sym same)
    (logical-node L c.in-Logical.work (subst (λ (k : InnerCall). IsNode L (inner_node k)) same c.requires.may.fits.node))

pub returns-in-Logical-clause-carried : goal.returns-in-Logical-clause-carried
returns-in-Logical-clause-carried c =
    subst (λ (w : BatchWork). HasCarried (layout_in c.args.filer.now) (view c.args.seat.now) (inner_of c.args.call) (batch_hand_of w)
    c.carry_on-in-Logical.result (view c.carry_on-in-Logical.new.seat)) (sym c.in-Logical.is) c.carry_on-in-Logical.ensures.carried
