use Rattle.std.proofs.Common.{sym, subst}
use Rattle.nfs_model.specs.Parts.{Empty, Fresh}
use Rattle.affinity.specs.Affinity.{affinity_of}
use Rattle.affinity.specs.Layout.{layout_of}
use Rattle.parcels.specs.Sets.{logical_parcels}
use Rattle.parcels.specs.lemmas.Exactly.{logical-exact}
use Rattle.service.specs.Inner.{AsksForInner, InnerHasRun}
use Rattle.service.specs.Jobs.{batch_reply_of}
use Rattle.service.specs.Works.{logical_call_of, logical_hand_of}
use Rattle.service.specs.declared.works.LogicalWork.{LogicalWork}
use Rattle.service.proofs.Handed.{cull-runs, deliver-asks, deliver-runs}
use Rattle.service.proofs.inner.LogicalWorkWorkOnParcelFilesLogicalNodeBatchReplyUndone.work_on.Goals as goal

pub deliver_from-requires : goal.deliver_from-requires
deliver_from-requires c =
    let L = layout_of c.args.arg2.now in
    let a = affinity_of c.args.arg3 in
    let old = c.args.held.now in
    let asks = subst (λ (k : LogicalWork). AsksForInner (logical_call_of k) (logical_hand_of k) L a (logical_parcels L a old)) c.in-Deliver.is
    c.requires.asks in
    deliver-asks L c.args.arg2.now.lawful c.in-Deliver.volume.0 a asks.0 c.requires.node (Fresh c.in-Deliver.volume.0 c.in-Deliver.batch) asks.1
    old asks.2

pub returns-in-Deliver-clause-exact : goal.returns-in-Deliver-clause-exact
returns-in-Deliver-clause-exact c =
    logical-exact (layout_of c.args.arg2.now) (affinity_of c.args.arg3) c.args.held.now c.deliver_from.new.held c.deliver_from.ensures.alike c.requires.exact

pub returns-in-Deliver-clause-does : goal.returns-in-Deliver-clause-does
returns-in-Deliver-clause-does c =
    let L = layout_of c.args.arg2.now in
    let a = affinity_of c.args.arg3 in
    let old = c.args.held.now in
    let new = c.deliver_from.new.held in
    let outcome = c.deliver_from.result in
    let asks = subst (λ (k : LogicalWork). AsksForInner (logical_call_of k) (logical_hand_of k) L a (logical_parcels L a old)) c.in-Deliver.is
    c.requires.asks in
    subst (λ (k : LogicalWork). InnerHasRun batch_reply_of (logical_call_of k) (logical_hand_of k) L a (logical_parcels L a old) outcome
    (logical_parcels L a new)) (sym c.in-Deliver.is)
    (deliver-runs L c.args.arg2.now.lawful c.in-Deliver.volume.0 a asks.0 c.requires.node (Fresh c.in-Deliver.volume.0 c.in-Deliver.batch) asks.1
    old new asks.2 outcome c.deliver_from.ensures.unless c.deliver_from.ensures.runs)

pub returns-in-Cull-clause-exact : goal.returns-in-Cull-clause-exact
returns-in-Cull-clause-exact c =
    logical-exact (layout_of c.args.arg2.now) (affinity_of c.args.arg3) c.args.held.now c.cull_into.new.held c.cull_into.ensures.alike c.requires.exact

pub returns-in-Cull-clause-does : goal.returns-in-Cull-clause-does
returns-in-Cull-clause-does c =
    let L = layout_of c.args.arg2.now in
    let a = affinity_of c.args.arg3 in
    let old = c.args.held.now in
    let new = c.cull_into.new.held in
    let outcome = c.cull_into.result in
    let asks = subst (λ (k : LogicalWork). AsksForInner (logical_call_of k) (logical_hand_of k) L a (logical_parcels L a old)) c.in-Cull.is
    c.requires.asks in
    subst (λ (k : LogicalWork). InnerHasRun batch_reply_of (logical_call_of k) (logical_hand_of k) L a (logical_parcels L a old) outcome
    (logical_parcels L a new)) (sym c.in-Cull.is)
    (cull-runs L c.args.arg2.now.lawful c.in-Cull.volume.0 a asks.0 c.requires.node Empty asks.1 old new asks.2 outcome
    c.cull_into.ensures.unless c.cull_into.ensures.runs)
