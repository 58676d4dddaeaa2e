use Rattle.std.proofs.Common.{sym, subst}
use Rattle.nfs_model.specs.Parts.{Empty, Dead}
use Rattle.affinity.specs.Affinity.{affinity_of}
use Rattle.affinity.specs.Layout.{layout_of}
use Rattle.parcels.specs.Sets.{range_parcels}
use Rattle.parcels.specs.lemmas.Exactly.{range-exact}
use Rattle.service.specs.Inner.{AsksForInner, InnerHasRun}
use Rattle.service.specs.Jobs.{batch_reply_of}
use Rattle.service.specs.Works.{range_call_of, range_hand_of}
use Rattle.service.specs.declared.works.RangeWork.{RangeWork}
use Rattle.service.proofs.Handed.{fetch-runs, free-asks, free-runs}
use Rattle.service.proofs.inner.RangeWorkWorkOnParcelFilesRangeNodeBatchReplyUndone.work_on.Goals as goal

pub free_from-requires : goal.free_from-requires
free_from-requires c =
    let L = layout_of c.args.arg2.now in
    let a = affinity_of c.args.arg3 in
    let old = c.args.held.now in
    let asks = subst (λ (k : RangeWork). AsksForInner (range_call_of k) (range_hand_of k) L a (range_parcels L a old)) c.in-Free.is c.requires.asks in
    free-asks L c.args.arg2.now.lawful c.in-Free.volume.0 c.in-Free.range a asks.0 c.requires.node (Dead c.in-Free.volume.0 c.in-Free.batch) asks.1
    old asks.2

pub returns-in-Fetch-clause-exact : goal.returns-in-Fetch-clause-exact
returns-in-Fetch-clause-exact c =
    range-exact (layout_of c.args.arg2.now) (affinity_of c.args.arg3) c.args.held.now c.fetch_into.new.held tt c.requires.exact

pub returns-in-Fetch-clause-does : goal.returns-in-Fetch-clause-does
returns-in-Fetch-clause-does c =
    let L = layout_of c.args.arg2.now in
    let a = affinity_of c.args.arg3 in
    let old = c.args.held.now in
    let new = c.fetch_into.new.held in
    let outcome = c.fetch_into.result in
    let asks = subst (λ (k : RangeWork). AsksForInner (range_call_of k) (range_hand_of k) L a (range_parcels L a old)) c.in-Fetch.is c.requires.asks in
    subst (λ (k : RangeWork). InnerHasRun batch_reply_of (range_call_of k) (range_hand_of k) L a (range_parcels L a old) outcome (range_parcels L a new))
    (sym c.in-Fetch.is)
    (fetch-runs L c.args.arg2.now.lawful c.in-Fetch.volume.0 c.in-Fetch.range a asks.0 c.requires.node Empty asks.1 old new asks.2 outcome
    c.fetch_into.ensures.unless c.fetch_into.ensures.runs)

pub returns-in-Free-clause-exact : goal.returns-in-Free-clause-exact
returns-in-Free-clause-exact c =
    range-exact (layout_of c.args.arg2.now) (affinity_of c.args.arg3) c.args.held.now c.free_from.new.held tt c.requires.exact

pub returns-in-Free-clause-does : goal.returns-in-Free-clause-does
returns-in-Free-clause-does c =
    let L = layout_of c.args.arg2.now in
    let a = affinity_of c.args.arg3 in
    let old = c.args.held.now in
    let new = c.free_from.new.held in
    let outcome = c.free_from.result in
    let asks = subst (λ (k : RangeWork). AsksForInner (range_call_of k) (range_hand_of k) L a (range_parcels L a old)) c.in-Free.is c.requires.asks in
    subst (λ (k : RangeWork). InnerHasRun batch_reply_of (range_call_of k) (range_hand_of k) L a (range_parcels L a old) outcome (range_parcels L a new))
    (sym c.in-Free.is)
    (free-runs L c.args.arg2.now.lawful c.in-Free.volume.0 c.in-Free.range a asks.0 c.requires.node (Dead c.in-Free.volume.0 c.in-Free.batch) asks.1
    old new asks.2 outcome c.free_from.ensures.unless (λ is. c.free_from.ensures.runs))
