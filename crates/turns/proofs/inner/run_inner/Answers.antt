use Rattle.std.proofs.Common.{◌≡◌, sym, ap, ◌∙◌, subst}
use Rattle.nfs_model.specs.Tree.{Layout, Affinity}
use Rattle.affinity.specs.Affinity.{affinity_of}
use Rattle.affinity.specs.Layout.{layout_of}
use Rattle.affinity.specs.Tree.{IsNode}
use Rattle.parcels.specs.Exact.{kind_in}
use Rattle.depot.specs.Words.{view, IsNodeOf}
use Rattle.desk.specs.Any.{node_lent}
use Rattle.desk.specs.laws.Backing.{IsWhole, IsGranted, IsDone}
use Rattle.filer_state.specs.state.Jobs.{batches_in, inner_node}
use Rattle.service.specs.Inner.{InnerHasRun}
use Rattle.service.specs.Jobs.{batch_reply_of, inner_of}
use Rattle.turns.specs.Stocks.{told_by, HasLooked}
use Rattle.granted_calls.specs.Served.{filer_behaviour}
use Rattle.granted_calls.specs.Filers.{layout_in}
use Rattle.turns.proofs.Looked.{done-still, told-still}
use Rattle.turns.proofs.Ran.{node-of-call, granted-hand}
use Rattle.turns.proofs.inner.run_inner.Goals as goal

pub begin_node-requires-clause-node : goal.begin_node-requires-clause-node
begin_node-requires-clause-node g c = subst (λ a. IsNodeOf (layout_in c.args.filer.now) g.N.Node.KIND a) (sym c.node_of.ensures) c.requires.kind

pub work_on_node-outcome-requires-clause-node : goal.work_on_node-outcome-requires-clause-node
work_on_node-outcome-requires-clause-node g c =
    let L = layout_in c.args.filer.now in
    let at : affinity_of c.node_of.result ≡ inner_node (inner_of c.args.call) = ap affinity_of c.node_of.ensures ∙ node-of-call (inner_of c.args.call) in
    let begun = c.in-Ok.ensures.granted in
    subst (λ (x : Layout). IsNode x (node_lent x c.in-Ok.grant).affinity) (sym c.layout-layout.ensures)
    (subst (λ a. IsNode L a) (sym (begun.affinity ∙ at)) c.requires.may.fits.node)

pub work_on_node-outcome-requires-clause-whole : goal.work_on_node-outcome-requires-clause-whole
work_on_node-outcome-requires-clause-whole g c =
    let begun = c.in-Ok.ensures.granted in
    subst (λ (x : Layout). IsWhole kind_in x (node_lent x c.in-Ok.grant)) (sym c.layout-layout.ensures) (record { exact = begun.exact })

pub work_on_node-outcome-requires-clause-asks : goal.work_on_node-outcome-requires-clause-asks
work_on_node-outcome-requires-clause-asks g c =
    let L = layout_in c.args.filer.now in
    let call = inner_of c.args.call in
    let at : affinity_of c.node_of.result ≡ inner_node call = ap affinity_of c.node_of.ensures ∙ node-of-call call in
    let begun = c.in-Ok.ensures.granted in
    let l = node_lent L c.in-Ok.grant in
    let hand = g.W.HandWork.carried c.args.work in
    subst (λ (x : Layout). g.W.WorkOn.asks c.args.work x (node_lent x c.in-Ok.grant).affinity (node_lent x c.in-Ok.grant).parcels)
    (sym c.layout-layout.ensures) (c.requires.runs.finds L l.affinity l.parcels (
      begun.affinity ∙ at,
      c.requires.may.fits.fits,
      granted-hand L c.args.filer.now.depot.layout.lawful l.affinity
          (subst (λ a. IsNode L a) (sym (begun.affinity ∙ at)) c.requires.may.fits.node) (view c.args.seat.now) c.requires.seat.1.0 c.requires.may.opened
          l.parcels (batches_in hand) c.requires.may.own begun.after,
    ))

-- ---- it is looked at

pub work_on_node-looked-requires-clause-node : goal.work_on_node-looked-requires-clause-node
work_on_node-looked-requires-clause-node g c =
    let L = layout_in c.args.filer.now in
    let at : affinity_of c.node_of.result ≡ inner_node (inner_of c.args.call) = ap affinity_of c.node_of.ensures ∙ node-of-call (inner_of c.args.call) in
    let begun = c.in-Ok.ensures.granted in
    subst (λ (a : Affinity). IsNode (layout_of c.layout-layout.result.now) a) (sym c.work_on_node-outcome.ensures.done.affinity)
    (subst (λ (x : Layout). IsNode x (node_lent x c.in-Ok.grant).affinity) (sym c.layout-layout.ensures)
    (subst (λ a. IsNode L a) (sym (begun.affinity ∙ at)) c.requires.may.fits.node))

pub work_on_node-looked-requires-clause-whole : goal.work_on_node-looked-requires-clause-whole
work_on_node-looked-requires-clause-whole g c = c.work_on_node-outcome.ensures.whole

pub work_on_node-looked-requires-clause-asks : goal.work_on_node-looked-requires-clause-asks
work_on_node-looked-requires-clause-asks g c =
    let L = layout_of c.layout-layout.result.now in
    let l = node_lent L c.work_on_node-outcome.new.node in
    c.requires.looks.finds L l.affinity l.parcels

pub returns-clause-ran : goal.returns-clause-ran
returns-clause-ran g c =
    let L = layout_in c.args.filer.now in
    let call = inner_of c.args.call in
    let at : affinity_of c.node_of.result ≡ inner_node call = ap affinity_of c.node_of.ensures ∙ node-of-call call in
    let before = node_lent L c.in-Ok.grant in
    let l = node_lent L c.work_on_node-outcome.new.node in
    let m = node_lent L c.work_on_node-looked.new.node in
    let hand = g.W.HandWork.carried c.args.work in
    let worked : IsDone (g.W.WorkOn.does c.args.work) L before c.work_on_node-outcome.result l =
    subst (λ (x : Layout). IsDone (g.W.WorkOn.does c.args.work) x (node_lent x c.in-Ok.grant) c.work_on_node-outcome.result
    (node_lent x c.work_on_node-outcome.new.node)) c.layout-layout.ensures c.work_on_node-outcome.ensures.done in
    let done : IsDone (InnerHasRun batch_reply_of call hand) L before c.work_on_node-outcome.result l = record {
      affinity = worked.affinity;
      did = c.requires.runs.leaves L before.affinity before.parcels c.work_on_node-outcome.result l.parcels worked.did;
    } in
    let told = told_by c.work_on_node-looked.result in
    let tells : IsDone (g.S.WorkOn.does c.args.look) L l c.work_on_node-looked.result m =
    subst (λ (x : Layout). IsDone (g.S.WorkOn.does c.args.look) x (node_lent x c.work_on_node-outcome.new.node) c.work_on_node-looked.result
    (node_lent x c.work_on_node-looked.new.node)) c.layout-layout.ensures c.work_on_node-looked.ensures.done in
    let looked : IsDone HasLooked L l told m = record {
      affinity = tells.affinity;
      did = c.requires.looks.leaves L l.affinity l.parcels c.work_on_node-looked.result m.parcels tells.did;
    } in
    record {
      before = before;
      granted = subst (λ a. IsGranted kind_in filer_behaviour L (view c.args.seat.now) a before (view c.begin_node.new.seat)) at c.in-Ok.ensures.granted;
      done = done-still L (InnerHasRun batch_reply_of call hand) c.work_on_node-outcome.result told before l m done looked;
      whole = subst (λ (x : Layout). IsWhole kind_in x (node_lent x c.work_on_node-looked.new.node)) c.layout-layout.ensures
          c.work_on_node-looked.ensures.whole;
      looked = c.told_by-told.ensures
          ∙ told-still L (InnerHasRun batch_reply_of call hand) c.work_on_node-outcome.result told before l m done looked;
    }
