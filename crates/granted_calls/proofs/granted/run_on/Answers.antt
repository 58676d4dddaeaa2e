use Rattle.std.proofs.Common.{sym, ap, ◌∙◌, subst}
use Rattle.nfs_model.specs.Tree.{Layout}
use Rattle.nfs_values.specs.declared.call.Call.{Call}
use Rattle.affinity.specs.Tree.{IsNode}
use Rattle.parcels.specs.Exact.{kind_in}
use Rattle.desk.specs.Any.{node_lent}
use Rattle.desk.specs.laws.Backing.{IsWhole}
use Rattle.service.specs.Running.{AsksFor, IsRunAt}
use Rattle.service.specs.declared.outcome.Outcome.TheVariants.{Replied}
use Rattle.granted_calls.specs.Filers.{layout_in}
use Rattle.granted_calls.proofs.Grants.{granted}
use Rattle.granted_calls.proofs.Runs.{ran-from}
use Rattle.granted_calls.proofs.granted.run_on.Goals as goal

pub work_node-requires-clause-node : goal.work_node-requires-clause-node
work_node-requires-clause-node g c =
    let L = layout_in c.args.filer.now in
    subst (λ (x : Layout). IsNode x (node_lent x c.args.grant.now).affinity) (sym c.layout-layout.ensures)
    (subst (λ a. IsNode L a) (sym c.requires.lent.granted.affinity) c.requires.placed.node)

pub work_node-requires-clause-whole : goal.work_node-requires-clause-whole
work_node-requires-clause-whole g c =
    subst (λ (x : Layout). IsWhole kind_in x (node_lent x c.args.grant.now)) (sym c.layout-layout.ensures) (record { exact = c.requires.lent.granted.exact })

pub work_node-requires-clause-asks : goal.work_node-requires-clause-asks
work_node-requires-clause-asks g c =
    let L = layout_in c.args.filer.now in
    let m = c.args.envelope.now in
    let lent = c.requires.lent in
    let l = node_lent L c.args.grant.now in
    let here = lent.granted.affinity in
    subst (λ (x : Layout). AsksFor c.asked.result.0.now x (node_lent x c.args.grant.now).affinity (node_lent x c.args.grant.now).parcels)
    (sym c.layout-layout.ensures)
    (subst (λ (k : Call). AsksFor k L l.affinity l.parcels) (sym c.asked.ensures.call) (
      subst (λ a. IsRunAt L m.call a) (sym here) c.requires.placed.run,
      granted L l.affinity (subst (λ a. IsNode L a) (sym here) c.requires.placed.node) lent.before lent.tree l.parcels lent.granted.after,
    ))

pub returns-in-Replied : goal.returns-in-Replied
returns-in-Replied g c = record {
  ran = record {
    outcome = c.work_node.result;
    says = c.in-Replied.is ∙ ap Replied (sym c.tell.ensures);
    ran = ran-from (layout_in c.args.filer.now) _ c.layout-layout.ensures c.args.envelope.now c.asked.result.0.now c.asked.result.1.now
        c.asked.ensures.call c.asked.ensures.caller c.args.moment c.work_node.result (λ (x : Layout). node_lent x c.args.grant.now)
        (λ (x : Layout). node_lent x c.work_node.new.node) c.work_node.ensures.done c.work_node.ensures.whole;
  };
}

pub returns-in-Starved : goal.returns-in-Starved
returns-in-Starved g c = record {
  ran = record {
    outcome = c.work_node.result;
    says = (c.in-Starved.is, c.tell_starved.ensures);
    ran = ran-from (layout_in c.args.filer.now) _ c.layout-layout.ensures c.args.envelope.now c.asked.result.0.now c.asked.result.1.now
        c.asked.ensures.call c.asked.ensures.caller c.args.moment c.work_node.result (λ (x : Layout). node_lent x c.args.grant.now)
        (λ (x : Layout). node_lent x c.work_node.new.node) c.work_node.ensures.done c.work_node.ensures.whole;
  };
}

pub returns-in-Moved : goal.returns-in-Moved
returns-in-Moved g c = record {
  ran = record {
    outcome = c.work_node.result;
    says = c.in-Moved.is;
    ran = ran-from (layout_in c.args.filer.now) _ c.layout-layout.ensures c.args.envelope.now c.asked.result.0.now c.asked.result.1.now
        c.asked.ensures.call c.asked.ensures.caller c.args.moment c.work_node.result (λ (x : Layout). node_lent x c.args.grant.now)
        (λ (x : Layout). node_lent x c.work_node.new.node) c.work_node.ensures.done c.work_node.ensures.whole;
  };
}
