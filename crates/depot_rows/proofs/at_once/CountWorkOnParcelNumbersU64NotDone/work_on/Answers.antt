use Rattle.affinity.specs.Affinity.{affinity_of}
use Rattle.affinity.specs.Layout.{layout_of}
use Rattle.depot_rows.proofs.at_once.CountWorkOnParcelNumbersU64NotDone.work_on.Goals as goal

pub returns-in-Up-clause-exact : goal.returns-in-Up-clause-exact
returns-in-Up-clause-exact g c = c.add_one.ensures.exact (layout_of c.args.arg2.now) (affinity_of c.args.arg3) c.requires.exact

pub returns-in-Up-clause-does : goal.returns-in-Up-clause-does
returns-in-Up-clause-does g c = c.add_one.ensures.added (layout_of c.args.arg2.now) (affinity_of c.args.arg3)
