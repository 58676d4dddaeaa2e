use Rattle.std.proofs.Common.{arith}
use Rattle.affinity.specs.Layout.{layout_of}
use Rattle.nfs_model.specs.Tree.{Serial}
use Rattle.parcels.specs.Sets.{serial_parcels}
use Rattle.affinity.specs.lemmas.Lawful.{few_nodes}
use Rattle.depot.specs.Words.{view}
use Rattle.depot.proofs.trial.Lent.{each-few, hand-opened}
use Rattle.depot.proofs.trial.lending.open.Goals as goal

pub new-requires-clause-invariant : goal.new-requires-clause-invariant
new-requires-clause-invariant c =
    each-few (layout_of c.in_ok-layout.layout) 7 (serial_parcels (layout_of c.in_ok-layout.layout) Serial c.in_ok-parcels.parcels)
    (few_nodes (layout_of c.in_ok-layout.layout) c.in_ok-layout.layout.lawful) (omega arith) c.in_ok-parcels.ensures.numbers

pub returns-in-Ok-clause-hand : goal.returns-in-Ok-clause-hand
returns-in-Ok-clause-hand c = hand-opened _ _ (view c.in-Ok.made.1) c.in-Ok.ensures.made.1
