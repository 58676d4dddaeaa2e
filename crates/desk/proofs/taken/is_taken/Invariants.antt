use Rattle.affinity.specs.Affinity.{affinity_of}
use Rattle.affinity.specs.Layout.{layout_of}
use Rattle.desk.specs.laws.lemmas.Taken.{NoneBefore}
use Rattle.desk.specs.Slots.{all_granted, shown}
use Rattle.desk.proofs.taken.is_taken.Given as goal

abbrev pub invariant-loop-worker : goal.invariant-loop-worker
invariant-loop-worker g l = NoneBefore shown (layout_of l.layout) (all_granted l.slots) (affinity_of l.affinity) l.worker
