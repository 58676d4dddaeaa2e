-- Affinities of the code as the model has them, their kinds and the text that is printed.
use Rattle.std.specs.Prelude.{ℕ, List, ◌++◌, codes}
use Rattle.std.specs.Fmt.{decimal}
use Rattle.nfs_model.specs.Tree as trees
use Rattle.affinity.specs.declared.affinity.Affinity.{Affinity}
use Rattle.affinity.specs.declared.affinity.Affinity.TheVariants.{Serial, Aggregate, Volume, VolumeLogical, Stripe, VolumeVbn, Range}
use Rattle.affinity.specs.declared.affinity.CallNode.{CallNode}
use Rattle.affinity.specs.declared.affinity.CallNode.TheVariants as homes
use Rattle.affinity.specs.declared.affinity.Kind.{Kind}
use Rattle.affinity.specs.declared.affinity.Kind.TheVariants as kinds

-- an affinity, as the model has it
abbrev pub affinity_of : Affinity → trees.Affinity
affinity_of Serial = trees.Serial
affinity_of (Aggregate aggregate) = trees.Aggregate aggregate
affinity_of (Volume volume) = trees.Volume volume
affinity_of (VolumeLogical volume) = trees.Logical volume
affinity_of (Stripe volume stripe) = trees.Stripe volume stripe
affinity_of (VolumeVbn volume) = trees.Vbn volume
affinity_of (Range volume range) = trees.Range volume range

-- a node at which calls run, among all nodes
abbrev pub call_affinity : CallNode → Affinity
call_affinity (homes.Stripe volume stripe) = Stripe volume stripe
call_affinity (homes.Logical volume) = VolumeLogical volume
call_affinity (homes.Volume volume) = Volume volume
call_affinity (homes.Aggregate aggregate) = Aggregate aggregate
call_affinity homes.Serial = Serial

-- the same, as the model has it
abbrev pub call_node : CallNode → trees.Affinity
call_node home = affinity_of (call_affinity home)

-- the kind of an affinity
abbrev pub kind_of : trees.Affinity → Kind
kind_of trees.Serial = kinds.Serial
kind_of (trees.Aggregate aggregate) = kinds.Aggregate
kind_of (trees.Volume volume) = kinds.Volume
kind_of (trees.Logical volume) = kinds.VolumeLogical
kind_of (trees.Stripe volume stripe) = kinds.Stripe
kind_of (trees.Vbn volume) = kinds.VolumeVbn
kind_of (trees.Range volume range) = kinds.Range

-- a name and a number after a space
abbrev pub named : List ℕ → ℕ → List ℕ
named name number = name ++ codes " " ++ decimal number

-- the name of an affinity, as scripts print it (our profile)
abbrev pub affinity_text : Affinity → List ℕ
affinity_text Serial = codes "serial"
affinity_text (Aggregate aggregate) = named (codes "aggregate") aggregate
affinity_text (Volume volume) = named (codes "volume") volume
affinity_text (VolumeLogical volume) = named (codes "logical") volume
affinity_text (Stripe volume stripe) = named (codes "stripe") volume ++ codes " " ++ decimal stripe
affinity_text (VolumeVbn volume) = named (codes "vbn") volume
affinity_text (Range volume range) = named (codes "range") volume ++ codes " " ++ decimal range
