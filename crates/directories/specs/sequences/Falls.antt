-- Each side of a node is lower than the node.
use Rattle.std.specs.Prelude.{◌≤◌, max}
use Rattle.std.proofs.Common.{arith}
use Rattle.directories.specs.declared.sequences.tree.Root.{Root}
use Rattle.directories.specs.declared.sequences.tree.Root.TheVariants.{Empty, Fork}
use Rattle.directories.specs.declared.sequences.tree.Tree.TheDeep.{deep-Root}
use Rattle.directories.specs.sequences.Trees.{tree_of, IsTree}

pub sides_lower : {T : Type 0} (n : Root T) → IsTree n → max (deep-Root T n) 0 ≤ (tree_of n).height
sides_lower Empty h = omega arith
sides_lower (Fork n) h = omega (arith, h)
