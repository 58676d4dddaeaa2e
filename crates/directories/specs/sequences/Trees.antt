-- What a tree of chunks shows, and what holds of it.
use Rattle.std.specs.Prelude.{◌≡◌, ℕ, ◌+◌, ◌<◌, ◌≤◌, max, List, ◌++◌, length}
use Rattle.directories.specs.sequences.Values.{TreeValue, no_items, DifferByAtMost}
use Rattle.directories.specs.declared.sequences.tree.Root.{Root}
use Rattle.directories.specs.declared.sequences.tree.Root.TheVariants.{Empty, Fork}

-- the items of a chunk and of its sides
abbrev pub items_of : {T : Type 0} → TreeValue T → List T → TreeValue T → List T
items_of left items right = left.items ++ (items ++ right.items)

abbrev pub tree_of : {T : Type 0} → Root T → TreeValue T
tree_of Empty = no_items
tree_of (Fork n) = record { items = items_of n.value.left n.value.items.items n.value.right; height = n.value.height }

-- A chunk isn't empty, what is counted is right, and the heights of its sides differ by one at most, and neither is more than its items are.
pub record IsNode {T : Type 0} (left : TreeValue T) (items : List T) (right : TreeValue T) (before : ℕ) (count : ℕ) (height : ℕ) : Type 0 where
  pub some : 0 < length items
  pub start : before ≡ length left.items
  pub all : count ≡ length (items_of left items right)
  pub levels : height ≡ max left.height right.height + 1
  pub balanced : DifferByAtMost 1 left.height right.height
  pub left_low : left.height ≤ length left.items
  pub right_low : right.height ≤ length right.items

abbrev pub IsTree : {T : Type 0} → Root T → Type 0
IsTree Empty = Unit {0}
IsTree (Fork n) = IsNode n.value.left n.value.items.items n.value.right n.value.before n.value.count n.value.height
