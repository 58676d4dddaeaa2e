-- What a tree of items is seen as, and how high trees are.
use Rattle.std.specs.Prelude.{◌≡◌, ℕ, ◌+◌, ◌-◌, ◌<◌, ◌≤◌, max, List, [], length}
use Rattle.std.specs.List.{slice_get}

-- the items in order, and the number of levels
pub record TreeValue (T : Type 0) : Type 0 where
  pub items : List T
  pub height : ℕ

abbrev pub no_items : {T : Type 0} → TreeValue T
no_items = record { items = []; height = 0 }

-- neither height is more than this above the other
abbrev pub DifferByAtMost : ℕ → ℕ → ℕ → Type 0
DifferByAtMost by left right = (left ≤ right + by) × (right ≤ left + by)

-- the height of what is balanced anew over sides of these heights
pub record IsHeightOver (left : ℕ) (right : ℕ) (height : ℕ) : Type 0 where
  pub least : max left right ≤ height
  pub most : height ≤ max left right + 1
  pub kept : DifferByAtMost 1 left right → height ≡ max left right + 1

-- a height stays or is one more
abbrev pub MayRise : ℕ → ℕ → Type 0
MayRise old new = (old ≤ new) × (new ≤ old + 1)

-- a part of a sequence: the position that it begins at, and its items
pub record PartValue (T : Type 0) : Type 0 where
  pub first : ℕ
  pub items : List T

-- Items that begin at a position are those of a sequence between two positions.
pub record HasPositions {T : Type 0} (all : List T) (low : ℕ) (high : ℕ) (first : ℕ) (items : List T) : Type 0 where
  pub begins : first ≤ low
  pub ends : high ≤ first + length items
  pub same : (position : ℕ) → low ≤ position → position < high → slice_get items (position - first) ≡ slice_get all position
