-- A tree taken apart.
use Rattle.std.specs.Prelude.{◌≡◌, ◌+◌, ◌<◌, ◌^◌, max, List, ◌++◌, length, Option, Some, None}
use Rattle.directories.specs.sequences.Values.{TreeValue, no_items, DifferByAtMost, MayRise}
use Rattle.directories.specs.sequences.Trees.{items_of}
use Rattle.directories.specs.declared.sequences.tree.Parts.{Parts}
use Rattle.directories.specs.declared.sequences.tree.First.{First}

-- the items of a chunk
abbrev pub chunk_of : {T : Type 0} → Parts T → List T
chunk_of p = p.chunk.value.items.items

-- the items of all parts
abbrev pub all_of : {T : Type 0} → Parts T → List T
all_of p = items_of p.left (chunk_of p) p.right

-- These are the parts of a tree.
pub record IsParted {T : Type 0} (v : TreeValue T) (p : Parts T) : Type 0 where
  pub some : 0 < length (chunk_of p)
  pub items : v.items ≡ all_of p
  pub levels : v.height ≡ max p.left.height p.right.height + 1
  pub balanced : DifferByAtMost 1 p.left.height p.right.height
  pub fits : length v.items < 2 ^ 64

abbrev pub IsOpened : {T : Type 0} → TreeValue T → Option (Parts T) → Type 0
IsOpened v None = v ≡ no_items
IsOpened v (Some p) = IsParted v p

-- A chunk is the first of a tree, with the tree that is left.
pub record IsFirstOf {T : Type 0} (v : TreeValue T) (f : First T) : Type 0 where
  pub some : 0 < length f.chunk.value.items.items
  pub items : v.items ≡ f.chunk.value.items.items ++ f.rest.items
  pub height : MayRise f.rest.height v.height

abbrev pub IsFirst : {T : Type 0} → TreeValue T → Option (First T) → Type 0
IsFirst v None = v ≡ no_items
IsFirst v (Some f) = IsFirstOf v f
