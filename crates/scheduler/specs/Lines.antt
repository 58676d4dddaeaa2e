-- Lines of cells: those of a queue in the order of their numbers, each with the next.
use Rattle.std.specs.Prelude.{◌≡◌, ℕ, ◌+◌, ◌<◌, ◌≤◌, List, length, Option, Some, None, slice_set}
use Rattle.std.specs.List.{slice_get}

-- whether a cell is in a queue
abbrev pub IsIn : List (Option ℕ) → ℕ → ℕ → Type 0
IsIn cells queue cell = slice_get cells cell ≡ Some (Some queue)

-- the first of some cells from a number on, if there is one
abbrev pub IsFirstFrom : (ℕ → Type 0) → ℕ → Option ℕ → Type 0
IsFirstFrom Is low None = (j : ℕ) → low ≤ j → Is j → ⊥
IsFirstFrom Is low (Some k) = (low ≤ k) × Is k × ((j : ℕ) → low ≤ j → j < k → Is j → ⊥)

-- the last of some cells below a number, if there is one
abbrev pub IsLastBelow : (ℕ → Type 0) → ℕ → Option ℕ → Type 0
IsLastBelow Is high None = (j : ℕ) → j < high → Is j → ⊥
IsLastBelow Is high (Some k) = (k < high) × Is k × ((j : ℕ) → k < j → j < high → Is j → ⊥)

-- what is held at a place, if anything
abbrev pub held : Option (Option ℕ) → Option ℕ
held None = None
held (Some o) = o

-- what a table says at a number; nothing past its end
abbrev pub entry : List (Option ℕ) → ℕ → Option ℕ
entry table i = held (slice_get table i)

-- Tables tell the first and the last cell of each queue, and for each cell the next of its queue.
pub record AreLined (cells firsts lasts nexts : List (Option ℕ)) : Type 0 where
  pub first_size : length firsts ≡ 283
  pub last_size : length lasts ≡ 283
  pub next_size : length nexts ≡ length cells
  pub known : (queue cell : ℕ) → IsIn cells queue cell → queue < 283
  pub first : (queue : ℕ) → IsFirstFrom (IsIn cells queue) 0 (entry firsts queue)
  pub last : (queue : ℕ) → IsLastBelow (IsIn cells queue) (length cells) (entry lasts queue)
  pub next : (queue cell : ℕ) → IsIn cells queue cell → IsFirstFrom (IsIn cells queue) (cell + 1) (entry nexts cell)

-- the first cell of a queue, or the next after a cell, is now another
abbrev pub IsLinked : List (Option ℕ) → List (Option ℕ) → ℕ → Option ℕ → Option ℕ → List (Option ℕ) → List (Option ℕ) → Type 0
IsLinked first next queue None cell first' next' = (first' ≡ slice_set first queue cell) × (next' ≡ next)
IsLinked first next queue (Some before) cell first' next' = (first' ≡ first) × (next' ≡ slice_set next before cell)

-- the last cell of a queue, where no cell followed the one that leaves
abbrev pub IsEnded : List (Option ℕ) → ℕ → Option ℕ → Option ℕ → List (Option ℕ) → Type 0
IsEnded last queue before None last' = last' ≡ slice_set last queue before
IsEnded last queue before (Some next) last' = last' ≡ last
