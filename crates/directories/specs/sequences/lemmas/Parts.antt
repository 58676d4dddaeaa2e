-- What a part of a sequence has.
use Rattle.std.specs.Prelude.{◌≡◌, ℕ, ◌-◌, ◌<◌, ◌≤◌, List, Some}
use Rattle.std.specs.List.{slice_get}
use Rattle.std.proofs.Common.{sym, ◌∙◌, arith}
use Rattle.directories.specs.sequences.Values.{HasPositions}

-- it has fewer positions too
pub has-fewer : {T : Type 0} (all : List T) (low high first : ℕ) (items : List T) (lower higher : ℕ) → HasPositions all low high first items → low ≤ lower
    → higher ≤ high → HasPositions all lower higher first items
has-fewer all low high first items lower higher h a b = record {
  begins = let s = h.begins in omega (arith, s, a);
  ends = let s = h.ends in omega (arith, s, b);
  same = λ position l g. h.same position (omega (arith, a, l)) (omega (arith, b, g));
}

-- what is read at a position of it is in the sequence
pub read-there : {T : Type 0} (all : List T) (low high first : ℕ) (items : List T) (position : ℕ) (x : T)
    → HasPositions all low high first items → low ≤ position
    → position < high → slice_get items (position - first) ≡ Some x → slice_get all position ≡ Some x
read-there all low high first items position x h a b g = sym (h.same position a b) ∙ g
