-- Numbers as the bits of words of 64 bits.
use Rattle.std.specs.Prelude.{ℕ, zero, suc, ◌+◌, ◌/◌, ◌%◌, ◌==◌, Bool, List, [], ◌∷◌, ◌++◌, slice_index, if◌then◌else◌}
use Rattle.std.specs.Int.{bit_at}
use Rattle.std.specs.Ordering.{nat_cmp}
use Rattle.std.specs.FinSet.{FinSet, from_list}

-- the numbers of the lowest bits of a word that are set, where the lowest has the number first
unfoldable pub bits_from : (size first word : ℕ) → List ℕ
bits_from zero first word = []
bits_from (suc size) first word =
    if word % 2 == 1 then first ∷ bits_from size (first + 1) (word / 2)
    else bits_from size (first + 1) (word / 2)

-- the numbers of the bits of words that are set, where the lowest of the first has the number first
abbrev pub members : ℕ → List ℕ → List ℕ
members first [] = []
members first (word ∷ words) = bits_from 64 first word ++ members (first + 64) words

-- these as a set
abbrev pub set_of : ℕ → List ℕ → FinSet nat_cmp
set_of first words = from_list (members first words)

-- whether a bit of words is set
abbrev pub has_bit : List ℕ → ℕ → Bool
has_bit words place = bit_at (slice_index words (place / 64)) (place % 64) == 1
