-- Marks on the block numbers of a range.
use Rattle.std.specs.Prelude.{Bool, ◌≡◌, refl, ℕ, ◌/◌, ◌*◌, true, List, take, min}
use Rattle.std.specs.Coded.{Coded, code_by, coded×, coded_ℕ}
use Rattle.std.specs.Ordering.{nat_cmp}
use Rattle.std.specs.FinSet as sets
use Rattle.std.specs.FinSet.{FinSet, contains, from_list}
use Rattle.nfs_model.specs.Parts.{most_carried}
use Rattle.nfs_model.specs.Moves.{in_range}
use Rattle.nfs_model.specs.volume.Ranges.{RangeValue, range_numbers, with_numbers, without_numbers}
use Rattle.vbn_ranges.specs.Words.{set_of}

-- a range of this many blocks, and which of its numbers are marked
pub record MarksValue : Type 0 where
  pub range_blocks : ℕ
  pub range : ℕ
  pub set : FinSet nat_cmp

abbrev pub coded_marks : Coded MarksValue
coded_marks =
    code_by ((ℕ × ℕ) × FinSet nat_cmp) (coded× (coded× coded_ℕ coded_ℕ) (sets.code coded_ℕ)) (λ m. ((m.range_blocks, m.range), m.set))
    (λ p. record { range_blocks = p.0.0; range = p.0.1; set = p.1 }) (λ _. refl)

-- the marks that words have
abbrev pub marks_of : (size range : ℕ) → List ℕ → MarksValue
marks_of size range words = record { range_blocks = size; range = range; set = set_of (size * range) words }

-- no number marked
abbrev pub no_marks : (size range : ℕ) → MarksValue
no_marks size range = record { range_blocks = size; range = range; set = sets.empty }

-- each number marked
abbrev pub all_marks : (size range : ℕ) → MarksValue
all_marks size range = record { range_blocks = size; range = range; set = from_list (range_numbers size range) }

-- at most n of the marked numbers, and 64, the lowest
abbrev pub lowest_marked : ℕ → MarksValue → List ℕ
lowest_marked n m = take (min n most_carried) (in_range m.range_blocks m.range m.set)

-- numbers marked
abbrev pub marked : List ℕ → MarksValue → MarksValue
marked blocks m = record m { set = with_numbers blocks m.set }

-- numbers marked no longer
abbrev pub unmarked : List ℕ → MarksValue → MarksValue
unmarked blocks m = record m { set = without_numbers blocks m.set }

-- The marked numbers are of the range.
abbrev pub IsMarks : MarksValue → Type 0
IsMarks m = (b : ℕ) → contains m.set b ≡ true → b / m.range_blocks ≡ m.range

-- the range whose free numbers are marked
abbrev pub range_value : Bool → MarksValue → RangeValue
range_value is_used marks =
    record { range_blocks = marks.range_blocks; number = marks.range; is_used = is_used; free = marks.set }
