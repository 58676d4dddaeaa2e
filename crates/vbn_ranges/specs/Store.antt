-- The words of a range as they are kept: 16 in place, or in levels.
use Rattle.std.specs.Prelude.{◌≡◌, ℕ, List, length}
use Rattle.vbn_ranges.specs.Levels.{AreLevels}
use Rattle.vbn_ranges.specs.declared.store.Store.{Store}
use Rattle.vbn_ranges.specs.declared.store.Store.TheVariants.{InPlace, InLevels}

-- its words
abbrev pub words_in : Store → List ℕ
words_in (InPlace words) = words
words_in (InLevels levels) = levels.words.items

-- what holds of it
abbrev pub IsStore : Store → Type 0
IsStore (InPlace words) = length words ≡ 16
IsStore (InLevels levels) = AreLevels levels
