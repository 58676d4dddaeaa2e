-- The stock as a list.
use Rattle.std.specs.Prelude.{◌≡◌, ℕ, false, ◌==◌, List, [], ◌∷◌}
use Rattle.std.specs.List.{list_any}

-- No number stands twice.
abbrev pub AreApart : List ℕ → Type 0
AreApart [] = Unit {0}
AreApart (b ∷ blocks) = (list_any (λ c. c == b) blocks ≡ false) × AreApart blocks
