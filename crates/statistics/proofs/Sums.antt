-- Sums that wrap, one count after another.
use Rattle.std.proofs.Common.{◌≡◌, ◌∙◌, ℕ, ◌+◌, ◌<◌, ◌≤◌, List, length, get_or, take, sum, ap, sym, arith}
use Rattle.std.proofs.lemmas.List.{get_or-take}
use Rattle.std.proofs.lemmas.List.Sums.{sum_by_more}

-- the sum of one count more, of counts before a place
pub sum_before : (xs : List ℕ) (n i x d : ℕ) → i < n → n ≤ length xs → x ≡ get_or (take n xs) i d → sum (take (i + 1) xs) ≡ sum (take i xs) + x
sum_before xs n i x d h k e = sum_by_more (λ y. y) xs i d (omega arith) ∙ ap (λ y. sum (take i xs) + y) (sym (e ∙ get_or-take n xs i d h))
