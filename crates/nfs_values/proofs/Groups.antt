-- Further groups.
use Rattle.std.proofs.Common.{◌≡◌, ℕ, zero, suc, ◌+◌, ◌<◌, List, [], ◌∷◌, ◌++◌, length, map, take, drop, get_or, slice_index_or, slice_set, refl, ap, arith}
use Rattle.std.proofs.lemmas.List.{take_more_set, length-take}

pub one_more : (gids : List ℕ) (count gid : ℕ) → count < length gids → take (count + 1) (slice_set gids count gid) ≡ take count gids ++ (gid ∷ [])
one_more gids count gid h = take_more_set gids count gid h

-- where fewer are given than there are places, there is one more place
pub one_place : (gids : List ℕ) (count : ℕ) → length gids ≡ 16 → length (take count gids) < 16 → count < 16
one_place gids count long few = omega (arith, long, few, length-take count gids)

one_changed : (g : ℕ → ℕ) (i : ℕ) (xs ys : List ℕ) (d : ℕ) → i < length ys → take i xs ≡ map g (take i ys) → drop i xs ≡ drop i ys
    → (take (suc i) (slice_set xs i (g (slice_index_or xs i d))) ≡ map g (take (suc i) ys))
    × (drop (suc i) (slice_set xs i (g (slice_index_or xs i d))) ≡ drop (suc i) ys)
one_changed g i xs [] d lt before behind = absurd (omega (arith, lt))
one_changed g zero xs (y ∷ ys) d lt before behind = rw behind (refl, refl)
one_changed g (suc i) [] (y ∷ ys) d lt before behind = absurd cc
one_changed g (suc i) (x ∷ xs) (y ∷ ys) d lt before behind =
    let rest = one_changed g i xs ys d (omega (arith, lt)) (ap (λ (l : List ℕ). drop 1 l) before) behind in
    let first : x ≡ g y = ap (λ (l : List ℕ). get_or l 0 d) before in
    (rw (first, rest.0) refl, rest.1)

-- the one at a place is changed by g, as those before it were
pub one_mapped : (g : ℕ → ℕ) (i : ℕ) (xs ys : List ℕ) (d : ℕ) → i < length ys → take i xs ≡ map g (take i ys) → drop i xs ≡ drop i ys
    → (take (i + 1) (slice_set xs i (g (slice_index_or xs i d))) ≡ map g (take (i + 1) ys))
    × (drop (i + 1) (slice_set xs i (g (slice_index_or xs i d))) ≡ drop (i + 1) ys)
one_mapped g i xs ys d lt before behind =
    let next : i + 1 ≡ suc i = omega arith in
    rw next (one_changed g i xs ys d lt before behind)
