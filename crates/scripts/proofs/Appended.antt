-- What is printed piece by piece.
use Rattle.std.proofs.Common.{◌≡◌, ◌+◌, ◌<◌, ℕ, List, [], ◌∷◌, ◌++◌, length, take}
use Rattle.std.proofs.Common.{get_or, Option, None, Some, refl, sym, ◌∙◌, ap, append_assoc, arith}
use Rattle.std.proofs.lemmas.Grind.{common_steps}
use Rattle.std.proofs.lemmas.List.{take_more}
use Rattle.std.specs.Fmt.{decimal}
use Rattle.std.specs.Io.KnownBytes.{Appends}
use Rattle.scripts.specs.Lines.{spaced}

pub Appends-none : (known : Option (List ℕ)) → Appends known known []
Appends-none None = tt
Appends-none (Some xs) = grind (arith, common_steps)

pub Appends-more : (a b c : Option (List ℕ)) (xs ys : List ℕ) → Appends a b xs → Appends b c ys → Appends a c (xs ++ ys)
Appends-more None b c xs ys h k = tt
Appends-more (Some old) None c xs ys h k = absurd h
Appends-more (Some old) (Some mid) None xs ys h k = absurd k
Appends-more (Some old) (Some mid) (Some new) xs ys h k = k ∙ ap (λ l. l ++ ys) h ∙ append_assoc old xs ys

spaced-append : (xs ys : List ℕ) → spaced (xs ++ ys) ≡ spaced xs ++ spaced ys
unfolding spaced
spaced-append [] ys = refl
spaced-append (x ∷ xs) ys =
    ap (λ l. 32 ∷ decimal x ++ l) (spaced-append xs ys)
    ∙ ap (λ l. 32 ∷ l) (sym (append_assoc (decimal x) (spaced xs) (spaced ys)))

spaced-one : (n : ℕ) → spaced (n ∷ []) ≡ 32 ∷ decimal n
unfolding spaced
spaced-one n = grind (arith, common_steps)

-- one number more
pub spaced-more : (xs : List ℕ) (i : ℕ) → i < length xs
    → spaced (take i xs) ++ 32 ∷ decimal (get_or xs i 0) ≡ spaced (take (i + 1) xs)
spaced-more xs i inside =
    let more = take_more xs i 0 inside in
    let split = spaced-append (take i xs) (get_or xs i 0 ∷ []) in
    let one = spaced-one (get_or xs i 0) in
    cc
