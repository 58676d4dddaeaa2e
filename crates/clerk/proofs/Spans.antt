-- Times of spans.
use Rattle.std.proofs.Common.{◌≡◌, ◌∙◌, ℕ, ◌-◌, ◌≤◌, List, [], ◌∷◌, ◌++◌, Option, None, refl, sym, ap, arith, append_assoc}
use Rattle.std.specs.Prelude.{replicate, Bool, true, if◌then◌else◌}
use Rattle.std.proofs.lemmas.List.{append-nil, replicate-append-replicate}
use Rattle.clerk.specs.declared.times.Span.{Span}
use Rattle.clerk.specs.Times.{times_of, times_of_all, times_of_first}

all-append : (xs ys : List Span) → times_of_all (xs ++ ys) ≡ times_of_all xs ++ times_of_all ys
all-append [] ys = refl
all-append (x ∷ xs) ys =
    ap (λ t. times_of x ++ t) (all-append xs ys) ∙ sym (append_assoc (times_of x) (times_of_all xs) (times_of_all ys))

-- one span more, last
last-put : (first : Option Span) (xs ys : List Span) (x : Span) → ys ≡ xs ++ x ∷ []
    → times_of_first first ++ times_of_all ys ≡ (times_of_first first ++ times_of_all xs) ++ times_of x
last-put first xs ys x is =
    ap (λ zs. times_of_first first ++ times_of_all zs) is
    ∙ ap (λ t. times_of_first first ++ t) (all-append xs (x ∷ []) ∙ ap (λ t. times_of_all xs ++ t) (append-nil (times_of x)))
    ∙ sym (append_assoc (times_of_first first) (times_of_all xs) (times_of x))

pub put-kept : (first : Option Span) (xs ys : List Span) (x : Span) (b : Bool) → ys ≡ (if b then xs ++ x ∷ [] else xs) → b ≡ true
    → times_of_first first ++ times_of_all ys ≡ (times_of_first first ++ times_of_all xs) ++ times_of x
put-kept first xs ys x b is kept = last-put first xs ys x (is ∙ ap (λ (c : Bool). if c then xs ++ x ∷ [] else xs) kept)

-- some calls of a span, and then the others
span-cut : (since calls most : ℕ) → most ≤ calls → replicate most since ++ replicate (calls - most) since ≡ replicate calls since
span-cut since calls most fits =
    replicate-append-replicate most (calls - most) since ∙ ap (λ n. replicate n since) (omega (arith, fits))

-- some calls of the first span are taken, and the others stay before what is behind
pub first-cut : (since calls most : ℕ) (old : List ℕ) (first : Option Span) (behind : List Span) → most ≤ calls → first ≡ None
    → old ≡ replicate calls since ++ (times_of_first first ++ times_of_all behind)
    → old ≡ replicate most since ++ (replicate (calls - most) since ++ times_of_all behind)
first-cut since calls most old first behind fits none is =
    is ∙ ap (λ (f : Option Span). replicate calls since ++ (times_of_first f ++ times_of_all behind)) none
    ∙ ap (λ t. t ++ times_of_all behind) (sym (span-cut since calls most fits))
    ∙ append_assoc (replicate most since) (replicate (calls - most) since) (times_of_all behind)
