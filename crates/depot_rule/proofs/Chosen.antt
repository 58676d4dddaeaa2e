-- A seat's own entries: those at its places in what it has seen.
use Rattle.std.proofs.Common.{◌≡◌, ◌⊎◌, ℕ, zero, suc, ◌+◌, ◌<◌, ◌≤◌, eqb, ltb, Bool, true, false, List, [], ◌∷◌, ◌++◌, length, sym, refl}
use Rattle.std.proofs.Common.{ap, ◌∙◌, arith, inl, inr, ⊎_elim, Option, Some, None}
use Rattle.std.proofs.lemmas.Bool.{ltb-true, ltb-false}
use mathlib.Core.Logic.{dite}
use native.Mathlib.Decide.{ℕ_discrete}
use Rattle.std.specs.Prelude.{slice_get}
use Rattle.depot_rule.specs.declared.view.Entry.{Entry}
use Rattle.affinity.specs.Ancestors.{one_if, tally}
use Rattle.depot_rule.specs.Sums.{total}
use Rattle.depot_rule.specs.Seats.{if_less, put_among, in_order}
use Rattle.depot_rule.specs.History.{Ascends, StartsWith, batches_of, or_nothing, chosen}
use Rattle.depot_rule.specs.lemmas.Sums.{one-same, one-is, total-append, tally-append}

module _ {A : Type 0} where
  get-start : (start rest : List A) (p : ℕ) → p < length start → slice_get (start ++ rest) p ≡ slice_get start p
  get-start [] rest p lt = absurd (omega arith)
  get-start (x ∷ xs) rest zero lt = refl
  get-start (x ∷ xs) rest (suc p) lt = get-start xs rest p (omega arith)

  get-last : (xs : List A) (x : A) → slice_get (xs ++ x ∷ []) (length xs) ≡ Some x
  get-last [] x = refl
  get-last (y ∷ ys) x = get-last ys x

  -- what stands at places of a beginning
  chosen-start : (start rest : List A) (ps : List ℕ) → ((p : ℕ) → 0 < tally p ps → p < length start) → chosen (start ++ rest) ps ≡ chosen start ps
  chosen-start start rest [] within = refl
  chosen-start start rest (p ∷ ps) within =
      let one = one-same p p refl in
      let here = get-start start rest p (within p (omega arith)) in
      let further = chosen-start start rest ps (λ q some. within q (omega arith)) in
      ap (λ (x : Option A × List A). or_nothing x.0 x.1) (λ i. (here i, further i))

  pub chosen-within : (xs start : List A) (ps : List ℕ) → StartsWith xs start → ((p : ℕ) → 0 < tally p ps → p < length start) → chosen xs ps ≡ chosen start ps
  chosen-within xs start ps s within = ap (λ zs. chosen zs ps) (sym s.1) ∙ chosen-start start s.0 ps within

  or-append : (x : Option A) (xs ys : List A) → or_nothing x (xs ++ ys) ≡ or_nothing x xs ++ ys
  or-append None xs ys = refl
  or-append (Some x) xs ys = refl

  chosen-append : (xs : List A) (ps qs : List ℕ) → chosen xs (ps ++ qs) ≡ chosen xs ps ++ chosen xs qs
  chosen-append xs [] qs = refl
  chosen-append xs (p ∷ ps) qs = ap (or_nothing (slice_get xs p)) (chosen-append xs ps qs) ∙ or-append (slice_get xs p) (chosen xs ps) (chosen xs qs)

  -- an entry more, at the end, in the seat's own place
  pub chosen-snoc : (xs : List A) (x : A) (ps : List ℕ) → ((p : ℕ) → 0 < tally p ps → p < length xs) → chosen (xs ++ x ∷ []) (ps ++ length xs ∷ [])
      ≡ chosen xs ps ++ x ∷ []
  chosen-snoc xs x ps within =
      chosen-append (xs ++ x ∷ []) ps (length xs ∷ [])
      ∙ (λ i. chosen-start xs (x ∷ []) ps within i ++ or_nothing (get-last xs x i) [])

  weigh-or : (weigh : A → ℕ) (x : Option A) (xs : List A) → total weigh (or_nothing x xs) ≡ total weigh (or_nothing x []) + total weigh xs
  weigh-or weigh None xs = omega arith
  weigh-or weigh (Some x) xs = omega arith

  weigh-less : (weigh : A → ℕ) (zs : List A) (b : Bool) (xs ys : List ℕ) (n : ℕ) → total weigh (chosen zs xs) ≡ n → total weigh (chosen zs ys) ≡ n
      → total weigh (chosen zs (if_less b xs ys)) ≡ n
  weigh-less weigh zs true xs ys n e f = e
  weigh-less weigh zs false xs ys n e f = f

  weigh-put : (weigh : A → ℕ) (zs : List A) (p : ℕ) (qs : List ℕ) → total weigh (chosen zs (put_among p qs)) ≡ total weigh
      (or_nothing (slice_get zs p) []) + total weigh (chosen zs qs)
  weigh-put weigh zs p [] = omega arith
  weigh-put weigh zs p (q ∷ qs) =
      let r = weigh-put weigh zs p qs in
      let a = weigh-or weigh (slice_get zs q) (chosen zs (put_among p qs)) in
      let b = weigh-or weigh (slice_get zs q) (chosen zs qs) in
      let c = weigh-or weigh (slice_get zs p) (chosen zs (q ∷ qs)) in
      weigh-less weigh zs (ltb q p) (q ∷ put_among p qs) (p ∷ q ∷ qs) _ (omega arith) (omega arith)

  -- the entries at the places of two lists, however weighed
  pub weigh-in-order : (weigh : A → ℕ) (zs : List A) (ps qs : List ℕ) → total weigh (chosen zs (in_order ps qs)) ≡ total weigh (chosen zs ps) + total
      weigh (chosen zs qs)
  weigh-in-order weigh zs [] qs = omega arith
  weigh-in-order weigh zs (p ∷ ps) qs =
      let r = weigh-in-order weigh zs ps qs in let a = weigh-put weigh zs p (in_order ps qs) in let b = weigh-or weigh (slice_get zs p)
      (chosen zs ps) in omega arith

-- batches of entries weigh as much as the entries do
pub moved-weigh : {P C R B : Type 0} (batches : C → R → List B) (weigh : B → ℕ) (es : List (Entry P C R))
    → total weigh (batches_of batches es) ≡ total (λ (e : Entry P C R). total weigh (batches e.call e.reply)) es
moved-weigh batches weigh [] = refl
moved-weigh batches weigh (e ∷ es) = let a = total-append weigh (batches e.call e.reply) (batches_of batches es) in let r = moved-weigh batches weigh
    es in omega arith

tally-less : (p : ℕ) (b : Bool) (xs ys : List ℕ) (n : ℕ) → tally p xs ≡ n → tally p ys ≡ n → tally p (if_less b xs ys) ≡ n
tally-less p true xs ys n e f = e
tally-less p false xs ys n e f = f

tally-put : (p x : ℕ) (ys : List ℕ) → tally p (put_among x ys) ≡ one_if (eqb x p) + tally p ys
tally-put p x [] = refl
tally-put p x (y ∷ ys) = let r = tally-put p x ys in tally-less p (ltb y x) (y ∷ put_among x ys) (x ∷ y ∷ ys) _ (omega arith) (omega arith)

pub tally-in-order : (p : ℕ) (xs ys : List ℕ) → tally p (in_order xs ys) ≡ tally p xs + tally p ys
tally-in-order p [] ys = omega arith
tally-in-order p (x ∷ xs) ys = let r = tally-in-order p xs ys in let a = tally-put p x (in_order xs ys) in omega arith

-- numbers in order
either-some : (m n : ℕ) → 0 < m + n → (0 < m) ⊎ (0 < n)
either-some zero n h = inr (omega arith)
either-some (suc m) n h = inl (omega arith)

pub ascends-snoc : (ps : List ℕ) (q : ℕ) → Ascends ps → ((p : ℕ) → 0 < tally p ps → p < q) → Ascends (ps ++ q ∷ [])
ascends-snoc [] q a below = ((λ y some. absurd (omega arith)), tt)
ascends-snoc (p ∷ ps) q a below = (
  (λ y some. let t = tally-append y ps (q ∷ []) in let one = one-same p p refl in let less = below p (omega arith) in
      ⊎_elim (λ (h : 0 < tally y ps). a.0 y h) (λ (h : 0 < one_if (eqb q y)). let e = one-is q y h in omega arith)
      (either-some (tally y ps) (one_if (eqb q y)) (omega arith))),
  ascends-snoc ps q a.1 (λ y some. below y (omega arith)),
)

ascends-less : (b : Bool) (xs ys : List ℕ) → (b ≡ true → Ascends xs) → (b ≡ false → Ascends ys) → Ascends (if_less b xs ys)
ascends-less true xs ys e f = e refl
ascends-less false xs ys e f = f refl

ascends-put : (x : ℕ) (ys : List ℕ) → Ascends ys → tally x ys ≡ 0 → Ascends (put_among x ys)
ascends-put x [] a none = ((λ y some. absurd (omega arith)), tt)
ascends-put x (y ∷ ys) a none = ascends-less (ltb y x) (y ∷ put_among x ys) (x ∷ y ∷ ys)
    (λ less. let lt = ltb-true y x less in (
      (λ z some. let t = tally-put z x ys in ⊎_elim
          (λ (h : 0 < one_if (eqb x z)). let e = one-is x z h in omega arith)
          (λ (h : 0 < tally z ys). a.0 z h)
          (either-some (one_if (eqb x z)) (tally z ys) (omega arith))),
      ascends-put x ys a.1 (omega arith),
    ))
    (λ not. let ge = ltb-false y x not in (
      (λ z some. ⊎_elim
          (λ (h : 0 < one_if (eqb y z)). let e = one-is y z h in dite (ℕ_discrete x y) (λ same. let one = one-same y x (sym same) in absurd
          (omega arith)) (λ other. let lt : x < z = omega arith in lt))
          (λ (h : 0 < tally z ys). let up = a.0 z h in let lt : x < z = omega arith in lt)
          (either-some (one_if (eqb y z)) (tally z ys) some)),
      a,
    ))

pub ascends-in-order : (xs ys : List ℕ) → Ascends xs → Ascends ys → ((p : ℕ) → tally p xs + tally p ys ≤ 1) → Ascends (in_order xs ys)
ascends-in-order [] ys a b apart = b
ascends-in-order (x ∷ xs) ys a b apart =
    let one = one-same x x refl in let once = apart x in let t = tally-in-order x xs ys in
    ascends-put x (in_order xs ys) (ascends-in-order xs ys a.1 b (λ p. let h = apart p in omega arith)) (omega arith)
