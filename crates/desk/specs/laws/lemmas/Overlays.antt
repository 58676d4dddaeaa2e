-- Parcels with those that are lent laid over them.
use Rattle.std.proofs.Common.{◌≡◌, ◌≢◌, ℕ, zero, suc, true, false, List, [], ◌∷◌, set, arith, Option, Some, None, refl, sym, ap, ◌∙◌, subst, ⊎_elim}
use Rattle.std.proofs.lemmas.Bool.{cases_Bool}
use mathlib.Core.Option.{some, some-injective, some-ne-none}
use lib.ListN.{get_elem?}
use Rattle.nfs_model.specs.Tree.{Layout}
use Rattle.affinity.specs.Ancestors.{Covers}
use Rattle.affinity.specs.Numbers.{number_of, parents}
use Rattle.depot_rule.specs.Seats.{if_less}
use Rattle.depot_rule.specs.History.{covers, patched}
use Rattle.depot_rule.specs.lemmas.Covering.{covers-true, true-covers, patched-in, patched-out}
use Rattle.desk.specs.laws.Books.{Lent, overlaid}

-- whether b covers k
pub covers-or-not : {A : Type 0} (ps : List ℕ) (b k : ℕ) → (Covers ps b k → A) → ((Covers ps b k → ⊥) → A) → A
covers-or-not ps b k inside outside = ⊎_elim
    (λ (t : covers ps b k ≡ true). inside (covers-true ps b k t))
    (λ (t : covers ps b k ≡ false). outside (λ c. let bad : false ≡ true = sym t ∙ true-covers ps b k c in absurd (cc)))
    (cases_Bool (covers ps b k))

module _ {P : Type 0} where
  module _ (layout : Layout) where
    -- what is lent covers a node
    abbrev pub Reaches : Lent P → ℕ → Type 0
    Reaches l k = Covers (parents layout) (number_of layout l.affinity) k

    abbrev pub Misses : Option (Lent P) → ℕ → Type 0
    Misses x k = (l : Lent P) → x ≡ Some l → Reaches l k → ⊥

    pub overlaid-free : (ls : List (Option (Lent P))) (f : ℕ → Option P) (k : ℕ) → ((i : ℕ) (l : Lent P) → get_elem? ls i ≡ some (Some l) → Reaches l k → ⊥)
        → overlaid layout ls f k ≡ f k
    overlaid-free [] f k free = refl
    overlaid-free (None ∷ ls) f k free = overlaid-free ls f k (λ i l at. free (suc i) l at)
    overlaid-free (Some l ∷ ls) f k free =
        overlaid-free ls (patched (parents layout) (number_of layout l.affinity) l.parcels f) k (λ i x at. free (suc i) x at)
        ∙ patched-out (parents layout) (number_of layout l.affinity) l.parcels f k (free 0 l refl)

    pub overlaid-below : (ls : List (Option (Lent P))) (f g : ℕ → Option P) (k : ℕ) → f k ≡ g k → overlaid layout ls f k ≡ overlaid layout ls g k
    overlaid-below [] f g k e = e
    overlaid-below (None ∷ ls) f g k e = overlaid-below ls f g k e
    overlaid-below (Some l ∷ ls) f g k e =
        overlaid-below ls (patched (parents layout) (number_of layout l.affinity) l.parcels f)
        (patched (parents layout) (number_of layout l.affinity) l.parcels g) k
        (ap (λ (y : Option P). if_less (covers (parents layout) (number_of layout l.affinity) k) (l.parcels k) y) e)

    -- one slot more or less, which doesn't reach the node
    skipped : (x : Option (Lent P)) (ls : List (Option (Lent P))) (f : ℕ → Option P) (k : ℕ) → Misses x k
        → overlaid layout (x ∷ ls) f k ≡ overlaid layout ls f k
    skipped None ls f k miss = refl
    skipped (Some l) ls f k miss =
        overlaid-below ls (patched (parents layout) (number_of layout l.affinity) l.parcels f) f k
        (patched-out (parents layout) (number_of layout l.affinity) l.parcels f k (miss l refl))

    over-one : (y : Option (Lent P)) (ls ms : List (Option (Lent P))) (k : ℕ) → ((f : ℕ → Option P) → overlaid layout ls f k ≡ overlaid layout ms f k)
        → (f : ℕ → Option P) → overlaid layout (y ∷ ls) f k ≡ overlaid layout (y ∷ ms) f k
    over-one None ls ms k e f = e f
    over-one (Some l) ls ms k e f = e (patched (parents layout) (number_of layout l.affinity) l.parcels f)

    pub overlaid-set : (ls : List (Option (Lent P))) (i : ℕ) (x y : Option (Lent P)) (f : ℕ → Option P) (k : ℕ) → get_elem? ls i ≡ some y → Misses y k
        → Misses x k → overlaid layout (set ls i x) f k ≡ overlaid layout ls f k
    overlaid-set [] i x y f k at my mx = absurd (some-ne-none y (sym at))
    overlaid-set (z ∷ ls) zero x y f k at my mx =
        let same : z ≡ y = some-injective z y at in
        skipped x ls f k mx ∙ sym (skipped z ls f k (subst (λ (o : Option (Lent P)). Misses o k) (sym same) my))
    overlaid-set (z ∷ ls) (suc i) x y f k at my mx = over-one z (set ls i x) ls k (λ g. overlaid-set ls i x y g k at my mx) f

    -- a node that is reached by one alone
    pub overlaid-here : (ls : List (Option (Lent P))) (i : ℕ) (l : Lent P) (f : ℕ → Option P) (k : ℕ) → get_elem? ls i ≡ some (Some l) → Reaches l k
        → ((j : ℕ) (m : Lent P) → get_elem? ls j ≡ some (Some m) → j ≢ i → Reaches m k → ⊥) → overlaid layout ls f k ≡ l.parcels k
    overlaid-here [] i l f k at reach alone = absurd (some-ne-none (Some l) (sym at))
    overlaid-here (z ∷ ls) zero l f k at reach alone =
        subst (λ (o : Option (Lent P)). overlaid layout (o ∷ ls) f k ≡ l.parcels k) (sym (some-injective z (Some l) at))
        (overlaid-free ls (patched (parents layout) (number_of layout l.affinity) l.parcels f) k
        (λ j m there r. alone (suc j) m there (λ (e : suc j ≡ 0). absurd (omega arith)) r)
        ∙ patched-in (parents layout) (number_of layout l.affinity) l.parcels f k reach)
    overlaid-here (z ∷ ls) (suc i) l f k at reach alone =
        skipped z ls f k (λ m is r. alone 0 m (ap some is) (λ (e : 0 ≡ suc i). absurd (omega arith)) r)
        ∙ overlaid-here ls i l f k at reach (λ j m there ne. alone (suc j) m there (λ (e : suc j ≡ suc i). ne (let same : j ≡ i = omega arith in same)))

    -- what is lent laid over the rest, one after another: each a step of S's, from parcels of which I holds
    module _ {S X : Type 0} (I : ℕ → (ℕ → Option P) → Type 0) (T : (ℕ → Option P) → S) (serve : S → X → S) (base : ℕ → Option P) where
      -- the parcels under what is lent are as in `base`
      abbrev pub Agrees : Lent P → (ℕ → Option P) → Type 0
      Agrees l f = (k : ℕ) → Reaches l k → f k ≡ base k

      -- what is lent, and what was done with it
      abbrev pub IsDone : Option (Lent P) → Option X → Type 0
      IsDone None None = Unit {0}
      IsDone None (Some x) = ⊥
      IsDone (Some l) None = ⊥
      IsDone (Some l) (Some x) = (n : ℕ) (f : ℕ → Option P) → Agrees l f → I n f
          → I (suc n) (patched (parents layout) (number_of layout l.affinity) l.parcels f)
          × (T (patched (parents layout) (number_of layout l.affinity) l.parcels f) ≡ serve (T f) x)

      abbrev pub AreDone : List (Option (Lent P)) → List (Option X) → Type 0
      AreDone [] [] = Unit {0}
      AreDone [] (x ∷ xs) = ⊥
      AreDone (l ∷ ls) [] = ⊥
      AreDone (l ∷ ls) (x ∷ xs) = IsDone l x × AreDone ls xs

      abbrev pub served : S → List (Option X) → S
      served s [] = s
      served s (None ∷ xs) = served s xs
      served s (Some x ∷ xs) = served (serve s x) xs

      pub all-served : (ls : List (Option (Lent P))) (xs : List (Option X)) (n : ℕ) (f : ℕ → Option P) → AreDone ls xs
          → ((i j : ℕ) (l m : Lent P) → get_elem? ls i ≡ some (Some l) → get_elem? ls j ≡ some (Some m) → j ≢ i → (k : ℕ) → Reaches l k → Reaches m k → ⊥)
          → ((i : ℕ) (l : Lent P) → get_elem? ls i ≡ some (Some l) → Agrees l f) → I n f
          → ((count : ℕ) × I count (overlaid layout ls f)) × (T (overlaid layout ls f) ≡ served (T f) xs)
      all-served [] [] n f are apart agree holds = ((n, holds), refl)
      all-served [] (x ∷ xs) n f are apart agree holds = absurd are
      all-served (l ∷ ls) [] n f are apart agree holds = absurd are
      all-served (None ∷ ls) (None ∷ xs) n f are apart agree holds =
          all-served ls xs n f are.1 (λ i j l m at there ne. apart (suc i) (suc j) l m at there
          (λ (e : suc j ≡ suc i). ne (let same : j ≡ i = omega arith in same))) (λ i l at. agree (suc i) l at) holds
      all-served (None ∷ ls) (Some x ∷ xs) n f are apart agree holds = absurd are.0
      all-served (Some l ∷ ls) (None ∷ xs) n f are apart agree holds = absurd are.0
      all-served (Some l ∷ ls) (Some x ∷ xs) n f are apart agree holds =
          let step = are.0 n f (agree 0 l refl) holds in
          let rest = all-served ls xs (suc n) (patched (parents layout) (number_of layout l.affinity) l.parcels f) are.1
          (λ i j a m at there ne. apart (suc i) (suc j) a m at there (λ (e : suc j ≡ suc i). ne (let same : j ≡ i = omega arith in same)))
          (λ i m at k reach. patched-out (parents layout) (number_of layout l.affinity) l.parcels f k
          (λ c. apart 0 (suc i) l m refl at (λ (e : suc i ≡ 0). absurd (omega arith)) k c reach) ∙ agree (suc i) m at k reach)
          step.0 in
          (rest.0, rest.1 ∙ ap (λ (s : S). served s xs) step.1)
