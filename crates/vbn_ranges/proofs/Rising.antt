-- Lists of numbers that rise within bounds, and their sets.
use Rattle.std.proofs.Common.{◌≡◌, refl, sym, ap, ◌∙◌, ℕ, zero, suc, ◌+◌, ◌<◌, ◌≤◌, Bool, true, false, not, ◌&&◌, cond, nat_eq}
use Rattle.std.proofs.Common.{List, [], ◌∷◌, ◌++◌, ⊎_elim, arith}
use Rattle.std.specs.List.{list_any, filter, range_with_len}
use Rattle.std.specs.Ordering.{nat_cmp}
use Rattle.std.specs.Cmp.{nat_cmp_total}
use Rattle.std.specs.FinSet.{from_list, contains-difference, contains-from_list_nat, same_set}
use Rattle.std.specs.FinSet.{nat_cmp-IsAntisymmetric}
use Rattle.std.proofs.lemmas.Bool.Decides.{nat_tests}
use Rattle.std.proofs.lemmas.Bool.{cases_lt}
use Rattle.nfs_model.specs.Parts.{IsAscending}
use Rattle.nfs_model.specs.volume.Ranges.{without_numbers}

-- whether a number is in a list
abbrev pub is_in : List ℕ → ℕ → Bool
is_in bs q = list_any (λ b. nat_eq b q) bs

-- each number is above the one before, the first is at or above low, and all are below high
abbrev pub Rising : ℕ → ℕ → List ℕ → Type 0
Rising low high [] = low ≤ high
Rising low high (b ∷ bs) = (low ≤ b) × Rising (b + 1) high bs

rising-bounds : (low high : ℕ) (bs : List ℕ) → Rising low high bs → low ≤ high
rising-bounds low high [] h = h
rising-bounds low high (b ∷ bs) h = let r = rising-bounds (b + 1) high bs h.1 in let a = h.0 in omega arith

pub rising-weaker : (low lower high : ℕ) (bs : List ℕ) → lower ≤ low → Rising low high bs → Rising lower high bs
rising-weaker low lower high [] l h = omega (arith, h)
rising-weaker low lower high (b ∷ bs) l h = (let a = h.0 in omega arith, h.1)

pub rising-append : (low middle high : ℕ) (bs cs : List ℕ) → Rising low middle bs → Rising middle high cs → Rising low high (bs ++ cs)
rising-append low middle high [] cs h k = rising-weaker middle low high cs h k
rising-append low middle high (b ∷ bs) cs h k = (h.0, rising-append (b + 1) middle high bs cs h.1 k)

pub rising-front : (low high : ℕ) (bs cs : List ℕ) → Rising low high (bs ++ cs) → Rising low high bs
rising-front low high [] cs h = rising-bounds low high cs h
rising-front low high (b ∷ bs) cs h = (h.0, rising-front (b + 1) high bs cs h.1)

rising-back : (low high : ℕ) (bs cs : List ℕ) → Rising low high (bs ++ cs) → Rising low high cs
rising-back low high [] cs h = h
rising-back low high (b ∷ bs) cs h =
    rising-weaker (b + 1) low high cs (let a = h.0 in omega arith) (rising-back (b + 1) high bs cs h.1)

pub ascending : (low high : ℕ) (bs : List ℕ) → Rising low high bs → IsAscending bs
ascending low high [] h = tt
ascending low high (b ∷ []) h = tt
ascending low high (b ∷ (c ∷ bs)) h = (let a = h.1.0 in omega arith, ascending (b + 1) high (c ∷ bs) h.1)

-- ---- what is in them

pub in-head : (b : ℕ) (bs : List ℕ) (q : ℕ) → b ≡ q → is_in (b ∷ bs) q ≡ true
in-head b bs q e = grind (arith, nat_tests)

pub in-tail : (b : ℕ) (bs : List ℕ) (q : ℕ) → (b ≡ q → ⊥) → is_in (b ∷ bs) q ≡ is_in bs q
in-tail b bs q e = grind (arith, nat_tests)

pub not-below : (low high : ℕ) (bs : List ℕ) (q : ℕ) → Rising low high bs → q < low → is_in bs q ≡ false
not-below low high [] q h l = refl
not-below low high (b ∷ bs) q h l =
    let a = h.0 in in-tail b bs q (λ e. omega arith) ∙ not-below (b + 1) high bs q h.1 (omega arith)

pub not-above : (low high : ℕ) (bs : List ℕ) (q : ℕ) → Rising low high bs → high ≤ q → is_in bs q ≡ false
not-above low high [] q h l = refl
not-above low high (b ∷ bs) q h l =
    let above = rising-bounds (b + 1) high bs h.1 in
    in-tail b bs q (λ e. omega arith) ∙ not-above (b + 1) high bs q h.1 l

pub within-rising : (low high : ℕ) (bs : List ℕ) (q : ℕ) → Rising low high bs → is_in bs q ≡ true → (low ≤ q) × (q < high)
within-rising low high bs q h t = (
  ⊎_elim (λ l. absurd (let n = not-below low high bs q h l in cc)) (λ l. l) (cases_lt q low),
  ⊎_elim (λ l. l) (λ l. absurd (let n = not-above low high bs q h l in cc)) (cases_lt q high),
)

kept-if : (p : ℕ → Bool) (q : ℕ) (bs : List ℕ) (t : Bool) → p q ≡ t → cond (p q) (q ∷ bs) bs ≡ cond t (q ∷ bs) bs
kept-if p q bs t is = ap (λ u. cond u (q ∷ bs) bs) is

-- a rising list is what a test that finds it keeps
pub filter-rising : (p : ℕ → Bool) (n low high : ℕ) (bs : List ℕ) → low + n ≡ high → Rising low high bs
    → ((q : ℕ) → low ≤ q → q < high → p q ≡ is_in bs q) → filter p (range_with_len low n) ≡ bs
filter-rising p zero low high [] s h e = refl
filter-rising p zero low high (b ∷ bs) s h e =
    let a = h.0 in let above = rising-bounds (b + 1) high bs h.1 in absurd (omega arith)
filter-rising p (suc n) low high [] s h e =
    kept-if p low _ false (e low (omega arith) (omega arith))
    ∙ filter-rising p n (low + 1) high [] (omega arith) (omega arith) (λ q l u. e q (omega arith) u)
filter-rising p (suc n) low high (b ∷ bs) s h e =
    ⊎_elim
    (λ l. kept-if p low _ false (e low (omega arith) (omega arith) ∙ not-below b high (b ∷ bs) low (omega arith, h.1) l)
    ∙ filter-rising p n (low + 1) high (b ∷ bs) (omega arith) (omega arith, h.1) (λ q k u. e q (omega arith) u))
    (λ l.
    let a = h.0 in
    let same : b ≡ low = omega arith in
    kept-if p low _ true (e low (omega arith) (omega arith) ∙ in-head b bs low same)
    ∙ ap (λ c. low ∷ c)
    (filter-rising p n (low + 1) high bs (omega arith) (rising-weaker (b + 1) (low + 1) high bs (omega arith) h.1)
    (λ q k u. e q (omega arith) u ∙ in-tail b bs q (λ is. omega arith)))
    ∙ ap (λ c. c ∷ bs) (sym same)) (cases_lt low b)

-- ---- their sets

and-true : (t : Bool) → t ≡ (t && true)
and-true true = refl
and-true false = refl

left-in : (low high : ℕ) (bs cs : List ℕ) (q : ℕ) → Rising low high (bs ++ cs) → is_in cs q ≡ (is_in (bs ++ cs) q && not (is_in bs q))
left-in low high [] cs q h = and-true (is_in cs q)
left-in low high (b ∷ bs) cs q h =
    ⊎_elim
    (λ l. left-in (b + 1) high bs cs q h.1
    ∙ (λ i. sym (in-tail b (bs ++ cs) q (λ e. omega arith)) i && not (sym (in-tail b bs q (λ e. omega arith)) i)))
    (λ l. none (not-below (b + 1) high cs q (rising-back (b + 1) high bs cs h.1) (omega arith)) l) (cases_lt b q)
  where
    none : is_in cs q ≡ false → q ≤ b → is_in cs q ≡ (is_in (b ∷ (bs ++ cs)) q && not (is_in (b ∷ bs) q))
    none e l =
        e
        ∙ ⊎_elim (λ m. sym (ap (λ t. t && not (is_in (b ∷ bs) q)) (not-below b high (b ∷ (bs ++ cs)) q (omega arith, h.1) m)))
        (λ m. sym (λ i. in-head b (bs ++ cs) q (omega arith) i && not (in-head b bs q (omega arith) i))) (cases_lt q b)

-- taken from the front
pub set-left : (low high : ℕ) (bs cs : List ℕ) → Rising low high (bs ++ cs)
    → from_list {R = nat_cmp} cs ≡ without_numbers bs (from_list (bs ++ cs))
set-left low high bs cs h =
    same_set nat_cmp_total nat_cmp-IsAntisymmetric _ _
    (λ q. contains-from_list_nat cs q ∙ left-in low high bs cs q h
    ∙ sym (contains-difference nat_cmp_total (from_list (bs ++ cs)) (from_list bs) q
    ∙ (λ i. contains-from_list_nat (bs ++ cs) q i && not (contains-from_list_nat bs q i))))
