-- The views of all seats: what holds of each, and what a view adds to the words.
use Rattle.std.proofs.Common.{◌≡◌, ◌≢◌, ℕ, zero, suc, ◌+◌, ◌*◌, ◌<◌, ◌≤◌, eqb, ltb, List, [], ◌∷◌, ◌++◌, length, get_or, set, sym, refl}
use Rattle.std.proofs.Common.{◌∙◌, subst, arith, ⊎_elim}
use mathlib.Core.Option.{some, some-injective, some-ne-none}
use lib.ListN.{get_elem?}
use Rattle.atomic_table.proofs.Lists.{at_set, at_snoc}
use Rattle.depot_rule.specs.declared.view.View.{View}
use Rattle.affinity.specs.Ancestors.{one_if, tally, IsTree, ancestors}
use Rattle.depot_rule.specs.Sums.{total, over_taken}
use Rattle.depot_rule.specs.Shares.{exclusive, Each, parts, made, open_grants, due, unsettled, claims, lower, entered, shares, IsWellFormed, Shares}
use Rattle.depot_rule.specs.lemmas.Sums.{one-most, total-most, total-less, total-alone, total-parts, over-most}
use Rattle.depot_rule.specs.lemmas.Trees.{ancestors-once}

module _ {V : Type 0} where
  -- Q holds of each view of one seat
  abbrev pub All : (V → Type 0) → List V → Type 0
  All Q vs = (i : ℕ) (v : V) → get_elem? vs i ≡ some v → Q v

  pub all-none : (Q : V → Type 0) → All Q []
  all-none Q i v e = absurd (some-ne-none v (sym e))

  pub all-one : (Q : V → Type 0) (v : V) → Q v → All Q (v ∷ [])
  all-one Q v q zero u e = subst Q (some-injective v u e) q
  all-one Q v q (suc i) u e = absurd (some-ne-none u (sym e))

  pub all-append : (Q : V → Type 0) (vs ws : List V) → All Q vs → All Q ws → All Q (vs ++ ws)
  all-append Q [] ws p q i v e = q i v e
  all-append Q (x ∷ xs) ws p q zero v e = p zero v e
  all-append Q (x ∷ xs) ws p q (suc i) v e = all-append Q xs ws (λ j u d. p (suc j) u d) q i v e

  -- the views of one seat change
  pub each-set : (Q : V → Type 0) (views : List (List V)) (id : ℕ) (ws : List V) → Each Q views → All Q ws → Each Q (set views id ws)
  each-set Q views id ws each all j us e = ⊎_elim
      (λ (t : (j ≡ id) × (ws ≡ us)). subst (All Q) t.1 all)
      (λ (t : (j ≢ id) × (get_elem? views j ≡ some us)). each j us t.1) (at_set views id j ws us e)

  -- those of the others may become something else
  pub each-moved : (Q R : V → Type 0) (views : List (List V)) (id : ℕ) (ws : List V) → ((j : ℕ) (us : List V) → j ≢ id → get_elem? views j ≡ some us
      → (i : ℕ) (u : V) → get_elem? us i ≡ some u → Q u → R u) → Each Q views → All R ws → Each R (set views id ws)
  each-moved Q R views id ws go each all j us e = ⊎_elim
      (λ (t : (j ≡ id) × (ws ≡ us)). subst (All R) t.1 all)
      (λ (t : (j ≢ id) × (get_elem? views j ≡ some us)). λ i u d. go j us t.0 t.1 i u d (each j us t.1 i u d)) (at_set views id j ws us e)

  pub each-more : (Q : V → Type 0) (views : List (List V)) (ws : List V) → Each Q views → All Q ws → Each Q (views ++ ws ∷ [])
  each-more Q views ws each all j us e = ⊎_elim (λ (t : get_elem? views j ≡ some us). each j us t) (λ (t : ws ≡ us). subst (All Q) t all)
      (at_snoc views ws us j e)

module _ (P E : Type 0) where
  abbrev pub unsure_in : ℕ → View P E → ℕ
  unsure_in a v = one_if (eqb v.unsure a)

  -- the shares of all seats in a word, by their kinds
  pub shares-parts : (a : ℕ) (views : List (List (View P E)))
      → total (total (shares a)) views ≡ total (total (λ (v : View P E). entered a v + unsure_in a v)) views + exclusive * total (total (claims a)) views
  shares-parts a views = total-parts (total (λ (v : View P E). entered a v + unsure_in a v)) (total (claims a)) (total (shares a))
      (λ vs. total-parts (λ (v : View P E). entered a v + unsure_in a v) (claims a) (shares a) (λ v. refl) vs) views

  lower-most : (ps : List ℕ) → IsTree ps → (a : ℕ) (v : View P E) → IsWellFormed ps v → lower a v ≤ length ps
  lower-most ps t a v s =
      let o : over_taken (λ b. tally a (ancestors v.tree b)) 0 v.held ≤ length v.held
      = over-most (λ b. tally a (ancestors v.tree b)) 0 v.held (λ b. subst (λ (q : List ℕ). tally a (ancestors q b) ≤ 1) (sym s.tree)
      (ancestors-once ps t a b)) in
      let w = s.wide in omega arith

  pub few-shares : (ps : List ℕ) → IsTree ps → length ps ≤ 1024 → (a : ℕ) (v : View P E) → IsWellFormed ps v → entered a v + unsure_in a v ≤ 2000 * parts v
  few-shares ps t few a v s = let u = one-most (eqb v.unsure a) in let p = s.once a in let l = lower-most ps t a v s in let some_part = s.some_part
      in omega arith

  -- the shares in a word never reach its exclusive part
  pub few-in-word : (ps ws : List ℕ) (views : List (List (View P E))) (r : Shares ps ws views) (a : ℕ)
      → total (total (λ (v : View P E). entered a v + unsure_in a v)) views ≤ 128000
  few-in-word ps ws views r a =
      let b = total-most (total (λ (v : View P E). entered a v + unsure_in a v)) (total parts) views
      (λ j vs e. total-most (λ (v : View P E). entered a v + unsure_in a v) parts vs (λ i v d. few-shares ps r.tree r.few a v (r.sound j vs e i v d))) in
      let s = r.seats in omega arith

  -- a view's rights to add entries are few, and so are all entries
  few-due : (ps : List ℕ) → length ps ≤ 1024 → (v : View P E) → IsWellFormed ps v → v.looked + open_grants v ≤ 2000 * parts v
  few-due ps few v s = let o = over-most (λ b. 1) 0 v.held (λ b. omega arith) in let w = s.wide in let l = s.looked in let some_part = s.some_part
      in omega arith

  pub due-most : (ps ws : List ℕ) (views : List (List (View P E))) (r : Shares ps ws views)
      → total (total (λ (v : View P E). v.looked + open_grants v)) views ≤ 128000
  due-most ps ws views r =
      let b = total-most (total (λ (v : View P E). v.looked + open_grants v)) (total parts) views
      (λ j vs e. total-most (λ (v : View P E). v.looked + open_grants v) parts vs (λ i v d. few-due ps r.few v (r.sound j vs e i v d))) in
      let s = r.seats in omega arith

  unsettled-most : (ps ws : List ℕ) (views : List (List (View P E))) (r : Shares ps ws views) → total (total unsettled) views ≤ 128000
  unsettled-most ps ws views r =
      let b = total-most (total unsettled) (total parts) views
      (λ j vs e. total-most unsettled parts vs (λ i v d. let o = one-most (ltb 0 v.stamped) in let some_part = (r.sound j vs e i v d).some_part
      in omega arith)) in
      let s = r.seats in omega arith

  made-less : (views : List (List (View P E))) → total (total made) views ≤ total (total due) views
  made-less views = total-less (total made) (total due) (λ vs. total-less made due (λ v. omega arith) vs) views

  pub few-entries : (ps ws : List ℕ) (views : List (List (View P E))) (r : Shares ps ws views) → total (total made) views ≤ 4611686018427643904
  few-entries ps ws views r = let m = made-less views in let s = unsettled-most ps ws views r in let b = r.bounded in omega arith

  -- a view with all parts is the only one
  none-left : (vs : List (View P E)) (f : View P E → ℕ) → All (λ (v : View P E). 0 < v.parts) vs → total parts vs ≡ 0 → total f vs ≡ 0
  none-left [] f some_part z = refl
  none-left (v ∷ vs) f some_part z = let p = some_part 0 v refl in absurd (omega arith)

  pub only-view : (ps ws : List ℕ) (views : List (List (View P E))) (r : Shares ps ws views) (id : ℕ) (v : View P E)
      → get_elem? views id ≡ some (v ∷ []) → v.parts ≡ 64 → (f : View P E → ℕ) → total (total f) views ≡ f v
  only-view ps ws views r id v at all f =
      let q = r.seats in
      let e = total-alone (total f) (total parts) views id (v ∷ []) at (omega arith)
      (λ j us d z. none-left us f (λ i u h. (r.sound j us d i u h).some_part) z) in omega arith

  -- a seat with all parts finds its own shares
  pub finds-own : (ps ws : List ℕ) (views : List (List (View P E))) (r : Shares ps ws views) (a id : ℕ) (v : View P E)
      → get_elem? views id ≡ some (v ∷ []) → 0 < a → a < length ps → v.parts ≡ 64 → get_or ws a 0 ≡ shares a v
  finds-own ps ws views r a id v at pos lt all = r.counted a pos lt ∙ only-view ps ws views r id v at all (shares a)
