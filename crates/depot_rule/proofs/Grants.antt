-- Grants of all seats: no node is covered by two.
use Rattle.std.proofs.Common.{◌≡◌, ◌⊎◌, ℕ, zero, suc, ◌<◌, ◌≤◌, eqb, List, [], ◌∷◌, length, sym, refl, ap, ◌∙◌, arith, Option, Some, ⊎_elim}
use mathlib.Core.Option.{some, some-injective, some-ne-none}
use mathlib.Core.Logic.{dite}
use native.Mathlib.Decide.{ℕ_discrete}
use lib.ListN.{get_elem?}
use Rattle.depot_rule.specs.declared.view.View.{View}
use Rattle.affinity.specs.Ancestors.{one_if, tally, ancestors, Covers}
use Rattle.depot_rule.specs.Sums.{total}
use Rattle.depot_rule.specs.Shares.{claims, lower, entered, IsWellFormed, Shares}
use Rattle.depot_rule.specs.lemmas.Sums.{one-same, total-at, total-two, over-at}
use Rattle.depot_rule.specs.lemmas.Trees.{cover-excludes}

pub at-length : {A : Type 0} (l : List A) (i : ℕ) (x : A) → get_elem? l i ≡ some x → i < length l
at-length [] i x e = absurd (some-ne-none x (sym e))
at-length (y ∷ ys) zero x e = omega arith
at-length (y ∷ ys) (suc i) x e = let r = at-length ys i x e in omega arith

module _ (P E : Type 0) where
  abbrev Views : Type 0
  Views = List (List (View P E))

  -- a grant claims its node, and has a share in each node above it
  pub claims-own : (v : View P E) (b : ℕ) (g : List (Option P)) → get_elem? v.held b ≡ some (Some g) → 1 ≤ claims b v
  claims-own v b g here = let o = over-at (λ c. one_if (eqb c b)) v.held b g here in let one = one-same b b refl in omega arith

  pub lower-own : (ps : List ℕ) (v : View P E) → IsWellFormed ps v → (a b : ℕ) (g : List (Option P)) → get_elem? v.held b ≡ some (Some g)
      → tally a (ancestors ps b) ≤ lower a v
  lower-own ps v s a b g here =
      let o = over-at (λ c. tally a (ancestors v.tree c)) v.held b g here in let t : tally a (ancestors v.tree b) ≡ tally a (ancestors ps b) = ap
      (λ (q : List ℕ). tally a (ancestors q b)) s.tree in omega arith

  claimed-once : (ps ws : List ℕ) (views : Views) (r : Shares ps ws views) (a : ℕ) → 0 < a → a < length ps → total (total (claims a)) views ≤ 1
  claimed-once ps ws views r a pos lt = dite (ℕ_discrete (total (total (claims a)) views) 0) (λ z. omega arith) (λ nz.
      let l = r.alone a pos lt (omega arith) in let one = l.0 in omega arith)

  -- no grant's node is above another's, in any two views
  apart : (ps ws : List ℕ) (views : Views) (r : Shares ps ws views) (j k x y a b : ℕ) (vs us : List (View P E)) (v u : View P E)
      (g h : List (Option P)) → 0 < a
      → get_elem? views j ≡ some vs → get_elem? vs x ≡ some v → get_elem? v.held a ≡ some (Some g)
      → get_elem? views k ≡ some us → get_elem? us y ≡ some u → get_elem? u.held b ≡ some (Some h)
      → tally a (ancestors ps b) ≡ 0
  apart ps ws views r j k x y a b vs us v u g h pos at in_vs here at' in_us there =
      let lt' = at-length v.held a (Some g) here in let wide = (r.sound j vs at x v in_vs).wide in let lt : a < length ps = omega arith in
      let c = claims-own v a g here in
      let c' = total-at (claims a) vs x v in_vs in let c'' = total-at (total (claims a)) views j vs at in
      let l = r.alone a pos lt (omega arith) in let none = l.1 in
      let e = lower-own ps u (r.sound k us at' y u in_us) a b h there in
      let e' = total-at (entered a) us y u in_us in let e'' = total-at (total (entered a)) views k us at' in omega arith

  -- two grants that cover one node are one grant
  pub covers-one : (ps ws : List ℕ) (views : Views) (r : Shares ps ws views) (j j' i i' b c k : ℕ) (vs us : List (View P E)) (v u : View P E)
      (g h : List (Option P)) → 0 < b → 0 < c
      → get_elem? views j ≡ some vs → get_elem? vs i ≡ some v → get_elem? v.held b ≡ some (Some g)
      → get_elem? views j' ≡ some us → get_elem? us i' ≡ some u → get_elem? u.held c ≡ some (Some h)
      → Covers ps b k → Covers ps c k
      → (j ≡ j') × (i ≡ i') × (b ≡ c)
  covers-one ps ws views r j j' i i' b c k vs us v u g h pb pc at in_vs here at' in_us there cb cc' =
      let lt' = at-length v.held b (Some g) here in let wide = (r.sound j vs at i v in_vs).wide in let lt : b < length ps = omega arith in
      let most = claimed-once ps ws views r b pb lt in
      ⊎_elim
      (λ (e : b ≡ c).
      let m = claims-own v b g here in
      let m' : 1 ≤ claims b u = claims-own u b h (ap (get_elem? u.held) e ∙ there) in
      let s = total-at (claims b) vs i v in_vs in let s' = total-at (claims b) us i' u in_us in
      dite (ℕ_discrete j j')
      (λ same. dite (ℕ_discrete i i')
      (λ same'. (same, same', e))
      (λ ne.
      let is : some us ≡ some vs = sym at' ∙ (sym (ap (get_elem? views) same) ∙ at) in
      let in_vs' : get_elem? vs i' ≡ some u = sym (ap (λ (zs : List (View P E)). get_elem? zs i') (some-injective us vs is)) ∙ in_us in
      let two = total-two (claims b) vs i i' v u in_vs in_vs' ne in let s'' = total-at (total (claims b)) views j vs at in absurd (omega arith)))
      (λ ne. let two = total-two (total (claims b)) views j j' vs us at at' ne in absurd (omega arith)))
      (λ (o : (0 < tally b (ancestors ps c)) ⊎ (0 < tally c (ancestors ps b))). ⊎_elim
      (λ (t : 0 < tally b (ancestors ps c)). let z = apart ps ws views r j j' i i' b c vs us v u g h pb at in_vs here at' in_us there in absurd (omega arith))
      (λ (t : 0 < tally c (ancestors ps b)). let z = apart ps ws views r j' j i' i c b us vs u v h g pc at' in_us there at in_vs here in absurd
      (omega arith)) o)
      (cover-excludes ps r.tree b c k cb cc')
