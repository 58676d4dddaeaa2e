-- What the only seat learns where it isn't granted.
use Rattle.std.proofs.Common.{◌≡◌, ◌≢◌, ℕ, zero, suc, ◌<◌, ◌≤◌, eqb, List, length, sym, refl, ap, ◌∙◌, arith, subst, Option, inl, inr}
use mathlib.Core.Logic.{dite}
use native.Mathlib.Decide.{ℕ_discrete}
use lib.ListN.{get_elem?}
use Rattle.depot_rule.specs.declared.view.View.{View}
use Rattle.affinity.specs.Ancestors.{one_if, tally, IsTree, ancestors, Excludes}
use Rattle.depot_rule.specs.Shares.{exclusive, Has, claims, lower, shares, IsWellFormed}
use Rattle.depot_rule.specs.lemmas.Sums.{one-is, one-other, over-some}
use Rattle.depot_rule.specs.lemmas.Trees.{not-above}
use Rattle.depot_rule.proofs.Views.{few-shares}

module _ (P E : Type 0) where
  -- a word that is all its own, found exclusive: it has a grant of that very node
  pub own-claim : (ps : List ℕ) → IsTree ps → length ps ≤ 1024 → (a : ℕ) (v : View P E) → IsWellFormed ps v → exclusive ≤ shares a v → v.parts ≡ 64
      → (g : List (Option P)) × Has v a g
  own-claim ps t few a v s full all =
      let f = few-shares P E ps t few a v s in
      let r = over-some (λ b. one_if (eqb b a)) v.held (omega arith) in
      (r.1, ap (get_elem? v.held) (sym (one-is r.0 a r.3)) ∙ r.2)

  -- the node's own word, found not 0: it has a grant of the node or of one below
  pub own-or-below : (ps : List ℕ) → IsTree ps → (b : ℕ) (v : View P E) → IsWellFormed ps v → ((a : ℕ) → tally a v.path ≡ tally a (ancestors ps b))
      → v.unsure ≡ 0 → 0 < b → shares b v ≢ 0
      → (c : ℕ) × (g : List (Option P)) × Has v c g × Excludes ps b c
  own-or-below ps t b v s path calm pos busy =
      let p = path b in let n = not-above ps t b in let u = one-other v.unsure b (λ e. omega arith) in
      dite (ℕ_discrete (claims b v) 0)
      (λ z. let r = over-some (λ c. tally b (ancestors v.tree c)) v.held (some-lower (lower b v) (claims b v) (λ h. busy (omega arith))) in
      (r.0, r.1, r.2, inr (inl (subst (λ (q : List ℕ). 0 < tally b (ancestors q r.0)) s.tree r.3))))
      (λ nz. let r = over-some (λ c. one_if (eqb c b)) v.held (omega arith) in (r.0, r.1, r.2, inl (sym (one-is r.0 b r.3))))
    where
      some-lower : (m n : ℕ) → (m ≡ 0 → ⊥) → 0 < m
      some-lower zero n h = absurd (h refl)
      some-lower (suc m) n h = omega arith
