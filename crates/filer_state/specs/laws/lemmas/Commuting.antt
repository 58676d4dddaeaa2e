-- Local steps at nodes that don't exclude each other commute.
use Rattle.std.proofs.Common.{◌≡◌, ℕ, Bool, true, false, Option, refl, sym, ◌∙◌, subst}
use Rattle.affinity.specs.Ancestors.{Covers}
use Rattle.depot_rule.specs.Seats.{if_less}
use Rattle.depot_rule.specs.History.{covers, patched, Steps}
use Rattle.depot_rule.specs.Machine.{IsLocal}
use Rattle.depot_rule.specs.lemmas.Covering.{covers-true, true-covers, patched-out}
use Rattle.depot_rule.specs.lemmas.Trees.{cover-excludes}
use Rattle.filer_state.specs.state.Commute.{Commute}

module _ {P C R : Type 0} (steps : Steps P C R) (local : IsLocal steps) where
  pub local-commute : Commute steps
  local-commute ps tree a b apart c d r s f f' f'' one two =
      let first = local ps a c f f r f' one in
      let g : ℕ → Option P = patched ps b f'' f in
      let second = local ps b d f' f s f'' two in
      let not_both : (k : ℕ) → Covers ps a k → Covers ps b k → ⊥ = λ k x y. apart (cover-excludes ps tree a b k x y) in
      let again = local ps a c f g r f' one in (
        g,
        second.1 (λ k cover. sym (first.0 k (λ x. not_both k x cover))),
        subst (λ (h : ℕ → Option P). steps ps a c g r h)
            (λ i k. same k (covers ps a k) (covers ps b k) (λ e. covers-true ps a k e) (λ e. true-covers ps a k e) (λ e. covers-true ps b k e)
            (λ e. true-covers ps b k e)
            first.0 second.0 not_both i)
            (again.1 (λ k cover. patched-out ps b f'' f k (λ y. not_both k cover y))),
      )
    where
      same : (k : ℕ) (x y : Bool) → (x ≡ true → Covers ps a k) → (Covers ps a k → x ≡ true) → (y ≡ true → Covers ps b k) → (Covers ps b k → y ≡ true)
          → ((n : ℕ) → (Covers ps a n → ⊥) → f' n ≡ f n) → ((n : ℕ) → (Covers ps b n → ⊥) → f'' n ≡ f' n) → ((n : ℕ) → Covers ps a n → Covers ps b n → ⊥)
          → if_less x (f' k) (if_less y (f'' k) (f k)) ≡ f'' k
      same k true y in_a from_a in_b from_b first second both = sym (second k (λ z. both k (in_a refl) z))
      same k false true in_a from_a in_b from_b first second both = refl
      same k false false in_a from_a in_b from_b first second both =
          sym (second k (λ z. let e = from_b z in cc) ∙ first k (λ z. let e = from_a z in cc))
