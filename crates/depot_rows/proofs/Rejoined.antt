-- A seat that was split and joined again has no grant, if it had none.
use Rattle.std.proofs.Common.{◌≡◌, ℕ, List, length, ap, ◌∙◌, subst, ⊎_elim, Option, Some}
use mathlib.Core.Option.{some}
use lib.ListN.{get_elem?}
use Rattle.depot_rule.specs.declared.view.View.{View}
use Rattle.depot_rule.specs.Shares.{Has, opening_view}
use Rattle.depot_rule.specs.Seats.{fresh, merge}
use Rattle.depot_rule.proofs.Joining.{none-held, held-of}

module _ {P E : Type 0} where
  pub rejoined-none : (ps : List ℕ) (first : List (Option P)) (n : ℕ) (v a b j : View P E) → v ≡ opening_view ps first → a ≡ record v { parts = n }
      → b ≡ fresh v → j ≡ merge a b
      → (k : ℕ) (g : List (Option P)) → Has j k g → ⊥
  rejoined-none ps first n v a b j opened one other joined k g has =
      let own : View P E = record (opening_view {E = E} ps first) { parts = n } in
      let mine : (h : List (Option P)) → get_elem? a.held k ≡ some (Some h) → ⊥
      = λ h e. none-held (length ps) k h (subst (λ (x : View P E). get_elem? x.held k ≡ some (Some h))
      (one ∙ ap (λ (x : View P E). let z : View P E = record x { parts = n } in z) opened) e) in
      let others : (h : List (Option P)) → get_elem? b.held k ≡ some (Some h) → ⊥
      = λ h e. none-held (length v.tree) k h (subst (λ (x : View P E). get_elem? x.held k ≡ some (Some h)) other e) in
      let both = subst (λ (x : View P E). get_elem? x.held k ≡ some (Some g)) joined has in
      ⊎_elim (mine g) (others g) (held-of a.held b.held k g both)
