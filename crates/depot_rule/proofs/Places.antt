-- What is said of a seat with one view.
use Rattle.std.proofs.Common.{◌≡◌, List, [], ◌∷◌, length, sym, refl, subst, arith}
use Rattle.depot_rule.specs.declared.view.View.{View}
use Rattle.depot_rule.specs.Seats.{OnOne, view_of}

module _ {P E : Type 0} where
  pub on-one : (Q : View P E → Type 0) (vs : List (View P E)) (v : View P E) → vs ≡ v ∷ [] → Q v → OnOne Q vs
  on-one Q vs v e q = subst (OnOne Q) (sym e) q

  pub of-one : (Q : View P E → Type 0) (vs : List (View P E)) (v : View P E) → vs ≡ v ∷ [] → OnOne Q vs → Q v
  of-one Q vs v e q = subst (OnOne Q) e q

  pub one-view : (vs : List (View P E)) → length vs ≡ 1 → vs ≡ view_of vs ∷ []
  one-view [] e = absurd (omega arith)
  one-view (v ∷ []) e = refl
  one-view (v ∷ u ∷ us) e = absurd (omega arith)
