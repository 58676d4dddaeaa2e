-- Lemmas alone, which no reader has to believe. What holds of takings and givings: the laws of a shelf whose parcels are a grant's.
use Rattle.std.proofs.Common.{◌≡◌, ℕ, List, [], ◌∷◌, ◌++◌, length, sym, refl, ap, ◌∙◌, subst, arith, append_assoc}
use Rattle.depot_rule.specs.declared.view.View.{View}
use Rattle.depot_rule.specs.Seats.{view_of}
use Rattle.depot.specs.Holds.{Lists, Handled}

module _ {P E : Type 0} where
  pub handled-itself : (b : ℕ) (vs : List (View P E)) → length vs ≡ 1 → Handled b vs vs
  handled-itself b [] one = absurd (omega arith)
  handled-itself b (v ∷ []) one = (v.gone, [], refl, λ k no. refl)
  handled-itself b (v ∷ u ∷ us) one = absurd (omega arith)

  pub handled-on : (b : ℕ) (us vs ws : List (View P E)) → Handled b us vs → Handled b vs ws → Handled b us ws
  handled-on b us vs ws h again =
      let k = subst (λ (xs : List (View P E)). Handled b xs ws) h.2 again in (
        k.0,
        k.1 ++ h.1,
        k.2 ∙ ap (λ rs. let z : View P E = record (view_of us) { gone = k.0; reads = rs } in z ∷ []) (sym (append_assoc k.1 h.1 (view_of us).reads)),
        λ n no. k.3 n no ∙ h.3 n no,
      )

  pub lists-still : (b k : ℕ) (p : P) (vs ws : List (View P E)) → Handled b vs ws → Lists (view_of vs) b k p → Lists (view_of ws) b k p
  lists-still b k p vs ws h l = subst (λ (xs : List (View P E)). Lists (view_of xs) b k p) (sym h.2) l
