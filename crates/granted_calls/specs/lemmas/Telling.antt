-- Answers that a sink took as they are told add up.
use Rattle.std.proofs.Common.{◌≡◌, List, [], ◌∷◌, ◌++◌, map, refl, sym, ap, subst}
use Rattle.rpc_msg.specs.declared.handle_form.HandleForm.{HandleForm}
use Rattle.outboxes.specs.Boxes.{Addressed}
use Rattle.granted_calls.specs.Telling.{answer_told, TookTold}

pub told-append : (form : HandleForm) (xs ys : List Addressed)
    → map (answer_told form) (xs ++ ys) ≡ map (answer_told form) xs ++ map (answer_told form) ys
told-append form [] ys = refl
told-append form (x ∷ xs) ys = ap (λ (l : List Addressed). answer_told form x ∷ l) (told-append form xs ys)

module _ {S : Type 0} (form : HandleForm) (took : S → List Addressed → S → Type 0) where
  pub told_none : ((s : S) → took s [] s) → (s : S) → TookTold form took s [] s
  told_none none s = none s

  pub told_more : ((s t u : S) (xs ys : List Addressed) → took s xs t → took t ys u → took s (xs ++ ys) u)
      → (s t u : S) (xs ys : List Addressed) → TookTold form took s xs t → TookTold form took t ys u → TookTold form took s (xs ++ ys) u
  told_more more s t u xs ys one two =
      subst (λ (l : List Addressed). took s l u) (sym (told-append form xs ys))
      (more s t u (map (answer_told form) xs) (map (answer_told form) ys) one two)
