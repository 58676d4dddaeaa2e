-- The oldest reply that waits for a connection, taken.
use Rattle.std.proofs.Common.{◌≡◌, ℕ, ◌==◌, Bool, true, List, [], ◌∷◌, drop, Option, Some, None, if◌then◌else◌, refl}
use Rattle.std.proofs.Common.{sym, ap, subst, ◌∙◌, arith}
use Rattle.std.specs.Prelude.{MatchOption}
use Rattle.std.specs.Option.{option_map}
use Rattle.std.specs.FinMap.{get}
use Rattle.std.proofs.lemmas.Bool.Decides.{nat_tests}
use Rattle.nfs_model.specs.volume.lemmas.Numbered.{get-changed_at}
use Rattle.outboxes.specs.Boxes.{Boxes, first_in, oldest, taken}
use Rattle.outboxes.specs.Messages.{ReplyMessage}
use Rattle.front_rows.specs.Leaving.{HasLeft, IsEmpty, list_in, waits}

own : (k : ℕ) → (k == k) ≡ true
own k = grind (arith, nat_tests)

waits-taken : (k : ℕ) (b : Boxes) → waits k (taken k b) ≡ list_in (option_map (drop 1) (get b.waiting k))
waits-taken k b =
    ap list_in (get-changed_at (drop 1) k b.waiting k
    ∙ ap (λ (t : Bool). if t then option_map (drop 1) (get b.waiting k) else get b.waiting k) (own k))

by-found : (k : ℕ) (b : Boxes) (found : Option (List ReplyMessage)) → get b.waiting k ≡ found
    → list_in (option_map (drop 1) found) ≡ waits k (taken k b)
    → MatchOption (first_in found) (HasLeft k b [] k (taken k b)
    × IsEmpty k (taken k b)) (λ m. HasLeft k b (m ∷ []) k (taken k b))
by-found k b None e h = ((refl, ap list_in e ∙ h), sym h)
by-found k b (Some []) e h = ((refl, ap list_in e ∙ h), sym h)
by-found k b (Some (m ∷ ms)) e h = (refl, ap list_in e ∙ ap (λ (l : List ReplyMessage). m ∷ l) h)

pub took : (k : ℕ) (b b' : Boxes) (r : Option ReplyMessage) → r ≡ oldest k b → b' ≡ taken k b
    → MatchOption r (HasLeft k b [] k b' × IsEmpty k b') (λ m. HasLeft k b (m ∷ []) k b')
took k b b' r e f =
    let all = by-found k b (get b.waiting k) refl (sym (waits-taken k b)) in
    let there = subst (λ (x : Option ReplyMessage). MatchOption x (HasLeft k b [] k (taken k b)
    × IsEmpty k (taken k b)) (λ m. HasLeft k b (m ∷ []) k (taken k b))) (sym e) all in
    subst (λ (x : Boxes). MatchOption r (HasLeft k b [] k x × IsEmpty k x) (λ m. HasLeft k b (m ∷ []) k x)) (sym f) there
