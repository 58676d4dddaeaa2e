-- Lists of entries of seats that are joined.
use Rattle.std.proofs.Common.{◌≡◌, ◌⊎◌, ℕ, ◌<◌, ◌≤◌, ltb, Bool, true, false, List, [], ◌∷◌, ◌++◌, map, length, refl, ap, ◌∙◌, sym, arith}
use Rattle.std.proofs.Common.{⊎_elim, length-append}
use Rattle.std.proofs.lemmas.Bool.{ltb-true, ltb-false}
use Rattle.std.proofs.lemmas.List.{append-nil}
use mathlib.Core.Logic.{dite}
use native.Mathlib.Decide.{ℕ_discrete}
use Rattle.affinity.specs.Ancestors.{tally}
use Rattle.depot_rule.specs.declared.view.View.{View}
use Rattle.depot_rule.specs.Plays.{HaveSeenOne}
use Rattle.depot_rule.specs.Seats.{if_less, longer, merge}
use Rattle.depot_rule.specs.Sums.{total}
use Rattle.depot_rule.specs.History.{Ascends, StartsWith, chosen, entries_of}
use Rattle.depot_rule.specs.Placed.{HasPlaced}
use Rattle.depot_rule.proofs.Chosen.{chosen-within, tally-in-order}

starts-itself : {A : Type 0} (xs : List A) → StartsWith xs xs
starts-itself xs = ([], append-nil xs)

-- a list that begins one that is no longer is that one
no-shorter : {A : Type 0} (xs rest ys : List A) → xs ++ rest ≡ ys → length ys ≤ length xs → StartsWith xs ys
no-shorter xs [] ys e le = ([], append-nil ys ∙ (sym e ∙ append-nil xs))
no-shorter xs (r ∷ rest) ys e le =
    let n = length-append xs (r ∷ rest) in let size : length (xs ++ r ∷ rest) ≡ length ys = ap (λ l. length l) e in absurd (omega arith)

longer-cases : {A : Type 0} (b : Bool) (xs ys : List A) → (b ≡ true → StartsWith ys xs) → (b ≡ false → StartsWith xs ys)
    → StartsWith (if_less b ys xs) xs × StartsWith (if_less b ys xs) ys
longer-cases true xs ys less more = (less refl, starts-itself ys)
longer-cases false xs ys less more = (starts-itself xs, more refl)

-- of two lists of which one begins the other both begin the longer
both-start : {A : Type 0} (xs ys : List A) → StartsWith ys xs ⊎ StartsWith xs ys → StartsWith (longer xs ys) xs × StartsWith (longer xs ys) ys
both-start xs ys either = longer-cases (ltb (length xs) (length ys)) xs ys
    (λ e. let lt = ltb-true (length xs) (length ys) e in
    ⊎_elim (λ (s : StartsWith ys xs). s) (λ (s : StartsWith xs ys). no-shorter ys s.0 xs s.1 (omega arith)) either)
    (λ e. let ge = ltb-false (length xs) (length ys) e in
    ⊎_elim (λ (s : StartsWith ys xs). no-shorter xs s.0 ys s.1 (omega arith)) (λ (s : StartsWith xs ys). s) either)

starts-long : {A : Type 0} (xs start : List A) → StartsWith xs start → length start ≤ length xs
starts-long xs start s =
    let n = length-append start s.0 in let size : length (start ++ s.0) ≡ length xs = ap (λ l. length l) s.1 in omega arith

-- what stands at a seat's places stays, where more was seen
lists-stay : {E : Type 0} → (xs start : List E) → StartsWith xs start → (mine : List ℕ) → ((p : ℕ) → 0 < tally p mine → p < length start) → (places : List (List ℕ))
    → ((p : ℕ) → total (tally p) places ≤ tally p mine) → map (chosen xs) places ≡ map (chosen start) places
lists-stay xs start s mine within [] few = refl
lists-stay xs start s mine within (ps ∷ places) few =
    let here : chosen xs ps ≡ chosen start ps = chosen-within xs start ps s (λ p some. let f = few p in within p (omega arith)) in
    let more : map (chosen xs) places ≡ map (chosen start) places =
    lists-stay xs start s mine within places (λ p. let f = few p in omega arith) in
    λ i. here i ∷ more i

module _ {P E : Type 0} where
  -- where the seat's own entries stand
  abbrev pub IsWithin : View P E → Type 0
  IsWithin v = (p : ℕ) → 0 < tally p v.mine → p < length v.seen

  -- of one seat
  pub one-placed : (v : View P E) → Ascends v.mine → HasPlaced v (entries_of v ∷ [])
  one-placed v order = (
    v.mine ∷ [],
    record { ascend = (order, tt); chosen_are = refl; each = λ p. omega arith },
  )

  -- of two that were joined
  pub both-placed : (v w : View P E) → HaveSeenOne v w → IsWithin v → IsWithin w → Ascends w.mine → (lists : List (List E)) → HasPlaced v lists
      → HasPlaced (merge v w) (entries_of w ∷ lists)
  both-placed v w one within within' order lists placed =
      let starts = both-start v.seen w.seen one in
      let here : chosen (longer v.seen w.seen) w.mine ≡ entries_of w = chosen-within (longer v.seen w.seen) w.seen w.mine starts.1 within' in
      let stay = lists-stay (longer v.seen w.seen) v.seen starts.0 v.mine within placed.0 (λ p. let e = placed.1.each p in omega arith) in
      let others : map (chosen (longer v.seen w.seen)) placed.0 ≡ lists = stay ∙ placed.1.chosen_are in (
        w.mine ∷ placed.0,
        record {
          ascend = (order, placed.1.ascend);
          chosen_are = λ i. here i ∷ others i;
          each = λ p. let t = tally-in-order p v.mine w.mine in let e = placed.1.each p in omega arith;
        },
      )

  pub both-within : (v w : View P E) → HaveSeenOne v w → IsWithin v → IsWithin w → IsWithin (merge v w)
  both-within v w one within within' p some =
      let starts = both-start v.seen w.seen one in
      let long = starts-long (longer v.seen w.seen) v.seen starts.0 in
      let long' = starts-long (longer v.seen w.seen) w.seen starts.1 in
      let t = tally-in-order p v.mine w.mine in
      dite (ℕ_discrete (tally p v.mine) 0)
      (λ z. let l = within' p (omega arith) in (let r : p < length (longer v.seen w.seen) = omega arith in r))
      (λ nz. let l = within p (omega arith) in (let r : p < length (longer v.seen w.seen) = omega arith in r))
