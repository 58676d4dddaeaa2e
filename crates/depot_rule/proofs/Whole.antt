-- The only seat has seen the whole history, and made each entry of it.
use Rattle.std.proofs.Common.{◌≡◌, ℕ, ◌<◌, ◌≤◌, ltb, List, [], ◌∷◌, ◌++◌, length, sym, refl, ap, ◌∙◌, arith, length-append, Option}
use Rattle.std.proofs.lemmas.Bool.{lt-ltb}
use mathlib.Core.Option.{some}
use native.Mathlib.Decide.{dec_lt}
use mathlib.Core.Logic.{dite}
use lib.ListN.{get_elem?}
use Rattle.atomic_table.specs.Table.{State}
use Rattle.depot_rule.specs.declared.view.View.{View}
use Rattle.depot_rule.specs.declared.view.Entry.{Entry}
use Rattle.affinity.specs.Ancestors.{one_if, tally}
use Rattle.depot_rule.specs.Rule.{Base}
use Rattle.depot_rule.specs.History.{Behaviour, History}
use Rattle.depot_rule.proofs.Views.{only-view}
use Rattle.affinity.specs.declared.affinity.Kind.{Kind}

no-longer : {A : Type 0} (xs rest : List A) → length (xs ++ rest) ≤ length xs → xs ++ rest ≡ xs
no-longer [] [] le = refl
no-longer [] (y ∷ ys) le = absurd (omega arith)
no-longer (x ∷ xs) rest le = ap (λ l. x ∷ l) (no-longer xs rest (omega arith))

pub nothing-more : {A : Type 0} (xs rest : List A) → xs ++ rest ≡ xs → rest ≡ []
nothing-more xs [] e = refl
nothing-more xs (y ∷ ys) e = let n = length-append xs (y ∷ ys) in let size : length (xs ++ y ∷ ys) ≡ length xs = ap (λ l. length l) e in absurd (omega arith)

module _ (P C R B : Type 0) (kind_of : P → Kind) (m : Behaviour P C R B) (ps : List ℕ) (first : List (Option P)) where
  abbrev E : Type 0
  E = Entry P C R

  -- each place in the history is the only seat's
  pub only-mine : (s : State (Option P) (List (View P E))) (r : Base kind_of ps first s) (h : History m ps first s) (id : ℕ) (v : View P E)
      → get_elem? s.views id ≡ some (v ∷ []) → v.parts ≡ 64
      → (p : ℕ) → tally p v.mine ≡ one_if (ltb p (length h.log))
  only-mine s r h id v at all p = sym (only-view P E ps s.words s.views r.shares id v at all (λ (u : View P E). tally p u.mine)) ∙ h.mine p

  pub only-log : (s : State (Option P) (List (View P E))) (r : Base kind_of ps first s) (h : History m ps first s) (id : ℕ) (v : View P E)
      → get_elem? s.views id ≡ some (v ∷ []) → v.parts ≡ 64 → h.log ≡ v.seen
  only-log s r h id v at all =
      let seen = h.seen id (v ∷ []) at 0 v refl in
      let below : (p : ℕ) → p < length h.log → p < length v.seen = λ p lt.
      let one : one_if (ltb p (length h.log)) ≡ 1 = ap one_if (lt-ltb p (length h.log) lt) in let t = only-mine s r h id v at all p in
      (h.own id (v ∷ []) at 0 v refl).1 p (omega arith) in
      let size : length (v.seen ++ seen.0) ≡ length h.log = ap (λ (l : List E). length l) seen.1 in
      sym seen.1 ∙ no-longer v.seen seen.0 (dite (dec_lt (length v.seen) (length h.log)) (λ lt. let bad = below (length v.seen) lt in absurd
      (omega arith)) (λ ge. omega arith))
