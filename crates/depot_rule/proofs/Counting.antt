-- The ticket counts the entries of the one history.
use Rattle.std.proofs.Common.{◌≡◌, ℕ, zero, suc, ◌<◌, ltb, List, [], ◌∷◌, length, refl, ap, ◌∙◌, arith, Some, Option}
use Rattle.std.specs.Prelude.{slice_get}
use mathlib.Core.Option.{some}
use lib.ListN.{get_elem?}
use Rattle.depot_rule.specs.declared.view.View.{View}
use Rattle.depot_rule.specs.declared.view.Entry.{Entry}
use Rattle.affinity.specs.Ancestors.{one_if, tally}
use Rattle.depot_rule.specs.Sums.{total}
use Rattle.depot_rule.specs.Shares.{Each, made}
use Rattle.depot_rule.specs.History.{Behaviour, or_nothing, chosen}
use Rattle.depot_rule.specs.Laws.{HistoryIsOne, OnlySeatHasAll}
use Rattle.depot_rule.specs.lemmas.Sums.{one-same}
use Rattle.atomic_table.specs.Table.{State}
use Rattle.depot_rule.specs.Rule.{Rule}
use Rattle.depot_rule.proofs.Views.{few-entries}
use Rattle.depot_rule.proofs.Whole.{only-mine, only-log}
use Rattle.affinity.specs.declared.affinity.Kind.{Kind}

total-ones : {A : Type 0} (xs : List A) → total (λ x. 1) xs ≡ length xs
total-ones [] = refl
total-ones (x ∷ xs) = let r = total-ones xs in omega arith

get-some : {A : Type 0} (xs : List A) (p : ℕ) → p < length xs → (x : A) × (slice_get xs p ≡ Some x)
get-some [] p lt = absurd (omega arith)
get-some (x ∷ xs) zero lt = (x, refl)
get-some (x ∷ xs) (suc p) lt = get-some xs p (omega arith)

-- as many entries as places, where all are in the list
chosen-ones : {A : Type 0} (xs : List A) (ps : List ℕ) → ((p : ℕ) → 0 < tally p ps → p < length xs) → total (λ x. 1) (chosen xs ps) ≡ length ps
chosen-ones xs [] within = refl
chosen-ones xs (p ∷ ps) within =
    let one = one-same p p refl in
    let here = get-some xs p (within p (omega arith)) in
    let r = chosen-ones xs ps (λ q some_q. within q (omega arith)) in
    let e : total (λ x. 1) (or_nothing (slice_get xs p) (chosen xs ps)) ≡ total (λ x. 1) (or_nothing (Some here.0) (chosen xs ps)) = ap
    (λ o. total (λ x. 1) (or_nothing o (chosen xs ps))) here.1 in omega arith

module _ {V : Type 0} (f g : V → ℕ) where
  total-one-seat : (vs : List V) → ((i : ℕ) (v : V) → get_elem? vs i ≡ some v → f v ≡ g v) → total f vs ≡ total g vs
  total-one-seat [] same = refl
  total-one-seat (v ∷ vs) same = let a = same 0 v refl in let r = total-one-seat vs (λ i u e. same (suc i) u e) in omega arith

  total-each : (views : List (List V)) → Each (λ v. f v ≡ g v) views → total (total f) views ≡ total (total g) views
  total-each [] same = refl
  total-each (vs ∷ views) same = let a = total-one-seat vs (same 0 vs refl) in let r = total-each views (λ j us e. same (suc j) us e) in omega arith

pub history-length : (P C R B : Type 0) (kind_of : P → Kind) (m : Behaviour P C R B) (ps : List ℕ) (first : List (Option P))
    (s : State (Option P) (List (View P (Entry P C R)))) (r : Rule kind_of m ps first s) → total (total made) s.views ≡ length r.history.log
history-length P C R B kind_of m ps first s r =
    let h = r.history in
    let each = total-each (λ (v : View P (Entry P C R)). total (λ x. 1) (chosen v.seen v.mine)) (λ (v : View P (Entry P C R)). length v.mine) s.views
    (λ j vs at i v in_vs. chosen-ones v.seen v.mine (h.own j vs at i v in_vs).1) in
    let ones = h.shared (λ x. 1) in let all = total-ones h.log in
    let count : total (total made) s.views ≡ length h.log = omega arith in count

pub is-one : (P C R B : Type 0) (kind_of : P → Kind) (m : Behaviour P C R B) → HistoryIsOne kind_of m
is-one P C R B kind_of m ps first s r =
    let count = history-length P C R B kind_of m ps first s r in let f = few-entries P (Entry P C R) ps s.words s.views r.base.shares in
    (r.history, r.base.shares.ticket ∙ count, (let few : length r.history.log < 4611686018427687904 = omega arith in few))

pub has-all : (P C R B : Type 0) (kind_of : P → Kind) (m : Behaviour P C R B) → OnlySeatHasAll kind_of m
has-all P C R B kind_of m ps first s r id v at all =
    let log = only-log P C R B kind_of m ps first s r.base r.history id v at all in
    (log, λ p. only-mine P C R B kind_of m ps first s r.base r.history id v at all p ∙ ap (λ (l : List (Entry P C R)). one_if (ltb p (length l))) log)
