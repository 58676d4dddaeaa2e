-- What two seats have seen, and their entries, where they meet or are joined.
use Rattle.std.proofs.Common.{◌≡◌, ◌≢◌, ℕ, ◌+◌, ◌<◌, ◌≤◌, ltb, Bool, true, false, List, [], ◌∷◌, ◌++◌, length, sym, refl, ap, ◌∙◌, subst, arith, Option}
use Rattle.std.proofs.lemmas.Bool.{ltb-true, ltb-false}
use mathlib.Core.Option.{some}
use mathlib.Core.Logic.{dite}
use native.Mathlib.Decide.{ℕ_discrete}
use lib.ListN.{get_elem?}
use Rattle.atomic_table.specs.Table.{State}
use Rattle.depot_rule.specs.declared.view.View.{View}
use Rattle.depot_rule.specs.declared.view.Entry.{Entry}
use Rattle.affinity.specs.Ancestors.{tally}
use Rattle.depot_rule.specs.Sums.{total}
use Rattle.depot_rule.specs.Seats.{if_less, longer, in_order, having_seen, merge}
use Rattle.depot_rule.specs.History.{Behaviour, History, chosen, AreHands, StartsWith}
use Rattle.depot_rule.specs.lemmas.Sums.{one-most, total-two, total-append}
use Rattle.depot_rule.proofs.Chosen.{chosen-within, weigh-in-order, moved-weigh, tally-in-order, ascends-in-order}
use Rattle.depot_rule.proofs.Remembering.{Own, HasHand}

less-cases : {A : Type 0} (b : Bool) (less others : List A) (Q : List A → Type 0) → (b ≡ true → Q less) → (b ≡ false → Q others) → Q (if_less b less others)
less-cases true less others Q e f = e refl
less-cases false less others Q e f = f refl

module _ {A : Type 0} where
  longer-first : (xs ys : List A) → length xs ≤ length (longer xs ys)
  longer-first xs ys = less-cases (ltb (length xs) (length ys)) ys xs (λ l. length xs ≤ length l) (λ e.
      let lt = ltb-true (length xs) (length ys) e in omega arith) (λ e. omega arith)

  longer-second : (xs ys : List A) → length ys ≤ length (longer xs ys)
  longer-second xs ys = less-cases (ltb (length xs) (length ys)) ys xs (λ l. length ys ≤ length l) (λ e. omega arith) (λ e. ltb-false (length xs) (length ys) e)

  longer-one : (Q : List A → Type 0) (xs ys : List A) → Q xs → Q ys → Q (longer xs ys)
  longer-one Q xs ys p q = less-cases (ltb (length xs) (length ys)) ys xs Q (λ e. q) (λ e. p)

module _ (P C R B : Type 0) (m : Behaviour P C R B) (ps : List ℕ) (first : List (Option P)) where
  abbrev E : Type 0
  E = Entry P C R

  module _ (s : State (Option P) (List (View P E))) (h : History m ps first s) where
    -- a seat with a longer beginning of the history
    module _ (id : ℕ) (vs : List (View P E)) (i : ℕ) (v : View P E) (at : get_elem? s.views id ≡ some vs) (in_vs : get_elem? vs i ≡ some v)
        (es : List E) (begins : StartsWith h.log es) (long : length v.seen ≤ length es) where
      within-longer : (p : ℕ) → 0 < tally p v.mine → p < length es
      within-longer p some_p = let o = (h.own id vs at i v in_vs).1 p some_p in omega arith

      chosen-longer : chosen es v.mine ≡ chosen v.seen v.mine
      chosen-longer = sym (chosen-within h.log es v.mine begins within-longer) ∙ chosen-within h.log v.seen v.mine (h.seen id vs at i v in_vs)
          (h.own id vs at i v in_vs).1

      longer-own : Own P C R B m ps first (having_seen es v)
      longer-own = ((h.own id vs at i v in_vs).0, within-longer)

      longer-hand : HasHand P C R B m ps first (having_seen es v)
      longer-hand = let q = h.hand id vs at i v in_vs in (q.0, subst (λ l. AreHands m.takes m.gives l q.0) (sym chosen-longer) q.1)

    -- two seats
    module _ (id : ℕ) (vs : List (View P E)) (i : ℕ) (v : View P E) (at : get_elem? s.views id ≡ some vs) (in_vs : get_elem? vs i ≡ some v)
        (other : ℕ) (ws : List (View P E)) (j : ℕ) (w : View P E) (at' : get_elem? s.views other ≡ some ws) (in_ws : get_elem? ws j ≡ some w) where
      abbrev both : List E
      both = longer v.seen w.seen

      pub both-begin : StartsWith h.log both
      both-begin = longer-one (λ l. StartsWith h.log l) v.seen w.seen (h.seen id vs at i v in_vs) (h.seen other ws at' j w in_ws)

      pub first-chosen : chosen both v.mine ≡ chosen v.seen v.mine
      first-chosen = chosen-longer id vs i v at in_vs both both-begin (longer-first v.seen w.seen)

      pub second-chosen : chosen both w.mine ≡ chosen w.seen w.mine
      second-chosen = chosen-longer other ws j w at' in_ws both both-begin (longer-second v.seen w.seen)

      pub first-met : Own P C R B m ps first (having_seen both v) × HasHand P C R B m ps first (having_seen both v)
      first-met = (
        longer-own id vs i v at in_vs both both-begin (longer-first v.seen w.seen),
        longer-hand id vs i v at in_vs both both-begin
            (longer-first v.seen w.seen),
      )

      pub second-met : Own P C R B m ps first (having_seen both w) × HasHand P C R B m ps first (having_seen both w)
      second-met = (
        longer-own other ws j w at' in_ws both both-begin (longer-second v.seen w.seen),
        longer-hand other ws j w at' in_ws both
            both-begin (longer-second v.seen w.seen),
      )

      -- the entries of the two as one's
      pub merged-weigh : (weigh : E → ℕ) → total weigh (chosen both (in_order v.mine w.mine)) ≡ total weigh (chosen v.seen v.mine) + total weigh
          (chosen w.seen w.mine)
      merged-weigh weigh =
          let a = weigh-in-order weigh both v.mine w.mine in
          let b : total weigh (chosen both v.mine) ≡ total weigh (chosen v.seen v.mine) = ap (total weigh) first-chosen in
          let c : total weigh (chosen both w.mine) ≡ total weigh (chosen w.seen w.mine) = ap (total weigh) second-chosen in omega arith

      pub merged-own : ((p : ℕ) → tally p v.mine + tally p w.mine ≤ 1) → Own P C R B m ps first (merge v w)
      merged-own not_both = (
        ascends-in-order v.mine w.mine (h.own id vs at i v in_vs).0 (h.own other ws at' j w in_ws).0 not_both,
        λ p some_p. let t = tally-in-order p v.mine w.mine in dite (ℕ_discrete (tally p v.mine) 0)
            (λ z. within-longer other ws j w at' in_ws both both-begin (longer-second v.seen w.seen) p (omega arith))
            (λ nz. within-longer id vs i v at in_vs both both-begin (longer-first v.seen w.seen) p (omega arith)),
      )

      pub merged-hand : HasHand P C R B m ps first (merge v w)
      merged-hand =
          let a = h.hand id vs at i v in_vs in let b = h.hand other ws at' j w in_ws in (
            a.0 ++ b.0,
            λ weigh.
                let g = merged-weigh (λ (d : E). total weigh (m.gives d.call d.reply)) in let t = merged-weigh
                (λ (d : E). total weigh (m.takes d.call d.reply)) in
                let g_both = moved-weigh m.gives weigh (chosen both (in_order v.mine w.mine)) in let t_both = moved-weigh m.takes weigh
                (chosen both (in_order v.mine w.mine)) in
                let g_first = moved-weigh m.gives weigh (chosen v.seen v.mine) in let t_first = moved-weigh m.takes weigh (chosen v.seen v.mine) in
                let g_second = moved-weigh m.gives weigh (chosen w.seen w.mine) in let t_second = moved-weigh m.takes weigh (chosen w.seen w.mine) in
                let x = a.1 weigh in let y = b.1 weigh in let c = total-append weigh a.0 b.0 in omega arith,
          )

    -- no place is two seats'
    pub not-both : (id : ℕ) (v : View P E) (other : ℕ) (w : View P E) → get_elem? s.views id ≡ some (v ∷ []) → get_elem? s.views other ≡ some
        (w ∷ []) → id ≢ other → (p : ℕ) → tally p v.mine + tally p w.mine ≤ 1
    not-both id v other w at at' ne p =
        let two = total-two (total (λ (u : View P E). tally p u.mine)) s.views id other (v ∷ []) (w ∷ []) at at' ne in
        let q = h.mine p in let o = one-most (ltb p (length h.log)) in omega arith
