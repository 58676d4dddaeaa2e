-- Hands: what a seat's entries took and didn't give, and what those of all others did.
use Rattle.std.proofs.Common.{◌≡◌, ℕ, ◌+◌, suc, List, [], ◌∷◌, ◌++◌, set, refl, arith, Option}
use mathlib.Core.Option.{some}
use lib.ListN.{get_elem?}
use Rattle.atomic_table.specs.Table.{State}
use Rattle.depot_rule.specs.declared.view.View.{View}
use Rattle.depot_rule.specs.declared.view.Entry.{Entry}
use Rattle.depot_rule.specs.Sums.{total}
use Rattle.depot_rule.specs.Shares.{Each}
use Rattle.depot_rule.specs.History.{Behaviour, History, IsHistory, batches_of, chosen, AreHands}
use Rattle.depot_rule.specs.lemmas.Sums.{total-set, total-append, total-same}
use Rattle.depot_rule.proofs.Views.{All, all-none, each-set}
use Rattle.depot_rule.proofs.Chosen.{moved-weigh}
use Rattle.depot_rule.proofs.Remembering.{HasHand}

module _ (P C R B : Type 0) (m : Behaviour P C R B) (ps : List ℕ) (first : List (Option P)) where
  abbrev E : Type 0
  E = Entry P C R

  abbrev given : (B → ℕ) → View P E → ℕ
  given weigh v = total weigh (batches_of m.gives (chosen v.seen v.mine))

  abbrev taken : (B → ℕ) → View P E → ℕ
  taken weigh v = total weigh (batches_of m.takes (chosen v.seen v.mine))

  -- all hands of one seat's views, and of some seats'
  hands-of : (vs : List (View P E)) → All (HasHand P C R B m ps first) vs → (hands : List B)
      × ((weigh : B → ℕ) → total (given weigh) vs + total weigh hands ≡ total (taken weigh) vs)
  hands-of [] all = ([], λ weigh. refl)
  hands-of (v ∷ vs) all =
      let own = all 0 v refl in let rest = hands-of vs (λ i u e. all (suc i) u e) in
      (own.0 ++ rest.0, λ weigh. let a = own.1 weigh in let b = rest.1 weigh in let c = total-append weigh own.0 rest.0 in omega arith)

  hands-all : (views : List (List (View P E))) → Each (HasHand P C R B m ps first) views → (hands : List B)
      × ((weigh : B → ℕ) → total (total (given weigh)) views + total weigh hands ≡ total (total (taken weigh)) views)
  hands-all [] each = ([], λ weigh. refl)
  hands-all (vs ∷ views) each =
      let own = hands-of vs (each 0 vs refl) in let rest = hands-all views (λ j us e. each (suc j) us e) in
      (own.0 ++ rest.0, λ weigh. let a = own.1 weigh in let b = rest.1 weigh in let c = total-append weigh own.0 rest.0 in omega arith)

  -- two ways to weigh a view's entries
  total-alike : (weigh : E → ℕ) (f : View P E → ℕ) → ((u : View P E) → f u ≡ total weigh (chosen u.seen u.mine)) → (views : List (List (View P E)))
      → total (total f) views ≡ total (total (λ (u : View P E). total weigh (chosen u.seen u.mine))) views
  total-alike weigh f same views = total-same (total f) (total (λ (u : View P E). total weigh (chosen u.seen u.mine)))
      (total-same f (λ (u : View P E). total weigh (chosen u.seen u.mine)) same) views

  -- the hands of all seats but one are the rest of all hands
  pub other-hands : (s : State (Option P) (List (View P E))) (h : History m ps first s) (id : ℕ) (v : View P E) → get_elem? s.views id ≡ some
      (v ∷ []) → (own : List B) → AreHands m.takes m.gives (chosen v.seen v.mine) own
      → (others : List B) × ((weigh : B → ℕ) → total weigh own + total weigh others ≡ total weigh h.hands)
  other-hands s h id v at own mine =
      let rest = hands-all (set s.views id []) (each-set (HasHand P C R B m ps first) s.views id [] h.hand (all-none (HasHand P C R B m ps first))) in (
        rest.0,
        λ weigh.
            let o = rest.1 weigh in let q = h.all_hands weigh in let i = mine weigh in
            let g_all = h.shared (λ (d : E). total weigh (m.gives d.call d.reply)) in let t_all = h.shared (λ (d : E). total weigh (m.takes d.call d.reply)) in
            let g_log = moved-weigh m.gives weigh h.log in let t_log = moved-weigh m.takes weigh h.log in
            let g_each = total-alike (λ (d : E). total weigh (m.gives d.call d.reply)) (given weigh)
            (λ u. moved-weigh m.gives weigh (chosen u.seen u.mine)) s.views in
            let t_each = total-alike (λ (d : E). total weigh (m.takes d.call d.reply)) (taken weigh)
            (λ u. moved-weigh m.takes weigh (chosen u.seen u.mine)) s.views in
            let g_rest = total-set (total (given weigh)) s.views id (v ∷ []) [] at in let t_rest = total-set (total (taken weigh)) s.views id
            (v ∷ []) [] at in omega arith,
      )

  -- the history is a whole one for each seat
  pub is-history : (s : State (Option P) (List (View P E))) (h : History m ps first s) (id : ℕ) (v : View P E) → get_elem? s.views id ≡ some (v ∷ [])
      → IsHistory m ps first v h.log
  is-history s h id v at =
      let own = h.hand id (v ∷ []) at 0 v refl in let others = other-hands s h id v at own.0 own.1 in record {
        begins = h.seen id (v ∷ []) at 0 v refl;
        legal = h.legal;
        hands = h.hands;
        all_hands = h.all_hands;
        sound = h.sound;
        throughout = h.throughout;
        hand = own.0;
        own_hand = own.1;
        others = others.0;
        together = others.1;
      }
