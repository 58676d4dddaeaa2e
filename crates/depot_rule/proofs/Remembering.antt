-- Steps that add no entry leave the history as it was.
use Rattle.std.proofs.Common.{◌≡◌, ℕ, ◌<◌, List, [], ◌∷◌, set, length, refl, ◌∙◌, arith, Option}
use mathlib.Core.Option.{some}
use mathlib.Core.Option as maybe
use lib.ListN.{get_elem?}
use Rattle.atomic_table.specs.Table.{State}
use Rattle.depot_rule.specs.declared.view.View.{View}
use Rattle.depot_rule.specs.declared.view.Entry.{Entry}
use Rattle.depot_rule.specs.declared.view.Read.{Read}
use Rattle.affinity.specs.Ancestors.{tally}
use Rattle.depot_rule.specs.Sums.{total}
use Rattle.depot_rule.specs.Shares.{Each}
use Rattle.depot_rule.specs.Parcels.{has_out}
use Rattle.depot_rule.specs.History.{Behaviour, Current, History, listed, after, chosen, AreHands, Ascends, StartsWith}
use Rattle.depot_rule.proofs.Current.{ListsCurrent, current-stays}
use Rattle.depot_rule.specs.lemmas.Sums.{total-set}
use Rattle.depot_rule.proofs.Views.{all-one, each-set}

module _ (P C R B : Type 0) (m : Behaviour P C R B) (ps : List ℕ) (first : List (Option P)) where
  abbrev pub E : Type 0
  E = Entry P C R

  abbrev pub St : Type 0
  St = State (Option P) (List (View P E))

  -- the seat knows its own entries
  abbrev pub Own : View P E → Type 0
  Own v = Ascends v.mine × ((p : ℕ) → 0 < tally p v.mine → p < length v.seen)

  -- and what is in its hand
  abbrev pub HasHand : View P E → Type 0
  HasHand v = (hand : List B) × AreHands m.takes m.gives (chosen v.seen v.mine) hand

  -- a seat's step that changes neither what it has seen nor its own entries
  pub remembers : (s : St) (h : History m ps first s) (words : List ℕ) (homes : List (maybe.Option (Option P))) (id : ℕ) (v : View P E)
      (looked stamped : ℕ) (path : List ℕ) (unsure : ℕ) (held : List (Option (List (Option P)))) (out : ℕ) (gone : List ℕ) (rs : List Read)
      → get_elem? s.views id ≡ some (v ∷ [])
      → Current ps (after ps (listed first) h.log) record {
        words = words;
        homes = homes;
        views = set s.views id
            (record v { looked = looked; stamped = stamped; path = path; unsure = unsure; held = held; out = out; gone = gone; reads = rs } ∷ []);
      }
      → History m ps first record {
        words = words;
        homes = homes;
        views = set s.views id
            (record v { looked = looked; stamped = stamped; path = path; unsure = unsure; held = held; out = out; gone = gone; reads = rs } ∷ []);
      }
  remembers s h words homes id v looked stamped path unsure held out gone rs at current =
      let w : View P E = record v {
        looked = looked;
        stamped = stamped;
        path = path;
        unsure = unsure;
        held = held;
        out = out;
        gone = gone;
        reads = rs;
      } in record {
        log = h.log;
        legal = h.legal;
        current = current;
        seen = each-set (λ (u : View P E). StartsWith h.log u.seen) s.views id (w ∷ []) h.seen (all-one (λ (u : View P E). StartsWith h.log u.seen) w
            (h.seen id (v ∷ []) at 0 v refl));
        mine = λ p. let t = total-set (total (λ (u : View P E). tally p u.mine)) s.views id (v ∷ []) (w ∷ []) at in let q = h.mine p in omega arith;
        own = each-set Own s.views id (w ∷ []) h.own (all-one Own w (h.own id (v ∷ []) at 0 v refl));
        shared = λ weigh. let t = total-set (total (λ (u : View P E). total weigh (chosen u.seen u.mine))) s.views id (v ∷ [])
            (w ∷ []) at in let q = h.shared weigh in omega arith;
        hand = each-set HasHand s.views id (w ∷ []) h.hand (all-one HasHand w (h.hand id (v ∷ []) at 0 v refl));
        hands = h.hands;
        all_hands = h.all_hands;
        sound = h.sound;
        throughout = h.throughout;
      }

  -- views that are dealt out anew
  pub dealt : (s : St) (h : History m ps first s) (views : List (List (View P E)))
      → ((k : ℕ) → 0 < k → total (total (has_out k)) views ≡ total (total (has_out k)) s.views)
      → Each (ListsCurrent ps (after ps (listed first) h.log)) views
      → Each (λ (v : View P E). StartsWith h.log v.seen) views
      → ((p : ℕ) → total (total (λ (v : View P E). tally p v.mine)) views ≡ total (total (λ (v : View P E). tally p v.mine)) s.views)
      → Each Own views
      → ((weigh : E → ℕ) → total (total (λ (v : View P E). total weigh (chosen v.seen v.mine))) views ≡ total
      (total (λ (v : View P E). total weigh (chosen v.seen v.mine))) s.views)
      → Each HasHand views
      → History m ps first record { words = s.words; homes = s.homes; views = views }
  dealt s h views taken lists seen mine own shared hand = record {
    log = h.log;
    legal = h.legal;
    current = record { now = λ k pk lk z. let t = taken k pk in h.current.now k pk lk (omega arith); granted = lists };
    seen = seen;
    mine = λ p. mine p ∙ h.mine p;
    own = own;
    shared = λ weigh. shared weigh ∙ h.shared weigh;
    hand = hand;
    hands = h.hands;
    all_hands = h.all_hands;
    sound = h.sound;
    throughout = h.throughout;
  }

  -- no grant and no slot changes
  pub still : (s : St) (h : History m ps first s) (words : List ℕ) (id : ℕ) (v : View P E) (looked : ℕ) (path : List ℕ) (unsure : ℕ) (rs : List Read)
      → get_elem? s.views id ≡ some (v ∷ [])
      → History m ps first record {
        words = words;
        homes = s.homes;
        views = set s.views id
            (record v { looked = looked; path = path; unsure = unsure; reads = rs } ∷ []);
      }
  still s h words id v looked path unsure rs at =
      remembers s h words s.homes id v looked v.stamped path unsure v.held v.out v.gone rs at
      (current-stays ps (after ps (listed first) h.log) s h.current words id v
      (record v { looked = looked; path = path; unsure = unsure; reads = rs }) at (λ k. refl) (λ b g has. has))
