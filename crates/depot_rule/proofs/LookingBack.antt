-- A look back, as the table asks for it.
use Rattle.std.proofs.Common.{◌≡◌, ℕ, ◌<◌, List, [], ◌∷◌, length, sym, refl, ap, ◌∙◌, subst, arith, Option}
use mathlib.Core.Option.{none, some}
use lib.ListN.{get_elem?}
use Rattle.atomic_table.specs.Table.{State, step, keeps, Allows}
use Rattle.atomic_table.proofs.Lists.{set_again}
use Rattle.depot_rule.specs.declared.view.View.{View}
use Rattle.depot_rule.specs.declared.view.Entry.{Entry}
use Rattle.affinity.specs.declared.affinity.Kind.{Kind}
use Rattle.depot_rule.specs.Rule.{Rule}
use Rattle.depot_rule.specs.Sums.{total}
use Rattle.depot_rule.specs.History.{Behaviour, IsHistory, entries_of}
use Rattle.depot_rule.specs.Plays.{Place}
use Rattle.depot_rule.specs.LookingBack.{LooksBack, LookBackSays}
use Rattle.depot_rule.proofs.Views.{few-entries, only-view}
use Rattle.depot_rule.proofs.Looking.{same-word}
use Rattle.depot_rule.proofs.Places.{on-one}
use Rattle.depot_rule.proofs.Hands.{is-history}
use Rattle.depot_rule.proofs.Whole.{only-log, only-mine}
use Rattle.depot_rule.proofs.Counting.{history-length}

module _ (P C R B : Type 0) (kind_of : P → Kind) (m : Behaviour P C R B) where
  abbrev E : Type 0
  E = Entry P C R

  -- what the rule says of a seat
  looking : (ps : List ℕ) (first : List (Option P)) (s : State (Option P) (List (View P E))) (whole : Rule kind_of m ps first s) (id : ℕ) (v : View P E)
      → get_elem? s.views id ≡ some (v ∷ []) → LooksBack m v
  looking ps first s whole id v at =
      let r = whole.base in let h = whole.history in
      let so = r.shares.sound id (v ∷ []) at 0 v refl in
      let ca = r.parcels.carries id (v ∷ []) at 0 v refl in
      let own = h.own id (v ∷ []) at 0 v refl in
      record {
        log = h.log;
        history = subst (λ (z : List ℕ × List (Option P)). IsHistory m z.0 z.1 v h.log) (λ i. (sym so.tree i, sym ca.opened i))
            (is-history P C R B m ps first s h id v at);
        few =
            let n = history-length P C R B kind_of m ps first s whole in
            let f = few-entries P E ps s.words s.views r.shares in
            (let few : length h.log < 4611686018427687904 = omega arith in few);
        order = own.0;
        within = own.1;
        all = λ whole_seat. record {
          seen = only-log P C R B kind_of m ps first s r h id v at whole_seat;
          places = only-mine P C R B kind_of m ps first s r h id v at whole_seat;
          entries = λ weigh. sym (only-view P E ps s.words s.views r.shares id v at whole_seat (λ (u : View P E). total weigh (entries_of u)))
              ∙ h.shared weigh;
        };
      }

  pub looks-back : (ps : List ℕ) (first : List (Option P)) (slots id : ℕ) (me : Place P E) (v : View P E) → me.0 ≡ v ∷ []
      → Allows (Rule kind_of m ps first) slots id me 0 (λ x. x) (LookBackSays m (step slots 0 0 0 none) me)
  looks-back ps first slots id me v one s whole _ at small = (
    me.0,
    keeps,
    tt,
    subst (λ (z : List ℕ × List (List (View P E))). Rule kind_of m ps first record { words = z.0; homes = s.homes; views = z.1 })
        (λ i. (sym (same-word s.words) i, sym (set_again s.views id me.0 at) i)) whole,
    (refl, on-one (LooksBack m) me.0 v one (looking ps first s whole id v (at ∙ ap some one))),
  )
