-- What was stamped is granted anew, as the table asks for it.
use Rattle.std.proofs.Common.{◌≡◌, ℕ, ◌<◌, ltb, List, [], ◌∷◌, length, get_or, set, sym, refl, ap, ◌∙◌, subst, arith, Option}
use mathlib.Core.Option.{none, some}
use lib.ListN.{get_elem?}
use Rattle.atomic_table.specs.Table.{State, step, keeps, Allows}
use Rattle.depot_rule.specs.declared.view.View.{View}
use Rattle.depot_rule.specs.declared.view.Entry.{Entry}
use Rattle.depot_rule.specs.declared.view.Read.{Read}
use Rattle.affinity.specs.Ancestors.{Covers}
use Rattle.affinity.specs.declared.affinity.Kind.{Kind}
use Rattle.depot_rule.specs.Sums.{total}
use Rattle.depot_rule.specs.Shares.{made, due, unsettled}
use Rattle.depot_rule.specs.Rule.{Rule}
use Rattle.depot_rule.specs.History.{Behaviour, IsHistory, listed, after}
use Rattle.depot_rule.specs.Plays.{Place, RenewSays}
use Rattle.depot_rule.specs.lemmas.Sums.{total-set, one-most}
use Rattle.depot_rule.proofs.Views.{few-entries}
use Rattle.depot_rule.proofs.Parcels.{stay-keeps}
use Rattle.depot_rule.proofs.Looking.{same-word, ticket-keeps, only-counts}
use Rattle.depot_rule.proofs.Places.{on-one}
use Rattle.depot_rule.proofs.Current.{current-stays}
use Rattle.depot_rule.proofs.Remembering.{remembers}
use Rattle.depot_rule.proofs.Hands.{is-history}
use Rattle.depot_rule.proofs.Whole.{only-log}
use Rattle.depot_rule.proofs.Counting.{history-length}

module _ (P C R B : Type 0) (kind_of : P → Kind) (m : Behaviour P C R B) where
  abbrev E : Type 0
  E = Entry P C R

  -- the right of the look is the grant's again, which the stamp had used up
  renew-keeps : (ps : List ℕ) (first : List (Option P)) (s : State (Option P) (List (View P E))) (whole : Rule kind_of m ps first s) (id : ℕ)
      (v : View P E) → get_elem? s.views id ≡ some (v ∷ []) → v.looked ≡ 1
      → Rule kind_of m ps first record {
        words = set s.words 0 (get_or s.words 0 0);
        homes = s.homes;
        views = set s.views id
            (record v { looked = 0; stamped = 0; reads = record { word = 0; value = get_or s.words 0 0; shares = 0 } ∷ v.reads } ∷ []);
      }
  renew-keeps ps first s whole id v at looked =
      let r = whole.base in let h = whole.history in
      let rs : List Read = record { word = 0; value = get_or s.words 0 0; shares = 0 } ∷ v.reads in
      let w : View P E = record v { looked = 0; stamped = 0; reads = rs } in
      let ca = r.parcels.carries id (v ∷ []) at 0 v refl in let so = r.shares.sound id (v ∷ []) at 0 v refl in
      let count = total-set (total made) s.views id (v ∷ []) (w ∷ []) at in
      let as_many : total (total made) (set s.views id (w ∷ [])) ≡ total (total made) s.views = omega arith in
      record {
        base = record {
          shares = ticket-keeps P E ps s.words s.views r.shares (get_or s.words 0 0) id v w at refl (ap (λ l. get_or l 0 0) (same-word s.words)
              ∙ r.shares.ticket ∙ sym as_many)
              (let d = total-set (total due) s.views id (v ∷ []) (w ∷ []) at in let u = total-set (total unsettled) s.views id (v ∷ [])
              (w ∷ []) at in let q = r.shares.bounded in let o = one-most (ltb 0 v.stamped) in omega arith)
              (record { some_part = so.some_part; tree = so.tree; wide = so.wide; once = so.once; looked = omega arith }) (λ a. (refl, refl, refl));
          parcels = stay-keeps P E kind_of ps first s r id v w at (λ k. refl)
              (record { opened = ca.opened; nodes = ca.nodes; single = ca.single; cover = ca.cover; whole = ca.whole; there = ca.there; empty = ca.empty });
        };
        history = remembers P C R B m ps first s h _ s.homes id v 0 0 v.path v.unsure v.held v.out v.gone rs at
            (current-stays ps (after ps (listed first) h.log) s h.current _ id v w at (λ k. refl) (λ b g has. has));
      }

  pub renews : (ps : List ℕ) (first : List (Option P)) (slots id : ℕ) (me : Place P E) (v : View P E) → me.0 ≡ v ∷ [] → v.looked ≡ 1
      → Allows (Rule kind_of m ps first) slots id me 0 (λ x. x) (RenewSays m (step slots 0 0 0 none) me)
  renews ps first slots id me v one looked s whole _ at' small =
      let r = whole.base in let h = whole.history in
      let at : get_elem? s.views id ≡ some (v ∷ []) = at' ∙ ap some one in
      let so = r.shares.sound id (v ∷ []) at 0 v refl in
      let ca = r.parcels.carries id (v ∷ []) at 0 v refl in (
        record v { looked = 0; stamped = 0; reads = record { word = 0; value = get_or s.words 0 0; shares = 0 } ∷ v.reads } ∷ [],
        keeps,
        tt,
        renew-keeps ps first s whole id v at looked,
        (
          on-one _ me.0 v one (
            refl,
            only-counts P C R B kind_of m ps first s whole id v at,
            (
              h.log,
              subst (λ (z : List ℕ × List (Option P)). IsHistory m z.0 z.1 v h.log) (λ i. (sym so.tree i, sym ca.opened i))
                  (is-history P C R B m ps first s h id v at),
              (let n = history-length P C R B kind_of m ps first s whole in let f = few-entries P E ps s.words s.views r.shares in let few : length
                  h.log < 4611686018427687904 = omega arith in few),
              (λ all_parts. only-log P C R B kind_of m ps first s r h id v at all_parts),
              (λ b k g has pk lk ck.
                  h.current.granted id (v ∷ []) at 0 v refl b k g has (subst (λ (t : List ℕ). Covers t b k) so.tree ck) pk
                  (subst (λ (t : List ℕ). k < length t) so.tree lk)
                  ∙ ap (λ (z : List ℕ × List (Option P)). after z.0 (listed z.1) h.log k) (λ i. (sym so.tree i, sym ca.opened i))),
            ),
          ),
          refl,
        ),
      )
