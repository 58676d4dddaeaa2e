-- The steps enter, back out and leave, as the table asks for them.
use Rattle.std.proofs.Common.{◌≡◌, ℕ, ◌+◌, ◌-◌, ◌%◌, ◌^◌, ◌<◌, List, [], ◌∷◌, drop, length, get_or, set, sym, refl, ap, ◌∙◌, subst, arith, Option}
use mathlib.Core.Option.{none, some}
use native.Mathlib.Decide.{dec_lt}
use lib.ListN.{get_elem?}
use Rattle.atomic_table.specs.Table.{State, Step, step, keeps, stepped, Allows}
use Rattle.depot_rule.specs.declared.view.View.{View}
use Rattle.depot_rule.specs.declared.view.Read.{Read}
use Rattle.depot_rule.specs.declared.view.Entry.{Entry}
use Rattle.depot_rule.specs.History.{Behaviour}
use Rattle.affinity.specs.Ancestors.{tally}
use Rattle.depot_rule.specs.Shares.{exclusive}
use Rattle.depot_rule.specs.Parcels.{Parcels}
use Rattle.depot_rule.specs.Rule.{Base, Rule}
use Rattle.depot_rule.specs.Plays.{Place, noted, EnterSays, BackOutSays, LeaveSays}
use Rattle.depot_rule.proofs.Views.{finds-own}
use Rattle.depot_rule.proofs.Only.{own-claim}
use Rattle.depot_rule.proofs.Words.{word-most, enter-keeps, vain-keeps, back-out-keeps, leave-keeps}
use Rattle.depot_rule.proofs.Parcels.{stay-keeps}
use Rattle.depot_rule.proofs.Places.{on-one}
use Rattle.depot_rule.proofs.Remembering.{still}
use Rattle.affinity.specs.declared.affinity.Kind.{Kind}

module _ (P C R B : Type 0) (kind_of : P → Kind) (m : Behaviour P C R B) where
  abbrev E : Type 0
  E = Entry P C R

  abbrev St : Type 0
  St = State (Option P) (List (View P E))

  -- the seat's grants and slots stay
  stays : (ps : List ℕ) (first : List (Option P)) (s : St) (r : Base kind_of ps first s) (id : ℕ) (v : View P E) (path : List ℕ) (unsure : ℕ)
      (rs : List Read) → get_elem? s.views id ≡ some (v ∷ [])
      → Parcels kind_of ps first s.homes (set s.views id (record v { path = path; unsure = unsure; reads = rs } ∷ []))
  stays ps first s r id v path unsure rs at =
      let ca = r.parcels.carries id (v ∷ []) at 0 v refl in
      stay-keeps P E kind_of ps first s r id v (record v { path = path; unsure = unsure; reads = rs }) at (λ k. refl)
      (record { opened = ca.opened; nodes = ca.nodes; single = ca.single; cover = ca.cover; whole = ca.whole; there = ca.there; empty = ca.empty })

  pub enters : (ps : List ℕ) (first : List (Option P)) (slots id : ℕ) (me : Place P E) (v : View P E) (i : ℕ) → me.0 ≡ v ∷ [] → 0 < i → i < length ps
      → v.unsure ≡ 0 → tally i v.path ≡ 0
      → Allows (Rule kind_of m ps first) slots id me i (λ x. (x + 1) % 2 ^ 64) (EnterSays (step slots i 1 0 none) me)
  enters ps first slots id me v i one pos lt calm fresh s whole _ at' small =
      let r = whole.base in
      let at : get_elem? s.views id ≡ some (v ∷ []) = at' ∙ ap some one in
      let st : Step (Option P) = step slots i 1 0 none in
      let x : ℕ = get_or s.words i 0 in
      let most = word-most P E ps s.words s.views r.shares i pos lt in
      let wrap : (x + 1) % 18446744073709551616 ≡ x + 1 = omega arith in
      let own = finds-own P E ps s.words s.views r.shares i id v at pos lt in
      elim (dec_lt x exclusive) [
        | yes free ↦
            let w : View P E = record v { path = i ∷ v.path; reads = noted st x v } in (
              w ∷ [],
              keeps,
              tt,
              subst (λ (z : ℕ). Rule kind_of m ps first (stepped s i z id me.1 (w ∷ []) keeps)) (sym wrap)
                  (record {
                    base = record {
                      shares = enter-keeps P E ps s.words s.views r.shares i id v (noted st x v) at pos lt fresh free;
                      parcels = stays ps first s r id v (i ∷ v.path) v.unsure (noted st x v) at;
                    };
                    history = still P C R B m ps first s whole.history
                        _ id v v.looked (i ∷ v.path) v.unsure (noted st x v) at;
                  }),
              (on-one _ me.0 v one ((λ _. refl), (λ full. absurd (omega arith))), refl),
            )
        | no busy ↦
            let w : View P E = record v { unsure = i; reads = noted st x v } in (
              w ∷ [],
              keeps,
              tt,
              subst (λ (z : ℕ). Rule kind_of m ps first (stepped s i z id me.1 (w ∷ []) keeps)) (sym wrap)
                  (record {
                    base = record {
                      shares = vain-keeps P E ps s.words s.views r.shares i id v (noted st x v) at pos lt calm (omega arith);
                      parcels = stays ps first s r id v v.path i (noted st x v) at;
                    };
                    history = still P C R B m ps first s whole.history _ id v
                        v.looked v.path i (noted st x v) at;
                  }),
              (
                on-one _ me.0 v one (
                  (λ free. absurd (omega arith)),
                  (λ full. (
                    refl,
                    λ all. own-claim P E ps r.shares.tree r.shares.few i v (r.shares.sound id (v ∷ []) at 0 v refl)
                        (let o = own all in omega arith) all,
                  )),
                ),
                refl,
              ),
            )
      ]

  pub backs-out : (ps : List ℕ) (first : List (Option P)) (slots id : ℕ) (me : Place P E) (v : View P E) (i : ℕ) → me.0 ≡ v ∷ [] → 0 < i
      → i < length ps → v.unsure ≡ i
      → Allows (Rule kind_of m ps first) slots id me i (λ x. (x + (2 ^ 64 - 1)) % 2 ^ 64) (BackOutSays (step slots i 1 0 none) me)
  backs-out ps first slots id me v i one pos lt unsure s whole _ at' small =
      let r = whole.base in
      let at : get_elem? s.views id ≡ some (v ∷ []) = at' ∙ ap some one in
      let st : Step (Option P) = step slots i 1 0 none in
      let x : ℕ = get_or s.words i 0 in
      let kept = back-out-keeps P E ps s.words s.views r.shares i id v (noted st x v) at pos lt unsure in
      let some_share = kept.0 in
      let wrap : (x + 18446744073709551615) % 18446744073709551616 ≡ x - 1 = omega arith in
      let w : View P E = record v { unsure = 0; reads = noted st x v } in (
        w ∷ [],
        keeps,
        tt,
        subst (λ (z : ℕ). Rule kind_of m ps first (stepped s i z id me.1 (w ∷ []) keeps)) (sym wrap)
            (record {
              base = record { shares = kept.1; parcels = stays ps first s r id v v.path 0 (noted st x v) at };
              history = still P C R B m ps first s whole.history _ id v v.looked v.path 0 (noted st x v) at;
            }),
        (on-one _ me.0 v one refl, refl),
      )

  pub leaves : (ps : List ℕ) (first : List (Option P)) (slots id : ℕ) (me : Place P E) (v : View P E) (i : ℕ) (rest : List ℕ) → me.0 ≡ v ∷ [] → 0 < i
      → i < length ps → v.path ≡ i ∷ rest
      → Allows (Rule kind_of m ps first) slots id me i (λ x. (x + (2 ^ 64 - 1)) % 2 ^ 64) (LeaveSays (step slots i 1 0 none) me)
  leaves ps first slots id me v i rest one pos lt path s whole _ at' small =
      let r = whole.base in
      let at : get_elem? s.views id ≡ some (v ∷ []) = at' ∙ ap some one in
      let st : Step (Option P) = step slots i 1 0 none in
      let x : ℕ = get_or s.words i 0 in
      let kept = leave-keeps P E ps s.words s.views r.shares i id v rest (noted st x v) at pos lt path in
      let some_share = kept.0 in
      let wrap : (x + 18446744073709551615) % 18446744073709551616 ≡ x - 1 = omega arith in
      let w : View P E = record v { path = rest; reads = noted st x v } in
      let tail : drop 1 v.path ≡ rest = ap (drop 1) path in (
        w ∷ [],
        keeps,
        tt,
        subst (λ (z : ℕ). Rule kind_of m ps first (stepped s i z id me.1 (w ∷ []) keeps)) (sym wrap)
            (record {
              base = record { shares = kept.1; parcels = stays ps first s r id v rest v.unsure (noted st x v) at };
              history = still P C R B m ps first s whole.history _ id v v.looked rest v.unsure (noted st x v) at;
            }),
        (on-one _ me.0 v one (ap (λ (p : List ℕ). let z : View P E = record v { path = p; reads = noted st x v } in z ∷ []) (sym tail)), refl),
      )
