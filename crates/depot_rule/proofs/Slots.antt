-- The four loads by which a seat takes a parcel from its slot and gives it home, as the table asks for them.
use Rattle.std.proofs.Common.{◌≡◌, ◌≢◌, ℕ, ◌+◌, ◌<◌, ◌≤◌, eqb, List, [], ◌∷◌, length, get_or, set, sym, refl, ap, ◌∙◌, subst, arith, Option, Some, None}
use mathlib.Core.Option.{none, some}
use mathlib.Core.Option as maybe
use lib.ListN.{get_elem?}
use Rattle.atomic_table.specs.Table.{State, Step, step, gives, takes as takes_slot, put_back, Allows}
use Rattle.depot_rule.specs.declared.view.View.{View}
use Rattle.depot_rule.specs.declared.view.Entry.{Entry}
use Rattle.depot_rule.specs.declared.view.Read.{Read}
use Rattle.depot_rule.specs.History.{Behaviour, listed, after}
use Rattle.affinity.specs.Ancestors.{one_if, tally, Covers}
use Rattle.depot_rule.specs.Sums.{without}
use Rattle.depot_rule.specs.Rule.{Rule}
use Rattle.depot_rule.specs.Plays.{Place, noted, FetchSays, EmptySays, ReachSays, FillSays}
use Rattle.depot_rule.specs.lemmas.Sums.{one-same, one-other, tally-without}
use Rattle.depot_rule.proofs.Grants.{covers-one}
use Rattle.depot_rule.proofs.Parcels.{slot-keeps}
use Rattle.depot_rule.proofs.Places.{on-one}
use Rattle.depot_rule.proofs.Current.{current-slot}
use Rattle.depot_rule.proofs.Remembering.{remembers}
use Rattle.affinity.specs.declared.affinity.Kind.{Kind}

module _ (P C R B : Type 0) (kind_of : P → Kind) (m : Behaviour P C R B) where
  abbrev E : Type 0
  E = Entry P C R

  abbrev St : Type 0
  St = State (Option P) (List (View P E))

  abbrev G : Type 0
  G = List (Option P)

  -- one slot changes, of a node that a grant of the seat covers
  slot-moves : (ps : List ℕ) (first : List (Option P)) (s : St) (whole : Rule kind_of m ps first s) (id b k : ℕ) (v : View P E) (g : G) (out : ℕ)
      (gone : List ℕ) (rs : List Read) (x : maybe.Option (Option P))
      → get_elem? s.views id ≡ some (v ∷ []) → get_elem? v.held b ≡ some (Some g) → Covers ps b k → 0 < k → k < length ps
      → ((n : ℕ) → 0 < n → n ≢ k → (tally n gone ≡ tally n v.gone) × (one_if (eqb out n) ≡ one_if (eqb v.out n)))
      → tally k gone + one_if (eqb out k) ≤ 1
      → (tally k gone + one_if (eqb out k) ≡ 0 → x ≡ some (get_or g k None))
      → (0 < tally k gone → x ≡ some None)
      → Rule kind_of m ps first record {
        words = set s.words k (get_or s.words k 0);
        homes = set s.homes k x;
        views = set s.views id
            (record v { out = out; gone = gone; reads = rs } ∷ []);
      }
  slot-moves ps first s whole id b k v g out gone rs x at here covers pos lt else_same most back gone_empty = record {
    base = slot-keeps P E kind_of ps first s whole.base id b k v g out gone rs x at here covers pos lt else_same most back gone_empty;
    history = remembers P C R B m ps first s whole.history _ (set s.homes k x) id v v.looked v.stamped v.path v.unsure v.held out gone rs at
        (current-slot ps (after ps (listed first) whole.history.log) s whole.history.current _ id b k v g out gone rs x at here covers pos lt
        whole.base.parcels.slots else_same back);
  }

  -- a parcel that a grant covers goes out of its slot
  pub fetches : (ps : List ℕ) (first : List (Option P)) (slots id : ℕ) (me : Place P E) (v : View P E) (k b : ℕ) (g : G) → me.0 ≡ v ∷ [] → 0 < k
      → k < length ps → v.out ≡ 0 → tally k v.gone ≡ 0
      → get_elem? v.held b ≡ some (Some g) → Covers ps b k
      → Allows (Rule kind_of m ps first) slots id me k (λ x. x) (FetchSays (step slots k 0 0 none) me)
  fetches ps first slots id me v k b g one pos lt calm fresh here covers s whole _ at' small =
      let r = whole.base in
      let at : get_elem? s.views id ≡ some (v ∷ []) = at' ∙ ap some one in
      let st : Step (Option P) = step slots k 0 0 none in
      let x : ℕ = get_or s.words k 0 in
      let so = r.shares.sound id (v ∷ []) at 0 v refl in
      let ca = r.parcels.carries id (v ∷ []) at 0 v refl in
      let w : View P E = record v { out = k; reads = noted st x v } in
      let zero_out : one_if (eqb v.out k) ≡ 0 = one-other v.out k (λ e. omega arith) in
      let one_hand : one_if (eqb k k) ≡ 1 = one-same k k refl in (
        w ∷ [],
        takes_slot k (get_or g k None),
        ca.there b k g here covers pos lt (omega arith),
        slot-moves ps first s whole id b k v g k v.gone (noted st x v) none at here covers pos lt
            (λ m pm ne. (refl, one-other k m (λ e. ne (sym e)) ∙ sym (one-other v.out m (λ e. omega arith))))
            (omega arith) (λ z. absurd (omega arith)) (λ z. absurd (omega arith)),
        (
          on-one _ me.0 v one refl,
          on-one _ me.0 v one (λ c h hc cm.
              let q = covers-one P E ps s.words s.views r.shares id id 0 0 b c k (v ∷ []) (v ∷ []) v v g h (ca.nodes b g here).0 (ca.nodes c h hc).0
              at refl here at refl hc covers (subst (λ (t : List ℕ). Covers t c k) so.tree cm) in
              let hc' : get_elem? v.held b ≡ some (Some h) = ap (get_elem? v.held) q.2 ∙ hc in let both : some (Some g) ≡ some (Some h) = sym here ∙ hc' in
              let gh : g ≡ h = cc in ap (λ (z : G). (k, get_or z k None) ∷ me.1) gh),
        ),
      )

  -- the slot whose parcel was moved out comes home empty
  pub empties : (ps : List ℕ) (first : List (Option P)) (slots id : ℕ) (me : Place P E) (v : View P E) (k : ℕ) (others : List (ℕ × Option P))
      → me.0 ≡ v ∷ [] → me.1 ≡ (k, None) ∷ others → 0 < k → k < length ps → v.out ≡ k
      → Allows (Rule kind_of m ps first) slots id me k (λ x. x) (EmptySays (step slots k 0 0 none) me)
  empties ps first slots id me v k others one slot pos lt out s whole _ at' small =
      let r = whole.base in
      let at : get_elem? s.views id ≡ some (v ∷ []) = at' ∙ ap some one in
      let st : Step (Option P) = step slots k 0 0 none in
      let x : ℕ = get_or s.words k 0 in
      let ca = r.parcels.carries id (v ∷ []) at 0 v refl in
      let w : View P E = record v { out = 0; gone = k ∷ v.gone; reads = noted st x v } in
      let homes : List (maybe.Option (Option P)) = set s.homes k (some None) in
      let back : put_back s.homes me.1 ≡ homes = ap (put_back s.homes) slot in
      let is_out : one_if (eqb v.out k) ≡ 1 = one-same v.out k out in
      let one_k : one_if (eqb k k) ≡ 1 = one-same k k refl in
      let zero_k : one_if (eqb 0 k) ≡ 0 = one-other 0 k (λ e. omega arith) in
      let single = ca.single k pos in
      let c = ca.cover k pos (omega arith) in (
        w ∷ [],
        gives,
        tt,
        subst (λ (hs : List (maybe.Option (Option P))). Rule kind_of m ps first record {
          words = set s.words k x;
          homes = hs;
          views = set s.views id
              (w ∷ []);
        }) (sym back)
            (slot-moves ps first s whole id c.0 k v c.1 0 (k ∷ v.gone) (noted st x v) (some None) at c.2 c.3 pos lt
            (λ m pm ne. let y = one-other k m (λ e. ne (sym e)) in (
              omega arith,
              one-other 0 m (λ e. omega arith)
                  ∙ sym (one-other v.out m (λ e. ne (sym e ∙ out))),
            ))
            (omega arith) (λ z. absurd (omega arith)) (λ z. refl)),
        (on-one _ me.0 v one refl, refl),
      )

  -- the empty slot of a parcel that the seat has goes out
  pub reaches : (ps : List ℕ) (first : List (Option P)) (slots id : ℕ) (me : Place P E) (v : View P E) (k : ℕ) → me.0 ≡ v ∷ [] → 0 < k
      → k < length ps → v.out ≡ 0 → 0 < tally k v.gone
      → Allows (Rule kind_of m ps first) slots id me k (λ x. x) (ReachSays (step slots k 0 0 none) me)
  reaches ps first slots id me v k one pos lt calm away s whole _ at' small =
      let r = whole.base in
      let at : get_elem? s.views id ≡ some (v ∷ []) = at' ∙ ap some one in
      let st : Step (Option P) = step slots k 0 0 none in
      let x : ℕ = get_or s.words k 0 in
      let ca = r.parcels.carries id (v ∷ []) at 0 v refl in
      let w : View P E = record v { out = k; gone = without k v.gone; reads = noted st x v } in
      let one_k : one_if (eqb k k) ≡ 1 = one-same k k refl in
      let less : (m : ℕ) → tally m (without k v.gone) + one_if (eqb k m) ≡ tally m v.gone = λ m. tally-without k m v.gone away in
      let less_k = less k in let single = ca.single k pos in let once : tally k v.gone ≡ 1 = omega arith in
      let c = ca.cover k pos (omega arith) in (
        w ∷ [],
        takes_slot k None,
        ca.empty k pos away,
        slot-moves ps first s whole id c.0 k v c.1 k (without k v.gone) (noted st x v) none at c.2 c.3 pos lt
            (λ m pm ne. let l = less m in let y = one-other k m (λ e. ne (sym e)) in (omega arith, y ∙ sym (one-other v.out m (λ e. omega arith))))
            (omega arith) (λ z. absurd (omega arith)) (λ z. absurd (omega arith)),
        (on-one _ me.0 v one (refl, once), refl),
      )

  -- the slot comes home with what the grant lists
  pub fills : (ps : List ℕ) (first : List (Option P)) (slots id : ℕ) (me : Place P E) (v : View P E) (k b : ℕ) (g : G) (others : List (ℕ × Option P))
      → me.0 ≡ v ∷ [] → me.1 ≡ (k, get_or g k None) ∷ others → 0 < k → k < length ps → v.out ≡ k
      → get_elem? v.held b ≡ some (Some g) → Covers ps b k
      → Allows (Rule kind_of m ps first) slots id me k (λ x. x) (FillSays (step slots k 0 0 none) me)
  fills ps first slots id me v k b g others one slot pos lt out here covers s whole _ at' small =
      let r = whole.base in
      let at : get_elem? s.views id ≡ some (v ∷ []) = at' ∙ ap some one in
      let st : Step (Option P) = step slots k 0 0 none in
      let x : ℕ = get_or s.words k 0 in
      let ca = r.parcels.carries id (v ∷ []) at 0 v refl in
      let w : View P E = record v { out = 0; reads = noted st x v } in
      let homes : List (maybe.Option (Option P)) = set s.homes k (some (get_or g k None)) in
      let back : put_back s.homes me.1 ≡ homes = ap (put_back s.homes) slot in
      let is_out : one_if (eqb v.out k) ≡ 1 = one-same v.out k out in
      let zero_k : one_if (eqb 0 k) ≡ 0 = one-other 0 k (λ e. omega arith) in
      let single = ca.single k pos in (
        w ∷ [],
        gives,
        tt,
        subst (λ (hs : List (maybe.Option (Option P))). Rule kind_of m ps first record {
          words = set s.words k x;
          homes = hs;
          views = set s.views id
              (w ∷ []);
        }) (sym back)
            (slot-moves ps first s whole id b k v g 0 v.gone (noted st x v) (some (get_or g k None)) at here covers pos lt
            (λ m pm ne. (refl, one-other 0 m (λ e. omega arith) ∙ sym (one-other v.out m (λ e. ne (sym e ∙ out)))))
            (omega arith) (λ z. refl) (λ z. absurd (omega arith))),
        (on-one _ me.0 v one refl, refl),
      )
