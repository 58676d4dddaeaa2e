-- The stamp, as the table asks for it.
use Rattle.std.proofs.Common.{◌≡◌, ◌≢◌, ◌⊎◌, ℕ, ◌+◌, ◌%◌, ◌^◌, ◌<◌, eqb, ltb, List, [], ◌∷◌, ◌++◌, length, get_or, set, sym, refl, ap, ◌∙◌}
use Rattle.std.proofs.Common.{subst, arith, Option, Some, None, length-set, length-append, get_or-set_same, inl, inr, ⊎_elim}
use mathlib.Core.Option.{none, some}
use mathlib.Core.Logic.{dite}
use native.Mathlib.Decide.{ℕ_discrete}
use lib.ListN.{get_elem?}
use Rattle.atomic_table.specs.Table.{State, step, keeps, Allows}
use Rattle.atomic_table.proofs.Lists.{at_set, set_else, set_here}
use Rattle.depot_rule.specs.declared.view.View.{View}
use Rattle.depot_rule.specs.declared.view.Entry.{Entry}
use Rattle.depot_rule.specs.declared.view.Read.{Read}
use Rattle.affinity.specs.Ancestors.{one_if, tally, ancestors, Covers}
use Rattle.depot_rule.specs.Sums.{total}
use Rattle.depot_rule.specs.Shares.{Has, made, due, unsettled, open_grants, claims, lower}
use Rattle.depot_rule.specs.Parcels.{has_out, IsParcel}
use Rattle.depot_rule.specs.Rule.{Base, Rule}
use Rattle.depot_rule.specs.Machine.{IsLocal, Keeps}
use Rattle.depot_rule.specs.History.{Behaviour, Legal, SoundThroughout, listed, chosen, AreHands}
use Rattle.depot_rule.specs.Plays.{Place, StampSays}
use Rattle.depot_rule.specs.lemmas.Sums.{total-set, over-other}
use Rattle.depot_rule.proofs.Views.{few-entries}
use Rattle.depot_rule.proofs.Counting.{history-length}
use Rattle.depot_rule.proofs.Grants.{at-length}
use Rattle.std.proofs.lemmas.Bool.{lt-ltb}
use Rattle.depot_rule.proofs.Parcels.{stay-keeps}
use Rattle.depot_rule.proofs.Looking.{ticket-keeps}
use Rattle.depot_rule.proofs.Places.{on-one}
use Rattle.depot_rule.proofs.Adding.{chosen_now, stamp-remembers, stamp-legal, stamp-throughout}
use Rattle.depot_rule.proofs.Whole.{only-log, nothing-more}
use Rattle.affinity.specs.declared.affinity.Kind.{Kind}

module _ (P E : Type 0) (kind_of : P → Kind) where
  abbrev G : Type 0
  G = List (Option P)

  -- the grant of b lists other parcels, where all that it covers is taken
  relist-keeps : (ps : List ℕ) (first : List (Option P)) (s : State (Option P) (List (View P E))) (r : Base kind_of ps first s) (id b : ℕ)
      (v : View P E) (g left : G) (rs : List Read) (seen : List E) (mine : List ℕ)
      → get_elem? s.views id ≡ some (v ∷ []) → Has v b g → v.stamped ≡ 0 → length mine ≡ length v.mine + 1
      → ((k : ℕ) → 0 < k → k < length ps → Covers ps b k → has_out k v ≡ 1)
      → ((k : ℕ) → 0 < k → k < length ps → Covers ps b k → IsParcel kind_of first k (get_or left k None))
      → Base kind_of ps first record {
        words = set s.words 0 ((get_or s.words 0 0 + 1) % 18446744073709551616);
        homes = s.homes;
        views = set s.views id (record v { stamped = b; held = set v.held b (Some left); reads = rs; seen = seen; mine = mine } ∷ []);
      }
  relist-keeps ps first s r id b v g left rs seen mine at here unstamped more taken fits =
      let w : View P E = record v { stamped = b; held = set v.held b (Some left); reads = rs; seen = seen; mine = mine } in
      let so = r.shares.sound id (v ∷ []) at 0 v refl in
      let ca = r.parcels.carries id (v ∷ []) at 0 v refl in
      let low : (a : ℕ) → lower a w ≡ lower a v = λ a. over-other (λ c. tally a (ancestors v.tree c)) 0 v.held b g left here in
      let own : (a : ℕ) → claims a w ≡ claims a v = λ a. over-other (λ c. one_if (eqb c a)) 0 v.held b g left here in
      let cases : (c : ℕ) (h : G) → Has w c h → ((c ≡ b) × (left ≡ h)) ⊎ ((c ≢ b) × Has v c h)
      = λ c h e. ⊎_elim (λ (t : (c ≡ b) × (Some left ≡ Some h)). let lh : left ≡ h = (let q = t.1 in cc) in inl (t.0, lh))
      (λ (t : (c ≢ b) × Has v c h). inr t) (at_set v.held b c (Some left) (Some h) e) in
      let now : Has w b left = set_here v.held b (Some left) (at-length v.held b (Some g) here) in
      record {
        shares = ticket-keeps P E ps s.words s.views r.shares ((get_or s.words 0 0 + 1) % 18446744073709551616) id v w at refl
            (let t = total-set (total made) s.views id (v ∷ []) (w ∷ []) at in let n = ca.nodes b g here in let n0 = n.1 in let wide = r.shares.as_many in
            let q = r.shares.ticket in let h = get_or-set_same s.words 0 ((get_or s.words 0 0 + 1) % 18446744073709551616) 0 (omega arith)
            in let f = few-entries P E ps s.words s.views r.shares in omega arith)
            (let d = total-set (total due) s.views id (v ∷ []) (w ∷ []) at in let t = total-set (total unsettled) s.views id (v ∷ [])
            (w ∷ []) at in let q = r.shares.bounded in
            let grants : open_grants w ≡ open_grants v = over-other (λ c. 1) 0 v.held b g left here in let n = (ca.nodes b g here).0 in
            let one : one_if (ltb 0 b) ≡ 1 = ap one_if (lt-ltb 0 b n) in let none : one_if (ltb 0 v.stamped) ≡ 0 = ap (λ z. one_if (ltb 0 z))
            unstamped in omega arith)
            (record { some_part = so.some_part; tree = so.tree; wide = length-set v.held b (Some left) ∙ so.wide; once = so.once; looked = so.looked })
            (λ a. let l = low a in let o = own a in (omega arith, o, omega arith));
        parcels = stay-keeps P E kind_of ps first s r id v w at (λ k. refl) (record {
          opened = ca.opened;
          nodes = λ c h e. ⊎_elim (λ (t : (c ≡ b) × (left ≡ h)). let n = ca.nodes b g here in let n0 = n.0 in let n1 = n.1 in let z = t.0
              in (omega arith, omega arith)) (λ (t : (c ≢ b) × Has v c h). ca.nodes c h t.1) (cases c h e);
          single = ca.single;
          cover = λ k pk h. let t = ca.cover k pk h in dite (ℕ_discrete t.0 b)
              (λ e. (b, left, now, subst (λ (z : ℕ). Covers ps z k) e t.3))
              (λ ne. (t.0, t.1, set_else v.held b t.0 (Some left) ne ∙ t.2, t.3));
          whole = λ c k h e ck pk lk. ⊎_elim
              (λ (t : (c ≡ b) × (left ≡ h)). subst (λ (z : G). IsParcel kind_of first k (get_or z k None)) t.1
              (fits k pk lk (subst (λ (z : ℕ). Covers ps z k) t.0 ck)))
              (λ (t : (c ≢ b) × Has v c h). ca.whole c k h t.1 ck pk lk) (cases c h e);
          there = λ c k h e ck pk lk none_taken. ⊎_elim
              (λ (t : (c ≡ b) × (left ≡ h)). let one = taken k pk lk (subst (λ (z : ℕ). Covers ps z k) t.0 ck) in absurd (omega arith))
              (λ (t : (c ≢ b) × Has v c h). ca.there c k h t.1 ck pk lk none_taken) (cases c h e);
          empty = ca.empty;
        });
      }

module _ (P C R B : Type 0) (kind_of : P → Kind) (m : Behaviour P C R B) where
  abbrev E : Type 0
  E = Entry P C R

  -- the call is a step of the machine's, from the parcels that its grant lists to those that the entry says; what it gives was in the seat's hand
  pub stamps : IsLocal m.steps → Keeps m.steps m.takes m.gives m.invariant
      → (ps : List ℕ) (first : List (Option P)) (slots id : ℕ) (me : Place P E) (v : View P E) (e : E) (g : List (Option P)) → me.0 ≡ v ∷ []
      → Has v e.node g → v.stamped ≡ 0
      → ((k : ℕ) → 0 < k → k < length ps → Covers ps e.node k → 0 < has_out k v)
      → ((k : ℕ) → 0 < k → k < length ps → Covers ps e.node k → (p : P) × (get_or e.left k None ≡ Some p) × ((q : P) → get_or v.first k None ≡ Some q
      → kind_of p ≡ kind_of q))
      → (f f' : ℕ → Option P) → m.steps v.tree e.node e.call f e.reply f'
      → ((k : ℕ) → 0 < k → k < length v.tree → Covers v.tree e.node k → get_or g k None ≡ f k)
      → ((k : ℕ) → 0 < k → k < length v.tree → Covers v.tree e.node k → f' k ≡ get_or e.left k None)
      → (own own' : List B) → AreHands m.takes m.gives (chosen v.seen v.mine) own
      → ((weigh : B → ℕ) → total weigh (m.gives e.call e.reply) + total weigh own' ≡ total weigh (m.takes e.call e.reply) + total weigh own)
      → Allows (Rule kind_of m ps first) slots id me 0 (λ x. (x + 1) % 2 ^ 64) (StampSays m (Some e) (step slots 0 1 0 none) me)
  stamps local steady ps first slots id me v e g one here unstamped taken fits f f' own_step own_before own_left own own' mine change s whole _ at' small =
      let r = whole.base in let h = whole.history in
      let at : get_elem? s.views id ≡ some (v ∷ []) = at' ∙ ap some one in
      let x : ℕ = get_or s.words 0 0 in
      let so = r.shares.sound id (v ∷ []) at 0 v refl in
      let ca = r.parcels.carries id (v ∷ []) at 0 v refl in
      let same = subst (λ (t : List ℕ). m.steps t e.node e.call f e.reply f' × ((k : ℕ) → 0 < k → k < length t → Covers t e.node k
      → get_or g k None ≡ f k) × ((k : ℕ) → 0 < k → k < length t → Covers t e.node k → f' k ≡ get_or e.left k None)) so.tree
      (own_step, own_before, own_left) in
      let step_of = same.0 in let before = same.1 in let left = same.2 in
      let once : (k : ℕ) → 0 < k → k < length ps → Covers ps e.node k → has_out k v ≡ 1
      = λ k pk lk ck. let t = taken k pk lk ck in let q = ca.single k pk in omega arith in
      let parcels : (k : ℕ) → 0 < k → k < length ps → Covers ps e.node k → IsParcel kind_of first k (get_or e.left k None)
      = λ k pk lk ck. let y = fits k pk lk ck in let q = (ca.whole e.node k g here ck pk lk).2 in (
        y.0,
        y.1,
        (q.0, q.1, y.2 q.0 (ap (λ (z : List (Option P)). get_or z k None) ca.opened ∙ q.1)),
      ) in
      let rs : List Read = record { word = 0; value = x; shares = 0 } ∷ v.reads in
      let seen = h.seen id (v ∷ []) at 0 v refl in
      let log : List E = h.log ++ e ∷ [] in
      let places : List ℕ = v.mine ++ length h.log ∷ [] in
      let w : View P E = record v { stamped = e.node; held = set v.held e.node (Some e.left); reads = rs; seen = log; mine = places } in
      let next : Rule kind_of m ps first record {
        words = set s.words 0 ((x + 1) % 18446744073709551616);
        homes = s.homes;
        views = set s.views id
            (w ∷ []);
      } = record {
        base = relist-keeps P E kind_of ps first s r id e.node v g e.left rs log places at here unstamped (length-append v.mine (length h.log ∷ []))
            once parcels;
        history = stamp-remembers P C R B kind_of m local steady ps first s r h id v at e g here once f f' step_of before left own own' mine change _ rs;
      } in (
        w ∷ [],
        keeps,
        tt,
        next,
        (
          on-one _ me.0 v one (
            seen.0,
            ap (λ (l : List E). let z : View P E = record v {
              stamped = e.node;
              held = set v.held e.node (Some e.left);
              reads = rs;
              seen = l ++ e ∷ [];
              mine = v.mine ++ length l ∷ [];
            } in z ∷ []) (sym seen.1),
            (
              subst (λ (z : List ℕ × List (Option P) × List E). Legal m.steps z.0 (listed z.1) (z.2 ++ e ∷ []))
                  (λ i. (sym so.tree i, sym ca.opened i, sym seen.1 i)) (stamp-legal P C R B kind_of m local steady ps first s r h id v at e g here
                  once f f' step_of before left own own' mine change s.words rs),
              subst (λ (z : List ℕ × List (Option P) × List E). SoundThroughout m z.0 (listed z.1) (z.2 ++ e ∷ []))
                  (λ i. (sym so.tree i, sym ca.opened i, sym seen.1 i))
                  (stamp-throughout P C R B kind_of m local steady ps first s r h id v at e g here once f f' step_of before left own own' mine change
                  s.words rs),
              ap (λ (l : List E). chosen (l ++ e ∷ []) (v.mine ++ length l ∷ [])) seen.1 ∙ chosen_now P C R B kind_of m local steady ps first s r h
                  id v at e g here once f f' step_of before left own own' mine change s.words rs,
              (λ all_parts. nothing-more v.seen seen.0 (seen.1 ∙ only-log P C R B kind_of m ps first s r h id v at all_parts)),
              (let count = history-length P C R B kind_of m ps first s whole in let few = few-entries P E ps s.words s.views r.shares in
                  let one_more = length-append (v.seen ++ seen.0) (e ∷ []) in let size : length (v.seen ++ seen.0) ≡ length h.log = ap
                  (λ (l : List E). length l) seen.1 in
                  omega arith),
            ),
          ),
          refl,
        ),
      )
