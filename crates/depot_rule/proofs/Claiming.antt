-- The steps claim and release, as the table asks for them.
use Rattle.std.proofs.Common.{◌≡◌, ◌≢◌, ◌⊎◌, ℕ, zero, suc, ◌+◌, ◌-◌, ◌%◌, ◌^◌, ◌<◌, ◌≤◌, eqb, Bool, List, [], ◌∷◌, map, length, get_or, set}
use Rattle.std.proofs.Common.{sym, refl, ap, ◌∙◌, subst, arith, Option, Some, None, eq-eqb, ne_eqb, inl, inr, ⊎_elim}
use mathlib.Core.Option.{none, some, some-injective, some-ne-none}
use mathlib.Core.Option as maybe
use mathlib.Core.Logic.{dite}
use native.Mathlib.Decide.{ℕ_discrete}
use lib.ListN.{get_elem?}
use prog.Atomic.{either}
use Rattle.atomic_table.specs.Table.{State, Step, step, keeps, stepped, Allows}
use Rattle.atomic_table.proofs.Lists.{at_set, set_else}
use Rattle.depot_rule.specs.declared.view.View.{View}
use Rattle.depot_rule.specs.declared.view.Entry.{Entry}
use Rattle.depot_rule.specs.declared.view.Read.{Read}
use Rattle.depot_rule.specs.History.{Behaviour, IsHistory, listed, after}
use Rattle.affinity.specs.Ancestors.{tally, ancestors, Covers, Excludes}
use Rattle.depot_rule.specs.Sums.{total}
use Rattle.depot_rule.specs.Shares.{exclusive, Has, claims, entered, shares, Shares}
use Rattle.depot_rule.specs.Parcels.{has_out, IsParcel, Carries}
use Rattle.depot_rule.specs.Rule.{Rule}
use Rattle.depot_rule.specs.Plays.{Place, noted, ClaimSays, ReleaseSays}
use Rattle.depot_rule.proofs.Views.{finds-own, few-entries}
use Rattle.depot_rule.specs.lemmas.Sums.{total-at}
use Rattle.depot_rule.proofs.Grants.{at-length, claims-own, lower-own}
use Rattle.depot_rule.proofs.Only.{own-or-below}
use Rattle.depot_rule.proofs.Words.{claim-keeps, release-keeps, read-keeps}
use Rattle.depot_rule.proofs.Parcels.{stay-keeps, untaken}
use Rattle.depot_rule.specs.lemmas.Trees.{covers-below}
use Rattle.depot_rule.proofs.Following.{are-apart}
use Rattle.depot_rule.proofs.Places.{on-one}
use Rattle.depot_rule.proofs.Current.{current-stays, current-granted}
use Rattle.depot_rule.proofs.Remembering.{remembers, still}
use Rattle.depot_rule.proofs.Hands.{is-history}
use Rattle.depot_rule.proofs.Whole.{only-log}
use Rattle.depot_rule.proofs.Counting.{history-length}
use Rattle.affinity.specs.declared.affinity.Kind.{Kind}

-- what lies in a slot, none where it is out
abbrev lying : {P : Type 0} → maybe.Option (Option P) → Option P
lying none = None
lying (some y) = y

lying-at : {P : Type 0} (homes : List (maybe.Option (Option P))) (k : ℕ) (y : Option P) → get_elem? homes k ≡ some (some y)
    → get_or (map lying homes) k None ≡ y
lying-at [] k y e = absurd (some-ne-none (some y) (sym e))
lying-at (x ∷ xs) zero y e = ap lying (some-injective x (some y) e)
lying-at (x ∷ xs) (suc k) y e = lying-at xs k y e

module _ (P C R B : Type 0) (kind_of : P → Kind) (m : Behaviour P C R B) where
  abbrev E : Type 0
  E = Entry P C R

  abbrev St : Type 0
  St = State (Option P) (List (View P E))

  abbrev G : Type 0
  G = List (Option P)

  -- where b's word is 0 and the words above it are entered, the seat has no grant that excludes b
  not-held : (ps ws : List ℕ) (views : List (List (View P E))) (r : Shares ps ws views) (id : ℕ) (v : View P E) (b c : ℕ) (h : G)
      → get_elem? views id ≡ some (v ∷ []) → 0 < b → b < length ps
      → ((a : ℕ) → tally a v.path ≡ tally a (ancestors ps b)) → get_or ws b 0 ≡ 0 → Has v c h → Excludes ps b c → 0 < c → ⊥
  not-held ps ws views r id v b c h at pos lt all free hc ex pc =
      let so = r.sound id (v ∷ []) at 0 v refl in
      let lt' = at-length v.held c (Some h) hc in let wide = so.wide in
      let q = r.counted b pos lt in let sh = total-at (total (shares b)) views id (v ∷ []) at in
      ⊎_elim
      (λ (e : b ≡ c). let m : 1 ≤ claims b v = claims-own P E v b h (ap (get_elem? v.held) e ∙ hc) in absurd (omega arith))
      (λ (o : (0 < tally b (ancestors ps c)) ⊎ (0 < tally c (ancestors ps b))). ⊎_elim
      (λ (u : 0 < tally b (ancestors ps c)). let m = lower-own P E ps v so b c h hc in absurd (omega arith))
      (λ (u : 0 < tally c (ancestors ps b)).
      let m = claims-own P E v c h hc in let n = total-at (total (claims c)) views id (v ∷ []) at in
      let l = r.alone c pc (omega arith) (omega arith) in let l1 = l.1 in
      let p = all c in let mine = total-at (total (entered c)) views id (v ∷ []) at in absurd (omega arith)) o) ex

  -- a grant of b, of what lies in the slots
  granted : (ps : List ℕ) (first : List (Option P)) (s : St) (b : ℕ) (v : View P E) (rs : List Read) → Carries kind_of ps first s.homes v → 0 < b
      → b < length ps → get_elem? v.held b ≡ some None
      → ((k : ℕ) → 0 < k → k < length ps → Covers ps b k → (y : Option P) × (get_elem? s.homes k ≡ some (some y)) × IsParcel kind_of first k y)
      → Carries kind_of ps first s.homes (record v { looked = 0; path = []; held = set v.held b (Some (map lying s.homes)); reads = rs })
  granted ps first s b v rs ca pos lt vacant found =
      let g : G = map lying s.homes in
      let cases : (c : ℕ) (h : G) → get_elem? (set v.held b (Some g)) c ≡ some (Some h) → ((c ≡ b) × (g ≡ h)) ⊎ ((c ≢ b) × (get_elem? v.held c ≡ some (Some h)))
      = λ c h e. ⊎_elim (λ (t : (c ≡ b) × (Some g ≡ Some h)). let gh : g ≡ h = (let q = t.1 in cc) in inl (t.0, gh))
      (λ (t : (c ≢ b) × (get_elem? v.held c ≡ some (Some h))). inr t) (at_set v.held b c (Some g) (Some h) e) in
      record {
        opened = ca.opened;
        nodes = λ c h e. ⊎_elim (λ (t : (c ≡ b) × (g ≡ h)). let z = t.0 in (omega arith, omega arith))
            (λ (t : (c ≢ b) × (get_elem? v.held c ≡ some (Some h))). ca.nodes c h t.1) (cases c h e);
        single = ca.single;
        cover = λ k pk some_take. let t = ca.cover k pk some_take in (
          t.0,
          t.1,
          set_else v.held b t.0 (Some g) (λ e. let bad : some None ≡ some (Some t.1) = sym vacant
              ∙ (ap (get_elem? v.held) (sym e) ∙ t.2) in cc) ∙ t.2,
          t.3,
        );
        whole = λ c k h e ck pk lk. ⊎_elim
            (λ (t : (c ≡ b) × (g ≡ h)). let y = found k pk lk (subst (λ (z : ℕ). Covers ps z k) t.0 ck) in
            subst (IsParcel kind_of first k) (sym (ap (λ (z : G). get_or z k None) (sym t.1) ∙ lying-at s.homes k y.0 y.1)) y.2)
            (λ (t : (c ≢ b) × (get_elem? v.held c ≡ some (Some h))). ca.whole c k h t.1 ck pk lk) (cases c h e);
        there = λ c k h e ck pk lk none_taken. ⊎_elim
            (λ (t : (c ≡ b) × (g ≡ h)). let y = found k pk lk (subst (λ (z : ℕ). Covers ps z k) t.0 ck) in
            y.1 ∙ ap (λ (z : Option P). some (some z)) (sym (ap (λ (z : G). get_or z k None) (sym t.1) ∙ lying-at s.homes k y.0 y.1)))
            (λ (t : (c ≢ b) × (get_elem? v.held c ≡ some (Some h))). ca.there c k h t.1 ck pk lk none_taken) (cases c h e);
        empty = ca.empty;
      }

  pub claims-it : (ps : List ℕ) (first : List (Option P)) (slots id : ℕ) (me : Place P E) (v : View P E) (b : ℕ) → me.0 ≡ v ∷ [] → 0 < b
      → b < length ps → v.unsure ≡ 0 → v.looked ≡ 1
      → ((a : ℕ) → tally a v.path ≡ tally a (ancestors ps b))
      → Allows (Rule kind_of m ps first) slots id me b (λ x. either (eqb x 0) exclusive x) (ClaimSays kind_of m (step slots b 0 exclusive none) me)
  claims-it ps first slots id me v b one pos lt calm ready all s whole _ at' small =
      let r = whole.base in let h = whole.history in
      let at : get_elem? s.views id ≡ some (v ∷ []) = at' ∙ ap some one in
      let st : Step (Option P) = step slots b 0 exclusive none in
      let x : ℕ = get_or s.words b 0 in
      let so = r.shares.sound id (v ∷ []) at 0 v refl in
      let ca = r.parcels.carries id (v ∷ []) at 0 v refl in
      let own = finds-own P E ps s.words s.views r.shares b id v at pos lt in
      dite (ℕ_discrete x 0)
      (λ free.
      let g : G = map lying s.homes in
      let w : View P E = record v { looked = 0; path = []; held = set v.held b (Some g); reads = noted st x v } in
      let found : (k : ℕ) → 0 < k → k < length ps → Covers ps b k → (y : Option P) × (get_elem? s.homes k ≡ some (some y)) × IsParcel kind_of first k y
      = λ k pk lk ck. r.parcels.home k pk lk (untaken P E kind_of ps first s r id b k v at pos lt all free pk ck) in
      let F : ℕ → Option P = after ps (listed first) h.log in
      let lists : (k : ℕ) → 0 < k → k < length ps → Covers ps b k → get_or g k None ≡ F k
      = λ k pk lk ck. lying-at s.homes k (F k) (h.current.now k pk lk (untaken P E kind_of ps first s r id b k v at pos lt all free pk ck)) in
      let kept = claim-keeps P E ps s.words s.views r.shares id v b g (noted st x v) at pos lt ready all free in (
        w ∷ [],
        keeps,
        tt,
        subst (λ (z : Bool). Rule kind_of m ps first (stepped s b (either z exclusive x) id me.1 (w ∷ []) keeps)) (sym (eq-eqb x 0 free))
            (record {
              base = record {
                shares = kept.1;
                parcels = stay-keeps P E kind_of ps first s r id v w at (λ k. refl)
                    (granted ps first s b v (noted st x v) ca pos lt kept.0 found);
              };
              history = remembers P C R B m ps first s h _ s.homes id v 0 v.stamped [] v.unsure (set v.held b (Some g)) v.out v.gone (noted st x v) at
                  (current-granted ps F s _ id b v w g at (λ k. refl) refl h.current.now (λ j us aj i u ai c k l has other. h.current.granted j us aj
                  i u ai c k l has) (λ k ck pk lk. lists k pk lk ck));
            }),
        (
          on-one _ me.0 v one (
            (λ _. (
              g,
              refl,
              (λ k pk lk ck.
                  let y = found k pk (subst (λ (t : List ℕ). k < length t) so.tree lk) (subst (λ (t : List ℕ). Covers t b k) so.tree ck) in
                  subst (λ (f : List (Option P)). IsParcel kind_of f k (get_or g k None)) (sym ca.opened)
                  (subst (IsParcel kind_of first k) (sym (lying-at s.homes k y.0 y.1)) y.2)),
              (λ c h hc ex. not-held ps s.words s.views r.shares id v b c h at pos lt all free hc (subst (λ (t : List ℕ). Excludes t b c) so.tree ex)
                  (ca.nodes c h hc).0),
              (λ k pk ck.
                  let u = untaken P E kind_of ps first s r id b k v at pos lt all free pk (subst (λ (t : List ℕ). Covers t b k) so.tree ck) in
                  let m = total-at (total (has_out k)) s.views id (v ∷ []) at in omega arith),
              kept.0,
              (
                h.log,
                subst (λ (z : List ℕ × List (Option P)). IsHistory m z.0 z.1 v h.log) (λ i. (sym so.tree i, sym ca.opened i))
                    (is-history P C R B m ps first s h id v at),
                (let n = history-length P C R B kind_of m ps first s whole in let f = few-entries P E ps s.words s.views r.shares in let few : length
                    h.log < 4611686018427687904 = omega arith in few),
                (λ all_parts. only-log P C R B kind_of m ps first s r h id v at all_parts),
                (λ k pk lk ck.
                    lists k pk (subst (λ (t : List ℕ). k < length t) so.tree lk) (subst (λ (t : List ℕ). Covers t b k) so.tree ck)
                    ∙ ap (λ (z : List ℕ × List (Option P)). after z.0 (listed z.1) h.log k) (λ i. (sym so.tree i, sym ca.opened i))),
              ),
            )),
            (λ ne. absurd (ne free)),
          ),
          refl,
        ),
      ))
      (λ busy.
      let w : View P E = record v { reads = noted st x v } in (
        w ∷ [],
        keeps,
        tt,
        subst (λ (z : Bool). Rule kind_of m ps first (stepped s b (either z exclusive x) id me.1 (w ∷ []) keeps)) (sym (ne_eqb x 0 busy))
            (record {
              base = record {
                shares = read-keeps P E ps s.words s.views r.shares id v b v.out v.gone (noted st x v) at pos lt;
                parcels = stay-keeps P E kind_of ps first s r id v w at (λ k. refl)
                    (record {
                      opened = ca.opened;
                      nodes = ca.nodes;
                      single = ca.single;
                      cover = ca.cover;
                      whole = ca.whole;
                      there = ca.there;
                      empty = ca.empty;
                    });
              };
              history = still P C R B m ps first s h _ id v v.looked v.path v.unsure (noted st x v) at;
            }),
        (
          on-one _ me.0 v one (
            (λ e. absurd (busy e)),
            (λ _. (
              refl,
              λ only. subst (λ (t : List ℕ). (c : ℕ) × (h : G) × Has v c h × Excludes t b c) (sym so.tree)
                  (own-or-below P E ps r.shares.tree b v so all calm pos (λ z. busy (own only ∙ z))),
            )),
          ),
          refl,
        ),
      ))

  -- a grant whose parcels are all at home is given up
  pub releases : (ps : List ℕ) (first : List (Option P)) (slots id : ℕ) (me : Place P E) (v : View P E) (b : ℕ) (g : G) → me.0 ≡ v ∷ [] → 0 < b
      → b < length ps → v.path ≡ [] → get_elem? v.held b ≡ some (Some g)
      → ((k : ℕ) (p : P) → 0 < k → k < length ps → Covers ps b k → get_or g k None ≡ Some p → has_out k v ≡ 0)
      → Allows (Rule kind_of m ps first) slots id me b (λ x. (x + (2 ^ 64 - exclusive)) % 2 ^ 64) (ReleaseSays (step slots b exclusive 0 none) me)
  releases ps first slots id me v b g one pos lt no_path held listed_home s whole _ at' small =
      let r = whole.base in let h = whole.history in
      let at : get_elem? s.views id ≡ some (v ∷ []) = at' ∙ ap some one in
      let st : Step (Option P) = step slots b exclusive 0 none in
      let x : ℕ = get_or s.words b 0 in
      let so = r.shares.sound id (v ∷ []) at 0 v refl in
      let ca = r.parcels.carries id (v ∷ []) at 0 v refl in
      let home_again : (k : ℕ) → 0 < k → Covers ps b k → has_out k v ≡ 0
      = λ k pk ck. let lk = covers-below ps b k pk lt ck in let p = ca.whole b k g held ck pk lk in listed_home k p.0 pk lk ck p.1 in
      let w : View P E = record v { stamped = 0; path = ancestors v.tree b; held = set v.held b None; reads = noted st x v } in
      let kept = release-keeps P E ps s.words s.views r.shares id v b g (noted st x v) at pos lt no_path held in
      let full = kept.0 in
      let wrap : (x + 18446744069414584320) % 18446744073709551616 ≡ x - exclusive = omega arith in
      let old : (c : ℕ) (h : G) → get_elem? w.held c ≡ some (Some h) → get_elem? v.held c ≡ some (Some h) = λ c h e. ⊎_elim
      (λ (t : (c ≡ b) × (None ≡ Some h)). absurd (let bad : None ≡ Some h = t.1 in cc)) (λ (t : (c ≢ b) × (get_elem? v.held c ≡ some (Some h))). t.1)
      (at_set v.held b c None (Some h) e) in
      let mine : Carries kind_of ps first s.homes w = record {
        opened = ca.opened;
        nodes = λ c h e. ca.nodes c h (old c h e);
        single = ca.single;
        cover = λ k pk t. let q = ca.cover k pk t in (
          q.0,
          q.1,
          set_else v.held b q.0 None (λ e.
              let z = home_again k pk (subst (λ (n : ℕ). Covers ps n k) e q.3) in absurd (omega arith)) ∙ q.2,
          q.3,
        );
        whole = λ c k h e ck pk lk. ca.whole c k h (old c h e) ck pk lk;
        there = λ c k h e ck pk lk z. ca.there c k h (old c h e) ck pk lk z;
        empty = ca.empty;
      } in (
        w ∷ [],
        keeps,
        tt,
        subst (λ (z : ℕ). Rule kind_of m ps first (stepped s b z id me.1 (w ∷ []) keeps)) (sym wrap)
            (record {
              base = record { shares = kept.1; parcels = stay-keeps P E kind_of ps first s r id v w at (λ k. refl) mine };
              history = remembers P C R B m ps first s h _ s.homes id v v.looked 0 (ancestors v.tree b) v.unsure (set v.held b None) v.out v.gone
                  (noted st x v) at
                  (current-stays ps (after ps (listed first) h.log) s h.current _ id v w at (λ k. refl) old);
            }),
        (
          on-one _ me.0 v one (
            refl,
            λ c h hc ex. sym (are-apart P E kind_of ps first s r id 0 b id 0 c (v ∷ [], v, g, at, refl, held)
                (v ∷ [], v, h, at, refl, hc) (subst (λ (t : List ℕ). Excludes t b c) so.tree ex)).2,
          ),
          refl,
        ),
      )
