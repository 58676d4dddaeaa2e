-- Where the parcels are: what a claim finds, and steps that move one slot or none.
use Rattle.std.proofs.Common.{◌≡◌, ◌≢◌, ◌⊎◌, ℕ, ◌+◌, ◌<◌, ◌≤◌, eqb, List, [], ◌∷◌, length, get_or, set, sym, refl, ap, ◌∙◌, subst, arith}
use Rattle.std.proofs.Common.{Option, Some, None, length-set, ⊎_elim}
use mathlib.Core.Option.{some}
use mathlib.Core.Option as maybe
use mathlib.Core.Logic.{dite}
use native.Mathlib.Decide.{ℕ_discrete}
use lib.ListN.{get_elem?}
use Rattle.atomic_table.specs.Table.{State}
use Rattle.atomic_table.proofs.Lists.{set_else, set_here}
use Rattle.depot_rule.specs.declared.view.View.{View}
use Rattle.depot_rule.specs.declared.view.Read.{Read}
use Rattle.affinity.specs.Ancestors.{one_if, tally, ancestors, Covers}
use Rattle.depot_rule.specs.Sums.{total}
use Rattle.depot_rule.specs.Shares.{claims, entered, shares}
use Rattle.depot_rule.specs.Parcels.{has_out, Carries, Parcels}
use Rattle.depot_rule.specs.Rule.{Base}
use Rattle.depot_rule.specs.lemmas.Sums.{total-set, total-at, total-zero}
use Rattle.depot_rule.specs.lemmas.Trees.{cover-excludes}
use Rattle.depot_rule.proofs.Views.{all-one, each-set, each-moved}
use Rattle.depot_rule.proofs.Words.{read-keeps}
use Rattle.depot_rule.proofs.Grants.{claims-own, lower-own, covers-one}
use Rattle.affinity.specs.declared.affinity.Kind.{Kind}

module _ (P E : Type 0) (kind_of : P → Kind) where
  abbrev St : Type 0
  St = State (Option P) (List (View P E))

  -- a step that moves no slot
  pub stay-keeps : (ps : List ℕ) (first : List (Option P)) (s : St) (r : Base kind_of ps first s) (id : ℕ) (v w : View P E)
      → get_elem? s.views id ≡ some (v ∷ [])
      → ((k : ℕ) → has_out k w ≡ has_out k v) → Carries kind_of ps first s.homes w
      → Parcels kind_of ps first s.homes (set s.views id (w ∷ []))
  stay-keeps ps first s r id v w at same mine = record {
    slots = r.parcels.slots;
    home = λ k pk lk none_taken. let t = total-set (total (has_out k)) s.views id (v ∷ []) (w ∷ []) at in let e = same k in r.parcels.home k pk lk
        (omega arith);
    carries = each-set (Carries kind_of ps first s.homes) s.views id (w ∷ []) r.parcels.carries (all-one (Carries kind_of ps first s.homes) w mine);
  }

  -- where b's word is 0 and the words above it are entered, no seat has a parcel that b covers
  pub untaken : (ps : List ℕ) (first : List (Option P)) (s : St) (r : Base kind_of ps first s) (id b k : ℕ) (v : View P E)
      → get_elem? s.views id ≡ some (v ∷ []) → 0 < b → b < length ps
      → ((a : ℕ) → tally a v.path ≡ tally a (ancestors ps b)) → get_or s.words b 0 ≡ 0 → 0 < k → Covers ps b k → total (total (has_out k)) s.views ≡ 0
  untaken ps first s r id b k v at pb lb all free pk cover = total-zero (total (has_out k)) s.views (λ j us aj. total-zero (has_out k) us (λ i u ai.
      let cu = r.parcels.carries j us aj i u ai in
      dite (ℕ_discrete (has_out k u) 0) (λ z. z) (λ nz.
      let t = cu.cover k pk (omega arith) in
      let c : ℕ = t.0 in let node = cu.nodes c t.1 t.2 in
      let q = r.shares.counted b pb lb in
      let sh = total-at (shares b) us i u ai in let sh' = total-at (total (shares b)) s.views j us aj in
      let so = r.shares.sound j us aj i u ai in
      absurd (⊎_elim
      (λ (e : b ≡ c). let m : 1 ≤ claims b u = claims-own P E u b t.1 (ap (get_elem? u.held) e ∙ t.2) in omega arith)
      (λ (o : (0 < tally b (ancestors ps c)) ⊎ (0 < tally c (ancestors ps b))). ⊎_elim
      (λ (h : 0 < tally b (ancestors ps c)). let m = lower-own P E ps u so b c t.1 t.2 in omega arith)
      (λ (h : 0 < tally c (ancestors ps b)).
      let m = claims-own P E u c t.1 t.2 in
      let n = total-at (claims c) us i u ai in let n' = total-at (total (claims c)) s.views j us aj in
      let l = r.shares.alone c node.0 node.1 (omega arith) in let l1 = l.1 in
      let p = all c in let mine = total-at (total (entered c)) s.views id (v ∷ []) at in omega arith) o)
      (cover-excludes ps r.shares.tree b c k cover t.3)))))

  -- what is in the slot of k changes; a view that doesn't cover k is as before
  carries-else : (ps : List ℕ) (first : List (Option P)) (homes : List (maybe.Option (Option P))) (k : ℕ) (x : maybe.Option (Option P)) (u : View P E)
      → ((c : ℕ) (h : List (Option P)) → get_elem? u.held c ≡ some (Some h) → Covers ps c k → ⊥) → Carries kind_of ps first homes u
      → Carries kind_of ps first (set homes k x) u
  carries-else ps first homes k x u not cu = record {
    opened = cu.opened;
    nodes = cu.nodes;
    single = cu.single;
    cover = cu.cover;
    whole = cu.whole;
    there = λ c m h hc cm p l none_taken. dite (ℕ_discrete m k)
        (λ e. absurd (not c h hc (subst (Covers ps c) e cm)))
        (λ ne. set_else homes k m x ne ∙ cu.there c m h hc cm p l none_taken);
    empty = λ m p some_gone. dite (ℕ_discrete m k)
        (λ e. let t = cu.cover m p (omega arith) in absurd (not t.0 t.1 t.2 (subst (Covers ps t.0) e t.3)))
        (λ ne. set_else homes k m x ne ∙ cu.empty m p some_gone);
  }

  -- one slot changes, of a node that a grant of the seat covers: x is there from then on
  pub slot-keeps : (ps : List ℕ) (first : List (Option P)) (s : St) (r : Base kind_of ps first s) (id b k : ℕ) (v : View P E) (g : List (Option P))
      (out : ℕ) (gone : List ℕ) (rs : List Read) (x : maybe.Option (Option P))
      → get_elem? s.views id ≡ some (v ∷ []) → get_elem? v.held b ≡ some (Some g) → Covers ps b k → 0 < k → k < length ps
      → ((m : ℕ) → 0 < m → m ≢ k → (tally m gone ≡ tally m v.gone) × (one_if (eqb out m) ≡ one_if (eqb v.out m)))
      → tally k gone + one_if (eqb out k) ≤ 1
      → (tally k gone + one_if (eqb out k) ≡ 0 → x ≡ some (get_or g k None))
      → (0 < tally k gone → x ≡ some None)
      → Base kind_of ps first record {
        words = set s.words k (get_or s.words k 0);
        homes = set s.homes k x;
        views = set s.views id
            (record v { out = out; gone = gone; reads = rs } ∷ []);
      }
  slot-keeps ps first s r id b k v g out gone rs x at here covers pos lt else_same most back gone_empty =
      let ca = r.parcels.carries id (v ∷ []) at 0 v refl in
      let w : View P E = record v { out = out; gone = gone; reads = rs } in
      let node = ca.nodes b g here in
      let wide = r.parcels.slots in
      let one_grant : (c : ℕ) (h : List (Option P)) → get_elem? v.held c ≡ some (Some h) → Covers ps c k → g ≡ h = λ c h hc ck.
      let q = covers-one P E ps s.words s.views r.shares id id 0 0 b c k (v ∷ []) (v ∷ []) v v g h node.0 (ca.nodes c h hc).0 at refl here at refl hc
      covers ck in
      let hc' : get_elem? v.held b ≡ some (Some h) = ap (get_elem? v.held) q.2 ∙ hc in let both : some (Some g) ≡ some (Some h) = sym here ∙ hc' in cc in
      let now : get_elem? (set s.homes k x) k ≡ some x = set_here s.homes k x (omega arith) in
      let mine : Carries kind_of ps first (set s.homes k x) w = record {
        opened = ca.opened;
        nodes = ca.nodes;
        single = λ m pm. dite (ℕ_discrete m k)
            (λ e. subst (λ (z : ℕ). has_out z w ≤ 1) (sym e) most)
            (λ ne. let t = else_same m pm ne in let t0 = t.0 in let t1 = t.1 in let q = ca.single m pm in omega arith);
        cover = λ m pm some_take. dite (ℕ_discrete m k)
            (λ e. (b, g, here, subst (Covers ps b) (sym e) covers))
            (λ ne. let t = else_same m pm ne in let t0 = t.0 in let t1 = t.1 in ca.cover m pm (omega arith));
        whole = ca.whole;
        there = λ c m h hc cm pm lm none_taken. dite (ℕ_discrete m k)
            (λ e. let gh = one_grant c h hc (subst (Covers ps c) e cm) in
            ap (get_elem? (set s.homes k x)) e ∙ (now ∙ ap some (back (subst (λ (z : ℕ). has_out z w ≡ 0) e none_taken)
            ∙ ap (λ (z : List (Option P) × ℕ). some (get_or z.0 z.1 None)) (λ i. (gh i, sym e i)))))
            (λ ne. let t = else_same m pm ne in let t0 = t.0 in let t1 = t.1 in set_else s.homes k m x ne ∙ ca.there c m h hc cm pm lm (omega arith));
        empty = λ m pm some_gone. dite (ℕ_discrete m k)
            (λ e. ap (get_elem? (set s.homes k x)) e ∙ (now ∙ ap some (gone_empty (subst (λ (z : ℕ). 0 < tally z gone) e some_gone))))
            (λ ne. let t = else_same m pm ne in let t0 = t.0 in set_else s.homes k m x ne ∙ ca.empty m pm (omega arith));
      } in
      record {
        shares = read-keeps P E ps s.words s.views r.shares id v k out gone rs at pos lt;
        parcels = record {
          slots = length-set s.homes k x ∙ r.parcels.slots;
          home = λ m pm lm none_taken. let t = total-set (total (has_out m)) s.views id (v ∷ []) (w ∷ []) at in dite (ℕ_discrete m k)
              (λ e. let tk : has_out m w ≡ has_out k w = ap (λ (z : ℕ). has_out z w) e in
              let n = total-at (total (has_out m)) s.views id (v ∷ []) at in (
                get_or g m None,
                ap (get_elem? (set s.homes k x)) e
                    ∙ (now ∙ ap some (back (omega arith) ∙ ap (λ (z : ℕ). some (get_or g z None)) (sym e))),
                ca.whole b m g here (subst (Covers ps b) (sym e) covers) pm lm,
              ))
              (λ ne. let q = else_same m pm ne in let q0 = q.0 in let q1 = q.1 in let h = r.parcels.home m pm lm (omega arith) in (
                h.0,
                set_else s.homes k m x ne ∙ h.1,
                h.2,
              ));
          carries = each-moved (Carries kind_of ps first s.homes) (Carries kind_of ps first (set s.homes k x)) s.views id (w ∷ [])
              (λ j us ne aj i u ai cu. carries-else ps first s.homes k x u (λ c h hc ck.
              let q = covers-one P E ps s.words s.views r.shares id j 0 i b c k (v ∷ []) us v u g h node.0 (cu.nodes c h hc).0 at refl here aj ai hc
              covers ck in ne (sym q.0)) cu)
              r.parcels.carries (all-one (Carries kind_of ps first (set s.homes k x)) w mine);
        };
      }
