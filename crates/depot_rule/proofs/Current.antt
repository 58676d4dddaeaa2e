-- Parcels at home, and those that grants list, stay as the history left them.
use Rattle.std.proofs.Common.{◌≡◌, ◌≢◌, ℕ, ◌+◌, ◌<◌, eqb, List, [], ◌∷◌, length, get_or, set, sym, refl, ap, ◌∙◌, subst, arith, Option, Some, None, ⊎_elim}
use mathlib.Core.Option.{some}
use mathlib.Core.Option as maybe
use mathlib.Core.Logic.{dite}
use native.Mathlib.Decide.{ℕ_discrete}
use lib.ListN.{get_elem?}
use Rattle.atomic_table.specs.Table.{State}
use Rattle.atomic_table.proofs.Lists.{at_set, set_else, set_here}
use Rattle.depot_rule.specs.declared.view.View.{View}
use Rattle.depot_rule.specs.declared.view.Read.{Read}
use Rattle.affinity.specs.Ancestors.{one_if, tally, Covers}
use Rattle.depot_rule.specs.Sums.{total}
use Rattle.depot_rule.specs.Shares.{Has}
use Rattle.depot_rule.specs.Parcels.{has_out}
use Rattle.depot_rule.specs.History.{Current}
use Rattle.depot_rule.specs.lemmas.Sums.{total-set, total-at}
use Rattle.depot_rule.proofs.Views.{all-one, each-set}

module _ {P E : Type 0} (ps : List ℕ) (f : ℕ → Option P) where
  -- what a view's grants list is as f has it
  abbrev pub ListsCurrent : View P E → Type 0
  ListsCurrent v = (b k : ℕ) (g : List (Option P)) → Has v b g → Covers ps b k → 0 < k → k < length ps → get_or g k None ≡ f k

  -- no slot moves, and no grant is new
  pub current-stays : (s : State (Option P) (List (View P E))) (c : Current ps f s) (words : List ℕ) (id : ℕ) (v w : View P E)
      → get_elem? s.views id ≡ some (v ∷ [])
      → ((k : ℕ) → has_out k w ≡ has_out k v) → ((b : ℕ) (g : List (Option P)) → Has w b g → Has v b g)
      → Current ps f record { words = words; homes = s.homes; views = set s.views id (w ∷ []) }
  current-stays s c words id v w at same old = record {
    now = λ k pk lk z. let t = total-set (total (has_out k)) s.views id (v ∷ []) (w ∷ []) at in let e = same k in c.now k pk lk (omega arith);
    granted = each-set ListsCurrent s.views id (w ∷ []) c.granted (all-one ListsCurrent w (λ b k g has. c.granted id (v ∷ []) at 0 v refl b k g (old b g has)));
  }

  -- a grant lists other parcels than before, or is new: they are as g has them
  pub current-granted : (s : State (Option P) (List (View P E))) (words : List ℕ) (id b : ℕ) (v w : View P E) (left : List (Option P))
      → get_elem? s.views id ≡ some (v ∷ [])
      → ((k : ℕ) → has_out k w ≡ has_out k v) → w.held ≡ set v.held b (Some left)
      → ((k : ℕ) → 0 < k → k < length ps → total (total (has_out k)) s.views ≡ 0 → get_elem? s.homes k ≡ some (some (f k)))
      → ((j : ℕ) (us : List (View P E)) → get_elem? s.views j ≡ some us → (i : ℕ) (u : View P E) → get_elem? us i ≡ some u
      → (c k : ℕ) (h : List (Option P)) → Has u c h → (j ≡ id → c ≢ b) → Covers ps c k → 0 < k → k < length ps → get_or h k None ≡ f k)
      → ((k : ℕ) → Covers ps b k → 0 < k → k < length ps → get_or left k None ≡ f k)
      → Current ps f record { words = words; homes = s.homes; views = set s.views id (w ∷ []) }
  current-granted s words id b v w left at same held home others lists = record {
    now = λ k pk lk z. let t = total-set (total (has_out k)) s.views id (v ∷ []) (w ∷ []) at in let e = same k in home k pk lk (omega arith);
    granted = λ j us aj i u ai c k h has cover pk lk. ⊎_elim
        (λ (t : (j ≡ id) × (w ∷ [] ≡ us)).
        let alone = all-one ListsCurrent w (λ c k h has cover pk lk. ⊎_elim
        (λ (q : (c ≡ b) × (Some left ≡ Some h)). let lh : left ≡ h = (let e = q.1 in cc) in
        ap (λ (z : List (Option P)). get_or z k None) (sym lh) ∙ lists k (subst (λ (z : ℕ). Covers ps z k) q.0 cover) pk lk)
        (λ (q : (c ≢ b) × (get_elem? v.held c ≡ some (Some h))). others id (v ∷ []) at 0 v refl c k h q.1 (λ _. q.0) cover pk lk)
        (at_set v.held b c (Some left) (Some h) (sym (ap (λ (z : List (Option (List (Option P)))). get_elem? z c) held) ∙ has))) in
        alone i u (subst (λ (z : List (View P E)). get_elem? z i ≡ some u) (sym t.1) ai) c k h has cover pk lk)
        (λ (t : (j ≢ id) × (get_elem? s.views j ≡ some us)). others j us t.1 i u ai c k h has (λ e. absurd (t.0 e)) cover pk lk)
        (at_set s.views id j (w ∷ []) us aj);
  }

  -- one slot changes, of a node that a grant of the seat covers
  pub current-slot : (s : State (Option P) (List (View P E))) (c : Current ps f s) (words : List ℕ) (id b k : ℕ) (v : View P E) (g : List (Option P))
      (out : ℕ) (gone : List ℕ) (rs : List Read) (x : maybe.Option (Option P))
      → get_elem? s.views id ≡ some (v ∷ []) → get_elem? v.held b ≡ some (Some g) → Covers ps b k → 0 < k → k < length ps → length s.homes ≡ length ps
      → ((m : ℕ) → 0 < m → m ≢ k → (tally m gone ≡ tally m v.gone) × (one_if (eqb out m) ≡ one_if (eqb v.out m)))
      → (tally k gone + one_if (eqb out k) ≡ 0 → x ≡ some (get_or g k None))
      → Current ps f record { words = words; homes = set s.homes k x; views = set s.views id (record v { out = out; gone = gone; reads = rs } ∷ []) }
  current-slot s c words id b k v g out gone rs x at here covers pos lt wide else_same back =
      let w : View P E = record v { out = out; gone = gone; reads = rs } in record {
        now = λ m pm lm z. let t = total-set (total (has_out m)) s.views id (v ∷ []) (w ∷ []) at in dite (ℕ_discrete m k)
            (λ e. let tk : has_out m w ≡ has_out k w = ap (λ (n : ℕ). has_out n w) e in
            let n = total-at (total (has_out m)) s.views id (v ∷ []) at in
            ap (get_elem? (set s.homes k x)) e
            ∙ (set_here s.homes k x (omega arith)
            ∙ ap some (back (omega arith) ∙ ap some (c.granted id (v ∷ []) at 0 v refl b k g here covers pos lt ∙ ap f (sym e)))))
            (λ ne. let q = else_same m pm ne in let q0 = q.0 in let q1 = q.1 in set_else s.homes k m x ne ∙ c.now m pm lm (omega arith));
        granted = each-set ListsCurrent s.views id (w ∷ []) c.granted (all-one ListsCurrent w (c.granted id (v ∷ []) at 0 v refl));
      }
