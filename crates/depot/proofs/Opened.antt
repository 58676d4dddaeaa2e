-- The beginning and the end of a depot.
use Rattle.std.proofs.Common.{◌≡◌, ℕ, ◌<◌, ◌≤◌, ltb, List, [], ◌∷◌, length, replicate, get_or, sym, refl, ap, ◌∙◌, subst, Option, Some, None}
use mathlib.Core.Option.{some}
use lib.ListN.{get_elem?}
use Rattle.atomic_table.specs.Table.{opening, Final, Seen}
use Rattle.depot_rule.specs.declared.view.View.{View}
use Rattle.affinity.specs.Ancestors.{IsTree, one_if, tally}
use Rattle.depot_rule.specs.Shares.{Has, opening_view}
use Rattle.depot_rule.specs.Rule.{Rule}
use Rattle.depot_rule.specs.declared.view.Entry.{Entry}
use Rattle.depot_rule.specs.Sums.{total}
use Rattle.depot_rule.specs.History.{Behaviour, Legal, SoundThroughout, AreHands, listed, after, entries_of}
use Rattle.depot_rule.specs.Parcels.{IsParcel}
use Rattle.depot_rule.specs.Seats.{view_of}
use Rattle.depot_rule.proofs.Opening.{opens-whole, closes, closes-history, closes-parcels}
use Rattle.depot_rule.proofs.Places.{one-view}
use Rattle.depot_rule.proofs.Views.{only-view}
use Rattle.depot_rule.proofs.Whole.{only-log}
use Rattle.affinity.specs.declared.affinity.Kind.{Kind}
use Rattle.depot.specs.Calls.{own_views, known}
use Rattle.depot.proofs.Moves.{placed-one}

-- a table at its end, where its only seat has no grant
pub record Whole {P C R B : Type 0} (kind_of : P → Kind) (m : Behaviour P C R B) (ps : List ℕ) (v : View P (Entry P C R)) (xs : List (Option P)) : Type 0 where
  pub size : length xs ≡ length ps
  pub filled : (k : ℕ) → 0 < k → k < length ps → (y : Option P) × (get_elem? xs k ≡ some y) × IsParcel kind_of v.first k y
  pub history : Legal m.steps v.tree (listed v.first) v.seen × SoundThroughout m v.tree (listed v.first) v.seen
      × ((hands : List B) × AreHands m.takes m.gives (entries_of v) hands × m.invariant v.tree (after v.tree (listed v.first) v.seen) hands (length v.seen))
      × ((p : ℕ) → tally p v.mine ≡ one_if (ltb p (length v.seen)))
  pub entries : (weigh : Entry P C R → ℕ) → total weigh (entries_of v) ≡ total weigh v.seen
  pub left : (k : ℕ) → 0 < k → k < length ps → get_elem? xs k ≡ some (after v.tree (listed v.first) v.seen k)

module _ (P C R B : Type 0) (kind_of : P → Kind) (m : Behaviour P C R B) where
  abbrev E : Type 0
  E = Entry P C R

  pub opened-so : {ps qs : List ℕ} {first others : List (Option P)} {ws : List ℕ} {n : ℕ} → qs ≡ ps → others ≡ first → ws ≡ replicate {A = ℕ} n 0
      → n ≡ length ps
      → IsTree ps → length ps ≤ 1024 → length first ≡ length ps → ((k : ℕ) → 0 < k → k < length ps → (p : P) × (get_or first k None ≡ Some p))
      → (f : ℕ → Option P) → ((k : ℕ) → get_or first k None ≡ f k) → m.invariant ps f [] 0
      → Rule kind_of m qs others (opening ws first (opening_view qs others ∷ []))
  opened-so {ps = ps} {qs = qs} {first = first} {others = others} {ws = ws} parents parcels words many tree few wide there f are sound =
      let w : ws ≡ replicate {A = ℕ} (length ps) 0 = words ∙ ap (λ (k : ℕ). replicate {A = ℕ} k 0) many in
      subst (λ (x : List ℕ × List (Option P) × List ℕ). Rule kind_of m x.0 x.1 (opening x.2 first (opening_view x.0 x.1 ∷ [])))
      (λ i. (sym parents i, sym parcels i, sym w i))
      (opens-whole P C R B kind_of m ps first tree few wide there (subst (λ (g : ℕ → Option P). m.invariant ps g [] 0) (λ i k. sym (are k) i) sound))

  closed-so : (ps : List ℕ) (first : List (Option P)) (id : ℕ) (vs : List (View P E)) (ws : List ℕ) (xs : List (Option P)) → vs ≡ view_of vs ∷ []
      → (view_of vs).parts ≡ 64
      → ((b : ℕ) (g : List (Option P)) → Has (view_of vs) b g → ⊥) → Final (Seen (Rule kind_of m ps first) id vs) ws xs
      → Whole kind_of m ps (view_of vs) xs
  closed-so ps first id vs ws xs one all none_open end =
      let at = end.1.1 ∙ ap some one in
      let r = end.1.0.base in
      let mine = r.parcels.carries id (view_of vs ∷ []) at 0 (view_of vs) refl in
      let so = r.shares.sound id (view_of vs ∷ []) at 0 (view_of vs) refl in
      let history = closes-history P C R B kind_of m ps first end.0 end.1.0 id (view_of vs) at all in
      let parcels = closes-parcels P C R B kind_of m ps first end.0 end.1.0 id (view_of vs) at all none_open in
      record {
        size = sym end.3 ∙ r.parcels.slots;
        filled = λ k pk lk. let home = closes P E kind_of ps first end.0 r id (view_of vs) at all none_open k pk lk in
            (home.0, end.4 k home.0 home.1, subst (λ (l : List (Option P)). IsParcel kind_of l k home.0) (sym mine.opened) home.2);
        history = subst (λ (x : List ℕ × List (Option P)). Legal m.steps x.0 (listed x.1) (view_of vs).seen × SoundThroughout m x.0 (listed x.1)
            (view_of vs).seen
            × ((hands : List B) × AreHands m.takes m.gives (entries_of (view_of vs)) hands
            × m.invariant x.0 (after x.0 (listed x.1) (view_of vs).seen) hands (length (view_of vs).seen))
            × ((p : ℕ) → tally p (view_of vs).mine ≡ one_if (ltb p (length (view_of vs).seen)))) (λ i. (sym so.tree i, sym mine.opened i)) history;
        entries = λ weigh. sym (only-view P E ps end.0.words end.0.views r.shares id (view_of vs) at all (λ (u : View P E). total weigh (entries_of u)))
            ∙ (end.1.0.history.shared weigh ∙ ap (total weigh) (only-log P C R B kind_of m ps first end.0 r end.1.0.history id (view_of vs) at all));
        left = λ k pk lk. end.4 k (after ps (listed first) (view_of vs).seen k) (parcels k pk lk)
            ∙ ap (λ (x : List ℕ × List (Option P)). some (after x.0 (listed x.1) (view_of vs).seen k)) (λ i. (sym so.tree i, sym mine.opened i));
      }

  -- the same of a seat between two calls
  pub ended-so : {ps : List ℕ} {first : List (Option P)} {id : ℕ} {views : List (List (View P E))} (vs : List (View P E)) {ws : List ℕ}
      {xs : List (Option P)} → views ≡ vs ∷ [] → length (own_views views) ≡ 1 → (known views).parts ≡ 64
      → ((b : ℕ) (g : List (Option P)) → Has (known views) b g → ⊥) → Final (Seen (Rule kind_of m ps first) id vs) ws xs
      → Whole kind_of m ps (known views) xs
  ended-so {ps = ps} {first = first} {id = id} {views = views} vs {ws = ws} {xs = xs} is one all none_open end =
      subst (λ (l : List (List (View P E))). Whole kind_of m ps (known l) xs) (sym is)
      (closed-so ps first id vs ws xs (one-view vs (placed-one is one)) (sym (ap (λ l. (known l).parts) is) ∙ all)
      (subst (λ (l : List (List (View P E))). (b : ℕ) (h : List (Option P)) → Has (known l) b h → ⊥) is none_open) end)
