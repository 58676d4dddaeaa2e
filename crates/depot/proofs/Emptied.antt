-- Parcels taken from the slots of a table that ended.
use Rattle.std.proofs.Common.{◌≡◌, ◌≢◌, ℕ, zero, suc, ◌<◌, ◌≤◌, Bool, true, false, List, [], ◌∷◌, length, set, get_or, sym, refl, ap, ◌∙◌}
use Rattle.std.proofs.Common.{subst, arith, Option, Some, None, inl, inr, ⊎_elim}
use Rattle.std.proofs.lemmas.List.{get_or_past}
use Rattle.std.proofs.lemmas.Bool.{cases_lt}
use mathlib.Core.Option as maybe
use mathlib.Core.Option.{some, some-injective, some-ne-none}
use lib.ListN.{get_elem?}
use Rattle.atomic_table.proofs.Lists.{at_set, set_here, set_else}
use Rattle.nfs_model.specs.Tree.{Layout, Affinity, Serial, Aggregate, Volume, Logical, Stripe, Vbn, Range}
use Rattle.affinity.specs.declared.affinity.Kind.{Kind}
use Rattle.affinity.specs.Numbers.{number_of, parents}
use Rattle.affinity.specs.Tree.{IsNode}
use Rattle.affinity.specs.Under.{IsUnder}
use Rattle.parcels.specs.Exact.{Under, HasExactly, IsPlaced}
use Rattle.parcels.specs.Moved.{Moved}
use Rattle.depot.specs.Closed.{value_of, if_filled, left_at}
use Rattle.depot.specs.Kinds.{AreOfKind}
use Rattle.affinity.specs.lemmas.Standing.{place-node, under-place}
use Rattle.depot_rule.specs.declared.view.View.{View}
use Rattle.depot_rule.specs.declared.view.Entry.{Entry}
use Rattle.depot_rule.specs.History.{Behaviour, listed, after}
use Rattle.depot.proofs.Opened.{Whole}

within-there : {A : Type 0} (xs : List A) (k : ℕ) → k < length xs → get_elem? xs k ≢ maybe.none
within-there [] k h e = absurd (omega arith)
within-there (x ∷ xs) zero h e = some-ne-none x e
within-there (x ∷ xs) (suc k) h e = within-there xs k (omega arith) e

module _ {T : Type 0} where
  filled-none : (b : Bool) (z : maybe.Option (Option T)) → z ≢ maybe.none → z ≢ some None → if_filled b (value_of z) ≡ None → b ≡ false
  filled-none true maybe.none there some_parcel e = absurd (there refl)
  filled-none true (maybe.some None) there some_parcel e = absurd (some_parcel refl)
  filled-none true (maybe.some (Some p)) there some_parcel e = absurd cc
  filled-none false z there some_parcel e = refl

  -- where nothing is left of a parcel that was there, its slot was emptied
  pub none-left : (filled : List Bool) (items : List (Option T)) (k : ℕ) → 0 < k → k < length items → get_elem? items k ≢ some None
      → left_at filled items k ≡ None → get_or filled k false ≡ false
  none-left filled items zero pos lt some_parcel e = absurd (omega arith)
  none-left filled items (suc k) pos lt some_parcel e = filled-none (get_or filled (suc k) false) (get_elem? items (suc k))
      (within-there items (suc k) lt) some_parcel e

-- slot 0 was emptied last
pub all-empty : (filled : List Bool) → ((k : ℕ) → 0 < k → k < length filled → get_or filled k false ≡ false) → (k : ℕ) → k < length filled
    → get_or (set filled 0 false) k false ≡ false
all-empty [] others k lt = absurd (omega arith)
all-empty (b ∷ filled) others zero lt = refl
all-empty (b ∷ filled) others (suc k) lt = others (suc k) (omega arith) lt

-- ---- the end of a depot

-- each node is under Serial
pub under-serial : (layout : Layout) (c : Affinity) → IsNode layout c → IsUnder layout Serial c
under-serial layout Serial m = (m, inl refl)
under-serial layout (Aggregate a) m = (m, inr refl)
under-serial layout (Volume v) m = (m, inr refl)
under-serial layout (Logical v) m = (m, inr refl)
under-serial layout (Stripe v i) m = (m, inr refl)
under-serial layout (Vbn v) m = (m, inr refl)
under-serial layout (Range v r) m = (m, inr refl)

module _ {P : Type 0} where
  left-there : (filled : List Bool) (items : List (Option P)) (k : ℕ) (y : Option P) → 0 < k → get_or filled k false ≡ true
      → get_elem? items k ≡ some y → left_at filled items k ≡ y
  left-there filled items zero y pos full there = absurd (omega arith)
  left-there filled items (suc k) y pos full there = ap (λ (x : Bool × maybe.Option (Option P)). if_filled x.0 (value_of x.1)) (λ i. (full i, there i))

  -- no slot but 0 is vacant
  pub whole-some : {C R B : Type 0} (kind_of : P → Kind) {m : Behaviour P C R B} {ps : List ℕ} {v : View P (Entry P C R)} {xs : List (Option P)}
      → Whole kind_of m ps v xs → (k : ℕ) → 0 < k → k < length xs → get_elem? xs k ≢ some None
  whole-some kind_of {xs = xs} w k pos lt e =
      let size = w.size in
      let f = w.filled k pos (omega arith) in
      no-parcel (f.2.0) (some-injective _ _ (sym e ∙ f.1) ∙ f.2.1)
    where
      no-parcel : (p : P) → None ≡ Some p → ⊥
      no-parcel p e = cc

  -- each node's parcel is left, of its kind
  pub whole-placed : {C R B : Type 0} (kind_of : P → Kind) (layout : Layout) {m : Behaviour P C R B} {ps : List ℕ} {v : View P (Entry P C R)}
      {xs : List (Option P)} (filled : List Bool) → ps ≡ parents layout → AreOfKind kind_of layout v.first
      → ((k : ℕ) → k < length xs → get_or filled k false ≡ true) → Whole kind_of m ps v xs
      → Under layout Serial (IsPlaced kind_of layout (left_at filled xs))
  whole-placed kind_of layout {xs = xs} filled is kinds full w node under =
      let size = w.size in
      let many = ap length is in
      let place = under-place layout Serial node under in
      let lt = place.1 in
      let f = w.filled (number_of layout node) place.0 (omega arith) in (
        f.2.0,
        left-there filled xs (number_of layout node) f.0 place.0 (full (number_of layout node) (omega arith)) f.1 ∙ f.2.1,
        f.2.2.2
            ∙ kinds node f.2.2.0 under.0 f.2.2.1,
      )

  -- what was taken of each node is as the history left it
  pub taken-left : {C R B : Type 0} (kind_of : P → Kind) (layout : Layout) {m : Behaviour P C R B} {ps : List ℕ} (v : View P (Entry P C R))
      {xs : List (Option P)} (filled : List Bool) (taken after_all : ℕ → Option P) → ps ≡ parents layout → v.tree ≡ parents layout
      → ((k : ℕ) → k < length xs → get_or filled k false ≡ true) → Whole kind_of m ps v xs → HasExactly kind_of layout Serial taken
      → ((k : ℕ) → Moved (left_at filled xs k) (taken k) (after_all k))
      → (k : ℕ) → 0 < k → k < length v.tree → taken k ≡ after v.tree (listed v.first) v.seen k
  taken-left kind_of layout {ps = ps} v {xs = xs} filled taken after_all is tree full w exact moved k pos lt =
      let size = w.size in
      let many : length ps ≡ length (parents layout) = ap (λ (l : List ℕ). length l) is in
      let own : length v.tree ≡ length (parents layout) = ap (λ (l : List ℕ). length l) tree in
      let c = place-node layout k pos (omega arith) in
      let t = exact.each c.0 (under-serial layout c.0 c.1) in
      let here : taken k ≡ Some t.0 = ap taken (sym c.2) ∙ t.1 in
      let was = moved-before (left_at filled xs k) (taken k) (after_all k) t.0 here (moved k) in
      here ∙ (sym was ∙ left-there filled xs k (after v.tree (listed v.first) v.seen k) pos (full k (omega arith)) (w.left k pos (omega arith)))
    where
      moved-before : (before taken after : Option P) (p : P) → taken ≡ Some p → Moved before taken after → before ≡ Some p
      moved-before before taken after p e m = (subst (λ (t : Option P). Moved before t after) e m).0

  gathered-none : (before taken after : Option P) → Moved before taken after → (taken ≡ None → before ≡ None) → after ≡ None
  gathered-none before None after m none = m ∙ none refl
  gathered-none before (Some p) after m none = m.1

  past-none : (filled : List Bool) (items : List (Option P)) (k : ℕ) → length filled ≤ k → left_at filled items k ≡ None
  past-none filled items zero le = refl
  past-none filled items (suc k) le = ap (λ b. if_filled b (value_of (get_elem? items (suc k)))) (get_or_past filled (suc k) false le)

  -- once all nodes' parcels were taken, nothing is left
  pub nothing-left : (kind_of : P → Kind) (layout : Layout) (filled : List Bool) (items : List (Option P)) (taken after : ℕ → Option P)
      → length filled ≡ length (parents layout)
      → HasExactly kind_of layout Serial taken → ((k : ℕ) → Moved (left_at filled items k) (taken k) (after k)) → (k : ℕ) → after k ≡ None
  nothing-left kind_of layout filled items taken after size exact moved k = gathered-none (left_at filled items k) (taken k) (after k) (moved k) (before k)
    where
      not-taken : (k : ℕ) → 0 < k → k < length (parents layout) → taken k ≡ None → ⊥
      not-taken k pos lt e =
          let c = place-node layout k pos lt in
          let t = exact.each c.0 (under-serial layout c.0 c.1) in
          some-no (t.0) (sym e ∙ (ap taken (sym c.2) ∙ t.1))
        where
          some-no : (p : P) → None ≡ Some p → ⊥
          some-no p e = cc

      before : (k : ℕ) → taken k ≡ None → left_at filled items k ≡ None
      before zero e = refl
      before (suc k) e = ⊎_elim
          (λ (lt : suc k < length filled). absurd (not-taken (suc k) (omega arith) (omega arith) e))
          (λ (le : length filled ≤ suc k). past-none filled items (suc k) le)
          (cases_lt (suc k) (length filled))

-- ---- a parcel that comes back to its slot

other-flag : (filled : List Bool) (n k : ℕ) → k ≢ n → get_or (set filled n true) k false ≡ get_or filled k false
other-flag [] n k ne = refl
other-flag (b ∷ filled) zero zero ne = absurd (ne refl)
other-flag (b ∷ filled) zero (suc k) ne = refl
other-flag (b ∷ filled) (suc n) zero ne = refl
other-flag (b ∷ filled) (suc n) (suc k) ne = other-flag filled n k (λ e. ne (ap suc e))

own-flag : (filled : List Bool) (n : ℕ) → n < length filled → get_or (set filled n true) n false ≡ true
own-flag [] n lt = absurd (omega arith)
own-flag (b ∷ filled) zero lt = refl
own-flag (b ∷ filled) (suc n) lt = own-flag filled n (omega arith)

pub put-root : (filled : List Bool) (n : ℕ) → 0 < n → get_or filled 0 false ≡ true → get_or (set filled n true) 0 false ≡ true
put-root filled n pos e = other-flag filled n 0 (λ z. omega arith) ∙ e

module _ {T : Type 0} where
  pub put-there : (filled : List Bool) (items : List (Option T)) (n : ℕ) (p : T) → 0 < n → n < length filled → n < length items
      → left_at (set filled n true) (set items n (Some p)) n ≡ Some p
  put-there filled items zero p pos lt li = absurd (omega arith)
  put-there filled items (suc n) p pos lt li = ap (λ (x : Bool × maybe.Option (Option T)). if_filled x.0 (value_of x.1))
      (λ i. (own-flag filled (suc n) lt i, set_here items (suc n) (Some p) li i))

  pub put-others : (filled : List Bool) (items : List (Option T)) (n : ℕ) (p : T) (k : ℕ) → k ≢ n → left_at (set filled n true)
      (set items n (Some p)) k ≡ left_at filled items k
  put-others filled items n p zero ne = refl
  put-others filled items n p (suc k) ne = ap (λ (x : Bool × maybe.Option (Option T)). if_filled x.0 (value_of x.1))
      (λ i. (other-flag filled n (suc k) ne i, set_else items n (suc k) (Some p) ne i))

  pub put-parcels : (items : List (Option T)) (n : ℕ) (p : T) (k : ℕ) → get_elem? items k ≢ some None → get_elem? (set items n (Some p)) k ≢ some None
  put-parcels items n p k there e = ⊎_elim
      (λ (q : (k ≡ n) × (Some p ≡ None)). let bad : Some p ≡ None = q.1 in cc)
      (λ (q : (k ≢ n) × (get_elem? items k ≡ some None)). there q.1)
      (at_set items n k (Some p) None e)
