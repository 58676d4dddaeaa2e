-- The numbers above a node are those of the nodes above it.
use Rattle.std.proofs.Common.{◌≡◌, ℕ, zero, suc, ◌<◌, true, false, not, List, [], ◌∷◌, ◌++◌, length, slice_index, slice_index_or, Some}
use Rattle.std.proofs.Common.{None, refl, sym, ◌∙◌, ap, subst, arith, length-append, ◌⊎◌, inl, inr, ⊎_elim}
use Rattle.std.specs.Prelude.{Contains}
use Rattle.std.proofs.lemmas.Bool.{and_parts, and_from, or_left, or_right, or_cases, not-true, not_from_false, false_from_ne_true}
use Rattle.nfs_model.specs.Tree.{Layout, Affinity, Serial, Aggregate, Volume, Logical, Stripe, Vbn, Range, path, begins, excludes, aggregate_of}
use Rattle.affinity.specs.Fault.{fault_of}
use Rattle.affinity.specs.Tree.{IsNode, IsParent, is_above, covers, parent_of}
use Rattle.affinity.specs.Under.{IsUnder}
use Rattle.affinity.specs.Numbers.{number_of, number_or_none, parents}
use Rattle.affinity.specs.lemmas.Ways.{begins-longer, begins-length, begins-step}
use Rattle.affinity.specs.lemmas.Lawful.{aggregate_known}
use Rattle.affinity.specs.lemmas.Sharing.{same_way, covers-cases, covers_from}
use Rattle.affinity.specs.lemmas.Places.{number_positive}
use Rattle.affinity.specs.lemmas.Numbered.{own_number}
use Rattle.affinity.specs.lemmas.Parents.{parent_at}

-- f lists the numbers above each number, the nearest first, where each number's parent is in the list
pub record ListsAbove (parents : List ℕ) (f : ℕ → List ℕ) : Type 0 where
  pub root : (n : ℕ) → slice_index parents n ≡ 0 → f n ≡ []
  pub child : (n p : ℕ) → 0 < n → 0 < p → slice_index parents n ≡ p → f n ≡ p ∷ f p

-- ---- elements of a list

first_in : (x y : ℕ) (ys : List ℕ) → y ≡ x → Contains (y ∷ ys) x
first_in x y ys e = (0, omega arith, e)

later_in : (x y : ℕ) (ys : List ℕ) → Contains ys x → Contains (y ∷ ys) x
later_in x y ys h = (suc h.0, (let within = h.1 in omega arith), h.2)

place_in : (x y : ℕ) (ys : List ℕ) (k : ℕ) → k < length (y ∷ ys) → slice_index_or (y ∷ ys) k x ≡ x → (y ≡ x) ⊎ Contains ys x
place_in x y ys zero h e = inl e
place_in x y ys (suc k) h e = inr (k, omega arith, e)

-- ---- a parent's ways

-- what is above a child is its parent or above that
above_child : (layout : Layout) (a b p : Affinity) → IsParent layout p b → is_above layout a b ≡ true → (a ≡ p) ⊎ (is_above layout a p ≡ true)
above_child layout a b p step h =
    let parts = and_parts (covers layout a b) (not (covers layout b a)) h in
    let longer : begins (path layout a) (path layout p ++ step.0 ∷ []) ≡ true = subst (λ (way : List ℕ). begins (path layout a) way ≡ true) step.1 parts.0 in
    ⊎_elim
    (λ (there : covers layout a p ≡ true).
    ⊎_elim (λ (same : p ≡ a). inl (sym same)) (λ (above : is_above layout a p ≡ true). inr above) (covers-cases layout a p there))
    (λ (same : path layout a ≡ path layout p ++ step.0 ∷ []).
    absurd (let one : a ≡ b = same_way layout a b (same ∙ sym step.1) in
    let back : covers layout b a ≡ false = not-true (covers layout b a) parts.1 in
    let self : covers layout b a ≡ true = covers_from layout b a (inl one) in
    let no : true ≡ false = sym self ∙ back in
    cc))
    (begins-step (path layout a) (path layout p) step.0 longer)

-- a child doesn't begin a way that begins its parent's
not_back : (layout : Layout) (a b p : Affinity) → IsParent layout p b → covers layout a p ≡ true → covers layout b a ≡ false
not_back layout a b p step h =
    false_from_ne_true (covers layout b a) (λ (back : covers layout b a ≡ true).
    let up = begins-length (path layout a) (path layout p) h in
    let down = begins-length (path layout b) (path layout a) back in
    let size = ap length step.1 in
    let one = length-append (path layout p) (step.0 ∷ []) in
    omega arith)

above_from : (layout : Layout) (a b p : Affinity) → IsParent layout p b → covers layout a p ≡ true → is_above layout a b ≡ true
above_from layout a b p step h =
    let longer = begins-longer (path layout a) (path layout p) (step.0 ∷ []) h in
    let there : covers layout a b ≡ true = subst (λ (way : List ℕ). begins (path layout a) way ≡ true) (sym step.1) longer in
    and_from (covers layout a b) (not (covers layout b a)) there (not_from_false (covers layout b a) (not_back layout a b p step h))

-- ---- the numbers above a node

-- f lists at a node just the numbers of the nodes above it
record IsListed (layout : Layout) (f : ℕ → List ℕ) (b : Affinity) : Type 0 where
  pub listed : (a : Affinity) → IsNode layout a → is_above layout a b ≡ true → Contains (f (number_of layout b)) (number_of layout a)
  pub above : (a : Affinity) → IsNode layout a → Contains (f (number_of layout b)) (number_of layout a) → is_above layout a b ≡ true

child_listed : (layout : Layout) (f : ℕ → List ℕ) (b p : Affinity) → IsNode layout p → IsParent layout p b
    → f (number_of layout b) ≡ number_of layout p ∷ f (number_of layout p) → IsListed layout f p → IsListed layout f b
child_listed layout f b p node step e up = record {
  listed = λ a m h.
      let found : Contains (number_of layout p ∷ f (number_of layout p)) (number_of layout a) =
      ⊎_elim
      (λ (same : a ≡ p). first_in (number_of layout a) (number_of layout p) (f (number_of layout p)) (ap (number_of layout) (sym same)))
      (λ (above : is_above layout a p ≡ true). later_in (number_of layout a) (number_of layout p) (f (number_of layout p)) (up.listed a m above))
      (above_child layout a b p step h) in
      subst (λ (xs : List ℕ). Contains xs (number_of layout a)) (sym e) found;
  above = λ a m h.
      let found : Contains (number_of layout p ∷ f (number_of layout p)) (number_of layout a) = subst (λ (xs : List ℕ). Contains xs (number_of layout a)) e h in
      above_from layout a b p step
      (⊎_elim
      (λ (same : number_of layout p ≡ number_of layout a). covers_from layout a p (inl (own_number layout p a node m same)))
      (λ (later : Contains (f (number_of layout p)) (number_of layout a)). covers_from layout a p (inr (up.above a m later)))
      (place_in (number_of layout a) (number_of layout p) (f (number_of layout p)) found.0 found.1 found.2));
}

-- a list starts with the parent's number
starts : (layout : Layout) (f : ℕ → List ℕ) (b p : Affinity) → ListsAbove (parents layout) f → IsNode layout b → parent_of layout b ≡ Some p
    → f (number_of layout b) ≡ number_of layout p ∷ f (number_of layout p)
starts layout f b p lists node e =
    lists.child (number_of layout b) (number_of layout p) (number_positive layout b) (number_positive layout p)
    (parent_at layout b node ∙ ap (number_or_none layout) e)

serial_listed : (layout : Layout) (f : ℕ → List ℕ) → ListsAbove (parents layout) f → IsListed layout f Serial
serial_listed layout f lists =
    let none : f 1 ≡ [] = lists.root 1 refl in
    record {
      listed = λ a m h. absurd (let back = (and_parts (covers layout a Serial) false h).1 in let no : false ≡ true = back in cc);
      above = λ a m h. absurd
          (let found : Contains [] (number_of layout a) = subst (λ (xs : List ℕ). Contains xs (number_of layout a)) none h
          in let within : found.0 < 0 = found.1 in omega arith);
    }

aggregate_listed : (layout : Layout) (f : ℕ → List ℕ) → ListsAbove (parents layout) f → (a : ℕ) → a < length layout.spare → IsListed layout f (Aggregate a)
aggregate_listed layout f lists a h =
    child_listed layout f (Aggregate a) Serial tt (a, refl) (starts layout f (Aggregate a) Serial lists h refl) (serial_listed layout f lists)

volume_listed : (layout : Layout) (f : ℕ → List ℕ) → fault_of layout ≡ None → ListsAbove (parents layout) f → (v : ℕ) → v < length layout.volumes
    → IsListed layout f (Volume v)
volume_listed layout f lawful lists v h =
    let known = aggregate_known layout v lawful h in
    child_listed layout f (Volume v) (Aggregate (aggregate_of layout v)) known (v, refl)
    (starts layout f (Volume v) (Aggregate (aggregate_of layout v)) lists h refl) (aggregate_listed layout f lists (aggregate_of layout v) known)

logical_listed : (layout : Layout) (f : ℕ → List ℕ) → fault_of layout ≡ None → ListsAbove (parents layout) f → (v : ℕ) → v < length layout.volumes
    → IsListed layout f (Logical v)
logical_listed layout f lawful lists v h =
    child_listed layout f (Logical v) (Volume v) h (0, refl) (starts layout f (Logical v) (Volume v) lists h refl) (volume_listed layout f lawful lists v h)

vbn_listed : (layout : Layout) (f : ℕ → List ℕ) → fault_of layout ≡ None → ListsAbove (parents layout) f → (v : ℕ) → v < length layout.volumes
    → IsListed layout f (Vbn v)
vbn_listed layout f lawful lists v h =
    child_listed layout f (Vbn v) (Volume v) h (1, refl) (starts layout f (Vbn v) (Volume v) lists h refl) (volume_listed layout f lawful lists v h)

node_listed : (layout : Layout) (f : ℕ → List ℕ) → fault_of layout ≡ None → ListsAbove (parents layout) f → (b : Affinity) → IsNode layout b
    → IsListed layout f b
node_listed layout f lawful lists Serial h = serial_listed layout f lists
node_listed layout f lawful lists (Aggregate a) h = aggregate_listed layout f lists a h
node_listed layout f lawful lists (Volume v) h = volume_listed layout f lawful lists v h
node_listed layout f lawful lists (Logical v) h = logical_listed layout f lawful lists v h
node_listed layout f lawful lists (Stripe v i) h =
    child_listed layout f (Stripe v i) (Logical v) h.0 (i, refl) (starts layout f (Stripe v i) (Logical v) lists h refl)
    (logical_listed layout f lawful lists v h.0)
node_listed layout f lawful lists (Vbn v) h = vbn_listed layout f lawful lists v h
node_listed layout f lawful lists (Range v r) h =
    child_listed layout f (Range v r) (Vbn v) h.0 (r, refl) (starts layout f (Range v r) (Vbn v) lists h refl) (vbn_listed layout f lawful lists v h.0)

-- ---- parcels by numbers

pub number_over : (layout : Layout) (f : ℕ → List ℕ) (a p : Affinity) → fault_of layout ≡ None → ListsAbove (parents layout) f → IsNode layout a
    → IsNode layout p
    → IsUnder layout a p → (number_of layout a ≡ number_of layout p) ⊎ Contains (f (number_of layout p)) (number_of layout a)
number_over layout f a p lawful lists m n h =
    ⊎_elim
    (λ (same : p ≡ a). inl (ap (number_of layout) (sym same)))
    (λ (above : is_above layout a p ≡ true). inr ((node_listed layout f lawful lists p n).listed a m above))
    h.1

pub under_numbered : (layout : Layout) (f : ℕ → List ℕ) (a p : Affinity) → fault_of layout ≡ None → ListsAbove (parents layout) f → IsNode layout a
    → IsNode layout p
    → (number_of layout a ≡ number_of layout p) ⊎ Contains (f (number_of layout p)) (number_of layout a) → IsUnder layout a p
under_numbered layout f a p lawful lists m n h = (
  n,
  ⊎_elim
      (λ (same : number_of layout a ≡ number_of layout p). inl (sym (own_number layout a p m n same)))
      (λ (found : Contains (f (number_of layout p)) (number_of layout a)). inr ((node_listed layout f lawful lists p n).above a m found))
      h,
)

-- ---- exclusion by numbers

pub excludes-cases : (layout : Layout) (a b : Affinity) → excludes layout a b ≡ true → (a ≡ b) ⊎ ((is_above layout a b ≡ true) ⊎ (is_above layout b a ≡ true))
excludes-cases layout a b h =
    ⊎_elim
    (λ (e : covers layout a b ≡ true).
    ⊎_elim (λ (same : b ≡ a). inl (sym same)) (λ (above : is_above layout a b ≡ true). inr (inl above)) (covers-cases layout a b e))
    (λ (e : covers layout b a ≡ true).
    ⊎_elim (λ (same : a ≡ b). inl same) (λ (above : is_above layout b a ≡ true). inr (inr above)) (covers-cases layout b a e))
    (or_cases (covers layout a b) (covers layout b a) h)

pub excludes_by : (layout : Layout) (a b : Affinity) → (a ≡ b) ⊎ ((is_above layout a b ≡ true) ⊎ (is_above layout b a ≡ true)) → excludes layout a b ≡ true
excludes_by layout a b h =
    ⊎_elim
    (λ (same : a ≡ b). or_left (covers layout a b) (covers layout b a) (covers_from layout a b (inl (sym same))))
    (λ (one : (is_above layout a b ≡ true) ⊎ (is_above layout b a ≡ true)).
    ⊎_elim
    (λ (above : is_above layout a b ≡ true). or_left (covers layout a b) (covers layout b a) (covers_from layout a b (inr above)))
    (λ (above : is_above layout b a ≡ true). or_right (covers layout a b) (covers layout b a) (covers_from layout b a (inr above)))
    one)
    h

pub numbers_from : (layout : Layout) (f : ℕ → List ℕ) (a b : Affinity) → fault_of layout ≡ None → ListsAbove (parents layout) f → IsNode layout a
    → IsNode layout b → excludes layout a b ≡ true
    → (number_of layout a ≡ number_of layout b) ⊎
    (Contains (f (number_of layout b)) (number_of layout a) ⊎ Contains (f (number_of layout a)) (number_of layout b))
numbers_from layout f a b lawful lists m n h =
    ⊎_elim
    (λ (same : a ≡ b). inl (ap (number_of layout) same))
    (λ (one : (is_above layout a b ≡ true) ⊎ (is_above layout b a ≡ true)).
    ⊎_elim
    (λ (above : is_above layout a b ≡ true). inr (inl ((node_listed layout f lawful lists b n).listed a m above)))
    (λ (above : is_above layout b a ≡ true). inr (inr ((node_listed layout f lawful lists a m).listed b n above)))
    one)
    (excludes-cases layout a b h)

pub excludes_numbered : (layout : Layout) (f : ℕ → List ℕ) (a b : Affinity) → fault_of layout ≡ None → ListsAbove (parents layout) f → IsNode layout a
    → IsNode layout b
    → (number_of layout a ≡ number_of layout b) ⊎
    (Contains (f (number_of layout b)) (number_of layout a) ⊎ Contains (f (number_of layout a)) (number_of layout b)) → excludes layout a b ≡ true
excludes_numbered layout f a b lawful lists m n h =
    excludes_by layout a b (⊎_elim
    (λ (same : number_of layout a ≡ number_of layout b). inl (own_number layout a b m n same))
    (λ (one : Contains (f (number_of layout b)) (number_of layout a) ⊎ Contains (f (number_of layout a)) (number_of layout b)).
    ⊎_elim
    (λ (found : Contains (f (number_of layout b)) (number_of layout a)). inr (inl ((node_listed layout f lawful lists b n).above a m found)))
    (λ (found : Contains (f (number_of layout a)) (number_of layout b)). inr (inr ((node_listed layout f lawful lists a m).above b n found)))
    one)
    h)
