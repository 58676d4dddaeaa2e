-- Node numbers stand for nodes, there and back, and for what is under a node and what excludes another.
use Rattle.std.proofs.Common.{◌≡◌, ◌≢◌, ℕ, zero, suc, ◌<◌, ◌≤◌, eqb, true, List, [], ◌∷◌, length, slice_index, slice_index_or, None, refl}
use Rattle.std.proofs.Common.{sym, ap, ◌∙◌, subst, arith, eq-eqb, ne_eqb, ◌⊎◌, inl, inr, ⊎_elim}
use Rattle.std.specs.Prelude.{Contains}
use mathlib.Core.Logic.{dite}
use native.Mathlib.Decide.{ℕ_discrete}
use Rattle.nfs_model.specs.Tree.{Layout, Affinity, excludes}
use Rattle.affinity.specs.Ancestors.{one_if, tally, IsTree, from_parent, upwards, ancestors, Covers, Excludes}
use Rattle.affinity.specs.Fault.{fault_of}
use Rattle.affinity.specs.Tree.{IsNode}
use Rattle.affinity.specs.Under.{IsUnder}
use Rattle.affinity.specs.Numbers.{number_of, node_count, parents}
use Rattle.affinity.specs.lemmas.Places.{number_positive, number_within}
use Rattle.affinity.specs.lemmas.Lawful.{few_nodes}
use Rattle.affinity.specs.lemmas.Numbered.{some_node}
use Rattle.affinity.specs.lemmas.Smaller.{length-parents, parent_smaller}
use Rattle.affinity.specs.lemmas.Chains.{ListsAbove, number_over, under_numbered, numbers_from, excludes_numbered}

-- ---- a list contains what stands in it at least once

pub one-same : (x y : ℕ) → x ≡ y → one_if (eqb x y) ≡ 1
one-same x y e = ap one_if (eq-eqb x y e)

pub one-other : (x y : ℕ) → x ≢ y → one_if (eqb x y) ≡ 0
one-other x y e = ap one_if (ne_eqb x y e)

stands : (n : ℕ) (xs : List ℕ) (k : ℕ) → k < length xs → slice_index_or xs k n ≡ n → 0 < tally n xs
stands n [] k h e = absurd (omega arith)
stands n (x ∷ xs) zero h e = let one = one-same x n e in omega arith
stands n (x ∷ xs) (suc k) h e = let others = stands n xs k (omega arith) e in omega arith

contained : (n : ℕ) (xs : List ℕ) → 0 < tally n xs → Contains xs n
contained n [] h = absurd (omega arith)
contained n (x ∷ xs) h = dite (ℕ_discrete x n)
    (λ e. (0, omega arith, e))
    (λ ne. let other = one-other x n ne in let there = contained n xs (omega arith) in (suc there.0, omega (arith, there.1), there.2))

-- ---- the nodes above a node

from-same : (f g : ℕ → List ℕ) (p : ℕ) → (0 < p → f p ≡ g p) → from_parent f p ≡ from_parent g p
from-same f g zero h = refl
from-same f g (suc p) h = ap (λ (above : List ℕ). suc p ∷ above) (h (omega arith))

-- there are fewer nodes above b than its number
pub enough : (ps : List ℕ) → IsTree ps → (m n b : ℕ) → 0 < b → b ≤ m → b ≤ n → upwards ps m b ≡ upwards ps n b
enough ps tree zero n b pos h k = absurd (omega arith)
enough ps tree (suc m) zero b pos h k = absurd (omega arith)
enough ps tree (suc m) (suc n) b pos h k =
    let less = tree b pos in
    from-same (upwards ps m) (upwards ps n) (slice_index ps b)
    (λ some_parent. enough ps tree m n (slice_index ps b) some_parent (omega arith) (omega arith))

pub ancestors-root : (ps : List ℕ) (b : ℕ) → slice_index ps b ≡ 0 → ancestors ps b ≡ []
ancestors-root ps zero e = refl
ancestors-root ps (suc b) e = ap (from_parent (upwards ps b)) e

pub ancestors-parent : (ps : List ℕ) → IsTree ps → (b p : ℕ) → 0 < b → slice_index ps b ≡ p → 0 < p → ancestors ps b ≡ p ∷ ancestors ps p
ancestors-parent ps tree zero p pos e q = absurd (omega arith)
ancestors-parent ps tree (suc b) zero pos e q = absurd (omega arith)
ancestors-parent ps tree (suc b) (suc p) pos e q =
    let less = tree (suc b) pos in
    ap (from_parent (upwards ps b)) e
    ∙ ap (λ (above : List ℕ). suc p ∷ above) (enough ps tree b (suc p) (suc p) q (omega arith) (omega arith))

ancestors-list : (ps : List ℕ) → IsTree ps → ListsAbove ps (ancestors ps)
ancestors-list ps tree = record {
  root = λ n e. ancestors-root ps n e;
  child = λ n p pn pp e. ancestors-parent ps tree n p pn e pp;
}

-- ---- the list of parents

pub parents-tree : (layout : Layout) → fault_of layout ≡ None → IsTree (parents layout)
parents-tree layout lawful b pos = parent_smaller layout b lawful pos

pub parents-few : (layout : Layout) → fault_of layout ≡ None → length (parents layout) ≤ 284
parents-few layout lawful =
    let size = length-parents layout in
    let few = few_nodes layout lawful in
    omega arith

-- a node's number is a place in the list
pub number-place : (layout : Layout) (a : Affinity) → IsNode layout a → (0 < number_of layout a) × (number_of layout a < length (parents layout))
number-place layout a m =
    let size = length-parents layout in
    let within = number_within layout a m in
    (number_positive layout a, (let less : number_of layout a < length (parents layout) = omega arith in less))

-- and each place but 0 is a node's number
pub place-node : (layout : Layout) (k : ℕ) → 0 < k → k < length (parents layout) → (c : Affinity) × IsNode layout c × (number_of layout c ≡ k)
place-node layout k pos less =
    let size = length-parents layout in
    some_node layout k pos (let within : k ≤ node_count layout = omega arith in within)

-- what is under a node is a node, and has a place
pub under-place : (layout : Layout) (a c : Affinity) → IsUnder layout a c → (0 < number_of layout c) × (number_of layout c < length (parents layout))
under-place layout a c under = number-place layout c under.0

-- ---- by number, in a layout that breaks no rule

module _ (layout : Layout) (lawful : fault_of layout ≡ None) where
  abbrev above : ℕ → List ℕ
  above = ancestors (parents layout)

  lists : ListsAbove (parents layout) above
  lists = ancestors-list (parents layout) (parents-tree layout lawful)

  -- what is under a node, its number covers
  pub covers-under : (a c : Affinity) → IsNode layout a → IsUnder layout a c → Covers (parents layout) (number_of layout a) (number_of layout c)
  covers-under a c m under =
      ⊎_elim
      (λ (e : number_of layout a ≡ number_of layout c). inl e)
      (λ (h : Contains (above (number_of layout c)) (number_of layout a)). inr (stands (number_of layout a) (above (number_of layout c)) h.0 h.1 h.2))
      (number_over layout above a c lawful lists m under.0 under)

  pub under-number : (a c : Affinity) → IsNode layout a → IsNode layout c → Covers (parents layout) (number_of layout a) (number_of layout c)
      → IsUnder layout a c
  under-number a c m n covers =
      under_numbered layout above a c lawful lists m n
      (⊎_elim
      (λ (e : number_of layout a ≡ number_of layout c). inl e)
      (λ (h : 0 < tally (number_of layout a) (above (number_of layout c))). inr (contained (number_of layout a) (above (number_of layout c)) h))
      covers)

  -- what a node's number covers is the number of a node under it
  pub under-covers : (a : Affinity) (k : ℕ) → IsNode layout a → 0 < k → k < length (parents layout) → Covers (parents layout) (number_of layout a) k
      → (c : Affinity) × IsUnder layout a c × (number_of layout c ≡ k)
  under-covers a k m pos less covers =
      let c = place-node layout k pos less in
      (c.0, under-number a c.0 m c.1 (subst (Covers (parents layout) (number_of layout a)) (sym c.2) covers), c.2)

  -- two nodes exclude each other exactly when their numbers do
  pub excludes-number : (a b : Affinity) → IsNode layout a → IsNode layout b → excludes layout a b ≡ true
      → Excludes (parents layout) (number_of layout a) (number_of layout b)
  excludes-number a b m n h =
      ⊎_elim
      (λ (e : number_of layout a ≡ number_of layout b). inl e)
      (λ (one : Contains (above (number_of layout b)) (number_of layout a) ⊎ Contains (above (number_of layout a)) (number_of layout b)).
      ⊎_elim
      (λ (u : Contains (above (number_of layout b)) (number_of layout a)). inr (inl (stands (number_of layout a) (above (number_of layout b)) u.0 u.1 u.2)))
      (λ (u : Contains (above (number_of layout a)) (number_of layout b)). inr (inr (stands (number_of layout b) (above (number_of layout a)) u.0 u.1 u.2)))
      one)
      (numbers_from layout above a b lawful lists m n h)

  pub number-excludes : (a b : Affinity) → IsNode layout a → IsNode layout b → Excludes (parents layout) (number_of layout a) (number_of layout b)
      → excludes layout a b ≡ true
  number-excludes a b m n h =
      excludes_numbered layout above a b lawful lists m n
      (⊎_elim
      (λ (e : number_of layout a ≡ number_of layout b). inl e)
      (λ (one : (0 < tally (number_of layout a) (above (number_of layout b))) ⊎ (0 < tally (number_of layout b) (above (number_of layout a)))).
      ⊎_elim
      (λ (u : 0 < tally (number_of layout a) (above (number_of layout b))). inr (inl (contained (number_of layout a) (above (number_of layout b)) u)))
      (λ (u : 0 < tally (number_of layout b) (above (number_of layout a))). inr (inr (contained (number_of layout b) (above (number_of layout a)) u)))
      one)
      h)
