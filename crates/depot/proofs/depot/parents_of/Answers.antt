use Rattle.std.proofs.Common.{◌≡◌, ◌<◌, ℕ, ◌+◌, List, length, replicate, slice_index, set, arith, refl, sym, ap, ◌∙◌, subst, zero, suc}
use Rattle.std.proofs.lemmas.List.{length-replicate, length-set}
use Rattle.std.proofs.lemmas.List.Edits.{fill_by_more}
use Rattle.std.proofs.lemmas.Grind.{same_number_lists}
use Rattle.affinity.specs.Layout.{layout_of}
use Rattle.affinity.specs.Numbers as numbers
use Rattle.affinity.specs.lemmas.Smaller.{length-parents}
use Rattle.depot.proofs.depot.parents_of.Goals as goal

first-entry : (n : ℕ) (xs : List ℕ) → xs ≡ replicate {A = ℕ} n 0 → (k : ℕ) → k < 1 → slice_index xs k ≡ 0
first-entry n xs is zero h = ap (λ (l : List ℕ). slice_index l 0) is ∙ at n
  where
    at : (n : ℕ) → slice_index (replicate {A = ℕ} n 0) 0 ≡ 0
    at zero = refl
    at (suc n) = refl
first-entry n xs is (suc k) h = absurd (omega arith)

one-more : (ps xs : List ℕ) (i p : ℕ) → i < length xs → p ≡ slice_index ps i → ((k : ℕ) → k < i → slice_index xs k ≡ slice_index ps k) → (k : ℕ)
    → k < i + 1 → slice_index (set xs i p) k ≡ slice_index ps k
one-more ps xs i p lt is before = subst (λ (q : ℕ). (k : ℕ) → k < i + 1 → slice_index (set xs i q) k ≡ slice_index ps k) (sym is)
    (fill_by_more (slice_index ps) xs i 0 lt before)

-- src/depot.rt:42:5
pub loop-number-init : goal.loop-number-init
loop-number-init c =
    let n : ℕ = c.node_count.result + 1 in
    let items = c.in_ok-parents.ensures in
    let many : length c.in_ok-parents.parents.items ≡ n = ap length items ∙ length-replicate n 0 in
    let counted : c.node_count.result ≡ numbers.node_count (layout_of c.args.layout.now) = c.node_count.ensures.count in
    (omega arith, omega arith, λ k h. first-entry n c.in_ok-parents.parents.items items k h ∙ first-there k h)
  where
    first-there : (k : ℕ) → k < 1 → 0 ≡ slice_index (numbers.parents (layout_of c.args.layout.now)) k
    first-there zero h = refl
    first-there (suc k) h = absurd (omega arith)

-- src/depot.rt:42:5
pub loop-number-preserved : goal.loop-number-preserved
loop-number-preserved c =
    let inv = c.loop-number.invariant in
    let many : length c.loop-number.parents.items ≡ 1 + numbers.node_count (layout_of c.args.layout.now) = inv.0 in
    let counted : c.node_count-number-end.result ≡ numbers.node_count (layout_of c.args.layout.now) = c.node_count-number-end.ensures.count in
    let below : c.loop-number.number < length c.loop-number.parents.items = (let t = c.loop-number-test.true in omega arith) in
    let kept : length (set c.loop-number.parents.items c.loop-number.number c.parent_number.result) ≡ length c.loop-number.parents.items = length-set
    c.loop-number.parents.items c.loop-number.number c.parent_number.result in (
      kept ∙ many,
      omega arith,
      one-more (numbers.parents (layout_of c.args.layout.now)) c.loop-number.parents.items c.loop-number.number
          c.parent_number.result below c.parent_number.ensures.parent inv.2,
    )

-- src/depot.rt:38:1
pub returns : goal.returns
returns c =
    let inv = c.loop-number.invariant in
    let many : length c.loop-number.parents.items ≡ 1 + numbers.node_count (layout_of c.args.layout.now) = inv.0 in
    let counted : c.node_count-number-end.result ≡ numbers.node_count (layout_of c.args.layout.now) = c.node_count-number-end.ensures.count in
    let size : length (numbers.parents (layout_of c.args.layout.now)) ≡ 1 + numbers.node_count (layout_of c.args.layout.now) = length-parents
    (layout_of c.args.layout.now) in
    same_number_lists c.loop-number.parents.items (numbers.parents (layout_of c.args.layout.now)) (many ∙ sym size)
    (λ k h. let f = c.loop-number-test.false in inv.2 k (omega arith))
