-- A parent has a smaller number than its children.
use Rattle.std.proofs.Common.{◌≡◌, ℕ, zero, suc, ◌+◌, ◌<◌, ◌≤◌, true, List, [], ◌∷◌, ◌++◌, length, slice_index, replicate, None, refl}
use Rattle.std.proofs.Common.{subst, arith, length-append}
use Rattle.std.specs.List.{list_all}
use Rattle.std.proofs.lemmas.List.{length-replicate}
use Rattle.std.proofs.lemmas.Bool.{and_parts, ltb-true}
use Rattle.nfs_model.specs.Tree.{Layout, VolumeLayout}
use Rattle.affinity.specs.Fault.{fault_of, is_known}
use Rattle.affinity.specs.Numbers.{nodes_of, nodes_before, node_count, volume_parents, parents_from, parents}
use Rattle.affinity.specs.lemmas.Lawful.{keeps_rules}
use Rattle.affinity.specs.lemmas.Parents.{length-volume_parents}

-- each number in the list is below its own index, counted from n
abbrev AreBelow : ℕ → List ℕ → Type 0
AreBelow n [] = Unit {0}
AreBelow n (x ∷ xs) = (x < n) × AreBelow (suc n) xs

below_at : (n : ℕ) (xs : List ℕ) (i : ℕ) → 0 < n → AreBelow n xs → slice_index xs i < n + i
below_at n [] i h all = omega arith
below_at n (x ∷ xs) zero h all = let first = all.0 in omega arith
below_at n (x ∷ xs) (suc i) h all = let others = below_at (suc n) xs i (omega arith) all.1 in omega arith

below_append : (n : ℕ) (xs ys : List ℕ) → AreBelow n xs → AreBelow (n + length xs) ys → AreBelow n (xs ++ ys)
below_append n [] ys all more = let P : ℕ → Type 0 = λ k. AreBelow k ys in let same : n + 0 ≡ n = omega arith in subst P same more
below_append n (x ∷ xs) ys all more =
    let P : ℕ → Type 0 = λ k. AreBelow k ys in
    let same : n + suc (length xs) ≡ suc n + length xs = omega arith in
    (all.0, below_append (suc n) xs ys all.1 (subst P same more))

below_replicate : (n k x : ℕ) → x < n → AreBelow n (replicate k x)
below_replicate n zero x h = tt
below_replicate n (suc k) x h = (h, below_replicate (suc n) k x (omega arith))

below_volume : (first : ℕ) (v : VolumeLayout) → 2 + v.aggregate < first → AreBelow first (volume_parents first v)
below_volume first v h =
    let stripes = below_replicate (suc (suc first)) v.stripes (first + 1) (omega arith) in
    let size = length-replicate v.stripes (first + 1) in
    let ranges = below_replicate (suc (suc (suc first) + length (replicate v.stripes (first + 1)))) 16 (first + 2 + v.stripes) (omega arith) in
    let vbn : first < suc (suc first) + length (replicate v.stripes (first + 1)) = omega arith in
    (h, (omega arith, below_append (suc (suc first)) (replicate v.stripes (first + 1)) (first ∷ replicate 16 (first + 2 + v.stripes)) stripes (vbn, ranges)))

below_volumes : (aggregates first : ℕ) (volumes : List VolumeLayout) → 2 + aggregates ≤ first → list_all (is_known aggregates) volumes ≡ true
    → AreBelow first (parents_from first volumes)
below_volumes aggregates first [] h known = tt
below_volumes aggregates first (v ∷ vs) h known =
    let parts = and_parts (is_known aggregates v) (list_all (is_known aggregates) vs) known in
    let aggregate : v.aggregate < aggregates = ltb-true v.aggregate aggregates parts.0 in
    let size = length-volume_parents first v in
    let others = below_volumes aggregates (first + nodes_of v) vs (omega arith) parts.1 in
    let P : ℕ → Type 0 = λ k. AreBelow k (parents_from (first + nodes_of v) vs) in
    let same : first + nodes_of v ≡ first + length (volume_parents first v) = omega arith in
    below_append first (volume_parents first v) (parents_from (first + nodes_of v) vs) (below_volume first v (omega arith)) (subst P same others)

pub parent_smaller : (layout : Layout) (n : ℕ) → fault_of layout ≡ None → 0 < n → slice_index (parents layout) n < n
parent_smaller layout zero lawful h = absurd (omega arith)
parent_smaller layout (suc n) lawful h =
    let ones : List ℕ = replicate (length layout.spare) 1 in
    let size : length ones ≡ length layout.spare = length-replicate (length layout.spare) 1 in
    let volumes = below_volumes (length layout.spare) (2 + length layout.spare) layout.volumes (omega arith) (keeps_rules layout lawful).known in
    let P : ℕ → Type 0 = λ k. AreBelow k (parents_from (2 + length layout.spare) layout.volumes) in
    let same : 2 + length layout.spare ≡ 2 + length ones = omega arith in
    let nodes = below_append 2 ones (parents_from (2 + length layout.spare) layout.volumes) (below_replicate 2 (length layout.spare) 1 (omega arith))
    (subst P same volumes) in
    let all : AreBelow 1 (0 ∷ (ones ++ parents_from (2 + length layout.spare) layout.volumes)) = (omega arith, nodes) in
    let below = below_at 1 (0 ∷ (ones ++ parents_from (2 + length layout.spare) layout.volumes)) n (omega arith) all in
    omega arith

length-parents_from : (first : ℕ) (volumes : List VolumeLayout) → length (parents_from first volumes) ≡ nodes_before volumes (length volumes)
length-parents_from first [] = refl
length-parents_from first (v ∷ vs) =
    let size = length-volume_parents first v in
    let others = length-parents_from (first + nodes_of v) vs in
    let both = length-append (volume_parents first v) (parents_from (first + nodes_of v) vs) in
    omega arith

pub length-parents : (layout : Layout) → length (parents layout) ≡ 1 + node_count layout
length-parents layout =
    let ones : List ℕ = replicate (length layout.spare) 1 in
    let size : length ones ≡ length layout.spare = length-replicate (length layout.spare) 1 in
    let others = length-parents_from (2 + length layout.spare) layout.volumes in
    let both = length-append ones (parents_from (2 + length layout.spare) layout.volumes) in
    omega arith
