-- Where the nodes of a volume stand among all nodes.
use Rattle.std.proofs.Common.{◌≡◌, ℕ, zero, suc, ◌+◌, ◌<◌, ◌≤◌, List, [], ◌∷◌, length, Some, refl, ap, arith, slice_get}
use Rattle.nfs_model.specs.Tree.{Layout, VolumeLayout, Affinity, Serial, Aggregate, Volume, Logical, Stripe, Vbn, Range, stripes_of, stripes_in}
use Rattle.affinity.specs.Tree.{IsNode}
use Rattle.affinity.specs.Numbers.{nodes_of, nodes_before, volume_number, number_of, node_count}
use Rattle.affinity.specs.lemmas.Lawful.{volume_there}

no_nodes_before : (volumes : List VolumeLayout) → nodes_before volumes 0 ≡ 0
no_nodes_before [] = refl
no_nodes_before (x ∷ xs) = refl

nodes_before_more : (volumes : List VolumeLayout) (n : ℕ) → n < length volumes
    → nodes_before volumes (suc n) ≡ nodes_before volumes n + (19 + stripes_in (slice_get volumes n))
nodes_before_more [] n h = absurd (omega arith)
nodes_before_more (x ∷ xs) zero h = let none = no_nodes_before xs in omega arith
nodes_before_more (x ∷ xs) (suc n) h =
    let others = nodes_before_more xs n (omega arith) in
    omega arith

-- the first volume's number, and each next one's
pub volume_number_first : (layout : Layout) → volume_number layout 0 ≡ 2 + length layout.spare
volume_number_first layout = let none = no_nodes_before layout.volumes in omega arith

pub volume_number_more : (layout : Layout) (v : ℕ) → v < length layout.volumes
    → volume_number layout (v + 1) ≡ volume_number layout v + (19 + stripes_of layout v)
volume_number_more layout v h =
    let next : v + 1 ≡ suc v = omega arith in
    let same : volume_number layout (v + 1) ≡ volume_number layout (suc v) = ap (volume_number layout) next in
    let more = nodes_before_more layout.volumes v h in
    omega arith

-- the nodes of a later volume come after those of an earlier one
nodes_before_next : (volumes : List VolumeLayout) (v w : ℕ) (x : VolumeLayout) → slice_get volumes v ≡ Some x → v < w
    → nodes_before volumes v + nodes_of x ≤ nodes_before volumes w
nodes_before_next [] v w x e h = cc
nodes_before_next (y ∷ ys) v zero x e h = absurd (omega arith)
nodes_before_next (y ∷ ys) zero (suc w) x e h =
    let same : y ≡ x = cc in
    let stripes : y.stripes ≡ x.stripes = ap (λ (t : VolumeLayout). t.stripes) same in
    omega arith
nodes_before_next (y ∷ ys) (suc v) (suc w) x e h =
    let others = nodes_before_next ys v w x e (omega arith) in
    omega arith

-- this many numbers lie between the nodes of two volumes
pub volume_number_next : (layout : Layout) (v w : ℕ) → v < length layout.volumes → v < w
    → volume_number layout v + 19 + stripes_of layout v ≤ volume_number layout w
volume_number_next layout v w there h =
    let x = volume_there layout.volumes v there in
    let next = nodes_before_next layout.volumes v w x.0 x.1 h in
    let stripes : stripes_of layout v ≡ x.0.stripes = ap stripes_in x.1 in
    omega arith

-- the last number of a volume is at most the count of nodes
volume_number_last : (layout : Layout) (v : ℕ) → v < length layout.volumes → volume_number layout v + 18 + stripes_of layout v ≤ node_count layout
volume_number_last layout v there =
    let next = volume_number_next layout v (length layout.volumes) there there in
    omega arith

-- each node's number is from 1 to the count of nodes
pub number_positive : (layout : Layout) (a : Affinity) → 0 < number_of layout a
number_positive layout Serial = omega arith
number_positive layout (Aggregate a) = omega arith
number_positive layout (Volume v) = omega arith
number_positive layout (Logical v) = omega arith
number_positive layout (Stripe v i) = omega arith
number_positive layout (Vbn v) = omega arith
number_positive layout (Range v r) = omega arith

pub number_within : (layout : Layout) (a : Affinity) → IsNode layout a → number_of layout a ≤ node_count layout
number_within layout Serial h = omega arith
number_within layout (Aggregate a) h = omega arith
number_within layout (Volume v) h = let last = volume_number_last layout v h in omega arith
number_within layout (Logical v) h = let last = volume_number_last layout v h in omega arith
number_within layout (Stripe v i) h = let last = volume_number_last layout v h.0 in omega arith
number_within layout (Vbn v) h = let last = volume_number_last layout v h in omega arith
number_within layout (Range v r) h = let last = volume_number_last layout v h.0 in omega arith
