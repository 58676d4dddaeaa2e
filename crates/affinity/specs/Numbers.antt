-- The nodes of a layout by number: a parent has a smaller number than its children, and 0 is no node's.
use Rattle.std.specs.Prelude.{ℕ, zero, suc, ◌+◌, List, [], ◌∷◌, ◌++◌, length, replicate, Option, Some, None}
use Rattle.nfs_model.specs.Tree.{Layout, VolumeLayout, Affinity, Serial, Aggregate, Volume, Logical, Stripe, Vbn, Range, stripes_of}

-- a volume's nodes: itself, Logical, its stripes, Vbn and 16 ranges
abbrev pub nodes_of : VolumeLayout → ℕ
nodes_of v = 19 + v.stripes

-- the nodes of the first n volumes
abbrev pub nodes_before : List VolumeLayout → ℕ → ℕ
nodes_before [] n = 0
nodes_before (v ∷ vs) zero = 0
nodes_before (v ∷ vs) (suc n) = nodes_of v + nodes_before vs n

-- the number of a volume's own node
abbrev pub volume_number : Layout → ℕ → ℕ
volume_number layout v = 2 + length layout.spare + nodes_before layout.volumes v

-- Serial is 1. The aggregates follow, and then volume by volume itself, Logical, its stripes, Vbn and its ranges.
abbrev pub number_of : Layout → Affinity → ℕ
number_of layout Serial = 1
number_of layout (Aggregate a) = 2 + a
number_of layout (Volume v) = volume_number layout v
number_of layout (Logical v) = volume_number layout v + 1
number_of layout (Stripe v i) = volume_number layout v + 2 + i
number_of layout (Vbn v) = volume_number layout v + 2 + stripes_of layout v
number_of layout (Range v r) = volume_number layout v + 3 + stripes_of layout v + r

-- how many nodes there are: the last has this number
abbrev pub node_count : Layout → ℕ
node_count layout = 1 + length layout.spare + nodes_before layout.volumes (length layout.volumes)

-- 0 where there is no parent
abbrev pub number_or_none : Layout → Option Affinity → ℕ
number_or_none layout None = 0
number_or_none layout (Some a) = number_of layout a

-- the parents' numbers of a volume's nodes, of which the first has this number
abbrev pub volume_parents : ℕ → VolumeLayout → List ℕ
volume_parents first v = (2 + v.aggregate) ∷ first ∷ (replicate v.stripes (first + 1) ++ first ∷ replicate 16 (first + 2 + v.stripes))

abbrev pub parents_from : ℕ → List VolumeLayout → List ℕ
parents_from first [] = []
parents_from first (v ∷ vs) = volume_parents first v ++ parents_from (first + nodes_of v) vs

-- the tree as a list: by each node's number the number of its parent; 0 at Serial, which has none, and at 0, which is no node's
abbrev pub parents : Layout → List ℕ
parents layout = 0 ∷ 0 ∷ (replicate (length layout.spare) 1 ++ parents_from (2 + length layout.spare) layout.volumes)
