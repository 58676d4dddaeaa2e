-- The tree as a list of parents' numbers.
use Rattle.std.proofs.Common.{◌≡◌, ℕ, zero, suc, ◌+◌, ◌<◌, List, [], ◌∷◌, ◌++◌, length, slice_index, replicate, Some, refl, sym, ◌∙◌, ap, arith, slice_get}
use Rattle.std.proofs.lemmas.List.{length-replicate, get_or-replicate, get_or_append_left, get_or-append-add}
use Rattle.std.proofs.Common.{length-append}
use Rattle.nfs_model.specs.Tree.{Layout, VolumeLayout, Affinity, Serial, Aggregate, Volume, Logical, Stripe, Vbn, Range, stripes_of}
use Rattle.nfs_model.specs.Tree.{stripes_in, aggregate_of, aggregate_in}
use Rattle.affinity.specs.Tree.{IsNode, parent_of}
use Rattle.affinity.specs.Numbers.{nodes_of, nodes_before, volume_number, number_of, number_or_none, volume_parents, parents_from, parents}
use Rattle.affinity.specs.lemmas.Lawful.{volume_there}

-- ---- lists that are joined

-- an index is a number: it may be told in any way
at_same : (xs : List ℕ) (i j : ℕ) → i ≡ j → slice_index xs i ≡ slice_index xs j
at_same xs i j e = ap (slice_index xs) e

at_replicate : (n x : ℕ) (ys : List ℕ) (i : ℕ) → i < n → slice_index (replicate n x ++ ys) i ≡ x
at_replicate n x ys i h =
    let size = length-replicate n x in
    get_or_append_left (replicate n x) ys 0 i (omega arith) ∙ get_or-replicate n i x 0 h

past_replicate : (n x : ℕ) (ys : List ℕ) (i : ℕ) → slice_index (replicate n x ++ ys) (n + i) ≡ slice_index ys i
past_replicate n x ys i =
    let size = length-replicate n x in
    at_same (replicate n x ++ ys) (n + i) (length (replicate n x) + i) (omega arith) ∙ get_or-append-add (replicate n x) ys i 0

-- ---- one volume

pub length-volume_parents : (first : ℕ) (v : VolumeLayout) → length (volume_parents first v) ≡ nodes_of v
length-volume_parents first v =
    let both = length-append (replicate v.stripes (first + 1)) (first ∷ replicate 16 (first + 2 + v.stripes)) in
    let stripes = length-replicate v.stripes (first + 1) in
    let ranges = length-replicate 16 (first + 2 + v.stripes) in
    omega arith

stripe_parent : (first : ℕ) (v : VolumeLayout) (i : ℕ) → i < v.stripes → slice_index (volume_parents first v) (2 + i) ≡ first + 1
stripe_parent first v i h =
    at_same (volume_parents first v) (2 + i) (suc (suc i)) (omega arith)
    ∙ at_replicate v.stripes (first + 1) (first ∷ replicate 16 (first + 2 + v.stripes)) i h

vbn_parent : (first : ℕ) (v : VolumeLayout) → slice_index (volume_parents first v) (2 + v.stripes) ≡ first
vbn_parent first v =
    at_same (volume_parents first v) (2 + v.stripes) (suc (suc (v.stripes + 0))) (omega arith)
    ∙ past_replicate v.stripes (first + 1) (first ∷ replicate 16 (first + 2 + v.stripes)) 0

range_parent : (first : ℕ) (v : VolumeLayout) (r : ℕ) → r < 16 → slice_index (volume_parents first v) (3 + v.stripes + r) ≡ first + 2 + v.stripes
range_parent first v r h =
    at_same (volume_parents first v) (3 + v.stripes + r) (suc (suc (v.stripes + suc r))) (omega arith)
    ∙ past_replicate v.stripes (first + 1) (first ∷ replicate 16 (first + 2 + v.stripes)) (suc r)
    ∙ get_or-replicate 16 r (first + 2 + v.stripes) 0 h

-- ---- all volumes

in_parents_from : (volumes : List VolumeLayout) (first v : ℕ) (x : VolumeLayout) (place : ℕ) → slice_get volumes v ≡ Some x → place < nodes_of x
    → slice_index (parents_from first volumes) (nodes_before volumes v + place) ≡ slice_index (volume_parents (first + nodes_before volumes v) x) place
in_parents_from [] first v x place e h = cc
in_parents_from (y ∷ ys) first zero x place e h =
    let same : y ≡ x = cc in
    let size = length-volume_parents first y in
    let nodes : nodes_of y ≡ nodes_of x = ap nodes_of same in
    at_same (volume_parents first y ++ parents_from (first + nodes_of y) ys) (0 + place) place (omega arith)
    ∙ get_or_append_left (volume_parents first y) (parents_from (first + nodes_of y) ys) 0 place (omega arith)
    ∙ ap (λ (t : VolumeLayout). slice_index (volume_parents first t) place) same
    ∙ (let zero_more : first ≡ first + 0 = omega arith in ap (λ (n : ℕ). slice_index (volume_parents n x) place) zero_more)
in_parents_from (y ∷ ys) first (suc v) x place e h =
    let size = length-volume_parents first y in
    let others = in_parents_from ys (first + nodes_of y) v x place e h in
    let moved : first + nodes_of y + nodes_before ys v ≡ first + (nodes_of y + nodes_before ys v) = omega arith in
    at_same (volume_parents first y ++ parents_from (first + nodes_of y) ys) (nodes_of y + nodes_before ys v + place)
    (length (volume_parents first y) + (nodes_before ys v + place)) (omega arith)
    ∙ get_or-append-add (volume_parents first y) (parents_from (first + nodes_of y) ys) (nodes_before ys v + place) 0
    ∙ others
    ∙ ap (λ (n : ℕ). slice_index (volume_parents n x) place) moved

in_parents : (layout : Layout) (v : ℕ) (x : VolumeLayout) (place : ℕ) → slice_get layout.volumes v ≡ Some x → place < nodes_of x
    → slice_index (parents layout) (volume_number layout v + place) ≡ slice_index (volume_parents (volume_number layout v) x) place
in_parents layout v x place e h =
    at_same (parents layout) (volume_number layout v + place) (suc (suc (length layout.spare + (nodes_before layout.volumes v + place)))) (omega arith)
    ∙ past_replicate (length layout.spare) 1 (parents_from (2 + length layout.spare) layout.volumes) (nodes_before layout.volumes v + place)
    ∙ in_parents_from layout.volumes (2 + length layout.spare) v x place e h

-- by each node's number stands its parent's
pub parent_at : (layout : Layout) (a : Affinity) → IsNode layout a
    → slice_index (parents layout) (number_of layout a) ≡ number_or_none layout (parent_of layout a)
parent_at layout Serial h = refl
parent_at layout (Aggregate a) h =
    at_same (parents layout) (2 + a) (suc (suc a)) (omega arith)
    ∙ at_replicate (length layout.spare) 1 (parents_from (2 + length layout.spare) layout.volumes) a h
parent_at layout (Volume v) h =
    let x = volume_there layout.volumes v h in
    let aggregate : x.0.aggregate ≡ aggregate_of layout v = sym (ap aggregate_in x.1) in
    at_same (parents layout) (volume_number layout v) (volume_number layout v + 0) (omega arith)
    ∙ in_parents layout v x.0 0 x.1 (omega arith)
    ∙ ap (λ (n : ℕ). 2 + n) aggregate
parent_at layout (Logical v) h =
    let x = volume_there layout.volumes v h in
    in_parents layout v x.0 1 x.1 (omega arith)
parent_at layout (Stripe v i) h =
    let x = volume_there layout.volumes v h.0 in
    let stripes : stripes_of layout v ≡ x.0.stripes = ap stripes_in x.1 in
    at_same (parents layout) (volume_number layout v + 2 + i) (volume_number layout v + (2 + i)) (omega arith)
    ∙ in_parents layout v x.0 (2 + i) x.1 (omega arith)
    ∙ stripe_parent (volume_number layout v) x.0 i (omega arith)
parent_at layout (Vbn v) h =
    let x = volume_there layout.volumes v h in
    let stripes : stripes_of layout v ≡ x.0.stripes = ap stripes_in x.1 in
    at_same (parents layout) (volume_number layout v + 2 + stripes_of layout v) (volume_number layout v + (2 + x.0.stripes)) (omega arith)
    ∙ in_parents layout v x.0 (2 + x.0.stripes) x.1 (omega arith)
    ∙ vbn_parent (volume_number layout v) x.0
parent_at layout (Range v r) h =
    let x = volume_there layout.volumes v h.0 in
    let stripes : stripes_of layout v ≡ x.0.stripes = ap stripes_in x.1 in
    at_same (parents layout) (volume_number layout v + 3 + stripes_of layout v + r) (volume_number layout v + (3 + x.0.stripes + r)) (omega arith)
    ∙ in_parents layout v x.0 (3 + x.0.stripes + r) x.1 (omega arith)
    ∙ range_parent (volume_number layout v) x.0 r h.1
    ∙ (let same : volume_number layout v + 2 + x.0.stripes ≡ volume_number layout v + 2 + stripes_of layout v = omega arith in same)
