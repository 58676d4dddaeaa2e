use Rattle.std.proofs.Common.{◌≡◌, ℕ, zero, suc, ◌+◌, ◌-◌, ◌<◌, ◌≤◌, length, ap, arith}
use Rattle.nfs_model.specs.Tree.{Layout, stripes_of}
use Rattle.affinity.specs.Layout.{layout_of}
use Rattle.affinity.specs.Numbers.{volume_number, node_count}
use Rattle.affinity.specs.lemmas.Places.{volume_number_first, volume_number_more}
use Rattle.affinity.proofs.layout.Layout.affinity_at.Goals as goal

-- what is left of a number after all volumes but the last is a place in that
last-place : (layout : Layout) (count volume place number : ℕ) → count ≡ length layout.volumes → volume_number layout 0 ≤ number
    → number ≤ node_count layout → volume ≡ count - 1 → volume_number layout volume + place ≡ number → place < 19 + stripes_of layout (count - 1)
last-place layout zero volume place number all from within last here =
    let none : volume_number layout 0 ≡ volume_number layout (length layout.volumes) = ap (volume_number layout) all in
    let first = volume_number_first layout in
    absurd (omega arith)
last-place layout (suc n) volume place number all from within last here =
    let more = volume_number_more layout n (omega arith) in
    let end : volume_number layout (n + 1) ≡ volume_number layout (length layout.volumes) = ap (volume_number layout) (omega arith) in
    let at : volume_number layout volume ≡ volume_number layout n = ap (volume_number layout) (omega arith) in
    let stripes : stripes_of layout (suc n - 1) ≡ stripes_of layout n = ap (stripes_of layout) (omega arith) in
    omega arith

pub returns-then-number-first-clause-node : goal.returns-then-number-first-clause-node
returns-then-number-first-clause-node c =
    let first = volume_number_first (layout_of c.args.self.now) in
    omega arith

pub loop-volume-preserved : goal.loop-volume-preserved
loop-volume-preserved c =
    let more = volume_number_more (layout_of c.args.self.now) c.loop-volume.volume (omega arith) in
    let here = c.loop-volume.invariant in
    omega arith

pub node_in_volume-requires-2-clause-place : goal.node_in_volume-requires-2-clause-place
node_in_volume-requires-2-clause-place c =
    last-place (layout_of c.args.self.now) c.volume_count.result c.loop-volume.volume c.loop-volume.place c.args.number c.volume_count.ensures.count
    (omega arith) c.requires.within (omega arith) c.loop-volume.invariant
