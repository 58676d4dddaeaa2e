use Rattle.std.proofs.Common.{◌≡◌, ◌≤◌, ◌-◌, ◌∙◌, ◌++◌, ap, sym, subst, ℕ, length, take, drop, vec_len, rules}
use Rattle.nfs_model.specs.volume.Ranges.{DeadValue, dead_taken}
use Rattle.vbn_ranges.specs.Dead.{AreDead, AreNumbered, dead_of, lowest_of}
use Rattle.vbn_ranges.proofs.DeadCounts.{TakenFrom, taken-from, fits-count, still-dead, lowest-taken-is, lowest-left}
use Rattle.vbn_ranges.proofs.dead.DeadBlocks.take_counted.Goals as goal

pub overflow_sub-self : goal.overflow_sub-self
overflow_sub-self c =
    let old = c.self.inside.ranges.items in
    let size = c.self.inside.range_blocks in
    let taken : TakenFrom size c.args.most old c.take_first-batch.new.ranges c.take_first-batch.result.0 =
    taken-from size c.args.most _ old _ _ c.deref_mut.ensures.value c.take_first-batch.ensures.batch c.take_first-batch.ensures.left
    (c.take_first-batch.ensures.numbered c.self.inside.range_blocks
    (subst (AreNumbered c.self.inside.range_blocks 0) (sym c.deref_mut.ensures.value) c.self.invariant.numbered))
    c.take_first-batch.ensures.length in
    subst (λ (n : ℕ). n ≤ c.self.inside.count) (sym c.len.ensures.value) (fits-count _ _ _ _ _ _ c.self.invariant taken)

pub invariant_of-self : goal.invariant_of-self
invariant_of-self c =
    let old = c.self.inside.ranges.items in
    let new = c.take_first-batch.new.ranges in
    let size : vec_len c.self.inside.ranges ≡ length old = search rules in
    let taken : TakenFrom c.self.inside.range_blocks c.args.most old new c.take_first-batch.result.0 =
    taken-from c.self.inside.range_blocks c.args.most _ old _ _ c.deref_mut.ensures.value c.take_first-batch.ensures.batch c.take_first-batch.ensures.left
    (c.take_first-batch.ensures.numbered c.self.inside.range_blocks
    (subst (AreNumbered c.self.inside.range_blocks 0) (sym c.deref_mut.ensures.value) c.self.invariant.numbered))
    c.take_first-batch.ensures.length in
    subst (λ (k : ℕ). AreDead c.self.inside.range_blocks (take k (new ++ drop (length new) old)) (c.self.inside.count - c.len.result)) (sym size)
    (subst (λ (k : ℕ). AreDead c.self.inside.range_blocks (take (length old) (new ++ drop (length new) old)) (c.self.inside.count - k))
    (sym c.len.ensures.value)
    (still-dead _ _ _ _ _ _ c.self.invariant taken))

pub returns-clause-batch : goal.returns-clause-batch
returns-clause-batch c =
    let old = c.self.inside.ranges.items in
    let size = c.self.inside.range_blocks in
    let taken : TakenFrom size c.args.most old c.take_first-batch.new.ranges c.take_first-batch.result.0 =
    taken-from size c.args.most _ old _ _ c.deref_mut.ensures.value c.take_first-batch.ensures.batch c.take_first-batch.ensures.left
    (c.take_first-batch.ensures.numbered c.self.inside.range_blocks
    (subst (AreNumbered c.self.inside.range_blocks 0) (sym c.deref_mut.ensures.value) c.self.invariant.numbered))
    c.take_first-batch.ensures.length in
    lowest-taken-is _ _ _ _ _ _ c.self.invariant taken ∙ ap (λ (d : DeadValue). lowest_of d.range_blocks c.args.most d.blocks) c.self.view_is

pub returns-clause-left : goal.returns-clause-left
returns-clause-left c =
    let old = c.self.inside.ranges.items in
    let new = c.take_first-batch.new.ranges in
    let size : vec_len c.self.inside.ranges ≡ length old = search rules in
    let taken : TakenFrom c.self.inside.range_blocks c.args.most old new c.take_first-batch.result.0 =
    taken-from c.self.inside.range_blocks c.args.most _ old _ _ c.deref_mut.ensures.value c.take_first-batch.ensures.batch c.take_first-batch.ensures.left
    (c.take_first-batch.ensures.numbered c.self.inside.range_blocks
    (subst (AreNumbered c.self.inside.range_blocks 0) (sym c.deref_mut.ensures.value) c.self.invariant.numbered))
    c.take_first-batch.ensures.length in
    ap (λ (k : ℕ). dead_of c.self.inside.range_blocks (take k (new ++ drop (length new) old))) size
    ∙ lowest-left _ _ _ _ _ _ c.self.invariant taken
    ∙ ap (λ (d : DeadValue). dead_taken (lowest_of d.range_blocks c.args.most d.blocks) d) c.self.view_is
