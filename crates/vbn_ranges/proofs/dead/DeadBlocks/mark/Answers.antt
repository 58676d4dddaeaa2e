use Rattle.std.proofs.Common.{◌∙◌, ◌*◌, ◌<◌, ◌∷◌, [], ap, sym, subst, arith}
use Rattle.std.specs.FinSet.{FinSet}
use Rattle.std.specs.Ordering.{nat_cmp}
use Rattle.nfs_model.specs.volume.Ranges.{DeadValue, dead_marked}
use Rattle.vbn_ranges.proofs.DeadMarked.{marks-at, range-of, few-dead, one-dead, dead-with, dead-already}
use Rattle.vbn_ranges.proofs.dead.DeadBlocks.mark.Goals as goal

pub contains-requires : goal.contains-requires
contains-requires c =
    range-of c.self.inside.range_blocks c.self.inside.ranges.items c.args.block.0 _
    (marks-at c.self.inside.range_blocks c.self.inside.ranges.items c.self.inside.count c.args.block.0 _ c.self.invariant
    (subst (λ (d : DeadValue). c.args.block.0 < 16 * d.range_blocks) (sym c.self.view_is) c.requires) c.index_mut-marks.ensures.value)

pub insert-requires : goal.insert-requires
insert-requires c =
    range-of c.self.inside.range_blocks c.self.inside.ranges.items c.args.block.0 _
    (marks-at c.self.inside.range_blocks c.self.inside.ranges.items c.self.inside.count c.args.block.0 _ c.self.invariant
    (subst (λ (d : DeadValue). c.args.block.0 < 16 * d.range_blocks) (sym c.self.view_is) c.requires) c.index_mut-marks.ensures.value)

pub overflow_add-self : goal.overflow_add-self
overflow_add-self c =
    let few = few-dead c.self.inside.range_blocks c.self.inside.ranges.items c.self.inside.count c.self.invariant in record { fits = omega (arith, few) }

pub invariant_of-self : goal.invariant_of-self
invariant_of-self c =
    one-dead c.self.inside.range_blocks c.self.inside.ranges.items c.self.inside.count c.args.block.0 c.index_mut-marks.result.now _ c.self.invariant
    (marks-at c.self.inside.range_blocks c.self.inside.ranges.items c.self.inside.count c.args.block.0 _ c.self.invariant
    (subst (λ (d : DeadValue). c.args.block.0 < 16 * d.range_blocks) (sym c.self.view_is) c.requires) c.index_mut-marks.ensures.value)
    c.insert.ensures
    (sym c.contains.ensures ∙ c.if-not-contains.true)

pub returns-then-not-contains : goal.returns-then-not-contains
returns-then-not-contains c =
    ap (λ (s : FinSet nat_cmp). record { range_blocks = c.self.inside.range_blocks; blocks = s })
    (dead-with c.self.inside.range_blocks c.self.inside.ranges.items c.args.block.0 c.index_mut-marks.result.now _
    (marks-at c.self.inside.range_blocks c.self.inside.ranges.items c.self.inside.count c.args.block.0 _ c.self.invariant
    (subst (λ (d : DeadValue). c.args.block.0 < 16 * d.range_blocks) (sym c.self.view_is) c.requires) c.index_mut-marks.ensures.value)
    c.insert.ensures)
    ∙ ap (dead_marked (c.args.block.0 ∷ [])) c.self.view_is

pub returns-else-not-contains : goal.returns-else-not-contains
returns-else-not-contains c =
    ap (λ (s : FinSet nat_cmp). record { range_blocks = c.self.inside.range_blocks; blocks = s })
    (dead-already c.self.inside.range_blocks c.self.inside.ranges.items c.self.inside.count c.args.block.0 c.index_mut-marks.result.now c.self.invariant
    (marks-at c.self.inside.range_blocks c.self.inside.ranges.items c.self.inside.count c.args.block.0 _ c.self.invariant
    (subst (λ (d : DeadValue). c.args.block.0 < 16 * d.range_blocks) (sym c.self.view_is) c.requires) c.index_mut-marks.ensures.value)
    (sym c.contains.ensures ∙ c.if-not-contains.false))
    ∙ ap (dead_marked (c.args.block.0 ∷ [])) c.self.view_is
