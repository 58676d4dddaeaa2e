use Rattle.std.proofs.Common.{◌∙◌, ◌<◌, ap, sym, subst, rules}
use Rattle.nfs_model.specs.Moves.{lowest_batch}
use Rattle.nfs_model.specs.volume.Ranges.{DeadValue, IsOfVolume}
use Rattle.vbn_ranges.specs.Batch.{first_of}
use Rattle.vbn_ranges.proofs.DeadSets.{of-volume}
use Rattle.vbn_ranges.proofs.DeadCounts.{first-is, first-lowest, lowest-batch-is, one-left, none-left, empty-first}
use Rattle.vbn_ranges.proofs.Quotients.{size-some}
use Rattle.vbn_ranges.proofs.dead.DeadBlocks.take.Goals as goal

pub returns-clause-lowest : goal.returns-clause-lowest
returns-clause-lowest c =
    let d = c.args.self.now in
    first-is c.copied.result _ _ (c.copied.ensures ∙ c.first.ensures.value) (c.as_slice.ensures.value ∙ c.take_counted-batch.ensures.batch)
    ∙ first-lowest d.range_blocks d.blocks
    ∙ ap first_of (lowest-batch-is d.range_blocks d.blocks)

pub returns-clause-left : goal.returns-clause-left
returns-clause-left c =
    one-left c.copied.result c.args.self.now _
    (first-is c.copied.result _ _ (c.copied.ensures ∙ c.first.ensures.value) (c.as_slice.ensures.value ∙ c.take_counted-batch.ensures.batch))
    c.take_counted-batch.ensures.left

pub returns-clause-none : goal.returns-clause-none
returns-clause-none c =
    none-left c.copied.result c.args.self.now _
    (subst (λ (d : DeadValue). 0 < d.range_blocks) c.self.view_is (size-some c.self.inside.range_blocks c.self.invariant.sized))
    (subst (λ (d : DeadValue). IsOfVolume d.range_blocks d.blocks) c.self.view_is
    (of-volume c.self.inside.range_blocks c.self.inside.ranges.items c.self.inside.count c.self.invariant))
    (first-is c.copied.result _ _ (c.copied.ensures ∙ c.first.ensures.value) (c.as_slice.ensures.value ∙ c.take_counted-batch.ensures.batch))
    c.take_counted-batch.ensures.left

pub returns-then-self-eq0-clause-lowest : goal.returns-then-self-eq0-clause-lowest
returns-then-self-eq0-clause-lowest c =
    (empty-first c.self.inside.range_blocks c.self.inside.ranges.items c.self.inside.count c.self.invariant c.if-self-eq0.true).1
    ∙ ap (λ (d : DeadValue). first_of (lowest_batch d.range_blocks d.blocks)) c.self.view_is

pub returns-then-self-eq0-clause-none : goal.returns-then-self-eq0-clause-none
returns-then-self-eq0-clause-none c = (
  sym (ap (λ (d : DeadValue). d.blocks) c.self.view_is)
      ∙ (empty-first c.self.inside.range_blocks c.self.inside.ranges.items c.self.inside.count c.self.invariant c.if-self-eq0.true).0,
  search rules,
)
