use Rattle.std.proofs.Common.{◌≡◌, ◌/◌, ◌∙◌, refl, sym, subst, true, List, ℕ}
use Rattle.std.specs.List.{AllByRecursion, list_any}
use Rattle.std.specs.FinSet.{contains}
use Rattle.nfs_model.specs.Parts.{IsBatch}
use Rattle.nfs_model.specs.volume.Ranges.{RangeValue, IsRange, MayBeGiven}
use Rattle.vbn_ranges.specs.Batch.{AreCarried}
use Rattle.vbn_ranges.specs.Marks.{MarksValue, range_value}
use Rattle.vbn_ranges.proofs.Ranged.{batch-of, may-be-given, not-given, given-is}
use Rattle.vbn_ranges.proofs.range.Range.give.Goals as goal

-- blocks are of the range of its marks
of-it : (free : MarksValue) (blocks : List ℕ) (size range : ℕ) → size ≡ free.range_blocks → range ≡ free.range
    → AllByRecursion (λ b. b / size ≡ range) blocks → AllByRecursion (λ b. b / free.range_blocks ≡ free.range) blocks
of-it free blocks size range s r all =
    subst (λ (k : ℕ). AllByRecursion (λ b. b / k ≡ free.range) blocks) s
    (subst (λ (k : ℕ). AllByRecursion (λ b. b / size ≡ k) blocks) r all)

-- and so a batch of it
batch-of-it : (free : MarksValue) (batch blocks : List ℕ) (size range : ℕ) → AreCarried batch → blocks ≡ batch → size ≡ free.range_blocks → range ≡ free.range
    → AllByRecursion (λ b. b / size ≡ range) blocks → IsBatch free.range_blocks free.range blocks
batch-of-it free batch blocks size range carried same s r all =
    batch-of free.range_blocks free.range blocks (subst AreCarried (sym same) carried) (of-it free blocks size range s r all)

pub returns-then-has_any-clause-held : goal.returns-then-has_any-clause-held
returns-then-has_any-clause-held c =
    let taken = sym c.has_any.ensures ∙ c.if-has_any.true in (
      λ e. cc,
      λ m. absurd (not-given _ _
          (subst (λ (bs : List ℕ). list_any (contains c.self.inside.free.set) bs ≡ true) c.as_slice-blocks.ensures.value taken)
          (subst (MayBeGiven c.args.batch.now) (sym c.self.view_is) m)),
    )

pub insert_all-requires : goal.insert_all-requires
insert_all-requires c =
    of-it c.self.inside.free _ c.range_blocks.result c.range.result c.range_blocks.ensures.value c.range.ensures.value
    (c.are_of.ensures.0 c.if-not-are_of.false)

pub invariant_of-self : goal.invariant_of-self
invariant_of-self c =
    let batch = batch-of-it c.self.inside.free c.args.batch.now _ c.range_blocks.result c.range.result c.as_slice-blocks.ensures.carried
    c.as_slice-blocks.ensures.value c.range_blocks.ensures.value c.range.ensures.value (c.are_of.ensures.0 c.if-not-are_of.false) in
    subst (λ (m : MarksValue). IsRange (range_value c.self.inside.is_used m)) (sym c.insert_all.ensures)
    (given-is _ _ c.self.invariant (may-be-given _ _ c.if-not-self.false batch (sym c.has_any.ensures ∙ c.if-has_any.false)))

pub returns-clause-held : goal.returns-clause-held
returns-clause-held c =
    let batch = batch-of-it c.self.inside.free c.args.batch.now _ c.range_blocks.result c.range.result c.as_slice-blocks.ensures.carried
    c.as_slice-blocks.ensures.value c.range_blocks.ensures.value c.range.ensures.value (c.are_of.ensures.0 c.if-not-are_of.false) in (
      λ e. subst (λ (r : RangeValue). MayBeGiven c.args.batch.now r) c.self.view_is
          (subst (λ (bs : List ℕ). MayBeGiven bs (range_value c.self.inside.is_used c.self.inside.free))
          c.as_slice-blocks.ensures.value
          (may-be-given _ _ c.if-not-self.false batch (sym c.has_any.ensures ∙ c.if-has_any.false))),
      λ m. refl,
    )
