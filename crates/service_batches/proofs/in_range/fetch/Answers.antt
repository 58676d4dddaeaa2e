use Rattle.std.proofs.Common.{◌<◌, ℕ, refl, subst, Some, None}
use Rattle.nfs_model.specs.Parts.{most_ranges}
use Rattle.nfs_model.specs.volume.Ranges.{RangeValue}
use Rattle.service_batches.specs.Batches.{FetchesHere}
use Rattle.service_batches.proofs.Right.{fetch-done, fetch-left, not-used}
use Rattle.service_batches.proofs.in_range.fetch.Goals as goal

pub returns-in-Ok-clause-right : goal.returns-in-Ok-clause-right
returns-in-Ok-clause-right c =
    let less = subst (λ (n : ℕ). n < most_ranges) c.number-number.ensures.value c.number-number.ensures.below in
    subst (λ (x : RangeValue). FetchesHere x (Some c.in-Ok.batch) c.take.new.self) c.get_mut-range.ensures.value
    (fetch-done c.get_mut-range.result.now less (c.in-Ok.ensures.used.0 refl) c.in-Ok.batch c.take.new.self c.in-Ok.ensures.batch c.in-Ok.ensures.ok)

pub returns-in-Err-clause-right : goal.returns-in-Err-clause-right
returns-in-Err-clause-right c =
    let less = subst (λ (n : ℕ). n < most_ranges) c.number-number.ensures.value c.number-number.ensures.below in
    subst (λ (x : RangeValue). FetchesHere x None c.take.new.self) c.get_mut-range.ensures.value
    (fetch-left c.get_mut-range.result.now less (not-used c.get_mut-range.result.now.is_used c.in-Err.ensures.used.1) c.take.new.self c.in-Err.ensures.err)
