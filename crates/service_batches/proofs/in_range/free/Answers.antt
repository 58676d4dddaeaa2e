use Rattle.std.proofs.Common.{◌<◌, ℕ, sym, ◌∙◌, ap, subst}
use Rattle.nfs_model.specs.Parts.{most_ranges, IsBatch}
use Rattle.nfs_model.specs.volume.Ranges.{RangeValue, MayBeGiven}
use Rattle.service_batches.specs.Batches.{FreesHere}
use Rattle.service_batches.proofs.Apart.{may-be-given}
use Rattle.service_batches.proofs.Right.{free-done}
use Rattle.service_batches.proofs.in_range.free.Goals as goal

pub unreachable-requires : goal.unreachable-requires
unreachable-requires c =
    let same = c.get_mut-range.ensures.value in
    let less = subst (λ (n : ℕ). n < most_ranges) (c.number-number.ensures.value ∙ ap (λ (x : RangeValue). x.number) same) c.number-number.ensures.below in
    let may = may-be-given c.requires.carried.0 c.args.batch.now c.args.held.now.own c.requires.some c.requires.batch less
    c.requires.carried.1 in
    let bad = c.in-Err.ensures.held.1 (subst (λ (x : RangeValue). MayBeGiven c.args.batch.now x) (sym same) may) in cc

pub returns : goal.returns
returns c =
    let less = subst (λ (n : ℕ). n < most_ranges) c.number-number.ensures.value c.number-number.ensures.below in
    let same = c.get_mut-range.ensures.value in
    let batch = subst (λ (x : RangeValue). IsBatch x.range_blocks x.number c.args.batch.now) (sym same) c.requires.batch in record {
      right = subst (λ (x : RangeValue). FreesHere c.args.batch.now x c.give.new.self) same
          (free-done c.get_mut-range.result.now less c.args.batch.now c.requires.some batch c.give.new.self c.in-Ok.ensures.ok);
    }
