use Rattle.std.proofs.Common.{arith}
use Rattle.service_batches.proofs.Counted.{few-free}
use Rattle.service_batches.proofs.counting.count_in.Goals as goal

pub overflow_cast-result : goal.overflow_cast-result
overflow_cast-result c = let few = few-free c.get-range.result.now in let is = c.free_count.ensures.listed in
    let size = c.range_blocks-blocks.ensures.size in let most = size.most in let same = c.range_blocks-blocks.ensures.value in
    omega (arith, few, is, most, same)
