use Rattle.vbn_ranges.proofs.Counted.{sum-fits, sum-is}
use Rattle.vbn_ranges.proofs.words.count.Goals as goal

pub overflow_add-result : goal.overflow_add-result
overflow_add-result c = sum-fits c.args.words.now c.requires (λ k. (c.type_inv.words k).fits)

pub returns : goal.returns
returns c first = sum-is first c.args.words.now c.requires (λ k. (c.type_inv.words k).fits)
