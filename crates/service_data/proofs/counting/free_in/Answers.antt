use Rattle.std.proofs.Common.{sym, ap, ◌∙◌, arith}
use Rattle.std.specs.Ordering.{nat_cmp}
use Rattle.std.specs.FinSet.{len, len-empty}
use Rattle.filer_state.specs.state.Sets.{range_value}
use Rattle.service_data.proofs.Counted.{few-free}
use Rattle.service_data.proofs.counting.free_in.Goals as goal

pub returns-in-Some-clause-few : goal.returns-in-Some-clause-few
returns-in-Some-clause-few c =
    let few = few-free c.get-range.result.now c.range_blocks-blocks.ensures.size in
    let listed = c.free_count.ensures.listed in
    omega (arith, few, listed)

pub returns-in-None-clause-value : goal.returns-in-None-clause-value
returns-in-None-clause-value c = sym (ap (λ p. len (range_value p).free) c.in-None.is ∙ len-empty nat_cmp)
