use Rattle.filer_state.specs.laws.lemmas.Sizes.{size-some}
use Rattle.service.proofs.works.put_down.Goals as goal

pub range-requires : goal.range-requires
range-requires c = size-some c.range_blocks_of.result c.range_blocks_of.ensures.size
