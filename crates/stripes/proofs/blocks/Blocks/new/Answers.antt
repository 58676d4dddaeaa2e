use Rattle.stripes.specs.Spans.{blocks_of, all_places}
use Rattle.std.proofs.Common.{◌∙◌, ap, refl}
use Rattle.stripes.proofs.blocks.Blocks.new.Goals as goal

pub returns : goal.returns
unfolding blocks_of all_places
returns c = ap blocks_of c.new.ensures.empty ∙ refl
