use Rattle.std.proofs.Common.{◌∙◌}
use Rattle.stripes.proofs.Places.{put-alone}
use Rattle.stripes.proofs.span.Span.new.Goals as goal

pub returns : goal.returns
returns c = λ b.
    put-alone c.deref_mut.result.now c.place.result c.args.number b c.args.block
    (c.deref_mut.ensures.value ∙ c.in_ok-places.ensures.ok ∙ c.no_blocks.ensures) c.place.ensures.place
