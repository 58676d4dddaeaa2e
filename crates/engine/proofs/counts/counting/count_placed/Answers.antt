use Rattle.std.proofs.Common.{sym, ap, ◌∙◌}
use Rattle.filer_state.specs.state.Sets.{volume_value}
use Rattle.engine.specs.counts.Counts.{counts_in}
use Rattle.engine.proofs.counts.Tallied.{no-blocks}
use Rattle.engine.proofs.counts.counting.count_placed.Goals as goal

pub returns-in-Some : goal.returns-in-Some
returns-in-Some c = λ stripes. c.count_volume.ensures stripes ∙ ap (λ o. counts_in (volume_value stripes o)) (sym c.in-Some.is)

pub returns-in-None : goal.returns-in-None
returns-in-None c = λ stripes. no-blocks stripes ∙ ap (λ o. counts_in (volume_value stripes o)) (sym c.in-None.is)
