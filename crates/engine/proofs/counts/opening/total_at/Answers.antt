use Rattle.std.proofs.Common.{ap, ◌∙◌}
use Rattle.std.specs.Prelude.{◌*◌}
use Rattle.nfs_model.specs.Tree.{range_blocks_in}
use Rattle.filer_state.specs.state.Opening.{ranges_in}
use Rattle.engine.proofs.counts.opening.total_at.Goals as goal

pub returns-in-Some : goal.returns-in-Some
returns-in-Some c = λ v there. ap (λ o. range_blocks_in o * ranges_in o) (c.in-Some.ensures ∙ there)

pub returns-in-None : goal.returns-in-None
returns-in-None c = λ v there. ap (λ o. range_blocks_in o * ranges_in o) (c.in-None.ensures ∙ there)
