use Rattle.filer_state.specs.permissions.lemmas.Permitted.{runs-alike, fails-right}
use Rattle.filer_state.specs.permissions.lemmas.Refused.{refused-same}
use Rattle.filer_state.proofs.permissions.laws.refusals_are_right.Goals as goal

pub returns : goal.returns
returns c = λ p caller call fileid other. refused-same p caller call fileid other
