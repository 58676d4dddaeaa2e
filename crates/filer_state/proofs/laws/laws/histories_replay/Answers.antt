use Rattle.filer_state.specs.laws.lemmas.Replays.{history-replays}
use Rattle.filer_state.proofs.laws.laws.histories_replay.Goals as goal

pub returns : goal.returns
returns g c = λ layout lawful f log legal sound. history-replays layout lawful f log legal sound
