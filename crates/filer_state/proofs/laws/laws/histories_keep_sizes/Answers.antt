use Rattle.filer_state.specs.laws.lemmas.LayoutSizes.{history-sized}
use Rattle.filer_state.proofs.laws.laws.histories_keep_sizes.Goals as goal

pub returns : goal.returns
returns g c = λ layout lawful verifier f opened log legal sound. history-sized layout lawful verifier f opened log legal sound
