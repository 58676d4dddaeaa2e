use Rattle.filer_state.specs.nodes.lemmas.Sized.{sound-sized}
use Rattle.filer_state.specs.nodes.lemmas.SizedNodes.{volume-sized}
use Rattle.filer_state.specs.nodes.lemmas.Emptied.{emptied-sized}
use Rattle.filer_state.proofs.nodes.laws.files_are_sized.Goals as goal

pub returns : goal.returns
returns c = λ p m hands hands' made now old_size filled verifier later there is_file small sound weigh. (
  sound-sized p m sound.well_formed there old_size filled verifier is_file small hands hands' made now later weigh sound,
  volume-sized p m sound.well_formed there old_size filled verifier is_file small,
  emptied-sized p m hands sound.partition sound.well_formed there old_size filled verifier is_file small,
)
