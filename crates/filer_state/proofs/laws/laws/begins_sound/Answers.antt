use Rattle.std.proofs.Common.{refl}
use Rattle.filer_state.specs.laws.lemmas.Opening.{opening-sound, opening-tree, opening-parts}
use Rattle.filer_state.proofs.laws.laws.begins_sound.Goals as goal

pub returns-clause-sound : goal.returns-clause-sound
returns-clause-sound g c = λ layout verifier f lawful is. (layout, (lawful, refl), opening-sound layout lawful verifier f is)

pub returns-clause-server : goal.returns-clause-server
returns-clause-server g c = λ layout verifier f lawful is. opening-tree layout lawful verifier f is

pub returns-clause-free : goal.returns-clause-free
returns-clause-free g c = λ layout verifier f lawful is. opening-parts layout lawful verifier f is
