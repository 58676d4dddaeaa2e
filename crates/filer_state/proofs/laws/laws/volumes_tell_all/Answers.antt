use Rattle.filer_state.specs.laws.lemmas.Served.{serve-lift, inner-lift}
use Rattle.filer_state.proofs.laws.laws.volumes_tell_all.Goals as goal

pub returns-clause-serves : goal.returns-clause-serves
returns-clause-serves c = serve-lift

pub returns-clause-inner : goal.returns-clause-inner
returns-clause-inner c = inner-lift
