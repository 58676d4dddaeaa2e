use Rattle.std.proofs.Common.{ap}
use Rattle.nfs_model.specs.Serial.Step.{Step}
use Rattle.nfs_laws.proofs.Repeated.{told_again, replayed}
use Rattle.nfs_laws.proofs.laws.repeated_is_told.Goals as goal

pub returns-clause-told : goal.returns-clause-told
returns-clause-told c server first between again place kept apart g =
    ap (λ (x : Step). x.reply) (told_again server first between again place kept apart g)

pub returns-clause-left : goal.returns-clause-left
returns-clause-left c server first between again place kept apart g =
    ap (λ (x : Step). x.server) (told_again server first between again place kept apart g)

pub returns-clause-replayed : goal.returns-clause-replayed
returns-clause-replayed c = replayed
