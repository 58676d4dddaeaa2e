use Rattle.service_names.proofs.Carded.{vacant-card}
use Rattle.service_names.proofs.cutting.size_place.Goals as goal

-- an empty place has no card
pub returns-in-None-clause-left : goal.returns-in-None-clause-left
returns-in-None-clause-left c = absurd (vacant-card c.args.place.now c.args.fileid.0 c.in-None.is c.requires.card)

pub returns-in-None-clause-own : goal.returns-in-None-clause-own
returns-in-None-clause-own c = absurd (vacant-card c.args.place.now c.args.fileid.0 c.in-None.is c.requires.card)

pub returns-in-None-clause-sized : goal.returns-in-None-clause-sized
returns-in-None-clause-sized c = absurd (vacant-card c.args.place.now c.args.fileid.0 c.in-None.is c.requires.card)
