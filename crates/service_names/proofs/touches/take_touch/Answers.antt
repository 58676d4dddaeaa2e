use Rattle.std.proofs.Common.{refl}
use Rattle.service_names.proofs.Latest.{vacant-touch}
use Rattle.service_names.proofs.Taking.{vacant-taken}
use Rattle.service_names.proofs.touches.take_touch.Goals as goal

pub returns-in-None-clause-touch : goal.returns-in-None-clause-touch
returns-in-None-clause-touch c = vacant-touch c.args.place.now c.args.fileid.0 c.in-None.is

pub returns-in-None-clause-taken : goal.returns-in-None-clause-taken
returns-in-None-clause-taken c = vacant-taken c.args.place.now c.args.place.now c.args.fileid.0 c.in-None.is refl
