use Rattle.service_names.proofs.Latest.{vacant-touch}
use Rattle.service_names.proofs.touches.touch_in.Goals as goal

pub returns-in-None : goal.returns-in-None
returns-in-None c = vacant-touch c.args.place.now c.args.fileid.0 c.in-None.is
