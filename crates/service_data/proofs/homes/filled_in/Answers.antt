use Rattle.service_data.proofs.Spanned.{vacant-block}
use Rattle.service_data.proofs.homes.filled_in.Goals as goal

pub returns-in-None : goal.returns-in-None
returns-in-None c = vacant-block c.args.place.now c.args.fileid.0 c.args.block c.in-None.is
