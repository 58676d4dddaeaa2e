use Rattle.vbn_ranges.proofs.Single.{has-is}
use Rattle.vbn_ranges.proofs.words.has.Goals as goal

pub returns : goal.returns
returns c = has-is c.args.words.now c.args.place
