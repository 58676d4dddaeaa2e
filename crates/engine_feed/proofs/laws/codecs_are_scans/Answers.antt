use Rattle.engine_feed.proofs.Serves.{is-scan}
use Rattle.engine_feed.proofs.laws.codecs_are_scans.Goals as goal

pub returns : goal.returns
returns c = is-scan
