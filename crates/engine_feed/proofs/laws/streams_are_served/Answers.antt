use Rattle.engine_feed.proofs.Marking.{served_by}
use Rattle.engine_feed.proofs.laws.streams_are_served.Goals as goal

pub returns : goal.returns
returns c = λ offer stream bytes. served_by offer stream (c.reading_is_exact.ensures stream bytes)
