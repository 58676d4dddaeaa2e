use Rattle.nfs_laws.proofs.Walked.{walk_of_feed, feed_of_walk}
use Rattle.nfs_laws.proofs.laws.feeds_are_walks.Goals as goal

pub returns-clause-walks : goal.returns-clause-walks
returns-clause-walks c = λ setup w connection bytes taken stop new scan takes feeds. walk_of_feed setup w connection bytes taken stop new scan takes feeds

pub returns-clause-feeds : goal.returns-clause-feeds
returns-clause-feeds c = λ setup w connection bytes taken stop new scan takes walks. feed_of_walk setup w connection bytes taken stop new scan takes walks
