use Rattle.directories.proofs.Around.{around-all}
use Rattle.directories.proofs.search.whole.Goals as goal

pub returns-clause-around : goal.returns-clause-around
returns-clause-around c = λ hash. rw c.len-size.ensures (around-all c.args.index.now hash)
