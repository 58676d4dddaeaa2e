use Rattle.directories.proofs.search.find_position.Goals as goal

pub find_between-requires-clause-around : goal.find_between-requires-clause-around
find_between-requires-clause-around c = c.whole.ensures.around c.hash_of-hash.result
