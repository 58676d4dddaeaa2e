use Rattle.directories.proofs.Spots.{length-cookies}
use Rattle.directories.proofs.directory.Directory.find_counted.Goals as goal

pub returns-in-None-clause-compared : goal.returns-in-None-clause-compared
returns-in-None-clause-compared c =
    rw (← c.self.view_is, ← c.self.invariant.0.index.count, length-cookies c.self.inside.by_name)
    (rw c.whole-around.ensures.size at c.find_fileid.ensures.compared)

pub find_fileid-requires-clause-around : goal.find_fileid-requires-clause-around
find_fileid-requires-clause-around c = c.whole-around.ensures.around c.hash_of-hash.result
