use Rattle.directories.proofs.Changed.{indexed-empty}
use Rattle.directories.proofs.directory.Directory.new.Goals as goal

pub invariant_of-result : goal.invariant_of-result
invariant_of-result c = rw (c.new.ensures, c.new-2.ensures) (indexed-empty, tt)
