use Rattle.std.proofs.Common.{refl}
use Rattle.directories.specs.Hash.{name_hash}
use Rattle.directories.proofs.search.hash_of.Goals as goal

pub loop-byte-init : goal.loop-byte-init
unfolding name_hash
loop-byte-init c = refl
