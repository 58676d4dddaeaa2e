use Rattle.std.proofs.Common.{◌≡◌, drop}
use Rattle.directories.specs.Hash.{hash_with, name_hash}
use Rattle.directories.proofs.search.hash_of.Given as goal

abbrev pub invariant-loop-byte : goal.invariant-loop-byte
invariant-loop-byte l = hash_with l.hash (drop l.byte-index l.name) ≡ name_hash l.name
