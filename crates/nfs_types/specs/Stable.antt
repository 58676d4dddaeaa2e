-- How stable a WRITE is to be (RFC 1813 section 3.3.7).
use Rattle.std.specs.Prelude.{ℕ}
use Rattle.nfs_types.specs.declared.decode.StableHow.{StableHow}
use Rattle.nfs_types.specs.declared.decode.StableHow.TheVariants.{Unstable, DataSync, FileSync}

-- its number
abbrev pub stable_word : StableHow → ℕ
stable_word Unstable = 0
stable_word DataSync = 1
stable_word FileSync = 2
