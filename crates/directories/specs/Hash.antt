-- The hash of a name, by which an index is ordered.
use Rattle.std.specs.Prelude.{ℕ, ◌+◌, ◌*◌, ◌^◌, ◌%◌, List, [], ◌∷◌}

-- a hash with more bytes, in 32 bits: for each it is multiplied by a number, and the byte added
abbrev pub hash_with : ℕ → List ℕ → ℕ
hash_with hash [] = hash
hash_with hash (byte ∷ bytes) = hash_with ((hash * 1540483477 % 2 ^ 32 + byte) % 2 ^ 32) bytes

-- the hash of a name of these bytes
unfoldable pub name_hash : List ℕ → ℕ
name_hash name = hash_with 0 name
