-- What the rows of symbolic links, of special files and of several names are about: small states of volume 0, and what is shown of them.
use Rattle.std.specs.Prelude.{ℕ, List, [], ◌∷◌, Some, None}
use Rattle.nfs_model.specs.Types.{Moment, SpecialType, SymbolicLink, BlockDevice, CharacterDevice, SpecialKind, Shown, SetAttributes, ClientTime}
use Rattle.nfs_model.specs.Server.{Node, File, Special, Server, opening_volume}
use Rattle.nfs_model.specs.Serial.Create.{no_attributes}
use Rattle.nfs_laws.proofs.rows.Cases.{verifier, one_range, at, a, b, d, x, entry, block_0, stored, directory, root_with, volume_with, holding, file_shown}

-- ---- kinds: the disk 8, 1 and the terminal 4, 64

abbrev pub disk : SpecialType
disk = BlockDevice (record { major = 8; minor = 1 })

abbrev pub terminal : SpecialType
terminal = CharacterDevice (record { major = 4; minor = 64 })

-- `d/f`
abbrev pub d_f : List ℕ
d_f = 100 ∷ (47 ∷ (102 ∷ []))

-- ---- attributes that are given

-- 1 second and 1,000,000,000 nanoseconds
abbrev pub bad_moment : Moment
bad_moment = record { seconds = 1; nanoseconds = 1000000000 }

abbrev pub with_bad_time : SetAttributes
with_bad_time = record no_attributes { atime = ClientTime bad_moment }

-- ---- nodes of nobody, made at 1 second

-- by its kind, its text and how many names it has
abbrev pub special_node : SpecialType → ℕ → List ℕ → ℕ → Node
special_node special mode text links =
    Special (record { attributes = record stored { mode = mode }; special = special; text = text; links = links })

-- a symbolic link of one name, of mode 0777 (octal)
abbrev pub symbolic_link : List ℕ → Node
symbolic_link text = special_node SymbolicLink 511 text 1

-- of one name, of mode 0644 (octal)
abbrev pub special_file : SpecialType → Node
special_file special = special_node special 420 [] 1

-- a file of the byte 7, in its block, by how many names it has
abbrev pub named_file : ℕ → Node
named_file links =
    File (record { attributes = stored; bytes = 7 ∷ []; filled = block_0; touch = None; verifier = None; links = links })

-- the same, where a write at 9 seconds is the latest
abbrev pub named_touched_file : ℕ → Node
named_touched_file links =
    File (record { attributes = stored; bytes = 7 ∷ []; filled = block_0; touch = Some (at 9); verifier = None; links = links })

-- ---- states

-- the root with two names of one node, `a` and `b`, of fileid 2
abbrev pub two_names : Node → Server
two_names node = holding 3 ((1, root_with 5 (entry 3 a 2 ∷ (entry 4 b 2 ∷ []))) ∷ ((2, node) ∷ []))

-- the root with a name of it, `a`, and the directory `d`, of fileid 3, with another, `b`
abbrev pub across : Node → Server
across node =
    holding 4 ((1, root_with 5 (entry 3 a 2 ∷ (entry 4 d 3 ∷ []))) ∷ ((2, node) ∷ ((3, directory 1 4 (entry 3 b 2 ∷ [])) ∷ [])))

-- the root with the nodes `a`, of fileid 2, and `b`, of fileid 3
abbrev pub beside : Node → Node → Server
beside first second = holding 4 ((1, root_with 5 (entry 3 a 2 ∷ (entry 4 b 3 ∷ []))) ∷ ((2, first) ∷ ((3, second) ∷ [])))

-- the root with the names `a` of fileid 2 and, of fileid 3, `b` and `x`
abbrev pub three_names : Node → Node → Server
three_names first second =
    holding 4 ((1, root_with 6 (entry 3 a 2 ∷ (entry 4 b 3 ∷ (entry 5 x 3 ∷ [])))) ∷ ((2, first) ∷ ((3, second) ∷ [])))

-- the root alone, and no inode besides
abbrev pub without_inodes : Server
without_inodes = record {
  spare = 1 ∷ [];
  volumes = record (volume_with 1024 16777216 2 ((1, root_with 3 []) ∷ [])) { most_inodes = 1 } ∷ (opening_volume verifier 1 one_range ∷ []);
}

-- the root with the node `a`, of fileid 2, and this many inodes at most
abbrev pub with_inodes : ℕ → Node → Server
with_inodes most node = record {
  spare = 1 ∷ [];
  volumes = record (volume_with 1024 16777216 3 ((1, root_with 4 (entry 3 a 2 ∷ [])) ∷ ((2, node) ∷ []))) { most_inodes = most }
      ∷ (opening_volume verifier 1 one_range ∷ []);
}

-- ---- what is shown

-- of nobody, made at 1 second, changed at this many
abbrev pub special_shown : ℕ → SpecialType → ℕ → ℕ → Shown
special_shown fileid special mode seconds =
    record (file_shown fileid 0 0 1 seconds) { kind = SpecialKind special; mode = mode }

-- a symbolic link with a text of this many bytes
abbrev pub symbolic_link_shown : ℕ → ℕ → ℕ → Shown
symbolic_link_shown fileid size seconds =
    record (file_shown fileid size 0 1 seconds) { kind = SpecialKind SymbolicLink; mode = 511 }

-- the file of the byte 7, with this many names
abbrev pub named_shown : ℕ → ℕ → ℕ → Shown
named_shown fileid links seconds = record (file_shown fileid 1 4096 1 seconds) { links = links }
