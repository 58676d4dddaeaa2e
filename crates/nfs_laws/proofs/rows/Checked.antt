-- What the rows of permissions are about: callers that are checked, and small states of owners, groups and modes.
use Rattle.std.specs.Prelude.{ℕ, ◌+◌, ◌*◌, true, false, List, [], ◌∷◌, None}
use Rattle.nfs_model.specs.Types.{Caller, Listed, Shown, Wcc}
use Rattle.nfs_model.specs.Server.{Attributes, Node, File, Directory, Server}
use Rattle.nfs_laws.proofs.rows.Cases.{at, a, b, d, e, f, x, entry, block_0, root_with, holding, with_file, directory_shown, before, changed}

-- a mode, by its four octal digits
abbrev pub octal : ℕ → ℕ → ℕ → ℕ → ℕ
octal bits owner group others = 512 * bits + 64 * owner + 8 * group + others

-- ---- callers that are checked

abbrev pub user : ℕ → ℕ → List ℕ → Caller
user uid gid gids = record { credential = record { uid = uid; gid = gid; gids = gids }; xid = 0; peer = 0; checked = true; reads_only = false }

-- to whom files and directories belong: uid 7, of the group 70
abbrev pub owner : Caller
owner = user 7 70 []

-- of the same group
abbrev pub member : Caller
member = user 8 70 []

-- the same, by the second of two further groups, and by the last of sixteen
abbrev pub further : Caller
further = user 9 90 (91 ∷ (70 ∷ []))

abbrev pub sixteenth : Caller
sixteenth =
    user 9 90 (91 ∷ (92 ∷ (93 ∷ (94 ∷ (95 ∷ (96 ∷ (97 ∷ (98 ∷ (99 ∷ (100 ∷ (101 ∷ (102 ∷ (103 ∷ (104 ∷ (105 ∷ (70 ∷ []))))))))))))))))

-- of another group
abbrev pub other : Caller
other = user 9 90 []

abbrev pub uid_0 : Caller
uid_0 = user 0 0 []

-- the same ones, unchecked, and where they may change nothing
abbrev pub free : Caller → Caller
free caller = record caller { checked = false }

abbrev pub reader : Caller → Caller
reader caller = record caller { reads_only = true }

-- ---- nodes, of this mode, owner and group

abbrev pub owned : ℕ → ℕ → ℕ → Attributes
owned mode uid gid = record { mode = mode; uid = uid; gid = gid; atime = at 1; mtime = at 1; ctime = at 1 }

-- a file of one byte, in its block
abbrev pub owned_file : ℕ → ℕ → ℕ → Node
owned_file mode uid gid =
    File (record { attributes = owned mode uid gid; bytes = 5 ∷ []; filled = block_0; touch = None; verifier = None; links = 1 })

-- a directory below the root, by its next cookie and its entries
abbrev pub owned_directory : ℕ → ℕ → ℕ → ℕ → List Listed → Node
owned_directory mode uid gid next list =
    Directory (record { attributes = owned mode uid gid; parent = 1; next = next; list = list })

-- ---- states, of modes

-- the root with the owner's file `a`, of fileid 2
abbrev pub file_of : ℕ → Server
file_of mode = with_file (owned_file mode 7 70)

-- the root with the owner's empty directory `a`, of fileid 2
abbrev pub directory_of : ℕ → Server
directory_of mode = with_file (owned_directory mode 7 70 3 [])

-- the root with the owner's directory `d`, of fileid 2, of this mode, in which the file `f`, of fileid 3, is another's
abbrev pub tree_of : ℕ → ℕ → Server
tree_of mode uid =
    holding 4 ((1, root_with 4 (entry 3 d 2 ∷ [])) ∷ ((2, owned_directory mode 7 70 4 (entry 3 f 3 ∷ []))
    ∷ ((3, owned_file (octal 0 6 4 4) uid 70) ∷ [])))

-- the same with the empty directory `e` in place of `f`
abbrev pub nest_of : ℕ → ℕ → Server
nest_of mode uid =
    holding 4 ((1, root_with 4 (entry 3 d 2 ∷ [])) ∷ ((2, owned_directory mode 7 70 4 (entry 3 e 3 ∷ []))
    ∷ ((3, Directory (record { attributes = owned (octal 0 7 5 5) uid 70; parent = 2; next = 3; list = [] })) ∷ [])))

-- the root with the owner's directories `d` and `x`, of fileids 2 and 3, of these modes; in `d` a node `a`, of fileid 4, in `x` another's file `b`,
-- of fileid 5
abbrev pub pair_of : ℕ → ℕ → Node → ℕ → Server
pair_of from to moved uid =
    holding 6 ((1, root_with 5 (entry 3 d 2 ∷ (entry 4 x 3 ∷ []))) ∷ ((2, owned_directory from 7 70 4 (entry 3 a 4 ∷ []))
    ∷ ((3, owned_directory to 7 70 4 (entry 3 b 5 ∷ [])) ∷ ((4, moved) ∷ ((5, owned_file (octal 0 6 4 4) uid 70) ∷ [])))))

-- ---- what is shown

abbrev pub shown_of : Shown → ℕ → ℕ → ℕ → Shown
shown_of shown mode uid gid = record shown { mode = mode; uid = uid; gid = gid }

-- the owner's directory of this fileid, mode and links, changed at 2 seconds, and as it was
abbrev pub directory_changed : ℕ → ℕ → ℕ → Wcc
directory_changed fileid mode links =
    changed (before 4096 1 1) (record (shown_of (directory_shown fileid links 2) mode 7 70) { atime = at 1 })

abbrev pub directory_kept : ℕ → ℕ → ℕ → Wcc
directory_kept fileid mode links = changed (before 4096 1 1) (shown_of (directory_shown fileid links 1) mode 7 70)
