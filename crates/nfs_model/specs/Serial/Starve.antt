-- Which calls may be told that memory ran out (our profile). They answer SYSTEM_ERR (RFC 5531
-- section 9) and change nothing.
use Rattle.std.specs.Prelude.{ℕ, Bool, true, false, not, ◌==◌, nat_lt, List, [], ◌∷◌, Option, Some, None, is_none}
use Rattle.nfs_model.specs.Types.{Call, Lookup, Write, Create, Mkdir, Symlink, Mknod, Remove, Rmdir, Rename, Link, Mount, Mnt, MountBelow}
use Rattle.nfs_model.specs.Types.{Answer, ReadlinkDone, ReadDone, WriteDone, MadeDone, RenameDone, LinkDone, ReaddirDone, ReaddirplusDone}
use Rattle.nfs_model.specs.Types.{CensusDone, Reply}
use Rattle.nfs_model.specs.Types.{Success, Moment, Listed, Asked, Ask, Refused, Undecoded}
use Rattle.nfs_model.specs.Server.{Node, File, Directory, Special, Server}
use Rattle.nfs_model.specs.Names.{find_name}
use Rattle.nfs_model.specs.Locate.{locate, node_named}
use Rattle.nfs_model.specs.Serial.Write.{need}
use Rattle.nfs_model.specs.Serial.Step.{serve}

-- at its decoding: one with a name, a path or data
abbrev pub has_bytes : Call → Bool
has_bytes (Lookup directory name) = true
has_bytes (Write handle offset count written) = true
has_bytes (Create directory name mode) = true
has_bytes (Mkdir directory name set) = true
has_bytes (Symlink directory name set text) = true
has_bytes (Mknod directory name kind set) = true
has_bytes (Remove directory name) = true
has_bytes (Rmdir directory name) = true
has_bytes (Rename from from_name to to_name) = true
has_bytes (Link handle directory name) = true
has_bytes (Mount (Mnt path)) = true
has_bytes (MountBelow root path) = true
has_bytes call = false

-- what a record asks has bytes to be kept
abbrev pub may_starve_at_decoding : Asked → Bool
may_starve_at_decoding (Ask call caller) = has_bytes call
may_starve_at_decoding (Refused reply) = false
may_starve_at_decoding Undecoded = false

-- ---- later, where it would answer OK

-- the blocks that a write has to fill in a node
abbrev pub need_in : Option Node → ℕ → ℕ → ℕ
need_in None offset n = 0
need_in (Some (File f)) offset n = need f offset n
need_in (Some (Directory d)) offset n = 0
need_in (Some (Special s)) offset n = 0

-- some bytes are given
abbrev pub is_some_bytes : List ℕ → Bool
is_some_bytes [] = false
is_some_bytes (b ∷ bs) = true

-- the entry of a name in a directory
abbrev pub entry_in : Option Node → List ℕ → Option Listed
entry_in None name = None
entry_in (Some (File f)) name = None
entry_in (Some (Directory d)) name = find_name name d.list
entry_in (Some (Special s)) name = None

-- the entry of a name in the directory of a handle
abbrev pub entry_named : Server → List ℕ → List ℕ → Option Listed
entry_named server directory name = entry_in (node_named (locate server directory)) name

-- whether two entries are there, of one fileid: so both names are of one node (`is_node_of`), since what is named is there
abbrev pub name_one : Option Listed → Option Listed → Bool
name_one None to = false
name_one (Some from) None = false
name_one (Some from) (Some to) = from.fileid == to.fileid

-- whether a call with this answer may take memory: READLINK, READ that gives bytes, READDIR, READDIRPLUS, CENSUS,
-- WRITE that fills a block, CREATE, MKDIR, SYMLINK, MKNOD, LINK and RENAME that add an entry (a CREATE adds one
-- exactly when the name isn't there; a RENAME, when its names aren't of one node)
abbrev pub takes_memory : Server → Call → Answer → Bool
takes_memory server call (ReadlinkDone object text) = true
takes_memory server call (ReadDone count eof bytes) = is_some_bytes bytes
takes_memory server call (ReaddirDone directory page eof) = true
takes_memory server call (ReaddirplusDone directory page eof) = true
takes_memory server call (CensusDone volumes) = true
takes_memory server (Write handle offset count written) (WriteDone n verifier) =
    nat_lt 0 (need_in (node_named (locate server handle)) offset n)
takes_memory server (Create directory name mode) (MadeDone handle object change) =
    is_none (entry_named server directory name)
takes_memory server (Mkdir directory name set) (MadeDone handle object change) = true
takes_memory server (Symlink directory name set text) (MadeDone handle object change) = true
takes_memory server (Mknod directory name kind set) (MadeDone handle object change) = true
takes_memory server (Rename from from_name to to_name) (RenameDone from_change to_change) =
    not (name_one (entry_named server from from_name) (entry_named server to to_name))
takes_memory server call (LinkDone object directory) = true
takes_memory server call answer = false

-- only where it answers OK
abbrev pub takes_memory_to_reply : Server → Call → Reply → Bool
takes_memory_to_reply server call (Success answer) = takes_memory server call answer
takes_memory_to_reply server call reply = false

-- what a record asks takes memory on this server
abbrev pub may_starve_later : Server → Asked → Moment → Bool
may_starve_later server (Ask call caller) moment =
    takes_memory_to_reply server call (serve server call caller moment).reply
may_starve_later server (Refused reply) moment = false
may_starve_later server Undecoded moment = false
