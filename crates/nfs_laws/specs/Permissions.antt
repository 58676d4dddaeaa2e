-- What permissions come to (RFC 1813 sections 2.5 and 4.4): why a call is refused, who is a stranger to an object, and what of it stays
-- while strangers alone call.
use Rattle.std.specs.Prelude.{◌≡◌, ℕ, ◌+◌, true, false, ◌==◌, List, [], ◌∷◌, Option, Some, None, slice_get, if◌then◌else◌}
use Rattle.std.specs.FinMap.{get}
use Rattle.nfs_model.specs.Types.{Moment, Caller, Kind, Regular, DirectoryKind, SpecialKind, SetAttributes, Status}
use Rattle.nfs_model.specs.Types.{Call, Setattr, Lookup, Read, Write, Create, Mkdir, Symlink, Mknod, Remove, Rmdir, Rename, Link, Readdir}
use Rattle.nfs_model.specs.Types.{Readdirplus, Commit, Asked, Ask}
use Rattle.nfs_model.specs.Memo.{Told}
use Rattle.nfs_model.specs.Server.{Attributes, Node, File, Directory, Special, VolumeState, Server}
use Rattle.nfs_model.specs.Locate.{Located, locate}
use Rattle.nfs_model.specs.Serial.Rights.{Protection, protection, Rights, rights_of, is_owner_or_root, may_change}
use Rattle.nfs_model.specs.Serial.Access.{bit_given, bits_of_file}
use Rattle.nfs_model.specs.Serial.Setattr.{given, given_mode, time_after}
use Rattle.nfs_model.specs.Serial.Create.{Maker}
use Rattle.nfs_model.specs.Serial.Once.{told_before}
use Rattle.nfs_model.specs.Serial.Permission.{refusal}
use Rattle.nfs_model.specs.Replay.{FinishedCall}

-- ---- calls that are refused

-- why a call on what its handle names is refused, if it is
abbrev pub refusal_on : Caller → Call → Option Located → Option Status
refusal_on caller call None = None
refusal_on caller call (Some l) = refusal caller call l.volume l.named.fileid 0

-- RENAME and LINK, on two of one volume
abbrev pub refusal_on_two : Caller → Call → Option Located → Option Located → Option Status
refusal_on_two caller call None to = None
refusal_on_two caller call (Some from) None = None
refusal_on_two caller call (Some from) (Some to) =
    if from.named.volume == to.named.volume then refusal caller call from.volume from.named.fileid to.named.fileid else None

-- why a call is refused by a server, if it is: BADHANDLE and XDEV come before
abbrev pub refused : Server → Call → Caller → Option Status
refused server (Setattr handle set guard) caller = refusal_on caller (Setattr handle set guard) (locate server handle)
refused server (Lookup directory name) caller = refusal_on caller (Lookup directory name) (locate server directory)
refused server (Read handle offset count) caller = refusal_on caller (Read handle offset count) (locate server handle)
refused server (Write handle offset count written) caller = refusal_on caller (Write handle offset count written) (locate server handle)
refused server (Create directory name mode) caller = refusal_on caller (Create directory name mode) (locate server directory)
refused server (Mkdir directory name set) caller = refusal_on caller (Mkdir directory name set) (locate server directory)
refused server (Symlink directory name set text) caller =
    refusal_on caller (Symlink directory name set text) (locate server directory)
refused server (Mknod directory name kind set) caller = refusal_on caller (Mknod directory name kind set) (locate server directory)
refused server (Remove directory name) caller = refusal_on caller (Remove directory name) (locate server directory)
refused server (Rmdir directory name) caller = refusal_on caller (Rmdir directory name) (locate server directory)
refused server (Rename from from_name to to_name) caller =
    refusal_on_two caller (Rename from from_name to to_name) (locate server from) (locate server to)
refused server (Link handle directory name) caller =
    refusal_on_two caller (Link handle directory name) (locate server handle) (locate server directory)
refused server (Readdir directory cookie verifier count) caller =
    refusal_on caller (Readdir directory cookie verifier count) (locate server directory)
refused server (Readdirplus directory cookie verifier names_count count) caller =
    refusal_on caller (Readdirplus directory cookie verifier names_count count) (locate server directory)
refused server (Commit handle) caller = refusal_on caller (Commit handle) (locate server handle)
refused server call caller = None

-- what is remembered of a call in the volume of its handle
abbrev pub told_on : Caller → Call → Moment → Option Located → Option Told
told_on caller call moment None = None
told_on caller call moment (Some l) = told_before l.volume.memos caller call moment

-- what a call was told before, if a server remembers it: what is remembered is told before a right is asked
abbrev pub remembered_of : Server → Call → Caller → Moment → Option Told
remembered_of server (Setattr handle set guard) caller moment = told_on caller (Setattr handle set guard) moment (locate server handle)
remembered_of server (Create directory name mode) caller moment = told_on caller (Create directory name mode) moment (locate server directory)
remembered_of server (Mkdir directory name set) caller moment = told_on caller (Mkdir directory name set) moment (locate server directory)
remembered_of server (Symlink directory name set text) caller moment =
    told_on caller (Symlink directory name set text) moment (locate server directory)
remembered_of server (Mknod directory name kind set) caller moment =
    told_on caller (Mknod directory name kind set) moment (locate server directory)
remembered_of server (Remove directory name) caller moment = told_on caller (Remove directory name) moment (locate server directory)
remembered_of server (Rmdir directory name) caller moment = told_on caller (Rmdir directory name) moment (locate server directory)
remembered_of server (Rename from from_name to to_name) caller moment =
    told_on caller (Rename from from_name to to_name) moment (locate server from)
remembered_of server (Link handle directory name) caller moment =
    told_on caller (Link handle directory name) moment (locate server handle)
remembered_of server call caller moment = None

-- ---- callers that aren't checked

-- neither the rights are asked of it, nor is it kept from changing
pub record IsFree (caller : Caller) : Type 0 where
  pub unchecked : caller.checked ≡ false
  pub changes : caller.reads_only ≡ false

-- what ACCESS gives by the rights alone
abbrev pub bits_of : ℕ → Kind → Rights → ℕ
bits_of asked Regular r = bits_of_file asked r r.writes
bits_of asked DirectoryKind r =
    bit_given asked 1 r.reads + bit_given asked 2 r.executes + bit_given asked 4 r.writes + bit_given asked 8 r.writes
    + bit_given asked 16 r.writes
bits_of asked (SpecialKind special) r = bits_of_file asked r r.writes

-- the attributes of what such a caller makes: its own group, and the mode as it is given
abbrev pub free_attributes : SetAttributes → ℕ → Maker → Moment → Attributes
free_attributes set mode m moment = record {
  mode = given_mode set.mode mode;
  uid = given set.uid m.caller.credential.uid;
  gid = given set.gid m.caller.credential.gid;
  atime = time_after set.atime moment moment;
  mtime = time_after set.mtime moment moment;
  ctime = moment;
}

-- ---- strangers

-- a checked caller to which a file belongs in no way: it is neither uid 0 nor the owner, and has no w
pub record MayNotWrite (file : Protection) (caller : Caller) : Type 0 where
  pub checked : caller.checked ≡ true
  pub owns : is_owner_or_root caller.credential file ≡ false
  pub writes : (rights_of caller.credential file).writes ≡ false

-- the same of a directory, of which it hasn't both w and x
pub record MayNotChange (directory : Protection) (caller : Caller) : Type 0 where
  pub checked : caller.checked ≡ true
  pub owns : is_owner_or_root caller.credential directory ≡ false
  pub changes : may_change caller.credential directory ≡ false

-- to a node, by its kind
abbrev pub IsStranger : Node → Caller → Type 0
IsStranger (File f) caller = MayNotWrite (protection (File f)) caller
IsStranger (Directory d) caller = MayNotChange (protection (Directory d)) caller
IsStranger (Special s) caller = MayNotWrite (protection (Special s)) caller

-- what a record asks, if it asks a call, is asked by such a caller
abbrev pub IsAskedBy : (Caller → Type 0) → Asked → Type 0
IsAskedBy P (Ask call caller) = P caller
IsAskedBy P asked = Unit {0}

-- so of finished calls
abbrev pub AreAskedBy : (Caller → Type 0) → List FinishedCall → Type 0
AreAskedBy P [] = Unit {0}
AreAskedBy P (e ∷ es) = IsAskedBy P e.asked × AreAskedBy P es

-- ---- what stays

-- the node of a fileid in a volume
abbrev pub node_in : Option VolumeState → ℕ → Option Node
node_in None fileid = None
node_in (Some volume) fileid = get volume.nodes fileid

abbrev pub node_of : Server → ℕ → ℕ → Option Node
node_of server volume fileid = node_in (slice_get server.volumes volume) fileid

-- a file of the same mode, owner and group with the same bytes; a directory of the same with the same names; what is special, of the same and
-- the same kind and text
abbrev pub IsAsIt : Node → Node → Type 0
IsAsIt (File f) (File g) = (protection (File g) ≡ protection (File f)) × (g.bytes ≡ f.bytes)
IsAsIt (Directory d) (Directory e) = (protection (Directory e) ≡ protection (Directory d)) × (e.list ≡ d.list)
IsAsIt (Special s) (Special t) = (protection (Special t) ≡ protection (Special s)) × (t.text ≡ s.text)
IsAsIt old new = ⊥

-- as long as it is there
abbrev pub IsAsWas : Node → Option Node → Type 0
IsAsWas old None = Unit {0}
IsAsWas old (Some new) = IsAsIt old new
