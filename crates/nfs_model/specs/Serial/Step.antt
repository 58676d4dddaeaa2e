-- The answer of the serial server, and the server after it (RFC 1813 section 3.3, and appendix I for
-- MOUNT; CENSUS, GROW and STOP are our profile).
use Rattle.std.specs.Prelude.{ℕ, Bool, true, false, ◌==◌, length, Option, Some, None, if◌then◌else◌}
use Rattle.nfs_model.specs.Types.{Moment, Caller, Call, Null, Getattr, Setattr, Lookup, CheckAccess}
use Rattle.nfs_model.specs.Types.{Readlink, Read, Write, Create, Mkdir, Symlink, Mknod, Remove, Rmdir, Rename, Link, Readdir}
use Rattle.nfs_model.specs.Types.{Readdirplus, Fsstat, Fsinfo, Pathconf, Commit, Census, Grow, Stop, Mount, MountBelow, Answer, NullDone}
use Rattle.nfs_model.specs.Types.{StopDone, Failed, BadHandle, CrossVolume, NoEntry, Reply, Success, SystemError, Asked}
use Rattle.nfs_model.specs.Types.{Ask, Refused, Undecoded}
use Rattle.nfs_model.specs.Server.{VolumeState, Server, with_volume}
use Rattle.nfs_model.specs.Locate.{Effect, Fails, Tells, Changes, Located, locate, on_name}
use Rattle.nfs_model.specs.Serial.Absent.{absent_parts}
use Rattle.nfs_model.specs.Serial.Permission.{permitted, permitted_two}
use Rattle.nfs_model.specs.Serial.Once.{once}
use Rattle.nfs_model.specs.Serial.Getattr.{getattr}
use Rattle.nfs_model.specs.Serial.Setattr.{setattr}
use Rattle.nfs_model.specs.Serial.Lookup.{lookup}
use Rattle.nfs_model.specs.Serial.Access.{access}
use Rattle.nfs_model.specs.Serial.Readlink.{readlink}
use Rattle.nfs_model.specs.Serial.Read.{read}
use Rattle.nfs_model.specs.Serial.Write.{write}
use Rattle.nfs_model.specs.Serial.Create.{create}
use Rattle.nfs_model.specs.Serial.Mkdir.{mkdir}
use Rattle.nfs_model.specs.Serial.Symlink.{symlink}
use Rattle.nfs_model.specs.Serial.Mknod.{mknod}
use Rattle.nfs_model.specs.Serial.Remove.{remove_name}
use Rattle.nfs_model.specs.Serial.Rmdir.{rmdir}
use Rattle.nfs_model.specs.Serial.Rename.{rename}
use Rattle.nfs_model.specs.Serial.Link.{link}
use Rattle.nfs_model.specs.Serial.Readdir.{readdir}
use Rattle.nfs_model.specs.Serial.Readdirplus.{readdirplus}
use Rattle.nfs_model.specs.Serial.Fsstat.{fsstat}
use Rattle.nfs_model.specs.Serial.Fsinfo.{fsinfo}
use Rattle.nfs_model.specs.Serial.Pathconf.{pathconf}
use Rattle.nfs_model.specs.Serial.Commit.{commit}
use Rattle.nfs_model.specs.Serial.Census.{census}
use Rattle.nfs_model.specs.Serial.Grow.{grow}
use Rattle.nfs_model.specs.Serial.Mount.{mount, parts_below}
use Rattle.nfs_model.specs.Serial.MountBelow.{mount_below}

-- a reply, and the server after it
pub record Step : Type 0 where
  pub reply : Reply
  pub server : Server

-- an answer that changes nothing
abbrev pub stay : Server → Answer → Step
stay server answer = record { reply = Success answer; server = server }

-- what a call on a volume comes to, put back into the server; a failure has this many absent parts
abbrev pub placed : Server → ℕ → ℕ → Effect → Step
placed server absent index (Fails status) = stay server (Failed status absent)
placed server absent index (Tells answer) = stay server answer
placed server absent index (Changes answer volume) =
    record { reply = Success answer; server = with_volume server index volume }

-- a call on what a handle names; BADHANDLE comes before all
abbrev pub on : Server → ℕ → Option Located → (VolumeState → ℕ → Effect) → Step
on server absent None run = stay server (Failed BadHandle absent)
on server absent (Some l) run = placed server absent l.named.volume (run l.volume l.named.fileid)

-- MNT below a root: NOENT where there is no such volume
abbrev pub on_root : Server → ℕ → Option Located → (VolumeState → ℕ → Effect) → Step
on_root server absent None run = stay server (Failed NoEntry absent)
on_root server absent (Some l) run = placed server absent l.named.volume (run l.volume l.named.fileid)

-- a call on what two handles name in one volume; BADHANDLE, then XDEV
abbrev pub on_two : Server → ℕ → Option Located → Option Located → (VolumeState → ℕ → ℕ → Effect) → Step
on_two server absent None to run = stay server (Failed BadHandle absent)
on_two server absent (Some from) None run = stay server (Failed BadHandle absent)
on_two server absent (Some from) (Some to) run =
    if from.named.volume == to.named.volume
    then placed server absent from.named.volume (run from.volume from.named.fileid to.named.fileid)
    else stay server (Failed CrossVolume absent)

-- a call that changes names or attributes: what it was told before, else what its caller may do
abbrev pub changing : Caller → Call → Moment → (VolumeState → ℕ → Effect) → VolumeState → ℕ → Effect
changing caller call moment run volume fileid =
    once caller call moment volume (permitted caller call run volume fileid)

-- and RENAME and LINK, which are on two
abbrev pub changing_two : Caller → Call → Moment → (VolumeState → ℕ → ℕ → Effect) → VolumeState → ℕ → ℕ → Effect
changing_two caller call moment run volume fileid other =
    once caller call moment volume (permitted_two caller call run volume fileid other)

-- a call that was decoded, by its procedure (RFC 1813 section 3.3); a failure has this many absent
-- parts
abbrev pub serve_by : Server → ℕ → Call → Caller → Moment → Step
serve_by server absent Null caller moment = stay server NullDone
serve_by server absent (Getattr handle) caller moment = on server absent (locate server handle) getattr
serve_by server absent (Setattr handle set guard) caller moment =
    on server absent (locate server handle) (changing caller (Setattr handle set guard) moment (setattr set guard caller moment))
serve_by server absent (Lookup directory name) caller moment =
    on server absent (locate server directory) (permitted caller (Lookup directory name) (on_name name moment lookup))
serve_by server absent (CheckAccess handle asked) caller moment =
    on server absent (locate server handle) (access asked caller)
serve_by server absent (Readlink handle) caller moment = on server absent (locate server handle) readlink
serve_by server absent (Read handle offset count) caller moment =
    on server absent (locate server handle) (permitted caller (Read handle offset count) (read offset count))
serve_by server absent (Write handle offset count written) caller moment =
    on server absent (locate server handle) (permitted caller (Write handle offset count written)
    (write (record { caller = caller; offset = offset; count = count; written = written; moment = moment })))
serve_by server absent (Create directory name mode) caller moment =
    on server absent (locate server directory)
    (changing caller (Create directory name mode) moment (on_name name moment (create mode caller)))
serve_by server absent (Mkdir directory name set) caller moment =
    on server absent (locate server directory)
    (changing caller (Mkdir directory name set) moment (on_name name moment (mkdir set caller)))
serve_by server absent (Symlink directory name set text) caller moment =
    on server absent (locate server directory)
    (changing caller (Symlink directory name set text) moment (on_name name moment (symlink set text caller)))
serve_by server absent (Mknod directory name kind set) caller moment =
    on server absent (locate server directory)
    (changing caller (Mknod directory name kind set) moment (on_name name moment (mknod kind set caller)))
serve_by server absent (Remove directory name) caller moment =
    on server absent (locate server directory) (changing caller (Remove directory name) moment (on_name name moment remove_name))
serve_by server absent (Rmdir directory name) caller moment =
    on server absent (locate server directory) (changing caller (Rmdir directory name) moment (on_name name moment rmdir))
serve_by server absent (Rename from from_name to to_name) caller moment =
    on_two server absent (locate server from) (locate server to)
    (changing_two caller (Rename from from_name to to_name) moment (rename from_name to_name moment))
serve_by server absent (Link handle directory name) caller moment =
    on_two server absent (locate server handle) (locate server directory)
    (changing_two caller (Link handle directory name) moment (link name moment))
serve_by server absent (Readdir directory cookie verifier count) caller moment =
    on server absent (locate server directory)
    (permitted caller (Readdir directory cookie verifier count) (readdir cookie verifier count))
serve_by server absent (Readdirplus directory cookie verifier names_count count) caller moment =
    on server absent (locate server directory)
    (permitted caller (Readdirplus directory cookie verifier names_count count) (readdirplus cookie verifier names_count count caller))
serve_by server absent (Fsstat handle) caller moment = on server absent (locate server handle) fsstat
serve_by server absent (Fsinfo handle) caller moment = on server absent (locate server handle) fsinfo
serve_by server absent (Pathconf handle) caller moment = on server absent (locate server handle) (pathconf caller)
serve_by server absent (Commit handle) caller moment =
    on server absent (locate server handle) (permitted caller (Commit handle) commit)
serve_by server absent Census caller moment = stay server (census server)
serve_by server absent (Grow volume ranges) caller moment =
    record {
      reply = Success (grow server volume ranges).answer;
      server = (grow server volume ranges).server;
    }
serve_by server absent Stop caller moment = stay server StopDone
serve_by server absent (Mount call) caller moment = stay server (mount (length server.volumes) call)
serve_by server absent (MountBelow root path) caller moment =
    on_root server absent (locate server root) (mount_below (parts_below path) caller)

-- a call that was decoded
abbrev pub serve : Server → Call → Caller → Moment → Step
serve server call caller moment = serve_by server (absent_parts call) call caller moment

-- The serial server. A call that was starved changes nothing; a refusal gives its reply.
abbrev pub serial : Server → Asked → Moment → Bool → Step
serial server asked moment true = record { reply = SystemError; server = server }
serial server (Ask call caller) moment false = serve server call caller moment
serial server (Refused reply) moment false = record { reply = reply; server = server }
serial server Undecoded moment false = record { reply = SystemError; server = server }
