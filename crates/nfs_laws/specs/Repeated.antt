-- A call that its client sends again (RFC 1813 section 4.5): where its reply is remembered, what may come between, and when it is told.
use Rattle.std.specs.Prelude.{◌≡◌, ◌≢◌, ℕ, Bool, true, false, not, ◌&&◌, nat_lt, is_some, List, [], ◌∷◌, length, Option, Some, None, slice_get}
use Rattle.std.specs.Prelude.{if◌then◌else◌}
use Rattle.nfs_model.specs.Types.{Moment, Caller, Call, Setattr, Create, Mkdir, Remove, Rmdir, Rename, Failed, Reply, Success, Asked, Ask}
use Rattle.nfs_model.specs.Tree.{Layout, VolumeLayout}
use Rattle.nfs_model.specs.Memo.{Change, Sets, Creates, MakesDirectory, MakesSymbolicLink, MakesNode, Removes, RemovesDirectory, Renames, Links, Memo}
use Rattle.nfs_model.specs.Server.{VolumeState, Server, named_read}
use Rattle.nfs_model.specs.Locate.{locate, on_name}
use Rattle.nfs_model.specs.Serial.Absent.{absent_parts}
use Rattle.nfs_model.specs.Serial.Permission.{permitted, permitted_two}
use Rattle.nfs_model.specs.Serial.Once.{change_of, place, is_recent, told_among}
use Rattle.nfs_model.specs.Serial.Setattr.{setattr}
use Rattle.nfs_model.specs.Serial.Create.{create}
use Rattle.nfs_model.specs.Serial.Mkdir.{mkdir}
use Rattle.nfs_model.specs.Serial.Remove.{remove_name}
use Rattle.nfs_model.specs.Serial.Rmdir.{rmdir}
use Rattle.nfs_model.specs.Serial.Rename.{rename}
use Rattle.nfs_model.specs.Serial.Step.{Step, on, on_two, serve}
use Rattle.nfs_model.specs.Replay.{FinishedCall, step_of}

-- ---- where a reply is remembered

-- a place for what is remembered of calls: its volume, and its number among the places of that
pub record Place : Type 0 where
  pub volume : ℕ
  pub number : ℕ

abbrev pub memos_in : Option VolumeState → List (Option Memo)
memos_in None = []
memos_in (Some volume) = volume.memos

-- what is remembered in the places of a volume
abbrev pub memos_of : Server → ℕ → List (Option Memo)
memos_of server volume = memos_in (slice_get server.volumes volume)

abbrev pub places_in : Option VolumeLayout → ℕ
places_in None = 0
places_in (Some v) = v.remembered

-- how many places a layout gives a volume
abbrev pub places_of : Layout → ℕ → ℕ
places_of layout volume = places_in (slice_get layout.volumes volume)

-- the volume that is changed, which the first handle names
abbrev pub volume_of : Change → ℕ
volume_of (Sets handle set guard) = (named_read handle).volume
volume_of (Creates directory name mode) = (named_read directory).volume
volume_of (MakesDirectory directory name set) = (named_read directory).volume
volume_of (MakesSymbolicLink directory name set text) = (named_read directory).volume
volume_of (MakesNode directory name kind set) = (named_read directory).volume
volume_of (Removes directory name) = (named_read directory).volume
volume_of (RemovesDirectory directory name) = (named_read directory).volume
volume_of (Renames from from_name to to_name) = (named_read from).volume
volume_of (Links handle directory name) = (named_read handle).volume

-- a result with the status OK (RFC 1813 section 2.5)
abbrev pub is_success : Reply → Bool
is_success (Success (Failed status absent)) = false
is_success (Success answer) = true
is_success reply = false

-- whether a change is remembered: there is a place, it is done and not told, and it succeeds
abbrev pub is_kept : List (Option Memo) → Caller → Change → Moment → Reply → Bool
is_kept memos caller change moment reply =
    nat_lt 0 (length memos) && not (is_some (told_among memos caller (Some change) moment)) && is_success reply

abbrev pub kept_among : List (Option Memo) → Caller → Change → Moment → Reply → Option Place
kept_among memos caller change moment reply =
    if is_kept memos caller change moment reply
    then Some (record { volume = volume_of change; number = place (length memos) caller }) else None

abbrev pub kept_of : Server → Caller → Option Change → Moment → Reply → Option Place
kept_of server caller None moment reply = None
kept_of server caller (Some change) moment reply = kept_among (memos_of server (volume_of change)) caller change moment reply

abbrev pub kept_in : Server → Asked → Moment → Reply → Option Place
kept_in server (Ask call caller) moment reply = kept_of server caller (change_of call) moment reply
kept_in server asked moment reply = None

-- Where the reply to a finished call is remembered from then on. None where it isn't one of the procedures of `change_of`, was told
-- again, failed or found no memory, and where the volume has no place.
abbrev pub remembered_in : Server → FinishedCall → Option Place
remembered_in server e = kept_in server e.asked e.moment (step_of server e).reply

-- ---- what comes between, and again

-- of calls that are finished one after another none is remembered in a place
abbrev pub AreElsewhere : Place → Server → List FinishedCall → Type 0
AreElsewhere p server [] = Unit {0}
AreElsewhere p server (e ∷ es) = (remembered_in server e ≢ Some p) × AreElsewhere p (step_of server e).server es

-- A finished call is another one again: of the same caller with the same arguments, not earlier and at most 120 seconds later, and
-- memory was found for it.
pub record IsAgain (first again : FinishedCall) : Type 0 where
  pub asked : again.asked ≡ first.asked
  pub recent : is_recent first.moment again.moment ≡ true
  pub unstarved : again.starved ≡ false

-- ---- nothing remembered

-- a call on a server that remembers none
abbrev pub serve_forgetting : Server → Call → Caller → Moment → Step
serve_forgetting server (Setattr handle set guard) caller moment =
    on server (absent_parts (Setattr handle set guard)) (locate server handle)
    (permitted caller (Setattr handle set guard) (setattr set guard caller moment))
serve_forgetting server (Create directory name mode) caller moment =
    on server (absent_parts (Create directory name mode)) (locate server directory)
    (permitted caller (Create directory name mode) (on_name name moment (create mode caller)))
serve_forgetting server (Mkdir directory name set) caller moment =
    on server (absent_parts (Mkdir directory name set)) (locate server directory)
    (permitted caller (Mkdir directory name set) (on_name name moment (mkdir set caller)))
serve_forgetting server (Remove directory name) caller moment =
    on server (absent_parts (Remove directory name)) (locate server directory)
    (permitted caller (Remove directory name) (on_name name moment remove_name))
serve_forgetting server (Rmdir directory name) caller moment =
    on server (absent_parts (Rmdir directory name)) (locate server directory)
    (permitted caller (Rmdir directory name) (on_name name moment rmdir))
serve_forgetting server (Rename from from_name to to_name) caller moment =
    on_two server (absent_parts (Rename from from_name to to_name)) (locate server from) (locate server to)
    (permitted_two caller (Rename from from_name to to_name) (rename from_name to_name moment))
serve_forgetting server call caller moment = serve server call caller moment
