-- A call that its client sends again, since no reply came, is done once (RFC 1813 section 4.5; how long its reply is remembered and
-- where is our profile).
use Rattle.std.specs.Prelude.{ℕ, ◌+◌, ◌%◌, Bool, ◌&&◌, ◌==◌, nat_le, List, Option, Some, None, length, slice_index_or, slice_set}
use Rattle.std.specs.Prelude.{if◌then◌else◌}
use Rattle.nfs_model.specs.Types.{Moment, Caller, Call, Setattr, Create, Mkdir, Symlink, Mknod, Remove, Rmdir, Rename, Link}
use Rattle.nfs_model.specs.Types.{Answer, SetattrDone, MadeDone, GoneDone, RenameDone, LinkDone}
use Rattle.nfs_model.specs.Memo.{Change, Sets, Creates, MakesDirectory, MakesSymbolicLink, MakesNode, Removes, RemovesDirectory, Renames, Links}
use Rattle.nfs_model.specs.Memo.{Told, ToldSet, ToldMade, ToldGone, ToldRenamed, ToldLinked, Memo}
use Rattle.nfs_model.specs.Server.{VolumeState, handle_bytes}
use Rattle.nfs_model.specs.Shown.{moment_le}
use Rattle.nfs_model.specs.Locate.{Effect, Fails, Tells, Changes}
use Rattle.nfs_model.specs.Serial.Same.{same_caller, same_change}
use Rattle.nfs_model.specs.Serial.Symlink.{most_text}

-- ---- which calls

-- a handle and a name that a call which succeeds may have
abbrev pub is_short : List ℕ → List ℕ → Bool
is_short handle name = (length handle == 12) && nat_le (length name) 255

-- What a call changes, if its reply is remembered. With another handle, a longer name or a longer text it fails.
abbrev pub change_of : Call → Option Change
change_of (Setattr handle set guard) = if length handle == 12 then Some (Sets handle set guard) else None
change_of (Create directory name mode) = if is_short directory name then Some (Creates directory name mode) else None
change_of (Mkdir directory name set) = if is_short directory name then Some (MakesDirectory directory name set) else None
change_of (Symlink directory name set text) =
    if is_short directory name && nat_le (length text) most_text then Some (MakesSymbolicLink directory name set text) else None
change_of (Mknod directory name kind set) = if is_short directory name then Some (MakesNode directory name kind set) else None
change_of (Remove directory name) = if is_short directory name then Some (Removes directory name) else None
change_of (Rmdir directory name) = if is_short directory name then Some (RemovesDirectory directory name) else None
change_of (Rename from from_name to to_name) =
    if is_short from from_name && is_short to to_name then Some (Renames from from_name to to_name) else None
change_of (Link handle directory name) =
    if (length handle == 12) && is_short directory name then Some (Links handle directory name) else None
change_of call = None

-- ---- what is told again

-- the place of a caller's call among so many, by its port and xid
abbrev pub place : ℕ → Caller → ℕ
place places caller = (caller.peer % 65536 + caller.xid) % places

-- not later than a moment, and at most 120 seconds before it
abbrev pub is_recent : Moment → Moment → Bool
is_recent made moment = moment_le made moment && moment_le moment (record made { seconds = made.seconds + 120 })

-- of this caller, of this change with all that it asks, and recent
abbrev pub is_of : Caller → Change → Moment → Memo → Bool
is_of caller change moment memo =
    same_caller memo.caller caller && same_change memo.change change && is_recent memo.moment moment

abbrev pub told_in : Caller → Change → Moment → Option Memo → Option Told
told_in caller change moment None = None
told_in caller change moment (Some memo) = if is_of caller change moment memo then Some memo.told else None

abbrev pub told_among : List (Option Memo) → Caller → Option Change → Moment → Option Told
told_among memos caller None moment = None
told_among memos caller (Some change) moment =
    told_in caller change moment (slice_index_or memos (place (length memos) caller) None)

-- what a call of this caller was told, if that is remembered
abbrev pub told_before : List (Option Memo) → Caller → Call → Moment → Option Told
told_before memos caller call moment = told_among memos caller (change_of call) moment

-- the answer that told it, of a volume of this number
abbrev pub answer_told : ℕ → Told → Answer
answer_told number (ToldSet change) = SetattrDone change
answer_told number (ToldMade object directory) = MadeDone (handle_bytes number object.fileid) object directory
answer_told number (ToldGone directory) = GoneDone directory
answer_told number (ToldRenamed from to) = RenameDone from to
answer_told number (ToldLinked object directory) = LinkDone object directory

-- ---- what is remembered

-- what is kept of an answer
abbrev pub told_of : Answer → Option Told
told_of (SetattrDone change) = Some (ToldSet change)
told_of (MadeDone handle object directory) = Some (ToldMade object directory)
told_of (GoneDone directory) = Some (ToldGone directory)
told_of (RenameDone from to) = Some (ToldRenamed from to)
told_of (LinkDone object directory) = Some (ToldLinked object directory)
told_of answer = None

-- the newest stays in its place; where there is no place, nothing is remembered
abbrev pub with_memo : List (Option Memo) → Memo → List (Option Memo)
with_memo memos memo = slice_set memos (place (length memos) memo.caller) (Some memo)

abbrev pub memos_with : List (Option Memo) → Caller → Option Change → Moment → Option Told → List (Option Memo)
memos_with memos caller None moment told = memos
memos_with memos caller (Some change) moment None = memos
memos_with memos caller (Some change) moment (Some told) =
    with_memo memos (record { caller = caller; change = change; moment = moment; told = told })

-- what is remembered after a call that succeeded with an answer
abbrev pub memos_after : List (Option Memo) → Caller → Call → Moment → Answer → List (Option Memo)
memos_after memos caller call moment answer = memos_with memos caller (change_of call) moment (told_of answer)

abbrev pub remembering : Caller → Call → Moment → Answer → VolumeState → VolumeState
remembering caller call moment answer volume =
    record volume { memos = memos_after volume.memos caller call moment answer }

-- a failure isn't remembered: it changed nothing, and is found again
abbrev pub remembered : Caller → Call → Moment → VolumeState → Effect → Effect
remembered caller call moment volume (Fails status) = Fails status
remembered caller call moment volume (Tells answer) = Changes answer (remembering caller call moment answer volume)
remembered caller call moment volume (Changes answer new) = Changes answer (remembering caller call moment answer new)

-- ---- a call

-- what is remembered is told, else the call's effect follows
abbrev pub or_told : VolumeState → Option Told → Effect → Effect
or_told volume None effect = effect
or_told volume (Some told) effect = Tells (answer_told volume.number told)

-- a call of this effect on a volume, done once
abbrev pub once : Caller → Call → Moment → VolumeState → Effect → Effect
once caller call moment volume effect =
    or_told volume (told_before volume.memos caller call moment) (remembered caller call moment volume effect)
