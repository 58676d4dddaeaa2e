-- READ, WRITE and COMMIT of callers that are checked: what is asked by who owns a file, and what a WRITE changes of its mode (RFC 1813
-- sections 2.5, 3.3.6, 3.3.7 and 3.3.21).
use Rattle.std.specs.Prelude.{ℕ, Bool, true, false, not, ◌&&◌, ◌||◌, ◌==◌, List, Option, Some, None, if◌then◌else◌}
use Rattle.std.specs.FinMap.{get}
use Rattle.nfs_model.specs.Types.{Caller, Ownership, Regular, Status, Read, Write, Commit, Answer, WriteDone, Reply, Success}
use Rattle.nfs_model.specs.Tree.{Affinity, Logical}
use Rattle.nfs_model.specs.Serial.Rights.{Protection, owned, may_read, may_write, without_set_ids}
use Rattle.nfs_model.specs.Serial.Permission.{needs, write_rights, refusal_of, permitted}
use Rattle.nfs_model.specs.Serial.Read.{read}
use Rattle.nfs_model.specs.Serial.Write.{Writing, write}
use Rattle.nfs_model.specs.Serial.Commit.{commit}
use Rattle.nfs_model.specs.Work.{Outcome, Replied, Moved}
use Rattle.nfs_model.specs.volume.Inodes.{Inode}
use Rattle.nfs_model.specs.volume.Stripes.{Card, StripeValue}
use Rattle.filer_state.specs.state.WellFormed.{owner_shown, owner_in}
use Rattle.filer_state.specs.state.Lenses.{LogicalSet, VolumeSet}
use Rattle.filer_state.specs.state.Changes.{mode_put}
use Rattle.filer_state.specs.state.Calls.{VolumeCall}
use Rattle.filer_state.specs.bytes.Writing.{StripeOutcome}

-- ---- who owns a file

-- by its card
abbrev pub owner_on : Option Card → Option Ownership
owner_on None = None
owner_on (Some card) = owner_shown card

-- by its inode
abbrev pub owner_at : Option Inode → Option Ownership
owner_at None = None
owner_at (Some inode) = owner_in inode

-- under Logical
abbrev pub owner_held : LogicalSet → ℕ → Option Ownership
owner_held set fileid = owner_at (get set.own.inodes.inodes fileid)

-- ---- what is asked

-- of a file, by who owns it; where there is no file, nothing
abbrev pub of_owner : Option Ownership → (Protection → Option Status) → Option Status
of_owner None ask = None
of_owner (Some owner) ask = ask (owned Regular owner)

abbrev pub read_refused : Caller → Option Ownership → Option Status
read_refused caller owner = refusal_of caller false (of_owner owner (λ file. needs (may_read caller.credential file)))

abbrev pub write_refused : Caller → Option Ownership → Option Status
write_refused caller owner = refusal_of caller true (of_owner owner (write_rights caller.credential))

abbrev pub commit_refused : Caller → Option Ownership → Option Status
commit_refused caller owner =
    refusal_of caller false (of_owner owner (λ file. needs (may_read caller.credential file || may_write caller.credential file)))

-- ---- what a WRITE changes of the mode

-- whether it ends that a file is run as its owner
abbrev pub clears_owned : Caller → Option Ownership → Bool
clears_owned caller None = false
clears_owned caller (Some owner) =
    caller.checked && not (caller.credential.uid == 0) && not (without_set_ids owner.mode == owner.mode)

-- whether at least one byte was written
abbrev pub tells_bytes : Answer → Bool
tells_bytes (WriteDone n verifier) = not (n == 0)
tells_bytes answer = false

abbrev pub replies_bytes : Reply → Bool
replies_bytes (Success answer) = tells_bytes answer
replies_bytes reply = false

abbrev pub has_written : Outcome → Bool
has_written (Replied reply) = replies_bytes reply
has_written outcome = false

-- a file without the set-id bits, by who owned it
abbrev pub set_ids_ended : Option Ownership → ℕ → LogicalSet → LogicalSet
set_ids_ended None fileid set = set
set_ids_ended (Some owner) fileid set = mode_put fileid (without_set_ids owner.mode) set

-- after a WRITE by a caller, under Logical and under Volume
abbrev pub logical_cleared : Caller → Option Ownership → Outcome → ℕ → LogicalSet → LogicalSet
logical_cleared caller owner outcome fileid set = if clears_owned caller owner && has_written outcome then set_ids_ended owner fileid set else set

abbrev pub volume_cleared : Caller → Option Ownership → Outcome → ℕ → VolumeSet → VolumeSet
volume_cleared caller owner outcome fileid set = record set { logical = logical_cleared caller owner outcome fileid set.logical }

-- by a stripe, which hasn't the other cards, it moves where bytes would be written, and changes nothing
abbrev pub moves_instead : ℕ → StripeValue → StripeOutcome → StripeOutcome
moves_instead v s told = if has_written told.outcome then record { outcome = Moved (Logical v); stripe = s } else told

-- ---- calls

abbrev pub read_by : Caller → List ℕ → Affinity → ℕ → ℕ → ℕ → VolumeCall
read_by caller handle node fileid offset count = record {
  call = Read handle offset count;
  caller = caller;
  node = node;
  fileid = fileid;
  run = λ volume. permitted caller (Read handle offset count) (read offset count) volume fileid;
}

abbrev pub write_by : List ℕ → Affinity → ℕ → Writing → VolumeCall
write_by handle node fileid w = record {
  call = Write handle w.offset w.count w.written;
  caller = w.caller;
  node = node;
  fileid = fileid;
  run = λ volume. permitted w.caller (Write handle w.offset w.count w.written) (write w) volume fileid;
}

abbrev pub commit_by : Caller → List ℕ → Affinity → ℕ → VolumeCall
commit_by caller handle node fileid = record {
  call = Commit handle;
  caller = caller;
  node = node;
  fileid = fileid;
  run = λ volume. permitted caller (Commit handle) commit volume fileid;
}
