-- What READ, WRITE and COMMIT of callers that are checked come to, on what is held: refused, they change nothing; else they do what they
-- do where nothing is asked, but for the set-id bits of what is written.
use Rattle.std.specs.Prelude.{◌≡◌, ◌≢◌, ℕ, ◌<◌, true, false, List, Some, None}
use Rattle.std.specs.FinMap.{get}
use Rattle.nfs_model.specs.Types.{Caller, Status, Failed, Success}
use Rattle.nfs_model.specs.Tree.{Affinity, Volume, Logical, Stripe}
use Rattle.nfs_model.specs.Serial.Write.{Writing}
use Rattle.nfs_model.specs.Work.{Outcome, Replied, Starved}
use Rattle.nfs_model.specs.volume.Stripes.{StripeValue}
use Rattle.filer_state.specs.state.Lenses.{LogicalSet, VolumeSet, logical_lens, stripe_lens, volume_lens}
use Rattle.filer_state.specs.state.Running.{RunsOn}
use Rattle.filer_state.specs.names.Laws.{commit_call}
use Rattle.filer_state.specs.bytes.Laws.{read_call}
use Rattle.filer_state.specs.bytes.Writing.{StripeOutcome}
use Rattle.filer_state.specs.bytes.WritingLaws.{write_call}
use Rattle.filer_state.specs.bytes.Permitted.{owner_on, owner_held, read_refused, write_refused, commit_refused, clears_owned}
use Rattle.filer_state.specs.bytes.Permitted.{logical_cleared, volume_cleared, moves_instead, read_by, write_by, commit_by}

-- ---- READ

abbrev pub StripeReadIsRefused : Type 0
StripeReadIsRefused = (v i fileid offset count : ℕ) (handle : List ℕ) (node : Affinity) (caller : Caller) (status : Status) (s : StripeValue)
    → i < s.stripes → read_refused caller (owner_on (get s.cards fileid)) ≡ Some status
    → RunsOn v (stripe_lens i) (read_by caller handle node fileid offset count) s (Replied (Success (Failed status 1))) s

abbrev pub StripeReadIsPermitted : Type 0
StripeReadIsPermitted = (v i fileid offset count : ℕ) (handle : List ℕ) (node : Affinity) (caller : Caller) (s : StripeValue) (outcome : Outcome)
    (new : StripeValue) → i < s.stripes → read_refused caller (owner_on (get s.cards fileid)) ≡ None
    → RunsOn v (stripe_lens i) (read_call handle node fileid offset count) s outcome new
    → RunsOn v (stripe_lens i) (read_by caller handle node fileid offset count) s outcome new

abbrev pub LogicalReadIsRefused : Type 0
LogicalReadIsRefused = (v fileid offset count : ℕ) (handle : List ℕ) (node : Affinity) (caller : Caller) (status : Status) (s : LogicalSet)
    → read_refused caller (owner_held s fileid) ≡ Some status
    → RunsOn v logical_lens (read_by caller handle node fileid offset count) s (Replied (Success (Failed status 1))) s

abbrev pub LogicalReadIsPermitted : Type 0
LogicalReadIsPermitted = (v fileid offset count : ℕ) (handle : List ℕ) (node : Affinity) (caller : Caller) (s : LogicalSet) (outcome : Outcome)
    (new : LogicalSet) → read_refused caller (owner_held s fileid) ≡ None
    → RunsOn v logical_lens (read_call handle node fileid offset count) s outcome new
    → RunsOn v logical_lens (read_by caller handle node fileid offset count) s outcome new

-- ---- COMMIT

abbrev pub CommitIsRefused : Type 0
CommitIsRefused = (v fileid : ℕ) (handle : List ℕ) (node : Affinity) (caller : Caller) (status : Status) (s : LogicalSet)
    → commit_refused caller (owner_held s fileid) ≡ Some status
    → RunsOn v logical_lens (commit_by caller handle node fileid) s (Replied (Success (Failed status 2))) s

abbrev pub CommitIsPermitted : Type 0
CommitIsPermitted = (v fileid : ℕ) (handle : List ℕ) (node : Affinity) (caller : Caller) (s : LogicalSet) (outcome : Outcome) (new : LogicalSet)
    → commit_refused caller (owner_held s fileid) ≡ None
    → RunsOn v logical_lens (commit_call handle node fileid) s outcome new
    → RunsOn v logical_lens (commit_by caller handle node fileid) s outcome new

-- ---- WRITE by a stripe

abbrev pub StripeWriteIsRefused : Type 0
StripeWriteIsRefused = (v i fileid : ℕ) (handle : List ℕ) (w : Writing) (status : Status) (s : StripeValue) → i < s.stripes
    → write_refused w.caller (owner_on (get s.cards fileid)) ≡ Some status
    → RunsOn v (stripe_lens i) (write_by handle (Stripe v i) fileid w) s (Replied (Success (Failed status 2))) s

abbrev pub StripeWriteIsPermitted : Type 0
StripeWriteIsPermitted = (v i fileid : ℕ) (handle : List ℕ) (w : Writing) (s : StripeValue) (outcome : Outcome) (new : StripeValue) → i < s.stripes
    → write_refused w.caller (owner_on (get s.cards fileid)) ≡ None
    → clears_owned w.caller (owner_on (get s.cards fileid)) ≡ false
    → RunsOn v (stripe_lens i) (write_call handle (Stripe v i) fileid w) s outcome new
    → RunsOn v (stripe_lens i) (write_by handle (Stripe v i) fileid w) s outcome new

-- it never starves there
abbrev pub StripeWriteClears : Type 0
StripeWriteClears = (v i fileid : ℕ) (handle : List ℕ) (w : Writing) (s : StripeValue) (told : StripeOutcome) → i < s.stripes
    → write_refused w.caller (owner_on (get s.cards fileid)) ≡ None
    → clears_owned w.caller (owner_on (get s.cards fileid)) ≡ true → told.outcome ≢ Starved
    → RunsOn v (stripe_lens i) (write_call handle (Stripe v i) fileid w) s told.outcome told.stripe
    → RunsOn v (stripe_lens i) (write_by handle (Stripe v i) fileid w) s (moves_instead v s told).outcome (moves_instead v s told).stripe

-- ---- WRITE by what is under Logical, and by what is under Volume

abbrev pub LogicalWriteIsRefused : Type 0
LogicalWriteIsRefused = (v fileid : ℕ) (handle : List ℕ) (w : Writing) (status : Status) (s : LogicalSet)
    → write_refused w.caller (owner_held s fileid) ≡ Some status
    → RunsOn v logical_lens (write_by handle (Logical v) fileid w) s (Replied (Success (Failed status 2))) s

abbrev pub LogicalWriteIsPermitted : Type 0
LogicalWriteIsPermitted = (v fileid : ℕ) (handle : List ℕ) (w : Writing) (s : LogicalSet) (outcome : Outcome) (new : LogicalSet)
    → write_refused w.caller (owner_held s fileid) ≡ None
    → RunsOn v logical_lens (write_call handle (Logical v) fileid w) s outcome new
    → RunsOn v logical_lens (write_by handle (Logical v) fileid w) s outcome (logical_cleared w.caller (owner_held s fileid) outcome fileid new)

abbrev pub VolumeWriteIsRefused : Type 0
VolumeWriteIsRefused = (v fileid : ℕ) (handle : List ℕ) (w : Writing) (status : Status) (s : VolumeSet)
    → write_refused w.caller (owner_held s.logical fileid) ≡ Some status
    → RunsOn v volume_lens (write_by handle (Volume v) fileid w) s (Replied (Success (Failed status 2))) s

abbrev pub VolumeWriteIsPermitted : Type 0
VolumeWriteIsPermitted = (v fileid : ℕ) (handle : List ℕ) (w : Writing) (s : VolumeSet) (outcome : Outcome) (new : VolumeSet)
    → write_refused w.caller (owner_held s.logical fileid) ≡ None
    → RunsOn v volume_lens (write_call handle (Volume v) fileid w) s outcome new
    → RunsOn v volume_lens (write_by handle (Volume v) fileid w) s outcome (volume_cleared w.caller (owner_held s.logical fileid) outcome fileid new)
