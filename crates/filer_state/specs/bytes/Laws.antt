-- What READ comes to, by a stripe and by what is under Logical (RFC 1813 section 3.3.6).
use Rattle.std.specs.Prelude.{◌≡◌, ℕ, ◌<◌, Bool, false, min, List, [], ◌∷◌}
use Rattle.nfs_model.specs.Types.{Read, ReadDone, Success}
use Rattle.nfs_model.specs.Tree.{Affinity}
use Rattle.nfs_model.specs.Server.{most_bytes}
use Rattle.nfs_model.specs.Serial.Read.{read}
use Rattle.nfs_model.specs.Work.{Starved}
use Rattle.nfs_model.specs.volume.Stripes.{StripeValue}
use Rattle.filer_state.specs.state.Jobs.{Replied}
use Rattle.filer_state.specs.state.Lenses.{LogicalSet, logical_lens, stripe_lens}
use Rattle.filer_state.specs.state.Promises.{RightOnVolume}
use Rattle.filer_state.specs.state.Calls.{VolumeCall, unasked, ServesOn, WorksOn, LieIn}
use Rattle.filer_state.specs.bytes.Reading.{stripe_read, logical_read}

abbrev pub read_call : List ℕ → Affinity → ℕ → ℕ → ℕ → VolumeCall
read_call handle node fileid offset count =
    record { call = Read handle offset count; caller = unasked; node = node; fileid = fileid; run = λ volume. read offset count volume fileid }

-- ---- Whatever the rest of the volume is, the answer is the serial server's, and nothing changes.

-- by the i-th stripe, where the bytes lie in it
abbrev pub StripeReadIsRight : Type 0
StripeReadIsRight = (v i fileid offset count : ℕ) (handle : List ℕ) (node : Affinity) (s : StripeValue) → i < s.stripes
    → LieIn s.stripes i fileid offset (min count most_bytes)
    → RightOnVolume v (stripe_lens i) (ServesOn (read_call handle node fileid offset count) false) [] [] s
    (Replied (Success (stripe_read fileid offset count s))) s

-- by what is under Logical, wherever they lie
abbrev pub LogicalReadIsRight : Type 0
LogicalReadIsRight = (v fileid offset count : ℕ) (handle : List ℕ) (node : Affinity) (s : LogicalSet)
    → RightOnVolume v logical_lens (ServesOn (read_call handle node fileid offset count) false) [] [] s
    (Replied (Success (logical_read fileid offset count s))) s

-- ---- where bytes are given, memory may run out

abbrev pub StripeReadMayStarve : Type 0
StripeReadMayStarve = (v i fileid offset count : ℕ) (handle : List ℕ) (node : Affinity) (s : StripeValue) (n : ℕ) (eof : Bool) (byte : ℕ) (bytes : List ℕ)
    → i < s.stripes → LieIn s.stripes i fileid offset (min count most_bytes)
    → stripe_read fileid offset count s ≡ ReadDone n eof (byte ∷ bytes)
    → RightOnVolume v (stripe_lens i) (WorksOn (read_call handle node fileid offset count)) [] [] s Starved s

abbrev pub LogicalReadMayStarve : Type 0
LogicalReadMayStarve = (v fileid offset count : ℕ) (handle : List ℕ) (node : Affinity) (s : LogicalSet) (n : ℕ) (eof : Bool) (byte : ℕ) (bytes : List ℕ)
    → logical_read fileid offset count s ≡ ReadDone n eof (byte ∷ bytes)
    → RightOnVolume v logical_lens (WorksOn (read_call handle node fileid offset count)) [] [] s Starved s
