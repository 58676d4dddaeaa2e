-- What READ promises, on the parcels of a volume (RFC 1813 section 3.3.6).
use Rattle.std.specs.Prelude.{◌≡◌, ◌⊎◌, ℕ, ◌+◌, ◌-◌, ◌/◌, ◌<◌, min, Result, Ok, Err, List, []}
use Rattle.std.specs.declared.alloc.AllocError.{AllocError}
use Rattle.nfs_model.specs.Types.{Caller, Success}
use Rattle.nfs_model.specs.Server.{most_bytes}
use Rattle.nfs_model.specs.Home.{span_bytes}
use Rattle.nfs_model.specs.Tree.{Logical, Stripe}
use Rattle.nfs_model.specs.Work.{Outcome, Replied, Starved}
use Rattle.nfs_values.specs.Answer.{answer_of}
use Rattle.nfs_values.specs.declared.answer.Answer.TheVariants.{Read}
use Rattle.nfs_values.specs.declared.answer.ReadResults.{ReadResults}
use Rattle.nfs_values.specs.declared.status.Status.{Status}
use Rattle.nfs_model.specs.volume.Stripes.{StripeValue}
use Rattle.filer_state.specs.state.Lenses.{LogicalSet, logical_lens, stripe_lens}
use Rattle.filer_state.specs.state.Promises.{HasVolume}
use Rattle.filer_state.specs.state.Calls.{LieIn}
use Rattle.filer_state.specs.state.Running.{RunsOn}
use Rattle.filer_state.specs.bytes.Permitted.{read_by}

-- n bytes at an offset lie in one span; none always do
abbrev pub LieInOneSpan : ℕ → ℕ → Type 0
LieInOneSpan offset n = (n ≡ 0) ⊎ (offset / span_bytes ≡ (offset + n - 1) / span_bytes)

-- some sound volume has this under Logical
abbrev pub IsHeld : LogicalSet → Type 0
IsHeld set = (v : ℕ) × HasVolume v logical_lens [] set

-- what a READ comes to: a reply, or memory ran out
abbrev pub reading_outcome : Result (Result ReadResults Status) AllocError → Outcome
reading_outcome (Ok told) = Replied (Success (answer_of (Read told)))
reading_outcome (Err e) = Starved

-- A caller's run of READ of a fileid by this stripe is right where it is the i-th of a volume and the bytes lie in it: by whatever handle, and
-- whatever the rest of the volume is.
abbrev pub ReadsInStripe : Caller → ℕ → ℕ → ℕ → StripeValue → Result (Result ReadResults Status) AllocError → Type 0
ReadsInStripe caller fileid offset count s result = (v i : ℕ) (handle : List ℕ) → i < s.stripes → LieIn s.stripes i fileid offset (min count most_bytes)
    → RunsOn v (stripe_lens i) (read_by caller handle (Stripe v i) fileid offset count) s (reading_outcome result) s

-- A run of READ of a fileid by what is under Logical of a volume, likewise.
abbrev pub ReadsInLogical : Caller → ℕ → ℕ → ℕ → LogicalSet → Result (Result ReadResults Status) AllocError → Type 0
ReadsInLogical caller fileid offset count set result = (v : ℕ) (handle : List ℕ)
    → RunsOn v logical_lens (read_by caller handle (Logical v) fileid offset count) set (reading_outcome result) set
