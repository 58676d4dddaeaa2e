-- What WRITE promises, on the parcels of a volume (RFC 1813 section 3.3.7).
use Rattle.std.specs.Prelude.{◌≡◌, ℕ, suc, ◌+◌, ◌<◌, ◌==◌, min, false, not, nat_lt, List, length, Option, Some, None, Result, Ok, Err, if◌then◌else◌}
use Rattle.std.specs.FinMap.{get}
use Rattle.std.specs.FinSet.{len}
use Rattle.std.specs.declared.alloc.AllocError.{AllocError}
use Rattle.nfs_model.specs.Types as types
use Rattle.nfs_model.specs.Types.{Caller, Moment}
use Rattle.nfs_model.specs.Server.{Attributes, most_bytes}
use Rattle.nfs_model.specs.Serial.Rights.{ownership_of}
use Rattle.nfs_model.specs.Tree.{Volume, Logical, Stripe}
use Rattle.nfs_model.specs.Serial.Write.{Writing}
use Rattle.nfs_model.specs.Work.{Outcome, Replied, Moved, Starved}
use Rattle.nfs_values.specs.Answer.{answer_of}
use Rattle.nfs_values.specs.declared.answer.Answer.TheVariants.{Write}
use Rattle.nfs_values.specs.declared.answer.WriteResults.{WriteResults}
use Rattle.nfs_values.specs.declared.status.Status.{Status}
use Rattle.nfs_values.specs.declared.status.Status.TheVariants.{Stale, Invalid, TooBig}
use Rattle.nfs_model.specs.volume.Inodes.{InodeKind, RegularFile, Inode}
use Rattle.nfs_model.specs.volume.Stripes.{Card, OfFile, OfDirectory, StripeValue}
use Rattle.filer_state.specs.state.Lenses.{LogicalSet, logical_lens, stripe_lens}
use Rattle.filer_state.specs.state.Calls.{LieIn}
use Rattle.filer_state.specs.state.Running.{RunsOn}
use Rattle.filer_state.specs.bytes.Permitted.{write_by}
use Rattle.filer_state.specs.bytes.WritingUp.{LogicalWrites, bytes_due, holes_of}

-- what a caller asks: bytes at an offset, with the count that was given, at a moment
abbrev pub asked_to_write : Caller → ℕ → ℕ → List ℕ → Moment → Writing
asked_to_write caller offset count written moment =
    record { caller = caller; offset = offset; count = count; written = written; moment = moment }

-- How many bytes are to be written, by a file's card and the largest size, where this many are there: STALE, INVAL for a directory,
-- INVAL for another count, none for a count of 0, FBIG.
abbrev pub bytes_to_write : Option Card → ℕ → ℕ → ℕ → ℕ → Result ℕ Status
bytes_to_write None largest offset count long = Err Stale
bytes_to_write (Some OfDirectory) largest offset count long = Err Invalid
bytes_to_write (Some (OfFile size touch owner)) largest offset count long =
    if not (count == long) then Err Invalid
    else if count == 0 then Ok 0
    else if nat_lt largest (offset + min count most_bytes) then Err TooBig
    else Ok (min count most_bytes)

-- what a WRITE in a stripe comes to: a reply, or a move to Volume Logical
abbrev pub writing_outcome : ℕ → Option (Result WriteResults Status) → Outcome
writing_outcome v None = Moved (Logical v)
writing_outcome v (Some told) = Replied (types.Success (answer_of (Write told)))

-- A run of WRITE of a fileid by this stripe is right where it is the i-th of a volume and the bytes lie in it: by whatever handle, and
-- whatever the rest of the volume is.
abbrev pub WritesInStripe : ℕ → Writing → StripeValue → Option (Result WriteResults Status) → StripeValue → Type 0
WritesInStripe fileid w old result new = (v i : ℕ) (handle : List ℕ) → i < old.stripes → LieIn old.stripes i fileid w.offset (min w.count most_bytes)
    → RunsOn v (stripe_lens i) (write_by handle (Stripe v i) fileid w) old (writing_outcome v result) new

-- ---- by what is under Logical of a volume

-- what a WRITE comes to there: a reply, a move to Volume, or memory ran out
abbrev pub written_outcome : ℕ → Result (Option (Result WriteResults Status)) AllocError → Outcome
written_outcome v (Ok None) = Moved (Volume v)
written_outcome v (Ok (Some told)) = Replied (types.Success (answer_of (Write told)))
written_outcome v (Err e) = Starved

-- a card without a touch of what an inode is of
abbrev pub kind_card : Attributes → InodeKind → Card
kind_card a (RegularFile size filled verifier) = OfFile size None (ownership_of a)
kind_card a kind = OfDirectory

-- the card of an inode in each stripe, but for the touch
abbrev pub card_shown : Option Inode → Option Card
card_shown None = None
card_shown (Some inode) = Some (kind_card inode.attributes inode.kind)

-- A run of WRITE of a fileid by what is under Logical of a volume is right: by whatever handle, and whatever the rest of the volume is.
abbrev pub WritesInLogical : ℕ → Writing → LogicalSet → Result (Option (Result WriteResults Status)) AllocError → LogicalSet → Type 0
WritesInLogical fileid w old result new = (v : ℕ) (handle : List ℕ)
    → RunsOn v logical_lens (write_by handle (Logical v) fileid w) old (written_outcome v result) new

-- Bytes are due, the stock has blocks for all holes, and there is one: memory may run out.
pub record MayStarve (fileid : ℕ) (w : Writing) (s : LogicalSet) : Type 0 where
  pub more : ℕ
  pub due : bytes_due (get s.own.inodes.inodes fileid) s.own.largest w ≡ Ok (suc more)
  pub enough : nat_lt (len s.own.stock) (length (holes_of fileid w s)) ≡ false
  pub some : 0 < length (holes_of fileid w s)

-- what has happened, by the definitions, where nothing is asked of the caller: on the volume of any number, where memory didn't run out
abbrev pub DoneInLogical : ℕ → Writing → LogicalSet → Result (Option (Result WriteResults Status)) AllocError → LogicalSet → Type 0
DoneInLogical fileid w old (Ok told) new = (v : ℕ) → LogicalWrites v fileid w old (written_outcome v (Ok told)) new
DoneInLogical fileid w old (Err e) new = MayStarve fileid w old × (new ≡ old)
