-- What WRITE comes to by a stripe (RFC 1813 section 3.3.7). What would extend the file or fill a hole moves to Volume Logical (our
-- profile).
use Rattle.std.specs.Prelude.{ℕ, ◌+◌, ◌==◌, not, nat_lt, length, Option, Some, None, if◌then◌else◌}
use Rattle.std.specs.FinMap.{get}
use Rattle.nfs_model.specs.Types.{Status, Stale, Invalid, TooBig, Answer, WriteDone, Failed, Success}
use Rattle.nfs_model.specs.Tree.{Logical}
use Rattle.nfs_model.specs.Serial.Write.{Writing, bytes_kept}
use Rattle.nfs_model.specs.Work.{Outcome, Replied, Moved}
use Rattle.nfs_model.specs.volume.Stripes.{Card, OfFile, OfDirectory, StripeValue, stays_within, overwritten}

-- what it comes to, and the stripe after it
pub record StripeOutcome : Type 0 where
  pub outcome : Outcome
  pub stripe : StripeValue

-- an answer that changes nothing
abbrev pub tells : Answer → StripeValue → StripeOutcome
tells answer s = record { outcome = Replied (Success answer); stripe = s }

-- a failure has two absent parts, attributes before and after, which WRITE never gives
abbrev pub fails : Status → StripeValue → StripeOutcome
fails status s = tells (Failed status 2) s

-- at least one byte, n in all, on the volume of a number: FBIG; written where all is there to be written over
abbrev pub some_written : ℕ → ℕ → Writing → ℕ → StripeValue → StripeOutcome
some_written v fileid w n s =
    if nat_lt s.largest (w.offset + n) then fails TooBig s
    else if stays_within fileid w.offset n s then record {
      outcome = Replied (Success (WriteDone n s.verifier));
      stripe = overwritten fileid w.offset (bytes_kept w) w.moment s;
    }
    else record { outcome = Moved (Logical v); stripe = s }

-- to a file: INVAL for a count that isn't the data's length; a count of 0 changes nothing
abbrev pub file_written : ℕ → ℕ → Writing → StripeValue → StripeOutcome
file_written v fileid w s =
    if not (w.count == length w.written) then fails Invalid s
    else if w.count == 0 then tells (WriteDone 0 s.verifier) s
    else some_written v fileid w (length (bytes_kept w)) s

-- STALE, INVAL for a directory
abbrev pub card_written : ℕ → ℕ → Writing → Option Card → StripeValue → StripeOutcome
card_written v fileid w None s = fails Stale s
card_written v fileid w (Some OfDirectory) s = fails Invalid s
card_written v fileid w (Some (OfFile size touch owner)) s = file_written v fileid w s

abbrev pub stripe_write : ℕ → ℕ → Writing → StripeValue → StripeOutcome
stripe_write v fileid w s = card_written v fileid w (get s.cards fileid) s
