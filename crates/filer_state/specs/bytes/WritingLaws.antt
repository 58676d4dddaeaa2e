-- What WRITE comes to by a stripe (RFC 1813 section 3.3.7).
use Rattle.std.specs.Prelude.{ℕ, ◌<◌, min, List}
use Rattle.nfs_model.specs.Types.{Write}
use Rattle.nfs_model.specs.Tree.{Affinity, Stripe}
use Rattle.nfs_model.specs.Server.{most_bytes}
use Rattle.nfs_model.specs.Serial.Write.{Writing, write}
use Rattle.nfs_model.specs.volume.Stripes.{StripeValue}
use Rattle.filer_state.specs.state.Lenses.{stripe_lens}
use Rattle.filer_state.specs.state.Calls.{VolumeCall, unasked, LieIn}
use Rattle.filer_state.specs.state.Running.{RunsOn}
use Rattle.filer_state.specs.bytes.Writing.{stripe_write}

-- a WRITE that is asked nothing of its caller, and clears no bit of the mode
abbrev pub plain : Writing → Writing
plain w = record w { caller = unasked }

abbrev pub write_call : List ℕ → Affinity → ℕ → Writing → VolumeCall
write_call handle node fileid w = record {
  call = Write handle w.offset w.count w.written;
  caller = unasked;
  node = node;
  fileid = fileid;
  run = λ volume. write (plain w) volume fileid;
}

-- Whatever the rest of the volume is, by the i-th stripe, where the bytes lie in it: a reply is the serial server's, and so is the
-- volume that is left; it moves exactly when the model says.
abbrev pub StripeWriteIsRight : Type 0
StripeWriteIsRight = (v i fileid : ℕ) (handle : List ℕ) (w : Writing) (s : StripeValue) → i < s.stripes
    → LieIn s.stripes i fileid w.offset (min w.count most_bytes)
    → RunsOn v (stripe_lens i) (write_call handle (Stripe v i) fileid w) s (stripe_write v fileid w s).outcome (stripe_write v fileid w s).stripe
