-- A call over a stream and its reply.
use Rattle.std.proofs.Common.{ℕ, List, Option, Result, Ok, Err, IfOk}
use Rattle.std.specs.Prelude.{IfSome}
use Rattle.std.specs.Io.KnownBytes.{Appends}
use Rattle.admin_client.specs.declared.fault.AdminFault.{AdminFault}
use Rattle.admin_client.specs.Incoming.{HasNext, HasReply}

-- the record that comes behind the call is its reply
pub reply_next : {S X : Type 0} (contents remaining : S → Option (List ℕ)) (view : X → List ℕ) (stream sent : S) (call : List ℕ) (r : Result X AdminFault)
    → Appends (contents stream) (contents sent) call → IfSome (remaining sent) (HasNext view r)
    → IfOk r (λ made. HasReply contents remaining stream call (view made))
reply_next contents remaining view stream sent call (Ok made) a n = record { sent = sent; written = a; next = n }
reply_next contents remaining view stream sent call (Err fault) a n = tt
