-- What a call over a stream comes to.
use Rattle.std.specs.Prelude.{◌≡◌, ℕ, List, Result, Ok, Err}
use Rattle.xdr.specs.Shape.{Shape, Value}
use Rattle.admin_client.specs.declared.fault.AdminFault.{AdminFault}
use Rattle.admin_client.specs.declared.fault.AdminFault.TheVariants.{Stream, Late, Cut, TooLong, NoMemory}
use Rattle.admin_client.specs.Telling.{told_by}

-- One of these replies to the call of this xid tells what was returned, seen by view. Nothing is said where none came or memory ran out.
abbrev pub TellsOver : {X : Type 0} (results : Shape) → (X → Value results) → ℕ → (List ℕ → Type 0) → Result X AdminFault → Type 0
TellsOver results view xid IsReply (Ok x) = (reply : List ℕ) × IsReply reply × (told_by results xid reply ≡ Ok (view x))
TellsOver results view xid IsReply (Err Stream) = Unit {0}
TellsOver results view xid IsReply (Err Late) = Unit {0}
TellsOver results view xid IsReply (Err Cut) = Unit {0}
TellsOver results view xid IsReply (Err TooLong) = Unit {0}
TellsOver results view xid IsReply (Err NoMemory) = Unit {0}
TellsOver results view xid IsReply (Err fault) = (reply : List ℕ) × IsReply reply × (told_by results xid reply ≡ Err fault)
