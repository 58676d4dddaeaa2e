-- When calls run (nfstime3, RFC 1813 section 2.6).
use Rattle.std.specs.Prelude.{◌≡◌, ℕ, ◌+◌, ◌*◌, ◌≤◌, Bool, false}
use Rattle.nfs_model.specs.Serial.Permission as permission
use Rattle.nfs_values.specs.Call.{call_of}
use Rattle.nfs_values.specs.declared.call.Call.{Call}
use Rattle.nfs_values.specs.declared.moment.Moment.{Moment}

-- whether a call changes what it is on (RFC 1813 sections 3.3.2 and 3.3.7 to 3.3.15), which a caller that only reads may not
abbrev pub is_change : Call → Bool
is_change call = permission.is_change (call_of call)

-- how many nanoseconds have passed at a moment since the start of all times
abbrev pub nanoseconds_at : Moment → ℕ
nanoseconds_at m = m.seconds * 1000000000 + m.nanoseconds

-- A call that is to run at a moment runs at this one: no earlier, and just then if it changes nothing.
pub record RunsAt (call : Call) (least moment : Moment) : Type 0 where
  pub since : nanoseconds_at least ≤ nanoseconds_at moment
  pub same : is_change call ≡ false → moment ≡ least
