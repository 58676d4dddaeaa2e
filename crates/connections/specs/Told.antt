-- What a device answered to one call, and what that says of the bytes that it tells.
use Rattle.std.specs.Prelude.{◌≡◌, ℕ, ◌+◌, ◌^◌, ◌%◌, ◌<◌, ◌≤◌, ⊤, List, [], ◌∷◌, ◌++◌, length, take, Option, Some, None}
use Rattle.std.specs.Io.KnownBytes.{Appends, Keeps}
use Rattle.std.specs.declared.io.ErrorKind.{ErrorKind}
use Rattle.std.specs.declared.io.ErrorKind.TheVariants as kinds
use Rattle.connections.specs.declared.told.DeviceCall.{DeviceCall}
use Rattle.connections.specs.declared.told.Told.{Told}
use Rattle.connections.specs.declared.told.Told.TheVariants.{Moved, Blocked, Failed}
use Rattle.connections.specs.declared.watched.Watched.{Watched}
use Rattle.connections.specs.Incoming.{Incoming, Gives, GivesNone, IsAllRead}

abbrev pub device_of : {D : Type 0} → Watched D → D
device_of w = w.device

-- how often the device was called, wrapping
abbrev pub calls_of : {D : Type 0} → Watched D → ℕ
calls_of w = w.calls

-- The device was called once, with this many bytes offered or so much room, and this is what it answered.
pub record HasCalled {D : Type 0} (old : Watched D) (offered : ℕ) (told : Told) (new : Watched D) : Type 0 where
  pub once : calls_of new ≡ (calls_of old + 1) % 2 ^ 64
  pub offered_is : new.offered ≡ offered
  pub told_is : new.last ≡ told

-- just this call more was made of a device, where its calls are known
abbrev pub IsAsked : Option (List DeviceCall) → Option (List DeviceCall) → DeviceCall → Type 0
IsAsked None new call = ⊤
IsAsked (Some calls) None call = ⊥
IsAsked (Some calls) (Some calls') call = calls' ≡ calls ++ call ∷ []

-- no more bytes moved than these
abbrev pub MovesAtMost : Told → List ℕ → Type 0
MovesAtMost (Moved n) bytes = (n ≤ length bytes) × (n ≡ length (take n bytes))
MovesAtMost Blocked bytes = ⊤
MovesAtMost Failed bytes = ⊤

-- A read took what it tells, none only at the end or with no room; or nothing, where it would wait or failed.
abbrev pub HasGot : Incoming → Incoming → Told → List ℕ → Type 0
HasGot old new (Moved n) block = Gives old new (take n block) × (n ≡ 0 → 0 < length block → IsAllRead new)
HasGot old new Blocked block = GivesNone old new
HasGot old new Failed block = GivesNone old new

-- A write gave what it tells; or nothing, where it would wait or failed.
abbrev pub HasGiven : Option (List ℕ) → Option (List ℕ) → Told → List ℕ → Type 0
HasGiven old new (Moved n) bytes = Appends old new (take n bytes)
HasGiven old new Blocked bytes = Keeps old new
HasGiven old new Failed bytes = Keeps old new

-- an error as an answer: one who has to wait or was interrupted is asked again
abbrev pub told_of : ErrorKind → Told
told_of kinds.WouldBlock = Blocked
told_of kinds.Interrupted = Blocked
told_of kind = Failed
