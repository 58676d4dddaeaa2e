-- The finished calls, one after another, on the serial server (our profile).
use Rattle.std.specs.Prelude.{◌≡◌, ℕ, Bool, true, false, IsTrue, List, [], ◌∷◌, Option, Some, None}
use Rattle.nfs_model.specs.Types.{Moment, Asked, Undecoded, Reply}
use Rattle.nfs_model.specs.Tree.{Affinity}
use Rattle.nfs_model.specs.Server.{Server}
use Rattle.nfs_model.specs.Serial.Step.{Step, serial}
use Rattle.nfs_model.specs.Serial.Starve.{may_starve_later}

-- a finished call: its record by connection and number, what that record asks, the affinity under
-- which it ran if any, its moment, and whether it was starved
pub record FinishedCall : Type 0 where
  pub connection : ℕ
  pub number : ℕ
  pub xid : ℕ
  pub asked : Asked
  pub affinity : Option Affinity
  pub moment : Moment
  pub starved : Bool

-- a finished call on the serial server
abbrev pub step_of : Server → FinishedCall → Step
step_of server e = serial server e.asked e.moment e.starved

-- the server after finished calls
abbrev pub server_after : Server → List FinishedCall → Server
server_after server [] = server
server_after server (e ∷ es) = server_after (step_of server e).server es

-- the replies to them
abbrev pub replay : Server → List FinishedCall → List Reply
replay server [] = []
replay server (e ∷ es) = (step_of server e).reply ∷ replay (step_of server e).server es

-- Whether a call that says starved may be: with no affinity it was its decoding, and then what it
-- asks isn't known here; else by what it would answer.
abbrev pub MayStarve : Server → Asked → Moment → Option Affinity → Type 0
MayStarve server asked moment None = asked ≡ Undecoded
MayStarve server asked moment (Some a) = IsTrue (may_starve_later server asked moment)

-- a call that says starved may be
abbrev pub IsLawful : Server → FinishedCall → Bool → Type 0
IsLawful server e true = MayStarve server e.asked e.moment e.affinity
IsLawful server e false = Unit {0}

-- each on the server after those before it
abbrev pub AreLawful : Server → List FinishedCall → Type 0
AreLawful server [] = Unit {0}
AreLawful server (e ∷ es) = IsLawful server e e.starved × AreLawful (step_of server e).server es
