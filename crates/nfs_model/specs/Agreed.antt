-- What an event has to leave where calls run at one time (our profile). A step that changes
-- something and disturbs no other running call leaves it; that such steps do is for those who serve
-- them to show.
use Rattle.std.specs.Prelude.{◌≡◌, ℕ, Some, slice_get}
use Rattle.std.specs.List.{AllByRecursion}
use Rattle.nfs_model.specs.Server.{VolumeState, Server}
use Rattle.nfs_model.specs.Replay.{server_after}
use Rattle.nfs_model.specs.Parts.{Parts, IsPartition}
use Rattle.nfs_model.specs.World.{Setup, World, all_running, hands_blocks}
use Rattle.nfs_model.specs.Headline.{start, server_worked, IsOutcome}

-- the server after the finished calls
abbrev pub done : Setup → World → Server
done setup w = server_after (start setup) w.finished

-- The server is the one after the finished calls and those that were worked, each outcome is the
-- one that finishing now would give, and block parts partition every volume.
pub record IsAgreed (setup : Setup) (w : World) : Type 0 where
  pub state : w.server ≡ server_worked (done setup w) (all_running w.workers)
  pub outcomes : AllByRecursion
      (λ r. IsOutcome setup (done setup w) r r.outcome)
      (all_running w.workers)
  pub partition : (v : ℕ) (volume : VolumeState) → slice_get w.server.volumes v ≡ Some volume
      → (p : Parts) × (slice_get w.parts v ≡ Some p)
      × IsPartition volume p (hands_blocks v w.workers)
