-- A connection and the calls on their way, as parts of a world.
use Rattle.std.specs.Prelude.{◌≡◌, ℕ, length, Some, slice_get}
use Rattle.nfs_model.specs.World.{Setup, World, Connection, all_running, changed_at}
use Rattle.rpc_msg.specs.declared.offer.Offer.{Offer}
use Rattle.engine_feed.specs.declared.state.ConnectionState.{ConnectionState}
use Rattle.engine_feed.specs.declared.state.CallsState.{CallsState}
use Rattle.engine_feed.specs.Seen.{connection_of, layout_in, waiting_of, finished_of, running_count}
use Rattle.engine_feed.specs.Streams.{codec}

-- The codec is that of an offer, and the layout that of the calls. What else is fixed for a run doesn't matter here.
pub record IsSetup (offer : Offer) (setup : Setup) (calls : CallsState) : Type 0 where
  pub codec : setup.codec ≡ codec offer
  pub layout : setup.layout ≡ layout_in calls

-- the calls that wait or are finished are these
pub record Shows (calls : CallsState) (w : World) : Type 0 where
  pub waiting : w.waiting ≡ waiting_of calls
  pub finished : w.finished ≡ finished_of calls

-- the connection of a number is this one, and the calls on their way are these
pub record IsPartOf (calls : CallsState) (number : ℕ) (c : ConnectionState) (w : World) : Type 0 where
  pub connection : slice_get w.connections number ≡ Some (connection_of c)
  pub shows : Shows calls w
  pub running : length (all_running w.workers) ≡ running_count calls
  pub volumes : length w.server.volumes ≡ length (layout_in calls).volumes

-- a world with these calls that wait or are finished
abbrev pub with_calls : CallsState → World → World
with_calls calls w = record w { waiting = waiting_of calls; finished = finished_of calls }

-- and with this connection of a number
abbrev pub with_part : CallsState → ℕ → ConnectionState → World → World
with_part calls number c w =
    record (with_calls calls w) { connections = changed_at (λ (x : Connection). connection_of c) w.connections number }
