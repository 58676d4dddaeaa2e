-- The whole statement about an engine, in one place: what is true of one to which just these events have happened.
use Rattle.std.specs.Prelude.{◌≡◌, ℕ, List, ◌++◌, Some, slice_get}
use Rattle.nfs_model.specs.World.{Connection}
use Rattle.nfs_model.specs.Headline.{opening_world}
use Rattle.nfs_model.specs.Events.Refusals as events
use Rattle.nfs_model.specs.Events.Step.{Runs}
use Rattle.rpc_record.specs.Stream.{AreBytes}
use Rattle.engine_feed.specs.Streams.{IsServed}
use Rattle.engine.specs.Shown.{Shown, setup_in, HasHeadline, HasOutcomes, HasHistory}

-- For each list of events, the refused ones among them, and so for every cutting of the streams and every list of scheduler steps.
pub record Promise (es : List events.Event) (e : Shown) : Type 0 where
  -- The events led here from the beginning, one after the other. Each was refused, by the first number that applies, and changed
  -- nothing; or it was answered, and did what the model says of it.
  pub came : Runs (setup_in e) (opening_world (setup_in e)) es e.world
  -- The bytes on each connection are the reply records of a serial server's replies to that connection's finished calls, in
  -- finishing order of all calls, each under its own xid; finished calls are distinct records of the streams; block parts partition
  -- every volume; no two running messages exclude each other.
  pub headline : HasHeadline e
  -- What a stream serves, by which the headline names records, is what its records are by record marking (RFC 5531 section 11), read
  -- by what the engine offers: the calls and refusals that these are, in order, up to the first fault.
  pub streams : (c : ℕ) (x : Connection) → slice_get e.world.connections c ≡ Some x → AreBytes x.stream
      → IsServed e.offer x.stream ((setup_in e).codec.scan x.stream)
  -- A reply that was computed when its call was worked is the serial server's when the call is finished, whatever finished in between.
  pub outcomes : HasOutcomes e
  -- The engine's parcels are as the history of its seat left them, those of running messages as they are now, and the calls of that
  -- history are the finished ones that ran under an affinity.
  pub history : HasHistory e

-- an engine to which these events have happened is one to which these and more have
abbrev pub GoesOn : Shown → List events.Event → Shown → Type 0
GoesOn old more new = (es : List events.Event) → Promise es old → Promise (es ++ more) new
