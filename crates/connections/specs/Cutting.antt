-- Bytes that are cut into records, and those that are kept.
use Rattle.std.specs.Prelude.{◌≡◌, ℕ, ◌<◌, Bool, false, List, [], ◌++◌, length, Option, None}
use Rattle.nfs_model.specs.Tree.{Layout}
use Rattle.rpc_msg.specs.declared.offer.Offer.{Offer}
use Rattle.tcp_front.specs.declared.stream.Stopped.{Stopped}
use Rattle.tcp_front.specs.declared.stream.Stream.{Stream}
use Rattle.tcp_front.specs.Arrivals.{Arrival}
use Rattle.tcp_front.specs.Steps.{HasTaken}

-- A beginning of these bytes was taken, and the records that it completes were given on, by what is offered; the rest is kept, for want
-- of room in the sink, or the reading stopped.
pub record HasCut {S : Type 0} (came : S → List Arrival → S → Type 0) (room : S → Bool) (layout : Layout) (offer : Offer)
    (s : Stream) (sink : S) (bytes : List ℕ) (stopped : Option Stopped) (s' : Stream) (sink' : S) (kept : List ℕ) : Type 0 where
  pub cut : List ℕ
  pub lost : List ℕ
  pub split : bytes ≡ cut ++ (kept ++ lost)
  pub taken : HasTaken came layout offer s sink cut stopped s' sink'
  pub none_lost : stopped ≡ None → lost ≡ []
  pub full : stopped ≡ None → 0 < length kept → room sink' ≡ false
