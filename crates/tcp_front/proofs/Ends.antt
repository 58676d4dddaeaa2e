-- How the loop over a reader ends.
use Rattle.std.proofs.Common.{◌≡◌, ◌+◌, ℕ, List, [], ◌++◌, take, Global, Option, Some, None, refl, ap, subst, ◌∙◌, arith}
use Rattle.std.proofs.lemmas.List.{append-nil}
use Rattle.std.proofs.KnownBytes.{Consumes-nil, Consumes-kept, Consumes-trans}
use Rattle.std.specs.Io.KnownBytes.{Consumes, IsAtEnd, Keeps}
use Rattle.nfs_values.specs.declared.number.ConnectionNumber.{ConnectionNumber}
use Rattle.nfs_model.specs.Tree.{Layout}
use Rattle.nfs_model.specs.World.{Heard}
use Rattle.rpc_msg.specs.declared.offer.Offer.{Offer}
use Rattle.tcp_front.specs.declared.counted.Counted.{Counted}
use Rattle.tcp_front.specs.declared.read_end.ReadEnd.TheVariants as ends
use Rattle.tcp_front.specs.declared.peer.Peer.{Peer}
use Rattle.tcp_front.specs.declared.stream.Stream.{Stream}
use Rattle.tcp_front.specs.declared.stream.Stopped.{Stopped}
use Rattle.tcp_front.specs.declared.stream.Stopped.TheVariants as stops
use Rattle.tcp_front.specs.Arrivals.{Arrival, arrivals}
use Rattle.tcp_front.specs.Peers.{sender_of}
use Rattle.engine_feed.specs.Streams.{scan_stream}
use Rattle.tcp_front.specs.Counts.{device_of, HasFailed, HasNotFailed}
use Rattle.tcp_front.specs.Reading.{HasRead, AreAll}
use Rattle.tcp_front.specs.Steps.{HasTaken, end_of, opened}
use Rattle.tcp_front.proofs.Taken.{ComesMore, taken-more, taken-none}

module _ {R S : Type 0} (remaining : R → Option (List ℕ)) (came : S → List Arrival → S
    → Type 0) (layout : Layout) (offer : Offer) (alloc : Global)
    (connection : ConnectionNumber) (peer : Peer) (reader : Counted R) (sink : S) where
  -- so far these bytes were read, their records given on, and nothing failed
  pub record SoFar (reader' : Counted R) (stream : Stream) (sink' : S) : Type 0 where
    pub read : List ℕ
    pub consumed : Consumes (remaining (device_of reader)) (remaining (device_of reader')) read
    pub taken : HasTaken came layout offer (opened alloc connection peer) sink read None stream sink'
    pub same : HasNotFailed reader reader'

  pub nothing-read : ((s : S) → came s [] s) → SoFar reader (opened alloc connection peer) sink
  nothing-read none = record {
    read = [];
    consumed = Consumes-nil (remaining (device_of reader));
    taken = taken-none came layout offer (opened alloc connection peer) sink (none sink) (omega arith);
    same = refl;
  }

  -- without memory for a block nothing is
  pub no-block : ((s : S) → came s [] s) → HasRead remaining came layout offer connection.0 (sender_of peer) reader sink ends.NoMemory reader sink
  no-block none = record {
    read = [];
    heard = [];
    consumed = Consumes-nil (remaining (device_of reader));
    given = none sink;
    ends = (((scan_stream offer []).served, refl), refl);
  }

  module _ (reader' : Counted R) (stream : Stream) (sink' : S) (so : SoFar reader' stream sink') where
    -- all that the bytes serve was given on
    all-given : AreAll offer so.taken.heard None so.read
    all-given = so.taken.stops.0.brings [] refl refl

    pub at-end : (after : Counted R) (size : ℕ) (block : List ℕ) → size ≡ 0
        → Consumes (remaining (device_of reader')) (remaining (device_of after)) (take size block)
        → IsAtEnd (remaining (device_of after)) → HasNotFailed reader' after
        → HasRead remaining came layout offer connection.0 (sender_of peer) reader sink ends.End after sink'
    at-end after size block e consumed none same = record {
      read = so.read;
      heard = so.taken.heard;
      consumed = subst (Consumes (remaining (device_of reader)) (remaining (device_of after))) (append-nil so.read)
          (Consumes-trans _ _ _ so.read [] so.consumed
          (subst (λ (n : ℕ). Consumes (remaining (device_of reader')) (remaining (device_of after)) (take n block)) e consumed));
      given = so.taken.given;
      ends = (all-given, none, same ∙ so.same);
    }

    pub reader-failed : (after : Counted R) → Keeps (remaining (device_of reader')) (remaining (device_of after))
        → HasFailed reader' after
        → HasRead remaining came layout offer connection.0 (sender_of peer) reader sink ends.ReaderFailed after sink'
    reader-failed after kept failed = record {
      read = so.read;
      heard = so.taken.heard;
      consumed = Consumes-kept _ _ _ so.read so.consumed kept;
      given = so.taken.given;
      ends = (all-given, failed ∙ ap (λ (n : ℕ). n + 1) so.same);
    }

    -- ---- bytes more

    module _ (law : ComesMore came) (after : Counted R) (stream' : Stream) (mid sink'' : S) (bytes : List ℕ)
        (consumed : Consumes (remaining (device_of reader')) (remaining (device_of after)) bytes)
        (same : HasNotFailed reader' after)
        (woken : came mid [] sink'') where
      -- all that was given on before the sink was told
      given-on : (heard : List Heard) → came sink (arrivals layout connection.0 (sender_of peer) 0 heard) mid
          → came sink (arrivals layout connection.0 (sender_of peer) 0 heard) sink''
      given-on heard given = subst (λ (l : List Arrival). came sink l sink'') (append-nil _)
          (law sink mid sink'' _ [] given woken)

      pub more-read : HasTaken came layout offer stream sink' bytes None stream' mid → SoFar after stream' sink''
      more-read h =
          let t = taken-more came layout offer law (opened alloc connection peer) stream stream' sink sink' mid so.read bytes None
          so.taken h in
          record {
            read = so.read ++ bytes;
            consumed = Consumes-trans _ _ _ so.read bytes so.consumed consumed;
            taken = record { heard = t.heard; given = given-on t.heard t.given; count = t.count; same = t.same; stops = t.stops };
            same = same ∙ so.same;
          }

      pub read-to-stop : (stopped : Stopped) → HasTaken came layout offer stream sink' bytes (Some stopped) stream' mid
          → HasRead remaining came layout offer connection.0 (sender_of peer) reader sink (end_of stopped) after sink''
      read-to-stop stopped h = by stopped (taken-more came layout offer law
          (opened alloc connection peer) stream stream' sink sink' mid so.read bytes (Some stopped) so.taken h)
        where
          by : (stopped : Stopped) → HasTaken came layout offer (opened alloc connection peer) sink (so.read ++ bytes)
              (Some stopped) stream' mid
              → HasRead remaining came layout offer connection.0 (sender_of peer) reader sink (end_of stopped) after sink''
          by (stops.Fault fault) t = record {
            read = so.read ++ bytes;
            heard = t.heard;
            consumed = Consumes-trans _ _ _ so.read bytes so.consumed consumed;
            given = given-on t.heard t.given;
            ends = (t.stops [] refl refl, same ∙ so.same);
          }
          by stops.NoMemory t = record {
            read = so.read ++ bytes;
            heard = t.heard;
            consumed = Consumes-trans _ _ _ so.read bytes so.consumed consumed;
            given = given-on t.heard t.given;
            ends = (t.stops [] refl refl, same ∙ so.same);
          }
          by stops.NumbersUsed t = let count = t.count in let all = t.stops.1 in record {
            read = so.read ++ bytes;
            heard = t.heard;
            consumed = Consumes-trans _ _ _ so.read bytes so.consumed consumed;
            given = given-on t.heard t.given;
            ends = (t.stops.0 [] refl refl, omega (arith, count, all), same ∙ so.same);
          }
