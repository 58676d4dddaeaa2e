-- What is read of a stream, by record marking.
use Rattle.std.proofs.Common.{ℕ, List, Option, Some, None, refl}
use Rattle.std.specs.Prelude.{MatchOption}
use Rattle.rpc_record.specs.Machine.{State}
use Rattle.rpc_record.specs.Records.{HasFault, HasNoFault}
use Rattle.rpc_record.specs.Stream.{IsReading, read_stream}
use Rattle.rpc_msg.specs.declared.offer.Offer.{Offer}
use Rattle.engine_feed.specs.Streams.{fault_at, scan_stream, IsFaultOf, IsServed}

fault_is : (at : Option State) (rest : List ℕ) → MatchOption at (HasFault rest) (λ _. HasNoFault rest) → IsFaultOf rest (fault_at at)
fault_is None rest h = (refl, h)
fault_is (Some state) rest h = h

module _ (offer : Offer) where
  pub served_by : (stream : List ℕ) → IsReading stream (read_stream stream) → IsServed offer stream (scan_stream offer stream)
  served_by stream is = record {
    records = (read_stream stream).records;
    rest = is.0;
    fault = fault_at (read_stream stream).at;
    are = is.1;
    at_fault = fault_is (read_stream stream).at is.0 is.2;
    served = refl;
  }
