-- What is replied on a stream of records (RFC 5531 sections 9 and 11).
use Rattle.std.specs.Prelude.{◌≡◌, ℕ, true, List, [], ◌++◌, Option, Some, None}
use Rattle.std.specs.List.{flat_map}
use Rattle.std.specs.declared.net.ip_addr.IpAddr.{IpAddr}
use Rattle.rpc_record.specs.Records.{fragment}
use Rattle.rpc_record.specs.Machine.{State}
use Rattle.rpc_record.specs.Stream.{read_stream}
use Rattle.port_mapper.specs.declared.registration.Registration.{Registration}
use Rattle.port_mapper.specs.Answers.{reply_to}

-- a reply as a record of one fragment, if one is sent
abbrev pub framed : Option (List ℕ) → List ℕ
framed (Some reply) = fragment true reply
framed None = []

-- what is written for a record of a stream
abbrev pub reply_record : List Registration → IpAddr → List ℕ → List ℕ
reply_record registered reached request = framed (reply_to registered reached request)

-- Behind a stream these bytes complete these records, and lead to this state. To what was written before, the records of the replies to
-- them are added, in their order.
pub record Replies (registered : List Registration) (reached : IpAddr) (stream bytes before written : List ℕ) (state : Option State) : Type 0 where
  pub records : List (List ℕ)
  pub reading : read_stream (stream ++ bytes) ≡ record { records = (read_stream stream).records ++ records; at = state }
  pub replies : written ≡ before ++ flat_map (reply_record registered reached) records
