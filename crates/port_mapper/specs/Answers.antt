-- What a message is answered with (RFC 1833 sections 2 and 3, RFC 5531 section 9).
use Rattle.std.specs.Prelude.{ℕ, List, length, Option, Some, None, Result, Ok, Err, nat_le, if◌then◌else◌}
use Rattle.std.specs.Global.{Vec}
use Rattle.std.specs.declared.net.ip_addr.IpAddr.{IpAddr}
use Rattle.port_mapper.specs.declared.registration.Registration.{Registration}
use Rattle.port_mapper.specs.declared.call.Stop.{Stop}
use Rattle.port_mapper.specs.declared.call.Stop.TheVariants.{Silent, Refuse}
use Rattle.port_mapper.specs.Calls.{Call, call_at, xid_at}
use Rattle.port_mapper.specs.Asking.{outcome_of}
use Rattle.port_mapper.specs.Replies.{reply_bytes}

-- the reply to a call, if one is sent
abbrev pub reply_by : List Registration → IpAddr → ℕ → Result Call Stop → Option (List ℕ)
reply_by registered reached xid (Ok call) = Some (reply_bytes registered reached xid (outcome_of registered reached call))
reply_by registered reached xid (Err (Refuse outcome)) = Some (reply_bytes registered reached xid outcome)
reply_by registered reached xid (Err Silent) = None

abbrev pub reply_from : List Registration → IpAddr → Result (ℕ × List ℕ) Stop → Option (List ℕ)
reply_from registered reached (Ok m) = reply_by registered reached m.0 (call_at m.1)
reply_from registered reached (Err stop) = None

-- The reply to a message, where these are registered and the client reached this address: none to one that is no call, or whose head
-- isn't all there.
abbrev pub reply_to : List Registration → IpAddr → List ℕ → Option (List ℕ)
reply_to registered reached bytes = reply_from registered reached (xid_at bytes)

-- one that goes into a datagram: of at most 512 bytes (our profile)
abbrev pub in_datagram : Option (List ℕ) → Option (List ℕ)
in_datagram (Some reply) = if nat_le (length reply) 512 then Some reply else None
in_datagram None = None

-- ---- what the code returns

-- the bytes of a reply, if there is one
abbrev pub bytes_of : Option (Vec ℕ) → Option (List ℕ)
bytes_of (Some reply) = Some reply.items
bytes_of None = None
