-- Replies as bytes (RFC 5531 sections 8.2 and 9, RFC 1833 sections 2.1 and 3.1).
use Rattle.std.specs.Prelude.{ℕ, false, List, [], ◌++◌, Some, None, map, codes}
use Rattle.std.specs.declared.net.ip_addr.IpAddr.{IpAddr}
use Rattle.xdr.specs.Shape.{Word, Boolean, Chain, Value, spelling}
use Rattle.port_mapper.specs.declared.registration.Registration.{Registration}
use Rattle.port_mapper.specs.declared.outcome.Results.{Results}
use Rattle.port_mapper.specs.declared.outcome.Results.TheVariants as results
use Rattle.port_mapper.specs.declared.outcome.Outcome.{Outcome}
use Rattle.port_mapper.specs.declared.outcome.Outcome.TheVariants as outcomes
use Rattle.port_mapper.specs.Registered.{number_of}
use Rattle.port_mapper.specs.Addresses.{netid_of, universal}
use Rattle.port_mapper.specs.Calls.{◌&◌, auth_shape}
use Rattle.port_mapper.specs.Asking.{mapping_shape, binding_shape, string_shape}

-- ---- results

-- what is registered, as a mapping
abbrev pub mapping_of : Registration → Value mapping_shape
mapping_of r = (r.program, (r.version, (number_of r.protocol, r.port)))

-- the same as an rpcb, for a client that reached this address; the owner of each is the superuser
abbrev pub binding_of : IpAddr → Registration → Value binding_shape
binding_of reached r = (r.program, (r.version, (netid_of r.protocol reached, (universal reached r.port, codes "superuser"))))

abbrev pub results_bytes : List Registration → IpAddr → Results → List ℕ
results_bytes registered reached results.Nothing = []
results_bytes registered reached results.Unchanged = spelling Boolean false
results_bytes registered reached (results.Port port) = spelling Word port
results_bytes registered reached results.Mappings = spelling (Chain mapping_shape) (map mapping_of registered)
results_bytes registered reached (results.Address (Some port)) = spelling string_shape (universal reached port)
results_bytes registered reached (results.Address None) = spelling string_shape []
results_bytes registered reached results.Bindings = spelling (Chain binding_shape) (map (binding_of reached) registered)

-- ---- replies (RFC 5531 section 9)

-- xid and REPLY 1
abbrev pub message : ℕ → List ℕ
message xid = spelling (Word & Word) (xid, 1)

-- MSG_ACCEPTED 0, a verifier of AUTH_NONE without a body, and accept_stat
abbrev pub accepted : ℕ → List ℕ
accepted status = spelling (Word & auth_shape & Word) (0, ((0, []), status))

-- MSG_DENIED 1 and reject_stat
abbrev pub denied : ℕ → List ℕ
denied status = spelling (Word & Word) (1, status)

-- reply_body: SUCCESS 0, PROG_UNAVAIL 1, PROG_MISMATCH 2 with versions 2 to 4, PROC_UNAVAIL 3 and GARBAGE_ARGS 4; RPC_MISMATCH 0 with
-- version 2 alone, and AUTH_ERROR 1 with AUTH_BADCRED 1
abbrev pub body_bytes : List Registration → IpAddr → Outcome → List ℕ
body_bytes registered reached (outcomes.Done r) = accepted 0 ++ results_bytes registered reached r
body_bytes registered reached outcomes.ProgramUnavailable = accepted 1
body_bytes registered reached outcomes.ProgramMismatch = accepted 2 ++ spelling (Word & Word) (2, 4)
body_bytes registered reached outcomes.ProcedureUnavailable = accepted 3
body_bytes registered reached outcomes.GarbageArguments = accepted 4
body_bytes registered reached outcomes.RpcMismatch = denied 0 ++ spelling (Word & Word) (2, 2)
body_bytes registered reached outcomes.BadCredential = denied 1 ++ spelling Word 1

-- rpc_msg of a reply
abbrev pub reply_bytes : List Registration → IpAddr → ℕ → Outcome → List ℕ
reply_bytes registered reached xid outcome = message xid ++ body_bytes registered reached outcome
