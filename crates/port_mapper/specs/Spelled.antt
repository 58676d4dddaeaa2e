-- Calls as bytes (RFC 5531 sections 8.2 and 9).
use Rattle.std.specs.Prelude.{ℕ, ◌^◌, ◌<◌, List, ◌++◌}
use Rattle.xdr.specs.Shape.{Shape, Word, Value, Fits, spelling}
use Rattle.port_mapper.specs.Calls.{◌&◌, Call, auth_shape}

-- rpc_msg of a call (section 9): xid, CALL, rpcvers, prog, vers, proc, cred and verf
abbrev pub call_shape : Shape
call_shape = Word & Word & Word & Word & Word & Word & auth_shape & auth_shape

-- the message of a call of version 2 of RPC, and behind it the bytes of its arguments
abbrev pub call_bytes : ℕ → Call → Value auth_shape → Value auth_shape → List ℕ
call_bytes xid call credential verifier =
    spelling call_shape (xid, (0, (2, (call.program, (call.version, (call.procedure, (credential, verifier))))))) ++ call.arguments

-- its numbers are of 32 bits, and its credential and its verifier are of at most 400 bytes
pub record CallFits (xid : ℕ) (call : Call) (credential verifier : Value auth_shape) : Type 0 where
  pub xid_fits : xid < 2 ^ 32
  pub program_fits : call.program < 2 ^ 32
  pub version_fits : call.version < 2 ^ 32
  pub procedure_fits : call.procedure < 2 ^ 32
  pub credential_fits : Fits auth_shape credential
  pub verifier_fits : Fits auth_shape verifier
