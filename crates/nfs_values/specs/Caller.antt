use Rattle.std.specs.Prelude.{ℕ, ◌+◌, ◌*◌}
use Rattle.nfs_model.specs.Types as model
use Rattle.nfs_values.specs.declared.caller.Caller.{Caller}
use Rattle.nfs_values.specs.declared.caller.PeerAddress.{PeerAddress}
use Rattle.nfs_values.specs.Credential.{credential_of}

-- where a call comes from, as one number: no two addresses and ports have the same
abbrev pub peer_of : PeerAddress → ℕ
peer_of p = p.address * 65536 + p.port

-- who makes a call, as the model has it
abbrev pub caller_of : Caller → model.Caller
caller_of c = record {
  credential = credential_of c.credential;
  xid = c.xid;
  peer = peer_of c.peer;
  checked = c.is_checked;
  reads_only = c.reads_only;
}
