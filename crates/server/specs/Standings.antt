-- How the callers of a peer stand (our profile).
use Rattle.std.specs.Prelude.{◌≡◌, ◌↔◌, ◌⊎◌, IsTrue}
use Rattle.std.specs.Net.Socket.{socket_ip, socket_port}
use Rattle.std.specs.declared.net.socket_addr.SocketAddr.{SocketAddr}
use Rattle.nfs_values.specs.declared.standing.Standing.{Standing}
use Rattle.server_options.specs.Peers.{OnlyReads}
use Rattle.server_options.specs.Standings.{squash_at}
use Rattle.server_options.specs.declared.peer_rules.PeerRules.{PeerRules}

-- the callers of a peer stand as the rules say
pub record StandsAt (rules : PeerRules) (peer : SocketAddr) (s : Standing) : Type 0 where
  pub checked : s.is_checked ≡ rules.standing.is_checked
  pub reading : IsTrue s.reads_only ↔ (IsTrue rules.standing.reads_only ⊎ OnlyReads rules.peers (socket_ip peer))
  pub squash : s.squash ≡ squash_at rules (socket_port peer)
  pub anonymous_uid : s.anonymous_uid ≡ rules.standing.anonymous_uid
  pub anonymous_gid : s.anonymous_gid ≡ rules.standing.anonymous_gid
