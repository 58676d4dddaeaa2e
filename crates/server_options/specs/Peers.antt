-- Whose connections are served (our profile).
use Rattle.std.specs.Prelude.{◌≡◌, ℕ, ◌<◌, ◌/◌, ◌^◌, ◌⊎◌, ⊤, false, List, Option, Some, None, Any, IsTrue}
use Rattle.std.specs.Net.Addr.{ipv4_bits, ipv6_bits, IsLoopbackV4, IsLoopbackV6, MatchIp}
use Rattle.std.specs.Net.Socket.{socket_ip, socket_port}
use Rattle.std.specs.declared.net.ipv6_addr.Ipv6Addr.{Ipv6Addr}
use Rattle.std.specs.declared.net.ip_addr.IpAddr.{IpAddr}
use Rattle.std.specs.declared.net.ip_addr.IpAddr.TheVariants.{V4, V6}
use Rattle.std.specs.declared.net.socket_addr.SocketAddr.{SocketAddr}
use Rattle.nfs_values.specs.declared.caller.PeerAddress.{PeerAddress}
use Rattle.server_options.specs.declared.allowed.AllowedNetwork.{AllowedNetwork}
use Rattle.server_options.specs.declared.peers.Peers.{Peers}
use Rattle.server_options.specs.declared.peers.Peers.TheVariants.{All, Loopback, Networks}
use Rattle.server_options.specs.Networks.{mapped_in, width_of, IsIn, IsMapped}

-- it is in a network that was named
abbrev pub IsNamed : IpAddr → Option AllowedNetwork → Type 0
IsNamed address None = ⊥
IsNamed address (Some allowed) = IsIn allowed.network.address allowed.network.bits address

-- an address of the own machine in IPv6: ::1, or one of 127.0.0.0/8 in IPv6's form
abbrev pub IsOwnV6 : Ipv6Addr → Type 0
IsOwnV6 ip = IsLoopbackV6 ip ⊎ (IsMapped (ipv6_bits ip) × (mapped_in (ipv6_bits ip) / 2 ^ 24 ≡ 127))

-- connections from an address are served: everybody's, those of the own machine, or those of some of the networks
abbrev pub Serves : Peers → IpAddr → Type 0
Serves All address = ⊤
Serves Loopback address = MatchIp address IsLoopbackV4 IsOwnV6
Serves (Networks named) address = Any (IsNamed address) named

-- ---- who may change nothing

-- it is in a network whose callers may change things, and which has more bits than this
abbrev pub IsWriterBeyond : IpAddr → ℕ → Option AllowedNetwork → Type 0
IsWriterBeyond address bits None = ⊥
IsWriterBeyond address bits (Some allowed) = (allowed.reads_only ≡ false) × (bits < allowed.network.bits) × IsNamed address (Some allowed)

-- by one of these networks its callers may change nothing: it is in that one, and in none of more bits whose callers may
abbrev pub ReadsBy : IpAddr → List (Option AllowedNetwork) → Option AllowedNetwork → Type 0
ReadsBy address named None = ⊥
ReadsBy address named (Some allowed) =
    IsTrue allowed.reads_only × IsNamed address (Some allowed) × (Any (IsWriterBeyond address allowed.network.bits) named → ⊥)

-- The callers of an address may change nothing: of the networks that have it, that with the most bits says so, or one of those with as many.
abbrev pub OnlyReads : Peers → IpAddr → Type 0
OnlyReads All address = ⊥
OnlyReads Loopback address = ⊥
OnlyReads (Networks named) address = Any (ReadsBy address named) named

-- ---- who may stop the server

-- An address is of this machine, on whose side a connection has that other one: an address of the own machine, or that very one.
abbrev pub IsHere : IpAddr → IpAddr → Type 0
IsHere own address = Serves Loopback address ⊎ IsIn own (width_of own) address

-- A peer of such a connection may stop the server: this machine, from a port below 1024, which systems give to root alone.
abbrev pub MayStop : IpAddr → SocketAddr → Type 0
MayStop own peer = (socket_port peer < 1024) × IsHere own (socket_ip peer)

-- ---- where calls come from

-- an address is at a number of 128 bits: an IPv4 address at its 32 bits, also in IPv6's form
abbrev pub IsAt : IpAddr → ℕ → Type 0
IsAt (V4 ip) number = number ≡ ipv4_bits ip
IsAt (V6 ip) number = (IsMapped (ipv6_bits ip) × (number ≡ mapped_in (ipv6_bits ip)))
    ⊎ ((IsMapped (ipv6_bits ip) → ⊥) × (number ≡ ipv6_bits ip))

-- the calls of a peer come from there
abbrev pub ComesFrom : SocketAddr → PeerAddress → Type 0
ComesFrom peer from = IsAt (socket_ip peer) from.address × (from.port ≡ socket_port peer)
