-- Network identifiers and universal addresses (RFC 1833 section 2.1, RFC 5665 sections 5.2.3.3, 5.2.3.4 and 5.2.4).
use Rattle.std.specs.Prelude.{ℕ, ◌/◌, ◌%◌, Bool, List, ◌++◌, ◌&&◌, Option, Some, None, find, codes, decimal, bytes_eq}
use Rattle.std.specs.declared.net.ip_addr.IpAddr.{IpAddr}
use Rattle.std.specs.declared.net.ip_addr.IpAddr.TheVariants.{V4, V6}
use Rattle.std.specs.Net.Text.{ip_text}
use Rattle.port_mapper.specs.declared.registration.Protocol.{Protocol}
use Rattle.port_mapper.specs.declared.registration.Protocol.TheVariants.{Tcp, Udp}
use Rattle.port_mapper.specs.declared.registration.Registration.{Registration}
use Rattle.port_mapper.specs.Registered.{is_version}

-- the network identifier of a protocol, for addresses of the family of this one
abbrev pub netid_of : Protocol → IpAddr → List ℕ
netid_of Tcp (V4 a) = codes "tcp"
netid_of Tcp (V6 a) = codes "tcp6"
netid_of Udp (V4 a) = codes "udp"
netid_of Udp (V6 a) = codes "udp6"

-- The universal address of a port at an address: the address as text, and the two bytes of the port, the higher first.
abbrev pub universal : IpAddr → ℕ → List ℕ
universal address port = ip_text address ++ (codes "." ++ decimal (port / 256) ++ codes "." ++ decimal (port % 256))

-- it is this version of this program by this network identifier, for a client that reached this address
abbrev pub is_binding : IpAddr → ℕ → ℕ → List ℕ → Registration → Bool
is_binding reached program version netid r = is_version program version r && bytes_eq (netid_of r.protocol reached) netid

-- its port
abbrev pub some_port : Option Registration → Option ℕ
some_port (Some r) = Some r.port
some_port None = None

-- where a version of a program is registered by a network identifier, its port
abbrev pub bound_port : List Registration → IpAddr → ℕ → ℕ → List ℕ → Option ℕ
bound_port registered reached program version netid = some_port (find (is_binding reached program version netid) registered)
