-- What is registered with a port mapper, and which port is that of a program (RFC 1833 section 3).
use Rattle.std.specs.Prelude.{ℕ, Bool, List, [], ◌∷◌, ◌&&◌, ◌==◌, Option, Some, None, find}
use Rattle.port_mapper.specs.declared.registration.Protocol.{Protocol}
use Rattle.port_mapper.specs.declared.registration.Protocol.TheVariants.{Tcp, Udp}
use Rattle.port_mapper.specs.declared.registration.Registration.{Registration}

-- IPPROTO_TCP and IPPROTO_UDP (section 3.1)
abbrev pub number_of : Protocol → ℕ
number_of Tcp = 6
number_of Udp = 17

-- a version of a program over a protocol, at a port
abbrev pub at_port : ℕ → ℕ → Protocol → ℕ → Registration
at_port program version protocol port = record { program = program; version = version; protocol = protocol; port = port }

-- What is registered beside a server of NFS version 3 and MOUNT version 3 at a port of TCP: the port mapper itself, in its
-- versions 4, 3 and 2, at port 111 of TCP and of UDP; and the server's two programs.
abbrev pub beside : ℕ → List Registration
beside port =
    at_port 100000 4 Tcp 111 ∷ at_port 100000 3 Tcp 111 ∷ at_port 100000 2 Tcp 111
    ∷ at_port 100000 4 Udp 111 ∷ at_port 100000 3 Udp 111 ∷ at_port 100000 2 Udp 111
    ∷ at_port 100003 3 Tcp port ∷ at_port 100005 3 Tcp port ∷ []

-- it is this version of this program
abbrev pub is_version : ℕ → ℕ → Registration → Bool
is_version program version r = (r.program == program) && (r.version == version)

-- it is this version of this program over the protocol of this number
abbrev pub is_mapping : ℕ → ℕ → ℕ → Registration → Bool
is_mapping program version protocol r = is_version program version r && (number_of r.protocol == protocol)

-- its port, or 0 where there is none
abbrev pub port_in : Option Registration → ℕ
port_in (Some r) = r.port
port_in None = 0

-- PMAPPROC_GETPORT (section 3.2): the port of a version of a program over a protocol, or 0 where it isn't registered
abbrev pub port_of : List Registration → ℕ → ℕ → ℕ → ℕ
port_of registered program version protocol = port_in (find (is_mapping program version protocol) registered)
