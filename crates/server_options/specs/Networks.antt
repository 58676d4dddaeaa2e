-- Which addresses a network has (RFC 4632 section 3.1; of IPv6 RFC 4291 sections 2.3 and 2.5.5.2).
use Rattle.std.specs.Prelude.{◌≡◌, ℕ, ◌-◌, ◌/◌, ◌%◌, ◌^◌}
use Rattle.std.specs.Net.Addr.{ipv4_bits, ipv6_bits}
use Rattle.std.specs.declared.net.ip_addr.IpAddr.{IpAddr}
use Rattle.std.specs.declared.net.ip_addr.IpAddr.TheVariants.{V4, V6}

-- how many bits an address has
abbrev pub width_of : IpAddr → ℕ
width_of (V4 ip) = 32
width_of (V6 ip) = 128

-- of two numbers of this many bits the first are the same, the highest first
abbrev pub Agree : ℕ → ℕ → ℕ → ℕ → Type 0
Agree width bits a b = a / 2 ^ (width - bits) ≡ b / 2 ^ (width - bits)

-- a number of 128 bits is an IPv4 address in IPv6's form, ::ffff:a.b.c.d
abbrev pub IsMapped : ℕ → Type 0
IsMapped number = number / 2 ^ 32 ≡ 65535

-- the IPv4 address in it, as a number of 32 bits
abbrev pub mapped_in : ℕ → ℕ
mapped_in number = number % 2 ^ 32

-- An address is of the kind of a network's, and has its first bits. One that is an IPv4 address in IPv6's form is taken for that IPv4 address.
abbrev pub IsIn : IpAddr → ℕ → IpAddr → Type 0
IsIn (V4 own) bits (V4 other) = Agree 32 bits (ipv4_bits own) (ipv4_bits other)
IsIn (V4 own) bits (V6 other) = IsMapped (ipv6_bits other) × Agree 32 bits (ipv4_bits own) (mapped_in (ipv6_bits other))
IsIn (V6 own) bits (V6 other) = (IsMapped (ipv6_bits other) → ⊥) × Agree 128 bits (ipv6_bits own) (ipv6_bits other)
IsIn (V6 own) bits (V4 other) = ⊥
