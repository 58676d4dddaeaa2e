-- Addresses and ports as one number.
use Rattle.std.proofs.Common.{◌≡◌, ℕ, ◌+◌, ◌*◌, ◌%◌, ◌<◌, ◌^◌, arith}
use Rattle.std.specs.Prelude.{◌==◌, ◌&&◌}
use Rattle.std.proofs.lemmas.Bool.Decides.{nat_tests}

pub port_of_peer : (address port : ℕ) → port < 2 ^ 16 → (address * 65536 + port) % 65536 ≡ port
port_of_peer address port small = omega (arith, small)

pub same_peers : (address port other second : ℕ) → port < 2 ^ 16 → second < 2 ^ 16
    → ((address == other) && (port == second)) ≡ (address * 65536 + port == other * 65536 + second)
same_peers address port other second small also = grind (arith, nat_tests, small, also)
