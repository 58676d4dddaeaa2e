-- what is printed are the digits of the bytes before the rest
use Rattle.std.proofs.Common.{◌≡◌, ℕ, List, ◌++◌, length}
use Rattle.std.specs.Io.KnownBytes.{Appends}
use Rattle.hex.specs.Hex.{encode_lower}
use Rattle.scripts.proofs.printing.print_hex.Given as goal

abbrev pub invariant-loop-rest : goal.invariant-loop-rest
invariant-loop-rest g l =
    (printed : List ℕ) × (printed ++ l.rest ≡ l.bytes)
    × Appends (g.W.Write.contents l.fn.out) (g.W.Write.contents l.out) (encode_lower printed)

abbrev pub decreases-loop-rest : goal.decreases-loop-rest
decreases-loop-rest g l = length l.rest
