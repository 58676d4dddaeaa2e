-- what is printed are the numbers before the next
use Rattle.std.proofs.Common.{take}
use Rattle.std.specs.Io.KnownBytes.{Appends}
use Rattle.scripts.specs.Lines.{spaced}
use Rattle.scripts.proofs.printing.print_numbers.Given as goal

abbrev pub invariant-loop-number : goal.invariant-loop-number
invariant-loop-number g l =
    Appends (g.W.Write.contents l.fn.out) (g.W.Write.contents l.out)
    (spaced (take l.number-index l.numbers))
