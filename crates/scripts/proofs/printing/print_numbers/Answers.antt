use Rattle.scripts.specs.Lines.{spaced}
use Rattle.scripts.proofs.Appended.{Appends-none, Appends-more, spaced-more}
use Rattle.scripts.proofs.printing.print_numbers.Goals as goal

pub loop-number-init : goal.loop-number-init
unfolding spaced
loop-number-init g c = Appends-none _

pub loop-number-preserved : goal.loop-number-preserved
loop-number-preserved g c =
    rw (spaced-more _ _ c.loop-number-test.true)
    at (Appends-more _ _ _ _ _ c.loop-number.invariant c.in_ok-print_number.ensures.digits)
