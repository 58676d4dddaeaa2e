use Rattle.std.proofs.Common.{◌≡◌, map, take, Some}
use Rattle.scheduler.specs.Kept.{present, lines_of}
use Rattle.scheduler.proofs.cells.renumber.Given as goal

abbrev pub invariant-loop-message : goal.invariant-loop-message
invariant-loop-message g l = l.lines ≡ lines_of (map (λ x. Some x) (present (take l.message-index l.messages)))
