-- what was read are the digits of the number
use Rattle.std.proofs.Common.{◌≡◌, ◌+◌, take}
use Rattle.std.specs.Fmt.{decimal}
use Rattle.scripts.proofs.script.word.decimal_value.Given as goal

abbrev pub invariant-loop-next : goal.invariant-loop-next
invariant-loop-next l = take (l.next-index + 1) l.fn.digits ≡ decimal l.number
