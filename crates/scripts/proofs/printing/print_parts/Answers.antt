use Rattle.std.proofs.Common.{append_assoc}
use Rattle.scripts.proofs.printing.print_parts.Goals as goal

pub returns-clause-line : goal.returns-clause-line
returns-clause-line g c = simp append_assoc (simp append_assoc at c.say.ensures.line)
