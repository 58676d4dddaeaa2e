use Rattle.std.proofs.Common.{sym, subst}
use Rattle.stripes.specs.Spans.{IsFirstPast}
use Rattle.stripes.proofs.Cut.{past-from}
use Rattle.stripes.proofs.blocks.first_past.Goals as goal

pub returns : goal.returns
returns c = subst (IsFirstPast c.args.size) (sym c.div_ceil.ensures) (past-from c.args.size)
