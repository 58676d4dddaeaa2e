use Rattle.std.proofs.Common.{◌∙◌, ap, sym, Some}
use Rattle.std.specs.Option.{option_map}
use Rattle.stripes.specs.Spans.{renumbered}
use Rattle.stripes.proofs.span.number_in.Goals as goal

pub returns-in-Some : goal.returns-in-Some
returns-in-Some c = let change = renumbered c.args.number.0 in ap Some c.set_number.ensures ∙ sym (ap (option_map change) c.in-Some.is)
