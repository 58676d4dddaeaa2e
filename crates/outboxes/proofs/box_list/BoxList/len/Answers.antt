use Rattle.std.proofs.Common.{◌∙◌}
use Rattle.outboxes.proofs.Places.{count}
use Rattle.outboxes.proofs.box_list.BoxList.len.Goals as goal

pub returns : goal.returns
returns c = c.len.ensures ∙ c.self.inside.list.ok.0 ∙ count c.self.inside.list.items c.args.self.now c.self.invariant c.self.view_is
