use Rattle.std.proofs.Common.{sym, ap, ◌∙◌, rules}
use Rattle.engine.specs.counts.Counts.{with_culled}
use Rattle.engine.proofs.counts.Recounted.{changed-is, changed-past}
use Rattle.engine.proofs.counts.carried.count_culled.Goals as goal

pub returns-in-Some : goal.returns-in-Some
returns-in-Some c =
    changed-is (with_culled c.args.count) c.args.counts.now.items c.args.volume c.in-Some.place.now _ c.in-Some.ensures.item.3.0
    ((λ j. record c.in-Some.place.now { dead = c.saturating_sub-place.ensures j }) ∙ ap (with_culled c.args.count) c.in-Some.ensures.value)

pub returns-in_default : goal.returns-in_default
returns-in_default c = sym (changed-past (with_culled c.args.count) c.args.counts.now.items c.args.volume (search rules))
