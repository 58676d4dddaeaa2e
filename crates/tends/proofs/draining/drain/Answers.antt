use Rattle.std.proofs.Common.{ap, arith}
use Rattle.depot_rule.specs.Sums.{total}
use Rattle.tends.proofs.draining.drain.Goals as goal

pub returns : goal.returns
returns g c weigh =
    let a = c.drain_behind.ensures.all weigh in
    let b = ap (total weigh) c.requires.empty in
    omega (arith, a, b)
