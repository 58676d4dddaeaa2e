use Rattle.std.proofs.Common.{◌<◌, length, arith}
use Rattle.service_names.proofs.Freed.{first-number, rest-numbers, all-marked, fewer-left, none-marked, none-fewer}
use Rattle.service_names.proofs.cutting.+mark_all.Goals as goal

pub returns-in_default-clause-left : goal.returns-in_default-clause-left
returns-in_default-clause-left t c = none-fewer c.args.blocks.now c.args.filled c.in_default.ensures.cases

pub returns-in_default-clause-dead : goal.returns-in_default-clause-dead
returns-in_default-clause-dead t c = none-marked c.args.blocks.now c.args.dead.now c.in_default.ensures.cases

pub mark-requires : goal.mark-requires
mark-requires t c =
    first-number c.in-Some.number.now c.args.blocks.now c.in-Some.rest.now c.in-Some.ensures.cases.0 c.args.dead.now.range_blocks c.requires

pub mark_all-requires : goal.mark_all-requires
mark_all-requires t c =
    let cases = c.in-Some.ensures.cases in (
      (let long = cases.1 in let down = c.decreases in let less : length c.in-Some.rest.now < t = omega (arith, long, down) in less),
      rest-numbers c.in-Some.number.now c.args.blocks.now c.in-Some.rest.now cases.0 c.args.dead.now c.mark.new.self c.mark.ensures c.requires,
    )

pub returns-clause-left : goal.returns-clause-left
returns-clause-left t c =
    fewer-left c.in-Some.number.now c.args.blocks.now c.in-Some.rest.now c.in-Some.ensures.cases.0 c.args.filled c.saturating_sub.result
    c.mark_all.result c.saturating_sub.ensures c.mark_all.ensures.left

pub returns-clause-dead : goal.returns-clause-dead
returns-clause-dead t c =
    all-marked c.in-Some.number.now c.args.blocks.now c.in-Some.rest.now c.in-Some.ensures.cases.0 c.args.dead.now c.mark.new.self
    c.mark_all.new.dead c.mark.ensures c.mark_all.ensures.dead
