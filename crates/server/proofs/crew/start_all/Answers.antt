use Rattle.std.proofs.Common.{◌∙◌, ap, arith}
use Rattle.depot_rule.specs.Sums.{total}
use Rattle.lanes.specs.Words.{filer_in}
use Rattle.filer_lanes.specs.Lanes.{by_identity, seats_of}
use Rattle.server.specs.Threads.{identity_for, identity_with, seats_for, seats_with, IsTaskFor, ServesFor}
use Rattle.tends.proofs.Lists.{none-left}
use Rattle.tends.proofs.Handed.{handed, all-pushed, all-popped}
use Rattle.server.proofs.crew.start_all.Goals as goal

pub loop-task-preserved : goal.loop-task-preserved
loop-task-preserved g c =
    let i = c.loop-task.invariant in
    let x = c.in-Some.task in
    let t = c.in-Ok.thread in
    let all = c.loop-task.tasks.items in
    let rest = c.pop.new.self.items in
    let ts = c.loop-task.threads.items in
    let us = c.push_reserved.new.self.items in
    let was = c.in-Some.ensures.items in
    let is = c.push_reserved.ensures.items in
    let same = c.in-Ok.ensures in
    let a = c.push_reserved.ensures.len in
    let b = c.push_reserved.ensures.capacity in
    let l = c.in-Some.ensures.len in
    let r = i.room in
    let n = i.len in
    record {
      room = omega (arith, a, b, l, r);
      serve = λ filer tasks serves.
          let both = i.serve filer tasks serves in
          let popped = all-popped (IsTaskFor filer) all rest x was both.0 in
          (popped.0, all-pushed (ServesFor filer) ts us t is both.1 (ap filer_in same ∙ popped.1));
      len = omega (arith, a, l, n);
      seats = handed seats_with seats_for ts us all rest t x is was (ap seats_of same) ∙ i.seats;
      each = λ weigh. handed (identity_with weigh) (identity_for weigh) ts us all rest t x is was (ap (by_identity weigh) same) ∙ i.each weigh;
    }

pub returns-in-Err-clause-serve : goal.returns-in-Err-clause-serve
returns-in-Err-clause-serve g c filer tasks serves = (c.loop-task.invariant.serve filer tasks serves).1

pub returns-clause-serve : goal.returns-clause-serve
returns-clause-serve g c filer tasks serves = (c.loop-task.invariant.serve filer tasks serves).1

pub returns-clause-seats : goal.returns-clause-seats
returns-clause-seats g c all =
    let none = ap (total seats_for) (none-left c.loop-task.tasks.items (let z = c.in_default.ensures.cases.0 in let o = c.loop-task.tasks.ok.0 in
    omega (arith, z, o))) in
    let s = c.loop-task.invariant.seats in
    omega (arith, none, s)

pub returns-clause-each : goal.returns-clause-each
returns-clause-each g c all weigh =
    let none = ap (total (identity_for weigh)) (none-left c.loop-task.tasks.items (let z = c.in_default.ensures.cases.0 in let o = c.loop-task.tasks.ok.0 in
    omega (arith, z, o))) in
    let s = c.loop-task.invariant.each weigh in
    omega (arith, none, s)
