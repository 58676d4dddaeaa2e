use Rattle.std.proofs.Common.{rules, ◌≡◌, ap, ◌∙◌, arith, subst, sym, length}
use Rattle.depot_rule.specs.Sums.{total}
use Rattle.granted_calls.specs.shared_waiting.Balance.{IsWhole}
use Rattle.granted_calls.specs.shared_waiting.Passes.{known}
use Rattle.granted_calls.specs.Balance.{Passed}
use Rattle.tends.proofs.Drained.{counted, more, one-more, all-picked, nothing-waits}
use Rattle.tends.proofs.draining.drain_behind.Goals as goal

pub loop-init : goal.loop-init
loop-init g c =
    let same = c.count-most.ensures.same.1 in
    let p = ap (λ (u : Passed). length u.picked) same in
    record {
      of = c.count-most.ensures.same.0;
      whole = subst (λ (u : Passed). IsWhole u) (sym same) c.requires.whole;
      wide = c.requires.room;
      room = search rules;
      most = c.count-most.ensures.most;
      counted = counted (known c.args.pass) (known c.count-most.new.pass) c.count-most.result same c.requires.whole c.count-most.ensures.held;
      count = omega arith;
      picked = omega (arith, p);
      put = ap (λ (u : Passed). u.put) same;
      taken = λ weigh. let a = ap (λ (u : Passed). total weigh u.picked) same in omega (arith, a);
    }

pub loop-preserved : goal.loop-preserved
loop-preserved g c =
    let i = c.loop.invariant in
    let v = known c.loop.pass in
    let w = known c.pick.new.pass in
    let x = c.in-Some.message in
    let took = c.in-Some.ensures.rule.0 in
    record {
      of = c.pick.ensures.of;
      whole = subst (λ (u : Passed). IsWhole u) (sym took) i.whole;
      wide = let a = c.push_reserved.ensures.capacity in let b = i.wide in omega (arith, a, b);
      room = c.push_reserved.ensures.capacity ∙ i.room;
      most = i.most;
      counted = i.counted;
      count = let a = c.push_reserved.ensures.len in let b = i.count in omega (arith, a, b);
      picked = let a = one-more v w x took in let b = i.picked in omega (arith, a, b);
      put = ap (λ (u : Passed). u.put) took ∙ i.put;
      taken = λ weigh. more weigh v w x c.loop.into.items c.push_reserved.new.self.items (total weigh c.args.into.items)
          (total weigh (known c.args.pass).picked) took (i.taken weigh) c.push_reserved.ensures.items;
    }

pub returns-clause-all : goal.returns-clause-all
returns-clause-all g c weigh =
    let i = c.loop.invariant in
    let all : c.loop.counter ≡ c.count-most.result = search rules in
    let n = i.picked in
    let none = nothing-waits (known c.args.pass) (known c.loop.pass) c.count-most.result c.look.ensures.held.0 i.whole c.look.ensures.held.1
    i.counted i.put (omega (arith, n, all)) in
    all-picked weigh (known c.args.pass) (known c.loop.pass) c.args.into.items c.loop.into.items i.whole none i.put (i.taken weigh)
