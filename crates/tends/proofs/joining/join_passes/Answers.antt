use Rattle.std.proofs.Common.{rules, ap, arith}
use Rattle.depot_rule.specs.Sums.{total}
use Rattle.granted_calls.specs.shared_waiting.Passes.{known, IsOf}
use Rattle.tends.specs.Shares.{put_by, picked_by}
use Rattle.tends.proofs.Lists.{all-popped, none-left, total-last}
use Rattle.tends.proofs.Sharing.{share-pass, whole-at-last, put-both, picked-both}
use Rattle.tends.proofs.joining.join_passes.Goals as goal

pub join_pass-pass-requires : goal.join_pass-pass-requires
join_pass-pass-requires c =
    let i = c.loop-next.invariant in (
      i.of,
      (all-popped (IsOf c.args.waiting.now) c.loop-next.passes.items c.pop.new.self.items c.in-Some.next c.in-Some.ensures.items i.each).1,
    )

pub loop-next-preserved : goal.loop-next-preserved
loop-next-preserved c =
    let i = c.loop-next.invariant in
    let p = c.loop-next.pass in
    let x = c.in-Some.next in
    let r = c.join_pass-pass.result in
    let is = c.in-Some.ensures.items in
    let all = c.loop-next.passes.items in
    let rest = c.pop.new.self.items in
    let joins = c.join_pass-pass.ensures.both in
    record {
      of = c.join_pass-pass.ensures.of;
      each = (all-popped (IsOf c.args.waiting.now) all rest x is i.each).0;
      put = λ weight.
          let a = total-last (put_by weight) all rest x is in
          let b = put-both weight p x r joins in
          let s = i.put weight in
          omega (arith, a, b, s);
      picked = λ weight.
          let a = total-last (picked_by weight) all rest x is in
          let b = picked-both weight p x r joins in
          let s = i.picked weight in
          omega (arith, a, b, s);
      share = λ given. share-pass (known p) (known r) x all rest is joins (i.share given);
    }

pub returns-clause-share : goal.returns-clause-share
returns-clause-share c given =
    whole-at-last (known c.loop-next.pass) c.loop-next.passes.items (none-left c.loop-next.passes.items (search rules))
    (c.loop-next.invariant.share given)

pub returns-clause-put : goal.returns-clause-put
returns-clause-put c weight =
    let none = ap (total (put_by weight)) (none-left c.loop-next.passes.items (search rules)) in
    let s = c.loop-next.invariant.put weight in
    omega (arith, none, s)

pub returns-clause-picked : goal.returns-clause-picked
returns-clause-picked c weight =
    let none = ap (total (picked_by weight)) (none-left c.loop-next.passes.items (search rules)) in
    let s = c.loop-next.invariant.picked weight in
    omega (arith, none, s)
