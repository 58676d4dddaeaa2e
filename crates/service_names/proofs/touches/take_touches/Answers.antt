use Rattle.std.proofs.Common.{arith, rules, refl, ◌≡◌, length}
use Rattle.std.specs.Option.{option_map}
use Rattle.nfs_values.specs.Moment.{moment_of}
use Rattle.service_names.proofs.Taking.{place-taken, all-taken}
use Rattle.service_names.proofs.touches.take_touches.Goals as goal

pub loop-left-preserved : goal.loop-left-preserved
loop-left-preserved c = (
  (let below = c.loop-left.invariant.0 in omega arith),
  c.loop-left.invariant.1,
  place-taken c.args.fileid.0 c.args.held.now.own.stripes c.args.held.now.stripes.at c.loop-left.left (option_map moment_of c.loop-left.touch) _
      (option_map moment_of c.later-touch.result) c.loop-left.held.stripes.at _ _ _
      c.loop-left-test.true c.loop-left.invariant.0
      (let few = c.requires.few in let long : length c.loop-left.held.stripes.at ≡ 16 = search rules in omega arith) refl
      c.take_touch.ensures.touch c.take_touch.ensures.taken c.take_touch.ensures.alike c.later-touch.ensures c.loop-left.invariant.2,
)

pub returns-clause-latest : goal.returns-clause-latest
returns-clause-latest c =
    let done = c.loop-left-test.false in
    (all-taken c.args.fileid.0 c.args.held.now.own.stripes c.args.held.now.stripes.at c.loop-left.left (option_map moment_of c.loop-left.touch)
    c.loop-left.held.stripes.at (omega arith) c.loop-left.invariant.2).0

pub returns-clause-taken : goal.returns-clause-taken
returns-clause-taken c =
    let done = c.loop-left-test.false in
    (all-taken c.args.fileid.0 c.args.held.now.own.stripes c.args.held.now.stripes.at c.loop-left.left (option_map moment_of c.loop-left.touch)
    c.loop-left.held.stripes.at (omega arith) c.loop-left.invariant.2).1
