use Rattle.std.proofs.Common.{arith, rules}
use Rattle.std.specs.Option.{option_map}
use Rattle.nfs_values.specs.Moment.{moment_of}
use Rattle.service_names.proofs.Latest.{touch-place, touch-all}
use Rattle.service_names.proofs.touches.latest_touch.Goals as goal

pub loop-left-preserved : goal.loop-left-preserved
loop-left-preserved c = (
  (let below = c.loop-left.invariant.0 in omega arith),
  touch-place c.args.held.now c.args.fileid.0 c.loop-left.left (option_map moment_of c.loop-left.touch) _ _ _ c.loop-left-test.true c.loop-left.invariant.0
      c.loop-left.invariant.1 (search rules) c.requires.few c.touch_in.ensures c.later-touch.ensures,
)

pub returns : goal.returns
returns c =
    let done = c.loop-left-test.false in
    touch-all c.args.held.now c.args.fileid.0 c.loop-left.left _ (omega arith) c.loop-left.invariant.1
