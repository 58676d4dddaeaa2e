use Rattle.std.proofs.Common.{◌<◌, ◌≤◌, length, arith}
use Rattle.affinity.specs.Layout.{layout_of}
use Rattle.engine.proofs.counts.Opened.{opened-more, opened-all}
use Rattle.engine.proofs.counts.opening.opening_counts.Goals as goal

pub loop-volume-preserved : goal.loop-volume-preserved
loop-volume-preserved c =
    let less : c.loop-volume.volume < length (layout_of c.args.layout.now).volumes =
    (let test = c.loop-volume-test.true in let count = c.volume_count-count.ensures.count in omega (arith, test, count)) in
    opened-more (layout_of c.args.layout.now).volumes c.loop-volume.volume c.loop-volume.counts.items _ c.total_at.result less c.loop-volume.invariant
    c.in_ok-push.ensures.items c.total_at.ensures

pub returns : goal.returns
returns c = λ verifier.
    let past : length (layout_of c.args.layout.now).volumes ≤ c.loop-volume.volume =
    (let test = c.loop-volume-test.false in let count = c.volume_count-count.ensures.count in omega (arith, test, count)) in
    opened-all verifier (layout_of c.args.layout.now).volumes c.loop-volume.volume c.loop-volume.counts.items past c.loop-volume.invariant
