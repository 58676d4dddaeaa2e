use Rattle.std.proofs.Common.{◌≡◌, length, refl, ap, ◌∙◌, arith, rules}
use Rattle.affinity.specs.Layout.{layout_of}
use Rattle.engine.specs.counts.Counts.{recounted, in_whole}
use Rattle.engine.proofs.counts.Recounted.{recounted-more}
use Rattle.engine.proofs.counts.counting.recount_all.Goals as goal

pub loop-volume-init : goal.loop-volume-init
loop-volume-init c = search rules

pub loop-volume-preserved : goal.loop-volume-preserved
loop-volume-preserved c =
    recounted-more (in_whole (layout_of c.args.layout.now) c.args.held.now) c.loop-volume.volume c.args.counts.now.items c.loop-volume.counts.items _
    c.index_mut.result.now c.count_in_whole.result c.loop-volume.invariant
    (c.count_in_whole.ensures) refl

pub returns : goal.returns
returns c =
    let all : c.loop-volume.volume ≡ length (layout_of c.args.layout.now).volumes =
    (let past = c.loop-volume-test.false in let most = c.loop-volume.auto.volume-end in let count = c.volume_count-volume-end.ensures.count in
    omega (arith, past, most, count)) in
    c.loop-volume.invariant
    ∙ ap (λ n. recounted (in_whole (layout_of c.args.layout.now) c.args.held.now) 0 n c.args.counts.now.items) all
