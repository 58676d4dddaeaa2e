use Rattle.std.proofs.Common.{length, sym, ap, ◌∙◌}
use Rattle.nfs_model.specs.Parts.{hand_blocks}
use Rattle.engine.specs.declared.worker.Worker.{Worker}
use Rattle.engine.proofs.Counted.{carried-more, carried-all}
use Rattle.engine.proofs.counting.carried.Goals as goal

pub loop-at-preserved : goal.loop-at-preserved
loop-at-preserved c =
    carried-more c.args.volume c.args.workers.now c.loop-at.at c.loop-at.carried c.carried_in-carried.result c.index-workers-at.result c.loop-at-test.true
    c.index-workers-at.is c.loop-at.invariant
    (c.carried_in-carried.ensures.count ∙ ap (λ (k : Worker). length (hand_blocks c.args.volume k.hand)) (sym c.index-workers-at.is))
    c.carried_in-carried.ensures.few

pub returns : goal.returns
returns c =
    carried-all c.args.volume c.args.workers.now c.loop-at.at c.loop-at.carried c.loop-at-test.false c.loop-at.invariant
