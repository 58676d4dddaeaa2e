use Rattle.std.proofs.Common.{ap}
use Rattle.std.specs.Vec.{with_item}
use Rattle.engine.specs.declared.worker.Worker.{Worker}
use Rattle.engine.specs.declared.worker.WorkerRun.{WorkerRun}
use Rattle.engine.specs.Workers.{worker_with}
use Rattle.engine.proofs.Workers.{index-found}
use Rattle.engine.proofs.worker.set_run.Goals as goal

pub returns : goal.returns
returns c =
    let k : Worker = c.index_mut.result.now in
    let ws = c.args.workers.now in (
      k.run,
      k.hand,
      index-found ws c.args.worker k c.requires c.index_mut.ensures.value,
      ap
          (λ (r : WorkerRun). with_item ws c.args.worker (worker_with r k.hand)) c.replace.ensures.after,
    )
