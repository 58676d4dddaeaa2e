use Rattle.std.proofs.Common.{◌∙◌, sym, arith}
use Rattle.std.proofs.lemmas.List.{append-nil}
use Rattle.directories.specs.Entries.{listed}
use Rattle.directories.specs.Slots.{in_order}
use Rattle.directories.proofs.Pages.{run-filled, run-next, run-fits, run-longer, last-page, on-error}
use Rattle.directories.proofs.Slots.{length-order}
use Rattle.directories.proofs.entries.append_fitting.Goals as goal

pub copy_run-requires : goal.copy_run-requires
copy_run-requires c =
    run-filled c.args.slots.now c.args.order.now c.run_at-run.result.now c.loop-position.position c.requires c.run_at-run.ensures.run

pub returns-in_err-rest-clause-err : goal.returns-in_err-rest-clause-err
returns-in_err-rest-clause-err c =
    on-error c.from_residual.result
    (run-fits c.args.copied.now.items c.loop-position.copied.items c.loop-position.left c.loop-position.position c.args.slots.now c.args.order.now
    c.run_at-run.result.now _ c.loop-position.invariant.so_far c.loop-position.invariant.longer c.run_at-run.ensures.run c.in_err-rest.ensures.err)

pub returns-in-None-clause-ok : goal.returns-in-None-clause-ok
returns-in-None-clause-ok c =
    sym (append-nil (listed c.copy_run.new.copied.items))
    ∙ rw c.in-None.is at (run-next c.loop-position.copied.items c.copy_run.new.copied.items c.loop-position.left c.loop-position.position c.in_ok-rest.field-0
    c.args.slots.now c.args.order.now c.run_at-run.result.now _ c.loop-position.invariant.so_far c.run_at-run.ensures.run c.in_ok-rest.ensures.ok)

pub loop-position-preserved : goal.loop-position-preserved
loop-position-preserved c = record {
  so_far = rw c.in-Some.is at (run-next c.loop-position.copied.items c.copy_run.new.copied.items c.loop-position.left c.loop-position.position
      c.in_ok-rest.field-0 c.args.slots.now c.args.order.now c.run_at-run.result.now _ c.loop-position.invariant.so_far c.run_at-run.ensures.run
      c.in_ok-rest.ensures.ok);
  longer = run-longer c.args.copied.now.items c.loop-position.copied.items c.copy_run.new.copied.items c.loop-position.left c.in_ok-rest.field-0
      (in_order c.args.slots.now c.run_at-run.result.now) c.loop-position.invariant.longer c.in_ok-rest.ensures.ok;
}

pub returns-clause-ok : goal.returns-clause-ok
returns-clause-ok c =
    let n = length-order c.args.slots.now c.args.order.now in
    last-page c.loop-position.copied.items c.loop-position.left c.loop-position.position (in_order c.args.slots.now c.args.order.now) _
    c.loop-position.invariant.so_far (omega (arith, n, c.loop-position-test.false))
