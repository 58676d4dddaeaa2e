-- the worker works on
use Rattle.pool_rows.specs.Threads.{IsStill}
use Rattle.pool_rows.proofs.beside.serve.Given as goal

abbrev pub invariant-loop : goal.invariant-loop
invariant-loop g l = IsStill l.fn.filer l.fn.worker l.worker
