-- the pass reads on
use Rattle.pool_rows.specs.Threads.{HasPut}
use Rattle.pool_rows.proofs.putting.put_all.Given as goal

abbrev pub invariant-loop-xid : goal.invariant-loop-xid
invariant-loop-xid g l = HasPut l.fn.filer l.fn.pass l.pass
