use Rattle.std.proofs.Common.{subst}
use Rattle.granted_calls.specs.declared.shared.Filer.{Filer}
use Rattle.pool_rows.specs.Threads.{IsReaderOf}
use Rattle.pool_rows.proofs.running.Running.put.Goals as goal

pub invariant_of-self : goal.invariant_of-self
invariant_of-self g c =
    let r = c.self.invariant in
    record {
      same = r.same;
      level = r.level;
      half = r.half;
      one = subst (λ (f : Filer). IsReaderOf f c.put.new.pass) c.deref.ensures c.put.ensures.reader;
      other = c.put.ensures.half r.other;
    }
