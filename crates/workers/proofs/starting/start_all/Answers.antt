use Rattle.std.proofs.Common.{◌∙◌, ap, arith, subst}
use Rattle.std.specs.Arc.{arc_value}
use Rattle.workers.specs.Threads.{lent_share_with, started_with, PutsInto, ServesIn}
use Rattle.workers.specs.declared.pool_worker.PoolWorker.{PoolWorker}
use Rattle.tends.proofs.Handed.{handed, all-pushed, all-popped}
use Rattle.workers.proofs.Lending.{lent-halves}
use Rattle.tends.proofs.Lists.{total-last}
use Rattle.granted_calls.specs.declared.shared_outboxes.SharedOutboxes.{SharedOutboxes}
use Rattle.granted_calls.specs.SharedOutboxes.{Lent, IsOf}
use Rattle.turns.specs.Words.{IsIn}
use Rattle.granted_calls.specs.shared_waiting.Balance.{part}
use Rattle.granted_calls.specs.shared_waiting.Passes.{known}
use Rattle.workers.proofs.starting.start_all.Goals as goal

pub loop-worker-preserved : goal.loop-worker-preserved
loop-worker-preserved g c =
    let i = c.loop-worker.invariant in
    let filer = arc_value c.args.commons.now.filer in
    let outboxes = arc_value c.args.commons.now.outboxes in
    let x = c.in-Some.worker in
    let t = c.in-Ok.thread in
    let all = c.loop-worker.workers.items in
    let rest = c.pop.new.self.items in
    let ts = c.loop-worker.threads.items in
    let us = c.push_reserved.new.self.items in
    let was = c.in-Some.ensures.items in
    let is = c.push_reserved.ensures.items in
    let work = c.in-Ok.ensures.work in
    let s = c.split_pass-rest in
    let a = c.push_reserved.ensures.len in
    let b = c.push_reserved.ensures.capacity in
    let l = c.in-Some.ensures.len in
    let m = c.in-Some.ensures.capacity in
    let r = i.room in
    let n = i.len in
    let k = i.back in
    let h = ap (λ (v : Lent). v.halvings) s.ensures.first in
    let j = i.halvings in
    record {
      inside = (all-popped (IsIn filer) all rest x was i.inside).0;
      of = subst (λ (o : SharedOutboxes). IsOf o s.result.0) c.deref.ensures s.ensures.of.0;
      serve = all-pushed (ServesIn filer) ts us t is i.serve c.in-Ok.ensures.serve;
      put = all-pushed (PutsInto outboxes) ts us t is i.put c.in-Ok.ensures.put;
      room = omega (arith, a, b, l, r);
      len = omega (arith, a, l, n);
      back = omega (arith, m, k);
      each = λ f. handed (λ t. f (started_with t)) f ts us all rest t x is was (ap (λ (w : PoolWorker). f w.worker) work) ∙ i.each f;
      halvings = omega (arith, h, j, l);
      lent = λ k le.
          let p = lent-halves k (known c.loop-worker.pass) (known s.result.0) (known s.result.1) s.ensures.first s.ensures.second
          (omega (arith, h, le)) in
          let q = total-last (lent_share_with k) us ts t is in
          let o = ap (λ (w : PoolWorker). part k (known w.pass)) work in
          let e = i.lent k (omega (arith, h, le)) in
          omega (arith, p, q, o, e);
    }
