use Rattle.std.proofs.Common.{ap, arith, sym, subst}
use Rattle.std.proofs.lemmas.List.Elements.{All-nil}
use Rattle.std.specs.Prelude.{All}
use Rattle.std.specs.Arc.{arc_value}
use Rattle.depot_rule.specs.Sums.{total}
use Rattle.tends.specs.Gathered.{IsLeftOf}
use Rattle.tends.specs.Shares.{share_of}
use Rattle.turns.specs.Words.{seats_in, IsIn}
use Rattle.granted_calls.specs.shared_waiting.Passes.{IsOf}
use Rattle.granted_calls.specs.declared.shared.Filer.{Filer}
use Rattle.workers.proofs.pool.Pool.stop.Goals as goal

pub gather-requires-clause-workers : goal.gather-requires-clause-workers
gather-requires-clause-workers g c =
    let pool = c.args.self in
    let f = arc_value pool.filer in
    subst (λ (x : Filer). All (IsIn x) c.collect-workers.result.0.items) (sym c.deref-3.ensures)
    (c.collect-workers.ensures.inside f pool.serve (subst (All (IsIn f)) (sym pool.none_back) (All-nil (IsIn f))))

pub gather-requires-clause-passes : goal.gather-requires-clause-passes
gather-requires-clause-passes g c =
    subst (λ (x : Filer). All (IsOf x.waiting) c.args.passes.items) (sym c.deref-3.ensures) c.requires.passes

pub gather-requires-clause-seats : goal.gather-requires-clause-seats
gather-requires-clause-seats g c =
    let a = c.collect-workers.ensures.seats in
    let b = ap (total seats_in) c.args.self.none_back in
    let s = c.args.self.seats in
    omega (arith, a, b, s)

pub gather-requires-clause-whole : goal.gather-requires-clause-whole
gather-requires-clause-whole g c = (
  c.requires.whole.0,
  λ k le.
      let a = c.collect-workers.ensures.share k in
      let b = ap (total (share_of k)) c.args.self.none_back in
      let w = c.requires.whole.1 k le in
      omega (arith, a, b, w),
)

pub returns-clause-left : goal.returns-clause-left
returns-clause-left g c = subst (λ (x : Filer). IsLeftOf x c.gather.result) c.deref-3.ensures c.gather.ensures.left
