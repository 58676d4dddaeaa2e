use Rattle.std.proofs.Common.{rules, ◌≡◌, sym, subst}
use Rattle.std.specs.Arc.{arc_value}
use Rattle.depot.specs.Words.{view, splits_left}
use Rattle.depot_rule.specs.History.{entries_of}
use Rattle.granted_calls.specs.declared.shared.Filer.{Filer}
use Rattle.workers.specs.Pools.{filer_of, HasBetween}
use Rattle.pool_rows.specs.Threads.{IsUnstarted}
use Rattle.pool_rows.proofs.Wholes.{running}
use Rattle.pool_rows.proofs.running.start.Goals as goal

pub invariant_of-result : goal.invariant_of-result
invariant_of-result g c =
    let o = c.open-filer.result in
    let filer = arc_value c.expect-filer.result in
    let pool = c.expect.result in
    let here : filer ≡ o.filer = search rules in
    let same : filer_of pool ≡ filer = search rules in
    let between : HasBetween (splits_left o.seat) (entries_of (view o.seat)) o.pass c.args.workers pool = search rules in
    running filer (view o.seat) (splits_left o.seat) o.pass o.reader pool (entries_of (view o.seat)) c.args.workers
    (subst (λ (f : Filer). IsUnstarted f (view o.seat) (splits_left o.seat) o.pass o.reader) (sym here) c.open-filer.ensures.opened) same between
