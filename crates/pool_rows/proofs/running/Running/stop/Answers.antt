use Rattle.std.proofs.Common.{rules, ◌≡◌, [], ◌∷◌}
use Rattle.std.specs.Arc.{arc_value}
use Rattle.pool_rows.proofs.Wholes.{passes-whole}
use Rattle.pool_rows.proofs.running.Running.stop.Goals as goal

pub stop-left-requires-clause-whole : goal.stop-left-requires-clause-whole
stop-left-requires-clause-whole g c =
    let r = c.self.inside in
    let passes = c.expect-passes.result.items in
    let p : passes ≡ r.reader ∷ [] = search rules in
    passes-whole (arc_value r.filer) r.pool r.reader c.self.invariant passes p
