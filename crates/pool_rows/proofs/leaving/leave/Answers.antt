use Rattle.std.proofs.Common.{rules, ◌≡◌, [], ◌∷◌}
use Rattle.pool_rows.proofs.Wholes.{alone-all}
use Rattle.pool_rows.proofs.leaving.leave.Goals as goal

pub gather-requires-clause-whole : goal.gather-requires-clause-whole
gather-requires-clause-whole g c =
    let workers = c.expect-workers.result.items in
    let passes = c.expect-passes.result.items in
    let w : workers ≡ c.args.worker ∷ [] = search rules in
    let p : passes ≡ c.args.reader ∷ [] = search rules in
    alone-all c.args.filer.now c.args.worker c.args.reader c.requires workers passes w p
