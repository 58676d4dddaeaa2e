use Rattle.std.proofs.Common.{drop}
use Rattle.directories.proofs.sequences.Places.{run-from, run-shorter}
use Rattle.directories.proofs.sequences.tree.Tree.run_at.Goals as goal

pub returns-clause-run : goal.returns-clause-run
returns-clause-run g c =
    let run = c.chunk_at-here.result.0.now in
    let first = c.chunk_at-here.result.1 in
    run-shorter _ (drop first run) (drop c.args.position c.args.self.now.items)
    (run-from c.args.self.now.items run c.args.position first c.chunk_at-here.ensures.begins c.chunk_at-here.ensures.chunk)
