use Rattle.std.proofs.Common.{rules, refl, arith}
use Rattle.affinity.specs.Affinity.{affinity_of}
use Rattle.desk.specs.Words.{books, machine_in}
use Rattle.depot_rows.proofs.AtOnce.{may-count}
use Rattle.depot_rows.proofs.at_once.make.Goals as goal

pub make-requires-clause-may : goal.make-requires-clause-may
make-requires-clause-may g c =
    may-count (machine_in c.args.desk.now) (λ ps n call f reply f' step. step) (λ d weigh. omega arith) (λ call reply weigh. refl)
    (books c.args.desk.now) c.args.worker (c.if-not-may_make.ensures.idle (search rules)) (affinity_of c.args.affinity)
