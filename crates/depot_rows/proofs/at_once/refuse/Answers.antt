use Rattle.std.proofs.Common.{rules, refl, sym, subst, arith}
use Rattle.desk.specs.laws.Calls.{MayPutBack}
use Rattle.desk.specs.Words.{books, machine_in}
use Rattle.depot_rows.proofs.AtOnce.{may-touch}
use Rattle.depot_rows.proofs.at_once.refuse.Goals as goal

pub finish-requires-clause-may : goal.finish-requires-clause-may
finish-requires-clause-may g c =
    may-touch (machine_in c.args.desk.now) (λ ps n call f reply f' step. step) (λ d weigh. omega arith) (λ call reply weigh. refl)
    (books c.make.new.desk) c.args.worker
    (subst (λ b. MayPutBack b c.args.worker) (sym c.in-Err.ensures.same) (c.if-not-hold.ensures.fresh (search rules)))
