use Rattle.std.proofs.Common.{[], refl, Some, None, arith}
use Rattle.desk.specs.laws.lemmas.Beside.{still-fresh, work-lent, work-done}
use Rattle.depot.specs.declared.trial.adding.Change.TheVariants.{Add}
use Rattle.desk.specs.Words.{books, machine_in}
use Rattle.depot_rows.specs.Adder.{Adds}
use Rattle.depot_rows.proofs.turns.add.Goals as goal

pub finish-requires-clause-may : goal.finish-requires-clause-may
finish-requires-clause-may c =
    let old = books c.args.desk.now in
    let new = books c.work.new.self in
    let h = c.in-Some.ensures.worked in
    let does = Adds c.args.number in
    record {
      lent = record { affinity = h.lent.affinity; parcels = h.parcels };
      is_lent = work-lent old c.args.worker does (Some c.in-Some.sum) new c.requires.fresh h;
      worked = work-done old c.args.worker does (Some c.in-Some.sum) new c.requires.fresh h (machine_in c.work.new.self) (Add c.args.number) c.in-Some.sum
          h.did;
      hands = [];
      next = [];
      are_hands = λ weigh. omega arith;
      moves = λ weigh. refl;
    }

pub put_back-requires-clause-may : goal.put_back-requires-clause-may
put_back-requires-clause-may c =
    let h = c.in-None.ensures.worked in
    still-fresh (books c.args.desk.now) c.args.worker (Adds c.args.number) None (books c.work.new.self) c.requires.fresh h h.did
