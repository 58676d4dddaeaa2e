use Rattle.depot.specs.Words.{view}
use Rattle.depot_rule.specs.History.{entries_of}
use Rattle.granted_calls.specs.shared_waiting.Passes.{known}
use Rattle.granted_calls.proofs.Balancing.{picks}
use Rattle.turns.proofs.worker.Worker.pick.Goals as goal

pub invariant_of-self : goal.invariant_of-self
invariant_of-self g c =
    record {
      balance = picks (known c.args.self.now.pass) (known c.next.new.pass) c.args.self.now.kept c.next.result (entries_of (view c.args.self.now.seat))
          c.args.self.now.balance (rw c.take-kept.ensures.value at c.next.ensures.next) c.next.ensures.put;
      in_hand = c.args.self.now.in_hand;
      none_open = c.args.self.now.none_open;
    }
