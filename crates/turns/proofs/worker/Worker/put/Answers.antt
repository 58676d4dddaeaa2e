use Rattle.depot.specs.Words.{view}
use Rattle.depot_rule.specs.History.{entries_of}
use Rattle.granted_calls.specs.shared_waiting.Passes.{known}
use Rattle.turns.proofs.Turning.{puts}
use Rattle.turns.proofs.worker.Worker.put.Goals as goal

pub invariant_of-self : goal.invariant_of-self
invariant_of-self g c =
    record {
      balance = puts (known c.args.self.now.pass) (known c.put_kept.new.pass) c.args.self.now.kept c.put_kept.result (entries_of (view c.args.self.now.seat))
          c.args.self.now.balance (rw c.take-kept.ensures.value at c.put_kept.ensures.again) c.put_kept.ensures.picked;
      in_hand = c.args.self.now.in_hand;
      none_open = c.args.self.now.none_open;
    }
