use Rattle.std.proofs.Common.{subst, Option}
use Rattle.std.specs.Prelude.{IfSome}
use Rattle.depot.specs.Words.{view}
use Rattle.depot_rule.specs.History.{entries_of}
use Rattle.filer_state.specs.state.Jobs.{batches_in}
use Rattle.granted_calls.specs.shared_waiting.Passes.{known}
use Rattle.granted_calls.specs.Balance.{IsEven}
use Rattle.granted_calls.specs.Messages.{IsPlaced, Message}
use Rattle.granted_calls.specs.Filers.{layout_in}
use Rattle.turns.proofs.Turning.{tried-even, tried-hand, tried-placed, has-tried}
use Rattle.turns.proofs.worker.Worker.try_kept.Goals as goal

pub invariant_of-self-2 : goal.invariant_of-self-2
invariant_of-self-2 g c =
    let L = layout_in c.args.filer.now in
    let v = view c.args.self.now.seat in
    let w = view c.run_message.new.seat in
    record {
      balance = tried-even L v w c.in-Some.message c.args.moment c.run_message.result c.told-kept.result.0 c.told-kept.result.1 (known c.args.self.now.pass)
          c.run_message.ensures.served c.told-kept.ensures
          (subst (λ (k : Option Message). IsEven (known c.args.self.now.pass) (entries_of v) k) (rw c.take.ensures.value at c.in-Some.is)
          c.args.self.now.balance);
      in_hand = tried-hand L v w c.in-Some.message c.args.moment c.run_message.result (batches_in c.args.self.now.hand) c.run_message.ensures.served
          c.args.self.now.in_hand;
      none_open = c.run_message.ensures.ready.none_open;
    }

pub returns-clause-inside : goal.returns-clause-inside
returns-clause-inside g c =
    let L = layout_in c.args.filer.now in
    record {
      seat = c.run_message.ensures.seat;
      opened = c.run_message.ensures.ready.opened;
      pass = c.requires.pass;
      layout = c.requires.layout;
      hand = c.requires.hand;
      kept = tried-placed L (view c.args.self.now.seat) (view c.run_message.new.seat) c.in-Some.message c.args.moment c.run_message.result c.told-kept.result.0
          c.told-kept.result.1 c.run_message.ensures.served c.told-kept.ensures
          (subst (λ (k : Option Message). IfSome k (IsPlaced L)) (rw c.take.ensures.value at c.in-Some.is) c.requires.kept);
    }

pub returns-clause-tried : goal.returns-clause-tried
returns-clause-tried g c =
    has-tried (layout_in c.args.filer.now) c.args.self.now _ c.in-Some.message c.args.moment c.run_message.result c.told-kept.result.1
    (rw c.take.ensures.value at c.in-Some.is)
    c.run_message.ensures.served c.told-kept.ensures
