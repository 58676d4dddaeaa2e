use Rattle.depot.specs.Words.{view}
use Rattle.filer_state.specs.state.Jobs.{batches_in}
use Rattle.granted_calls.specs.Telling.{TookTold}
use Rattle.granted_calls.specs.shared_waiting.Passes.{known}
use Rattle.granted_calls.specs.Chains.{left_standing}
use Rattle.turns.specs.Turns.{standing_of}
use Rattle.granted_calls.specs.Filers.{layout_in}
use Rattle.granted_calls.proofs.Chains.{picked-kept, served-even, served-hand, tried-all}
use Rattle.granted_calls.proofs.Balancing.{known-still}
use Rattle.turns.proofs.worker.Worker.try_all.Goals as goal

pub invariant_of-self-2 : goal.invariant_of-self-2
invariant_of-self-2 g c =
    let L = layout_in c.args.filer.now in
    let s = standing_of c.args.self.now in
    let kept = rw c.take.ensures.value at c.in-Some.is in
    let t = left_standing (view c.run_messages-kept.new.seat) (known c.run_messages-kept.new.pass) c.run_messages-kept.result.kept in
    let served = c.run_messages-kept.ensures.served s (picked-kept s.view s.pass s.kept c.in-Some.message kept) in
    record {
      balance = served-even (TookTold c.args.handles g.S.AnswerSink.took) L s t c.args.moment c.args.sink.now _ c.run_messages-kept.new.sink served
          c.args.self.now.balance;
      in_hand = served-hand (TookTold c.args.handles g.S.AnswerSink.took) L s t c.args.moment c.args.sink.now _ c.run_messages-kept.new.sink served
          (batches_in c.args.self.now.hand)
          c.args.self.now.in_hand;
      none_open = c.run_messages-kept.ensures.ready.none_open;
    }

pub returns-clause-inside : goal.returns-clause-inside
returns-clause-inside g c = record {
  seat = c.run_messages-kept.ensures.seat;
  opened = c.run_messages-kept.ensures.ready.opened;
  pass = c.run_messages-kept.ensures.of;
  layout = known-still (layout_in c.args.filer.now) (known c.args.self.now.pass) (known c.run_messages-kept.new.pass) c.run_messages-kept.ensures.share
      c.requires.layout;
  hand = c.requires.hand;
  kept = c.run_messages-kept.ensures.placed;
}

pub returns-clause-tried : goal.returns-clause-tried
returns-clause-tried g c =
    tried-all (TookTold c.args.handles g.S.AnswerSink.took) (layout_in c.args.filer.now) (standing_of c.args.self.now) _ c.args.moment c.args.sink.now
    c.run_messages-kept.new.sink
    c.in-Some.message (rw c.take.ensures.value at c.in-Some.is) _ c.run_messages-kept.ensures.served
