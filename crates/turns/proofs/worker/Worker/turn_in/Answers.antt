use Rattle.depot.specs.Words.{view}
use Rattle.granted_calls.specs.shared_waiting.Passes.{known}
use Rattle.granted_calls.specs.Filers.{layout_in}
use Rattle.turns.proofs.Turning.{turn-did}
use Rattle.turns.proofs.worker.Worker.turn_in.Goals as goal

pub returns-clause-did : goal.returns-clause-did
returns-clause-did g c =
    turn-did (layout_in c.args.filer.now) c.args.self.now c.pick.new.self c.try_kept-turned.new.self c.put.new.self c.args.moment c.pick.ensures.next
    c.pick.ensures.put (λ j. view (c.pick.ensures.seat j)) (λ j. known (c.try_kept-turned.ensures.pass j)) c.put.ensures.again c.put.ensures.picked
    (λ j. view (c.put.ensures.seat j)) c.try_kept-turned.result c.try_kept-turned.ensures.tried
