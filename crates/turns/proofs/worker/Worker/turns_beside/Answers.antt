use Rattle.depot.specs.Words.{view}
use Rattle.std.proofs.Common.{◌≡◌, true, false, rules}
use Rattle.granted_calls.specs.Telling.{TookTold}
use Rattle.granted_calls.specs.lemmas.Telling.{told_none}
use Rattle.granted_calls.specs.Chains.{each_done}
use Rattle.turns.specs.Turns.{standing_of}
use Rattle.granted_calls.specs.Filers.{layout_in}
use Rattle.granted_calls.proofs.Chains.{all-done, not-all, none-kept}
use Rattle.turns.proofs.worker.Worker.turns_beside.Goals as goal

pub returns-then-is_done-clause-turned : goal.returns-then-is_done-clause-turned
returns-then-is_done-clause-turned g c =
    let is : each_done c.try_all-chained.result ≡ true = search rules in
    all-done (TookTold c.args.handles g.S.AnswerSink.took) (told_none c.args.handles g.S.AnswerSink.took g.met.S.AnswerSink.took_none)
    (layout_in c.args.filer.now) (standing_of c.args.self.now)
    (standing_of c.pick_beside.new.self) (standing_of c.try_all-chained.new.self) c.args.moment c.args.sink.now c.try_all-chained.new.sink
    (λ j. view (c.pick_beside.ensures.seat j)) c.pick_beside.ensures.next c.pick_beside.ensures.put c.try_all-chained.result is
    c.try_all-chained.ensures.tried

pub returns-clause-turned : goal.returns-clause-turned
returns-clause-turned g c =
    let before = standing_of c.args.self.now in
    let picked = standing_of c.pick_beside.new.self in
    let tried = standing_of c.try_all-chained.new.self in
    let after = standing_of c.put.new.self in
    let is : each_done c.try_all-chained.result ≡ false = search rules in
    not-all (TookTold c.args.handles g.S.AnswerSink.took) (told_none c.args.handles g.S.AnswerSink.took g.met.S.AnswerSink.took_none)
    (layout_in c.args.filer.now) before picked tried c.args.moment c.args.sink.now
    c.try_all-chained.new.sink (λ j. view (c.pick_beside.ensures.seat j)) c.pick_beside.ensures.next c.pick_beside.ensures.put after
    c.put.ensures.again c.put.ensures.picked (λ j. view (c.put.ensures.seat j)) c.try_all-chained.result is c.try_all-chained.ensures.tried

pub returns-clause-none : goal.returns-clause-none
returns-clause-none g c idle =
    c.pick_beside.ensures.none
    (none-kept (TookTold c.args.handles g.S.AnswerSink.took) (layout_in c.args.filer.now) (standing_of c.pick_beside.new.self)
    (standing_of c.try_all-chained.new.self)
    c.args.moment c.args.sink.now c.try_all-chained.new.sink c.try_all-chained.result c.try_all-chained.ensures.tried idle)
