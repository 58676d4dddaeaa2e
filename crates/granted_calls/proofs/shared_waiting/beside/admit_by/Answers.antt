use Rattle.std.proofs.Common.{◌≡◌, ◌<◌, ◌∙◌, sym, subst}
use Rattle.crossbeam_queue.specs.Fifo.{Held}
use Rattle.crossbeam_queue.specs.Passes.{view, ruled_capacity}
use Rattle.granted_calls.specs.declared.shared_waiting.view.View.{View}
use Rattle.granted_calls.specs.shared_waiting.Balance.{both, Leaves}
use Rattle.granted_calls.specs.shared_waiting.Balance.{FitsIn}
use Rattle.granted_calls.proofs.shared_waiting.Keeps.{puts, leaves}
use Rattle.granted_calls.proofs.shared_waiting.Parted.{both-live, put-grown, put-beside}
use Rattle.granted_calls.proofs.shared_waiting.beside.admit_by.Goals as goal

pub push_as-put-requires-clause-rule : goal.push_as-put-requires-clause-rule
push_as-put-requires-clause-rule g c =
    let own : View g.row.T.Denot g.row.K.Denot = g.J.Pair.own in
    let other : View g.row.T.Denot g.row.K.Denot = g.J.Pair.other in
    let in_one : view c.take_in.new.seat ≡ both own other = c.take_in.ensures.both ∙ (λ j. both (c.requires.pair.0 j) (c.requires.pair.1 j)) in
    let live = subst (λ (v : View g.row.T.Denot g.row.K.Denot). 0 < v.share) (sym in_one) (both-live own other c.requires.live.0) in
    let fits = subst (λ (v : View g.row.T.Denot g.row.K.Denot). FitsIn g.T.Fitting.fits v.key c.args.message) (sym in_one) c.requires.fits in
    (puts _ _ g.T.Fitting.fits _ _ _ _ live fits, leaves _ _ g.T.Fitting.fits _ _)

pub give_back-requires-clause-grown : goal.give_back-requires-clause-grown
give_back-requires-clause-grown g c =
    let own : View g.row.T.Denot g.row.K.Denot = g.J.Pair.own in
    let other : View g.row.T.Denot g.row.K.Denot = g.J.Pair.other in
    let in_one : view c.take_in.new.seat ≡ both own other = c.take_in.ensures.both ∙ (λ j. both (c.requires.pair.0 j) (c.requires.pair.1 j)) in
    put-grown own other (view c.take_in.new.seat) (view c.push_as-put.new.pass) in_one c.args.message
    (λ (v : View g.row.T.Denot g.row.K.Denot). Held (ruled_capacity c.args.queue.now) (Leaves v)) c.push_as-put.result c.push_as-put.ensures.rule

pub returns-clause-rule : goal.returns-clause-rule
returns-clause-rule g c =
    let own : View g.row.T.Denot g.row.K.Denot = g.J.Pair.own in
    let other : View g.row.T.Denot g.row.K.Denot = g.J.Pair.other in
    let in_one : view c.take_in.new.seat ≡ both own other = c.take_in.ensures.both ∙ (λ j. both (c.requires.pair.0 j) (c.requires.pair.1 j)) in
    put-beside own other (view c.take_in.new.seat) (view c.push_as-put.new.pass) in_one c.args.message
    (λ (v : View g.row.T.Denot g.row.K.Denot). Held (ruled_capacity c.args.queue.now) (Leaves v)) (view c.give_back.new.seat) c.give_back.ensures.own
    c.push_as-put.result c.push_as-put.ensures.rule
