use Rattle.std.proofs.Common.{◌≡◌, ◌<◌, ◌∙◌, sym, subst}
use Rattle.crossbeam_queue.specs.Fifo.{Held}
use Rattle.crossbeam_queue.specs.Passes.{view}
use Rattle.granted_calls.specs.declared.shared_waiting.view.View.{View}
use Rattle.granted_calls.specs.shared_waiting.Balance.{both, Leaves}
use Rattle.granted_calls.proofs.shared_waiting.Keeps.{picks, leaves}
use Rattle.granted_calls.proofs.shared_waiting.Parted.{both-live, picked-grown, picked-beside}
use Rattle.granted_calls.proofs.shared_waiting.beside.pick_by.Goals as goal

pub pop_as-picked-requires-clause-rule : goal.pop_as-picked-requires-clause-rule
pop_as-picked-requires-clause-rule g c =
    let own : View g.row.T.Denot g.row.K.Denot = g.J.Pair.own in
    let other : View g.row.T.Denot g.row.K.Denot = g.J.Pair.other in
    let in_one : view c.take_in.new.seat ≡ both own other = c.take_in.ensures.both ∙ (λ j. both (c.requires.pair.0 j) (c.requires.pair.1 j)) in
    let live = subst (λ (v : View g.row.T.Denot g.row.K.Denot). 0 < v.share) (sym in_one) (both-live own other c.requires.live.0) in
    (picks _ _ g.T.Fitting.fits _ _ live, leaves _ _ g.T.Fitting.fits _ _)

pub give_back-requires-clause-grown : goal.give_back-requires-clause-grown
give_back-requires-clause-grown g c =
    let own : View g.row.T.Denot g.row.K.Denot = g.J.Pair.own in
    let other : View g.row.T.Denot g.row.K.Denot = g.J.Pair.other in
    let in_one : view c.take_in.new.seat ≡ both own other = c.take_in.ensures.both ∙ (λ j. both (c.requires.pair.0 j) (c.requires.pair.1 j)) in
    picked-grown own other (view c.take_in.new.seat) (view c.pop_as-picked.new.pass) in_one g.T.Fitting.fits
    (λ (v : View g.row.T.Denot g.row.K.Denot). Held 0 (Leaves v)) c.pop_as-picked.result c.pop_as-picked.ensures.rule

pub returns-clause-rule : goal.returns-clause-rule
returns-clause-rule g c =
    let own : View g.row.T.Denot g.row.K.Denot = g.J.Pair.own in
    let other : View g.row.T.Denot g.row.K.Denot = g.J.Pair.other in
    let in_one : view c.take_in.new.seat ≡ both own other = c.take_in.ensures.both ∙ (λ j. both (c.requires.pair.0 j) (c.requires.pair.1 j)) in
    picked-beside own other (view c.take_in.new.seat) (view c.pop_as-picked.new.pass) in_one g.T.Fitting.fits
    (λ (v : View g.row.T.Denot g.row.K.Denot). Held 0 (Leaves v)) (view c.give_back.new.seat) c.give_back.ensures.own
    c.pop_as-picked.result c.pop_as-picked.ensures.rule
