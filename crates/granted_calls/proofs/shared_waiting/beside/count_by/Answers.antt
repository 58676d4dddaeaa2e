use Rattle.std.proofs.Common.{◌≡◌, ◌∙◌, subst}
use Rattle.crossbeam_queue.specs.Fifo.{Held}
use Rattle.crossbeam_queue.specs.Passes.{view}
use Rattle.granted_calls.specs.declared.shared_waiting.view.View.{View}
use Rattle.granted_calls.specs.shared_waiting.Balance.{both, Leaves}
use Rattle.granted_calls.proofs.shared_waiting.Keeps.{leaves}
use Rattle.granted_calls.proofs.shared_waiting.Parted.{as-both, was-both}
use Rattle.granted_calls.proofs.shared_waiting.beside.count_by.Goals as goal

pub len_as-count-requires-clause-rule : goal.len_as-count-requires-clause-rule
len_as-count-requires-clause-rule g c = leaves _ _ g.T.Fitting.fits _ _

pub give_back-requires-clause-grown : goal.give_back-requires-clause-grown
give_back-requires-clause-grown g c =
    let own : View g.row.T.Denot g.row.K.Denot = g.J.Pair.own in
    let other : View g.row.T.Denot g.row.K.Denot = g.J.Pair.other in
    let in_one : view c.take_in.new.seat ≡ both own other = c.take_in.ensures.both ∙ (λ j. both (c.requires.pair.0 j) (c.requires.pair.1 j)) in
    as-both own other (view c.len_as-count.new.pass) (c.len_as-count.ensures.queue.1 ∙ in_one)

pub returns-clause-own : goal.returns-clause-own
returns-clause-own g c =
    let own : View g.row.T.Denot g.row.K.Denot = g.J.Pair.own in
    let other : View g.row.T.Denot g.row.K.Denot = g.J.Pair.other in
    let in_one : view c.take_in.new.seat ≡ both own other = c.take_in.ensures.both ∙ (λ j. both (c.requires.pair.0 j) (c.requires.pair.1 j)) in
    c.give_back.ensures.own ∙ was-both own other (view c.len_as-count.new.pass) (c.len_as-count.ensures.queue.1 ∙ in_one)

pub returns-clause-held : goal.returns-clause-held
returns-clause-held g c =
    let own : View g.row.T.Denot g.row.K.Denot = g.J.Pair.own in
    let other : View g.row.T.Denot g.row.K.Denot = g.J.Pair.other in
    let in_one : view c.take_in.new.seat ≡ both own other = c.take_in.ensures.both ∙ (λ j. both (c.requires.pair.0 j) (c.requires.pair.1 j)) in
    subst (λ (v : View g.row.T.Denot g.row.K.Denot). Held c.len_as-count.result (Leaves v)) in_one c.len_as-count.ensures.rule.1
