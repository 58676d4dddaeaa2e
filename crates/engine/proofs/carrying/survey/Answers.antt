use Rattle.std.proofs.Common.{refl, sym, ◌∙◌, inl}
use Rattle.engine.specs.Seen.{setup_in, world, answer_of}
use Rattle.engine.proofs.Carried.{survey-busy, survey-nowhere, surveyed}
use Rattle.engine.proofs.Free.{free-there, volume-asked, may_survey}
use Rattle.engine.proofs.carrying.survey.Goals as goal

pub returns-then-not-is_free-clause-events : goal.returns-then-not-is_free-clause-events
returns-then-not-is_free-clause-events c =
    let s = c.args.state.now in
    let busy = (free-there s.workers.items c.deref.result.now c.args.worker c.is_free.result c.deref.ensures.value c.is_free.ensures ∙ c.if-not-is_free.true) in
    (inl (survey-busy (setup_in s) (world s) c.args.worker busy c.args.volume.0), refl)

pub returns-then-not-has_volume-clause-events : goal.returns-then-not-has_volume-clause-events
returns-then-not-has_volume-clause-events c =
    let s = c.args.state.now in
    let free = (free-there s.workers.items c.deref.result.now c.args.worker c.is_free.result c.deref.ensures.value c.is_free.ensures
    ∙ c.if-not-is_free.false) in
    let none = volume-asked s c.requires c.args.volume.0 c.has_volume.result c.has_volume.ensures ∙ c.if-not-has_volume.true in
    (inl (survey-nowhere (setup_in s) (world s) c.args.worker free c.args.volume.0 none), refl)

pub count_free-requires-clause-may : goal.count_free-requires-clause-may
count_free-requires-clause-may c =
    let s = c.args.state.now in
    let free = (free-there s.workers.items c.deref.result.now c.args.worker c.is_free.result c.deref.ensures.value c.is_free.ensures
    ∙ c.if-not-is_free.false) in
    may_survey s c.requires c.args.worker free c.args.volume.0 (sym c.if-not-has_volume.false ∙ c.has_volume.ensures)

pub returns-clause-events : goal.returns-clause-events
returns-clause-events c =
    let s = c.args.state.now in
    let free = (free-there s.workers.items c.deref.result.now c.args.worker c.is_free.result c.deref.ensures.value c.is_free.ensures
    ∙ c.if-not-is_free.false) in
    let there = volume-asked s c.requires c.args.volume.0 c.has_volume.result c.has_volume.ensures ∙ c.if-not-has_volume.false in
    surveyed (setup_in s) (world s) c.args.worker free c.args.volume.0 there (answer_of c.count_free.result) (world c.count_free.new.state)
    c.count_free.ensures.tends
