use Rattle.std.proofs.Common.{[], ◌∷◌, subst, sym}
use Rattle.nfs_model.specs.Headline.{Kept}
use Rattle.engine.specs.laws.Store.{StandsFor}
use Rattle.engine.specs.laws.lemmas.Happening.{kept-after}
use Rattle.desk.specs.Words.{books}
use Rattle.service.specs.Jobs.{job_of, job_reply_of}
use Rattle.engine.specs.Seen.{setup_in, world, event_of, answer_of}
use Rattle.engine.specs.Shown.{Shown, shown}
use Rattle.engine.specs.Promise.{GoesOn}
use Rattle.engine.proofs.Promised.{sound-history, steps-on}
use Rattle.engine.proofs.engine.Engine.step.Goals as goal

-- the books stand for the world after the event, so it keeps the headline
kept : (c : goal.After-dispatch) → Kept (setup_in c.dispatch.new.state) (world c.dispatch.new.state)
kept c =
    let s = c.self.inside.state in
    let new = c.dispatch.new.state in
    let stands = subst (λ x. StandsFor job_of job_reply_of x (world new) (books new.desk)) c.dispatch.ensures.setup c.dispatch.ensures.sound.stands in
    subst (λ x. Kept x (world new)) (sym c.dispatch.ensures.setup)
    (kept-after job_of job_reply_of c.parts_partition.ensures c.events_keep_headline.ensures (setup_in s) (world s) (event_of c.args.event)
    (answer_of c.dispatch.result) (world new) (books new.desk) (c.codecs_are_scans.ensures s.offer) c.self.invariant.0.1 stands c.dispatch.ensures.events)

pub invariant_of-self : goal.invariant_of-self
invariant_of-self c = ((c.dispatch.ensures.sound, kept c), c.dispatch.ensures.counted)

pub returns-clause-headline : goal.returns-clause-headline
returns-clause-headline c = (kept c).headline

pub returns-clause-outcomes : goal.returns-clause-outcomes
returns-clause-outcomes c = (kept c).outcomes

pub returns-clause-history : goal.returns-clause-history
returns-clause-history c = sound-history c.dispatch.new.state c.dispatch.ensures.sound

pub returns-clause-promise : goal.returns-clause-promise
returns-clause-promise c =
    let s = c.self.inside.state in
    let new = c.dispatch.new.state in
    subst (λ (v : Shown). GoesOn v (event_of c.args.event ∷ []) (shown new)) c.self.view_is
    (steps-on c.streams_are_served.ensures (shown s) (shown new) (event_of c.args.event) (answer_of c.dispatch.result) c.dispatch.ensures.setup
    c.dispatch.ensures.events (kept c).headline (kept c).outcomes (sound-history new c.dispatch.ensures.sound))
