use Rattle.std.proofs.Common.{List, sym, ap, ◌∙◌}
use Rattle.std.specs.Prelude.{map, slice_get}
use Rattle.nfs_model.specs.Events.Refusals as events
use Rattle.nfs_values.specs.Moment.{moment_of}
use Rattle.desk.specs.Words.{books}
use Rattle.service.specs.Jobs.{job_of, job_reply_of}
use Rattle.engine.specs.counts.Counts.{culled_by, put_by, fresh_volume}
use Rattle.engine.specs.counts.lemmas.Happening.{event-stays, cull-counts, put-counts}
use Rattle.engine.specs.declared.worker.Worker.{Worker}
use Rattle.engine.specs.Seen.{setup_in, world, answer_of, worker_seen}
use Rattle.engine.proofs.Counted.{stands-parted}
use Rattle.engine.proofs.engine.dispatch.Goals as goal

pub returns-in-Open-clause-counted : goal.returns-in-Open-clause-counted
returns-in-Open-clause-counted c =
    let s = c.args.state.now in
    let new = c.open_connection.new.state in
    c.requires.counted ∙ sym (event-stays (setup_in s) (world s) (world new) (events.Open) (answer_of c.open_connection.result) tt
    c.open_connection.ensures.events)

pub returns-in-Feed-clause-counted : goal.returns-in-Feed-clause-counted
returns-in-Feed-clause-counted c =
    let s = c.args.state.now in
    let new = c.feed.new.state in
    c.requires.counted ∙ sym (event-stays (setup_in s) (world s) (world new) (events.Feed c.in-Feed.connection.0 c.in-Feed.bytes.now)
    (answer_of c.feed.result) tt c.feed.ensures.events)

pub returns-in-Close-clause-counted : goal.returns-in-Close-clause-counted
returns-in-Close-clause-counted c =
    let s = c.args.state.now in
    let new = c.close_connection.new.state in
    c.requires.counted ∙ sym (event-stays (setup_in s) (world s) (world new) (events.Close c.in-Close.connection.0) (answer_of c.close_connection.result) tt
    c.close_connection.ensures.events)

pub returns-in-Begin-clause-counted : goal.returns-in-Begin-clause-counted
returns-in-Begin-clause-counted c =
    let s = c.args.state.now in
    let new = c.begin.new.state in
    c.requires.counted ∙ sym (event-stays (setup_in s) (world s) (world new)
    (events.Begin c.in-Begin.worker.0 c.in-Begin.place (moment_of c.in-Begin.moment)) (answer_of c.begin.result) tt c.begin.ensures.events)

pub returns-in-Finish-clause-counted : goal.returns-in-Finish-clause-counted
returns-in-Finish-clause-counted c =
    let s = c.args.state.now in
    let new = c.finish.new.state in
    c.requires.counted ∙ sym (event-stays (setup_in s) (world s) (world new) (events.Finish c.in-Finish.worker.0) (answer_of c.finish.result) tt
    c.finish.ensures.events)

pub returns-in-Fetch-clause-counted : goal.returns-in-Fetch-clause-counted
returns-in-Fetch-clause-counted c =
    let s = c.args.state.now in
    let new = c.fetch.new.state in
    c.requires.counted ∙ sym (event-stays (setup_in s) (world s) (world new) (events.Fetch c.in-Fetch.worker.0 c.in-Fetch.volume.0 c.in-Fetch.range)
    (answer_of c.fetch.result) tt c.fetch.ensures.events)

pub returns-in-Survey-clause-counted : goal.returns-in-Survey-clause-counted
returns-in-Survey-clause-counted c =
    let s = c.args.state.now in
    let new = c.survey.new.state in
    c.requires.counted ∙ sym (event-stays (setup_in s) (world s) (world new) (events.Survey c.in-Survey.worker.0 c.in-Survey.volume.0)
    (answer_of c.survey.result) tt c.survey.ensures.events)

pub returns-in-Cull-clause-counted : goal.returns-in-Cull-clause-counted
returns-in-Cull-clause-counted c =
    let s = c.args.state.now in
    let new = c.cull-answer.new.state in
    let answer = answer_of c.cull-answer.result in
    c.count_cull.ensures ∙ ap (culled_by c.in-Cull.volume.0 answer) c.requires.counted
    ∙ sym (cull-counts (setup_in s) (world s) (world new)
    (stands-parted job_of job_reply_of (setup_in s) (world s) (books s.desk) c.requires.whole.0.stands c.parts_partition.ensures)
    (stands-parted job_of job_reply_of (setup_in new) (world new) (books new.desk) c.cull-answer.ensures.sound.stands c.parts_partition.ensures)
    c.in-Cull.worker.0 c.in-Cull.volume.0 answer c.cull-answer.ensures.events)

pub returns-in-PutDown-clause-counted : goal.returns-in-PutDown-clause-counted
returns-in-PutDown-clause-counted c =
    let s = c.args.state.now in
    let new = c.put_down-answer.new.state in
    let answer = answer_of c.put_down-answer.result in
    let stock = c.stock_of-stock.ensures
    ∙ ap (λ (ks : List Worker). fresh_volume (events.hand_of (slice_get (map worker_seen ks) c.in-PutDown.worker.0))) c.deref.ensures.value in
    c.count_put_down.ensures ∙ (λ j. put_by (stock j) answer (c.requires.counted j))
    ∙ sym (put-counts (setup_in s) (world s) (world new)
    (stands-parted job_of job_reply_of (setup_in s) (world s) (books s.desk) c.requires.whole.0.stands c.parts_partition.ensures)
    (stands-parted job_of job_reply_of (setup_in new) (world new) (books new.desk) c.put_down-answer.ensures.sound.stands c.parts_partition.ensures)
    c.in-PutDown.worker.0 answer c.put_down-answer.ensures.events)
