use Rattle.std.proofs.Common.{refl, ◌∙◌, inl}
use Rattle.engine.specs.Seen.{setup_in, world}
use Rattle.engine.proofs.Workers.{idle-asked, idle-there, idle-worker}
use Rattle.engine.proofs.Carried.{put-busy}
use Rattle.engine.proofs.Asking.{ask_put, put_so}
use Rattle.engine.proofs.carrying.put_down.Goals as goal

pub returns-then-not-is_idle-clause-events : goal.returns-then-not-is_idle-clause-events
returns-then-not-is_idle-clause-events c =
    let s = c.args.state.now in
    let busy = idle-asked s.workers.items c.deref.result.now c.args.worker c.is_idle.result c.deref.ensures.value c.is_idle.ensures ∙ c.if-not-is_idle.true in
    (inl (put-busy (setup_in s) (world s) c.args.worker busy), refl)

pub tend-requires-clause-may : goal.tend-requires-clause-may
tend-requires-clause-may c =
    let s = c.args.state.now in
    let free = idle-there s.workers.items c.deref.result.now c.args.worker c.is_idle.result c.deref.ensures.value c.is_idle.ensures c.if-not-is_idle.false in
    ask_put s c.requires c.args.worker free

pub returns-clause-events : goal.returns-clause-events
returns-clause-events c =
    let s = c.args.state.now in
    let free = idle-there s.workers.items c.deref.result.now c.args.worker c.is_idle.result c.deref.ensures.value c.is_idle.ensures c.if-not-is_idle.false in
    let place = idle-worker s.workers.items c.args.worker free in
    put_so s c.requires c.args.worker free c.tend.result c.tend.new.state place.0 place.1 (c.tend.ensures.tends place.0 place.1)
