use Rattle.std.proofs.Common.{◌≡◌, Some, refl, sym, ap, ◌∙◌, subst}
use Rattle.std.specs.Prelude.{slice_set}
use Rattle.nfs_model.specs.Parts.{Hand, Empty}
use Rattle.filer_state.specs.state.Jobs.{Survey}
use Rattle.desk.specs.Words.{books}
use Rattle.service.specs.Jobs.{counts_reply_of}
use Rattle.service.specs.lemmas.Inner.{is-inner}
use Rattle.service.specs.declared.job.JobReply.TheVariants.{Surveyed}
use Rattle.engine.specs.declared.state.State.{State}
use Rattle.engine.specs.declared.worker.WorkerRun.TheVariants.{Idle}
use Rattle.engine.specs.Inner.{MayMake, IsMade}
use Rattle.engine.specs.Workers.{worker_with}
use Rattle.engine.proofs.Lists.{set-same}
use Rattle.engine.proofs.Tended.{may_make, refuses, tended_setup, tended_events, tended_sound, restored_world, restored_setup, restored_sound}
use Rattle.engine.proofs.inner.count_free.Goals as goal

pub make_on-requires-clause-runs : goal.make_on-requires-clause-runs
make_on-requires-clause-runs c = is-inner counts_reply_of (Survey c.args.volume.0) (Survey c.args.volume.0) Empty refl

pub make_on-requires-clause-may : goal.make_on-requires-clause-may
make_on-requires-clause-may c =
    let s = c.args.state.now in
    subst (λ (h : Hand). MayMake (books s.desk) c.args.worker (Survey c.args.volume.0) h) c.requires.may.fits
    (may_make s c.requires.sound c.args.worker (Survey c.args.volume.0) c.requires.may)

pub make_on-requires-clause-kind : goal.make_on-requires-clause-kind
make_on-requires-clause-kind c = refl

-- ---- it is made

pub returns-in-Ok-clause-tends : goal.returns-in-Ok-clause-tends
returns-in-Ok-clause-tends c =
    let s = c.args.state.now in
    let may = c.requires.may in
    let t : State = record s { desk = c.make_on.new.desk } in
    let reply = Surveyed c.in-Ok.told in
    let made : IsMade (books s.desk) (Survey c.args.volume.0) may.hand reply (books t.desk) =
    subst (λ (h : Hand). IsMade (books s.desk) (Survey c.args.volume.0) h reply (books t.desk)) (sym may.fits) c.in-Ok.ensures.made in
    let set : t.workers.items ≡ slice_set s.workers.items c.args.worker (worker_with Idle Empty) =
    sym (set-same s.workers.items c.args.worker (worker_with Idle Empty) (may.there ∙ ap (λ (h : Hand). Some (worker_with Idle h)) may.fits)) in
    tended_events s c.requires.sound c.args.worker (Survey c.args.volume.0) may t reply made c.in-Ok.ensures.kept set
    c.surveyed.result c.surveyed.ensures

pub returns-in-Ok-clause-setup : goal.returns-in-Ok-clause-setup
returns-in-Ok-clause-setup c =
    let s = c.args.state.now in
    let may = c.requires.may in
    let t : State = record s { desk = c.make_on.new.desk } in
    let reply = Surveyed c.in-Ok.told in
    let made : IsMade (books s.desk) (Survey c.args.volume.0) may.hand reply (books t.desk) =
    subst (λ (h : Hand). IsMade (books s.desk) (Survey c.args.volume.0) h reply (books t.desk)) (sym may.fits) c.in-Ok.ensures.made in
    let set : t.workers.items ≡ slice_set s.workers.items c.args.worker (worker_with Idle Empty) =
    sym (set-same s.workers.items c.args.worker (worker_with Idle Empty) (may.there ∙ ap (λ (h : Hand). Some (worker_with Idle h)) may.fits)) in
    tended_setup s c.requires.sound c.args.worker (Survey c.args.volume.0) may t reply made c.in-Ok.ensures.kept set

pub returns-in-Ok-clause-sound : goal.returns-in-Ok-clause-sound
returns-in-Ok-clause-sound c =
    let s = c.args.state.now in
    let may = c.requires.may in
    let t : State = record s { desk = c.make_on.new.desk } in
    let reply = Surveyed c.in-Ok.told in
    let made : IsMade (books s.desk) (Survey c.args.volume.0) may.hand reply (books t.desk) =
    subst (λ (h : Hand). IsMade (books s.desk) (Survey c.args.volume.0) h reply (books t.desk)) (sym may.fits) c.in-Ok.ensures.made in
    let set : t.workers.items ≡ slice_set s.workers.items c.args.worker (worker_with Idle Empty) =
    sym (set-same s.workers.items c.args.worker (worker_with Idle Empty) (may.there ∙ ap (λ (h : Hand). Some (worker_with Idle h)) may.fits)) in
    tended_sound s c.requires.sound c.args.worker (Survey c.args.volume.0) may t reply made c.in-Ok.ensures.kept set
    c.batches_are_of_one_range.ensures.fetched

-- ---- it is refused

pub returns-in-Err-clause-tends : goal.returns-in-Err-clause-tends
returns-in-Err-clause-tends c =
    let s = c.args.state.now in
    let left : State = record s { desk = c.make_on.new.desk } in (
      refuses s c.requires.sound c.args.worker (Survey c.args.volume.0) c.requires.may c.in-Err.refusal c.in-Err.ensures.refused,
      restored_world s left refl c.in-Err.ensures.same,
    )

pub returns-in-Err-clause-setup : goal.returns-in-Err-clause-setup
returns-in-Err-clause-setup c =
    let s = c.args.state.now in
    let left : State = record s { desk = c.make_on.new.desk } in
    restored_setup s left refl c.in-Err.ensures.same

pub returns-in-Err-clause-sound : goal.returns-in-Err-clause-sound
returns-in-Err-clause-sound c =
    let s = c.args.state.now in
    let left : State = record s { desk = c.make_on.new.desk } in
    restored_sound s left refl c.in-Err.ensures.same c.in-Err.ensures.kept c.requires.sound
