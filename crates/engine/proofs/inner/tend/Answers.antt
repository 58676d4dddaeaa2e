use Rattle.std.proofs.Common.{◌≡◌, Ok, Err, Some, None, refl, sym, ap, ◌∙◌, subst}
use Rattle.std.specs.Prelude.{slice_set}
use Rattle.nfs_model.specs.Parts.{Hand}
use Rattle.desk.specs.Words.{books}
use Rattle.engine.specs.laws.Inner.{hand_after}
use Rattle.service.specs.Jobs.{batch_reply_of}
use Rattle.service.specs.Works.{batch_call_of, batch_hand_of}
use Rattle.service.specs.declared.job.JobReply.TheVariants.{Moved}
use Rattle.engine.specs.declared.event.Refusal.TheVariants.{NoWork}
use Rattle.engine.specs.declared.state.State.{State}
use Rattle.engine.specs.declared.worker.WorkerRun.TheVariants.{Idle}
use Rattle.engine.specs.Inner.{MayMake, IsMade}
use Rattle.engine.specs.Workers.{worker_with}
use Rattle.engine.proofs.Asking.{fits_taken, may_tend, hand_is, has_asked}
use Rattle.engine.proofs.Tended.{put_in, put_again, may_make, refuses, tended_setup, tended_events, tended_sound}
use Rattle.engine.proofs.Workers.{in-room}
use Rattle.engine.proofs.Tended.{restored_world, restored_setup, restored_sound}
use Rattle.engine.proofs.inner.tend.Goals as goal

pub work_of-requires : goal.work_of-requires
work_of-requires c = fits_taken c.args.state.now c.args.worker c.args.asked c.requires.may c.take_hand-hand.result c.take_hand-hand.new.workers
    c.take_hand-hand.ensures

pub set_hand-requires : goal.set_hand-requires
set_hand-requires c = in-room c.args.state.now.workers c.take_hand-hand.new.workers c.args.worker _ _ c.take_hand-hand.ensures.1 c.take_hand-hand.ensures.2

pub set_hand-requires-in-Ok-make : goal.set_hand-requires-in-Ok-make
set_hand-requires-in-Ok-make c = in-room c.args.state.now.workers c.take_hand-hand.new.workers c.args.worker _ _ c.take_hand-hand.ensures.1
    c.take_hand-hand.ensures.2

pub set_hand-requires-in-Err-make : goal.set_hand-requires-in-Err-make
set_hand-requires-in-Err-make c = in-room c.args.state.now.workers c.take_hand-hand.new.workers c.args.worker _ _ c.take_hand-hand.ensures.1
    c.take_hand-hand.ensures.2

-- ---- there is no call

pub returns-in-Err-clause-tends : goal.returns-in-Err-clause-tends
returns-in-Err-clause-tends c =
    let s = c.args.state.now in
    let left : State = record s { workers = c.set_hand.new.workers } in
    let same : left.workers.items ≡ s.workers.items = put_again s c.args.worker c.requires.may.hand c.requires.may.there c.take_hand-hand.result
    c.take_hand-hand.new.workers c.take_hand-hand.ensures
    c.in-Err.hand c.set_hand.new.workers c.set_hand.ensures c.in-Err.ensures.hand in
    has_asked s c.args.worker c.args.asked c.requires.may c.take_hand-hand.result c.take_hand-hand.new.workers c.take_hand-hand.ensures
    _ c.layout.ensures None c.in-Err.ensures.call (Err NoWork) left (refl, restored_world s left same refl)

pub returns-in-Err-clause-setup : goal.returns-in-Err-clause-setup
returns-in-Err-clause-setup c =
    let s = c.args.state.now in
    let left : State = record s { workers = c.set_hand.new.workers } in
    let same : left.workers.items ≡ s.workers.items = put_again s c.args.worker c.requires.may.hand c.requires.may.there c.take_hand-hand.result
    c.take_hand-hand.new.workers c.take_hand-hand.ensures
    c.in-Err.hand c.set_hand.new.workers c.set_hand.ensures c.in-Err.ensures.hand in
    restored_setup s left same refl

pub returns-in-Err-clause-sound : goal.returns-in-Err-clause-sound
returns-in-Err-clause-sound c =
    let s = c.args.state.now in
    let left : State = record s { workers = c.set_hand.new.workers } in
    let same : left.workers.items ≡ s.workers.items = put_again s c.args.worker c.requires.may.hand c.requires.may.there c.take_hand-hand.result
    c.take_hand-hand.new.workers c.take_hand-hand.ensures
    c.in-Err.hand c.set_hand.new.workers c.set_hand.ensures c.in-Err.ensures.hand in
    restored_sound s left same refl c.requires.sound.kept c.requires.sound

-- ---- it may be made

pub make-requires-clause-may : goal.make-requires-clause-may
make-requires-clause-may c =
    let s = c.args.state.now in
    let call = batch_call_of c.in-Ok.work in
    let may = may_tend s c.args.worker c.args.asked c.requires.may c.take_hand-hand.result c.take_hand-hand.new.workers c.take_hand-hand.ensures
    _ c.layout.ensures call c.in-Ok.ensures.call in
    let carried : batch_hand_of c.in-Ok.work ≡ may.hand = c.in-Ok.ensures.hand
    ∙ hand_is s c.args.worker c.args.asked c.requires.may c.take_hand-hand.result c.take_hand-hand.new.workers c.take_hand-hand.ensures
    _ c.layout.ensures call c.in-Ok.ensures.call in
    subst (λ (h : Hand). MayMake (books s.desk) c.args.worker call h) (sym carried) (may_make s c.requires.sound c.args.worker call may)

-- ---- it is made

pub returns-in-Ok-make-clause-tends : goal.returns-in-Ok-make-clause-tends
returns-in-Ok-make-clause-tends c =
    let s = c.args.state.now in
    let call = batch_call_of c.in-Ok.work in
    let may = may_tend s c.args.worker c.args.asked c.requires.may c.take_hand-hand.result c.take_hand-hand.new.workers c.take_hand-hand.ensures
    _ c.layout.ensures call c.in-Ok.ensures.call in
    let carried : batch_hand_of c.in-Ok.work ≡ may.hand = c.in-Ok.ensures.hand
    ∙ hand_is s c.args.worker c.args.asked c.requires.may c.take_hand-hand.result c.take_hand-hand.new.workers c.take_hand-hand.ensures
    _ c.layout.ensures call c.in-Ok.ensures.call in
    let t : State = record s { workers = c.set_hand-in-Ok-make.new.workers; desk = c.make.new.desk } in
    let made : IsMade (books s.desk) call may.hand (Moved c.in-Ok-make.reply) (books t.desk) =
    subst (λ (h : Hand). IsMade (books s.desk) call h (Moved c.in-Ok-make.reply) (books t.desk)) carried c.in-Ok-make.ensures.made in
    let set : t.workers.items ≡ slice_set s.workers.items c.args.worker (worker_with Idle (hand_after (batch_reply_of c.in-Ok-make.reply))) =
    put_in s c.args.worker may.hand may.there c.take_hand-hand.result c.take_hand-hand.new.workers c.take_hand-hand.ensures
    c.told-hand.result.0 c.set_hand-in-Ok-make.new.workers c.set_hand-in-Ok-make.ensures
    ∙ ap (λ (h : Hand). slice_set s.workers.items c.args.worker (worker_with Idle h)) c.told-hand.ensures.hand in
    has_asked s c.args.worker c.args.asked c.requires.may c.take_hand-hand.result c.take_hand-hand.new.workers c.take_hand-hand.ensures
    _ c.layout.ensures (Some call) c.in-Ok.ensures.call (Ok c.told-hand.result.1) t
    (tended_events s c.requires.sound c.args.worker call may t (Moved c.in-Ok-make.reply) made c.in-Ok-make.ensures.kept set
    c.told-hand.result.1 c.told-hand.ensures.done)

pub returns-in-Ok-make-clause-setup : goal.returns-in-Ok-make-clause-setup
returns-in-Ok-make-clause-setup c =
    let s = c.args.state.now in
    let call = batch_call_of c.in-Ok.work in
    let may = may_tend s c.args.worker c.args.asked c.requires.may c.take_hand-hand.result c.take_hand-hand.new.workers c.take_hand-hand.ensures
    _ c.layout.ensures call c.in-Ok.ensures.call in
    let carried : batch_hand_of c.in-Ok.work ≡ may.hand = c.in-Ok.ensures.hand
    ∙ hand_is s c.args.worker c.args.asked c.requires.may c.take_hand-hand.result c.take_hand-hand.new.workers c.take_hand-hand.ensures
    _ c.layout.ensures call c.in-Ok.ensures.call in
    let t : State = record s { workers = c.set_hand-in-Ok-make.new.workers; desk = c.make.new.desk } in
    let made : IsMade (books s.desk) call may.hand (Moved c.in-Ok-make.reply) (books t.desk) =
    subst (λ (h : Hand). IsMade (books s.desk) call h (Moved c.in-Ok-make.reply) (books t.desk)) carried c.in-Ok-make.ensures.made in
    let set : t.workers.items ≡ slice_set s.workers.items c.args.worker (worker_with Idle (hand_after (batch_reply_of c.in-Ok-make.reply))) =
    put_in s c.args.worker may.hand may.there c.take_hand-hand.result c.take_hand-hand.new.workers c.take_hand-hand.ensures
    c.told-hand.result.0 c.set_hand-in-Ok-make.new.workers c.set_hand-in-Ok-make.ensures
    ∙ ap (λ (h : Hand). slice_set s.workers.items c.args.worker (worker_with Idle h)) c.told-hand.ensures.hand in
    tended_setup s c.requires.sound c.args.worker call may t (Moved c.in-Ok-make.reply) made c.in-Ok-make.ensures.kept set

pub returns-in-Ok-make-clause-sound : goal.returns-in-Ok-make-clause-sound
returns-in-Ok-make-clause-sound c =
    let s = c.args.state.now in
    let call = batch_call_of c.in-Ok.work in
    let may = may_tend s c.args.worker c.args.asked c.requires.may c.take_hand-hand.result c.take_hand-hand.new.workers c.take_hand-hand.ensures
    _ c.layout.ensures call c.in-Ok.ensures.call in
    let carried : batch_hand_of c.in-Ok.work ≡ may.hand = c.in-Ok.ensures.hand
    ∙ hand_is s c.args.worker c.args.asked c.requires.may c.take_hand-hand.result c.take_hand-hand.new.workers c.take_hand-hand.ensures
    _ c.layout.ensures call c.in-Ok.ensures.call in
    let t : State = record s { workers = c.set_hand-in-Ok-make.new.workers; desk = c.make.new.desk } in
    let made : IsMade (books s.desk) call may.hand (Moved c.in-Ok-make.reply) (books t.desk) =
    subst (λ (h : Hand). IsMade (books s.desk) call h (Moved c.in-Ok-make.reply) (books t.desk)) carried c.in-Ok-make.ensures.made in
    let set : t.workers.items ≡ slice_set s.workers.items c.args.worker (worker_with Idle (hand_after (batch_reply_of c.in-Ok-make.reply))) =
    put_in s c.args.worker may.hand may.there c.take_hand-hand.result c.take_hand-hand.new.workers c.take_hand-hand.ensures
    c.told-hand.result.0 c.set_hand-in-Ok-make.new.workers c.set_hand-in-Ok-make.ensures
    ∙ ap (λ (h : Hand). slice_set s.workers.items c.args.worker (worker_with Idle h)) c.told-hand.ensures.hand in
    tended_sound s c.requires.sound c.args.worker call may t (Moved c.in-Ok-make.reply) made c.in-Ok-make.ensures.kept set
    c.batches_are_of_one_range.ensures.fetched

-- ---- it is refused

pub returns-in-Err-make-clause-tends : goal.returns-in-Err-make-clause-tends
returns-in-Err-make-clause-tends c =
    let s = c.args.state.now in
    let call = batch_call_of c.in-Ok.work in
    let may = may_tend s c.args.worker c.args.asked c.requires.may c.take_hand-hand.result c.take_hand-hand.new.workers c.take_hand-hand.ensures
    _ c.layout.ensures call c.in-Ok.ensures.call in
    let left : State = record s { workers = c.set_hand-in-Err-make.new.workers; desk = c.make.new.desk } in
    let same : left.workers.items ≡ s.workers.items = put_again s c.args.worker c.requires.may.hand c.requires.may.there c.take_hand-hand.result
    c.take_hand-hand.new.workers c.take_hand-hand.ensures
    c.in-Err-make.hand c.set_hand-in-Err-make.new.workers c.set_hand-in-Err-make.ensures (c.in-Err-make.ensures.hand ∙ c.in-Ok.ensures.hand) in
    has_asked s c.args.worker c.args.asked c.requires.may c.take_hand-hand.result c.take_hand-hand.new.workers c.take_hand-hand.ensures
    _ c.layout.ensures (Some call) c.in-Ok.ensures.call (Err c.in-Err-make.refusal) left (
      refuses s c.requires.sound c.args.worker call may c.in-Err-make.refusal c.in-Err-make.ensures.refused,
      restored_world s left same c.in-Err-make.ensures.same,
    )

pub returns-in-Err-make-clause-setup : goal.returns-in-Err-make-clause-setup
returns-in-Err-make-clause-setup c =
    let s = c.args.state.now in
    let left : State = record s { workers = c.set_hand-in-Err-make.new.workers; desk = c.make.new.desk } in
    let same : left.workers.items ≡ s.workers.items = put_again s c.args.worker c.requires.may.hand c.requires.may.there c.take_hand-hand.result
    c.take_hand-hand.new.workers c.take_hand-hand.ensures
    c.in-Err-make.hand c.set_hand-in-Err-make.new.workers c.set_hand-in-Err-make.ensures (c.in-Err-make.ensures.hand ∙ c.in-Ok.ensures.hand) in
    restored_setup s left same c.in-Err-make.ensures.same

pub returns-in-Err-make-clause-sound : goal.returns-in-Err-make-clause-sound
returns-in-Err-make-clause-sound c =
    let s = c.args.state.now in
    let left : State = record s { workers = c.set_hand-in-Err-make.new.workers; desk = c.make.new.desk } in
    let same : left.workers.items ≡ s.workers.items = put_again s c.args.worker c.requires.may.hand c.requires.may.there c.take_hand-hand.result
    c.take_hand-hand.new.workers c.take_hand-hand.ensures
    c.in-Err-make.hand c.set_hand-in-Err-make.new.workers c.set_hand-in-Err-make.ensures (c.in-Err-make.ensures.hand ∙ c.in-Ok.ensures.hand) in
    restored_sound s left same c.in-Err-make.ensures.same c.in-Err-make.ensures.kept c.requires.sound
