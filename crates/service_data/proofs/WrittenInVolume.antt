-- WRITE by what is under Volume, as its checks come out.
use Rattle.std.proofs.Common.{◌≡◌, ℕ, zero, suc, ◌&&◌, Bool, List, take, length, Option, Some, None, Result, Ok, Err, refl, sym, ap, ◌∙◌, subst}
use Rattle.std.specs.declared.alloc.AllocError.{AllocError}
use Rattle.std.specs.FinMap.{get}
use Rattle.nfs_model.specs.Types as types
use Rattle.nfs_model.specs.Types.{Ownership, WriteDone, Failed, Success}
use Rattle.nfs_model.specs.Tree.{Volume}
use Rattle.nfs_model.specs.Serial.Write.{Writing, bytes_kept}
use Rattle.nfs_model.specs.Work.{Outcome, Replied, Moved, Starved}
use Rattle.nfs_values.specs.Status.{status_of}
use Rattle.nfs_values.specs.declared.answer.WriteResults.{WriteResults}
use Rattle.nfs_values.specs.declared.status.Status.{Status}
use Rattle.nfs_model.specs.volume.Stripes.{Card}
use Rattle.filer_state.specs.state.Lenses.{VolumeSet, volume_lens}
use Rattle.filer_state.specs.state.Running.{RunsOn}
use Rattle.filer_state.specs.bytes.WritingLaws.{plain, write_call}
use Rattle.filer_state.specs.bytes.WritingUpLaws.{VolumeWriteIsRight, VolumeWriteMayStarve}
use Rattle.filer_state.specs.bytes.Permitted.{owner_held, write_refused, clears_owned, write_by}
use Rattle.filer_state.specs.bytes.PermittedLaws.{VolumeWriteIsPermitted, VolumeWriteIsRefused}
use Rattle.filer_state.specs.bytes.WritingUp.{VolumeWrites, DueInVolume, WrittenWhereFits, WrittenWhereThere, bytes_due}
use Rattle.service_data.specs.Promises.{IsHeld}
use Rattle.service_data.specs.Writing.{bytes_to_write, card_shown, written_outcome}
use Rattle.service_data.specs.WritingInVolume.{IsVolumeHeld, WritesInVolume, ExtendsInVolume, MayStarveInVolume, DoneInVolume}
use Rattle.service_data.specs.declared.extension.Extension.{Extension}
use Rattle.service_data.specs.declared.extension.Extension.TheVariants.{Written, NoSpace, Short}
use Rattle.service_data.specs.SetIds.{tells_written, set_cleared}
use Rattle.service_data.proofs.Cleared.{has-written}
use Rattle.service_data.proofs.WrittenUp.{due-told, kept-same, kept-long, more-due}

-- what is held under Volume of a sound volume is held under Logical
pub held-below : (set : VolumeSet) → IsVolumeHeld set → IsHeld set.logical
held-below set whole =
    let rest = whole.1 in
    (whole.0, (rest.0, rest.1, rest.2, rest.3, ap (λ (s : VolumeSet). s.logical) rest.4, rest.5, rest.6, rest.7, rest.8))

-- ---- what follows from the checks

module _ (fileid : ℕ) (w : Writing) (old : VolumeSet) (card : Option Card)
    (found : card ≡ card_shown (get old.logical.own.inodes.inodes fileid)) (largest : ℕ) (limit : largest ≡ old.logical.own.largest) where
  abbrev checked : Result ℕ Status
  checked = bytes_to_write card largest w.offset w.count (length w.written)

  by-due : (r : Result ℕ types.Status) → bytes_due (get old.logical.own.inodes.inodes fileid) old.logical.own.largest w ≡ r → (v : ℕ)
      → (outcome : Outcome) (new : VolumeSet) → DueInVolume r v fileid w old outcome new → VolumeWrites v fileid w old outcome new
  by-due r is v outcome new done = subst (λ (r : Result ℕ types.Status). DueInVolume r v fileid w old outcome new) (sym is) done

  pub told-failed : (status : Status) → Err status ≡ checked → (v : ℕ)
      → VolumeWrites v fileid w old (Replied (Success (Failed (status_of status) 2))) old
  told-failed status is v =
      by-due (Err (status_of status)) (due-told fileid w old.logical card found largest limit (Err status) is) v _ old (refl, refl)

  module _ (given : ℕ) (is : Ok given ≡ checked) (some : given ≡ 0 → ⊥) where
    with-kept : (r : Result Extension AllocError) (new : VolumeSet) → ExtendsInVolume fileid w.offset (take given w.written) w.moment old r new
        → ExtendsInVolume fileid w.offset (bytes_kept w) w.moment old r new
    with-kept r new done = subst (λ (bytes : List ℕ). ExtendsInVolume fileid w.offset bytes w.moment old r new)
        (kept-same fileid w old.logical card found largest limit given is some) done

    -- it is due
    by-more : (v : ℕ) (outcome : Outcome) (new : VolumeSet) → ((n : ℕ) → DueInVolume (Ok (suc n)) v fileid w old outcome new)
        → VolumeWrites v fileid w old outcome new
    by-more v outcome new done = by given refl
      where
        by : (n : ℕ) → given ≡ n → VolumeWrites v fileid w old outcome new
        by zero none = absurd (some none)
        by (suc n) more =
            by-due (Ok (suc n)) (more-due fileid w old.logical card found largest limit given is some n more) v outcome new (done n)

    pub told-written : (verifier : List ℕ) → verifier ≡ old.logical.own.verifier → (new : VolumeSet)
        → ExtendsInVolume fileid w.offset (take given w.written) w.moment old (Ok Written) new → (v : ℕ)
        → VolumeWrites v fileid w old (Replied (Success (WriteDone given verifier))) new
    told-written verifier same new done v =
        let all = with-kept (Ok Written) new done in
        let outcome : Outcome = Replied (Success (WriteDone given verifier)) in
        let long = kept-long fileid w old.logical card found largest limit given is some in
        by-more v outcome new (λ n.
        subst (λ (b : Bool). WrittenWhereFits b v fileid w old outcome new) (sym all.0)
        (subst (λ (b : Bool). WrittenWhereThere b v fileid w old outcome new) (sym all.1) (record {
          numbers = all.2.numbers;
          left = all.2.left;
          as_many = all.2.as_many;
          leave = all.2.leave;
          replied = λ j. Replied (Success (WriteDone (long j) (same j)));
          written = all.2.set;
        })))

    pub told-full : (new : VolumeSet) → ExtendsInVolume fileid w.offset (take given w.written) w.moment old (Ok NoSpace) new → (v : ℕ)
        → VolumeWrites v fileid w old (Replied (Success (Failed types.NoSpace 2))) new
    told-full new done v =
        let all = with-kept (Ok NoSpace) new done in
        let outcome : Outcome = Replied (Success (Failed types.NoSpace 2)) in
        by-more v outcome new (λ n. subst (λ (b : Bool). WrittenWhereFits b v fileid w old outcome new) (sym all.0) (refl, all.1))

    pub told-short : (new : VolumeSet) → ExtendsInVolume fileid w.offset (take given w.written) w.moment old (Ok Short) new → (v : ℕ)
        → VolumeWrites v fileid w old (Moved (Volume v)) new
    told-short new done v =
        let all = with-kept (Ok Short) new done in
        by-more v (Moved (Volume v)) new (λ n.
        subst (λ (b : Bool). WrittenWhereFits b v fileid w old (Moved (Volume v)) new) (sym all.0)
        (subst (λ (b : Bool). WrittenWhereThere b v fileid w old (Moved (Volume v)) new) (sym all.1) (refl, all.2)))

    pub told-starved : (e : AllocError) (new : VolumeSet) → ExtendsInVolume fileid w.offset (take given w.written) w.moment old (Err e) new
        → MayStarveInVolume fileid w old × (new ≡ old)
    told-starved e new done = by given refl
      where
        by : (n : ℕ) → given ≡ n → MayStarveInVolume fileid w old × (new ≡ old)
        by zero none = absurd (some none)
        by (suc n) more =
            let all = with-kept (Err e) new done in (
              record {
                more = n;
                due = more-due fileid w old.logical card found largest limit given is some n more;
                space = all.0;
                enough = all.1;
                some = all.2;
              },
              all.3,
            )

-- ---- what has happened is right

-- where nothing is asked of the caller
plainly : VolumeWriteIsRight → VolumeWriteMayStarve → (fileid : ℕ) (w : Writing) (old new : VolumeSet)
    (result : Result (Option (Result WriteResults Status)) AllocError) → DoneInVolume fileid w old result new → (v : ℕ) (handle : List ℕ)
    → RunsOn v volume_lens (write_call handle (Volume v) fileid w) old (written_outcome v result) new
plainly right starves fileid w old new (Ok told) done v handle = right v fileid handle w old new (written_outcome v (Ok told)) (done v)
plainly right starves fileid w old new (Err e) done v handle =
    subst (λ (s : VolumeSet). RunsOn v volume_lens (write_call handle (Volume v) fileid w) old Starved s) (sym done.1)
    (starves v fileid done.0.more handle w old done.0.due done.0.space done.0.enough done.0.some)

module _ (fileid : ℕ) (w : Writing) (old : VolumeSet) (owner : Option Ownership) (owns : owner ≡ owner_held old.logical fileid) where
  pub right-denied : VolumeWriteIsRefused → (refusal : Status) → Some (status_of refusal) ≡ write_refused w.caller owner
      → WritesInVolume fileid w old (Ok (Some (Err refusal))) old
  right-denied law refusal refuses v handle =
      law v fileid handle w (status_of refusal) old (ap (write_refused w.caller) (sym owns) ∙ sym refuses)

  pub right-told : VolumeWriteIsRight → VolumeWriteMayStarve → VolumeWriteIsPermitted → None ≡ write_refused w.caller owner
      → (mid new : VolumeSet) (result : Result (Option (Result WriteResults Status)) AllocError) → DoneInVolume fileid (plain w) old result mid
      → new ≡ record mid { logical = set_cleared (clears_owned w.caller owner && tells_written result) owner fileid mid.logical }
      → WritesInVolume fileid w old result new
  right-told right starves law permits mid new result done cleared v handle =
      subst (RunsOn v volume_lens (write_by handle (Volume v) fileid w) old (written_outcome v result))
      ((λ j. record mid {
        logical = set_cleared (clears_owned w.caller (sym owns j) && has-written v result j) (sym owns j) fileid mid.logical;
      })
      ∙ sym cleared)
      (law v fileid handle w old (written_outcome v result) mid (ap (write_refused w.caller) (sym owns) ∙ sym permits)
      (plainly right starves fileid (plain w) old mid result done v handle))
