-- What is held when a WRITE is done, and then without set-id bits.
use Rattle.std.proofs.Common.{◌≡◌, ℕ, zero, suc, ◌+◌, Bool, true, false, Option, Some, None, Result, Ok, Err, nat_lt, refl, sym, ap, ◌∙◌}
use Rattle.std.specs.Prelude.{length, IfOk, OnErr}
use Rattle.std.specs.declared.alloc.AllocError.{AllocError}
use Rattle.std.specs.FinMap.{get}
use Rattle.std.specs.FinSet.{len}
use Rattle.nfs_model.specs.Types as types
use Rattle.nfs_model.specs.Types.{Ownership}
use Rattle.nfs_model.specs.Serial.Write.{Writing}
use Rattle.nfs_model.specs.Work.{Outcome}
use Rattle.nfs_values.specs.declared.answer.WriteResults.{WriteResults}
use Rattle.nfs_values.specs.declared.status.Status.{Status}
use Rattle.filer_state.specs.state.Lenses.{LogicalSet, VolumeSet}
use Rattle.filer_state.specs.state.Sets.{FilerLogical, FilerVolume, logical_set, logical_after, logical_before, volume_after, volume_before, vbn_set}
use Rattle.filer_state.specs.bytes.Permitted.{has_written}
use Rattle.filer_state.specs.bytes.WritingUp.{LogicalWrites, DueInLogical, WrittenWhereEnough, VolumeWrites, DueInVolume, WrittenWhereFits}
use Rattle.filer_state.specs.bytes.WritingUp.{WrittenWhereThere, bytes_due, holes_of, all_blocks, for_holes}
use Rattle.service_data.specs.SetIds.{tells_written, set_cleared}
use Rattle.service_data.specs.Writing.{written_outcome, DoneInLogical}
use Rattle.service_data.specs.WritingInVolume.{DoneInVolume}
use Rattle.service_data.proofs.FromParts.{parts-keep}

abbrev Told : Type 0
Told = Result (Option (Result WriteResults Status)) AllocError

-- whether bytes were written is told by the outcome
pub has-written : (v : ℕ) (result : Told) → has_written (written_outcome v result) ≡ tells_written result
has-written v (Err e) = refl
has-written v (Ok None) = refl
has-written v (Ok (Some (Err status))) = refl
has-written v (Ok (Some (Ok results))) = refl

-- ---- what moved or starved is as it was

pub moved-kept : {A : Type 0} (old mid final : A) (result : Told) → IfOk result (λ told. told ≡ None → mid ≡ old)
    → (tells_written result ≡ false → final ≡ mid) → IfOk result (λ told. told ≡ None → final ≡ old)
moved-kept old mid final (Err e) moved kept = moved
moved-kept old mid final (Ok None) moved kept = λ e. kept refl ∙ moved e
moved-kept old mid final (Ok (Some told)) moved kept = λ e. absurd cc

pub starved-kept : {A : Type 0} (old mid final : A) (result : Told) → OnErr result (mid ≡ old)
    → (tells_written result ≡ false → final ≡ mid) → OnErr result (final ≡ old)
starved-kept old mid final (Err e) starved kept = kept refl ∙ starved
starved-kept old mid final (Ok told) starved kept = starved

-- ---- as many stripes as before

count-kept : (v fileid : ℕ) (w : Writing) (old new : LogicalSet) (outcome : Outcome) → LogicalWrites v fileid w old outcome new
    → new.own.stripes ≡ old.own.stripes
count-kept v fileid w old new outcome told = by (bytes_due (get old.own.inodes.inodes fileid) old.own.largest w) told
  where
    enough : (b : Bool) → WrittenWhereEnough b v fileid w old outcome new → new.own.stripes ≡ old.own.stripes
    enough true h = ap (λ (s : LogicalSet). s.own.stripes) h.1
    enough false h = ap (λ (s : LogicalSet). s.own.stripes) h.written

    by : (r : Result ℕ types.Status) → DueInLogical r v fileid w old outcome new → new.own.stripes ≡ old.own.stripes
    by (Err status) h = ap (λ (s : LogicalSet). s.own.stripes) h.1
    by (Ok zero) h = ap (λ (s : LogicalSet). s.own.stripes) h.1
    by (Ok (suc n)) h = enough (nat_lt (len old.own.stock) (length (holes_of fileid w old))) h

done-count : (fileid : ℕ) (w : Writing) (old new : LogicalSet) (result : Told) → DoneInLogical fileid w old result new
    → new.own.stripes ≡ old.own.stripes
done-count fileid w old new (Ok told) done = count-kept 0 fileid w old new (written_outcome 0 (Ok told)) (done 0)
done-count fileid w old new (Err e) done = ap (λ (s : LogicalSet). s.own.stripes) done.1

count-left : (v fileid : ℕ) (w : Writing) (old new : VolumeSet) (outcome : Outcome) → VolumeWrites v fileid w old outcome new
    → new.logical.own.stripes ≡ old.logical.own.stripes
count-left v fileid w old new outcome told = by (bytes_due (get old.logical.own.inodes.inodes fileid) old.logical.own.largest w) told
  where
    there : (b : Bool) → WrittenWhereThere b v fileid w old outcome new → new.logical.own.stripes ≡ old.logical.own.stripes
    there true h = ap (λ (s : VolumeSet). s.logical.own.stripes) h.1
    there false h =
        ap (λ (s : VolumeSet). s.logical.own.stripes) h.written
        ∙ parts-keep (λ l. l.stripes) (λ l stock. refl) (λ l dead. refl) h.numbers old h.left h.leave

    fits : (b : Bool) → WrittenWhereFits b v fileid w old outcome new → new.logical.own.stripes ≡ old.logical.own.stripes
    fits true h = ap (λ (s : VolumeSet). s.logical.own.stripes) h.1
    fits false h = there (nat_lt (for_holes old) (length (holes_of fileid w old.logical))) h

    by : (r : Result ℕ types.Status) → DueInVolume r v fileid w old outcome new → new.logical.own.stripes ≡ old.logical.own.stripes
    by (Err status) h = ap (λ (s : VolumeSet). s.logical.own.stripes) h.1
    by (Ok zero) h = ap (λ (s : VolumeSet). s.logical.own.stripes) h.1
    by (Ok (suc n)) h = fits (nat_lt (all_blocks old) (old.logical.own.inodes.used + length (holes_of fileid w old.logical))) h

volume-count : (fileid : ℕ) (w : Writing) (old new : VolumeSet) (result : Told) → DoneInVolume fileid w old result new
    → new.logical.own.stripes ≡ old.logical.own.stripes
volume-count fileid w old new (Ok told) done = count-left 0 fileid w old new (written_outcome 0 (Ok told)) (done 0)
volume-count fileid w old new (Err e) done = ap (λ (s : VolumeSet). s.logical.own.stripes) done.1

-- ---- what is held then

-- of as many stripes
final-is : {P : Type 0} (n : ℕ) (mid final : FilerLogical P) → mid.own.stripes ≡ n → (clears : Bool) (owner : Option Ownership) (fileid : ℕ)
    → logical_after mid final ≡ set_cleared clears owner fileid (logical_before mid)
    → logical_set n final ≡ set_cleared clears owner fileid (logical_set n mid)
final-is n mid final count clears owner fileid is =
    ap (λ (k : ℕ). logical_set k final) (sym count) ∙ is ∙ ap (λ (k : ℕ). set_cleared clears owner fileid (logical_set k mid)) count

pub logical-final : {P : Type 0} (old mid final : FilerLogical P) (fileid : ℕ) (w : Writing) (result : Told)
    → DoneInLogical fileid w (logical_before old) result (logical_after old mid) → (clears : Bool) (owner : Option Ownership)
    → logical_after mid final ≡ set_cleared clears owner fileid (logical_before mid)
    → logical_after old final ≡ set_cleared clears owner fileid (logical_after old mid)
logical-final old mid final fileid w result done clears owner is =
    final-is old.own.stripes mid final (done-count fileid w (logical_before old) (logical_after old mid) result done) clears owner fileid is

pub volume-final : {P : Type 0} (old mid : FilerVolume P) (final : FilerLogical P) (fileid : ℕ) (w : Writing) (result : Told)
    → DoneInVolume fileid w (volume_before old) result (volume_after old mid) → (clears : Bool) (owner : Option Ownership)
    → logical_after mid.logical final ≡ set_cleared clears owner fileid (logical_before mid.logical)
    → volume_after old (record mid { logical = final })
    ≡ record (volume_after old mid) { logical = set_cleared clears owner fileid (volume_after old mid).logical }
volume-final old mid final fileid w result done clears owner is =
    let count = volume-count fileid w (volume_before old) (volume_after old mid) result done in
    λ j. record { logical = final-is old.logical.own.stripes mid.logical final count clears owner fileid is j; ranges = vbn_set mid.vbn }
