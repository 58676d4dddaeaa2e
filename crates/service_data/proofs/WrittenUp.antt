-- WRITE by what is under Logical, as its checks come out.
use Rattle.std.proofs.Common.{◌≡◌, ℕ, zero, suc, ◌+◌, ◌≤◌, ◌==◌, ◌&&◌, min, not, Bool, true, false, List, length, take, Option, Some, None, Result, Ok, Err, nat_lt}
use Rattle.std.proofs.Common.{refl, sym, ap, ◌∙◌, subst, arith}
use Rattle.std.specs.Prelude.{if◌then◌else◌}
use Rattle.std.specs.declared.alloc.AllocError.{AllocError}
use Rattle.std.proofs.lemmas.Bool.{eqb-true}
use Rattle.std.proofs.lemmas.List.{length-take, take_min}
use Rattle.std.proofs.Math.Nat.{mul-le-mul_left}
use Rattle.std.specs.FinMap.{get}
use Rattle.nfs_model.specs.Types as types
use Rattle.nfs_model.specs.Types.{Ownership, WriteDone, Failed, Success}
use Rattle.nfs_model.specs.Tree.{Volume, Logical}
use Rattle.nfs_model.specs.Server.{Attributes, most_bytes}
use Rattle.nfs_model.specs.Serial.Write.{Writing, bytes_kept}
use Rattle.nfs_model.specs.Work.{Outcome, Replied, Moved, Starved}
use Rattle.nfs_values.specs.Status.{status_of}
use Rattle.nfs_values.specs.declared.answer.WriteResults.{WriteResults}
use Rattle.nfs_values.specs.declared.status.Status.{Status}
use Rattle.nfs_values.specs.declared.status.Status.TheVariants.{Invalid, TooBig}
use Rattle.nfs_model.specs.volume.Inodes.{InodeKind, RegularFile, DirectoryKind, SpecialFile, Inode, IsInodes}
use Rattle.nfs_model.specs.volume.lemmas.Inodes.{filled-within}
use Rattle.nfs_model.specs.volume.Stripes.{Card}
use Rattle.filer_state.specs.state.Lenses.{LogicalSet, logical_lens}
use Rattle.filer_state.specs.state.Running.{RunsOn}
use Rattle.filer_state.specs.state.Tree.{ranges_used}
use Rattle.filer_state.specs.state.WellFormed.{owner_by}
use Rattle.filer_state.specs.laws.lemmas.Limits.{used-fits, ranges-fit}
use Rattle.filer_state.specs.bytes.WritingLaws.{plain, write_call}
use Rattle.filer_state.specs.bytes.WritingUpLaws.{LogicalWriteIsRight, LogicalWriteMayStarve}
use Rattle.filer_state.specs.bytes.Permitted.{owner_on, owner_at, owner_held, write_refused, clears_owned, write_by}
use Rattle.filer_state.specs.bytes.PermittedLaws.{LogicalWriteIsPermitted, LogicalWriteIsRefused}
use Rattle.filer_state.specs.bytes.WritingUp.{LogicalWrites, DueInLogical, WrittenWhereEnough, kind_due, bytes_due}
use Rattle.service_data.specs.Promises.{IsHeld}
use Rattle.service_data.specs.Holes.{HasRoom, Extends}
use Rattle.service_data.specs.Writing.{bytes_to_write, kind_card, card_shown, written_outcome, MayStarve, DoneInLogical, WritesInLogical}
use Rattle.service_data.specs.SetIds.{tells_written, set_cleared}
use Rattle.service_data.proofs.Written.{given-some}
use Rattle.service_data.proofs.Cleared.{has-written}

-- ---- the checks

-- what is due, with the model's statuses
abbrev as_due : Result ℕ Status → Result ℕ types.Status
as_due (Ok n) = Ok n
as_due (Err status) = Err (status_of status)

module _ (largest : ℕ) (w : Writing) where
  some-due : (w.count == length w.written) ≡ true
      → (if nat_lt largest (w.offset + length (bytes_kept w)) then Err types.TooBig else Ok (length (bytes_kept w)))
      ≡ as_due (if nat_lt largest (w.offset + min w.count most_bytes) then Err TooBig else Ok (min w.count most_bytes))
  some-due same =
      ap (λ (n : ℕ). if nat_lt largest (w.offset + n) then Err types.TooBig else Ok n) many
      ∙ by (nat_lt largest (w.offset + min w.count most_bytes)) (min w.count most_bytes)
    where
      many : length (bytes_kept w) ≡ min w.count most_bytes
      many =
          let is : w.count ≡ length w.written = eqb-true w.count (length w.written) same in
          let kept = length-take most_bytes w.written in
          omega (arith, is, kept)

      by : (b : Bool) (n : ℕ) → (if b then Err types.TooBig else Ok n) ≡ as_due (if b then Err TooBig else Ok n)
      by true n = refl
      by false n = refl

  kind-is : (a : Attributes) (k : InodeKind)
      → kind_due k largest w ≡ as_due (bytes_to_write (Some (kind_card a k)) largest w.offset w.count (length w.written))
  kind-is a (RegularFile size filled verifier) = by (w.count == length w.written) refl (w.count == 0)
    where
      by : (b : Bool) → (w.count == length w.written) ≡ b → (t : Bool)
          → (if not b then Err types.Invalid
          else if t then Ok 0
          else if nat_lt largest (w.offset + length (bytes_kept w)) then Err types.TooBig else Ok (length (bytes_kept w)))
          ≡ as_due (if not b then Err Invalid
          else if t then Ok 0
          else if nat_lt largest (w.offset + min w.count most_bytes) then Err TooBig else Ok (min w.count most_bytes))
      by false e t = refl
      by true e true = refl
      by true e false = some-due e
  kind-is a (DirectoryKind parent subdirectories) = refl
  kind-is a (SpecialFile special size) = refl

  due-is : (o : Option Inode) → bytes_due o largest w ≡ as_due (bytes_to_write (card_shown o) largest w.offset w.count (length w.written))
  due-is None = refl
  due-is (Some inode) = kind-is inode.attributes inode.kind

-- ---- what follows

module _ (fileid : ℕ) (w : Writing) (old : LogicalSet) (card : Option Card) (found : card ≡ card_shown (get old.own.inodes.inodes fileid))
    (largest : ℕ) (limit : largest ≡ old.own.largest) where
  pub due-told : (r : Result ℕ Status) → r ≡ bytes_to_write card largest w.offset w.count (length w.written)
      → bytes_due (get old.own.inodes.inodes fileid) old.own.largest w ≡ as_due r
  due-told r is =
      due-is old.own.largest w (get old.own.inodes.inodes fileid)
      ∙ ap as_due (sym (is ∙ (λ j. bytes_to_write (found j) (limit j) w.offset w.count (length w.written))))

  by-due : (r : Result ℕ types.Status) → bytes_due (get old.own.inodes.inodes fileid) old.own.largest w ≡ r → (v : ℕ) (outcome : Outcome) (new : LogicalSet)
      → DueInLogical r v fileid w old outcome new → LogicalWrites v fileid w old outcome new
  by-due r is v outcome new done = subst (λ (r : Result ℕ types.Status). DueInLogical r v fileid w old outcome new) (sym is) done

  pub done-failed : (status : Status) → Err status ≡ bytes_to_write card largest w.offset w.count (length w.written) → (v : ℕ)
      → LogicalWrites v fileid w old (Replied (Success (Failed (status_of status) 2))) old
  done-failed status is v = by-due (Err (status_of status)) (due-told (Err status) is) v _ old (refl, refl)

  module _ (given : ℕ) (is : Ok given ≡ bytes_to_write card largest w.offset w.count (length w.written)) (some : given ≡ 0 → ⊥) where
    pub kept-same : take given w.written ≡ bytes_kept w
    kept-same =
        let all = given-some card largest w.offset w.count (length w.written) given is some in
        let least : given ≡ min most_bytes (length w.written) = omega (arith, all.0, all.1) in
        ap (λ (n : ℕ). take n w.written) least ∙ take_min most_bytes w.written

    pub kept-long : given ≡ length (bytes_kept w)
    kept-long =
        let all = given-some card largest w.offset w.count (length w.written) given is some in
        let long = length-take most_bytes w.written in
        omega (arith, all.0, all.1, long)

    pub more-due : (n : ℕ) → given ≡ suc n → bytes_due (get old.own.inodes.inodes fileid) old.own.largest w ≡ Ok (suc n)
    more-due n more = due-told (Ok given) is ∙ ap Ok more

    with-kept : (r : Result Bool AllocError) (new : LogicalSet) → Extends fileid w.offset (take given w.written) w.moment old r new
        → Extends fileid w.offset (bytes_kept w) w.moment old r new
    with-kept r new done = subst (λ (bytes : List ℕ). Extends fileid w.offset bytes w.moment old r new) kept-same done

    pub done-written : (verifier : List ℕ) → verifier ≡ old.own.verifier → (new : LogicalSet)
        → Extends fileid w.offset (take given w.written) w.moment old (Ok true) new → (v : ℕ)
        → LogicalWrites v fileid w old (Replied (Success (WriteDone given verifier))) new
    done-written verifier same new done v = by given refl
      where
        by : (n : ℕ) → given ≡ n → LogicalWrites v fileid w old (Replied (Success (WriteDone given verifier))) new
        by zero none = absurd (some none)
        by (suc n) more =
            let all = with-kept (Ok true) new done in
            by-due (Ok (suc n)) (more-due n more) v _ new
            (subst (λ (b : Bool). WrittenWhereEnough b v fileid w old (Replied (Success (WriteDone given verifier))) new) (sym all.0) (record {
              numbers = all.1.numbers;
              stock = all.1.stock;
              as_many = all.1.as_many;
              leave = all.1.leave;
              replied = λ j. Replied (Success (WriteDone (kept-long j) (same j)));
              written = all.1.set;
            }))

    pub done-moved : (new : LogicalSet) → Extends fileid w.offset (take given w.written) w.moment old (Ok false) new → (v : ℕ)
        → LogicalWrites v fileid w old (Moved (Volume v)) new
    done-moved new done v = by given refl
      where
        by : (n : ℕ) → given ≡ n → LogicalWrites v fileid w old (Moved (Volume v)) new
        by zero none = absurd (some none)
        by (suc n) more =
            let all = with-kept (Ok false) new done in
            by-due (Ok (suc n)) (more-due n more) v _ new
            (subst (λ (b : Bool). WrittenWhereEnough b v fileid w old (Moved (Volume v)) new) (sym all.0) (refl, all.1))

    pub done-starved : (e : AllocError) (new : LogicalSet) → Extends fileid w.offset (take given w.written) w.moment old (Err e) new
        → MayStarve fileid w old × (new ≡ old)
    done-starved e new done = by given refl
      where
        by : (n : ℕ) → given ≡ n → MayStarve fileid w old × (new ≡ old)
        by zero none = absurd (some none)
        by (suc n) more =
            let all = with-kept (Err e) new done in
            (record { more = n; due = more-due n more; enough = all.0; some = all.1 }, all.2)

-- ---- room for more blocks

module _ (fileid : ℕ) (set : LogicalSet) (whole : IsHeld set) where
  used-most : set.own.inodes.used ≤ 268435456
  used-most =
      let p = whole.1.0 in
      let sound = whole.1.8 in
      let fits = used-fits p whole.1.1 sound.well_formed sound.partition in
      let ranges = ranges-fit p.ranges in
      let sixteen = sound.well_formed.sixteen in
      let few : ranges_used p.ranges ≤ 16 = omega (arith, ranges, sixteen) in
      let within = mul-le-mul_left p.logical.dead.range_blocks few in
      let size = sound.well_formed.size.most in
      let same : p.logical.inodes.used ≡ set.own.inodes.used = ap (λ (s : LogicalSet). s.own.inodes.used) whole.1.4 in
      omega (arith, fits, within, size, same)

  pub has-room : HasRoom fileid set.own.inodes
  has-room = record {
    used = let most = used-most in omega (arith, most);
    filled = λ inode there.
        let most = used-most in
        let within = filled-within set.own.inodes fileid inode
        (subst (λ (s : LogicalSet). IsInodes s.own.inodes) whole.1.4 whole.1.8.well_formed.logical.inodes) there in
        omega (arith, most, within);
  }

-- ---- what has happened is right

-- where nothing is asked of the caller
plainly : LogicalWriteIsRight → LogicalWriteMayStarve → (fileid : ℕ) (w : Writing) (old new : LogicalSet)
    (result : Result (Option (Result WriteResults Status)) AllocError) → DoneInLogical fileid w old result new → (v : ℕ) (handle : List ℕ)
    → RunsOn v logical_lens (write_call handle (Logical v) fileid w) old (written_outcome v result) new
plainly right starves fileid w old new (Ok told) done v handle = right v fileid handle w old new (written_outcome v (Ok told)) (done v)
plainly right starves fileid w old new (Err e) done v handle =
    subst (λ (s : LogicalSet). RunsOn v logical_lens (write_call handle (Logical v) fileid w) old Starved s) (sym done.1)
    (starves v fileid done.0.more handle w old done.0.due done.0.enough done.0.some)

-- who owns the file is on the card that it has
pub owner-held : (fileid : ℕ) (set : LogicalSet) (owner : Option Ownership) (card : Option Card) → owner ≡ owner_on card
    → card ≡ card_shown (get set.own.inodes.inodes fileid) → owner ≡ owner_held set fileid
owner-held fileid set owner card owns found = owns ∙ ap owner_on found ∙ by (get set.own.inodes.inodes fileid)
  where
    kind : (a : Attributes) (k : InodeKind) → owner_on (Some (kind_card a k)) ≡ owner_by a k
    kind a (RegularFile size filled verifier) = refl
    kind a (DirectoryKind parent subdirectories) = refl
    kind a (SpecialFile special size) = refl

    by : (o : Option Inode) → owner_on (card_shown o) ≡ owner_at o
    by None = refl
    by (Some inode) = kind inode.attributes inode.kind

module _ (fileid : ℕ) (w : Writing) (old : LogicalSet) (owner : Option Ownership) (owns : owner ≡ owner_held old fileid) where
  pub right-refused : LogicalWriteIsRefused → (refusal : Status) → Some (status_of refusal) ≡ write_refused w.caller owner
      → WritesInLogical fileid w old (Ok (Some (Err refusal))) old
  right-refused law refusal refuses v handle =
      law v fileid handle w (status_of refusal) old (ap (write_refused w.caller) (sym owns) ∙ sym refuses)

  pub right-done : LogicalWriteIsRight → LogicalWriteMayStarve → LogicalWriteIsPermitted → None ≡ write_refused w.caller owner
      → (mid new : LogicalSet) (result : Result (Option (Result WriteResults Status)) AllocError) → DoneInLogical fileid (plain w) old result mid
      → new ≡ set_cleared (clears_owned w.caller owner && tells_written result) owner fileid mid → WritesInLogical fileid w old result new
  right-done right starves law permits mid new result done cleared v handle =
      subst (RunsOn v logical_lens (write_by handle (Logical v) fileid w) old (written_outcome v result))
      ((λ j. set_cleared (clears_owned w.caller (sym owns j) && has-written v result j) (sym owns j) fileid mid) ∙ sym cleared)
      (law v fileid handle w old (written_outcome v result) mid (ap (write_refused w.caller) (sym owns) ∙ sym permits)
      (plainly right starves fileid (plain w) old mid result done v handle))
