-- WRITE by what is under Volume.
use Rattle.std.proofs.Common.{◌≡◌, ℕ, zero, suc, ◌+◌, ◌-◌, ◌&&◌, Bool, true, false, List, [], ◌∷◌, length, Some, None, nat_lt}
use Rattle.std.proofs.Common.{refl, sym, ap, ◌∙◌, subst, arith}
use Rattle.std.specs.Prelude.{if◌then◌else◌, is_none, Result, Ok, Err}
use Rattle.std.specs.FinMap.{get}
use Rattle.std.specs.FinSet.{len}
use Rattle.nfs_model.specs.Types.{Answer, Status, NoSpace, Success, Failed, WriteDone}
use Rattle.nfs_model.specs.Tree.{Volume}
use Rattle.nfs_model.specs.Parts.{Hand, Fresh}
use Rattle.nfs_model.specs.Server.{FileNode, VolumeState, used}
use Rattle.nfs_model.specs.Locate.{Effect, Fails, Tells, unless}
use Rattle.nfs_model.specs.Serial.Write.{Writing, bytes_kept, need}
use Rattle.nfs_model.specs.Moves.{FilledInVolume}
use Rattle.nfs_model.specs.Work.{Outcome, Replied, Moved, move_if}
use Rattle.depot_rule.specs.Sums.{total}
use Rattle.filer_state.specs.state.Contents.{VolumeContents}
use Rattle.filer_state.specs.state.Tree.{volume_of}
use Rattle.filer_state.specs.state.Partition.{files_in, parts_of, times_in_hand}
use Rattle.filer_state.specs.state.Sound.{IsSound}
use Rattle.filer_state.specs.state.Lenses.{LogicalSet, VolumeSet, volume_lens}
use Rattle.filer_state.specs.state.Calls.{VolumeCall, WorksOn, move_on, answer_of, volume_left}
use Rattle.filer_state.specs.state.Running.{RunsOn}
use Rattle.filer_state.specs.laws.lemmas.Counted.{used-is}
use Rattle.filer_state.specs.laws.lemmas.Steps.{sound-later}
use Rattle.filer_state.specs.bytes.Extending.{holes, file_extended}
use Rattle.filer_state.specs.bytes.WritingLaws.{write_call}
use Rattle.filer_state.specs.bytes.WritingUp.{bytes_due, extending, for_holes, all_blocks, DueInVolume, WrittenWhereFits, WrittenWhereThere, WrittenFromParts}
use Rattle.filer_state.specs.bytes.WritingUp.{VolumeWrites}
use Rattle.filer_state.specs.bytes.lemmas.WrittenNodes.{file_before}
use Rattle.filer_state.specs.bytes.lemmas.Checks.{SomeBytes, Checked, checked, change_of}
use Rattle.filer_state.specs.bytes.lemmas.WrittenUp.{need-is, volume_written, sound-then, ran-then, seen-then, more-then, files-then}
use Rattle.filer_state.specs.bytes.lemmas.LeavingParts.{HaveLeft, have-left}
use Rattle.filer_state.specs.bytes.lemmas.FilledParts.{filled-none, sound-without, free-is, filled-parts}

module _ (p : VolumeContents) (f : ℕ) (handle : List ℕ) (w : Writing) (hands hands' : List Hand) (made : ℕ) (sound : IsSound p hands made)
    (weigh : (n : ℕ) → total (times_in_hand p.number n) hands' ≡ total (times_in_hand p.number n) hands) where
  abbrev call : VolumeCall
  call = write_call handle (Volume p.number) f w

  abbrev seen : VolumeState
  seen = volume_of p

  abbrev old : VolumeSet
  old = volume_lens.of p

  abbrev Done : Outcome → VolumeSet → Type 0
  Done outcome new = WorksOn call p outcome (volume_lens.put new p) × IsSound (volume_lens.put new p) hands' (made + 1)

  -- ---- what changes nothing

  done-as : (outcome other : Outcome) (new : VolumeSet) → outcome ≡ other → new ≡ old → Done other old → Done outcome new
  done-as outcome other new same stays done =
      subst (λ (o : Outcome). Done o new) (sym same) (subst (λ (s : VolumeSet). Done other s) (sym stays) done)

  tells : (answer : Answer) (e : Effect) → move_on call p ≡ None → call.run seen ≡ e → answer ≡ answer_of 2 e → seen ≡ volume_left seen e
      → Done (Replied (Success answer)) old
  tells answer e stays run is left = (
    (
      stays,
      ap Success (is ∙ ap (answer_of 2) (sym run)),
      left ∙ ap (volume_left seen) (sym run),
      filled-none (parts_of p) (used seen - used seen) (omega arith),
    ),
    sound-later p hands hands' made weigh sound,
  )

  -- ---- at least one byte

  module _ (bytes : SomeBytes p f handle w (Volume p.number)) where
    abbrev n : ℕ
    n = length (bytes_kept w)

    abbrev file : FileNode
    file = file_before p f bytes.inode bytes.size bytes.verifier

    abbrev many : ℕ
    many = length (holes p.stripes f w.offset n)

    needs : need file w.offset n ≡ many
    needs = need-is p f handle w (Volume p.number) bytes hands made sound

    -- it is full where the used blocks and the holes are more than all
    pub space-is : nat_lt seen.total (used seen + need file w.offset n) ≡ nat_lt (all_blocks old) (p.logical.inodes.used + many)
    space-is =
        let was : used seen ≡ p.logical.inodes.used = used-is p sound.well_formed in
        λ j. nat_lt (all_blocks old) (was j + needs j)

    -- it waits again where the rest is in hands
    moves : move_on call p ≡ (if is_none (if nat_lt (all_blocks old) (p.logical.inodes.used + many) then Some NoSpace else None)
        && nat_lt (for_holes old) many then Some (Volume p.number) else None)
    moves = bytes.moved
        ∙ (λ j. if is_none (if space-is j then Some NoSpace else None)
        && nat_lt (len p.logical.stock + free-is p [] old (none-moved) hands made sound j + len p.logical.dead.blocks) (needs j)
        then Some (Volume p.number) else None)
      where
        none-moved : HaveLeft [] old old
        none-moved = have-left [] old old refl

    full : nat_lt (all_blocks old) (p.logical.inodes.used + many) ≡ true → Done (Replied (Success (Failed NoSpace 2))) old
    full e = tells (Failed NoSpace 2) (Fails NoSpace)
        (moves ∙ ap (λ (b : Bool). if is_none (if b then Some NoSpace else None) && nat_lt (for_holes old) many then Some (Volume p.number) else None) e)
        (bytes.run ∙ ap (λ (b : Bool). unless (if b then Some NoSpace else None) (change_of p f w file)) (space-is ∙ e)) refl refl

    -- ---- there is space

    module _ (fits : nat_lt (all_blocks old) (p.logical.inodes.used + many) ≡ false) where
      pub moves-if : move_on call p ≡ (if nat_lt (for_holes old) many then Some (Volume p.number) else None)
      moves-if = moves
          ∙ ap (λ (b : Bool). if is_none (if b then Some NoSpace else None) && nat_lt (for_holes old) many then Some (Volume p.number) else None) fits

      waits : nat_lt (for_holes old) many ≡ true → Done (Moved (Volume p.number)) old
      waits e = (
        (moves-if ∙ ap (λ (b : Bool). if b then Some (Volume p.number) else None) e, refl),
        sound-later p hands hands' made weigh sound,
      )

      module _ (enough : nat_lt (for_holes old) many ≡ false) (outcome : Outcome) (new : VolumeSet) (r : WrittenFromParts f w old outcome new) where
        moved : HaveLeft r.numbers old r.left
        moved = have-left r.numbers old r.left r.leave

        left : IsSound (record p {
          logical = record p.logical { stock = r.left.logical.own.stock; dead = record p.logical.dead { blocks = r.left.logical.own.dead.blocks } };
          ranges = r.left.ranges;
        })
            (Fresh p.number r.numbers ∷ hands) made
        left = sound-without p r.numbers r.left moved hands made sound

        abbrev final : VolumeContents
        final = volume_written p f handle w (Volume p.number) bytes hands made sound r.left.logical.own.stock r.left.logical.own.dead.blocks r.left.ranges
            moved.used r.numbers r.as_many

        comes : FilledInVolume (used (volume_of final) - used seen) (parts_of p) (parts_of final)
        comes = filled-parts p r.numbers r.left moved hands made sound (files_in final.stripes)
            (files-then p f handle w (Volume p.number) bytes hands made sound r.left.logical.own.stock r.left.logical.own.dead.blocks r.left.ranges
            moved.used r.numbers r.as_many left)
            (used (volume_of final) - used seen)
            (more-then p f handle w (Volume p.number) bytes hands made sound r.left.logical.own.stock r.left.logical.own.dead.blocks r.left.ranges
            moved.used r.numbers r.as_many left)

        ran : call.run seen ≡ change_of p f w file
        ran = ran-then p f handle w (Volume p.number) bytes hands made sound r.left.logical.own.stock r.left.logical.own.dead.blocks r.left.ranges
            moved.used r.numbers r.as_many left

        done-final : WorksOn call p (Replied (Success (WriteDone n p.logical.verifier))) final × IsSound final hands' (made + 1)
        done-final = (
          (
            moves-if ∙ ap (λ (b : Bool). if b then Some (Volume p.number) else None) enough,
            ap (λ e. Success (answer_of 2 e)) (sym ran),
            seen-then p f handle w (Volume p.number) bytes hands made sound r.left.logical.own.stock r.left.logical.own.dead.blocks r.left.ranges
                moved.used r.numbers r.as_many left
                ∙ ap (volume_left seen) (sym ran),
            comes,
          ),
          sound-then p f handle w (Volume p.number) bytes hands made sound r.left.logical.own.stock r.left.logical.own.dead.blocks r.left.ranges
              moved.used r.numbers r.as_many left hands' weigh,
        )

        -- what is under Logical when the numbers have left
        abbrev held : LogicalSet
        held = record {
          own = record p.logical { stock = r.left.logical.own.stock; dead = record p.logical.dead { blocks = r.left.logical.own.dead.blocks } };
          stripes = p.stripes;
        }

        held-is : r.left.logical ≡ held
        held-is = λ j. record { own = moved.own j; stripes = moved.stripes j }

        is-final : final ≡ volume_lens.put (record r.left { logical = file_extended (extending f w r.numbers) r.left.logical }) p
        is-final = λ j. volume_lens.put (record r.left { logical = file_extended (extending f w r.numbers) (sym held-is j) }) p

        written : Done outcome new
        written =
            subst (λ (o : Outcome). Done o new) (sym r.replied)
            (subst (λ (s : VolumeSet). Done (Replied (Success (WriteDone n p.logical.verifier))) s) (sym r.written)
            (subst (λ (q : VolumeContents). WorksOn call p (Replied (Success (WriteDone n p.logical.verifier))) q × IsSound q hands' (made + 1))
            is-final done-final))

  -- ---- all of it

  by-due : (r : Result ℕ Status) → Checked p f handle w (Volume p.number) r → (outcome : Outcome) (new : VolumeSet)
      → DueInVolume r p.number f w old outcome new → Done outcome new
  by-due (Err status) known outcome new told =
      done-as outcome (Replied (Success (Failed status 2))) new told.0 told.1
      (tells (Failed status 2) (Fails status) (ap (move_if (Some (parts_of p)) (Volume p.number)) known.0) known.1 refl refl)
  by-due (Ok zero) known outcome new told =
      done-as outcome (Replied (Success (WriteDone 0 p.logical.verifier))) new told.0 told.1
      (tells (WriteDone 0 p.logical.verifier) (Tells (WriteDone 0 p.logical.verifier)) (ap (move_if (Some (parts_of p)) (Volume p.number)) known.0)
      known.1 refl refl)
  by-due (Ok (suc k)) known outcome new told =
      by (nat_lt (all_blocks old) (p.logical.inodes.used + length (holes p.stripes f w.offset (length (bytes_kept w))))) refl told
    where
      there : nat_lt (all_blocks old) (p.logical.inodes.used + length (holes p.stripes f w.offset (length (bytes_kept w)))) ≡ false
          → (b : Bool) → nat_lt (for_holes old) (length (holes p.stripes f w.offset (length (bytes_kept w)))) ≡ b
          → WrittenWhereThere b p.number f w old outcome new → Done outcome new
      there fits true e h = done-as outcome (Moved (Volume p.number)) new h.0 h.1 (waits known fits e)
      there fits false e h = written known fits e outcome new h

      by : (b : Bool) → nat_lt (all_blocks old) (p.logical.inodes.used + length (holes p.stripes f w.offset (length (bytes_kept w)))) ≡ b
          → WrittenWhereFits b p.number f w old outcome new → Done outcome new
      by true e h = done-as outcome (Replied (Success (Failed NoSpace 2))) new h.0 h.1 (full known e)
      by false e h = there e (nat_lt (for_holes old) (length (holes p.stripes f w.offset (length (bytes_kept w))))) refl h

  volume-done : (outcome : Outcome) (new : VolumeSet) → VolumeWrites p.number f w old outcome new → Done outcome new
  volume-done outcome new told =
      by-due (bytes_due (get p.logical.inodes.inodes f) p.logical.largest w) (checked p f handle w (Volume p.number)) outcome new told

-- ---- the law

pub volume-writes : (v f : ℕ) (handle : List ℕ) (w : Writing) (old new : VolumeSet) (outcome : Outcome)
    → VolumeWrites v f w old outcome new → RunsOn v volume_lens (write_call handle (Volume v) f w) old outcome new
volume-writes v f handle w old new outcome told p hands hands' made has numbered sound moved =
    subst (λ (u : ℕ). VolumeWrites u f w old outcome new → WorksOn (write_call handle (Volume u) f w) p outcome (volume_lens.put new p)
    × IsSound (volume_lens.put new p) hands' (made + 1)) numbered
    (λ h. volume-done p f handle w hands hands' made sound (λ n. let e = moved (times_in_hand p.number n) in omega (arith, e)) outcome new
    (subst (λ (s : VolumeSet). VolumeWrites p.number f w s outcome new) (sym has) h)) told
