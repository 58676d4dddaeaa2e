-- WRITE by what is under Logical.
use Rattle.std.proofs.Common.{◌≡◌, ℕ, zero, suc, ◌+◌, ◌-◌, ◌≤◌, Bool, true, false, List, ◌∷◌, length, Some, None, nat_lt}
use Rattle.std.proofs.Common.{refl, sym, ap, ◌∙◌, subst, arith}
use Rattle.std.specs.Prelude.{if◌then◌else◌, Result, Ok, Err}
use Rattle.std.specs.Ordering.{nat_cmp}
use Rattle.std.specs.Cmp.{nat_cmp_total}
use Rattle.std.specs.FinMap.{get}
use Rattle.std.specs.FinSet as sets
use Rattle.std.specs.FinSet.{contains, from_list, len}
use Rattle.nfs_model.specs.Types.{Answer, Status, Success, Failed, WriteDone}
use Rattle.nfs_model.specs.Tree.{Logical, Volume}
use Rattle.nfs_model.specs.Parts.{Hand, Fresh, Parts, one_if, times_listed}
use Rattle.nfs_model.specs.Server.{FileNode, VolumeState, used}
use Rattle.nfs_model.specs.Locate.{Effect, Fails, Tells}
use Rattle.nfs_model.specs.Serial.Write.{Writing, bytes_kept}
use Rattle.nfs_model.specs.Moves.{FilledInLogical}
use Rattle.nfs_model.specs.Work.{Outcome, Replied, Moved, move_if}
use Rattle.depot_rule.specs.Sums.{total}
use Rattle.filer_state.specs.state.Contents.{VolumeContents}
use Rattle.filer_state.specs.state.Tree.{volume_of}
use Rattle.filer_state.specs.state.Partition.{files_in, parts_of, times_in_hand}
use Rattle.filer_state.specs.state.Sound.{IsSound}
use Rattle.filer_state.specs.state.Lenses.{LogicalSet, logical_lens}
use Rattle.filer_state.specs.state.Calls.{VolumeCall, WorksOn, move_on, answer_of, volume_left}
use Rattle.filer_state.specs.state.Running.{RunsOn}
use Rattle.filer_state.specs.attributes.lemmas.Setattr.{difference-empty, union-empty}
use Rattle.filer_state.specs.laws.lemmas.Counted.{len-listed}
use Rattle.filer_state.specs.laws.lemmas.Steps.{sound-later}
use Rattle.filer_state.specs.bytes.Extending.{holes}
use Rattle.filer_state.specs.bytes.WritingLaws.{write_call}
use Rattle.filer_state.specs.bytes.WritingUp.{bytes_due, DueInLogical, WrittenWhereEnough, WrittenFromStock, LogicalWrites}
use Rattle.filer_state.specs.bytes.lemmas.WrittenNodes.{file_before}
use Rattle.filer_state.specs.bytes.lemmas.HolesFilled.{fresh-times}
use Rattle.filer_state.specs.bytes.lemmas.Checks.{SomeBytes, Checked, checked, change_of}
use Rattle.filer_state.specs.bytes.lemmas.Leaving.{left-is, there-is, reached-is, leave-counts, sound-restocked}
use Rattle.filer_state.specs.bytes.lemmas.Carrying.{listed-count}
use Rattle.filer_state.specs.bytes.lemmas.WrittenUp.{need-is, volume_written, sound-then, ran-then, seen-then, more-then, once-then, files-then}

-- where nothing is filled no number moves
pub filled-none : (parts : Parts) (n : ℕ) → n ≡ 0 → FilledInLogical n parts parts
filled-none parts n none = record {
  stock = record {
    blocks = sets.empty;
    count = sets.len-empty nat_cmp ∙ sym none;
    there = sets.contains-is_subset nat_cmp_total sets.empty parts.stock (λ q e. let no_one = sets.contains-empty nat_cmp q in absurd cc);
    left = sym (difference-empty parts.stock);
    reached = sym (union-empty parts.files);
  };
  free = refl;
  dead = refl;
}

module _ (p : VolumeContents) (f : ℕ) (handle : List ℕ) (w : Writing) (hands hands' : List Hand) (made : ℕ) (sound : IsSound p hands made)
    (weigh : (n : ℕ) → total (times_in_hand p.number n) hands' ≡ total (times_in_hand p.number n) hands) where
  abbrev call : VolumeCall
  call = write_call handle (Logical p.number) f w

  abbrev seen : VolumeState
  seen = volume_of p

  abbrev old : LogicalSet
  old = logical_lens.of p

  abbrev Done : Outcome → LogicalSet → Type 0
  Done outcome new = WorksOn call p outcome (logical_lens.put new p) × IsSound (logical_lens.put new p) hands' (made + 1)

  -- ---- what changes nothing

  done-as : (outcome other : Outcome) (new : LogicalSet) → outcome ≡ other → new ≡ old → Done other old → Done outcome new
  done-as outcome other new same stays done =
      subst (λ (o : Outcome). Done o new) (sym same) (subst (λ (s : LogicalSet). Done other s) (sym stays) done)

  tells : (answer : Answer) (e : Effect) → move_on call p ≡ None → call.run seen ≡ e → answer ≡ answer_of 2 e → seen ≡ volume_left seen e
      → Done (Replied (Success answer)) old
  tells answer e stays run is left = (
    (
      stays,
      ap Success (is ∙ ap (answer_of 2) (sym run)),
      left ∙ ap (volume_left seen) (sym run),
      filled-none (parts_of p) (used seen - used seen) (omega arith),
    ),
    sound-later p hands hands' made weigh sound,
  )

  -- ---- at least one byte

  module _ (bytes : SomeBytes p f handle w (Logical p.number)) where
    abbrev n : ℕ
    n = length (bytes_kept w)

    abbrev file : FileNode
    file = file_before p f bytes.inode bytes.size bytes.verifier

    -- it moves where the stock is short
    moves : move_on call p ≡ (if nat_lt (len p.logical.stock) (length (holes p.stripes f w.offset n)) then Some (Volume p.number) else None)
    moves = bytes.moved
        ∙ ap (λ (k : ℕ). if nat_lt (len p.logical.stock) k then Some (Volume p.number) else None)
        (need-is p f handle w (Logical p.number) bytes hands made sound)

    short : nat_lt (len p.logical.stock) (length (holes p.stripes f w.offset n)) ≡ true → Done (Moved (Volume p.number)) old
    short e = (
      (moves ∙ ap (λ (b : Bool). if b then Some (Volume p.number) else None) e, refl),
      sound-later p hands hands' made weigh sound,
    )

    module _ (enough : nat_lt (len p.logical.stock) (length (holes p.stripes f w.offset n)) ≡ false) (outcome : Outcome) (new : LogicalSet)
        (r : WrittenFromStock f w old outcome new) where
      counts : (m : ℕ) → one_if (contains p.logical.stock m) ≡ one_if (contains r.stock m) + times_listed m r.numbers
      counts = leave-counts r.numbers p.logical.stock r.stock r.leave

      -- the numbers are in a hand
      left : IsSound (record p { logical = record p.logical { stock = r.stock; dead = p.logical.dead }; ranges = p.ranges })
          (Fresh p.number r.numbers ∷ hands) made
      left = sound-restocked p r.stock p.logical.dead.blocks hands (Fresh p.number r.numbers ∷ hands) made
          (λ m. let c = counts m in let hand = fresh-times p.number m r.numbers in omega (arith, c, hand)) sound

      abbrev final : VolumeContents
      final = volume_written p f handle w (Logical p.number) bytes hands made sound r.stock p.logical.dead.blocks p.ranges refl r.numbers r.as_many

      once : (m : ℕ) → times_listed m r.numbers ≤ 1
      once = once-then p f handle w (Logical p.number) bytes hands made sound r.stock p.logical.dead.blocks p.ranges refl r.numbers r.as_many left

      in-set : (m : ℕ) → one_if (contains (from_list {R = nat_cmp} r.numbers) m) ≡ times_listed m r.numbers
      in-set m = listed-count r.numbers m (once m)

      carried : FilledInLogical (used (volume_of final) - used seen) (parts_of p) (parts_of final)
      carried =
          let leaves : (m : ℕ) → one_if (contains p.logical.stock m) ≡ one_if (contains r.stock m) + one_if (contains (from_list {R = nat_cmp} r.numbers) m) =
          λ m. (let c = counts m in let i = in-set m in omega (arith, c, i)) in
          let comes : (m : ℕ) → one_if (contains (files_in final.stripes) m) ≡ one_if (contains (files_in p.stripes) m)
          + one_if (contains (from_list {R = nat_cmp} r.numbers) m) =
          λ m. (let c =
          files-then p f handle w (Logical p.number) bytes hands made sound r.stock p.logical.dead.blocks p.ranges refl r.numbers r.as_many left m in
          let i = in-set m in omega (arith, c, i)) in
          record {
            stock = record {
              blocks = from_list r.numbers;
              count = len-listed r.numbers once
                  ∙ sym (more-then p f handle w (Logical p.number) bytes hands made sound r.stock p.logical.dead.blocks p.ranges refl r.numbers r.as_many left);
              there = there-is p.logical.stock r.stock (from_list r.numbers) leaves;
              left = left-is p.logical.stock r.stock (from_list r.numbers) leaves;
              reached = reached-is (files_in final.stripes) (files_in p.stripes) (from_list r.numbers) comes;
            };
            free = refl;
            dead = refl;
          }

      ran : call.run seen ≡ change_of p f w file
      ran = ran-then p f handle w (Logical p.number) bytes hands made sound r.stock p.logical.dead.blocks p.ranges refl r.numbers r.as_many left

      done-final : WorksOn call p (Replied (Success (WriteDone n p.logical.verifier))) final × IsSound final hands' (made + 1)
      done-final = (
        (
          moves ∙ ap (λ (b : Bool). if b then Some (Volume p.number) else None) enough,
          ap (λ e. Success (answer_of 2 e)) (sym ran),
          seen-then p f handle w (Logical p.number) bytes hands made sound r.stock p.logical.dead.blocks p.ranges refl r.numbers r.as_many left
              ∙ ap (volume_left seen) (sym ran),
          carried,
        ),
        sound-then p f handle w (Logical p.number) bytes hands made sound r.stock p.logical.dead.blocks p.ranges refl r.numbers r.as_many left hands' weigh,
      )

      written : Done outcome new
      written =
          subst (λ (o : Outcome). Done o new) (sym r.replied)
          (subst (λ (s : LogicalSet). Done (Replied (Success (WriteDone n p.logical.verifier))) s) (sym r.written) done-final)

  -- ---- all of it

  by-due : (r : Result ℕ Status) → Checked p f handle w (Logical p.number) r → (outcome : Outcome) (new : LogicalSet)
      → DueInLogical r p.number f w old outcome new → Done outcome new
  by-due (Err status) known outcome new told =
      done-as outcome (Replied (Success (Failed status 2))) new told.0 told.1
      (tells (Failed status 2) (Fails status) (ap (move_if (Some (parts_of p)) (Logical p.number)) known.0) known.1 refl refl)
  by-due (Ok zero) known outcome new told =
      done-as outcome (Replied (Success (WriteDone 0 p.logical.verifier))) new told.0 told.1
      (tells (WriteDone 0 p.logical.verifier) (Tells (WriteDone 0 p.logical.verifier)) (ap (move_if (Some (parts_of p)) (Logical p.number)) known.0)
      known.1 refl refl)
  by-due (Ok (suc k)) known outcome new told =
      by (nat_lt (len p.logical.stock) (length (holes p.stripes f w.offset (length (bytes_kept w))))) refl told
    where
      by : (b : Bool) → nat_lt (len p.logical.stock) (length (holes p.stripes f w.offset (length (bytes_kept w)))) ≡ b
          → WrittenWhereEnough b p.number f w old outcome new → Done outcome new
      by true e h = done-as outcome (Moved (Volume p.number)) new h.0 h.1 (short known e)
      by false e h = written known e outcome new h

  logical-done : (outcome : Outcome) (new : LogicalSet) → LogicalWrites p.number f w old outcome new → Done outcome new
  logical-done outcome new told =
      by-due (bytes_due (get p.logical.inodes.inodes f) p.logical.largest w) (checked p f handle w (Logical p.number)) outcome new told

-- ---- the law

pub logical-writes : (v f : ℕ) (handle : List ℕ) (w : Writing) (old new : LogicalSet) (outcome : Outcome)
    → LogicalWrites v f w old outcome new → RunsOn v logical_lens (write_call handle (Logical v) f w) old outcome new
logical-writes v f handle w old new outcome told p hands hands' made has numbered sound moved =
    subst (λ (u : ℕ). LogicalWrites u f w old outcome new → WorksOn (write_call handle (Logical u) f w) p outcome (logical_lens.put new p)
    × IsSound (logical_lens.put new p) hands' (made + 1)) numbered
    (λ h. logical-done p f handle w hands hands' made sound (λ n. let e = moved (times_in_hand p.number n) in omega (arith, e)) outcome new
    (subst (λ (s : LogicalSet). LogicalWrites p.number f w s outcome new) (sym has) h)) told
