-- At least one byte of a file written by the stripe in which the bytes lie, or moved.
use Rattle.std.proofs.Common.{◌≡◌, ℕ, ◌+◌, ◌-◌, ◌*◌, ◌<◌, ◌≤◌, ◌||◌, ◌&&◌, not, Bool, true, false, List, length, Option, Some, None}
use Rattle.std.proofs.Common.{nat_lt, nat_le, refl, sym, ap, ◌∙◌, subst, arith}
use Rattle.std.specs.Prelude.{if◌then◌else◌, is_none, is_some}
use Rattle.std.proofs.lemmas.Bool.Decides.{nat_tests}
use Rattle.std.specs.List.{list_all}
use Rattle.std.specs.FinMap.{get}
use Rattle.std.specs.FinSet.{from_list}
use Rattle.nfs_model.specs.Types.{Moment, Answer, Success, Failed, TooBig, NoSpace, WriteDone, Ownership}
use Rattle.nfs_model.specs.Tree.{Affinity, Stripe, Logical}
use Rattle.nfs_model.specs.Parts.{Hand}
use Rattle.nfs_model.specs.Server.{FileNode, File, VolumeState, block_size, used}
use Rattle.nfs_model.specs.Locate.{Effect, Fails, Changes, unless}
use Rattle.nfs_model.specs.Serial.Setattr.{with_node}
use Rattle.nfs_model.specs.Serial.Write.{Writing, bytes_kept, blocks_met, need, space_fault, write_some, written_file}
use Rattle.nfs_model.specs.Work.{Outcome, Replied, Moved, move_if, ready_bytes}
use Rattle.depot_rule.specs.Sums.{total}
use Rattle.nfs_model.specs.volume.Inodes.{Inode}
use Rattle.nfs_model.specs.volume.Stripes.{OfFile, StripeValue, reaches, is_filled, stays_within, overwritten}
use Rattle.filer_state.specs.state.Contents.{VolumeContents}
use Rattle.filer_state.specs.state.Tree.{stripe_at, most_file_blocks, volume_of}
use Rattle.filer_state.specs.state.Names.{size_in, size_of}
use Rattle.filer_state.specs.state.Kinds.{IsFile}
use Rattle.filer_state.specs.state.WellFormed.{StripeFits}
use Rattle.filer_state.specs.state.Partition.{parts_of, times_in_hand}
use Rattle.filer_state.specs.state.Sound.{IsSound}
use Rattle.filer_state.specs.state.Lenses.{stripe_lens}
use Rattle.filer_state.specs.state.Calls.{VolumeCall, unasked, WorksOn, LieIn, move_on, answer_of, volume_left}
use Rattle.filer_state.specs.laws.lemmas.Counted.{used-is}
use Rattle.filer_state.specs.laws.lemmas.Steps.{sound-later}
use Rattle.filer_state.specs.bytes.Writing.{StripeOutcome, tells, fails, some_written}
use Rattle.filer_state.specs.bytes.WritingLaws.{plain, write_call}
use Rattle.filer_state.specs.bytes.lemmas.Reads.{stripe-back}
use Rattle.filer_state.specs.bytes.lemmas.Overwritten.{numbers-same}
use Rattle.filer_state.specs.bytes.lemmas.OneStripe.{numbers-put}
use Rattle.filer_state.specs.bytes.lemmas.WrittenFits.{sound-written}
use Rattle.filer_state.specs.bytes.lemmas.WrittenNodes.{file_before, volume-written}
use Rattle.filer_state.specs.bytes.lemmas.WriteMoves.{end-small, first-test, second-test, either-false, moves-or-stays, space-there}

-- told by a stripe of a sound volume, whatever the hands are that weigh as much
abbrev pub IsDone : VolumeContents → ℕ → ℕ → List ℕ → Writing → List Hand → ℕ → StripeOutcome → Type 0
IsDone p i f handle w hands made told =
    WorksOn (write_call handle (Stripe p.number i) f w) p told.outcome ((stripe_lens i).put told.stripe p)
    × IsSound ((stripe_lens i).put told.stripe p) hands (made + 1)

module _ (p : VolumeContents) (i f : ℕ) (handle : List ℕ) (w : Writing) (hands hands' : List Hand) (made : ℕ) (sound : IsSound p hands made)
    (weigh : (n : ℕ) → total (times_in_hand p.number n) hands' ≡ total (times_in_hand p.number n) hands) (on : i < length p.stripes) where
  abbrev call : VolumeCall
  call = write_call handle (Stripe p.number i) f w

  abbrev s : StripeValue
  s = stripe_at p.stripes i

  abbrev seen : VolumeState
  seen = volume_of p

  abbrev n : ℕ
  n = length (bytes_kept w)

  abbrev Right : StripeOutcome → Type 0
  Right told = IsDone p i f handle w hands' made told

  fits : StripeFits p.logical i s
  fits = sound.well_formed.stripes i on

  -- ---- what changes nothing

  unchanged : (outcome : Outcome) → WorksOn call p outcome p → Right (record { outcome = outcome; stripe = s })
  unchanged outcome works =
      subst (λ (q : VolumeContents). WorksOn call p outcome q × IsSound q hands' (made + 1)) (sym (stripe-back i p))
      (works, sound-later p hands hands' made weigh sound)

  pub answers : (answer : Answer) (e : Effect) → move_on call p ≡ None → call.run seen ≡ e → answer ≡ answer_of 2 e → seen ≡ volume_left seen e
      → Right (tells answer s)
  answers answer e stays run is left =
      let none : used seen - used seen ≡ 0 = omega arith in
      unchanged (Replied (Success answer))
      (stays, ap Success (is ∙ ap (answer_of 2) (sym run)), left ∙ ap (volume_left seen) (sym run), (none, refl))

  -- ---- a file

  module _ (inode : Inode) (there : get p.logical.inodes.inodes f ≡ Some inode) (size blocks : ℕ) (verifier : Option (List ℕ))
      (is_file : IsFile inode.kind size blocks verifier) (touch : Option Moment) (owner : Ownership)
      (card : get s.cards f ≡ Some (OfFile size touch owner)) where
    abbrev file : FileNode
    file = file_before p f inode size verifier

    -- what the serial server does
    abbrev effect : Effect
    effect = Changes (WriteDone n seen.verifier) (with_node seen f (File (written_file file w.offset (bytes_kept w) w.moment)))

    -- by whether the end is past the largest size
    abbrev told_if : Bool → Effect
    told_if b = unless (if b then Some TooBig else None) (unless (space_fault seen file w.offset n) effect)

    abbrev moved_if : Bool → Option Affinity
    moved_if b = move_if (Some (parts_of p)) (Stripe p.number i) (if is_some (if b then Some TooBig else None) then None else Some (record {
      need = need file w.offset n;
      extends = nat_lt (length file.bytes) (w.offset + n);
      clears = false;
      fits = is_none (space_fault seen file w.offset n);
    }))

    -- ---- at least one byte, as many as were given

    module _ (run : call.run seen ≡ write_some seen f file (plain w))
        (moved : move_on call p ≡ move_if (Some (parts_of p)) (Stripe p.number i) (ready_bytes seen unasked file w.offset n))
        (here : LieIn (length p.stripes) i f w.offset n) where
      too-big : nat_lt s.largest (w.offset + n) ≡ true → Right (fails TooBig s)
      too-big past =
          let test : nat_lt p.logical.largest (w.offset + n) ≡ true = ap (λ (most : ℕ). nat_lt most (w.offset + n)) (sym fits.largest) ∙ past in
          answers (Failed TooBig 2) (Fails TooBig)
          (moved ∙ ap moved_if test) (run ∙ ap told_if test) refl refl

      module _ (within : nat_lt s.largest (w.offset + n) ≡ false) where
        within_largest : nat_lt p.logical.largest (w.offset + n) ≡ false
        within_largest = ap (λ (most : ℕ). nat_lt most (w.offset + n)) (sym fits.largest) ∙ within

        small : w.offset + n ≤ block_size * most_file_blocks
        small = end-small p.logical.largest (w.offset + n) sound.well_formed.largest within_largest

        extends-or-fills : (nat_lt (length file.bytes) (w.offset + n) || nat_lt 0 (need file w.offset n)) ≡ not (stays_within f w.offset n s)
        extends-or-fills = moves-or-stays p i f w.offset n size inode verifier here small touch owner card

        -- no bit of the mode is cleared
        clears-none : (a b : Bool) → (a || false || b) ≡ (a || b)
        clears-none true b = refl
        clears-none false b = refl

        moved-by : move_on call p ≡ (if not (stays_within f w.offset n s) then Some (Logical p.number) else None)
        moved-by =
            moved ∙ ap moved_if within_largest
            ∙ ap (λ (b : Bool). if b then Some (Logical p.number) else None)
            (clears-none (nat_lt (length file.bytes) (w.offset + n)) (nat_lt 0 (need file w.offset n)) ∙ extends-or-fills)

        moving : stays_within f w.offset n s ≡ false → Right (record { outcome = Moved (Logical p.number); stripe = s })
        moving leaves =
            unchanged (Moved (Logical p.number))
            (moved-by ∙ ap (λ (b : Bool). if not b then Some (Logical p.number) else None) leaves, refl)

        -- ---- all is there to be written over

        module _ (stays : stays_within f w.offset n s ≡ true) where
          abbrev next : StripeValue
          next = overwritten f w.offset (bytes_kept w) w.moment s

          abbrev after : VolumeContents
          after = (stripe_lens i).put next p

          both : nat_le (w.offset + n) size && list_all (is_filled s f) (blocks_met w.offset n) ≡ true
          both = ap (λ o. reaches (w.offset + n) o && list_all (is_filled s f) (blocks_met w.offset n)) (sym card) ∙ stays

          reached : w.offset + n ≤ size
          reached =
              let test = first-test (nat_le (w.offset + n) size) (list_all (is_filled s f) (blocks_met w.offset n)) both in grind (arith, nat_tests)

          filled : list_all (is_filled s f) (blocks_met w.offset n) ≡ true
          filled = second-test (nat_le (w.offset + n) size) (list_all (is_filled s f) (blocks_met w.offset n)) both

          fills-none : nat_lt 0 (need file w.offset n) ≡ false
          fills-none = either-false (nat_lt (length file.bytes) (w.offset + n)) (nat_lt 0 (need file w.offset n)) (extends-or-fills ∙ ap not stays)

          changes : call.run seen ≡ effect
          changes =
              run ∙ ap told_if within_largest
              ∙ ap (λ (b : Bool). unless (if b then Some NoSpace else None) effect)
              (space-there p hands made (need file w.offset n) sound fills-none)

          sized : size_of (get p.logical.inodes.inodes f) ≡ Some size
          sized = ap size_of there ∙ ap size_in is_file

          later : IsSound after hands' (made + 1)
          later = sound-written p i f w.offset (bytes_kept w) w.moment size on sized reached hands hands' made weigh sound

          same-used : used (volume_of after) - used seen ≡ 0
          same-used =
              let now = used-is after later.well_formed in let was = used-is p sound.well_formed in omega (arith, now, was)

          written : Right (record { outcome = Replied (Success (WriteDone n s.verifier)); stripe = next })
          written = (
            (
              moved-by ∙ ap (λ (b : Bool). if not b then Some (Logical p.number) else None) stays,
              ap (λ verifier. Success (WriteDone n verifier)) fits.verifier ∙ ap (λ e. Success (answer_of 2 e)) (sym changes),
              volume-written p i f w.offset (bytes_kept w) w.moment on here small filled size touch owner card inode there size blocks verifier is_file reached
                  ∙ ap (volume_left seen) (sym changes),
              (
                same-used,
                λ j. record (parts_of p) { files = from_list (numbers-put next p.stripes i (numbers-same f w.offset (bytes_kept w) w.moment s) j) },
              ),
            ),
            later,
          )

      pub some : Right (some_written p.number f w n s)
      some = by (nat_lt s.largest (w.offset + n)) refl (stays_within f w.offset n s) refl
        where
          by : (b : Bool) → nat_lt s.largest (w.offset + n) ≡ b → (t : Bool) → stays_within f w.offset n s ≡ t
              → Right (if b then fails TooBig s else if t then record {
                outcome = Replied (Success (WriteDone n s.verifier));
                stripe = overwritten f w.offset (bytes_kept w) w.moment s;
              }
              else record { outcome = Moved (Logical p.number); stripe = s })
          by true e t h = too-big e
          by false e true h = written e h
          by false e false h = moving e h
