-- At least one byte written by what is above a stripe, with numbers that left their parts of the volume for the holes.
use Rattle.std.proofs.Common.{◌≡◌, ℕ, ◌+◌, ◌-◌, ◌*◌, ◌≤◌, Bool, false, List, ◌∷◌, length, Some, None, nat_lt}
use Rattle.std.proofs.Common.{ap, ◌∙◌, arith}
use Rattle.std.specs.Prelude.{if◌then◌else◌}
use Rattle.std.proofs.lemmas.Bool.Decides.{nat_tests}
use Rattle.std.proofs.lemmas.List.{length-take}
use Rattle.std.specs.Ordering.{nat_cmp}
use Rattle.std.specs.FinSet.{FinSet, contains}
use Rattle.nfs_model.specs.Types.{NoSpace}
use Rattle.nfs_model.specs.Tree.{Affinity}
use Rattle.nfs_model.specs.Parts.{Hand, Fresh, one_if, times_listed}
use Rattle.nfs_model.specs.Server.{FileNode, File, VolumeState, used, most_bytes}
use Rattle.nfs_model.specs.Locate.{unless}
use Rattle.nfs_model.specs.Serial.Setattr.{with_node}
use Rattle.nfs_model.specs.Serial.Write.{Writing, bytes_kept, need, written_file}
use Rattle.depot_rule.specs.Sums.{total}
use Rattle.nfs_model.specs.volume.Ranges.{RangeValue}
use Rattle.filer_state.specs.state.Contents.{VolumeContents}
use Rattle.filer_state.specs.state.Tree.{volume_of, ranges_used}
use Rattle.filer_state.specs.state.Partition.{files_in, times_in_hand}
use Rattle.filer_state.specs.state.Sound.{IsSound}
use Rattle.filer_state.specs.state.Lenses.{logical_lens}
use Rattle.filer_state.specs.laws.lemmas.Counted.{used-is}
use Rattle.filer_state.specs.laws.lemmas.Limits.{used-fits}
use Rattle.filer_state.specs.bytes.Extending.{holes, file_extended}
use Rattle.filer_state.specs.bytes.WritingLaws.{write_call}
use Rattle.filer_state.specs.bytes.WritingUp.{extending}
use Rattle.filer_state.specs.bytes.lemmas.WriteMoves.{end-small}
use Rattle.filer_state.specs.bytes.lemmas.WrittenNodes.{file_before}
use Rattle.filer_state.specs.bytes.lemmas.Holes.{holes-seen}
use Rattle.filer_state.specs.bytes.lemmas.HolesFilled.{fresh-times}
use Rattle.filer_state.specs.bytes.lemmas.Extended.{sound-extended, used-extended, next-extended, volume-extended}
use Rattle.filer_state.specs.bytes.lemmas.Checks.{SomeBytes, change_of}
use Rattle.filer_state.specs.bytes.lemmas.Leaving.{one-at-most, sound-as}
use Rattle.filer_state.specs.bytes.lemmas.Carrying.{used-more, files-count}

pub not-past : (most end : ℕ) → nat_lt most end ≡ false → end ≤ most
not-past most end h = grind (arith, nat_tests)

pub within-not : (most end : ℕ) → end ≤ most → nat_lt most end ≡ false
within-not most end h = grind (arith, nat_tests)

module _ (p : VolumeContents) (f : ℕ) (handle : List ℕ) (w : Writing) (node : Affinity) (bytes : SomeBytes p f handle w node)
    (hands : List Hand) (made : ℕ) (sound : IsSound p hands made) where
  abbrev n : ℕ
  n = length (bytes_kept w)

  abbrev file : FileNode
  file = file_before p f bytes.inode bytes.size bytes.verifier

  -- what the serial server needs is what there is to be filled
  pub need-is : need file w.offset n ≡ length (holes p.stripes f w.offset n)
  need-is =
      ap (λ (bs : List ℕ). length bs) (holes-seen p.stripes f w.offset n
      (end-small p.logical.largest (w.offset + n) sound.well_formed.largest bytes.fits))

  module _ (stock dead : FinSet nat_cmp) (ranges : List RangeValue) (same_used : ranges_used ranges ≡ ranges_used p.ranges) (numbers : List ℕ)
      (as_many : length numbers ≡ length (holes p.stripes f w.offset n)) where
    -- the volume without the numbers
    abbrev pub volume_left_with : VolumeContents
    volume_left_with = record p { logical = record p.logical { stock = stock; dead = record p.logical.dead { blocks = dead } }; ranges = ranges }

    abbrev pub volume_written : VolumeContents
    volume_written = logical_lens.put (file_extended (extending f w numbers) (logical_lens.of volume_left_with)) volume_left_with

    module _ (left : IsSound volume_left_with (Fresh p.number numbers ∷ hands) made) where
      few : n ≤ 262144
      few = let long = length-take most_bytes w.written in omega (arith, long)

      fits : w.offset + n ≤ p.logical.largest
      fits = not-past p.logical.largest (w.offset + n) bytes.fits

      sound-final : IsSound volume_written hands (made + 2)
      sound-final = sound-extended volume_left_with (extending f w numbers) bytes.inode bytes.size bytes.blocks bytes.verifier bytes.there bytes.is_file
          hands made left as_many bytes.some few fits

      used-final : volume_written.logical.inodes.used ≡ p.logical.inodes.used + length numbers
      used-final = used-extended volume_left_with (extending f w numbers) bytes.inode bytes.size bytes.blocks bytes.verifier bytes.there bytes.is_file
          hands made left as_many bytes.some few fits

      next-final : volume_written.logical.inodes.next ≡ p.logical.inodes.next
      next-final = next-extended volume_left_with (extending f w numbers) bytes.inode bytes.size bytes.blocks bytes.verifier bytes.there bytes.is_file
          hands made left as_many bytes.some few fits

      -- all stays sound
      pub sound-then : (hands' : List Hand) → ((m : ℕ) → total (times_in_hand p.number m) hands' ≡ total (times_in_hand p.number m) hands)
          → IsSound volume_written hands' (made + 1)
      sound-then hands' weigh = sound-as volume_written hands hands' (made + 2) (made + 1) sound-final (record {
        fileids = (let same = next-final in let y = sound.young.fileids in omega (arith, same, y));
        cookies = λ q d e. let y = sound.young.cookies q d e in omega (arith, y);
      }) weigh

      -- there was space
      space-then : nat_lt (volume_of p).total (used (volume_of p) + need file w.offset n) ≡ false
      space-then =
          let most = used-fits volume_written hands sound-final.well_formed sound-final.partition in
          let now = used-final in
          let was = used-is p sound.well_formed in
          let needs = need-is in
          let many = as_many in
          let same : volume_written.logical.dead.range_blocks * ranges_used volume_written.ranges ≡ p.logical.dead.range_blocks * ranges_used p.ranges =
          ap (λ (u : ℕ). p.logical.dead.range_blocks * u) same_used in
          within-not (volume_of p).total (used (volume_of p) + need file w.offset n) (omega (arith, most, now, was, needs, many, same))

      pub ran-then : (write_call handle node f w).run (volume_of p) ≡ change_of p f w file
      ran-then = bytes.run ∙ ap (λ (b : Bool). unless (if b then Some NoSpace else None) (change_of p f w file)) space-then

      volume-same : volume_of volume_left_with ≡ volume_of p
      volume-same = λ j. record (volume_of p) { total = p.logical.dead.range_blocks * same_used j }

      pub seen-then : volume_of volume_written ≡ with_node (volume_of p) f (File (written_file file w.offset (bytes_kept w) w.moment))
      seen-then =
          volume-extended volume_left_with (extending f w numbers) bytes.inode bytes.size bytes.blocks bytes.verifier bytes.there bytes.is_file
          hands made left as_many bytes.some few fits
          ∙ ap (λ (v : VolumeState). with_node v f (File (written_file file w.offset (bytes_kept w) w.moment))) volume-same

      pub more-then : used (volume_of volume_written) - used (volume_of p) ≡ length numbers
      more-then = used-more p volume_written (length numbers) sound.well_formed sound-final.well_formed used-final

      -- ---- where the numbers are then

      -- none stands twice
      pub once-then : (m : ℕ) → times_listed m numbers ≤ 1
      once-then m =
          let o = left.partition m in
          let hand = fresh-times p.number m numbers in
          let most = one-at-most (nat_lt m (p.logical.dead.range_blocks * ranges_used ranges)) in
          omega (arith, o, hand, most)

      pub files-then : (m : ℕ) → one_if (contains (files_in volume_written.stripes) m) ≡ one_if (contains (files_in p.stripes) m) + times_listed m numbers
      files-then m =
          let was = left.partition m in
          let now = sound-final.partition m in
          let hand = fresh-times p.number m numbers in
          let old = files-count p hands sound.partition m in
          let new = files-count volume_written hands sound-final.partition m in
          omega (arith, was, now, hand, old, new)
