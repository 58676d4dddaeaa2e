-- What is under Volume, as a file is extended step by step, its holes filled from the parts of the volume.
use Rattle.std.proofs.Common.{◌≡◌, ℕ, ◌+◌, List, [], ◌∷◌, length, refl, sym, ap, subst, ◌∙◌, inl, inr}
use Rattle.std.specs.Prelude.{map}
use Rattle.std.specs.FinSet.{FinSet}
use Rattle.std.specs.Ordering.{nat_cmp}
use Rattle.nfs_model.specs.Types.{Moment}
use Rattle.nfs_model.specs.volume.Logical.{LogicalValue}
use Rattle.nfs_model.specs.volume.Ranges.{DeadValue, dead_taken}
use Rattle.nfs_model.specs.volume.Stripes.{StripeValue}
use Rattle.filer_state.specs.state.Contents.{each}
use Rattle.filer_state.specs.state.Lenses.{VolumeSet}
use Rattle.filer_state.specs.state.Sets.{FilerLogical, FilerVolume, stripe_value, placed, vbn_set, logical_before, logical_after, volume_before, volume_after}
use Rattle.filer_state.specs.bytes.Extending.{holes, filled_with, stripe_grown, spans_written, stripes_extended}
use Rattle.filer_state.specs.bytes.WritingUp.{LeaveParts}
use Rattle.service_data.specs.Places.{StripesChanged}
use Rattle.service_data.specs.Holes.{HasRoom, Rise, zeroed, renumbered, stock_held, inode_extended_in, extending_by}
use Rattle.service_data.specs.Parts.{restriped, LeavesOne, TakesParts}
use Rattle.service_data.specs.WritingInVolume.{ExtendsFromParts}
use Rattle.service_data.proofs.Dealt.{restriped-parts}
use Rattle.service_data.proofs.Holed.{holes-rise, numbered-filled}

-- ---- numbers leave, and all but the stock and the dead stays under Logical

module _ {A : Type 0} (of : LogicalValue → A) (by_stock : (l : LogicalValue) (stock : FinSet nat_cmp) → of (stock_held stock l) ≡ of l)
    (by_dead : (l : LogicalValue) (dead : DeadValue) → of (record l { dead = dead }) ≡ of l) where
  one-keeps : (n : ℕ) (old new : VolumeSet) → LeavesOne n old new → of new.logical.own ≡ of old.logical.own
  one-keeps n old new (inl leaves) = ap (λ (s : VolumeSet). of s.logical.own) leaves.left ∙ by_stock old.logical.own _
  one-keeps n old new (inr (inl leaves)) = ap (λ (s : VolumeSet). of s.logical.own) leaves.left
  one-keeps n old new (inr (inr leaves)) =
      ap (λ (s : VolumeSet). of s.logical.own) leaves.left ∙ by_dead old.logical.own (dead_taken (n ∷ []) old.logical.own.dead)

  pub parts-keep : (ns : List ℕ) (old new : VolumeSet) → LeaveParts ns old new → of new.logical.own ≡ of old.logical.own
  parts-keep [] old new leave = ap (λ (s : VolumeSet). of s.logical.own) leave
  parts-keep (n ∷ ns) old new leave = parts-keep ns leave.0 new leave.2 ∙ one-keeps n old leave.0 leave.1

-- ---- holes filled with zeros

module _ {P : Type 0} (old : FilerVolume P) (filled : FilerLogical P) (fileid : ℕ) (bs : List ℕ)
    (fills : StripesChanged (zeroed fileid bs) old.logical filled) where
  abbrev with_zeros : FilerVolume P
  with_zeros = record old { logical = filled }

  -- as much room as before, when numbers have left
  pub still-room : (numbered : FilerVolume P) → TakesParts fileid bs with_zeros numbered → HasRoom fileid old.logical.own.inodes
      → HasRoom fileid numbered.logical.own.inodes
  still-room numbered numbers room =
      subst (HasRoom fileid)
      (sym (ap (λ (s : VolumeSet). s.logical.own.inodes) numbers.set
      ∙ parts-keep (λ l. l.inodes) (λ l stock. refl) (λ l dead. refl) numbers.numbers (volume_before with_zeros) numbers.left numbers.leave
      ∙ ap (λ (l : LogicalValue). l.inodes) fills.own)) room

-- ---- all of it

module _ {P : Type 0} (old : FilerVolume P) (filled : FilerLogical P) (numbered : FilerVolume P) (extended grown new : FilerLogical P)
    (fileid offset : ℕ) (written : List ℕ) (moment : Moment) (bs : List ℕ)
    (is : bs ≡ holes (logical_before old.logical).stripes fileid offset (length written)) (more : ℕ) (many : more ≡ length bs)
    (fills : StripesChanged (zeroed fileid bs) old.logical filled) (numbers : TakesParts fileid bs (with_zeros old filled fileid bs fills) numbered)
    (own : extended.own ≡ inode_extended_in fileid (offset + length written) more numbered.logical.own)
    (stripes : extended.stripes ≡ numbered.logical.stripes)
    (grows : StripesChanged (map (stripe_grown fileid (offset + length written))) extended grown)
    (writes : StripesChanged (spans_written fileid offset written moment) grown new) where
  abbrev before : List StripeValue
  before = (logical_before old.logical).stripes

  -- the volume without the numbers
  abbrev left : VolumeSet
  left = restriped before numbers.left

  abbrev after : FilerVolume P
  after = record numbered { logical = new }

  own-after : new.own ≡ inode_extended_in fileid (offset + length written) (length numbers.numbers) left.logical.own
  own-after =
      let as_many : more ≡ length numbers.numbers = many ∙ sym numbers.as_many in
      writes.own ∙ grows.own ∙ own
      ∙ ap (inode_extended_in fileid (offset + length written) more) (ap (λ (s : VolumeSet). s.logical.own) numbers.set)
      ∙ ap (λ (m : ℕ). inode_extended_in fileid (offset + length written) m left.logical.own) as_many

  count-same : new.own.stripes ≡ old.logical.own.stripes
  count-same =
      ap (λ (l : LogicalValue). l.stripes) own-after
      ∙ parts-keep (λ l. l.stripes) (λ l stock. refl) (λ l dead. refl) numbers.numbers
      (volume_before (with_zeros old filled fileid bs fills)) numbers.left numbers.leave
      ∙ ap (λ (l : LogicalValue). l.stripes) fills.own

  stripes-kept : (logical_before extended).stripes ≡ (logical_before numbered.logical).stripes
  stripes-kept = λ j. each (λ i. stripe_value (placed (stripes j).at i)) 0 (own j).stripes

  stripes-filled : (logical_before numbered.logical).stripes
      ≡ filled_with fileid (holes before fileid offset (length written)) numbers.numbers before
  stripes-filled =
      ap (λ (s : VolumeSet). s.logical.stripes) numbers.set ∙ ap (renumbered fileid bs numbers.numbers) fills.stripes
      ∙ numbered-filled fileid 0 bs numbers.numbers before
      (subst (Rise 0) (sym is) (holes-rise fileid before offset (length written))) numbers.as_many
      ∙ ap (λ (l : List ℕ). filled_with fileid l numbers.numbers before) is

  stripes-after : (logical_after old.logical new).stripes ≡ stripes_extended (extending_by fileid offset written moment numbers.numbers) before
  stripes-after =
      ap (λ (n : ℕ). each (λ i. stripe_value (placed new.stripes.at i)) 0 n) (sym count-same)
      ∙ writes.stripes
      ∙ ap (spans_written fileid offset written moment)
      (grows.stripes ∙ ap (map (stripe_grown fileid (offset + length written))) (stripes-kept ∙ stripes-filled))

  ranges-after : vbn_set numbered.vbn ≡ left.ranges
  ranges-after = ap (λ (s : VolumeSet). s.ranges) numbers.set

  filled-is : restriped before (volume_before (with_zeros old filled fileid bs fills)) ≡ volume_before old
  filled-is = λ j. record { logical = record { own = fills.own j; stripes = before }; ranges = vbn_set old.vbn }

  pub extends-from-parts : ExtendsFromParts fileid offset written moment (volume_before old) (volume_after old after)
  extends-from-parts = record {
    numbers = numbers.numbers;
    left = left;
    as_many = numbers.as_many ∙ ap (λ (l : List ℕ). length l) is;
    leave = subst (λ (s : VolumeSet). LeaveParts numbers.numbers s left) filled-is
        (restriped-parts before numbers.numbers (volume_before (with_zeros old filled fileid bs fills)) numbers.left numbers.leave);
    set = λ j. record { logical = record { own = own-after j; stripes = stripes-after j }; ranges = ranges-after j };
  }
