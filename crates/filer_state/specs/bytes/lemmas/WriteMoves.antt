-- A write that passes the checks before that of space: whether it extends the file or fills a hole is told by its stripe.
use Rattle.std.proofs.Common.{◌≡◌, ℕ, ◌+◌, ◌*◌, ◌≤◌, ◌||◌, ◌&&◌, not, Bool, true, false, List, length, Option, Some, nat_lt, nat_le}
use Rattle.std.proofs.Common.{refl, sym, ap, ◌∙◌, arith}
use Rattle.std.proofs.lemmas.Bool.Decides.{nat_tests}
use Rattle.std.proofs.lemmas.List.FromFn.{length-map-range_with_len}
use Rattle.std.specs.List.{list_all}
use Rattle.std.specs.FinMap.{get}
use Rattle.std.specs.FinSet.{contains}
use Rattle.nfs_model.specs.Types.{Moment, Ownership}
use Rattle.nfs_model.specs.Server.{FileNode, block_size, used}
use Rattle.nfs_model.specs.Parts.{Hand}
use Rattle.nfs_model.specs.Serial.Write.{blocks_met, need}
use Rattle.nfs_model.specs.volume.Inodes.{Inode}
use Rattle.nfs_model.specs.volume.Stripes.{OfFile, StripeValue, reaches, is_filled, stays_within}
use Rattle.filer_state.specs.state.Contents.{VolumeContents}
use Rattle.filer_state.specs.state.Tree.{stripe_at, file_byte, file_filled, most_file_blocks, ranges_used, volume_of}
use Rattle.filer_state.specs.state.WellFormed.{IsLargest}
use Rattle.filer_state.specs.state.Sound.{IsSound}
use Rattle.filer_state.specs.state.Calls.{LieIn}
use Rattle.filer_state.specs.laws.lemmas.Counted.{used-is}
use Rattle.filer_state.specs.laws.lemmas.Limits.{used-fits}
use Rattle.filer_state.specs.bytes.lemmas.Met.{met-tests, none-left, filled-here}
use Rattle.filer_state.specs.bytes.lemmas.WrittenNodes.{file_before}

-- an end that is no further than the largest size is within the most blocks
pub end-small : (largest end : ℕ) → IsLargest largest → nat_lt largest end ≡ false → end ≤ block_size * most_file_blocks
unfolding most_file_blocks
end-small largest end is fits =
    let within : end ≤ largest = grind (arith, nat_tests) in
    let size = is.is in
    let most = is.most in
    omega (arith, size, most, within)

both-not : (a b : Bool) → (not a || not b) ≡ not (a && b)
both-not true b = refl
both-not false b = refl

past-not : (a b : ℕ) → nat_lt a b ≡ not (nat_le b a)
past-not a b = grind (arith, nat_tests)

pub first-test : (a b : Bool) → a && b ≡ true → a ≡ true
first-test true b h = refl
first-test false b h = h

pub second-test : (a b : Bool) → a && b ≡ true → b ≡ true
second-test true b h = h
second-test false b h = absurd cc

pub either-false : (a b : Bool) → (a || b) ≡ false → b ≡ false
either-false true b h = absurd cc
either-false false b h = h

module _ (p : VolumeContents) (i f offset n size : ℕ) (inode : Inode) (verifier : Option (List ℕ)) (lies : LieIn (length p.stripes) i f offset n)
    (small : offset + n ≤ block_size * most_file_blocks) where
  abbrev s : StripeValue
  s = stripe_at p.stripes i

  abbrev file : FileNode
  file = file_before p f inode size verifier

  needs : nat_lt 0 (need file offset n) ≡ not (list_all (is_filled s f) (blocks_met offset n))
  needs =
      none-left (contains (file_filled p.stripes f)) (blocks_met offset n)
      ∙ ap not (met-tests (contains (file_filled p.stripes f)) (is_filled s f) offset n
      (λ b some from below. filled-here p.stripes i f offset n lies small b some from below))

  -- it extends or fills exactly when it doesn't stay within
  pub moves-or-stays : (touch : Option Moment) (owner : Ownership) → get s.cards f ≡ Some (OfFile size touch owner)
      → (nat_lt (length file.bytes) (offset + n) || nat_lt 0 (need file offset n)) ≡ not (stays_within f offset n s)
  moves-or-stays touch owner card =
      let long : length file.bytes ≡ size = length-map-range_with_len (file_byte p.stripes f) 0 size in
      ap (λ (k : ℕ). nat_lt k (offset + n) || nat_lt 0 (need file offset n)) long
      ∙ (λ j. past-not size (offset + n) j || needs j)
      ∙ both-not (nat_le (offset + n) size) (list_all (is_filled s f) (blocks_met offset n))
      ∙ ap (λ o. not (reaches (offset + n) o && list_all (is_filled s f) (blocks_met offset n))) (sym card)

-- where nothing is filled there is space
pub space-there : (p : VolumeContents) (hands : List Hand) (made more : ℕ) → IsSound p hands made → nat_lt 0 more ≡ false
    → nat_lt (volume_of p).total (used (volume_of p) + more) ≡ false
space-there p hands made more sound none =
    let fits = used-fits p hands sound.well_formed sound.partition in
    let same = used-is p sound.well_formed in
    let all : used (volume_of p) ≤ p.logical.dead.range_blocks * ranges_used p.ranges = omega (arith, fits, same) in
    full (used (volume_of p)) (p.logical.dead.range_blocks * ranges_used p.ranges) all
  where
    full : (some most : ℕ) → some ≤ most → nat_lt most (some + more) ≡ false
    full some most less = grind (arith, nat_tests, none)
