-- Blocks that come into files: how many, and which.
use Rattle.std.proofs.Common.{◌≡◌, ℕ, ◌+◌, ◌-◌, ◌*◌, ◌≤◌, List, ◌∙◌, arith, nat_lt}
use Rattle.std.specs.Ordering.{nat_cmp}
use Rattle.std.specs.FinSet.{contains, from_list}
use Rattle.nfs_model.specs.Server.{used}
use Rattle.nfs_model.specs.Parts.{Hand, one_if, times_listed}
use Rattle.depot_rule.specs.Sums.{total}
use Rattle.filer_state.specs.state.Contents.{VolumeContents}
use Rattle.filer_state.specs.state.Tree.{volume_of, ranges_used}
use Rattle.filer_state.specs.state.WellFormed.{WellFormed}
use Rattle.filer_state.specs.state.Partition.{files_in, all_numbers, times_in_stripe, StandOnce}
use Rattle.filer_state.specs.laws.lemmas.Counted.{all-times, listed-times, used-is}
use Rattle.filer_state.specs.bytes.lemmas.Leaving.{one-at-most}

-- what is filled more
pub used-more : (p after : VolumeContents) (more : ℕ) → WellFormed p → WellFormed after → after.logical.inodes.used ≡ p.logical.inodes.used + more
    → used (volume_of after) - used (volume_of p) ≡ more
used-more p after more well then sum = let now = used-is after then in let was = used-is p well in omega (arith, now, was, sum)

-- numbers of which none stands twice, as a set
pub listed-count : (numbers : List ℕ) (m : ℕ) → times_listed m numbers ≤ 1 → one_if (contains (from_list {R = nat_cmp} numbers) m) ≡ times_listed m numbers
listed-count numbers m once = listed-times m numbers once

-- a number is in files as often as it stands in stripes
pub files-count : (p : VolumeContents) (hands : List Hand) → StandOnce p hands → (m : ℕ)
    → one_if (contains (files_in p.stripes) m) ≡ total (times_in_stripe m) p.stripes
files-count p hands once m =
    let o = once m in
    let most = one-at-most (nat_lt m (p.logical.dead.range_blocks * ranges_used p.ranges)) in
    let listed = all-times m p.stripes in
    listed-times m (all_numbers p.stripes) (omega (arith, o, most, listed)) ∙ listed
