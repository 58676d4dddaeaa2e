-- What a sound volume's nodes have: cards and block numbers, and a directory entries.
use Rattle.std.proofs.Common.{◌≡◌, ℕ, ◌*◌, ◌<◌, ◌≤◌, ◌==◌, nat_lt, true, List, [], ◌∷◌, Option, Some, None, refl, ap, ◌∙◌, subst, arith}
use Rattle.std.proofs.Common.{eq-eqb, ⊎_elim}
use Rattle.std.proofs.lemmas.Bool.{cases_lt, le-ltb}
use Rattle.std.proofs.Math.Nat.{mul-le-mul_left}
use Rattle.std.specs.Prelude.{is_some, IsSome}
use Rattle.std.specs.Option.{option_map}
use Rattle.std.specs.FinMap.{get}
use Rattle.nfs_model.specs.Server.{root_of_root}
use Rattle.nfs_model.specs.Parts.{Hand, one_if, times_listed, most_ranges}
use Rattle.nfs_model.specs.volume.Directories.{DirectoryValue}
use Rattle.nfs_model.specs.volume.Inodes.{Inode}
use Rattle.nfs_model.specs.volume.Ranges.{most_range_blocks}
use Rattle.nfs_model.specs.volume.Stripes.{Card}
use Rattle.filer_state.specs.state.Contents.{VolumeContents}
use Rattle.filer_state.specs.state.Names.{is_directory, size_in}
use Rattle.filer_state.specs.state.Sound.{IsSound}
use Rattle.filer_state.specs.state.Tree.{stripe_at, ranges_used, directory_or_empty}
use Rattle.filer_state.specs.state.WellFormed.{size_shown}
use Rattle.filer_state.specs.state.Lenses.{LogicalSet, logical_lens}
use Rattle.filer_state.specs.state.Promises.{HasVolume}
use Rattle.filer_state.specs.laws.lemmas.Limits.{used-fits, ranges-fit}
use Rattle.filer_state.specs.changes.NameAnswers.{entries_of}
use Rattle.filer_state.specs.changes.NodesSized.{all_freed}
use Rattle.filer_state.specs.changes.SizedLemmas.{freed-times}
use Rattle.service_names.specs.Changing.{AreNumbers, MayBeSet}
use Rattle.service_names.specs.lemmas.Whole.{whole-few}

-- ---- numbers

are-numbers : (size : ℕ) (ns : List ℕ) → ((n : ℕ) → 0 < times_listed n ns → n < most_ranges * size) → AreNumbers size ns
are-numbers size [] h = tt
are-numbers size (n ∷ ns) h =
    let here : one_if (n == n) ≡ 1 = ap one_if (eq-eqb n n refl) in
    (h n (omega arith), are-numbers size ns (λ m some. h m (omega arith)))

module _ (p : VolumeContents) (hands : List Hand) (made : ℕ) (sound : IsSound p hands made) where
  abbrev size_here : ℕ
  size_here = p.logical.dead.range_blocks

  -- the numbers of the ranges in use are among those of 16 ranges
  in-sixteen : size_here * ranges_used p.ranges ≤ size_here * most_ranges
  in-sixteen =
      let ranges = ranges-fit p.ranges in
      let sixteen = sound.well_formed.sixteen in
      let few : ranges_used p.ranges ≤ most_ranges = omega (arith, ranges, sixteen) in
      mul-le-mul_left size_here few

  numbers-fit : (fileid size : ℕ) → AreNumbers size_here (all_freed fileid size p.stripes)
  numbers-fit fileid size = are-numbers size_here (all_freed fileid size p.stripes) (λ n some.
      let once = sound.partition n in
      let all = freed-times fileid size root_of_root n p.stripes in
      let within = in-sixteen in
      ⊎_elim (λ (less : n < size_here * ranges_used p.ranges). omega (arith, less, within))
      (λ (more : size_here * ranges_used p.ranges ≤ n).
      let past : one_if (nat_lt n (size_here * ranges_used p.ranges)) ≡ 0 = ap one_if (le-ltb n (size_here * ranges_used p.ranges) more) in
      absurd (omega arith))
      (cases_lt n (size_here * ranges_used p.ranges)))

  -- no more blocks are used than any volume has
  pub used-most : p.logical.inodes.used ≤ most_ranges * most_range_blocks
  used-most =
      let fits = used-fits p hands sound.well_formed sound.partition in
      let within = in-sixteen in
      let most = sound.well_formed.size.most in
      omega (arith, fits, within, most)

  card-there : (fileid : ℕ) (inode : Inode) → get p.logical.inodes.inodes fileid ≡ Some inode → (i : ℕ) → i < p.logical.stripes
      → IsSome (get (stripe_at p.stripes i).cards fileid)
  card-there fileid inode there i less =
      let many = sound.well_formed.as_many in
      by (get (stripe_at p.stripes i).cards fileid)
      ((sound.well_formed.stripes i (omega arith)).cards fileid ∙ ap (option_map (λ (x : Inode). size_in x.kind)) there)
    where
      by : (o : Option Card) → option_map size_shown o ≡ Some (size_in inode.kind) → IsSome o
      by None e = absurd cc
      by (Some card) e = refl

module _ (v : ℕ) (set : LogicalSet) (whole : HasVolume v logical_lens [] set) where
  pub whole-used : set.own.inodes.used ≤ most_ranges * most_range_blocks
  whole-used =
      let most = used-most whole.0 whole.1 whole.3 whole.8 in
      let same : whole.0.logical.inodes.used ≡ set.own.inodes.used = ap (λ (s : LogicalSet). s.own.inodes.used) whole.4 in
      omega arith

  -- a node may be set
  pub whole-may-be-set : (fileid : ℕ) (inode : Inode) → get set.own.inodes.inodes fileid ≡ Some inode → MayBeSet fileid set
  whole-may-be-set fileid inode there = record {
    few = whole-few v set whole;
    used = whole-used;
    cards = subst (λ (s : LogicalSet). (i : ℕ) → i < s.own.stripes → IsSome (get (stripe_at s.stripes i).cards fileid)) whole.4
        (card-there whole.0 whole.1 whole.3 whole.8 fileid inode (ap (λ (s : LogicalSet). get s.own.inodes.inodes fileid) whole.4 ∙ there));
    numbers = subst (λ (s : LogicalSet). (size : ℕ) → AreNumbers s.own.dead.range_blocks (all_freed fileid size s.stripes)) whole.4
        (numbers-fit whole.0 whole.1 whole.3 whole.8 fileid);
  }

  -- a directory has entries
  pub whole-entered : (fileid : ℕ) (inode : Inode) → get set.own.inodes.inodes fileid ≡ Some inode → is_directory (Some inode) ≡ true
      → get set.own.directories fileid ≡ Some (entries_of set.own fileid)
  whole-entered fileid inode there as_directory =
      filled (get set.own.directories fileid)
      (subst (λ (s : LogicalSet). is_some (get s.own.directories fileid) ≡ is_directory (get s.own.inodes.inodes fileid)) whole.4
      (whole.8.well_formed.logical.named.as_directories fileid) ∙ ap is_directory there ∙ as_directory)
    where
      filled : (o : Option DirectoryValue) → is_some o ≡ true → o ≡ Some (directory_or_empty o)
      filled None e = absurd cc
      filled (Some d) e = refl
