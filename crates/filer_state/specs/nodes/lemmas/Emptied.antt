-- The blocks that leave a file of a size set are dead.
use Rattle.std.proofs.Common.{◌≡◌, ℕ, ◌+◌, ◌-◌, ◌*◌, ◌≤◌, ◌&&◌, not, Bool, true, false, List, length, Option, Some, refl, sym, ap, ◌∙◌, arith, nat_lt}
use Rattle.std.specs.Ordering.{nat_cmp}
use Rattle.std.specs.Cmp.{nat_cmp_total}
use Rattle.std.specs.FinMap.{get, nat_cmp-IsAntisymmetric}
use Rattle.std.specs.FinSet as sets
use Rattle.std.specs.FinSet.{contains, difference, from_list, contains-is_subset, contains-difference}
use Rattle.nfs_model.specs.Server.{used}
use Rattle.nfs_model.specs.Parts.{Hand, one_if, times_listed}
use Rattle.nfs_model.specs.Moves.{Emptied}
use Rattle.depot_rule.specs.Sums.{total}
use Rattle.nfs_model.specs.volume.Inodes.{filled_blocks}
use Rattle.nfs_model.specs.volume.lemmas.Inodes.{used-set}
use Rattle.nfs_model.specs.Serial.Rights.{ownership_of}
use Rattle.filer_state.specs.state.Contents.{VolumeContents}
use Rattle.filer_state.specs.state.Tree.{volume_of, ranges_used}
use Rattle.filer_state.specs.state.Kinds.{IsFile}
use Rattle.filer_state.specs.state.Partition.{parts_of, all_numbers, files_in, times_in_stripe, StandOnce}
use Rattle.filer_state.specs.state.WellFormed.{WellFormed}
use Rattle.filer_state.specs.laws.lemmas.Counted.{all-times, listed-times, len-listed, used-is}
use Rattle.filer_state.specs.nodes.Sizing.{Sizing, all_freed, kind_sized, inode_sized}
use Rattle.filer_state.specs.nodes.lemmas.Sized.{sized_in, freed-times, fewer-filled, well-sized}

module _ (p : VolumeContents) (m : Sizing) (hands : List Hand) (partition : StandOnce p hands) (well : WellFormed p)
    (there : get p.logical.inodes.inodes m.fileid ≡ Some m.inode)
    (old_size filled : ℕ) (verifier : Option (List ℕ)) (is_file : IsFile m.inode.kind old_size filled verifier)
    (small : m.size ≤ p.logical.largest) where
  abbrev freed : List ℕ
  freed = all_freed m.fileid m.size p.stripes

  abbrev after : VolumeContents
  after = sized_in m p

  one-at-most : (b : Bool) → one_if b ≤ 1
  one-at-most true = omega arith
  one-at-most false = omega arith

  -- of the numbers in files each stands once
  once : (n : ℕ) → total (times_in_stripe n) p.stripes ≤ 1
  once n =
      let all = partition n in
      let most = one-at-most (nat_lt n (p.logical.dead.range_blocks * ranges_used p.ranges)) in
      omega (arith, all, most)

  stands : (n : ℕ) → one_if (contains (files_in p.stripes) n) ≡ times_listed n (all_numbers p.stripes)
  stands n = listed-times n (all_numbers p.stripes) (let all = all-times n p.stripes in let most = once n in omega (arith, all, most))

  leaves : (n : ℕ) → one_if (contains (from_list {R = nat_cmp} freed) n) ≡ times_listed n freed
  leaves n = listed-times n freed (let left = freed-times m.fileid m.size (ownership_of m.attributes) n p.stripes in let most = once n in omega (arith, left, most))

  stays : (n : ℕ) → one_if (contains (files_in after.stripes) n) ≡ times_listed n (all_numbers after.stripes)
  stays n = listed-times n (all_numbers after.stripes)
      (let all = all-times n after.stripes in let left = freed-times m.fileid m.size (ownership_of m.attributes) n p.stripes in let most = once n in omega (arith, all, left, most))

  both : (n : ℕ) → one_if (contains (files_in after.stripes) n) + one_if (contains (from_list {R = nat_cmp} freed) n) ≡ one_if (contains (files_in p.stripes) n)
  both n =
      let was = stands n in
      let goes = leaves n in
      let is = stays n in
      let old = all-times n p.stripes in
      let new = all-times n after.stripes in
      let left = freed-times m.fileid m.size (ownership_of m.attributes) n p.stripes in
      omega (arith, was, goes, is, old, new, left)

  rest-is : (a b c : Bool) → one_if a + one_if b ≡ one_if c → a ≡ (c && not b)
  rest-is true true true h = absurd (omega (arith, h))
  rest-is true true false h = absurd (omega (arith, h))
  rest-is true false true h = refl
  rest-is true false false h = absurd (omega (arith, h))
  rest-is false true true h = refl
  rest-is false true false h = absurd (omega (arith, h))
  rest-is false false true h = absurd (omega (arith, h))
  rest-is false false false h = refl

  within : (a b c : Bool) → one_if a + one_if b ≡ one_if c → b ≡ true → c ≡ true
  within a b true h e = refl
  within true true false h e = absurd (omega (arith, h))
  within false true false h e = absurd (omega (arith, h))
  within a false false h e = e

  count-of : sets.len (from_list {R = nat_cmp} freed) ≡ used (volume_of p) - used (volume_of after)
  count-of =
      let size = len-listed freed (λ n. let left = freed-times m.fileid m.size (ownership_of m.attributes) n p.stripes in let most = once n in omega (arith, left, most)) in
      let was = used-is p well in
      let is = used-is after (well-sized p m well there old_size filled verifier is_file small) in
      let set = used-set p.logical.inodes m.fileid m.inode (inode_sized m (length freed)) well.logical.inodes there in
      let file = ap filled_blocks is_file in
      let now = ap (λ k. filled_blocks (kind_sized m.size (length freed) k)) is_file in
      let less = fewer-filled p m well there old_size filled verifier is_file small in
      omega (arith, size, was, is, set, file, now, less)

  -- they leave files for the dead, and no other number moves
  pub emptied-sized : Emptied (used (volume_of p) - used (volume_of after)) (parts_of p) (parts_of after)
  emptied-sized = record {
    dead = record {
      blocks = from_list freed;
      count = count-of;
      there = contains-is_subset nat_cmp_total (from_list freed) (files_in p.stripes)
          (λ q e. within (contains (files_in after.stripes) q) (contains (from_list {R = nat_cmp} freed) q) (contains (files_in p.stripes) q) (both q) e);
      left = sets.same_set nat_cmp_total nat_cmp-IsAntisymmetric (files_in after.stripes) (difference (files_in p.stripes) (from_list freed)) (λ q.
          rest-is (contains (files_in after.stripes) q) (contains (from_list {R = nat_cmp} freed) q) (contains (files_in p.stripes) q) (both q)
          ∙ sym (contains-difference nat_cmp_total (files_in p.stripes) (from_list freed) q));
      reached = refl;
    };
    stock = refl;
    free = refl;
  }
