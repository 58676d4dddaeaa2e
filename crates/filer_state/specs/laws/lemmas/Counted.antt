-- What the counts of a sound volume come to: the model's partition of its parts, and its used blocks.
use Rattle.std.proofs.Common.{◌≡◌, ◌≢◌, ℕ, ◌+◌, ◌*◌, ◌≤◌, ◌==◌, Bool, true, false, cond, ◌||◌, List, [], ◌∷◌, ◌++◌, length, map, Some}
use Rattle.std.proofs.Common.{refl, sym, ap, ◌∙◌, arith, eq-eqb, ne_eqb, nat_eq, nat_lt, length-append, ⊎_elim}
use Rattle.std.proofs.lemmas.Bool.{cases_eq}
use Rattle.std.proofs.lemmas.List.{length-map}
use Rattle.std.specs.List.{list_any}
use Rattle.std.specs.Ordering.{nat_cmp}
use Rattle.std.specs.Cmp.{nat_cmp_total}
use Rattle.std.specs.FinMap.{entries, get, len, len-entries, nat_cmp-IsAntisymmetric}
use Rattle.std.specs.FinSet as sets
use Rattle.std.specs.FinSet.{contains, from_list, contains-union, contains-from_list_nat, contains-empty}
use Rattle.nfs_model.specs.Server.{Node, filled_in, blocks_of, used}
use Rattle.nfs_model.specs.Parts as parts
use Rattle.nfs_model.specs.Parts.{Hand, one_if, times_listed}
use Rattle.depot_rule.specs.Sums.{total}
use Rattle.nfs_model.specs.volume.Inodes.{InodeKind, RegularFile, Inode, filled_blocks, blocks_filled}
use Rattle.nfs_model.specs.volume.Stripes.{FileBlock, Block, StripeValue}
use Rattle.nfs_model.specs.volume.Ranges.{RangeValue}
use Rattle.filer_state.specs.state.Contents.{VolumeContents}
use Rattle.filer_state.specs.state.Tree.{file_filled, node_by, node_of, ranges_used, volume_of}
use Rattle.filer_state.specs.state.WellFormed.{WellFormed}
use Rattle.filer_state.specs.state.Partition.{numbers_in, all_numbers, free_in, parts_of, times_in_stripe, times_in_hand, StandOnce}
use Rattle.filer_state.specs.laws.lemmas.Mapped.{entries-map_values, total-entries}

-- ---- lists of numbers

times-append : (n : ℕ) (xs ys : List ℕ) → times_listed n (xs ++ ys) ≡ times_listed n xs + times_listed n ys
times-append n [] ys = omega arith
times-append n (x ∷ xs) ys = let others = times-append n xs ys in omega arith

-- those of all stripes
pub all-times : (n : ℕ) (stripes : List StripeValue) → times_listed n (all_numbers stripes) ≡ total (times_in_stripe n) stripes
all-times n [] = refl
all-times n (s ∷ stripes) = let both = times-append n (numbers_in s) (all_numbers stripes) in let others = all-times n stripes in omega arith

pub all-length : (stripes : List StripeValue) → length (all_numbers stripes) ≡ total (λ (s : StripeValue). len s.blocks) stripes
all-length [] = refl
all-length (s ∷ stripes) =
    let both = length-append (numbers_in s) (all_numbers stripes) in
    let here = length-map (entries s.blocks) (λ (e : FileBlock × Block). e.1.number) in
    let size = len-entries s.blocks in
    let others = all-length stripes in
    omega arith

-- what stands there at most once
any-times : (n : ℕ) (bs : List ℕ) → times_listed n bs ≤ 1 → one_if (list_any (λ y. nat_eq y n) bs) ≡ times_listed n bs
any-times n [] h = refl
any-times n (b ∷ bs) h = ⊎_elim
    (λ (e : b ≡ n).
    let test = eq-eqb b n e in
    let one : one_if (b == n) ≡ 1 = ap one_if test in
    let any : one_if (nat_eq b n || list_any (λ y. nat_eq y n) bs) ≡ 1 = ap (λ (x : Bool). one_if (x || list_any (λ y. nat_eq y n) bs)) test in
    omega arith)
    (λ (ne : b ≢ n).
    let test = ne_eqb b n ne in
    let none : one_if (b == n) ≡ 0 = ap one_if test in
    let any : one_if (nat_eq b n || list_any (λ y. nat_eq y n) bs) ≡ one_if (list_any (λ y. nat_eq y n) bs) =
    ap (λ (x : Bool). one_if (x || list_any (λ y. nat_eq y n) bs)) test in
    let others = any-times n bs (omega arith) in
    omega arith)
    (cases_eq b n)

pub listed-times : (n : ℕ) (bs : List ℕ) → times_listed n bs ≤ 1 → one_if (contains (from_list {R = nat_cmp} bs) n) ≡ times_listed n bs
listed-times n bs h = ap one_if (contains-from_list_nat bs n) ∙ any-times n bs h

-- a set has as many as a list in which none stands twice
pub len-listed : (bs : List ℕ) → ((n : ℕ) → times_listed n bs ≤ 1) → sets.len (from_list {R = nat_cmp} bs) ≡ length bs
len-listed [] once = sets.len-empty nat_cmp
len-listed (b ∷ bs) once =
    let here : one_if (b == b) ≡ 1 = ap one_if (eq-eqb b b refl) in
    let at_most = once b in
    let others = len-listed bs (λ n. let more = once n in let l : times_listed n bs ≤ 1 = omega arith in l) in
    let none = listed-times b bs (omega arith) in
    let gone : one_if (contains (from_list {R = nat_cmp} bs) b) ≡ 0 = omega arith in
    sets.len-insert nat_cmp_total (from_list bs) b ∙ by (contains (from_list {R = nat_cmp} bs) b) gone
    ∙ (let size : sets.len (from_list {R = nat_cmp} bs) + 1 ≡ length (b ∷ bs) = omega arith in size)
  where
    by : (c : Bool) → one_if c ≡ 0
        → cond c (sets.len (from_list {R = nat_cmp} bs)) (sets.len (from_list {R = nat_cmp} bs) + 1) ≡ sets.len (from_list {R = nat_cmp} bs) + 1
    by true e = absurd (omega arith)
    by false e = refl

-- ---- free numbers

both-once : (c d : Bool) → one_if c + one_if d ≤ 1 → one_if (c || d) ≡ one_if c + one_if d
both-once true true h = absurd (omega arith)
both-once true false h = refl
both-once false d h = omega arith

pub free-times : (n : ℕ) (ranges : List RangeValue) → total (λ (r : RangeValue). one_if (contains r.free n)) ranges ≤ 1
    → one_if (contains (free_in ranges) n) ≡ total (λ (r : RangeValue). one_if (contains r.free n)) ranges
free-times n [] h = ap one_if (contains-empty nat_cmp n)
free-times n (r ∷ ranges) h =
    let others = free-times n ranges (omega arith) in
    let both = both-once (contains r.free n) (contains (free_in ranges) n) (omega arith) in
    ap one_if (contains-union nat_cmp_total r.free (free_in ranges) n) ∙ (both ∙ (let sum : one_if (contains r.free n) + one_if (contains (free_in ranges) n)
    ≡ one_if (contains r.free n) + total (λ (x : RangeValue). one_if (contains x.free n)) ranges = omega arith in sum))

-- ---- used blocks

filled-total : (es : List (ℕ × Inode)) → blocks_filled es ≡ total (λ (e : ℕ × Inode). filled_blocks e.1.kind) es
filled-total [] = refl
filled-total (e ∷ es) = let others = filled-total es in omega arith

blocks-total : (g : ℕ → Inode → Node) (es : List (ℕ × Inode))
    → blocks_of (map (λ (e : ℕ × Inode). (e.0, g e.0 e.1)) es) ≡ total (λ (e : ℕ × Inode). filled_in (g e.0 e.1)) es
blocks-total g [] = refl
blocks-total g (e ∷ es) = let others = blocks-total g es in omega arith

module _ (p : VolumeContents) (well : WellFormed p) where
  -- a node's blocks are as many as its inode counts
  pub node-filled : (fileid : ℕ) (inode : Inode) → get p.logical.inodes.inodes fileid ≡ Some inode
      → filled_in (node_of p.stripes p.logical.directories p.logical.texts fileid inode) ≡ filled_blocks inode.kind
  node-filled fileid inode there = by inode.kind (well.filled fileid inode there)
    where
      by : (kind : InodeKind) → filled_blocks kind ≡ sets.len (file_filled p.stripes fileid)
          → filled_in (node_by p.stripes (get p.logical.directories fileid) (get p.logical.texts fileid) fileid inode.attributes inode.names kind) ≡ filled_blocks kind
      by (RegularFile size filled verifier) e = sym e
      by kind e = refl

  -- the model's used blocks are the used count
  pub used-is : used (volume_of p) ≡ p.logical.inodes.used
  used-is =
      let g : ℕ → Inode → Node = node_of p.stripes p.logical.directories p.logical.texts in
      ap blocks_of (entries-map_values g nat_cmp_total nat_cmp-IsAntisymmetric p.logical.inodes.inodes)
      ∙ blocks-total g (entries p.logical.inodes.inodes)
      ∙ total-entries nat_cmp_total nat_cmp-IsAntisymmetric (λ (e : ℕ × Inode). filled_in (g e.0 e.1)) (λ (e : ℕ × Inode). filled_blocks e.1.kind)
      p.logical.inodes.inodes (λ k x is. node-filled k x is)
      ∙ sym (filled-total (entries p.logical.inodes.inodes))
      ∙ sym well.logical.inodes.filled

-- ---- the partition

at-most-one : (b : Bool) → one_if b ≤ 1
at-most-one true = omega arith
at-most-one false = omega arith

module _ (p : VolumeContents) (hands : List Hand) (in_hands : List ℕ) (well : WellFormed p) (partition : StandOnce p hands)
    (batches_in : (n : ℕ) → times_listed n in_hands ≡ total (times_in_hand p.number n) hands) where
  -- the block parts of a sound volume partition it, as the model says
  pub partition-is : parts.IsPartition (volume_of p) (parts_of p) in_hands
  partition-is = record {
    once = λ n.
        let o = partition n in
        let most = at-most-one (nat_lt n (p.logical.dead.range_blocks * ranges_used p.ranges)) in
        let listed = all-times n p.stripes in
        let files = listed-times n (all_numbers p.stripes) (omega arith) in
        let free = free-times n p.ranges (omega arith) in
        let c = batches_in n in
        omega arith;
    in_files =
        len-listed (all_numbers p.stripes)
        (λ n.
        let o = partition n in
        let most = at-most-one (nat_lt n (p.logical.dead.range_blocks * ranges_used p.ranges)) in
        let listed = all-times n p.stripes in
        let l : times_listed n (all_numbers p.stripes) ≤ 1 = omega arith in l)
        ∙ all-length p.stripes ∙ sym well.used ∙ sym (used-is p well);
  }
