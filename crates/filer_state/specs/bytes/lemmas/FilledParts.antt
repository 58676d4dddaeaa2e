-- Block numbers that left the stock, the free and the dead of a volume for files: all stays sound, and they moved as the profile says.
use Rattle.std.proofs.Common.{◌≡◌, ℕ, ◌+◌, ◌-◌, ◌*◌, ◌≤◌, ◌||◌, min, Bool, true, false, List, ◌∷◌, length, nat_lt}
use Rattle.std.proofs.Common.{refl, sym, ap, ◌∙◌, subst, arith, inl, inr, ◌⊎◌}
use Rattle.std.specs.Ordering.{nat_cmp}
use Rattle.std.specs.Cmp.{nat_cmp_total}
use Rattle.std.specs.FinMap.{nat_cmp-IsAntisymmetric}
use Rattle.std.specs.FinSet as sets
use Rattle.std.specs.FinSet.{FinSet, contains, from_list, union, len, contains-union}
use Rattle.nfs_model.specs.Parts.{Hand, Fresh, Parts, one_if, times_listed}
use Rattle.nfs_model.specs.Moves.{FilledInVolume}
use Rattle.filer_state.specs.state.Contents.{VolumeContents}
use Rattle.filer_state.specs.state.Tree.{ranges_used}
use Rattle.filer_state.specs.state.WellFormed.{WellFormed, RangeFits, range_at}
use Rattle.filer_state.specs.state.Partition.{files_in, free_in, parts_of, StandOnce}
use Rattle.filer_state.specs.state.Sound.{IsSound}
use Rattle.filer_state.specs.state.Lenses.{VolumeSet, volume_lens}
use Rattle.filer_state.specs.attributes.lemmas.Setattr.{difference-empty, union-empty}
use Rattle.filer_state.specs.laws.lemmas.Counted.{len-listed, free-times}
use Rattle.filer_state.specs.bytes.WritingUp.{free_count}
use Rattle.filer_state.specs.bytes.lemmas.HolesFilled.{fresh-times}
use Rattle.filer_state.specs.bytes.lemmas.Leaving.{one-at-most, all-is, left-is, there-is, well-restocked}
use Rattle.filer_state.specs.bytes.lemmas.Carrying.{listed-count}
use Rattle.filer_state.specs.bytes.lemmas.LeavingParts.{HaveLeft, times_free}
use Rattle.filer_state.specs.bytes.lemmas.FreeCount.{free-many}

-- where nothing is filled no number moves
pub filled-none : (parts : Parts) (n : ℕ) → n ≡ 0 → FilledInVolume n parts parts
filled-none parts n none = record {
  by_stock = parts.files;
  by_free = parts.files;
  stock = record {
    blocks = sets.empty;
    count = sets.len-empty nat_cmp ∙ (let same : 0 ≡ min n (len parts.stock) = omega (arith, none) in same);
    there = within parts.stock;
    left = sym (difference-empty parts.stock);
    reached = sym (union-empty parts.files);
  };
  free = record {
    blocks = sets.empty;
    count = sets.len-empty nat_cmp ∙ (let same : 0 ≡ min (n - len parts.stock) (len parts.free) = omega (arith, none) in same);
    there = within parts.free;
    left = sym (difference-empty parts.free);
    reached = sym (union-empty parts.files);
  };
  dead = record {
    blocks = sets.empty;
    count = sets.len-empty nat_cmp ∙ (let same : 0 ≡ n - len parts.stock - len parts.free = omega (arith, none) in same);
    there = within parts.dead;
    left = sym (difference-empty parts.dead);
    reached = sym (union-empty parts.files);
  };
}
  where
    within : (set : FinSet nat_cmp) → sets.is_subset sets.empty set ≡ true
    within set = sets.contains-is_subset nat_cmp_total sets.empty set (λ q e. let no_one = sets.contains-empty nat_cmp q in absurd cc)

-- each number stands in one range at most
free-once : (p : VolumeContents) (hands : List Hand) → StandOnce p hands → (m : ℕ) → times_free m p.ranges ≤ 1
free-once p hands once m =
    let o = once m in let most = one-at-most (nat_lt m (p.logical.dead.range_blocks * ranges_used p.ranges)) in omega (arith, o, most)

or-counts : (b c : Bool) → one_if b + one_if c ≤ 1 → one_if (b || c) ≡ one_if b + one_if c
or-counts true true h = absurd (omega (arith, h))
or-counts true false h = refl
or-counts false c h = omega (arith, h)

module _ (p : VolumeContents) (numbers : List ℕ) (left : VolumeSet) (moved : HaveLeft numbers (volume_lens.of p) left)
    (hands : List Hand) (made : ℕ) (sound : IsSound p hands made) where
  -- the volume without the numbers
  abbrev pub without : VolumeContents
  without = record p {
    logical = record p.logical { stock = left.logical.own.stock; dead = record p.logical.dead { blocks = left.logical.own.dead.blocks } };
    ranges = left.ranges;
  }

  well-without : WellFormed without
  well-without =
      let well = well-restocked p left.logical.own.stock left.logical.own.dead.blocks sound.well_formed in
      record {
        striped = well.striped;
        largest = well.largest;
        most_inodes = well.most_inodes;
        size = well.size;
        logical = well.logical;
        as_many = well.as_many;
        stripes = well.stripes;
        used = well.used;
        filled = well.filled;
        sixteen = moved.long ∙ well.sixteen;
        some = (let some = well.some in let same = moved.used in omega (arith, some, same));
        ranges = λ r on.
            let long = moved.long in
            moved.fits p.logical.dead.range_blocks (ranges_used left.ranges) r
            (subst (λ (u : ℕ). RangeFits p.logical.dead.range_blocks u r (range_at p.ranges r)) (sym moved.used)
            (well.ranges r (omega (arith, on, long))));
      }

  -- they are in a hand
  pub sound-without : IsSound without (Fresh p.number numbers ∷ hands) made
  sound-without = record {
    well_formed = well-without;
    young = record { fileids = sound.young.fileids; cookies = sound.young.cookies };
    partition = λ m.
        let once = sound.partition m in
        let stock = moved.from_stock m in
        let free = moved.from_free m in
        let dead = moved.from_dead m in
        let all = moved.times m in
        let hand = fresh-times p.number m numbers in
        let below : one_if (nat_lt m (p.logical.dead.range_blocks * ranges_used left.ranges))
        ≡ one_if (nat_lt m (p.logical.dead.range_blocks * ranges_used p.ranges)) =
        ap (λ (u : ℕ). one_if (nat_lt m (p.logical.dead.range_blocks * u))) moved.used in
        omega (arith, once, stock, free, dead, all, hand, below);
  }

  -- ---- what came from where

  once : (m : ℕ) → times_listed m numbers ≤ 1
  once m =
      let o = sound-without.partition m in
      let hand = fresh-times p.number m numbers in
      let most = one-at-most (nat_lt m (p.logical.dead.range_blocks * ranges_used left.ranges)) in
      omega (arith, o, hand, most)

  once-stock : (m : ℕ) → times_listed m moved.stock ≤ 1
  once-stock m = let o = once m in let all = moved.times m in omega (arith, o, all)

  once-free : (m : ℕ) → times_listed m moved.free ≤ 1
  once-free m = let o = once m in let all = moved.times m in omega (arith, o, all)

  once-dead : (m : ℕ) → times_listed m moved.dead ≤ 1
  once-dead m = let o = once m in let all = moved.times m in omega (arith, o, all)

  stock-leaves : (m : ℕ) → one_if (contains p.logical.stock m) ≡ one_if (contains left.logical.own.stock m)
      + one_if (contains (from_list {R = nat_cmp} moved.stock) m)
  stock-leaves m = let c = moved.from_stock m in let i = listed-count moved.stock m (once-stock m) in omega (arith, c, i)

  dead-leaves : (m : ℕ) → one_if (contains p.logical.dead.blocks m) ≡ one_if (contains left.logical.own.dead.blocks m)
      + one_if (contains (from_list {R = nat_cmp} moved.dead) m)
  dead-leaves m = let c = moved.from_dead m in let i = listed-count moved.dead m (once-dead m) in omega (arith, c, i)

  free-leaves : (m : ℕ) → one_if (contains (free_in p.ranges) m) ≡ one_if (contains (free_in left.ranges) m)
      + one_if (contains (from_list {R = nat_cmp} moved.free) m)
  free-leaves m =
      let c = moved.from_free m in
      let i = listed-count moved.free m (once-free m) in
      let was = free-times m p.ranges (free-once p hands sound.partition m) in
      let now = free-times m left.ranges (free-once without (Fresh p.number numbers ∷ hands) sound-without.partition m) in
      omega (arith, c, i, was, now)

  pub free-is : len (free_in p.ranges) ≡ free_count p.ranges
  free-is = free-many p.ranges (free-once p hands sound.partition)

  -- ---- how many

  abbrev StockFirst : Type 0
  StockFirst = (length moved.free + length moved.dead ≡ 0) ⊎ (len left.logical.own.stock ≡ 0)

  abbrev FreeNext : Type 0
  FreeNext = (length moved.dead ≡ 0) ⊎ (free_count left.ranges ≡ 0)

  stock-count : (n : ℕ) → n ≡ length numbers → StockFirst → length moved.stock ≡ min n (len p.logical.stock)
  stock-count n is (inl none) = let many = moved.many in let stock = moved.stock_many in omega (arith, is, many, stock, none)
  stock-count n is (inr empty) = let many = moved.many in let stock = moved.stock_many in omega (arith, is, many, stock, empty)

  free-counted : (n : ℕ) → n ≡ length numbers → StockFirst → FreeNext → length moved.free ≡ min (n - len p.logical.stock) (len (free_in p.ranges))
  free-counted n is (inl none) next =
      let many = moved.many in let stock = moved.stock_many in let free = moved.free_many in let size = free-is in
      omega (arith, is, many, stock, free, size, none)
  free-counted n is (inr empty) (inl none) =
      let many = moved.many in let stock = moved.stock_many in let free = moved.free_many in let size = free-is in
      omega (arith, is, many, stock, free, size, empty, none)
  free-counted n is (inr empty) (inr full) =
      let many = moved.many in let stock = moved.stock_many in let free = moved.free_many in let size = free-is in
      omega (arith, is, many, stock, free, size, empty, full)

  dead-count : (n : ℕ) → n ≡ length numbers → StockFirst → FreeNext → length moved.dead ≡ n - len p.logical.stock - len (free_in p.ranges)
  dead-count n is (inl none) next =
      let many = moved.many in let stock = moved.stock_many in let free = moved.free_many in let size = free-is in
      omega (arith, is, many, stock, free, size, none)
  dead-count n is (inr empty) (inl none) =
      let many = moved.many in let stock = moved.stock_many in let free = moved.free_many in let size = free-is in
      omega (arith, is, many, stock, free, size, empty, none)
  dead-count n is (inr empty) (inr full) =
      let many = moved.many in let stock = moved.stock_many in let free = moved.free_many in let size = free-is in
      omega (arith, is, many, stock, free, size, empty, full)

  -- ---- they come into files

  module _ (files : FinSet nat_cmp) (comes : (m : ℕ) → one_if (contains files m) ≡ one_if (contains (files_in p.stripes) m) + times_listed m numbers) where
    abbrev by_stock : FinSet nat_cmp
    by_stock = union (files_in p.stripes) (from_list moved.stock)

    abbrev by_free : FinSet nat_cmp
    by_free = union by_stock (from_list moved.free)

    files-is : files ≡ union by_free (from_list moved.dead)
    files-is = sets.same_set nat_cmp_total nat_cmp-IsAntisymmetric files (union by_free (from_list moved.dead)) (λ q.
        let sum = comes q in
        let most = one-at-most (contains files q) in
        let all = moved.times q in
        let s = listed-count moved.stock q (once-stock q) in
        let f = listed-count moved.free q (once-free q) in
        let d = listed-count moved.dead q (once-dead q) in
        let first = or-counts (contains (files_in p.stripes) q) (contains (from_list {R = nat_cmp} moved.stock) q) (omega (arith, sum, most, all, s, f, d)) in
        let one : one_if (contains by_stock q) ≡ one_if (contains (files_in p.stripes) q) + one_if (contains (from_list {R = nat_cmp} moved.stock) q) =
        ap one_if (contains-union nat_cmp_total (files_in p.stripes) (from_list moved.stock) q) ∙ first in
        let second = or-counts (contains by_stock q) (contains (from_list {R = nat_cmp} moved.free) q) (omega (arith, sum, most, all, s, f, d, one)) in
        let two : one_if (contains by_free q) ≡ one_if (contains by_stock q) + one_if (contains (from_list {R = nat_cmp} moved.free) q) =
        ap one_if (contains-union nat_cmp_total by_stock (from_list moved.free) q) ∙ second in
        all-is (contains by_free q) (contains (from_list {R = nat_cmp} moved.dead) q) (contains files q) (omega (arith, sum, most, all, s, f, d, one, two))
        ∙ sym (contains-union nat_cmp_total by_free (from_list moved.dead) q))

    -- the stock first, then the free, then the dead
    pub filled-parts : (n : ℕ) → n ≡ length numbers → FilledInVolume n (parts_of p)
        (record { files = files; stock = left.logical.own.stock; dead = left.logical.own.dead.blocks; free = free_in left.ranges })
    filled-parts n is =
        record {
          by_stock = by_stock;
          by_free = by_free;
          stock = record {
            blocks = from_list moved.stock;
            count = len-listed moved.stock once-stock ∙ stock-count n is moved.stock_first;
            there = there-is p.logical.stock left.logical.own.stock (from_list moved.stock) stock-leaves;
            left = left-is p.logical.stock left.logical.own.stock (from_list moved.stock) stock-leaves;
            reached = refl;
          };
          free = record {
            blocks = from_list moved.free;
            count = len-listed moved.free once-free ∙ free-counted n is moved.stock_first moved.free_next;
            there = there-is (free_in p.ranges) (free_in left.ranges) (from_list moved.free) free-leaves;
            left = left-is (free_in p.ranges) (free_in left.ranges) (from_list moved.free) free-leaves;
            reached = refl;
          };
          dead = record {
            blocks = from_list moved.dead;
            count = len-listed moved.dead once-dead ∙ dead-count n is moved.stock_first moved.free_next;
            there = there-is p.logical.dead.blocks left.logical.own.dead.blocks (from_list moved.dead) dead-leaves;
            left = left-is p.logical.dead.blocks left.logical.own.dead.blocks (from_list moved.dead) dead-leaves;
            reached = files-is;
          };
        }
