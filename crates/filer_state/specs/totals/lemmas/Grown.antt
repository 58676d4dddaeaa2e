-- A volume in which more ranges are in use: it is sound, calls see a greater total, and the new numbers are free.
use Rattle.std.proofs.Common.{◌≡◌, ℕ, ◌+◌, ◌-◌, ◌*◌, ◌≤◌, ◌||◌, Bool, true, false, List, [], length, refl, sym, ap, ◌∙◌, subst, arith, nat_lt}
use Rattle.std.proofs.Math.Nat.{mul-add, mul-le-mul_left}
use Rattle.std.specs.List.{range_with_len}
use Rattle.std.specs.Ordering.{nat_cmp}
use Rattle.std.specs.Cmp.{nat_cmp_total}
use Rattle.std.specs.FinMap.{nat_cmp-IsAntisymmetric}
use Rattle.std.specs.FinSet.{FinSet, contains, union, from_list, contains-union, contains-from_list_nat, contains-empty, same_set}
use Rattle.nfs_model.specs.Parts.{Hand, one_if, most_ranges}
use Rattle.nfs_model.specs.Moves.{grown_by}
use Rattle.depot_rule.specs.Sums.{total}
use Rattle.filer_state.specs.state.Contents.{VolumeContents}
use Rattle.filer_state.specs.state.Tree.{ranges_used, volume_of}
use Rattle.filer_state.specs.state.WellFormed.{RangeFits, range_at}
use Rattle.filer_state.specs.state.Partition.{free_in, parts_of, stored, times_in_hand}
use Rattle.filer_state.specs.state.Sound.{IsSound}
use Rattle.filer_state.specs.laws.lemmas.Counted.{free-times}
use Rattle.filer_state.specs.laws.lemmas.OpeningRanges.{listed-once, same-below}
use Rattle.filer_state.specs.totals.Growing.{first_in_use}
use Rattle.filer_state.specs.totals.lemmas.Ranges.{AllFit, all-here, each-here, used-count, first-length, first-fit, times_free, more-free}

-- ---- truth values as counts

at-most-one : (b : Bool) → one_if b ≤ 1
at-most-one true = omega arith
at-most-one false = omega arith

either-once : (b c : Bool) → one_if b + one_if c ≤ 1 → one_if (b || c) ≡ one_if b + one_if c
either-once true true h = absurd (omega arith)
either-once true false h = refl
either-once false c h = omega arith

as-one : (b c : Bool) → one_if b ≡ one_if c → b ≡ c
as-one true true e = refl
as-one true false e = absurd (omega arith)
as-one false true e = absurd (omega arith)
as-one false false e = refl

-- with no number added
pub union-none : (s : FinSet nat_cmp) → union s (from_list []) ≡ s
union-none s = same_set nat_cmp_total nat_cmp-IsAntisymmetric (union s (from_list [])) s
    (λ q. contains-union nat_cmp_total s (from_list []) q ∙ ap (λ (b : Bool). contains s q || b) (contains-empty nat_cmp q) ∙ none (contains s q))
  where
    none : (b : Bool) → (b || false) ≡ b
    none true = refl
    none false = refl

-- ---- a volume

module _ (p : VolumeContents) (hands : List Hand) (made : ℕ) (sound : IsSound p hands made) (more : ℕ)
    (fits : ranges_used p.ranges + more ≤ most_ranges) where
  abbrev used : ℕ
  used = ranges_used p.ranges

  abbrev blocks : ℕ
  blocks = p.logical.dead.range_blocks

  abbrev pub after : VolumeContents
  after = record p { ranges = first_in_use (used + more) p.ranges }

  before-fit : AllFit blocks used 0 p.ranges
  before-fit = all-here blocks used p.ranges (λ i less. sound.well_formed.ranges i less)

  after-fit : AllFit blocks (used + more) 0 after.ranges
  after-fit = first-fit blocks used (used + more) 0 (used + more) p.ranges (omega arith) (omega arith) before-fit

  long : length after.ranges ≡ most_ranges
  long = first-length (used + more) p.ranges ∙ sound.well_formed.sixteen

  now-used : ranges_used after.ranges ≡ used + more
  now-used =
      let l = long in
      let count = used-count blocks (used + more) 0 after.ranges (omega arith) (omega arith) after-fit in
      omega (arith, count)

  now-free : (q : ℕ) → times_free q after.ranges + one_if (nat_lt q (blocks * used))
      ≡ times_free q p.ranges + one_if (nat_lt q (blocks * (used + more)))
  now-free q =
      let l = sound.well_formed.sixteen in
      more-free blocks used (used + more) 0 (used + more) q p.ranges (omega arith) (omega arith) (omega arith) (omega arith) before-fit

  -- it is sound, with one more entry, and hands that weigh as much
  pub sound-after : (hands' : List Hand) → ((n : ℕ) → total (times_in_hand p.number n) hands' ≡ total (times_in_hand p.number n) hands)
      → IsSound after hands' (made + 1)
  sound-after hands' same =
      let well = sound.well_formed in
      record {
        well_formed = record {
          striped = well.striped;
          largest = well.largest;
          most_inodes = well.most_inodes;
          size = well.size;
          logical = well.logical;
          as_many = well.as_many;
          stripes = well.stripes;
          used = well.used;
          filled = well.filled;
          sixteen = long;
          some = (let some = well.some in let count = now-used in omega (arith, some, count));
          ranges = λ i less. subst (λ (u : ℕ). RangeFits blocks u i (range_at after.ranges i)) (sym now-used)
              (each-here blocks (used + more) after.ranges after-fit i less);
        };
        young = record {
          fileids = (let y = sound.young.fileids in omega (arith, y));
          cookies = λ fileid d e. let y = sound.young.cookies fileid d e in omega (arith, y);
        };
        partition = λ n.
            let once = sound.partition n in
            let hand = same n in
            let free = now-free n in
            let below = same-below n (blocks * ranges_used after.ranges) (blocks * (used + more)) (ap (λ (u : ℕ). blocks * u) now-used) in
            omega (arith, once, hand, free, below);
      }

  -- calls see a greater total
  pub volume-after : volume_of after ≡ record (volume_of p) { total = (volume_of p).total + blocks * more }
  volume-after = λ j. record (volume_of p) { total = count j }
    where
      count : blocks * ranges_used after.ranges ≡ blocks * used + blocks * more
      count = ap (λ (u : ℕ). blocks * u) now-used ∙ mul-add blocks used more

  -- the new numbers are free
  pub parts-after : parts_of after ≡ record (parts_of p) { free = union (parts_of p).free (grown_by (stored p) (stored after)) }
  parts-after = λ j. record (parts_of p) { free = same j }
    where
      same : free_in after.ranges ≡ union (free_in p.ranges) (grown_by (stored p) (stored after))
      same = same_set nat_cmp_total nat_cmp-IsAntisymmetric (free_in after.ranges) (union (free_in p.ranges) (grown_by (stored p) (stored after)))
          (λ q.
          let first : ℕ = blocks * used in
          let count : ℕ = blocks * ranges_used after.ranges - first in
          let once = sound.partition q in
          let once' = (sound-after hands (λ n. refl)).partition q in
          let most = at-most-one (nat_lt q (blocks * used)) in
          let most' = at-most-one (nat_lt q (blocks * ranges_used after.ranges)) in
          let old = free-times q p.ranges (omega (arith, once, most)) in
          let new = free-times q after.ranges (omega (arith, once', most')) in
          let free = now-free q in
          let below = same-below q (blocks * ranges_used after.ranges) (blocks * (used + more)) (ap (λ (u : ℕ). blocks * u) now-used) in
          let larger = mul-le-mul_left blocks (let now = now-used in let l : used ≤ ranges_used after.ranges = omega (arith, now) in l) in
          let end = same-below q (first + count) (blocks * ranges_used after.ranges) (omega (arith, larger)) in
          let listed = listed-once first count q in
          let numbers = contains-from_list_nat (range_with_len first count) q in
          let here = ap one_if numbers in
          let both = either-once (contains (free_in p.ranges) q) (contains (grown_by (stored p) (stored after)) q)
          (omega (arith, once', most', old, new, free, below, end, listed, here)) in
          as-one (contains (free_in after.ranges) q) (contains (union (free_in p.ranges) (grown_by (stored p) (stored after))) q)
          (let sum : one_if (contains (free_in after.ranges) q)
          ≡ one_if (contains (free_in p.ranges) q) + one_if (contains (grown_by (stored p) (stored after)) q) =
          omega (arith, old, new, free, below, end, listed, here) in
          sum ∙ sym both ∙ ap one_if (sym (contains-union nat_cmp_total (free_in p.ranges) (grown_by (stored p) (stored after)) q))))
