-- What holds of a layout that breaks no rule.
use Rattle.std.proofs.Common.{◌≡◌, sym, ℕ, zero, suc, ◌+◌, ◌*◌, ◌^◌, ◌<◌, ◌≤◌, ◌==◌, ◌||◌, Bool, true, false, not, List, [], ◌∷◌, length, map, Option, Some}
use Rattle.std.proofs.Common.{None, refl, ap, arith, slice_get, ◌⊎◌, inl, inr, ⊎_elim}
use Rattle.std.specs.Prelude.{if◌then◌else◌, nat_le}
use Rattle.std.specs.List.{list_all, list_any, range_with_len}
use Rattle.std.proofs.Math.Nat.{pow-le-pow_right}
use Rattle.std.proofs.lemmas.Bool.{and_parts, or_cases, ltb-true, leb-true, eqb-true}
use Rattle.nfs_model.specs.Tree.{Layout, VolumeLayout, aggregate_of, aggregate_in, stripes_of, stripes_in, range_blocks_of, range_blocks_in}
use Rattle.affinity.specs.Fault.{fault_of, is_known, is_sized, is_spare, is_striped, is_within}
use Rattle.affinity.specs.Fault.{first_broken, tree_fault, sizes_fault, range_sizes, has_lawful_ranges, has_lawful_files, has_lawful_inodes}
use Rattle.affinity.specs.Largest.{mebibytes_in, inodes_in, inodes_of}
use Rattle.nfs_model.specs.volume.Ranges.{IsRangeSize}
use Rattle.affinity.specs.Numbers.{nodes_before, node_count}

-- a rule that isn't broken, and what follows it
pub kept : (test : Bool) (number : ℕ) (others : Option ℕ) → (if not test then Some number else others) ≡ None → (test ≡ true) × (others ≡ None)
kept true number others h = (refl, h)
kept false number others h = cc

-- there is a volume at each number below the count
pub volume_there : (volumes : List VolumeLayout) (v : ℕ) → v < length volumes → (x : VolumeLayout) × (slice_get volumes v ≡ Some x)
volume_there [] v h = absurd (omega arith)
volume_there (x ∷ xs) zero h = (x, refl)
volume_there (x ∷ xs) (suc v) h = volume_there xs v (omega arith)

-- a test that all volumes pass
passes_at : (test : VolumeLayout → Bool) (volumes : List VolumeLayout) (v : ℕ) (x : VolumeLayout) → list_all test volumes ≡ true
    → slice_get volumes v ≡ Some x → test x ≡ true
passes_at test [] v x h e = cc
passes_at test (y ∷ ys) zero x h e =
    let first = (and_parts (test y) (list_all test ys) h).0 in
    let same : y ≡ x = cc in
    cc
passes_at test (y ∷ ys) (suc v) x h e = passes_at test ys v x (and_parts (test y) (list_all test ys) h).1 e

-- ---- the rules, each of which is kept

pub record KeepsRules (layout : Layout) : Type 0 where
  pub aggregates : is_within 1 2 (length layout.spare) ≡ true
  pub volumes : is_within 1 8 (length layout.volumes) ≡ true
  pub known : list_all (is_known (length layout.spare)) layout.volumes ≡ true
  pub sized : list_all is_sized layout.volumes ≡ true
  pub striped : list_all is_striped layout.volumes ≡ true
  pub ranges : list_all has_lawful_ranges layout.volumes ≡ true
  pub files : list_all has_lawful_files layout.volumes ≡ true
  pub inodes : list_all has_lawful_inodes layout.volumes ≡ true

-- where neither of two rules is broken
pub neither : (a b : Option ℕ) → first_broken a b ≡ None → (a ≡ None) × (b ≡ None)
neither None b h = (refl, h)
neither (Some n) b h = cc

pub keeps_rules : (layout : Layout) → fault_of layout ≡ None → KeepsRules layout
keeps_rules layout h =
    let both = neither (tree_fault layout) (sizes_fault layout.volumes) h in
    let aggregates = kept (is_within 1 2 (length layout.spare)) 51 _ both.0 in
    let volumes = kept (is_within 1 8 (length layout.volumes)) 52 _ aggregates.1 in
    let known = kept (list_all (is_known (length layout.spare)) layout.volumes) 53 _ volumes.1 in
    let sized = kept (list_all is_sized layout.volumes) 54 _ known.1 in
    let spare = kept (list_all is_spare layout.spare) 55 _ sized.1 in
    let striped = kept (list_all is_striped layout.volumes) 56 _ spare.1 in
    let ranges = kept (list_all has_lawful_ranges layout.volumes) 58 _ both.1 in
    let files = kept (list_all has_lawful_files layout.volumes) 59 _ ranges.1 in
    let inodes = kept (list_all has_lawful_inodes layout.volumes) 67 _ files.1 in
    record {
      aggregates = aggregates.0;
      volumes = volumes.0;
      known = known.0;
      sized = sized.0;
      striped = striped.0;
      ranges = ranges.0;
      files = files.0;
      inodes = inodes.0;
    }

pub aggregate_known : (layout : Layout) (v : ℕ) → fault_of layout ≡ None → v < length layout.volumes → aggregate_of layout v < length layout.spare
aggregate_known layout v h there =
    let x = volume_there layout.volumes v there in
    let test = passes_at (is_known (length layout.spare)) layout.volumes v x.0 (keeps_rules layout h).known x.1 in
    let below : x.0.aggregate < length layout.spare = ltb-true x.0.aggregate (length layout.spare) test in
    let same : aggregate_of layout v ≡ x.0.aggregate = ap aggregate_in x.1 in
    omega arith

-- there are at most 2 aggregates
pub few_aggregates : (layout : Layout) → fault_of layout ≡ None → length layout.spare ≤ 2
few_aggregates layout h =
    leb-true (length layout.spare) 2 (and_parts (nat_le 1 (length layout.spare)) (nat_le (length layout.spare) 2) (keeps_rules layout h).aggregates).1

-- and at most 8 volumes
pub few_volumes : (layout : Layout) → fault_of layout ≡ None → length layout.volumes ≤ 8
few_volumes layout h =
    leb-true (length layout.volumes) 8 (and_parts (nat_le 1 (length layout.volumes)) (nat_le (length layout.volumes) 8) (keeps_rules layout h).volumes).1

-- both
pub ruleset few_of_each = (few_aggregates, few_volumes)

-- ---- stripes and sizes

-- one of two numbers
either : (n a b : ℕ) → ((n == a) || (n == b)) ≡ true → (n ≡ a) ⊎ (n ≡ b)
either n a b h =
    ⊎_elim
    (λ (e : (n == a) ≡ true). inl (eqb-true n a e))
    (λ (e : (n == b) ≡ true). inr (eqb-true n b e))
    (or_cases (n == a) (n == b) h)

stripes_at : (volumes : List VolumeLayout) (v : ℕ) → list_all is_striped volumes ≡ true
    → (stripes_in (slice_get volumes v) ≡ 8) ⊎ (stripes_in (slice_get volumes v) ≡ 16)
stripes_at [] v h = inl refl
stripes_at (x ∷ xs) zero h = either x.stripes 8 16 (and_parts (is_striped x) (list_all is_striped xs) h).0
stripes_at (x ∷ xs) (suc v) h = stripes_at xs v (and_parts (is_striped x) (list_all is_striped xs) h).1

-- a volume has 8 or 16 stripes
pub stripes_either : (layout : Layout) (v : ℕ) → fault_of layout ≡ None → (stripes_of layout v ≡ 8) ⊎ (stripes_of layout v ≡ 16)
stripes_either layout v h = stripes_at layout.volumes v (keeps_rules layout h).striped

pub stripes_some : (layout : Layout) (v : ℕ) → fault_of layout ≡ None → 0 < stripes_of layout v
stripes_some layout v h =
    ⊎_elim (λ (e : stripes_of layout v ≡ 8). omega arith) (λ (e : stripes_of layout v ≡ 16). omega arith) (stripes_either layout v h)

pub stripes_most : (layout : Layout) (v : ℕ) → fault_of layout ≡ None → stripes_of layout v ≤ 16
stripes_most layout v h =
    ⊎_elim (λ (e : stripes_of layout v ≡ 8). omega arith) (λ (e : stripes_of layout v ≡ 16). omega arith) (stripes_either layout v h)

-- a number within two
between : (low high n : ℕ) → is_within low high n ≡ true → (low ≤ n) × (n ≤ high)
between low high n h =
    let parts = and_parts (nat_le low n) (nat_le n high) h in
    (leb-true low n parts.0, leb-true n high parts.1)

mebibytes_at : (volumes : List VolumeLayout) (v : ℕ) → list_all has_lawful_files volumes ≡ true
    → (16 ≤ mebibytes_in (slice_get volumes v)) × (mebibytes_in (slice_get volumes v) ≤ 1048576)
mebibytes_at [] v h = (omega arith, omega arith)
mebibytes_at (x ∷ xs) zero h = between 16 1048576 x.mebibytes (and_parts (has_lawful_files x) (list_all has_lawful_files xs) h).0
mebibytes_at (x ∷ xs) (suc v) h = mebibytes_at xs v (and_parts (has_lawful_files x) (list_all has_lawful_files xs) h).1

-- the largest file of a volume has 16 to 1,048,576 mebibytes
pub mebibytes_between : (layout : Layout) (v : ℕ) → fault_of layout ≡ None
    → (16 ≤ mebibytes_in (slice_get layout.volumes v)) × (mebibytes_in (slice_get layout.volumes v) ≤ 1048576)
mebibytes_between layout v h = mebibytes_at layout.volumes v (keeps_rules layout h).files

pub mebibytes_some : (layout : Layout) (v : ℕ) → fault_of layout ≡ None → 0 < mebibytes_in (slice_get layout.volumes v)
mebibytes_some layout v h = let some = (mebibytes_between layout v h).0 in omega (arith, some)

pub mebibytes_most : (layout : Layout) (v : ℕ) → fault_of layout ≡ None → mebibytes_in (slice_get layout.volumes v) ≤ 1048576
mebibytes_most layout v h = (mebibytes_between layout v h).1

inodes_at : (volumes : List VolumeLayout) (v : ℕ) → list_all has_lawful_inodes volumes ≡ true
    → (65536 ≤ inodes_in (slice_get volumes v)) × (inodes_in (slice_get volumes v) ≤ 67108864)
inodes_at [] v h = (omega arith, omega arith)
inodes_at (x ∷ xs) zero h = between 65536 67108864 x.inodes (and_parts (has_lawful_inodes x) (list_all has_lawful_inodes xs) h).0
inodes_at (x ∷ xs) (suc v) h = inodes_at xs v (and_parts (has_lawful_inodes x) (list_all has_lawful_inodes xs) h).1

-- a volume has 65,536 to 67,108,864 inodes at most
pub inodes_between : (layout : Layout) (v : ℕ) → fault_of layout ≡ None → (65536 ≤ inodes_of layout v) × (inodes_of layout v ≤ 67108864)
inodes_between layout v h = inodes_at layout.volumes v (keeps_rules layout h).inodes

-- one of the sizes that a range may have
size_among : (n from count : ℕ) → from + count ≤ 15 → list_any (λ m. m == n) (map (λ k. 1024 * 2 ^ k) (range_with_len from count)) ≡ true
    → (k : ℕ) × (k < 15) × (n ≡ 1024 * 2 ^ k)
size_among n from zero most h = cc
size_among n from (suc count) most h =
    ⊎_elim
    (λ (e : (1024 * 2 ^ from == n) ≡ true). (from, omega (arith, most), sym (eqb-true (1024 * 2 ^ from) n e)))
    (λ (e : list_any (λ m. m == n) (map (λ k. 1024 * 2 ^ k) (range_with_len (from + 1) count)) ≡ true).
    size_among n (from + 1) count (omega (arith, most)) e)
    (or_cases (1024 * 2 ^ from == n) (list_any (λ m. m == n) (map (λ k. 1024 * 2 ^ k) (range_with_len (from + 1) count))) h)

-- a number that a range may have
size_is : (n : ℕ) → list_any (λ m. m == n) range_sizes ≡ true → IsRangeSize n
size_is n h =
    let found = size_among n 0 15 (omega arith) h in
    let below = found.1 in
    let within : found.0 ≤ 14 = omega (arith, below) in
    let less : 2 ^ found.0 ≤ 2 ^ 14 = pow-le-pow_right {n = 2} (omega arith) within in
    let is = found.2 in
    record { doublings = found.0; is = is; most = omega (arith, less, is) }

range_blocks_at : (volumes : List VolumeLayout) (v : ℕ) → list_all has_lawful_ranges volumes ≡ true → IsRangeSize (range_blocks_in (slice_get volumes v))
range_blocks_at [] v h = record { doublings = 0; is = refl; most = omega arith }
range_blocks_at (x ∷ xs) zero h = size_is x.range_blocks (and_parts (has_lawful_ranges x) (list_all has_lawful_ranges xs) h).0
range_blocks_at (x ∷ xs) (suc v) h = range_blocks_at xs v (and_parts (has_lawful_ranges x) (list_all has_lawful_ranges xs) h).1

-- the ranges of a volume have 1,024 blocks times a power of two
pub range_blocks_size : (layout : Layout) (v : ℕ) → fault_of layout ≡ None → IsRangeSize (range_blocks_of layout v)
range_blocks_size layout v h = range_blocks_at layout.volumes v (keeps_rules layout h).ranges

-- ---- how many nodes there are

few_before : (volumes : List VolumeLayout) (n : ℕ) → list_all is_striped volumes ≡ true → nodes_before volumes n ≤ 35 * n
few_before [] n h = omega arith
few_before (x ∷ xs) zero h = omega arith
few_before (x ∷ xs) (suc n) h =
    let parts = and_parts (is_striped x) (list_all is_striped xs) h in
    let others = few_before xs n parts.1 in
    ⊎_elim (λ (e : x.stripes ≡ 8). omega arith) (λ (e : x.stripes ≡ 16). omega arith) (either x.stripes 8 16 parts.0)

pub few_nodes : (layout : Layout) → fault_of layout ≡ None → node_count layout ≤ 283
few_nodes layout h =
    let aggregates = few_aggregates layout h in
    let volumes = few_volumes layout h in
    let nodes = few_before layout.volumes (length layout.volumes) (keeps_rules layout h).striped in
    omega arith
