-- The first broken rule of a layout, by the tests of its specifications.
use Rattle.std.proofs.Common.{◌≡◌, ℕ, ◌≤◌, ◌==◌, ◌||◌, Bool, true, not, List, [], ◌∷◌, ◌++◌, length, map, take, suc, zero, get_or, Option, Some, None}
use Rattle.std.proofs.Common.{refl, sym, ap, ◌∙◌, ◌<◌, ⊎_elim, arith}
use Rattle.std.specs.Prelude.{if◌then◌else◌, nat_le}
use Rattle.std.specs.List.{list_all}
use Rattle.std.proofs.lemmas.Bool.{and_from, and_parts, or_cases, eqb-true, le-leb}
use Rattle.std.proofs.lemmas.List.Folds.{list_all-map}
use Rattle.std.proofs.lemmas.List.{length-map, map-append}
use Rattle.affinity.specs.declared.specification.AggregateSpec.{AggregateSpec}
use Rattle.affinity.specs.declared.specification.SizedVolumeSpec.{SizedVolumeSpec}
use Rattle.affinity.specs.declared.specification.VolumeSpec.{VolumeSpec}
use Rattle.affinity.specs.Specification.{layout_in, sized_layout_in, spare_of, volume_asked, volume_sized}
use Rattle.affinity.specs.Fault.{fault_of, fault_without_sizes, first_broken, sizes_fault, tree_fault}
use Rattle.affinity.specs.Fault.{has_lawful_ranges, has_lawful_files, has_lawful_inodes, is_known, is_limited, is_sized, is_spare, is_striped, is_within}
use Rattle.affinity.specs.lemmas.Lawful.{kept, neither}

-- the first test of the tree that fails
abbrev first_of : Bool → Bool → Bool → Bool → Bool → Bool → Option ℕ
first_of aggregates volumes known sized spare striped =
    if not aggregates then Some 51
    else if not volumes then Some 52
    else if not known then Some 53
    else if not sized then Some 54
    else if not spare then Some 55
    else if not striped then Some 56
    else None

within : (low high n : ℕ) → low ≤ n → n ≤ high → is_within low high n ≡ true
within low high n h k = and_from (nat_le low n) (nat_le n high) (le-leb low n h) (le-leb n high k)

module _ (aggregates : List AggregateSpec) (volumes : List VolumeSpec) where
  known : list_all (is_known (length (map spare_of aggregates))) (map volume_asked volumes)
      ≡ list_all (λ v. is_known (length aggregates) (volume_asked v)) volumes
  known =
      ap (λ (n : ℕ). list_all (is_known n) (map volume_asked volumes)) (length-map aggregates spare_of)
      ∙ list_all-map (is_known (length aggregates)) volume_asked volumes

  -- the fault where there are neither too few nor too many, once each other test's result is known
  pub fault_by : (c d e f g : Bool)
      → 1 ≤ length aggregates
      → length aggregates ≤ 2
      → 1 ≤ length volumes
      → length volumes ≤ 8
      → list_all (λ v. is_known (length aggregates) (volume_asked v)) volumes ≡ c
      → list_all (λ v. is_sized (volume_asked v)) volumes ≡ d
      → list_all (λ a. is_spare (spare_of a)) aggregates ≡ e
      → list_all (λ v. is_striped (volume_asked v)) volumes ≡ f
      → list_all (λ v. is_limited (volume_asked v)) volumes ≡ g
      → fault_without_sizes (layout_in aggregates volumes) ≡ first_broken (first_of true true c d e f) (if not g then Some 57 else None)
  fault_by c d e f g one_aggregate two_aggregates one_volume eight_volumes ec ed ee ef eg = λ j.
      first_broken
      (first_of
      ((ap (is_within 1 2) (length-map aggregates spare_of) ∙ within 1 2 (length aggregates) one_aggregate two_aggregates) j)
      ((ap (is_within 1 8) (length-map volumes volume_asked) ∙ within 1 8 (length volumes) one_volume eight_volumes) j)
      ((known ∙ ec) j)
      ((list_all-map is_sized volume_asked volumes ∙ ed) j)
      ((list_all-map is_spare spare_of aggregates ∙ ee) j)
      ((list_all-map is_striped volume_asked volumes ∙ ef) j))
      (if not ((list_all-map is_limited volume_asked volumes ∙ eg) j) then Some 57 else None)

-- ---- with sizes

module _ (aggregates : List AggregateSpec) (volumes : List SizedVolumeSpec) where
  sized_known : list_all (is_known (length (map spare_of aggregates))) (map volume_sized volumes)
      ≡ list_all (λ v. is_known (length aggregates) (volume_sized v)) volumes
  sized_known =
      ap (λ (n : ℕ). list_all (is_known n) (map volume_sized volumes)) (length-map aggregates spare_of)
      ∙ list_all-map (is_known (length aggregates)) volume_sized volumes

  -- the fault of the tree, in the same way
  pub tree_fault_by : (c d e f : Bool)
      → 1 ≤ length aggregates
      → length aggregates ≤ 2
      → 1 ≤ length volumes
      → length volumes ≤ 8
      → list_all (λ v. is_known (length aggregates) (volume_sized v)) volumes ≡ c
      → list_all (λ v. is_sized (volume_sized v)) volumes ≡ d
      → list_all (λ a. is_spare (spare_of a)) aggregates ≡ e
      → list_all (λ v. is_striped (volume_sized v)) volumes ≡ f
      → tree_fault (sized_layout_in aggregates volumes) ≡ first_of true true c d e f
  tree_fault_by c d e f one_aggregate two_aggregates one_volume eight_volumes ec ed ee ef = λ j.
      first_of
      ((ap (is_within 1 2) (length-map aggregates spare_of) ∙ within 1 2 (length aggregates) one_aggregate two_aggregates) j)
      ((ap (is_within 1 8) (length-map volumes volume_sized) ∙ within 1 8 (length volumes) one_volume eight_volumes) j)
      ((sized_known ∙ ec) j)
      ((list_all-map is_sized volume_sized volumes ∙ ed) j)
      ((list_all-map is_spare spare_of aggregates ∙ ee) j)
      ((list_all-map is_striped volume_sized volumes ∙ ef) j)

-- the first test of sizes that fails
abbrev first_size : Bool → Bool → Bool → Option ℕ
first_size ranges files inodes =
    if not ranges then Some 58
    else if not files then Some 59
    else if not inodes then Some 67
    else None

pub sizes_fault_by : (volumes : List SizedVolumeSpec) (a b c : Bool)
    → list_all (λ v. has_lawful_ranges (volume_sized v)) volumes ≡ a
    → list_all (λ v. has_lawful_files (volume_sized v)) volumes ≡ b
    → list_all (λ v. has_lawful_inodes (volume_sized v)) volumes ≡ c
    → sizes_fault (map volume_sized volumes) ≡ first_size a b c
sizes_fault_by volumes a b c ea eb ec = λ j.
    first_size
    ((list_all-map has_lawful_ranges volume_sized volumes ∙ ea) j)
    ((list_all-map has_lawful_files volume_sized volumes ∙ eb) j)
    ((list_all-map has_lawful_inodes volume_sized volumes ∙ ec) j)

-- ---- sizes that aren't given

pub asked-more : (sized : List SizedVolumeSpec) (volumes : List VolumeSpec) (k : ℕ) (d : VolumeSpec) (v : SizedVolumeSpec)
    → map volume_sized sized ≡ map volume_asked (take k volumes) → k < length volumes → volume_sized v ≡ volume_asked (get_or volumes k d)
    → map volume_sized (sized ++ v ∷ []) ≡ map volume_asked (take (suc k) volumes)
asked-more sized volumes k d v e l f = map-append volume_sized sized (v ∷ []) ∙ (λ i. e i ++ f i ∷ []) ∙ sym (more volumes k l)
  where
    more : (xs : List VolumeSpec) (n : ℕ) → n < length xs
        → map volume_asked (take (suc n) xs) ≡ map volume_asked (take n xs) ++ volume_asked (get_or xs n d) ∷ []
    more [] n l = absurd (omega arith)
    more (x ∷ xs) zero l = refl
    more (x ∷ xs) (suc n) l = ap (λ vs. volume_asked x ∷ vs) (more xs n (omega arith))

asked-ranges : (volumes : List VolumeSpec) → list_all has_lawful_ranges (map volume_asked volumes) ≡ true
asked-ranges [] = refl
asked-ranges (v ∷ vs) = asked-ranges vs

asked-inodes : (volumes : List VolumeSpec) → list_all has_lawful_inodes (map volume_asked volumes) ≡ true
asked-inodes [] = refl
asked-inodes (v ∷ vs) = asked-inodes vs

limited-file : (n : ℕ) → ((n == 16) || (n == 64)) ≡ true → is_within 16 1048576 n ≡ true
limited-file n h =
    ⊎_elim
    (λ (e : (n == 16) ≡ true). let is : n ≡ 16 = eqb-true n 16 e in within 16 1048576 n (omega (arith, is)) (omega (arith, is)))
    (λ (e : (n == 64) ≡ true). let is : n ≡ 64 = eqb-true n 64 e in within 16 1048576 n (omega (arith, is)) (omega (arith, is)))
    (or_cases (n == 16) (n == 64) h)

asked-files : (volumes : List VolumeSpec) → list_all is_limited (map volume_asked volumes) ≡ true
    → list_all has_lawful_files (map volume_asked volumes) ≡ true
asked-files [] h = refl
asked-files (v ∷ vs) h =
    let parts = and_parts (is_limited (volume_asked v)) (list_all is_limited (map volume_asked vs)) h in
    and_from (has_lawful_files (volume_asked v)) (list_all has_lawful_files (map volume_asked vs)) (limited-file v.mib parts.0)
    (asked-files vs parts.1)

-- where no rule is broken without sizes, none is with those that stand for them
asked-lawful : (aggregates : List AggregateSpec) (volumes : List VolumeSpec) → fault_without_sizes (layout_in aggregates volumes) ≡ None
    → fault_of (layout_in aggregates volumes) ≡ None
asked-lawful aggregates volumes h =
    let both = neither (tree_fault (layout_in aggregates volumes)) (if not (list_all is_limited (map volume_asked volumes)) then Some 57 else None) h in
    let limited = kept (list_all is_limited (map volume_asked volumes)) 57 None both.1 in
    λ i. first_broken (both.0 i) (first_size (asked-ranges volumes i) (asked-files volumes limited.0 i) (asked-inodes volumes i))

pub lawful-by : (aggregates spare : List AggregateSpec) (volumes : List VolumeSpec) (sized : List SizedVolumeSpec) → spare ≡ aggregates
    → map volume_sized sized ≡ map volume_asked volumes → fault_without_sizes (layout_in aggregates volumes) ≡ None
    → fault_of (sized_layout_in spare sized) ≡ None
lawful-by aggregates spare volumes sized s e h =
    (λ i. fault_of (record { spare = map spare_of (s i); volumes = e i })) ∙ asked-lawful aggregates volumes h
