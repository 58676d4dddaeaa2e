-- Blocks of a file that get numbers of the parts of a volume.
use Rattle.std.proofs.Common.{◌≡◌, ℕ, zero, suc, ◌+◌, ◌<◌, ◌≤◌, List, [], ◌∷◌, length, refl, sym, ap, subst, ◌∙◌, arith, inl, inr}
use Rattle.std.specs.Prelude.{slice_set, is_some}
use Rattle.std.specs.FinSet.{len}
use Rattle.depot_rule.specs.Sums.{total}
use Rattle.nfs_model.specs.volume.Ranges.{RangeValue, taken}
use Rattle.nfs_model.specs.volume.Stripes.{StripeValue, block_numbered}
use Rattle.parcels.specs.Filled.{volume_alike}
use Rattle.filer_state.specs.state.Contents.{each}
use Rattle.filer_state.specs.state.Lenses.{VolumeSet}
use Rattle.filer_state.specs.state.Sets.{FilerLogical, FilerVolume, placed, stripe_value, vbn_set, logical_before, volume_before, volume_after}
use Rattle.filer_state.specs.state.WellFormed.{range_at}
use Rattle.filer_state.specs.bytes.Extending.{home_changed}
use Rattle.filer_state.specs.bytes.WritingUp.{LeaveParts, for_holes}
use Rattle.service_data.specs.Stripes.{HasStripes}
use Rattle.service_data.specs.Places.{home_held, StripesChanged}
use Rattle.service_data.specs.Holes.{renumbered}
use Rattle.service_data.specs.Parts.{restriped, LeavesOne, TakesParts}
use Rattle.service_data.proofs.Placed.{home-changes}
use Rattle.service_data.proofs.Stocked.{len-less}

-- ---- counts

total-put : (f : RangeValue → ℕ) (l : List RangeValue) (i : ℕ) (y : RangeValue) → i < length l
    → total f (slice_set l i y) + f (range_at l i) ≡ total f l + f y
total-put f [] i y less = absurd (omega arith)
total-put f (x ∷ xs) zero y less = omega arith
total-put f (x ∷ xs) (suc i) y less = let rest = total-put f xs i y (omega arith) in omega (arith, rest)

-- one less
one-less : (n : ℕ) (old new : VolumeSet) → LeavesOne n old new → for_holes new + 1 ≡ for_holes old
one-less n old new (inl leaves) =
    let less = len-less old.logical.own.stock n leaves.there in
    let now = ap for_holes leaves.left in
    omega (arith, less, now)
one-less n old new (inr (inl leaves)) =
    let less = len-less (range_at old.ranges leaves.range).free n leaves.there in
    let now = ap for_holes leaves.left in
    let put = total-put (λ r. len r.free) old.ranges leaves.range (taken (n ∷ []) (range_at old.ranges leaves.range)) leaves.within in
    omega (arith, less, now, put)
one-less n old new (inr (inr leaves)) =
    let less = len-less old.logical.own.dead.blocks n leaves.there in
    let now = ap for_holes leaves.left in
    omega (arith, less, now)

-- ---- other stripes

restriped-one : (s : List StripeValue) (n : ℕ) (old new : VolumeSet) → LeavesOne n old new → LeavesOne n (restriped s old) (restriped s new)
restriped-one s n old new (inl leaves) = inl (record { there = leaves.there; left = ap (restriped s) leaves.left })
restriped-one s n old new (inr (inl leaves)) = inr (inl (record {
  no_stock = leaves.no_stock;
  range = leaves.range;
  within = leaves.within;
  there = leaves.there;
  left = ap (restriped s) leaves.left;
}))
restriped-one s n old new (inr (inr leaves)) = inr (inr (record {
  no_stock = leaves.no_stock;
  none_free = leaves.none_free;
  there = leaves.there;
  left = ap (restriped s) leaves.left;
}))

pub restriped-parts : (s : List StripeValue) (ns : List ℕ) (old new : VolumeSet) → LeaveParts ns old new → LeaveParts ns (restriped s old) (restriped s new)
restriped-parts s [] old new leave = ap (restriped s) leave
restriped-parts s (n ∷ ns) old new leave =
    (restriped s leave.0, restriped-one s n old leave.0 leave.1, restriped-parts s ns leave.0 new leave.2)

-- ---- one number, and then the rest

module _ {P : Type 0} (fileid b n : ℕ) (blocks rest : List ℕ) (is : blocks ≡ b ∷ rest) (old taken : FilerVolume P) (m : FilerLogical P)
    (has : HasStripes old.logical) (leaves : LeavesOne n (volume_before old) (volume_after old taken))
    (stripes : taken.logical.stripes ≡ old.logical.stripes) (count : taken.logical.own.stripes ≡ old.logical.own.stripes)
    (alike : volume_alike old taken) (numbered : m ≡ home_held fileid b (block_numbered fileid b n) taken.logical) where
  abbrev mid : FilerVolume P
  mid = record taken { logical = m }

  abbrev before : List StripeValue
  before = (logical_before old.logical).stripes

  pub taken-has : HasStripes taken.logical
  taken-has = record {
    some = subst (λ (k : ℕ). 0 < k) (sym count) has.some;
    few = subst (λ (k : ℕ). k ≤ 16) (sym count) has.few;
    there = λ i less. ap (λ s. is_some (placed s.at i)) stripes ∙ has.there i (subst (λ (k : ℕ). i < k) count less);
  }

  one : StripesChanged (home_changed fileid b (block_numbered fileid b n)) taken.logical m
  one = subst (StripesChanged (home_changed fileid b (block_numbered fileid b n)) taken.logical) (sym numbered)
      (home-changes taken.logical taken-has fileid b (block_numbered fileid b n))

  pub mid-has : HasStripes m
  mid-has = one.there

  same-before : (logical_before taken.logical).stripes ≡ before
  same-before = λ j. each (λ i. stripe_value (placed (stripes j).at i)) 0 (count j)

  mid-is : restriped before (volume_before mid) ≡ volume_after old taken
  mid-is = λ j. record {
    logical = record { own = one.own j; stripes = each (λ i. stripe_value (placed (sym stripes j).at i)) 0 old.logical.own.stripes };
    ranges = vbn_set taken.vbn;
  }

  pub mid-enough : length blocks ≤ for_holes (volume_before old) → length rest ≤ for_holes (volume_before mid)
  mid-enough enough =
      let many : length blocks ≡ suc (length rest) = ap (λ (l : List ℕ). length l) is in
      let less = one-less n (volume_before old) (volume_after old taken) leaves in
      let same : for_holes (volume_before mid) ≡ for_holes (volume_after old taken) = ap for_holes mid-is in
      omega (arith, enough, many, less, same)

  pub all-dealt : (new : FilerVolume P) → TakesParts fileid rest mid new → TakesParts fileid blocks old new
  all-dealt new r = record {
    numbers = n ∷ r.numbers;
    left = restriped before r.left;
    as_many = ap suc r.as_many ∙ sym (ap (λ (l : List ℕ). length l) is);
    leave = (
      volume_after old taken,
      leaves,
      subst (λ (s : VolumeSet). LeaveParts r.numbers s (restriped before r.left)) mid-is
          (restriped-parts before r.numbers (volume_before mid) r.left r.leave),
    );
    set = r.set ∙ ap (λ (s : List StripeValue). restriped s r.left)
        (ap (renumbered fileid rest r.numbers) (one.stripes ∙ ap (home_changed fileid b (block_numbered fileid b n)) same-before)
        ∙ ap (λ (l : List ℕ). renumbered fileid l (n ∷ r.numbers) before) (sym is));
    alike = (λ i. alike.0 i ∙ one.alike i ∙ r.alike.0 i, λ i. alike.1 i ∙ r.alike.1 i);
    there = r.there;
  }

-- no block
pub none-dealt : {P : Type 0} (fileid : ℕ) (blocks : List ℕ) (old : FilerVolume P) → length blocks ≡ 0 → HasStripes old.logical
    → TakesParts fileid blocks old old
none-dealt fileid [] old none has = record {
  numbers = [];
  left = volume_before old;
  as_many = refl;
  leave = refl;
  set = refl;
  alike = (λ i. refl, λ i. refl);
  there = has;
}
none-dealt fileid (b ∷ blocks) old none has = absurd (omega (arith, none))
