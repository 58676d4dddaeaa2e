-- Block numbers that leave a set one after another, and a volume with another stock and other dead.
use Rattle.std.proofs.Common.{◌≡◌, ℕ, ◌+◌, ◌≤◌, ◌==◌, ◌||◌, ◌&&◌, not, Bool, true, false, List, [], ◌∷◌}
use Rattle.std.proofs.Common.{refl, sym, ap, ◌∙◌, arith}
use Rattle.std.proofs.lemmas.Bool.{eqb-true}
use Rattle.std.specs.Ordering.{nat_cmp}
use Rattle.std.specs.Cmp.{nat_cmp_total}
use Rattle.std.specs.FinMap.{nat_cmp-IsAntisymmetric}
use Rattle.std.specs.FinSet as sets
use Rattle.std.specs.FinSet.{FinSet, contains, from_list, union, difference, contains-difference, contains-union, contains-from_list_nat}
use Rattle.nfs_model.specs.Parts.{Hand, one_if, times_listed}
use Rattle.depot_rule.specs.Sums.{total}
use Rattle.nfs_model.specs.volume.Ranges.{without_numbers}
use Rattle.filer_state.specs.state.Contents.{VolumeContents}
use Rattle.filer_state.specs.state.WellFormed.{WellFormed}
use Rattle.filer_state.specs.state.Partition.{times_in_hand}
use Rattle.filer_state.specs.state.Sound.{IsSound, IsYoung}
use Rattle.filer_state.specs.bytes.WritingUp.{Leave}

-- ---- sets by counts

pub one-at-most : (b : Bool) → one_if b ≤ 1
one-at-most true = omega arith
one-at-most false = omega arith

-- what is left, and what there was together
rest-is : (a b c : Bool) → one_if c ≡ one_if a + one_if b → a ≡ (c && not b)
rest-is true true true h = absurd (omega (arith, h))
rest-is true true false h = absurd (omega (arith, h))
rest-is true false true h = refl
rest-is true false false h = absurd (omega (arith, h))
rest-is false true true h = refl
rest-is false true false h = absurd (omega (arith, h))
rest-is false false true h = absurd (omega (arith, h))
rest-is false false false h = refl

pub all-is : (a b c : Bool) → one_if c ≡ one_if a + one_if b → c ≡ (a || b)
all-is true true true h = absurd (omega (arith, h))
all-is true true false h = absurd (omega (arith, h))
all-is true false true h = refl
all-is true false false h = absurd (omega (arith, h))
all-is false true true h = refl
all-is false true false h = absurd (omega (arith, h))
all-is false false true h = absurd (omega (arith, h))
all-is false false false h = refl

part-is : (a b c : Bool) → one_if c ≡ one_if a + one_if b → b ≡ true → c ≡ true
part-is a b true h e = refl
part-is true true false h e = absurd (omega (arith, h))
part-is false true false h e = absurd (omega (arith, h))
part-is a false false h e = e

module _ (old new moved : FinSet nat_cmp) (sum : (q : ℕ) → one_if (contains old q) ≡ one_if (contains new q) + one_if (contains moved q)) where
  pub left-is : new ≡ difference old moved
  left-is = sets.same_set nat_cmp_total nat_cmp-IsAntisymmetric new (difference old moved) (λ q.
      rest-is (contains new q) (contains moved q) (contains old q) (sum q) ∙ sym (contains-difference nat_cmp_total old moved q))

  pub there-is : sets.is_subset moved old ≡ true
  there-is = sets.contains-is_subset nat_cmp_total moved old (λ q e. part-is (contains new q) (contains moved q) (contains old q) (sum q) e)

  pub reached-is : old ≡ union new moved
  reached-is = sets.same_set nat_cmp_total nat_cmp-IsAntisymmetric old (union new moved) (λ q.
      all-is (contains new q) (contains moved q) (contains old q) (sum q) ∙ sym (contains-union nat_cmp_total new moved q))

-- ---- numbers that leave

pub one-leaves : (set : FinSet nat_cmp) (n m : ℕ) → contains set n ≡ true
    → one_if (contains set m) ≡ one_if (contains (without_numbers (n ∷ []) set) m) + one_if (n == m)
one-leaves set n m there =
    by (contains set m) (n == m) refl refl
    ∙ ap (λ (b : Bool). one_if b + one_if (n == m)) (sym (contains-difference nat_cmp_total set (from_list (n ∷ [])) m
    ∙ ap (λ (b : Bool). contains set m && not b) (contains-from_list_nat (n ∷ []) m)))
  where
    by : (c e : Bool) → contains set m ≡ c → (n == m) ≡ e → one_if c ≡ one_if (c && not (e || false)) + one_if e
    by true true had same = refl
    by true false had same = refl
    by false true had same = let is : contains set n ≡ false = ap (contains set) (eqb-true n m same) ∙ had in absurd cc
    by false false had same = refl

pub leave-counts : (numbers : List ℕ) (old new : FinSet nat_cmp) → Leave numbers old new → (m : ℕ)
    → one_if (contains old m) ≡ one_if (contains new m) + times_listed m numbers
leave-counts [] old new left m =
    let same : one_if (contains new m) ≡ one_if (contains old m) = ap (λ set. one_if (contains set m)) left in omega (arith, same)
leave-counts (n ∷ numbers) old new left m =
    let first = one-leaves old n m left.0 in
    let rest = leave-counts numbers (without_numbers (n ∷ []) old) new left.1 m in
    omega (arith, first, rest)

-- ---- another stock, and other dead

abbrev pub restocked : FinSet nat_cmp → FinSet nat_cmp → VolumeContents → VolumeContents
restocked stock dead p = record p { logical = record p.logical { stock = stock; dead = record p.logical.dead { blocks = dead } } }

pub well-restocked : (p : VolumeContents) (stock dead : FinSet nat_cmp) → WellFormed p → WellFormed (restocked stock dead p)
well-restocked p stock dead well = record {
  striped = well.striped;
  largest = well.largest;
  most_inodes = well.most_inodes;
  size = well.size;
  logical = record { inodes = well.logical.inodes; few = well.logical.few; sizes = well.logical.sizes; named = well.logical.named; texts = well.logical.texts };
  as_many = well.as_many;
  stripes = λ i on. let fits = well.stripes i on in record {
    verifier = fits.verifier;
    stripes = fits.stripes;
    largest = fits.largest;
    cards = fits.cards;
    owners = fits.owners;
    long = fits.long;
    blocks = fits.blocks;
  };
  used = well.used;
  filled = well.filled;
  sixteen = well.sixteen;
  some = well.some;
  ranges = well.ranges;
}

-- where what leaves them comes into hands
pub sound-restocked : (p : VolumeContents) (stock dead : FinSet nat_cmp) (hands hands' : List Hand) (made : ℕ)
    → ((m : ℕ) → one_if (contains stock m) + one_if (contains dead m) + total (times_in_hand p.number m) hands'
    ≡ one_if (contains p.logical.stock m) + one_if (contains p.logical.dead.blocks m) + total (times_in_hand p.number m) hands)
    → IsSound p hands made → IsSound (restocked stock dead p) hands' made
sound-restocked p stock dead hands hands' made moved s = record {
  well_formed = well-restocked p stock dead s.well_formed;
  young = record { fileids = s.young.fileids; cookies = s.young.cookies };
  partition = λ m. let e = moved m in let o = s.partition m in omega (arith, e, o);
}

-- ---- as many entries, and hands that weigh as much

pub sound-as : (p : VolumeContents) (hands hands' : List Hand) (many made : ℕ) → IsSound p hands many
    → IsYoung p.logical made
    → ((n : ℕ) → total (times_in_hand p.number n) hands' ≡ total (times_in_hand p.number n) hands) → IsSound p hands' made
sound-as p hands hands' many made s young weigh = record {
  well_formed = s.well_formed;
  young = young;
  partition = λ n. let e = weigh n in let o = s.partition n in omega (arith, e, o);
}
