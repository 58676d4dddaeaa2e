-- Block numbers that leave the stock, the free and the dead of a volume one after another: what is left, and what came from where.
use Rattle.std.proofs.Common.{◌≡◌, ◌≢◌, ℕ, suc, ◌+◌, ◌<◌, ◌==◌, ◌&&◌, not, Bool, true, false, List, [], ◌∷◌, length}
use Rattle.std.proofs.Common.{refl, sym, ap, ◌∙◌, subst, arith, inl, inr, ◌⊎◌, ⊎_elim}
use Rattle.std.specs.Prelude.{slice_set}
use Rattle.std.proofs.lemmas.Bool.{cases_eq}
use Rattle.std.proofs.lemmas.List.{length-set, get_or-set_same, get_or-set_other}
use Rattle.std.specs.Ordering.{nat_cmp}
use Rattle.std.specs.Cmp.{nat_cmp_total}
use Rattle.std.specs.FinMap.{nat_cmp-IsAntisymmetric}
use Rattle.std.specs.FinSet as sets
use Rattle.std.specs.FinSet.{contains, from_list, len, contains-difference}
use Rattle.nfs_model.specs.Parts.{one_if, times_listed}
use Rattle.depot_rule.specs.Sums.{total}
use Rattle.nfs_model.specs.volume.Ranges.{RangeValue, IsRange, taken, without_numbers}
use Rattle.filer_state.specs.state.Parcels.{no_range}
use Rattle.filer_state.specs.state.Tree.{ranges_used}
use Rattle.filer_state.specs.state.WellFormed.{RangeFits, range_at}
use Rattle.filer_state.specs.state.Lenses.{VolumeSet}
use Rattle.filer_state.specs.laws.lemmas.Parts.{used-put}
use Rattle.filer_state.specs.bytes.WritingUp.{LeavesStock, LeavesRange, LeavesDead, LeaveParts, free_count}
use Rattle.filer_state.specs.bytes.lemmas.HoleFilled.{total-put}
use Rattle.filer_state.specs.bytes.lemmas.Leaving.{one-leaves}
use Rattle.filer_state.specs.bytes.lemmas.Listed.{len-without}

-- how often a number is free
abbrev pub times_free : ℕ → List RangeValue → ℕ
times_free m ranges = total (λ (r : RangeValue). one_if (contains r.free m)) ranges

-- what left, by where it came from
pub record HaveLeft (numbers : List ℕ) (old left : VolumeSet) : Type 0 where
  pub stock : List ℕ
  pub free : List ℕ
  pub dead : List ℕ
  -- all of them
  pub times : (m : ℕ) → times_listed m numbers ≡ times_listed m stock + times_listed m free + times_listed m dead
  pub many : length numbers ≡ length stock + length free + length dead
  -- what else there is stays
  pub stripes : left.logical.stripes ≡ old.logical.stripes
  pub own : left.logical.own ≡ record old.logical.own {
    stock = left.logical.own.stock;
    dead = record old.logical.own.dead { blocks = left.logical.own.dead.blocks };
  }
  pub used : ranges_used left.ranges ≡ ranges_used old.ranges
  pub long : length left.ranges ≡ length old.ranges
  pub fits : (size used r : ℕ) → RangeFits size used r (range_at old.ranges r) → RangeFits size used r (range_at left.ranges r)
  -- each came from its part
  pub from_stock : (m : ℕ) → one_if (contains old.logical.own.stock m) ≡ one_if (contains left.logical.own.stock m) + times_listed m stock
  pub from_free : (m : ℕ) → times_free m old.ranges ≡ times_free m left.ranges + times_listed m free
  pub from_dead : (m : ℕ) → one_if (contains old.logical.own.dead.blocks m) ≡ one_if (contains left.logical.own.dead.blocks m) + times_listed m dead
  pub stock_many : len old.logical.own.stock ≡ len left.logical.own.stock + length stock
  pub free_many : free_count old.ranges ≡ free_count left.ranges + length free
  pub dead_many : len old.logical.own.dead.blocks ≡ len left.logical.own.dead.blocks + length dead
  -- the stock first, then the free
  pub stock_first : (length free + length dead ≡ 0) ⊎ (len left.logical.own.stock ≡ 0)
  pub free_next : (length dead ≡ 0) ⊎ (free_count left.ranges ≡ 0)

-- ---- a range that a number leaves

first-test : (a b : Bool) → (a && b) ≡ true → a ≡ true
first-test true b h = refl
first-test false b h = absurd cc

taken-is : (x : RangeValue) (n : ℕ) → IsRange x → IsRange (taken (n ∷ []) x)
taken-is x n is = record {
  size = is.size;
  own = λ b e. is.own b (first-test (contains x.free b) (not (contains (from_list {R = nat_cmp} (n ∷ [])) b))
      (sym (contains-difference nat_cmp_total x.free (from_list (n ∷ [])) b) ∙ e));
  used = λ e. ap (λ s. without_numbers (n ∷ []) s) (is.used e) ∙ sets.same_set nat_cmp_total nat_cmp-IsAntisymmetric _ _ (λ q.
      contains-difference nat_cmp_total sets.empty (from_list (n ∷ [])) q
      ∙ ap (λ (b : Bool). b && not (contains (from_list {R = nat_cmp} (n ∷ [])) q)) (sets.contains-empty nat_cmp q)
      ∙ sym (sets.contains-empty nat_cmp q));
}

taken-fits : (size used r : ℕ) (x : RangeValue) (n : ℕ) → RangeFits size used r x → RangeFits size used r (taken (n ∷ []) x)
taken-fits size used r x n fits = record { blocks = fits.blocks; number = fits.number; in_use = fits.in_use; free = taken-is x n fits.free }

module _ (ranges : List RangeValue) (r n : ℕ) (within : r < length ranges) where
  abbrev x : RangeValue
  x = range_at ranges r

  abbrev after : List RangeValue
  after = slice_set ranges r (taken (n ∷ []) x)

  fits-after : (size used k : ℕ) → RangeFits size used k (range_at ranges k) → RangeFits size used k (range_at after k)
  fits-after size used k fits = ⊎_elim
      (λ (e : k ≡ r). subst (λ (m : ℕ). RangeFits size used k (range_at after m)) (sym e)
      (subst (RangeFits size used k) (sym (get_or-set_same ranges r (taken (n ∷ []) x) no_range within))
      (taken-fits size used k x n (subst (λ (m : ℕ). RangeFits size used k (range_at ranges m)) e fits))))
      (λ (ne : k ≢ r). subst (RangeFits size used k) (sym (get_or-set_other ranges r k (taken (n ∷ []) x) no_range ne)) fits)
      (cases_eq k r)

  times-after : contains x.free n ≡ true → (m : ℕ) → times_free m ranges ≡ times_free m after + one_if (n == m)
  times-after there m =
      let put = total-put (λ (y : RangeValue). one_if (contains y.free m)) ranges r no_range (taken (n ∷ []) x) within in
      let one = one-leaves x.free n m there in
      omega (arith, put, one)

  count-after : contains x.free n ≡ true → free_count ranges ≡ free_count after + 1
  count-after there =
      let put = total-put (λ (y : RangeValue). len y.free) ranges r no_range (taken (n ∷ []) x) within in
      let one = len-without x.free n there in
      omega (arith, put, one)

-- nothing is free where no range has any
none-free : (ranges : List RangeValue) → ((r : ℕ) → r < length ranges → (range_at ranges r).free ≡ sets.empty) → free_count ranges ≡ 0
none-free [] none = refl
none-free (x ∷ ranges) none =
    let here : len x.free ≡ 0 = ap (λ s. len s) (none 0 (omega arith)) ∙ sets.len-empty nat_cmp in
    let rest = none-free ranges (λ r on. none (suc r) (omega (arith, on))) in
    omega (arith, here, rest)

-- ---- one number, and then the others

module _ (n : ℕ) (numbers : List ℕ) (old next left : VolumeSet) (rest : HaveLeft numbers next left) where
  by-stock : LeavesStock n old next → HaveLeft (n ∷ numbers) old left
  by-stock one = subst (λ (s : VolumeSet). HaveLeft numbers s left → HaveLeft (n ∷ numbers) old left) (sym one.left)
      (λ others. record {
        stock = n ∷ others.stock;
        free = others.free;
        dead = others.dead;
        times = λ m. let t = others.times m in omega (arith, t);
        many = (let t = others.many in omega (arith, t));
        stripes = others.stripes;
        own = others.own;
        used = others.used;
        long = others.long;
        fits = others.fits;
        from_stock = λ m. let first = one-leaves old.logical.own.stock n m one.there in let t = others.from_stock m in omega (arith, first, t);
        from_free = others.from_free;
        from_dead = others.from_dead;
        stock_many = (let first = len-without old.logical.own.stock n one.there in let t = others.stock_many in omega (arith, first, t));
        free_many = others.free_many;
        dead_many = others.dead_many;
        stock_first = others.stock_first;
        free_next = others.free_next;
      }) rest

  -- an empty stock stays so
  stock-none : old.logical.own.stock ≡ sets.empty → (others : ℕ) → len old.logical.own.stock ≡ len left.logical.own.stock + others
      → len left.logical.own.stock ≡ 0
  stock-none none others sum =
      let zero_there : len old.logical.own.stock ≡ 0 = ap (λ s. len s) none ∙ sets.len-empty nat_cmp in omega (arith, zero_there, sum)

  by-range : LeavesRange n old next → HaveLeft (n ∷ numbers) old left
  by-range one = subst (λ (s : VolumeSet). HaveLeft numbers s left → HaveLeft (n ∷ numbers) old left) (sym one.left)
      (λ others. record {
        stock = others.stock;
        free = n ∷ others.free;
        dead = others.dead;
        times = λ m. let t = others.times m in omega (arith, t);
        many = (let t = others.many in omega (arith, t));
        stripes = others.stripes;
        own = others.own;
        used = others.used ∙ used-put old.ranges one.range (taken (n ∷ []) (range_at old.ranges one.range)) refl;
        long = others.long ∙ length-set old.ranges one.range (taken (n ∷ []) (range_at old.ranges one.range));
        fits = λ size used r fits. others.fits size used r (fits-after old.ranges one.range n one.within size used r fits);
        from_stock = others.from_stock;
        from_free = λ m.
            let first = times-after old.ranges one.range n one.within one.there m in let t = others.from_free m in omega (arith, first, t);
        from_dead = others.from_dead;
        stock_many = others.stock_many;
        free_many = (let first = count-after old.ranges one.range n one.within one.there in let t = others.free_many in omega (arith, first, t));
        dead_many = others.dead_many;
        stock_first = inr (stock-none one.no_stock (length others.stock) others.stock_many);
        free_next = others.free_next;
      }) rest

  by-dead : LeavesDead n old next → HaveLeft (n ∷ numbers) old left
  by-dead one = subst (λ (s : VolumeSet). HaveLeft numbers s left → HaveLeft (n ∷ numbers) old left) (sym one.left)
      (λ others. record {
        stock = others.stock;
        free = others.free;
        dead = n ∷ others.dead;
        times = λ m. let t = others.times m in omega (arith, t);
        many = (let t = others.many in omega (arith, t));
        stripes = others.stripes;
        own = others.own;
        used = others.used;
        long = others.long;
        fits = others.fits;
        from_stock = others.from_stock;
        from_free = others.from_free;
        from_dead = λ m. let first = one-leaves old.logical.own.dead.blocks n m one.there in let t = others.from_dead m in omega (arith, first, t);
        stock_many = others.stock_many;
        free_many = others.free_many;
        dead_many = (let first = len-without old.logical.own.dead.blocks n one.there in let t = others.dead_many in omega (arith, first, t));
        stock_first = inr (stock-none one.no_stock (length others.stock) others.stock_many);
        free_next = inr (let zero_free = none-free old.ranges one.none_free in let t = others.free_many in omega (arith, zero_free, t));
      }) rest

none-left : (old : VolumeSet) → HaveLeft [] old old
none-left old = record {
  stock = [];
  free = [];
  dead = [];
  times = λ m. refl;
  many = refl;
  stripes = refl;
  own = refl;
  used = refl;
  long = refl;
  fits = λ size used r fits. fits;
  from_stock = λ m. omega arith;
  from_free = λ m. omega arith;
  from_dead = λ m. omega arith;
  stock_many = omega arith;
  free_many = omega arith;
  dead_many = omega arith;
  stock_first = inl refl;
  free_next = inl refl;
}

pub have-left : (numbers : List ℕ) (old left : VolumeSet) → LeaveParts numbers old left → HaveLeft numbers old left
have-left [] old left h = subst (HaveLeft [] old) (sym h) (none-left old)
have-left (n ∷ numbers) old left h =
    let rest = have-left numbers h.0 left h.2 in ⊎_elim
    (λ (one : LeavesStock n old h.0). by-stock n numbers old h.0 left rest one)
    (λ (others : LeavesRange n old h.0 ⊎ LeavesDead n old h.0). ⊎_elim
    (λ (one : LeavesRange n old h.0). by-range n numbers old h.0 left rest one)
    (λ (one : LeavesDead n old h.0). by-dead n numbers old h.0 left rest one)
    others)
    h.1
