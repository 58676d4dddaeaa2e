-- How many numbers are dead, and the batch of the lowest.
use Rattle.std.proofs.Common.{◌≡◌, refl, sym, ap, subst, ◌∙◌, ℕ, zero, suc, ◌+◌, ◌-◌, ◌*◌, ◌/◌, ◌<◌, ◌≤◌, Bool, true, false, not, ◌||◌, ◌&&◌, nat_eq, cond}
use Rattle.std.proofs.Common.{List, [], ◌∷◌, ◌++◌, length, take, drop, min, map, get_or, Option, Some, None, ◌⊎◌, inl, inr, ⊎_elim, arith}
use Rattle.std.specs.List.{filter, range_with_len, slice_get}
use Rattle.std.specs.Ordering.{nat_cmp, eq_by_cmp}
use Rattle.std.specs.Cmp.{nat_cmp_total}
use Rattle.std.specs.FinSet as sets
use Rattle.std.specs.FinSet.{FinSet, contains, len, from_list, remove, insert, contains-remove, contains-insert, len-remove, len-insert, empty_of_len}
use Rattle.std.specs.FinSet.{contains-empty, contains-union, contains-difference, contains-from_list_nat, same_set, nat_cmp-IsAntisymmetric}
use borrow.Author.Tests.{eqb-true}
use Rattle.std.proofs.lemmas.Bool.{cases_lt}
use Rattle.nfs_model.specs.Parts.{most_ranges, most_carried}
use Rattle.nfs_model.specs.Moves.{in_range, first_filled, lowest_batch}
use Rattle.nfs_model.specs.volume.Ranges.{with_numbers, without_numbers, DeadValue, dead_taken, IsOfVolume}
use Rattle.nfs_values.specs.declared.number.BlockNumber.{BlockNumber}
use Rattle.std.specs.Option.{IfSome, IfNone, option_map}
use Rattle.vbn_ranges.specs.Batch.{numbers, first_of}
use Rattle.vbn_ranges.specs.Marks.{MarksValue, lowest_marked}
use Rattle.vbn_ranges.specs.Dead.{all_of, dead_of, AreNumbered, AreDead, lowest_dead, lowest_of}
use Rattle.vbn_ranges.proofs.Rising.{is_in, Rising, rising-weaker, not-below, in-head}
use Rattle.vbn_ranges.proofs.Ranged.{not-both}
use Rattle.vbn_ranges.proofs.Quotients.{below-range, quotient-is, within-range}
use Rattle.vbn_ranges.proofs.DeadSets.{in-all, in-union, without-none, lowest-rising, lowest-in}

-- ---- counts

or-false : (t : Bool) → (t || false) ≡ t
or-false true = refl
or-false false = refl

ties : (q b : ℕ) → eq_by_cmp nat_cmp q b ≡ nat_eq b q
ties q b =
    sym (contains-insert nat_cmp_total sets.empty b q ∙ ap (λ t. eq_by_cmp nat_cmp q b || t) (contains-empty nat_cmp q) ∙ or-false (eq_by_cmp nat_cmp q b))
    ∙ contains-from_list_nat (b ∷ []) q
    ∙ or-false (nat_eq b q)

swap : (a b : Bool) → (a || (b || false)) ≡ (b || a)
swap true true = refl
swap true false = refl
swap false true = refl
swap false false = refl

with-one : (b : ℕ) (s : FinSet nat_cmp) → with_numbers (b ∷ []) s ≡ insert s b
with-one b s =
    same_set nat_cmp_total nat_cmp-IsAntisymmetric _ _
    (λ q. contains-union nat_cmp_total s (from_list (b ∷ [])) q
    ∙ ap (λ t. contains s q || t) (contains-from_list_nat (b ∷ []) q)
    ∙ swap (contains s q) (nat_eq b q)
    ∙ sym (contains-insert nat_cmp_total s b q ∙ ap (λ t. t || contains s q) (ties q b)))

pub len-with : (b : ℕ) (s : FinSet nat_cmp) → contains s b ≡ false → len (with_numbers (b ∷ []) s) ≡ len s + 1
len-with b s e = ap len (with-one b s) ∙ len-insert nat_cmp_total s b ∙ ap (λ t. cond t (len s) (len s + 1)) e

already : (a : Bool) (b : Bool) → (b ≡ true → a ≡ true) → (a || (b || false)) ≡ a
already true b h = refl
already false true h = sym (h refl)
already false false h = refl

pub with-same : (b : ℕ) (s : FinSet nat_cmp) → contains s b ≡ true → s ≡ with_numbers (b ∷ []) s
with-same b s e =
    same_set nat_cmp_total nat_cmp-IsAntisymmetric _ _
    (λ q. sym (contains-union nat_cmp_total s (from_list (b ∷ [])) q
    ∙ ap (λ t. contains s q || t) (contains-from_list_nat (b ∷ []) q)
    ∙ already (contains s q) (nat_eq b q) (λ t. ap (contains s) (sym (eqb-true b q t)) ∙ e)))

fewer : (a b c : Bool) → (a && not (b || c)) ≡ (not b && (a && not c))
fewer true true c = refl
fewer true false c = refl
fewer false true c = refl
fewer false false c = refl

without-more : (b : ℕ) (bs : List ℕ) (s : FinSet nat_cmp) → without_numbers (b ∷ bs) s ≡ remove (without_numbers bs s) b
without-more b bs s =
    same_set nat_cmp_total nat_cmp-IsAntisymmetric _ _
    (λ q. contains-difference nat_cmp_total s (from_list (b ∷ bs)) q
    ∙ ap (λ t. contains s q && not t) (contains-from_list_nat (b ∷ bs) q)
    ∙ fewer (contains s q) (nat_eq b q) (is_in bs q)
    ∙ sym (contains-remove nat_cmp_total (without_numbers bs s) b q
    ∙ (λ i. not (ties q b i) && contains (without_numbers bs s) q)
    ∙ ap (λ t. not (nat_eq b q) && t) (contains-difference nat_cmp_total s (from_list bs) q
    ∙ ap (λ t. contains s q && not t) (contains-from_list_nat bs q))))

some-len : (s : FinSet nat_cmp) (b : ℕ) → contains s b ≡ true → 0 < len s
some-len s b e = by (len s) refl
  where
    by : (n : ℕ) → len s ≡ n → 0 < n
    by zero z = absurd (not-both _ e (ap (λ t. contains t b) (empty_of_len s z) ∙ contains-empty nat_cmp b))
    by (suc n) z = omega arith

or-true : (a : Bool) → (a || true) ≡ true
or-true true = refl
or-true false = refl

len-without : (low high : ℕ) (bs : List ℕ) (s : FinSet nat_cmp) → Rising low high bs → ((q : ℕ) → is_in bs q ≡ true → contains s q ≡ true)
    → len (without_numbers bs s) + length bs ≡ len s
len-without low high [] s h c = let same = ap len (without-none s) in omega arith
len-without low high (b ∷ bs) s h c =
    let rest = len-without (b + 1) high bs s h.1 (λ q t. c q (ap (λ u. nat_eq b q || u) t ∙ or-true (nat_eq b q))) in
    let there : contains (without_numbers bs s) b ≡ true =
    contains-difference nat_cmp_total s (from_list bs) b
    ∙ (λ i. c b (in-head b bs b refl) i && not (contains-from_list_nat bs b i))
    ∙ ap not (not-below (b + 1) high bs b h.1 (omega arith)) in
    let some = some-len (without_numbers bs s) b there in
    let less : len (without_numbers (b ∷ bs) s) ≡ len (without_numbers bs s) - 1 =
    ap len (without-more b bs s)
    ∙ len-remove nat_cmp_total (without_numbers bs s) b
    ∙ ap (λ t. cond t (len (without_numbers bs s) - 1) (len (without_numbers bs s))) there in
    omega arith

-- ---- what is taken

rising-filled : (x : List ℕ) (rest : List (List ℕ)) (low high : ℕ) → Rising low high x → ((h : ℕ) × Rising 0 h (first_filled rest))
    → (h : ℕ) × Rising 0 h (first_filled (x ∷ rest))
rising-filled [] rest low high r s = s
rising-filled (b ∷ bs) rest low high r s = (high, rising-weaker low 0 high (b ∷ bs) (omega arith) r)

rising-dead : (n : ℕ) (marks : List MarksValue) → (h : ℕ) × Rising 0 h (lowest_dead n marks)
rising-dead n [] = (0, omega arith)
rising-dead n (m ∷ marks) = rising-filled (lowest_marked n m) (map (lowest_marked n) marks) _ _ (lowest-rising n m) (rising-dead n marks)

in-filled : (x : List ℕ) (rest : List (List ℕ)) (q : ℕ) → is_in (first_filled (x ∷ rest)) q ≡ true
    → (is_in x q ≡ true) ⊎ (is_in (first_filled rest) q ≡ true)
in-filled [] rest q t = inr t
in-filled (b ∷ bs) rest q t = inl t

in-dead : (n : ℕ) (marks : List MarksValue) (q : ℕ) → is_in (lowest_dead n marks) q ≡ true → contains (all_of marks) q ≡ true
in-dead n [] q t = absurd (not-both true refl (sym t))
in-dead n (m ∷ marks) q t =
    in-union m marks q
    ∙ ⊎_elim (λ e. ap (λ u. u || contains (all_of marks) q) (lowest-in n m q e))
    (λ e. ap (λ u. contains m.set q || u) (in-dead n marks q e) ∙ or-true (contains m.set q))
    (in-filled (lowest_marked n m) (map (lowest_marked n) marks) q t)

len-taken : (n : ℕ) (marks : List MarksValue)
    → len (without_numbers (lowest_dead n marks) (all_of marks)) + length (lowest_dead n marks) ≡ len (all_of marks)
len-taken n marks = let r = rising-dead n marks in len-without 0 r.0 (lowest_dead n marks) (all_of marks) r.1 (in-dead n marks)

-- ---- the batch

filter-agree : (p r : ℕ → Bool) (n low high : ℕ) → low + n ≡ high → ((q : ℕ) → low ≤ q → q < high → p q ≡ r q)
    → filter p (range_with_len low n) ≡ filter r (range_with_len low n)
filter-agree p r zero low high e a = refl
filter-agree p r (suc n) low high e a =
    λ i. cond (a low (omega arith) (omega arith) i) (low ∷ filter-agree p r n (low + 1) high (omega arith) (λ q l u. a q (omega arith) u) i)
    (filter-agree p r n (low + 1) high (omega arith) (λ q l u. a q (omega arith) u) i)

in-range-agree : (size range : ℕ) (s t : FinSet nat_cmp) → ((q : ℕ) → q / size ≡ range → contains s q ≡ contains t q)
    → in_range size range s ≡ in_range size range t
unfolding in_range
in-range-agree size range s t a =
    filter-agree (contains s) (contains t) size (size * range) (size * range + size) refl (λ q l u. a q (quotient-is size range q l u))

batches : (size n : ℕ) (whole : FinSet nat_cmp) (from : ℕ) (marks : List MarksValue) → AreNumbered size from marks
    → ((i : ℕ) (d : MarksValue) (q : ℕ) → i < length marks → q / size ≡ from + i → contains whole q ≡ contains (get_or marks i d).set q)
    → map (λ r. take (min n most_carried) (in_range size r whole)) (range_with_len from (length marks)) ≡ map (lowest_marked n) marks
batches size n whole from [] h a = refl
batches size n whole from (m ∷ marks) h a =
    let k = min n most_carried in
    let sized = h.0.size_is in
    let number = h.0.range_is in
    (λ i. take k (in-range-agree size from whole m.set (λ q e. a 0 m q (omega arith) (omega (arith, e))) i)
    ∷ map (λ r. take k (in_range size r whole)) (range_with_len (from + 1) (length marks)))
    ∙ (λ i. take k (in_range (sym sized i) (sym number i) m.set)
    ∷ batches size n whole (from + 1) marks h.1 (λ j d q l e. a (suc j) d q (omega arith) (omega (arith, e))) i)

lowest-of-is : (size n : ℕ) (marks : List MarksValue) → AreNumbered size 0 marks → length marks ≡ most_ranges
    → lowest_of size n (all_of marks) ≡ lowest_dead n marks
unfolding lowest_of
lowest-of-is size n marks h s =
    ap (λ (k : ℕ). first_filled (map (λ r. take (min n most_carried) (in_range size r (all_of marks))) (range_with_len 0 k))) (sym s)
    ∙ ap first_filled (batches size n (all_of marks) 0 marks h (λ i d q l e. in-all size 0 i marks d q h l e))

pub lowest-batch-is : (size : ℕ) (set : FinSet nat_cmp) → lowest_of size 64 set ≡ lowest_batch size set
unfolding lowest_of lowest_batch
lowest-batch-is size set = refl

-- ---- a step of all dead blocks

refilled : (n : ℕ) (new rest : List MarksValue) → length new ≡ n → take n (new ++ rest) ≡ new
refilled zero [] rest e = refl
refilled (suc n) [] rest e = absurd (omega arith)
refilled zero (m ∷ new) rest e = absurd (omega arith)
refilled (suc n) (m ∷ new) rest e = ap (λ (ms : List MarksValue). m ∷ ms) (refilled n new rest (omega arith))

-- what is taken from the marks of all ranges
pub record TakenFrom (size n : ℕ) (old new : List MarksValue) (blocks : List ℕ) : Type 0 where
  pub batch : blocks ≡ lowest_dead n old
  pub left : all_of new ≡ without_numbers (lowest_dead n old) (all_of old)
  pub numbered : AreNumbered size 0 new
  pub long : length new ≡ length old

pub taken-from : (size n : ℕ) (lent old new : List MarksValue) (blocks : List ℕ) → lent ≡ old → blocks ≡ lowest_dead n lent
    → all_of new ≡ without_numbers (lowest_dead n lent) (all_of lent) → AreNumbered size 0 new → length new ≡ length lent → TakenFrom size n old new blocks
taken-from size n lent old new blocks same b l h s =
    subst (λ (ms : List MarksValue). TakenFrom size n ms new blocks) same (record { batch = b; left = l; numbered = h; long = s })

pub fits-count : (size n count : ℕ) (old new : List MarksValue) (blocks : List ℕ) → AreDead size old count → TakenFrom size n old new blocks
    → length blocks ≤ count
fits-count size n count old new blocks h t =
    let all = len-taken n old in
    let counted = h.counted in
    let long = ap length t.batch in
    omega (arith, all, counted, long)

pub still-dead : (size n count : ℕ) (old new : List MarksValue) (blocks : List ℕ) → AreDead size old count → TakenFrom size n old new blocks
    → AreDead size (take (length old) (new ++ drop (length new) old)) (count - length blocks)
still-dead size n count old new blocks h t =
    subst (λ (ms : List MarksValue). AreDead size ms (count - length blocks)) (sym (refilled (length old) new (drop (length new) old) t.long))
    (record {
      sized = h.sized;
      all_ranges = t.long ∙ h.all_ranges;
      numbered = t.numbered;
      counted =
          let all = len-taken n old in
          let counted = h.counted in
          let long = ap length t.batch in
          let left = ap len t.left in
          omega (arith, all, counted, long, left);
    })

pub lowest-taken-is : (size n count : ℕ) (old new : List MarksValue) (blocks : List ℕ) → AreDead size old count → TakenFrom size n old new blocks
    → blocks ≡ lowest_of size n (all_of old)
lowest-taken-is size n count old new blocks h t = t.batch ∙ sym (lowest-of-is size n old h.numbered h.all_ranges)

pub lowest-left : (size n count : ℕ) (old new : List MarksValue) (blocks : List ℕ) → AreDead size old count → TakenFrom size n old new blocks
    → dead_of size (take (length old) (new ++ drop (length new) old)) ≡ dead_taken (lowest_of size n (all_of old)) (dead_of size old)
lowest-left size n count old new blocks h t =
    ap (λ (s : FinSet nat_cmp). record { range_blocks = size; blocks = s })
    (ap all_of (refilled (length old) new (drop (length new) old) t.long)
    ∙ t.left
    ∙ ap (λ (bs : List ℕ). without_numbers bs (all_of old)) (sym (lowest-of-is size n old h.numbered h.all_ranges)))

-- ---- the lowest number alone

first-of-filled : (xs : List ℕ) (a b : List (List ℕ)) → first_of (first_filled a) ≡ first_of (first_filled b)
    → first_of (first_filled (take 1 xs ∷ a)) ≡ first_of (first_filled (take 64 xs ∷ b))
first-of-filled [] a b e = e
first-of-filled (x ∷ xs) a b e = refl

first-of-ranges : (f : ℕ → List ℕ) (rs : List ℕ)
    → first_of (first_filled (map (λ r. take 1 (f r)) rs)) ≡ first_of (first_filled (map (λ r. take 64 (f r)) rs))
first-of-ranges f [] = refl
first-of-ranges f (r ∷ rs) = first-of-filled (f r) (map (λ r. take 1 (f r)) rs) (map (λ r. take 64 (f r)) rs) (first-of-ranges f rs)

pub first-lowest : (size : ℕ) (set : FinSet nat_cmp) → first_of (lowest_of size 1 set) ≡ first_of (lowest_of size 64 set)
unfolding lowest_of
first-lowest size set = first-of-ranges (λ r. in_range size r set) (range_with_len 0 most_ranges)

one-filled : (xs : List ℕ) (a : List (List ℕ)) → length (first_filled a) ≤ 1 → length (first_filled (take 1 xs ∷ a)) ≤ 1
one-filled [] a l = l
one-filled (x ∷ xs) a l = omega arith

one-of-ranges : (f : ℕ → List ℕ) (rs : List ℕ) → length (first_filled (map (λ r. take 1 (f r)) rs)) ≤ 1
one-of-ranges f [] = omega arith
one-of-ranges f (r ∷ rs) = one-filled (f r) (map (λ r. take 1 (f r)) rs) (one-of-ranges f rs)

single : (bs : List ℕ) (b : ℕ) → length bs ≤ 1 → first_of bs ≡ Some b → bs ≡ b ∷ []
single [] b l e = absurd cc
single (c ∷ []) b l e = let same : c ≡ b = cc in ap (λ (n : ℕ). n ∷ []) same
single (c ∷ (d ∷ bs)) b l e = absurd (omega arith)

lowest-one : (size : ℕ) (set : FinSet nat_cmp) (b : ℕ) → first_of (lowest_of size 1 set) ≡ Some b → lowest_of size 1 set ≡ b ∷ []
unfolding lowest_of
lowest-one size set b e = single (lowest_of size 1 set) b (one-of-ranges (λ r. in_range size r set) (range_with_len 0 most_ranges)) e

-- ---- nothing is taken only where nothing is dead

no-first : (bs : List ℕ) → first_of bs ≡ None → bs ≡ []
no-first [] e = refl
no-first (b ∷ bs) e = absurd cc

none-filled : (x : List ℕ) (rest : List (List ℕ)) → first_filled (x ∷ rest) ≡ [] → (x ≡ []) × (first_filled rest ≡ [])
none-filled [] rest e = (refl, e)
none-filled (b ∷ bs) rest e = absurd cc

none-of-range : (f : ℕ → List ℕ) (n from r : ℕ) → from ≤ r → r < from + n → first_filled (map f (range_with_len from n)) ≡ [] → f r ≡ []
none-of-range f zero from r l u e = absurd (omega arith)
none-of-range f (suc n) from r l u e =
    let parts = none-filled (f from) (map f (range_with_len (from + 1) n)) e in
    ⊎_elim (λ more. none-of-range f n (from + 1) r (omega arith) (omega arith) parts.1)
    (λ here. let same : from ≡ r = omega arith in subst (λ (k : ℕ). f k ≡ []) same parts.0) (cases_lt from r)

pub filter-keeps : (p : ℕ → Bool) (n low q : ℕ) → low ≤ q → q < low + n → p q ≡ true → is_in (filter p (range_with_len low n)) q ≡ true
filter-keeps p zero low q l u e = absurd (omega arith)
filter-keeps p (suc n) low q l u e =
    ⊎_elim (λ more. later (p low) (filter-keeps p n (low + 1) q (omega arith) (omega arith) e))
    (λ here. let same : low ≡ q = omega arith in ap (λ t. is_in (cond t (low ∷ rest) rest) q) (ap p same ∙ e) ∙ in-head low rest q same) (cases_lt low q)
  where
    rest : List ℕ
    rest = filter p (range_with_len (low + 1) n)

    later : (t : Bool) → is_in rest q ≡ true → is_in (cond t (low ∷ rest) rest) q ≡ true
    later true i = ap (λ u. nat_eq low q || u) i ∙ or-true (nat_eq low q)
    later false i = i

none-taken : (xs : List ℕ) → take 1 xs ≡ [] → xs ≡ []
none-taken [] e = refl
none-taken (x ∷ xs) e = absurd cc

there : (size : ℕ) (set : FinSet nat_cmp) (q : ℕ) → 0 < size → contains set q ≡ true → is_in (in_range size (q / size) set) q ≡ true
unfolding in_range
there size set q some e =
    let within = within-range size (q / size) q some refl in filter-keeps (contains set) size (size * (q / size)) q within.low within.high e

if-never : (t : Bool) → (t ≡ true → ⊥) → t ≡ false
if-never true h = absurd (h refl)
if-never false h = refl

none-lowest : (size : ℕ) (set : FinSet nat_cmp) → 0 < size → IsOfVolume size set → first_of (lowest_of size 1 set) ≡ None → set ≡ sets.empty
unfolding lowest_of
none-lowest size set some v e =
    same_set nat_cmp_total nat_cmp-IsAntisymmetric _ _
    (λ q. if-never (contains set q)
    (λ t.
    let low = below-range size most_ranges q some (v.below q t) in
    let none = none-taken (in_range size (q / size) set)
    (none-of-range (λ r. take 1 (in_range size r set)) most_ranges 0 (q / size) (omega arith) (omega (arith, low))
    (no-first (lowest_of size 1 set) e)) in
    not-both _ (there size set q some t) (ap (λ (bs : List ℕ). is_in bs q) none))
    ∙ sym (contains-empty nat_cmp q))

-- ---- the first of a batch

firsts : (blocks : List BlockNumber) → option_map (λ (b : BlockNumber). b.0) (slice_get blocks 0) ≡ first_of (numbers blocks)
firsts [] = refl
firsts (b ∷ blocks) = refl

pub first-is : (r : Option BlockNumber) (blocks : List BlockNumber) (lowest : List ℕ) → r ≡ slice_get blocks 0 → numbers blocks ≡ lowest
    → option_map (λ (b : BlockNumber). b.0) r ≡ first_of lowest
first-is r blocks lowest e f = ap (option_map (λ (b : BlockNumber). b.0)) e ∙ firsts blocks ∙ ap first_of f

pub one-left : (r : Option BlockNumber) (d new : DeadValue) → option_map (λ (b : BlockNumber). b.0) r ≡ first_of (lowest_of d.range_blocks 1 d.blocks)
    → new ≡ dead_taken (lowest_of d.range_blocks 1 d.blocks) d → IfSome r (λ b. new ≡ dead_taken (b.0 ∷ []) d)
one-left None d new e l = tt
one-left (Some b) d new e l = l ∙ ap (λ (bs : List ℕ). dead_taken bs d) (lowest-one d.range_blocks d.blocks b.0 (sym e))

none-taken-of : (d : DeadValue) → dead_taken [] d ≡ d
none-taken-of d = ap (λ (s : FinSet nat_cmp). record { range_blocks = d.range_blocks; blocks = s }) (without-none d.blocks)

pub none-left : (r : Option BlockNumber) (d new : DeadValue) → 0 < d.range_blocks → IsOfVolume d.range_blocks d.blocks
    → option_map (λ (b : BlockNumber). b.0) r ≡ first_of (lowest_of d.range_blocks 1 d.blocks)
    → new ≡ dead_taken (lowest_of d.range_blocks 1 d.blocks) d → IfNone r ((d.blocks ≡ sets.empty) × (new ≡ d))
none-left None d new some v e l = (
  none-lowest d.range_blocks d.blocks some v (sym e),
  l ∙ ap (λ (bs : List ℕ). dead_taken bs d) (no-first (lowest_of d.range_blocks 1 d.blocks) (sym e)) ∙ none-taken-of d,
)
none-left (Some b) d new some v e l = tt

never-first : (bs : List ℕ) → ((q : ℕ) → is_in bs q ≡ true → ⊥) → first_of bs ≡ None
never-first [] h = refl
never-first (b ∷ bs) h = absurd (h b (in-head b bs b refl))

pub empty-first : (size : ℕ) (marks : List MarksValue) (count : ℕ) → AreDead size marks count → count ≡ 0
    → (all_of marks ≡ sets.empty) × (None ≡ first_of (lowest_batch size (all_of marks)))
empty-first size marks count h z =
    let none : all_of marks ≡ sets.empty = empty_of_len (all_of marks) (sym h.counted ∙ z) in (
      none,
      sym (ap first_of (sym (lowest-batch-is size (all_of marks)) ∙ lowest-of-is size 64 marks h.numbered h.all_ranges)
          ∙ never-first (lowest_dead 64 marks)
          (λ q t. not-both _ (in-dead 64 marks q t) (ap (λ s. contains s q) none ∙ contains-empty nat_cmp q))),
    )
