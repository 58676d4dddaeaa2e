-- The lowest of the ranges taken.
use Rattle.std.proofs.Common.{◌≡◌, refl, sym, ap, subst, ◌∙◌, ℕ, suc, ◌+◌, ◌/◌, ◌<◌, ◌≤◌, true, false, ◌==◌, List, [], ◌∷◌, length, get_or, arith}
use Rattle.std.proofs.Math.ListN.{set}
use Rattle.std.proofs.lemmas.List.{set-get_or}
use Rattle.std.proofs.lemmas.Bool.Decides.{nat_tests}
use Rattle.std.specs.Ordering.{nat_cmp}
use Rattle.std.specs.FinSet.{FinSet}
use Rattle.nfs_model.specs.volume.Ranges.{without_numbers}
use Rattle.vbn_ranges.specs.Marks.{MarksValue, lowest_marked, unmarked}
use Rattle.vbn_ranges.specs.Dead.{all_of, IsMarksOf, AreNumbered, lowest_dead}
use Rattle.vbn_ranges.proofs.Ranged.{not-both}
use Rattle.vbn_ranges.proofs.DeadSets.{EmptyBefore, empty-more, lowest-here, lowest-none, lowest-of, numbered-at, numbered-set, still-marks}
use Rattle.vbn_ranges.proofs.DeadSets.{all-marked-less, without-none}

not-empty : (blocks lowest : List ℕ) → blocks ≡ lowest → (length blocks == 0) ≡ false → lowest ≡ [] → ⊥
not-empty blocks lowest e n z = not-both _ (ap (λ (bs : List ℕ). length bs == 0) (e ∙ z)) n

-- what the first range that has a marked number gives
pub record TakenHere (n i : ℕ) (marks old : List MarksValue) (new : MarksValue) (blocks : List ℕ) : Type 0 where
  pub batch : blocks ≡ lowest_dead n old
  pub left : all_of (set marks i new) ≡ without_numbers (lowest_dead n old) (all_of old)

pub taken-here : (size n i : ℕ) (marks old : List MarksValue) (d new : MarksValue) (blocks : List ℕ) → marks ≡ old → AreNumbered size 0 old
    → EmptyBefore n i marks → i < length marks → blocks ≡ lowest_marked n (get_or marks i d)
    → new ≡ unmarked (lowest_marked n (get_or marks i d)) (get_or marks i d) → (length blocks == 0) ≡ false → TakenHere n i marks old new blocks
taken-here size n i marks old d new blocks s h empty l b e some =
    let m = get_or marks i d in
    let numbered = subst (AreNumbered size 0) (sym s) h in
    let at = numbered-at size 0 i marks d numbered l in
    let here : lowest_dead n old ≡ lowest_marked n m =
    ap (lowest_dead n) (sym s) ∙ lowest-here n i marks d empty l (not-empty blocks (lowest_marked n m) b some) in
    record {
      batch = b ∙ sym here;
      left =
          ap (λ (x : MarksValue). all_of (set marks i x)) e
          ∙ all-marked-less size 0 i marks d (lowest_marked n m) numbered l
          (λ q t. sym (ap (λ k. q / k) at.size_is) ∙ lowest-of n m q t ∙ at.range_is)
          ∙ (λ j. without_numbers (sym here j) (all_of (s j)));
    }

-- the marks are still in order
pub numbered-here : (size n i : ℕ) (marks old : List MarksValue) (d new : MarksValue) → marks ≡ old → AreNumbered size 0 old → i < length marks
    → new ≡ unmarked (lowest_marked n (get_or marks i d)) (get_or marks i d) → AreNumbered size 0 (set marks i new)
numbered-here size n i marks old d new s h l e =
    let m = get_or marks i d in
    let numbered = subst (AreNumbered size 0) (sym s) h in
    let at = numbered-at size 0 i marks d numbered l in
    numbered-set size 0 i marks new numbered
    (subst (IsMarksOf size (0 + i)) (sym e)
    (record { size_is = at.size_is; range_is = at.range_is; marks = still-marks (lowest_marked n m) m at.marks }))

none-left : (m : MarksValue) → unmarked [] m ≡ m
none-left m = ap (λ (s : FinSet nat_cmp). record { range_blocks = m.range_blocks; range = m.range; set = s }) (without-none m.set)

pub empty-list : (blocks : List ℕ) → (length blocks == 0) ≡ true → blocks ≡ []
empty-list [] e = refl
empty-list (b ∷ bs) e = absurd (grind (arith, nat_tests, e))

pub nothing-here : (n i : ℕ) (marks : List MarksValue) (d new : MarksValue) (blocks : List ℕ) → EmptyBefore n i marks → i < length marks
    → blocks ≡ lowest_marked n (get_or marks i d) → new ≡ unmarked (lowest_marked n (get_or marks i d)) (get_or marks i d) → (length blocks == 0) ≡ true
    → (set marks i new ≡ marks) × EmptyBefore n (suc i) marks
nothing-here n i marks d new blocks empty l b e none =
    let m = get_or marks i d in
    let lowest : lowest_marked n m ≡ [] = sym b ∙ empty-list blocks none in
    (ap (set marks i) (e ∙ ap (λ (bs : List ℕ). unmarked bs m) lowest ∙ none-left m) ∙ set-get_or marks i d, empty-more n i marks d empty l lowest)

pub nothing-taken : (n k : ℕ) (marks old : List MarksValue) → marks ≡ old → EmptyBefore n k marks → length marks ≤ k
    → ([] ≡ lowest_dead n old) × (all_of marks ≡ without_numbers (lowest_dead n old) (all_of old))
nothing-taken n k marks old s empty l =
    let none : [] ≡ lowest_dead n old = sym (ap (lowest_dead n) (sym s) ∙ lowest-none n k marks empty l) in
    (none, ap all_of s ∙ sym (without-none (all_of old)) ∙ ap (λ (bs : List ℕ). without_numbers bs (all_of old)) none)
