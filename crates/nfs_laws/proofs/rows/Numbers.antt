-- Where block numbers are and go: by calls, and by what workers carry (our profile).
use Rattle.std.proofs.Common.{◌≡◌, ℕ, Bool, true, false, not, ◌||◌, ◌&&◌, List, [], ◌∷◌, replicate, None, refl, sym, ap, ◌∙◌, arith}
use Rattle.std.specs.Prelude.{IsTrue, ◌*◌, length, map, take, nat_eq}
use Rattle.std.specs.List.{range_with_len, filter, list_any}
use Rattle.std.specs.Ordering.{nat_cmp}
use Rattle.std.specs.Cmp.{nat_cmp_total}
use Rattle.std.specs.FinSet as sets
use Rattle.std.specs.FinSet.{FinSet, contains, union, difference, insert, from_list}
use Rattle.nfs_model.specs.Types.{Setattr, Write, Create, Mkdir, Remove, Rename, Grow, Unchecked}
use Rattle.nfs_model.specs.Tree.{Volume, Logical, Stripe, Aggregate}
use Rattle.nfs_model.specs.Serial.Create.{no_attributes}
use Rattle.nfs_model.specs.Parts.{Parts, Hand, Empty, Fresh, Dead, IsBatch, counts}
use Rattle.nfs_model.specs.Moves.{Carried, FilledInVolume, Emptied, Stored, PartsChange, in_range, batch, first_filled, lowest_batch, fresh_hand, dead_hand}
use Rattle.nfs_model.specs.Moves.{fetched, culled, Carrying, Fetches, Culls, PutsDown, Surveys}
use Rattle.nfs_laws.specs.lemmas.Evaluate.{evaluate}
use Rattle.nfs_laws.proofs.rows.Cases.{root, h, a, b, entry, root_with, volume_with, file}

-- ---- small sets

abbrev none : FinSet nat_cmp
none = sets.empty

abbrev just : ℕ → FinSet nat_cmp
just n = insert none n

abbrev both : ℕ → ℕ → FinSet nat_cmp
both m n = insert (just m) n

-- whether each of the numbers 0 to 3 is in a set
abbrev among : FinSet nat_cmp → List Bool
among s = contains s 0 ∷ (contains s 1 ∷ (contains s 2 ∷ (contains s 3 ∷ [])))

in_union : (s t : FinSet nat_cmp) (q : ℕ) → contains (union s t) q ≡ (contains s q || contains t q)
in_union s t q = sets.contains-union nat_cmp_total s t q

in_difference : (s t : FinSet nat_cmp) (q : ℕ) → contains (difference s t) q ≡ (contains s q && not (contains t q))
in_difference s t q = sets.contains-difference nat_cmp_total s t q

whole : (s : FinSet nat_cmp) → sets.is_subset s s ≡ true
whole s = sets.contains-is_subset nat_cmp_total s s (λ q p. p)

or_true : (x y : Bool) → y ≡ true → (x || y) ≡ true
or_true true y p = refl
or_true false y p = p

but_one : (s : FinSet nat_cmp) (n : ℕ) → sets.is_subset s (insert s n) ≡ true
but_one s n = sets.contains-is_subset nat_cmp_total s (insert s n) (λ q p. sets.contains-insert nat_cmp_total s n q ∙ or_true _ (contains s q) p)

nothing_of : (s : FinSet nat_cmp) → sets.is_subset none s ≡ true
nothing_of s = sets.contains-is_subset nat_cmp_total none s (λ q p. let k : false ≡ true = sym (sets.contains-empty nat_cmp q) ∙ p in absurd cc)

-- ---- the parts of a volume of four blocks

abbrev parts : FinSet nat_cmp → FinSet nat_cmp → FinSet nat_cmp → FinSet nat_cmp → Parts
parts files stock dead free = record { files = files; stock = stock; dead = dead; free = free }

-- a volume with a file of these blocks, and where its numbers are
abbrev holds : FinSet nat_cmp → Parts → Stored
holds filled p = record { volume = volume_with 4 16777216 3 ((1, root_with 4 (entry 3 a 2 ∷ [])) ∷ ((2, file [] filled) ∷ [])); parts = p }

-- blocks go from one set to another
abbrev go : (n : ℕ) (blocks old_from old_to : FinSet nat_cmp) → sets.len blocks ≡ n → IsTrue (sets.is_subset blocks old_from)
    → Carried n old_from old_to (difference old_from blocks) (union old_to blocks)
go n blocks old_from old_to count there = record { blocks = blocks; count = count; there = there; left = refl; reached = refl }

-- ---- calls

-- 0 and 1 are in a file, 2 in the stock, 3 is free
abbrev two_filled : Parts
two_filled = parts (both 0 1) (just 2) none (just 3)

abbrev two_dead : Parts
two_dead = parts (difference (both 0 1) (both 0 1)) (just 2) (union none (both 0 1)) (just 3)

two_go : Emptied 2 two_filled two_dead
two_go = record { dead = go 2 (both 0 1) (both 0 1) none (simp evaluate refl) (whole (both 0 1)); stock = refl; free = refl }

dead_are_left_by_files : among two_dead.dead ≡ true ∷ (true ∷ (false ∷ (false ∷ [])))
dead_are_left_by_files = simp (evaluate, in_union) refl

files_have_them_no_more : among two_dead.files ≡ replicate 4 false
files_have_them_no_more = simp (evaluate, in_difference) refl

blocks_of_a_removed_file_are_dead : PartsChange (Remove root a) (Logical 0) (holds (both 0 1) two_filled) (holds none two_dead)
blocks_of_a_removed_file_are_dead = simp evaluate two_go

blocks_past_a_cut_are_dead : PartsChange (Setattr (h 2) no_attributes None) (Logical 0) (holds (both 0 1) two_filled) (holds none two_dead)
blocks_past_a_cut_are_dead = simp evaluate two_go

blocks_of_a_file_created_over_are_dead : PartsChange (Create root a (Unchecked no_attributes)) (Logical 0) (holds (both 0 1) two_filled) (holds none two_dead)
blocks_of_a_file_created_over_are_dead = simp evaluate two_go

blocks_of_a_replaced_file_are_dead : PartsChange (Rename root b root a) (Logical 0) (holds (both 0 1) two_filled) (holds none two_dead)
blocks_of_a_replaced_file_are_dead = simp evaluate two_go

-- 0 is in a file, 1 and 2 in the stock, 3 is free
abbrev one_filled : Parts
one_filled = parts (just 0) (both 1 2) none (just 3)

abbrev by_stock : Parts
by_stock = parts (union (just 0) (just 1)) (difference (both 1 2) (just 1)) none (just 3)

under_logical_the_stock_is_filled : PartsChange (Write (h 2) 4096 1 (7 ∷ [])) (Logical 0) (holds (just 0) one_filled) (holds (both 0 1) by_stock)
under_logical_the_stock_is_filled =
    simp evaluate (record { stock = go 1 (just 1) (both 1 2) (just 0) (simp evaluate refl) (but_one (just 1) 2); free = refl; dead = refl })

in_a_stripe_nothing_is_filled : PartsChange (Write (h 2) 0 1 (7 ∷ [])) (Stripe 0 2) (holds (just 0) one_filled) (holds (just 0) one_filled)
in_a_stripe_nothing_is_filled = (simp evaluate refl, refl)

-- 1 in the stock, 2 free, 3 dead
abbrev one_of_each : Parts
one_of_each = parts (just 0) (just 1) (just 3) (just 2)

-- two blocks: one of the stock, one that was free
abbrev by_stock_and_free : Parts
by_stock_and_free =
    parts (union (union (union (just 0) (just 1)) (just 2)) none) (difference (just 1) (just 1)) (difference (just 3) none) (difference (just 2) (just 2))

under_volume_the_stock_comes_first : FilledInVolume 2 one_of_each by_stock_and_free
under_volume_the_stock_comes_first = record {
  by_stock = union (just 0) (just 1);
  by_free = union (union (just 0) (just 1)) (just 2);
  stock = go _ (just 1) (just 1) (just 0) (simp evaluate refl) (whole (just 1));
  free = go _ (just 2) (just 2) (union (just 0) (just 1)) (simp evaluate refl) (whole (just 2));
  dead = go _ none (just 3) (union (union (just 0) (just 1)) (just 2)) (simp evaluate refl) (nothing_of (just 3));
}

blocks_of_a_write_under_volume : PartsChange (Write (h 2) 4096 2 (7 ∷ (8 ∷ []))) (Volume 0) (holds (just 0) one_of_each)
    (holds (insert (both 0 1) 2) by_stock_and_free)
blocks_of_a_write_under_volume = simp evaluate under_volume_the_stock_comes_first

dead_stay_where_others_are_enough : among by_stock_and_free.dead ≡ false ∷ (false ∷ (false ∷ (true ∷ [])))
dead_stay_where_others_are_enough = simp (evaluate, in_difference) refl

-- three: the dead one too
under_volume_the_dead_come_last : FilledInVolume 3 one_of_each
    (parts (union (union (union (just 0) (just 1)) (just 2)) (just 3)) (difference (just 1) (just 1)) (difference (just 3) (just 3))
    (difference (just 2) (just 2)))
under_volume_the_dead_come_last = record {
  by_stock = union (just 0) (just 1);
  by_free = union (union (just 0) (just 1)) (just 2);
  stock = go _ (just 1) (just 1) (just 0) (simp evaluate refl) (whole (just 1));
  free = go _ (just 2) (just 2) (union (just 0) (just 1)) (simp evaluate refl) (whole (just 2));
  dead = go _ (just 3) (just 3) (union (union (just 0) (just 1)) (just 2)) (simp evaluate refl) (whole (just 3));
}

new_numbers_are_free : PartsChange (Grow 0 1) (Aggregate 0) (holds none (parts none none none (just 3)))
    (record { volume = volume_with 1028 16777216 3 []; parts = parts none none none (union (just 3) (from_list (range_with_len 4 1024))) })
new_numbers_are_free = refl

other_calls_move_nothing : PartsChange (Mkdir root b no_attributes) (Logical 0) (holds (just 0) one_filled) (holds (just 0) one_filled)
other_calls_move_nothing = refl

-- ---- batches

abbrev of : List ℕ → FinSet nat_cmp
of blocks = from_list blocks

-- those of a list that lie in a range, lowest first
abbrev listed_in : ℕ → List ℕ → List ℕ
listed_in range blocks = filter (λ q. list_any (λ y. nat_eq y q) blocks) (range_with_len (1024 * range) 1024)

in_range_is : (range : ℕ) (blocks : List ℕ) → in_range 1024 range (of blocks) ≡ listed_in range blocks
unfolding in_range
in_range_is range blocks = λ i. filter (λ q. sets.contains-from_list_nat blocks q i) (range_with_len (1024 * range) 1024)

batch_is : (range : ℕ) (blocks : List ℕ) → batch 1024 range (of blocks) ≡ take 64 (listed_in range blocks)
batch_is range blocks = ap (take 64) (in_range_is range blocks)

lowest_batch_is : (blocks : List ℕ) → lowest_batch 1024 (of blocks) ≡ first_filled (map (λ r. take 64 (listed_in r blocks)) (range_with_len 0 16))
unfolding lowest_batch
lowest_batch_is blocks = λ i. first_filled (map (λ r. batch_is r blocks i) (range_with_len 0 16))

abbrev some : List ℕ
some = 5 ∷ (3 ∷ (1030 ∷ []))

lowest_of_a_range_are_a_batch : batch 1024 0 (of some) ≡ 3 ∷ (5 ∷ [])
lowest_of_a_range_are_a_batch = batch_is 0 some

batch_of_another_range : batch 1024 1 (of some) ≡ 1030 ∷ []
batch_of_another_range = batch_is 1 some

last_of_a_range_and_first_of_the_next : batch 1024 1 (of (1023 ∷ (1024 ∷ (2047 ∷ (2048 ∷ []))))) ≡ 1024 ∷ (2047 ∷ [])
last_of_a_range_and_first_of_the_next = batch_is 1 (1023 ∷ (1024 ∷ (2047 ∷ (2048 ∷ []))))

batch_has_64_at_most : batch 1024 0 (of (range_with_len 0 65)) ≡ range_with_len 0 64
batch_has_64_at_most = batch_is 0 (range_with_len 0 65)

range_of_the_lowest_is_culled : lowest_batch 1024 (of (2050 ∷ (1025 ∷ (1030 ∷ [])))) ≡ 1025 ∷ (1030 ∷ [])
range_of_the_lowest_is_culled = lowest_batch_is (2050 ∷ (1025 ∷ (1030 ∷ [])))

last_range_is_culled : lowest_batch 1024 (of (16383 ∷ [])) ≡ 16383 ∷ []
last_range_is_culled = lowest_batch_is (16383 ∷ [])

-- ---- what workers carry

abbrev carries : Parts → Hand → Carrying
carries p hand = record { parts = p; hand = hand }

abbrev three_five : List ℕ
three_five = 3 ∷ (5 ∷ [])

-- a batch that is known, in place of what it is computed from
fetches : (range : ℕ) (p : Parts) (blocks : List ℕ) → batch 1024 range p.free ≡ blocks
    → Fetches 1024 0 range (length blocks) (carries p Empty) (carries (record p { free = difference p.free (of blocks) }) (fresh_hand 0 blocks))
fetches range p blocks e = (sym (ap (λ (bs : List ℕ). length bs) e), sym (ap (λ (bs : List ℕ). fetched 0 bs p) e))

culls : (p : Parts) (blocks : List ℕ) → lowest_batch 1024 p.dead ≡ blocks
    → Culls 1024 0 (length blocks) (carries p Empty) (carries (record p { dead = difference p.dead (of blocks) }) (dead_hand 0 blocks))
culls p blocks e = (sym (ap (λ (bs : List ℕ). length bs) e), sym (ap (λ (bs : List ℕ). culled 0 bs p) e))

free_blocks_are_fetched : Fetches 1024 0 0 2 (carries (parts none none none (of some)) Empty)
    (carries (parts none none none (difference (of some) (of three_five))) (Fresh 0 three_five))
free_blocks_are_fetched = fetches 0 (parts none none none (of some)) three_five lowest_of_a_range_are_a_batch

nothing_free_leaves_the_hand_empty : Fetches 1024 0 2 0 (carries (parts none none none (of some)) Empty)
    (carries (parts none none none (difference (of some) (of []))) Empty)
nothing_free_leaves_the_hand_empty = fetches 2 (parts none none none (of some)) [] (batch_is 2 some)

dead_blocks_are_culled : Culls 1024 0 2 (carries (parts none none (of some) none) Empty)
    (carries (parts none none (difference (of some) (of three_five)) none) (Dead 0 three_five))
dead_blocks_are_culled = culls (parts none none (of some) none) three_five (lowest_batch_is some)

nothing_dead_leaves_the_hand_empty : Culls 1024 0 0 (carries (parts none none (of []) none) Empty)
    (carries (parts none none (difference (of []) (of [])) none) Empty)
nothing_dead_leaves_the_hand_empty = culls (parts none none (of []) none) [] (lowest_batch_is [])

fresh_batch_comes_to_the_stock : PutsDown 2 (carries (parts none (just 1) none none) (Fresh 0 three_five))
    (carries (parts none (union (just 1) (of three_five)) none none) Empty)
fresh_batch_comes_to_the_stock = (refl, refl)

dead_batch_comes_to_the_bitmaps : PutsDown 2 (carries (parts none none none (just 1)) (Dead 0 three_five))
    (carries (parts none none none (union (just 1) (of three_five))) Empty)
dead_batch_comes_to_the_bitmaps = (refl, refl)

free_blocks_are_surveyed : Surveys 1024 2 (parts none none none (of some)) (2 ∷ (1 ∷ []))
free_blocks_are_surveyed = sym (λ i. map (λ r. length (in_range_is r some i)) (range_with_len 0 2))

-- ---- a batch is at most 64 numbers of one range, ascending

two_of_a_range : IsBatch 1024 1 (1024 ∷ (2047 ∷ []))
two_of_a_range = record { few = omega arith; ascending = (omega arith, tt); of_range = (refl, (refl, tt)) }

two_ranges_are_no_batch : IsBatch 1024 0 (1023 ∷ (1024 ∷ [])) → ⊥
two_ranges_are_no_batch q = let k : 1 ≡ 0 = q.of_range.1.0 in absurd (cc)

descending_are_no_batch : IsBatch 1024 0 (5 ∷ (3 ∷ [])) → ⊥
descending_are_no_batch q = let k = q.ascending.0 in omega (arith, k)

-- ---- what is told

parts_are_counted : counts (volume_with 4 16777216 3 ((1, root_with 4 (entry 3 a 2 ∷ [])) ∷ ((2, file [] (just 0)) ∷ [])))
    (parts (just 0) (both 1 2) none none) (3 ∷ []) ≡ record { files = 1; stock = 2; dead = 0; free = 0; hands = 1; total = 4 }
parts_are_counted = simp evaluate refl
