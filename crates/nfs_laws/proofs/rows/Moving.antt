-- When a WRITE moves to another affinity (our profile).
use Rattle.std.proofs.Common.{◌≡◌, ℕ, [], ◌∷◌, replicate, Some, None, refl, zero, suc}
use Rattle.nfs_model.specs.Types.{Call, Setattr, Read, Write, Ask}
use Rattle.std.specs.Ordering.{nat_cmp}
use Rattle.std.specs.FinSet.{FinSet}
use Rattle.std.specs.FinSet as sets
use Rattle.nfs_model.specs.Tree.{Affinity, Logical, Stripe, Volume}
use Rattle.nfs_model.specs.Server.{Server}
use Rattle.nfs_model.specs.Work.{Store, Task, move_of}
use Rattle.nfs_laws.specs.lemmas.Evaluate.{evaluate}
use Rattle.nfs_laws.proofs.rows.Cases.{at, nobody, h, write_at, sized, no_blocks, block_0, file, with_file, narrow, tight}

-- ---- a WRITE, with this many blocks in the stock, free and dead

-- a set of this many numbers
abbrev sized_set : ℕ → FinSet nat_cmp
sized_set zero = sets.empty
sized_set (suc n) = sets.insert (sized_set n) n

-- a server, with this many blocks in the parts of volume 0
abbrev store : Server → ℕ → ℕ → ℕ → Store
store server stock free dead = record {
  server = server;
  parts = record { files = sets.empty; stock = sized_set stock; dead = sized_set dead; free = sized_set free } ∷ [];
}

-- a call of nobody under an affinity
abbrev under : Affinity → Call → Task
under affinity call = record { asked = Ask call nobody; affinity = affinity; moment = at 1 }

filling_write_leaves_its_stripe :
    move_of (store (with_file (file [] no_blocks)) 9 0 0) (under (Stripe 0 2) (write_at 2 0 (7 ∷ [])))
    ≡ Some (Logical 0)
filling_write_leaves_its_stripe = simp evaluate refl

write_into_a_hole_leaves_its_stripe :
    move_of (store (with_file (file (1 ∷ (2 ∷ (3 ∷ []))) no_blocks)) 9 0 0) (under (Stripe 0 2) (write_at 2 0 (7 ∷ [])))
    ≡ Some (Logical 0)
write_into_a_hole_leaves_its_stripe = simp evaluate refl

extending_write_leaves_its_stripe :
    move_of (store (with_file (file (1 ∷ (2 ∷ (3 ∷ []))) block_0)) 9 0 0) (under (Stripe 0 2) (write_at 2 3 (7 ∷ [])))
    ≡ Some (Logical 0)
extending_write_leaves_its_stripe = simp evaluate refl

overwrite_stays_in_its_stripe :
    move_of (store (with_file (file (1 ∷ (2 ∷ (3 ∷ []))) block_0)) 0 0 0) (under (Stripe 0 2) (write_at 2 0 (7 ∷ [])))
    ≡ None
overwrite_stays_in_its_stripe = simp evaluate refl

write_of_nothing_stays_in_its_stripe :
    move_of (store (with_file (file [] no_blocks)) 0 0 0) (under (Stripe 0 2) (write_at 2 9 []))
    ≡ None
write_of_nothing_stays_in_its_stripe = simp evaluate refl

write_past_the_largest_stays_in_its_stripe :
    move_of (store (narrow (file [] no_blocks)) 0 0 0) (under (Stripe 0 2) (write_at 2 8 (7 ∷ [])))
    ≡ None
write_past_the_largest_stays_in_its_stripe = simp evaluate refl

write_of_another_count_stays_in_its_stripe :
    move_of (store (with_file (file [] no_blocks)) 0 0 0) (under (Stripe 0 2) (Write (h 2) 0 2 (7 ∷ [])))
    ≡ None
write_of_another_count_stays_in_its_stripe = simp evaluate refl

write_of_an_absent_file_stays_in_its_stripe :
    move_of (store (with_file (file [] no_blocks)) 0 0 0) (under (Stripe 0 2) (write_at 9 0 (7 ∷ [])))
    ≡ None
write_of_an_absent_file_stays_in_its_stripe = simp evaluate refl

write_of_a_directory_stays_in_its_stripe :
    move_of (store (with_file (file [] no_blocks)) 0 0 0) (under (Stripe 0 2) (write_at 1 0 (7 ∷ [])))
    ≡ None
write_of_a_directory_stays_in_its_stripe = simp evaluate refl

write_without_space_leaves_its_stripe :
    move_of (store (tight (file (1 ∷ []) block_0) (file (1 ∷ []) block_0)) 0 0 0) (under (Stripe 0 2) (write_at 2 4096 (7 ∷ [])))
    ≡ Some (Logical 0)
write_without_space_leaves_its_stripe = simp evaluate refl

read_never_moves :
    move_of (store (with_file (file (1 ∷ (2 ∷ (3 ∷ []))) block_0)) 0 0 0) (under (Stripe 0 2) (Read (h 2) 0 9))
    ≡ None
read_never_moves = refl

write_on_a_short_stock_moves_to_volume :
    move_of (store (with_file (file [] no_blocks)) 0 9 9) (under (Logical 0) (write_at 2 0 (7 ∷ [])))
    ≡ Some (Volume 0)
write_on_a_short_stock_moves_to_volume = simp evaluate refl

write_on_a_stock_short_by_one :
    move_of (store (with_file (file [] no_blocks)) 1 9 9) (under (Logical 0) (write_at 2 4095 (7 ∷ (8 ∷ []))))
    ≡ Some (Volume 0)
write_on_a_stock_short_by_one = simp evaluate refl

write_on_enough_stock_stays :
    move_of (store (with_file (file [] no_blocks)) 1 0 0) (under (Logical 0) (write_at 2 0 (7 ∷ [])))
    ≡ None
write_on_enough_stock_stays = simp evaluate refl

overwrite_over_two_spans_stays_in_logical :
    move_of (store (with_file (file (1 ∷ (2 ∷ (3 ∷ []))) block_0)) 0 0 0) (under (Logical 0) (write_at 2 0 (7 ∷ (8 ∷ []))))
    ≡ None
overwrite_over_two_spans_stays_in_logical = simp evaluate refl

extending_write_that_fills_nothing_stays_in_logical :
    move_of (store (with_file (file (1 ∷ (2 ∷ (3 ∷ []))) block_0)) 0 0 0) (under (Logical 0) (write_at 2 3 (7 ∷ [])))
    ≡ None
extending_write_that_fills_nothing_stays_in_logical = simp evaluate refl

write_without_space_moves_to_volume :
    move_of (store (tight (file (1 ∷ []) block_0) (file (1 ∷ []) block_0)) 0 0 0) (under (Logical 0) (write_at 2 4096 (7 ∷ [])))
    ≡ Some (Volume 0)
write_without_space_moves_to_volume = simp evaluate refl

write_without_space_is_answered_in_volume :
    move_of (store (tight (file (1 ∷ []) block_0) (file (1 ∷ []) block_0)) 0 0 0) (under (Volume 0) (write_at 2 4096 (7 ∷ [])))
    ≡ None
write_without_space_is_answered_in_volume = simp evaluate refl

write_in_volume_takes_what_is_free :
    move_of (store (with_file (file [] no_blocks)) 0 1 0) (under (Volume 0) (write_at 2 0 (7 ∷ [])))
    ≡ None
write_in_volume_takes_what_is_free = simp evaluate refl

write_in_volume_takes_what_is_dead :
    move_of (store (with_file (file [] no_blocks)) 0 0 1) (under (Volume 0) (write_at 2 0 (7 ∷ [])))
    ≡ None
write_in_volume_takes_what_is_dead = simp evaluate refl

write_in_volume_takes_of_all_three :
    move_of (store (with_file (file [] no_blocks)) 1 1 1) (under (Volume 0) (write_at 2 4095 (replicate 4098 7)))
    ≡ None
write_in_volume_takes_of_all_three = simp evaluate refl

write_in_volume_waits_for_what_is_in_hands :
    move_of (store (with_file (file [] no_blocks)) 0 0 0) (under (Volume 0) (write_at 2 0 (7 ∷ [])))
    ≡ Some (Volume 0)
write_in_volume_waits_for_what_is_in_hands = simp evaluate refl

write_in_volume_waits_for_the_last :
    move_of (store (with_file (file [] no_blocks)) 1 1 0) (under (Volume 0) (write_at 2 4095 (replicate 4098 7)))
    ≡ Some (Volume 0)
write_in_volume_waits_for_the_last = simp evaluate refl

other_calls_never_move :
    move_of (store (with_file (file [] no_blocks)) 0 0 0) (under (Logical 0) (Setattr (h 2) (sized 9) None))
    ≡ None
other_calls_never_move = refl
