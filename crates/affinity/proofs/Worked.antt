-- Rows computed from the definitions: one aggregate with one spare range, two volumes of one range each.
use Rattle.std.proofs.Common.{◌≡◌, ℕ, true, false, [], ◌∷◌, replicate, slice_index, Some, None, refl}
use Rattle.nfs_model.specs.Tree.{Layout, VolumeLayout, Aggregate, Volume, Logical, Stripe, Range, range_blocks_of}
use Rattle.affinity.specs.Fault.{fault_of, fault_without_sizes}
use Rattle.affinity.specs.Largest.{begun_of, inodes_of, largest_of, remembered_of, steps_of}
use Rattle.affinity.specs.Tree.{is_above, parent_of}
use Rattle.affinity.specs.Numbers.{node_count, number_of, parents}

abbrev volume_on : ℕ → ℕ → ℕ → VolumeLayout
volume_on aggregate ranges stripes = record {
  aggregate = aggregate;
  ranges = ranges;
  stripes = stripes;
  mebibytes = 16;
  range_blocks = 1024;
  inodes = 65536;
  most_steps = 9;
  begun = record { seconds = 8; nanoseconds = 7 };
  root = record { mode = 1; uid = 2; gid = 3 };
  remembered = 6;
}

abbrev two_volumes : Layout
two_volumes = record { spare = 1 ∷ []; volumes = volume_on 0 1 8 ∷ volume_on 0 1 8 ∷ [] }

abbrev eight_volumes : ℕ → Layout
eight_volumes stripes = record { spare = 128 ∷ 128 ∷ []; volumes = replicate 8 (volume_on 1 16 stripes) }

it_has_56_nodes : node_count two_volumes ≡ 56
it_has_56_nodes = refl

at_most_219_nodes : node_count (eight_volumes 8) ≡ 219
at_most_219_nodes = refl

with_16_stripes_at_most_283 : node_count (eight_volumes 16) ≡ 283
with_16_stripes_at_most_283 = refl

last_number : number_of two_volumes (Range 1 15) ≡ 56
last_number = refl

second_volume_follows : number_of two_volumes (Volume 1) ≡ 30
second_volume_follows = refl

parent_of_logical : slice_index (parents two_volumes) 4 ≡ 3
parent_of_logical = refl

parent_of_second_vbn : slice_index (parents two_volumes) 40 ≡ 30
parent_of_second_vbn = refl

parent_of_last : slice_index (parents two_volumes) 56 ≡ 40
parent_of_last = refl

aggregate_is_above_stripe : is_above two_volumes (Aggregate 0) (Stripe 1 2) ≡ true
aggregate_is_above_stripe = refl

stripe_is_not_above_itself : is_above two_volumes (Stripe 1 2) (Stripe 1 2) ≡ false
stripe_is_not_above_itself = refl

logical_is_not_above_range : is_above two_volumes (Logical 0) (Range 0 0) ≡ false
logical_is_not_above_range = refl

volume_on_second_aggregate : parent_of (eight_volumes 8) (Volume 3) ≡ Some (Aggregate 1)
volume_on_second_aggregate = refl

it_breaks_no_rule : fault_of two_volumes ≡ None
it_breaks_no_rule = refl

largest_breaks_no_rule : fault_of (eight_volumes 16) ≡ None
largest_breaks_no_rule = refl

unknown_aggregate_before_bad_ranges : fault_of (record { spare = 129 ∷ []; volumes = volume_on 0 17 8 ∷ volume_on 1 1 8 ∷ [] }) ≡ Some 53
unknown_aggregate_before_bad_ranges = refl

bad_ranges_before_spare_ones : fault_of (record { spare = 129 ∷ []; volumes = volume_on 0 0 8 ∷ [] }) ≡ Some 54
bad_ranges_before_spare_ones = refl

abbrev one_volume : ℕ → ℕ → Layout
one_volume stripes mebibytes = record {
  spare = 128 ∷ [];
  volumes = record (volume_on 0 16 stripes) { mebibytes = mebibytes } ∷ [];
}

spare_ones_before_stripes : fault_of (record { spare = 129 ∷ []; volumes = volume_on 0 16 9 ∷ [] }) ≡ Some 55
spare_ones_before_stripes = refl

stripes_before_the_largest_file : fault_without_sizes (one_volume 12 17) ≡ Some 56
stripes_before_the_largest_file = refl

files_of_32_mebibytes : fault_without_sizes (one_volume 16 32) ≡ Some 57
files_of_32_mebibytes = refl

files_of_64_mebibytes : fault_without_sizes (one_volume 8 64) ≡ None
files_of_64_mebibytes = refl

their_largest_size : largest_of (one_volume 8 64) 0 ≡ 67108864
their_largest_size = refl

the_ordinary_largest_size : largest_of (one_volume 8 16) 0 ≡ 16777216
the_ordinary_largest_size = refl

-- an ordinary volume before one of 16 stripes
abbrev mixed : Layout
mixed = record { spare = 0 ∷ []; volumes = volume_on 0 1 8 ∷ volume_on 0 1 16 ∷ volume_on 0 1 8 ∷ [] }

third_volume_after_16_stripes : number_of mixed (Volume 2) ≡ 65
third_volume_after_16_stripes = refl

parent_of_the_sixteenth_stripe : slice_index (parents mixed) (number_of mixed (Stripe 1 15)) ≡ number_of mixed (Logical 1)
parent_of_the_sixteenth_stripe = refl

-- ---- sizes that are given

-- one volume of 8 stripes and 16 ranges, with these blocks a range, mebibytes of its largest files, and inodes
abbrev sized : ℕ → ℕ → ℕ → Layout
sized range_blocks mebibytes inodes = record {
  spare = 128 ∷ [];
  volumes = record (volume_on 0 16 8) { mebibytes = mebibytes; range_blocks = range_blocks; inodes = inodes } ∷ [];
}

smallest_sizes : fault_of (sized 1024 16 65536) ≡ None
smallest_sizes = refl

largest_sizes : fault_of (sized 16777216 1048576 67108864) ≡ None
largest_sizes = refl

ranges_of_2048_blocks : fault_of (sized 2048 17 65537) ≡ None
ranges_of_2048_blocks = refl

ranges_of_512_blocks : fault_of (sized 512 15 65535) ≡ Some 58
ranges_of_512_blocks = refl

ranges_of_3072_blocks : fault_of (sized 3072 16 65536) ≡ Some 58
ranges_of_3072_blocks = refl

ranges_of_33554432_blocks : fault_of (sized 33554432 16 65536) ≡ Some 58
ranges_of_33554432_blocks = refl

ranges_of_1025_blocks : fault_of (sized 1025 16 65536) ≡ Some 58
ranges_of_1025_blocks = refl

files_of_15_mebibytes : fault_of (sized 1024 15 65535) ≡ Some 59
files_of_15_mebibytes = refl

files_of_1048577_mebibytes : fault_of (sized 1024 1048577 65536) ≡ Some 59
files_of_1048577_mebibytes = refl

inodes_one_too_few : fault_of (sized 1024 16 65535) ≡ Some 67
inodes_one_too_few = refl

inodes_one_too_many : fault_of (sized 1024 16 67108865) ≡ Some 67
inodes_one_too_many = refl

stripes_before_blocks_of_a_range :
    fault_of (record { spare = 0 ∷ []; volumes = record (volume_on 0 1 9) { range_blocks = 1; inodes = 1 } ∷ [] })
    ≡ Some 56
stripes_before_blocks_of_a_range = refl

largest_file_of_a_tebibyte : largest_of (sized 16777216 1048576 67108864) 0 ≡ 1099511627776
largest_file_of_a_tebibyte = refl

blocks_of_its_ranges : range_blocks_of (sized 16777216 16 65536) 0 ≡ 16777216
blocks_of_its_ranges = refl

its_inodes : inodes_of (sized 1024 16 67108864) 0 ≡ 67108864
its_inodes = refl

its_steps : steps_of (sized 1024 16 65536) 0 ≡ 9
its_steps = refl

steps_of_no_volume : steps_of (sized 1024 16 65536) 1 ≡ 4294967295
steps_of_no_volume = refl

its_beginning : begun_of (sized 1024 16 65536) 0 ≡ record { seconds = 8; nanoseconds = 7 }
its_beginning = refl

beginning_of_no_volume : begun_of (sized 1024 16 65536) 1 ≡ record { seconds = 0; nanoseconds = 0 }
beginning_of_no_volume = refl

its_replies : remembered_of (sized 1024 16 65536) 0 ≡ 6
its_replies = refl

replies_of_no_volume : remembered_of (sized 1024 16 65536) 1 ≡ 0
replies_of_no_volume = refl
