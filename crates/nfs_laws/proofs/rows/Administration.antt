-- GROW, CENSUS and STOP of the admin program (our profile), refusals and want of memory.
use Rattle.std.proofs.Common.{◌≡◌, true, false, [], ◌∷◌, None, refl}
use Rattle.nfs_model.specs.Types.{Census, Grow, Stop, Ask, Refused, Undecoded, Success, SystemError, GarbageArguments, CensusDone, GrowDone, StopDone, NoEntry, Invalid}
use Rattle.nfs_model.specs.Types.{TooBig, NoSpace}
use Rattle.nfs_model.specs.Home.{home}
use Rattle.nfs_model.specs.Serial.Step.{serial}
use Rattle.nfs_model.specs.Serial.Starve.{may_starve_at_decoding, may_starve_later}
use Rattle.nfs_laws.specs.lemmas.Evaluate.{evaluate}
use Rattle.nfs_model.specs.Server.{VolumeState, Server}
use Rattle.nfs_model.specs.Serial.Fsstat.{space}
use Rattle.nfs_laws.proofs.rows.Cases.{layout, start, at, nobody, fails, block_0, file, with_file, root_with, volume_with}

-- ---- STOP

stop_changes_nothing : serial start (Ask Stop nobody) (at 1) false ≡ record { reply = Success StopDone; server = start }
stop_changes_nothing = refl

stop_has_no_home : home layout Stop ≡ None
stop_has_no_home = refl

stop_may_not_starve : may_starve_at_decoding (Ask Stop nobody) ≡ false
stop_may_not_starve = refl

stop_may_not_starve_later : may_starve_later start (Ask Stop nobody) (at 1) ≡ false
stop_may_not_starve_later = refl

-- ---- GROW

grow_of_no_volume :
    (serial start (Ask (Grow 2 0) nobody) (at 1) false).reply
    ≡ fails NoEntry 0
grow_of_no_volume = refl

grow_by_nothing :
    (serial start (Ask (Grow 0 0) nobody) (at 1) false).reply
    ≡ fails Invalid 0
grow_by_nothing = refl

grow_past_16_ranges :
    (serial start (Ask (Grow 0 16) nobody) (at 1) false).reply
    ≡ fails TooBig 0
grow_past_16_ranges = refl

grow_by_all_numbers :
    (serial start (Ask (Grow 0 4294967295) nobody) (at 1) false).reply
    ≡ fails TooBig 0
grow_by_all_numbers = refl

grow_up_to_16_ranges_without_spare_ones :
    (serial start (Ask (Grow 0 15) nobody) (at 1) false).reply
    ≡ fails NoSpace 0
grow_up_to_16_ranges_without_spare_ones = refl

grow_past_the_spare_ranges :
    (serial start (Ask (Grow 0 2) nobody) (at 1) false).reply
    ≡ fails NoSpace 0
grow_past_the_spare_ranges = refl

grow_by_the_spare_range :
    (serial start (Ask (Grow 1 1) nobody) (at 1) false).reply
    ≡ Success (GrowDone 2048)
grow_by_the_spare_range = refl

spare_range_is_gone :
    (serial (serial start (Ask (Grow 1 1) nobody) (at 1) false).server (Ask (Grow 0 1) nobody) (at 2) false).reply
    ≡ fails NoSpace 0
spare_range_is_gone = refl

-- a volume of one range of 2,048 blocks, with 65,537 inodes at most
abbrev larger_volume : VolumeState
larger_volume = record (volume_with 2048 16777216 2 ((1, root_with 3 []) ∷ [])) { range_blocks = 2048; most_inodes = 65537 }

-- with spare ranges
abbrev larger : Server
larger = record { spare = 20 ∷ []; volumes = larger_volume ∷ [] }

space_goes_by_the_volumes_own_limits : space larger_volume
    ≡ record { total_bytes = 8388608; free_bytes = 8388608; inodes = 65537; free_inodes = 65536 }
space_goes_by_the_volumes_own_limits = simp evaluate refl

growth_goes_by_the_blocks_of_a_range :
    (serial larger (Ask (Grow 0 1) nobody) (at 1) false).reply
    ≡ Success (GrowDone 4096)
growth_goes_by_the_blocks_of_a_range = refl

growth_to_16_larger_ranges :
    (serial larger (Ask (Grow 0 15) nobody) (at 1) false).reply
    ≡ Success (GrowDone 32768)
growth_to_16_larger_ranges = refl

growth_past_16_larger_ranges :
    (serial larger (Ask (Grow 0 16) nobody) (at 1) false).reply
    ≡ fails TooBig 0
growth_past_16_larger_ranges = refl

-- ---- CENSUS

census_of_the_start :
    (serial start (Ask (Census) nobody) (at 1) false).reply
    ≡ Success (CensusDone (record { volume = 0; total = 1024; used = 0 } ∷ (record { volume = 1; total = 1024; used = 0 } ∷ [])))
census_of_the_start = simp evaluate refl

census_after_growth :
    (serial (serial start (Ask (Grow 1 1) nobody) (at 1) false).server (Ask (Census) nobody) (at 2) false).reply
    ≡ Success (CensusDone (record { volume = 0; total = 1024; used = 0 } ∷ (record { volume = 1; total = 2048; used = 0 } ∷ [])))
census_after_growth = simp evaluate refl

census_counts_blocks_in_files :
    (serial (with_file (file (1 ∷ (2 ∷ (3 ∷ []))) block_0)) (Ask (Census) nobody) (at 2) false).reply
    ≡ Success (CensusDone (record { volume = 0; total = 1024; used = 1 } ∷ (record { volume = 1; total = 1024; used = 0 } ∷ [])))
census_counts_blocks_in_files = simp evaluate refl

-- ---- what was refused, or not decoded

refusal_gives_its_reply : (serial start (Refused GarbageArguments) (at 1) false).reply ≡ GarbageArguments
refusal_gives_its_reply = refl

undecoded_record_is_a_system_error : (serial start Undecoded (at 1) false).reply ≡ SystemError
undecoded_record_is_a_system_error = refl

starved_call_is_a_system_error : serial start (Ask (Grow 1 1) nobody) (at 1) true ≡ record { reply = SystemError; server = start }
starved_call_is_a_system_error = refl
