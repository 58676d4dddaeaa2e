-- A volume as it begins has the sizes of the layout (our profile): as FSSTAT (RFC 1813 section 3.3.18) and FSINFO (section 3.3.19) tell them, and
-- GROW and CENSUS of the admin program.
use Rattle.std.proofs.Common.{◌≡◌, false, [], ◌∷◌, refl}
use Rattle.nfs_model.specs.Types.{Moment, Fsstat, Fsinfo, Getattr, GetattrDone, Census, Grow, Ask}
use Rattle.nfs_model.specs.Types.{Success, Failed, FsstatDone, FsinfoDone, CensusDone, GrowDone, NoSpace}
use Rattle.nfs_model.specs.Tree.{VolumeLayout}
use Rattle.nfs_model.specs.Server.{Server, opening, handle_bytes, start_of_times, root_of_root}
use Rattle.nfs_model.specs.Serial.Step.{serial}
use Rattle.nfs_laws.specs.lemmas.Evaluate.{evaluate}
use Rattle.model_rows.proofs.Cases.{at, nobody, verifier, root_shown}

-- one range of 1,024 blocks, files of 16 MiB, 65,536 inodes, on aggregate 0
abbrev small : VolumeLayout
small = record { aggregate = 0; ranges = 1; stripes = 8; mebibytes = 16; range_blocks = 1024; inodes = 65536; most_steps = 4; begun = start_of_times; root = root_of_root; remembered = 0 }

-- two ranges of 4,096 blocks, files of 100 MiB, 70,000 inodes, on aggregate 1
abbrev large : VolumeLayout
large = record { aggregate = 1; ranges = 2; stripes = 16; mebibytes = 100; range_blocks = 4096; inodes = 70000; most_steps = 4; begun = start_of_times; root = root_of_root; remembered = 0 }

-- no range of aggregate 0 is spare, and three of aggregate 1
abbrev start : Server
start = opening (record { spare = 0 ∷ 3 ∷ []; volumes = small ∷ large ∷ [] }) verifier

largest_file_of_the_small : (serial start (Ask (Fsinfo (handle_bytes 0 1)) nobody) (at 1) false).reply ≡ Success (FsinfoDone (root_shown 0 0) 16777216)
largest_file_of_the_small = simp evaluate refl

largest_file_of_the_large : (serial start (Ask (Fsinfo (handle_bytes 1 1)) nobody) (at 1) false).reply ≡ Success (FsinfoDone (root_shown 1 0) 104857600)
largest_file_of_the_large = simp evaluate refl

-- of as many inodes as there may be the root has one
space_of_the_small : (serial start (Ask (Fsstat (handle_bytes 0 1)) nobody) (at 1) false).reply
    ≡ Success (FsstatDone (root_shown 0 0) (record { total_bytes = 4194304; free_bytes = 4194304; inodes = 65536; free_inodes = 65535 }))
space_of_the_small = simp evaluate refl

space_of_the_large : (serial start (Ask (Fsstat (handle_bytes 1 1)) nobody) (at 1) false).reply
    ≡ Success (FsstatDone (root_shown 1 0) (record { total_bytes = 33554432; free_bytes = 33554432; inodes = 70000; free_inodes = 69999 }))
space_of_the_large = simp evaluate refl

blocks_of_both : (serial start (Ask Census nobody) (at 1) false).reply
    ≡ Success (CensusDone (record { volume = 0; total = 1024; used = 0 } ∷ record { volume = 1; total = 8192; used = 0 } ∷ []))
blocks_of_both = simp evaluate refl

-- of its own aggregate, and by ranges of its own
range_of_the_large : (serial start (Ask (Grow 1 1) nobody) (at 1) false).reply ≡ Success (GrowDone 12288)
range_of_the_large = refl

range_of_the_small_is_not_spare : (serial start (Ask (Grow 0 1) nobody) (at 1) false).reply ≡ Success (Failed NoSpace 0)
range_of_the_small_is_not_spare = refl

-- 7 seconds and 5 nanoseconds, and a volume that begins then
abbrev seven : Moment
seven = record { seconds = 7; nanoseconds = 5 }

abbrev later : VolumeLayout
later = record small { begun = seven }

root_has_the_time_of_its_beginning :
    (serial (opening (record { spare = 0 ∷ []; volumes = later ∷ [] }) verifier) (Ask (Getattr (handle_bytes 0 1)) nobody) (at 9) false).reply
    ≡ Success (GetattrDone (record (root_shown 0 0) { atime = seven; mtime = seven; ctime = seven }))
root_has_the_time_of_its_beginning = simp evaluate refl
