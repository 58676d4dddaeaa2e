-- What a call without a home affinity is answered: no state is read (our profile). Of a call that has
-- a home nothing is said here: the serial server answers it.
use Rattle.std.specs.Prelude.{ℕ, [], length, Option, Some, None}
use Rattle.nfs_model.specs.Types.{Call, Null, Rename, Link, Census, Grow, Stop, Mount, MountBelow, Answer}
use Rattle.nfs_model.specs.Types.{NullDone, CensusDone, StopDone, Failed, BadHandle, CrossVolume, NoEntry}
use Rattle.nfs_model.specs.Tree.{Layout}
use Rattle.nfs_model.specs.Server.{Named}
use Rattle.nfs_model.specs.Home.{named_by}
use Rattle.nfs_model.specs.Serial.Absent.{absent_parts}
use Rattle.nfs_model.specs.Serial.Mount.{mount}

-- what is wrong with two handles: one is bad, or they name two volumes
abbrev pub answer_of_two : ℕ → Option Named → Option Named → Answer
answer_of_two absent None to = Failed BadHandle absent
answer_of_two absent (Some from) None = Failed BadHandle absent
answer_of_two absent (Some from) (Some to) = Failed CrossVolume absent

-- NULL; STOP; MOUNT; XDEV for RENAME and LINK over two volumes; NOENT for GROW
-- of an unknown volume and for MNT below the root of one; else BADHANDLE. CENSUS always has a home.
abbrev pub answer_without_home : Layout → Call → Answer
answer_without_home layout Null = NullDone
answer_without_home layout (Rename from from_name to to_name) =
    answer_of_two (absent_parts (Rename from from_name to to_name)) (named_by layout from)
    (named_by layout to)
answer_without_home layout (Link handle directory name) =
    answer_of_two (absent_parts (Link handle directory name)) (named_by layout handle)
    (named_by layout directory)
answer_without_home layout (Grow volume ranges) = Failed NoEntry 0
answer_without_home layout Census = CensusDone []
answer_without_home layout Stop = StopDone
answer_without_home layout (Mount call) = mount (length layout.volumes) call
answer_without_home layout (MountBelow root path) = Failed NoEntry 0
answer_without_home layout call = Failed BadHandle (absent_parts call)
