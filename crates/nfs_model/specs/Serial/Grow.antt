-- GROW, of the admin program (our profile): spare ranges of an aggregate come into use in a volume.
use Rattle.std.specs.Prelude.{ℕ, ◌+◌, ◌-◌, ◌*◌, ◌==◌, nat_lt, Option, Some, None, slice_get, slice_set}
use Rattle.std.specs.Prelude.{slice_index_or, if◌then◌else◌}
use Rattle.nfs_model.specs.Types.{Answer, GrowDone, Failed, NoEntry, Invalid, TooBig, NoSpace}
use Rattle.nfs_model.specs.Server.{VolumeState, Server}
use Rattle.nfs_model.specs.Parts.{most_ranges}

-- an answer, and the server after it
pub record Grown : Type 0 where
  pub answer : Answer
  pub server : Server

-- the server after ranges have come into use
abbrev pub grown : Server → ℕ → VolumeState → ℕ → Server
grown server index volume ranges = record {
  spare = slice_set server.spare volume.aggregate (slice_index_or server.spare volume.aggregate 0 - ranges);
  volumes = slice_set server.volumes index (record volume { total = volume.total + volume.range_blocks * ranges });
}

-- NOENT, INVAL for no range, FBIG for more than 16 in all, NOSPC for more than the spare ones
abbrev pub grow_volume : Server → ℕ → Option VolumeState → ℕ → Grown
grow_volume server index None ranges = record { answer = Failed NoEntry 0; server = server }
grow_volume server index (Some volume) ranges =
    if ranges == 0 then record { answer = Failed Invalid 0; server = server }
    else if nat_lt (volume.range_blocks * most_ranges) (volume.total + volume.range_blocks * ranges)
    then record { answer = Failed TooBig 0; server = server }
    else if nat_lt (slice_index_or server.spare volume.aggregate 0) ranges
    then record { answer = Failed NoSpace 0; server = server }
    else record {
      answer = GrowDone (volume.total + volume.range_blocks * ranges);
      server = grown server index volume ranges;
    }

-- a volume by its number
abbrev pub grow : Server → ℕ → ℕ → Grown
grow server index ranges = grow_volume server index (slice_get server.volumes index) ranges
