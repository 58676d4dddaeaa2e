-- What CENSUS of the admin program answers, by all that is stored (our profile).
use Rattle.std.specs.Prelude.{ℕ, ◌*◌, map}
use Rattle.nfs_model.specs.Types.{VolumeCount, Answer, CensusDone}
use Rattle.filer_state.specs.state.Contents.{VolumeContents, FilerContents}
use Rattle.filer_state.specs.state.Lenses.{VolumeSet, volume_lens}
use Rattle.filer_state.specs.state.Tree.{ranges_used}

-- the blocks of the volume of a number by its own counts: its ranges in use, and the used count
abbrev pub count_in : ℕ → VolumeSet → VolumeCount
count_in v set = record {
  volume = v;
  total = set.logical.own.dead.range_blocks * ranges_used set.ranges;
  used = set.logical.own.inodes.used;
}

abbrev pub count_held : VolumeContents → VolumeCount
count_held p = count_in p.number (volume_lens.of p)

-- the volumes in order
abbrev pub census_answer : FilerContents → Answer
census_answer c = CensusDone (map count_held c.volumes)
