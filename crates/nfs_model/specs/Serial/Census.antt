-- CENSUS, of the admin program (our profile): the blocks of every volume.
use Rattle.std.specs.Prelude.{map}
use Rattle.nfs_model.specs.Types.{VolumeCount, Answer, CensusDone}
use Rattle.nfs_model.specs.Server.{VolumeState, Server, used}

-- the counts of a volume
abbrev pub count_of : VolumeState → VolumeCount
count_of volume = record { volume = volume.number; total = volume.total; used = used volume }

-- the volumes in order
abbrev pub census : Server → Answer
census server = CensusDone (map count_of server.volumes)
