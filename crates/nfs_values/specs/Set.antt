use Rattle.nfs_model.specs.Types as model
use Rattle.nfs_values.specs.declared.set.SetTime.{SetTime}
use Rattle.nfs_values.specs.declared.set.SetTime.TheVariants.{Keep, ServerTime, ClientTime}
use Rattle.nfs_values.specs.declared.set.SetAttributes.{SetAttributes}
use Rattle.nfs_values.specs.declared.set.CreateMode.{CreateMode}
use Rattle.nfs_values.specs.declared.set.CreateMode.TheVariants.{Unchecked, Guarded, Exclusive}
use Rattle.nfs_values.specs.Moment.{moment_of}

-- how a time is set, as the model has it
abbrev pub time_of : SetTime → model.SetTime
time_of Keep = model.Keep
time_of ServerTime = model.ServerTime
time_of (ClientTime moment) = model.ClientTime (moment_of moment)

-- the attributes to set, as the model has them
abbrev pub set_of : SetAttributes → model.SetAttributes
set_of s = record {
  mode = s.mode;
  uid = s.uid;
  gid = s.gid;
  size = s.size;
  atime = time_of s.atime;
  mtime = time_of s.mtime;
}

-- how a file is created, as the model has it
abbrev pub mode_of : CreateMode → model.CreateMode
mode_of (Unchecked set) = model.Unchecked (set_of set)
mode_of (Guarded set) = model.Guarded (set_of set)
mode_of (Exclusive verifier) = model.Exclusive verifier.0
