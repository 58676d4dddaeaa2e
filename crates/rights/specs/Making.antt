-- Who makes a node, as the model has it.
use Rattle.nfs_model.specs.Types as types
use Rattle.nfs_model.specs.Server.{Attributes, start_of_times}
use Rattle.nfs_model.specs.Serial.Create as model
use Rattle.nfs_values.specs.Caller.{caller_of}
use Rattle.nfs_values.specs.Ownership.{ownership_of}
use Rattle.rights.specs.declared.making.Maker.{Maker}

-- of a directory's attributes the owner alone is looked at
abbrev pub owned_by : types.Ownership → Attributes
owned_by o =
    record { mode = o.mode; uid = o.uid; gid = o.gid; atime = start_of_times; mtime = start_of_times; ctime = start_of_times }

abbrev pub maker_of : Maker → model.Maker
maker_of m = record { caller = caller_of m.caller.now; directory = owned_by (ownership_of m.directory) }
