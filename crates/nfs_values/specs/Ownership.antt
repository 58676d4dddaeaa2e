use Rattle.nfs_model.specs.Types as model
use Rattle.nfs_values.specs.declared.ownership.Ownership.{Ownership}

-- who owns an object, as the model has it
abbrev pub ownership_of : Ownership → model.Ownership
ownership_of o = record { mode = o.mode; uid = o.uid; gid = o.gid }
