-- What the code has of an object, and what somebody may do with it, as the model has them.
use Rattle.nfs_model.specs.Serial.Rights as model
use Rattle.nfs_values.specs.Attributes.{kind_of}
use Rattle.nfs_values.specs.Ownership.{ownership_of}
use Rattle.rights.specs.declared.mode.Rights.{Rights}
use Rattle.rights.specs.declared.protection.Protection.{Protection}

abbrev pub protection_of : Protection → model.Protection
protection_of p = model.owned (kind_of p.kind) (ownership_of p.owner)

abbrev pub rights_value : Rights → model.Rights
rights_value r = record { reads = r.reads; writes = r.writes; executes = r.executes }
