-- What handles name, and how they are kept.
use Rattle.std.specs.Prelude.{◌≢◌, ℕ, ◌==◌, List, length, if◌then◌else◌, Option, Some, None}
use Rattle.nfs_model.specs.Server as servers
use Rattle.nfs_values.specs.declared.handle.Named.{Named}
use Rattle.nfs_values.specs.declared.handle.Form.{Form}
use Rattle.nfs_values.specs.declared.handle.Form.TheVariants.{Naming, Other}

-- volume and fileid, as the model has them
abbrev pub named_of : Named → servers.Named
named_of n = record { volume = n.volume.0; fileid = n.fileid.0 }

-- what a handle of 12 bytes names, by a volume that may not be there
abbrev pub named_in : List ℕ → Option servers.Named
named_in bytes = if length bytes == 12 then Some (servers.named_read bytes) else None

-- the handle that names something
abbrev pub bytes_naming : Named → List ℕ
bytes_naming n = servers.handle_bytes n.volume.0 n.fileid.0

abbrev pub form_bytes : Form → List ℕ
form_bytes (Naming named) = bytes_naming named
form_bytes (Other bytes) = bytes

-- Bytes that name nothing aren't 12.
abbrev pub IsForm : Form → Type 0
IsForm (Naming named) = Unit {0}
IsForm (Other bytes) = length bytes ≢ 12
