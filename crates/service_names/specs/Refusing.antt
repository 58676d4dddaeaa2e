-- What is known of a refusal before a name is looked up.
use Rattle.std.specs.Prelude.{Bool, false, not, ◌&&◌, ◌||◌, ◌==◌, Option, None, is_some, Result, Ok, Err, if◌then◌else◌}
use Rattle.std.specs.Option.{option_map}
use Rattle.nfs_model.specs.Types as model
use Rattle.nfs_model.specs.Types.{Credential, CreateMode, Unchecked, Guarded, Exclusive}
use Rattle.nfs_model.specs.Serial.Rights as rights
use Rattle.nfs_model.specs.Serial.Rights.{may_change, may_drop}
use Rattle.nfs_values.specs.Status.{status_of}
use Rattle.nfs_values.specs.declared.status.Status.{Status}
use Rattle.rights.specs.Protection.{protection_of}
use Rattle.rights.specs.declared.protection.Protection.{Protection}

-- whether a caller may take any name from a directory
abbrev pub is_free : Credential → rights.Protection → Bool
is_free who directory = may_change who directory && may_drop who directory directory

-- whether a CREATE asks for a right of a file that may be there
abbrev pub asks_over : Credential → CreateMode → Bool
asks_over who (Unchecked set) = is_some set.size && not (who.uid == 0)
asks_over who (Guarded set) = false
asks_over who (Exclusive verifier) = false

-- whether a RENAME is refused by no node under its names
abbrev pub is_settled : Credential → Bool → rights.Protection → rights.Protection → Bool
is_settled who stays source target = is_free who source && is_free who target && (stays || (who.uid == 0))

-- what is asked of a directory that was found, or what is told without it
abbrev pub asked_by : Result Protection (Option Status) → (rights.Protection → Option model.Status) → Option model.Status
asked_by (Ok directory) ask = ask (protection_of directory)
asked_by (Err told) ask = option_map status_of told

-- nothing is asked of two names of one node
abbrev pub unless_one : Bool → Option model.Status → Option model.Status
unless_one is_one asked = if is_one then None else asked
