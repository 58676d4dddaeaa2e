-- What is asked of a caller, and what follows.
use Rattle.std.specs.Prelude.{ℕ, Bool, not, ◌&&◌, ◌==◌, Option, Result, Ok, Err}
use Rattle.std.specs.Option.{option_map}
use Rattle.nfs_model.specs.Types as model
use Rattle.nfs_model.specs.Serial.Rights.{without_set_ids}
use Rattle.nfs_values.specs.Status.{status_of}
use Rattle.nfs_values.specs.declared.status.Status.{Status}

-- its rights, or what is told without them
abbrev pub asked_next : {A : Type 0} → Result A (Option Status) → Option model.Status → Option model.Status
asked_next (Ok x) rights = rights
asked_next (Err told) rights = option_map status_of told

-- whether a caller's WRITE changes the mode of a file
abbrev pub set_ids_cleared : model.Caller → ℕ → Bool
set_ids_cleared caller mode = caller.checked && not (caller.credential.uid == 0) && not (without_set_ids mode == mode)
