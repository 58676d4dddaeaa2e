-- What a tend of a worker did, by the count that it answers (our profile).
use Rattle.std.specs.Prelude.{◌≡◌, ℕ, Result, Ok, Err}
use Rattle.nfs_model.specs.Tree.{Layout}
use Rattle.turns.specs.declared.tend.Tend.{Tend}
use Rattle.turns.specs.declared.tend.Tended.{Tended}
use Rattle.turns.specs.declared.tend.TendRefusal.{TendRefusal}
use Rattle.turns.specs.declared.worker.Worker.{Worker}
use Rattle.turns.specs.Tends.{blocks_moved, Tends}

-- by one entry of its inner call this many blocks came into the hand, or were put down; or it was refused for this reason
abbrev pub TendsTo : Layout → Worker → Tend → Result ℕ TendRefusal → Worker → Type 0
TendsTo layout before tend (Ok count) after = (tended : Tended) × Tends layout before tend (Ok tended) after × (count ≡ blocks_moved tended)
TendsTo layout before tend (Err refusal) after = Tends layout before tend (Err refusal) after
