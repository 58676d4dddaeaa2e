-- What a clause says of a pass.
use Rattle.std.specs.Prelude.{◌≡◌}
use Rattle.crossbeam_queue.specs.Passes.{view}
use Rattle.granted_calls.specs.declared.shared_waiting.view.View.{View}
use Rattle.granted_calls.specs.declared.shared_waiting.pass.Pass.{Pass}
use Rattle.granted_calls.specs.declared.shared_waiting.pass.SharedWaiting.{SharedWaiting}

-- what the pass has put and picked
abbrev pub known : {T K : Type 0} → Pass T K → View T K
known p = view p.seat

-- the pass is of this queue
abbrev pub IsOf : {T K : Type 0} → SharedWaiting T K → Pass T K → Type 0
IsOf q p = p.seat.table_id ≡ q.queue.table.shared.table_id
