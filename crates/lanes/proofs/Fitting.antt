-- A call that was read is placed in the layout of its lane.
use Rattle.std.proofs.Common.{◌≡◌, Some, arith}
use Rattle.nfs_model.specs.Tree as trees
use Rattle.nfs_model.specs.Home.{home}
use Rattle.nfs_values.specs.Call.{call_of}
use Rattle.affinity.specs.Affinity.{call_node}
use Rattle.service.specs.lemmas.Homes.{at-home}
use Rattle.engine_feed.specs.Sound.{IsAdmitted}
use Rattle.granted_calls.specs.Messages.{IsPlaced, Message}

-- a message that is admitted at the home of its call is placed
pub placed : (layout : trees.Layout) (m : Message) → IsAdmitted layout m → home layout (call_of m.call) ≡ Some (call_node m.affinity)
    → IsPlaced layout m
placed layout m admitted h =
    let room = admitted.room in
    record { node = admitted.node; run = at-home layout m.call (call_node m.affinity) h; room = omega (arith, room) }
