-- What becomes of a record that was read: its call waits for its home, or it is answered at once (our profile).
use Rattle.std.specs.Prelude.{◌≡◌, Some, length}
use Rattle.nfs_model.specs.Types as types
use Rattle.nfs_model.specs.Tree.{Layout}
use Rattle.affinity.specs.Tree.{IsNode}
use Rattle.nfs_model.specs.Home.{home}
use Rattle.nfs_model.specs.Serial.AtOnce.{answer_without_home}
use Rattle.affinity.specs.Affinity.{call_node}
use Rattle.rpc_msg.specs.Room.{reply_room}
use Rattle.engine_feed.specs.declared.admission.Admission.{Admission}

-- the reply to a record for which no state is read
abbrev pub reply_at_once : Layout → types.Asked → types.Reply
reply_at_once layout (types.Ask call caller) = types.Success (answer_without_home layout call)
reply_at_once layout (types.Refused reply) = reply
reply_at_once layout types.Undecoded = types.SystemError

-- where a call waits: for its home, a node of the layout, and with the room of its reply
pub record IsAdmissionOf (layout : Layout) (call : types.Call) (a : Admission) : Type 0 where
  pub at_home : home layout call ≡ Some (call_node a.affinity)
  pub node : IsNode layout (call_node a.affinity)
  pub room : a.room ≡ reply_room (length layout.volumes) call
