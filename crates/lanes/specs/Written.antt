-- What a device took while a connection of a lane was over it.
use Rattle.std.specs.Prelude.{◌≡◌, ℕ, ◌++◌, List, Option, Some}
use Rattle.std.specs.Io.KnownBytes.{Appends}
use Rattle.slab.specs.Slab.{get}
use Rattle.tcp_front.specs.Writing.{records_of}
use Rattle.connections.specs.declared.connection.Connection.{Connection}
use Rattle.connections.specs.declared.device.Device as devices
use Rattle.lanes.specs.declared.lane.Lane.{Lane}
use Rattle.connections.specs.Connections.{now_of, number_of}
use Rattle.lanes.specs.Story.{Ending, told_to, served_in, served_of}
use Rattle.lanes.specs.Words.{connections_in, offer_in, worker_in}
use Rattle.turns.specs.Words.{entries_in}

-- Under this key of a lane a connection was open, over this device. The bytes that the device took since then are a beginning of the records
-- of the replies to that connection, as what is offered tells them, in order and each once, among what had ended: the calls that the lane's
-- worker had finished, and what was answered at once.
pub record WasWritten {D R : Type 0} {G : devices.Ghosts D} (written : D → Option (List ℕ)) (lane : Lane D R G) (key : ℕ) (device : D) : Type 0 where
  pub connection : Connection D
  pub stood : get (connections_in lane) key ≡ Some connection
  pub device_is : now_of connection ≡ device
  pub ended : List Ending
  pub finished : served_of ended ≡ served_in (entries_in (worker_in lane))
  pub given : List ℕ
  pub waits : List ℕ
  pub went_out : Appends (written connection.opened.value) (written device) given
  pub are : given ++ waits ≡ records_of (told_to (offer_in lane) (number_of connection) ended)
