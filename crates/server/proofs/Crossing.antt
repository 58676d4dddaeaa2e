-- What the thread of a lane takes with it may cross threads.
use denote.RattleType.{RattleType}
use denote.Param.Send.{IsSend}
use denote.Param.SendFields.{declared_send}
use Rattle.lanes.proofs.Crossing.{lane-send}
use Rattle.lanes.specs.contracts.lane.Lane as Lane
use Rattle.server.proofs.socket.Socket.TheSendSync as socket
use Rattle.server.proofs.station.Station.TheSendSync as station
use Rattle.server.specs.contracts.socket.Socket as Socket
use Rattle.server.specs.contracts.socket.SocketDevice.TheImpl.{ghosts}
use Rattle.server.specs.contracts.task.LaneStart as LaneStart

pub socket-lane-send : (R : RattleType) → IsSend R → IsSend (Lane.the_row Socket.the_row R ghosts)
socket-lane-send R r = lane-send Socket.the_row R ghosts socket.the_send r

pub task-send : (R : RattleType) → IsSend R → IsSend (LaneStart.the_row R)
task-send R r = declared_send (LaneStart.the_type R) (socket-lane-send R r, (station.the_send, tt))
