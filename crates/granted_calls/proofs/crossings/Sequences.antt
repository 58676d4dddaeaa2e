-- Sequences, with all that is under them, may cross threads where their items may.
use denote.RattleType.{RattleType}
use denote.Param.Send.{IsSend, sendable, view_send}
use denote.Struct.Field.{usize-field}
use denote.Hole.{as_row}
use Rattle.std.proofs.Crossing.{crosses, Box-send}
use Rattle.directories.proofs.sequences.tree.Tree.TheLaws.TheKnot.{send-Tree}
use Rattle.directories.specs.contracts.sequences.tree.Tree as Tree
use Rattle.directories.specs.contracts.sequences.tree.Node as Node
use Rattle.directories.specs.contracts.sequences.room.SpareChunk as Room
use Rattle.directories.specs.contracts.sequences.room.SpareChunk.TheInside as RoomInside
use Rattle.directories.specs.contracts.sequences.sequence.Sequence as Sequence
use Rattle.directories.specs.contracts.sequences.sequence.Sequence.TheInside as SequenceInside
use Rattle.granted_calls.proofs.crossings.Structs.{struct-send}

size-send : IsSend (as_row usize-field)
size-send = search sendable depth 20

word-send : IsSend usize-field.row
word-send = search sendable depth 20

module _ (T : RattleType) (s : IsSend T) where
  tree-send : IsSend (Tree.the_row T)
  tree-send = send-Tree T (λ h it. search (it, crosses, sendable)) (search (s, crosses, sendable) depth 20) size-send

  node-send : IsSend (Node.the_row T)
  node-send = struct-send (Node.the_type T) (tree-send, (search (s, crosses, sendable), (tree-send, (word-send, (word-send, (word-send, tt))))))

  room-inside-send : IsSend (RoomInside.the_row T)
  room-inside-send = struct-send (RoomInside.the_type T) (Box-send (Node.the_row T) node-send, tt)

  room-send : IsSend (Room.the_row T)
  room-send = view_send (RoomInside.the_row T) _ _ _ _ room-inside-send

  sequence-inside-send : IsSend (SequenceInside.the_row T)
  sequence-inside-send = struct-send (SequenceInside.the_type T) (
    search (crosses, sendable),
    (tree-send, (search (room-send, crosses, sendable) depth 20, (search (Box-send (Node.the_row T) node-send, crosses, sendable) depth 20, tt))),
  )

  pub sequence-send : IsSend (Sequence.the_row T)
  sequence-send = view_send (SequenceInside.the_row T) _ _ _ _ sequence-inside-send
