use mathlib.Core.List.{[], ◌∷◌}
use mir.Syntax.{Sym}
use denote.Exit.{no}
use denote.Ref.{NamedLft, ShrRef}
use denote.RattleType.{RattleType}
use denote.Param.{copied}
use denote.Param.Send.{IsSend, IsSync, sendable, param_send, arg_send, shr_send}
use denote.Param.SendFields.{as_row_send, declared_send}
use denote.Struct.Field.{row_field}
use denote.Struct.Tuple.{TupleAt, type_at}
use Rattle.std.proofs.Crossing.{crosses}
use Rattle.lanes.proofs.Crossing.{lane-send}
use Rattle.lanes.specs.contracts.lane.Lane as Lane
use Rattle.lane_rows.proofs.latch.Latch.TheSendSync as latch
use Rattle.lane_rows.proofs.memory.Memory.TheSendSync as memory
use Rattle.lane_rows.specs.contracts.latch.Latch as Latch
use Rattle.lane_rows.specs.contracts.memory.Memory as Memory
use Rattle.lane_rows.specs.contracts.memory.MemoryDevice.TheImpl.{ghosts}
use Rattle.lane_rows.proofs.latch.run.Goals as goal

latch-sync : IsSync Latch.the_row
latch-sync = search (latch.the_sync, crosses, sendable) depth 20

-- a closure that takes a lane and a latch that it shares
closure-send : (R : RattleType) → IsSend R → (name : Sym) (ℓ : NamedLft)
    → IsSend (TupleAt name (Lane.the_row Memory.the_row R ghosts ∷ ShrRef ℓ.mir ℓ.lft Latch.the_row ∷ []))
closure-send R r name ℓ =
    let A = Lane.the_row Memory.the_row R ghosts in
    let B = ShrRef ℓ.mir ℓ.lft Latch.the_row in
    declared_send (type_at name (A ∷ B ∷ [])) (
      as_row_send (row_field A) (lane-send Memory.the_row R ghosts memory.the_send r),
      (as_row_send (row_field B) (shr_send ℓ.mir ℓ.lft Latch.the_row latch-sync), tt),
    )

pub join-done-requires-send-F : goal.join-done-requires-send-F
join-done-requires-send-F g c κs within =
    param_send 1 _ (arg_send _ no _ (closure-send (copied 0 g.row.R) (search (c.type_bounds.send-R, sendable)) _ _))
