-- The room for what lanes leave.
use Rattle.std.specs.Prelude.{ℕ}
use Rattle.filer_lanes.specs.declared.room.LaneBuffers.{LaneBuffers}

-- for this many lanes
abbrev pub lanes_for : LaneBuffers → ℕ
lanes_for room = room.lanes
