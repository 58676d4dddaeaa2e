use Rattle.std.specs.Arc.{arc_value}
use Rattle.lane_rows.proofs.closing.close_both.Goals as goal

pub end-end-requires-clause-lanes : goal.end-end-requires-clause-lanes
end-end-requires-clause-lanes g c = c.serve_each-lanes.ensures.lanes (arc_value c.open_both-filer.result.0) c.open_both-filer.ensures.lanes
