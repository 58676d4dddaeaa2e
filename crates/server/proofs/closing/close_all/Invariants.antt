use Rattle.std.proofs.Common.{◌≡◌}
use Rattle.lanes.specs.Words.{filer_in, identity_in}
use Rattle.filer_lanes.specs.Lanes.{seats_of}
use Rattle.server.proofs.closing.close_all.Given as goal

abbrev pub invariant-loop-key : goal.invariant-loop-key
invariant-loop-key g l = record {
  filer : filer_in l.lane ≡ filer_in l.fn.lane;
  identity : identity_in l.lane ≡ identity_in l.fn.lane;
  seats : seats_of l.lane ≡ seats_of l.fn.lane;
}
