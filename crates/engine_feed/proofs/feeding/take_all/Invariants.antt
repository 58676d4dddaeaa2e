use Rattle.std.proofs.Common.{◌-◌, ◌≤◌, length, take}
use Rattle.engine_feed.specs.Sound.{TakesIn}
use Rattle.engine_feed.specs.Words.{StaysSound}
use Rattle.engine_feed.proofs.Loops.{HasTaken}
use Rattle.engine_feed.proofs.feeding.take_all.Given as goal

abbrev pub invariant-loop-taken : goal.invariant-loop-taken
invariant-loop-taken l = record {
  within : l.taken ≤ length l.bytes;
  all : HasTaken l.offer l.fn.calls l.fn.connection l.number.0 (take l.taken l.bytes) l.calls l.connection;
  stays : StaysSound l.fn.calls l.fn.connection l.number.0 l.calls l.connection;
  taking : TakesIn l.connection (length l.bytes - l.taken);
}

abbrev pub decreases-loop-taken : goal.decreases-loop-taken
decreases-loop-taken l = length l.bytes - l.taken
