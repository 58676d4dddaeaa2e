use Rattle.std.proofs.Common.{◌-◌, ◌≡◌, ◌≤◌, length, drop, take, []}
use Rattle.nfs_model.specs.Serial.Readdir.{above_cookie}
use Rattle.directories.specs.Slots.{in_order}
use Rattle.directories.specs.sequences.Values.{HasPositions}
use Rattle.directories.proofs.entries.position_after.Given as goal

abbrev pub invariant-loop-low : goal.invariant-loop-low
invariant-loop-low l = record {
  ordered : l.low ≤ l.high;
  part : HasPositions l.order l.low l.high l.part.first l.part.items;
  within : l.high ≤ length l.order;
  before : above_cookie l.cookie.0 (take l.low (in_order l.slots l.order)) ≡ [];
  after : above_cookie l.cookie.0 (drop l.high (in_order l.slots l.order)) ≡ drop l.high (in_order l.slots l.order);
}

abbrev pub decreases-loop-low : goal.decreases-loop-low
decreases-loop-low l = l.high - l.low
