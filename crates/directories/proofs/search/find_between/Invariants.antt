use Rattle.std.proofs.Common.{◌-◌, ◌≤◌, ◌+◌, length, drop, take}
use Rattle.std.specs.declared.cmp.Ordering.TheVariants.{Less, Greater}
use Rattle.directories.specs.Digits.{binary_digits}
use Rattle.directories.specs.Index.{AllCompare, cookies}
use Rattle.directories.specs.sequences.Values.{HasPositions}
use Rattle.directories.proofs.search.find_between.Given as goal

abbrev pub invariant-loop-low : goal.invariant-loop-low
invariant-loop-low l = record {
  ordered : l.low ≤ l.high;
  part : HasPositions l.index l.low l.high l.part.first l.part.items;
  within : l.high ≤ length l.index;
  before : AllCompare l.entries.list l.name Less (take l.low (cookies l.index));
  after : AllCompare l.entries.list l.name Greater (drop l.high (cookies l.index));
  counted : l.compared + binary_digits (l.high - l.low) ≤ binary_digits (l.fn.bounds.high - l.fn.bounds.low);
}

abbrev pub decreases-loop-low : goal.decreases-loop-low
decreases-loop-low l = l.high - l.low
