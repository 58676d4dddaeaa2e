use Rattle.std.proofs.Common.{◌≤◌, ◌-◌, ◌++◌, length, drop}
use Rattle.nfs_model.specs.Serial.Readdir.{fitting}
use Rattle.directories.specs.Entries.{listed}
use Rattle.directories.specs.Slots.{in_order}
use Rattle.directories.proofs.Pages.{SoFar}
use Rattle.directories.proofs.entries.append_fitting.Given as goal

abbrev pub invariant-loop-position : goal.invariant-loop-position
invariant-loop-position l = record {
  so_far : SoFar l.copied.items l.left l.position (in_order l.slots l.order)
      (listed l.initial.copied.items ++ fitting l.room (drop l.after (in_order l.slots l.order)));
  longer : length l.initial.copied.items ≤ length l.copied.items;
}

abbrev pub decreases-loop-position : goal.decreases-loop-position
decreases-loop-position l = length l.order - l.position
