use Rattle.std.proofs.Common.{◌≤◌, ◌++◌, List, length}
use Rattle.nfs_model.specs.Types.{Listed}
use Rattle.nfs_model.specs.Serial.Readdir.{fitting}
use Rattle.directories.specs.Entries.{listed}
use Rattle.directories.specs.Slots.{in_order}
use Rattle.directories.proofs.Pages.{SoFar}
use Rattle.directories.proofs.entries.copy_run.Given as goal

abbrev pub invariant-loop-slot : goal.invariant-loop-slot
invariant-loop-slot l = record {
  so_far : (more : List Listed)
      → SoFar l.copied.items l.left l.slot-index (in_order l.slots l.run ++ more)
      (listed l.initial.copied.items ++ fitting l.room (in_order l.slots l.run ++ more));
  longer : length l.initial.copied.items ≤ length l.copied.items;
}
