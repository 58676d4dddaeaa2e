use Rattle.std.proofs.Common.{◌≡◌, map, take, drop}
use Rattle.nfs_values.specs.Answer.{entry_plus_of}
use Rattle.rpc_msg.specs.HandleForm.{told_in_run}
use Rattle.rpc_msg.specs.Handles.{listed_with}
use Rattle.rpc_msg.proofs.handles.tell_entries.Given as goal

abbrev pub invariant-loop-entry : goal.invariant-loop-entry
invariant-loop-entry l =
    (map entry_plus_of (take l.entry-index l.entries) ≡ map (listed_with (told_in_run l.run)) (map entry_plus_of (take l.entry-index l.initial.entries)))
    × (drop l.entry-index l.entries ≡ drop l.entry-index l.initial.entries)
