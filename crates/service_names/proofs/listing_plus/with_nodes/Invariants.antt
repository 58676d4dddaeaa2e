use Rattle.std.proofs.Common.{◌≡◌, ◌++◌, length, map}
use Rattle.std.specs.Vec.Iter.{into_iter_items, into_iter_len}
use Rattle.nfs_model.specs.Serial.Readdirplus.{fitting_plus}
use Rattle.nfs_values.specs.Answer.{entry_of}
use Rattle.filer_state.specs.state.Sets.{logical_before}
use Rattle.service_names.specs.Listing.{entry_if}
use Rattle.service_names.proofs.Told.{SoFar}
use Rattle.service_names.proofs.listing_plus.with_nodes.Given as goal

abbrev pub invariant-loop-entry : goal.invariant-loop-entry
invariant-loop-entry l = record {
  so_far : SoFar (entry_if l.is_bare l.volume.0 (logical_before l.held)) l.told.items l.left (into_iter_items l.entry-iterator)
      (map (entry_if l.is_bare l.volume.0 (logical_before l.held)) (fitting_plus l.room (map entry_of l.fn.entries.items)));
  all : l.yielded ++ into_iter_items l.entry-iterator ≡ l.fn.entries.items;
  count : into_iter_len l.entry-iterator ≡ length (into_iter_items l.entry-iterator);
}
