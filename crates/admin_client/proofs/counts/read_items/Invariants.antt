use Rattle.std.proofs.Common.{◌≡◌, ◌-◌, map}
use Rattle.xdr.specs.Reading.{items_at, read}
use Rattle.nfs_types.specs.Results.{count_shape}
use Rattle.admin_client.specs.Telling.{counted_value}
use Rattle.admin_client.proofs.Items.{after}
use Rattle.admin_client.proofs.counts.read_items.Given as goal

-- What was read, and then what is left to be read, is all.
abbrev pub invariant-loop-volume : goal.invariant-loop-volume
invariant-loop-volume l =
    after (map counted_value l.counts.items) (items_at (λ rest. read count_shape rest) (l.count - l._volume) l.from)
    ≡ items_at (λ rest. read count_shape rest) l.count l.initial.from
