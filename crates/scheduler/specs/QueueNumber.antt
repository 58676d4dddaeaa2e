-- The queue of each affinity, by number.
use Rattle.std.specs.Prelude.{ℕ, ◌+◌, ◌*◌, ◌<◌}
use Rattle.nfs_model.specs.Tree.{Affinity, Serial, Aggregate, Volume, Logical, Stripe, Vbn, Range}

-- the first queue of a volume
abbrev pub volume_queue : ℕ → ℕ
volume_queue volume = 3 + 35 * volume

-- Serial, two aggregates, and for each volume itself, Logical, Vbn, 16 stripes and 16 ranges
abbrev pub queue_of : Affinity → ℕ
queue_of Serial = 0
queue_of (Aggregate a) = 1 + a
queue_of (Volume v) = volume_queue v
queue_of (Logical v) = volume_queue v + 1
queue_of (Vbn v) = volume_queue v + 2
queue_of (Stripe v i) = volume_queue v + 3 + i
queue_of (Range v r) = volume_queue v + 19 + r

-- an affinity that a layout may have
abbrev pub HasQueue : Affinity → Type 0
HasQueue Serial = Unit {0}
HasQueue (Aggregate a) = a < 2
HasQueue (Volume v) = v < 8
HasQueue (Logical v) = v < 8
HasQueue (Vbn v) = v < 8
HasQueue (Stripe v i) = (v < 8) × (i < 16)
HasQueue (Range v r) = (v < 8) × (r < 16)
