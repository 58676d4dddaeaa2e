-- The affinity that a call tries first (our profile): a function of the call and the layout, never
-- of the state.
use Rattle.std.specs.Prelude.{ℕ, ◌+◌, ◌-◌, ◌/◌, ◌%◌, min, ◌==◌, ◌||◌, List, length, Option, Some, None}
use Rattle.std.specs.Prelude.{slice_get, if◌then◌else◌}
use Rattle.nfs_model.specs.Types.{Call, Asked, Ask, Refused, Undecoded}
use Rattle.nfs_model.specs.Tree.{Layout, VolumeLayout, Affinity, Serial, Aggregate, Volume, Logical, Stripe}
use Rattle.nfs_model.specs.Tree.{stripes_of}
use Rattle.nfs_model.specs.Server.{Named, handle_of, most_bytes}
use Rattle.nfs_model.specs.Route.{Route, AtOnce, OfNames, OfBytesRead, OfBytesWritten, OfTwoHandles}
use Rattle.nfs_model.specs.Route.{OfVolume, OfAggregate, OfEverything, route}

-- the bytes of a span: 64 blocks, which lie in one stripe
abbrev pub span_bytes : ℕ
span_bytes = 262144

-- what a handle names, where it is good
abbrev pub named_by : Layout → List ℕ → Option Named
named_by layout handle = handle_of (length layout.volumes) handle

-- Logical of a good handle's volume
abbrev pub logical_home : Option Named → Option Affinity
logical_home None = None
logical_home (Some h) = Some (Logical h.volume)

-- Volume of a good handle's volume
abbrev pub volume_home : Option Named → Option Affinity
volume_home None = None
volume_home (Some h) = Some (Volume h.volume)

-- the stripe of a file's span
abbrev pub stripe_of_span : Layout → Named → ℕ → Affinity
stripe_of_span layout h span = Stripe h.volume ((h.fileid + span) % stripes_of layout h.volume)

-- n bytes from an offset on, in one span or in more; where n is 0, the span of the offset
abbrev pub bytes_home : Layout → Option Named → ℕ → ℕ → Option Affinity
bytes_home layout None offset n = None
bytes_home layout (Some h) offset n =
    if (n == 0) || (offset / span_bytes == (offset + n - 1) / span_bytes)
    then Some (stripe_of_span layout h (offset / span_bytes)) else Some (Logical h.volume)

-- Logical of the volume of two good handles, if it is one
abbrev pub rename_home : Option Named → Option Named → Option Affinity
rename_home None to = None
rename_home (Some from) None = None
rename_home (Some from) (Some to) = if from.volume == to.volume then Some (Logical from.volume) else None

-- the aggregate of a volume that there is
abbrev pub grow_home : Option VolumeLayout → Option Affinity
grow_home None = None
grow_home (Some v) = Some (Aggregate v.aggregate)

-- the affinity of a route; none for one that is on no state
abbrev pub home_of_route : Layout → Route → Option Affinity
home_of_route layout AtOnce = None
home_of_route layout (OfNames handle) = logical_home (named_by layout handle)
home_of_route layout (OfBytesRead handle offset count) =
    bytes_home layout (named_by layout handle) offset (min count most_bytes)
home_of_route layout (OfBytesWritten handle offset count) =
    bytes_home layout (named_by layout handle) offset (min count most_bytes)
home_of_route layout (OfTwoHandles from to) = rename_home (named_by layout from) (named_by layout to)
home_of_route layout (OfVolume handle) = volume_home (named_by layout handle)
home_of_route layout (OfAggregate volume) = grow_home (slice_get layout.volumes volume)
home_of_route layout OfEverything = Some Serial

-- the affinity of a call; none for a call that reads no state
abbrev pub home : Layout → Call → Option Affinity
home layout call = home_of_route layout (route call)

-- the affinity of what a record asks; a refusal has none
abbrev pub home_of_asked : Layout → Asked → Option Affinity
home_of_asked layout (Ask call caller) = home layout call
home_of_asked layout (Refused reply) = None
home_of_asked layout Undecoded = None
