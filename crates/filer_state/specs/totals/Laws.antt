-- What follows from the definitions.
use Rattle.std.specs.Prelude.{◌≡◌, ℕ, ◌<◌, length}
use Rattle.nfs_model.specs.Types.{Ask, Grow, Caller, Moment, Success}
use Rattle.nfs_model.specs.Tree.{Layout, Aggregate, aggregate_of}
use Rattle.nfs_model.specs.Work.{Replied}
use Rattle.filer_state.specs.state.Lenses.{AggregateSet, aggregate_lens}
use Rattle.filer_state.specs.state.Running.{task_under}
use Rattle.filer_state.specs.totals.Running.{RunsOnAll}
use Rattle.filer_state.specs.totals.Growing.{grow_aggregate}

-- GROW of a volume by what is under its Aggregate: whatever the rest of what is stored is, the run is right.
abbrev pub GrowIsRight : Type 0
GrowIsRight = (layout : Layout) (a v more : ℕ) (caller : Caller) (moment : Moment) (s : AggregateSet)
    → v < length layout.volumes → aggregate_of layout v ≡ a
    → RunsOnAll layout (aggregate_lens a) (task_under (Aggregate a) (Ask (Grow v more) caller) moment) s
    (Replied (Success (grow_aggregate v more s).answer)) (grow_aggregate v more s).set
