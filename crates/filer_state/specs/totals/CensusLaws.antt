-- What CENSUS of the admin program comes to, by all that is stored (our profile).
use Rattle.nfs_model.specs.Types.{Ask, Census, Caller, Moment, Success}
use Rattle.nfs_model.specs.Tree.{Layout, Serial}
use Rattle.nfs_model.specs.Work.{Task, Replied, Starved}
use Rattle.filer_state.specs.state.Contents.{FilerContents}
use Rattle.filer_state.specs.state.Lenses.{serial_lens}
use Rattle.filer_state.specs.state.Running.{task_under}
use Rattle.filer_state.specs.totals.Running.{RunsOnAll}
use Rattle.filer_state.specs.totals.Census.{census_answer}

abbrev pub census_task : Caller → Moment → Task
census_task caller moment = task_under Serial (Ask Census caller) moment

-- The answer told by the volumes' counts is the serial server's, and nothing changes.
abbrev pub CensusIsRight : Type 0
CensusIsRight = (layout : Layout) (caller : Caller) (moment : Moment) (c : FilerContents)
    → RunsOnAll layout serial_lens (census_task caller moment) c (Replied (Success (census_answer c))) c

-- memory may run out
abbrev pub CensusMayStarve : Type 0
CensusMayStarve = (layout : Layout) (caller : Caller) (moment : Moment) (c : FilerContents)
    → RunsOnAll layout serial_lens (census_task caller moment) c Starved c
