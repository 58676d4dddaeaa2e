-- What CENSUS of the admin program promises, on all that is stored (our profile).
use Rattle.std.specs.Prelude.{Result, Ok, Err}
use Rattle.std.specs.Global.{Vec}
use Rattle.std.specs.declared.alloc.AllocError.{AllocError}
use Rattle.nfs_model.specs.Types.{Caller, Moment, Success}
use Rattle.nfs_model.specs.Tree.{Layout}
use Rattle.nfs_model.specs.Work.{Outcome, Replied, Starved}
use Rattle.nfs_values.specs.Answer.{answer_of}
use Rattle.nfs_values.specs.declared.answer.Answer.TheVariants.{Census}
use Rattle.nfs_values.specs.declared.answer.VolumeCount.{VolumeCount}
use Rattle.filer_state.specs.state.Contents.{FilerContents}
use Rattle.filer_state.specs.state.Lenses.{serial_lens}
use Rattle.filer_state.specs.totals.Running.{RunsOnAll}
use Rattle.filer_state.specs.totals.CensusLaws.{census_task}

-- what a CENSUS comes to: a reply, or memory ran out
abbrev pub census_outcome : Result (Vec VolumeCount) AllocError → Outcome
census_outcome (Ok counts) = Replied (Success (answer_of (Census counts)))
census_outcome (Err e) = Starved

-- A run of CENSUS by all that is stored is right: for whomever, and at whatever moment.
abbrev pub TakesCensus : Layout → FilerContents → Result (Vec VolumeCount) AllocError → Type 0
TakesCensus layout c result = (caller : Caller) (moment : Moment)
    → RunsOnAll layout serial_lens (census_task caller moment) c (census_outcome result) c
