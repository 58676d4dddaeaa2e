-- A message that is worked: what the run of its call may come to.
use Rattle.desk.specs.laws.Calls.{DoesTask}
use Rattle.filer_state.specs.state.Parcels.{FilerParcel}
use Rattle.nfs_values.specs.Caller.{caller_of}
use Rattle.nfs_values.specs.Moment.{moment_of}
use Rattle.service.specs.declared.outcome.Outcome.{Outcome}
use Rattle.service.specs.Running.{HasRunCall}
use Rattle.engine.specs.declared.worker.Running.{Running}

abbrev pub run_of : {P : Type 0} → Running → DoesTask (FilerParcel P) Outcome
run_of r = HasRunCall r.message.call (caller_of r.message.caller) (moment_of r.moment)
