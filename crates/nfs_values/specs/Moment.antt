use Rattle.nfs_model.specs.Types as model
use Rattle.nfs_values.specs.declared.moment.Moment.{Moment}

-- a time, as the model has it
abbrev pub moment_of : Moment → model.Moment
moment_of m = record { seconds = m.seconds; nanoseconds = m.nanoseconds }
