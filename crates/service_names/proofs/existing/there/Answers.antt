use Rattle.nfs_model.specs.Types.{MadeDone}
use Rattle.nfs_values.specs.Moment.{moment_of}
use Rattle.service_names.proofs.existing.there.Goals as goal

pub returns : goal.returns
returns c = λ name s j. MadeDone (c.naming.ensures j) (c.shown.ensures j)
    (c.directory_change.ensures name (moment_of c.args.parent.moment) s j)
