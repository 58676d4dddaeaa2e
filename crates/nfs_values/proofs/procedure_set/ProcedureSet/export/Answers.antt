use Rattle.nfs_values.proofs.Listed.{export-listed}
use Rattle.nfs_values.proofs.procedure_set.ProcedureSet.export.Goals as goal

pub returns-clause-listed : goal.returns-clause-listed
returns-clause-listed c =
    export-listed
