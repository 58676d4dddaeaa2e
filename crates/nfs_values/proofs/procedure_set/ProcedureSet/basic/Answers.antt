use Rattle.nfs_values.proofs.Listed.{basic-listed}
use Rattle.nfs_values.proofs.procedure_set.ProcedureSet.basic.Goals as goal

pub returns-clause-listed : goal.returns-clause-listed
returns-clause-listed c =
    basic-listed
