use Rattle.nfs_model.specs.Server.{Special}
use Rattle.nfs_laws.proofs.StrangersServed.{left_as_it_was}
use Rattle.nfs_laws.proofs.FileidsBelow.{run_as_it_was}
use Rattle.nfs_laws.proofs.laws.strangers_change_no_texts.Goals as goal

pub returns-clause-any : goal.returns-clause-any
returns-clause-any c server volume fileid state node calls at there below s =
    left_as_it_was (Special node) volume fileid server state calls at there below s

pub returns-clause-run : goal.returns-clause-run
returns-clause-run c layout verifier before after volume fileid node there s =
    run_as_it_was (Special node) layout verifier before after volume fileid there s
