use Rattle.filer_state.specs.bytes.lemmas.ReadsBy.{stripe-read-refused, stripe-read-permitted, logical-read-refused, logical-read-permitted}
use Rattle.filer_state.specs.bytes.lemmas.ReadsBy.{commit-refused, commit-permitted}
use Rattle.filer_state.proofs.bytes.laws.reads_are_permitted.Goals as goal

pub returns-clause-in_stripe_refused : goal.returns-clause-in_stripe_refused
returns-clause-in_stripe_refused c =
    λ v i fileid offset count handle node caller status s some refuses.
    stripe-read-refused v i fileid offset count handle node caller s some status refuses

pub returns-clause-in_stripe : goal.returns-clause-in_stripe
returns-clause-in_stripe c =
    λ v i fileid offset count handle node caller s outcome new some permits runs.
    stripe-read-permitted v i fileid offset count handle node caller s some outcome new permits runs

pub returns-clause-in_logical_refused : goal.returns-clause-in_logical_refused
returns-clause-in_logical_refused c =
    λ v fileid offset count handle node caller status s refuses.
    logical-read-refused v fileid offset count handle node caller s status refuses

pub returns-clause-in_logical : goal.returns-clause-in_logical
returns-clause-in_logical c =
    λ v fileid offset count handle node caller s outcome new permits runs.
    logical-read-permitted v fileid offset count handle node caller s outcome new permits runs

pub returns-clause-commit_refused : goal.returns-clause-commit_refused
returns-clause-commit_refused c =
    λ v fileid handle node caller status s refuses. commit-refused v fileid handle node caller s status refuses

pub returns-clause-commit : goal.returns-clause-commit
returns-clause-commit c =
    λ v fileid handle node caller s outcome new permits runs. commit-permitted v fileid handle node caller s outcome new permits runs
