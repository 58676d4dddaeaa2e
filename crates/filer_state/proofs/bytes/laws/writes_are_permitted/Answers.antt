use Rattle.filer_state.specs.bytes.lemmas.Clears.{stripe-write-refused, stripe-write-permitted, stripe-write-clears}
use Rattle.filer_state.specs.bytes.lemmas.Clears.{logical-write-refused, logical-write-permitted, volume-write-refused, volume-write-permitted}
use Rattle.filer_state.proofs.bytes.laws.writes_are_permitted.Goals as goal

pub returns-clause-in_stripe_refused : goal.returns-clause-in_stripe_refused
returns-clause-in_stripe_refused c = λ v i fileid handle w status s some refuses. stripe-write-refused v i fileid handle w s some status refuses

pub returns-clause-in_stripe : goal.returns-clause-in_stripe
returns-clause-in_stripe c =
    λ v i fileid handle w s outcome new some permits stays runs.
    stripe-write-permitted v i fileid handle w s some permits outcome new stays runs

pub returns-clause-in_stripe_clears : goal.returns-clause-in_stripe_clears
returns-clause-in_stripe_clears c =
    λ v i fileid handle w s told some permits clears answered runs.
    stripe-write-clears v i fileid handle w s some permits told clears answered runs

pub returns-clause-in_logical_refused : goal.returns-clause-in_logical_refused
returns-clause-in_logical_refused c = λ v fileid handle w status s refuses. logical-write-refused v fileid handle w s status refuses

pub returns-clause-in_logical : goal.returns-clause-in_logical
returns-clause-in_logical c =
    λ v fileid handle w s outcome new permits runs. logical-write-permitted v fileid handle w s outcome new permits runs

pub returns-clause-in_volume_refused : goal.returns-clause-in_volume_refused
returns-clause-in_volume_refused c = λ v fileid handle w status s refuses. volume-write-refused v fileid handle w s status refuses

pub returns-clause-in_volume : goal.returns-clause-in_volume
returns-clause-in_volume c =
    λ v fileid handle w s outcome new permits runs. volume-write-permitted v fileid handle w s outcome new permits runs
