use Rattle.filer_state.specs.bytes.lemmas.Reads.{stripe-reads, stripe-starves, logical-reads, logical-starves}
use Rattle.filer_state.proofs.bytes.laws.reading_calls_are_right.Goals as goal

pub returns-clause-in_stripe : goal.returns-clause-in_stripe
returns-clause-in_stripe c =
    λ v i fileid offset count handle node s some lies. stripe-reads v i fileid offset count handle node s some lies

pub returns-clause-in_stripe_starves : goal.returns-clause-in_stripe_starves
returns-clause-in_stripe_starves c =
    λ v i fileid offset count handle node s n eof byte bytes some lies gives.
    stripe-starves v i fileid offset count handle node s n eof byte bytes some lies gives

pub returns-clause-in_logical : goal.returns-clause-in_logical
returns-clause-in_logical c = λ v fileid offset count handle node s. logical-reads v fileid offset count handle node s

pub returns-clause-in_logical_starves : goal.returns-clause-in_logical_starves
returns-clause-in_logical_starves c =
    λ v fileid offset count handle node s n eof byte bytes gives.
    logical-starves v fileid offset count handle node s n eof byte bytes gives
