use Rattle.std.proofs.Common.{◌+◌, ◌<◌, ◌^◌, arith}
use Rattle.statistics.proofs.histogram.bucket_of.Goals as goal

pub returns-clause-within : goal.returns-clause-within
returns-clause-within c =
    let short : c.min.result < 2 ^ (29 + 3) = omega (arith, c.min.ensures) in
    c.bucket_of_short.ensures.few 29 short
