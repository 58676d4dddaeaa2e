use Rattle.std.proofs.Common.{◌+◌, ◌/◌, ◌<◌, ◌^◌, arith}
use Rattle.statistics.proofs.Tops.{bucket_further, passed_below}
use Rattle.statistics.proofs.histogram.+bucket_of_short.Goals as goal

pub overflow_add-result : goal.overflow_add-result
overflow_add-result t c =
    let half : c.args.micros / 2 < 2 ^ (29 + 3) = omega arith in
    omega (arith, c.bucket_of_short.ensures.few 29 half)

pub returns-else-micros-lt8-clause-bucket : goal.returns-else-micros-lt8-clause-bucket
returns-else-micros-lt8-clause-bucket t c =
    bucket_further c.args.micros c.bucket_of_short.result c.if-micros-lt8.false c.bucket_of_short.ensures.bucket

pub returns-else-micros-lt8-clause-few : goal.returns-else-micros-lt8-clause-few
returns-else-micros-lt8-clause-few t c =
    passed_below c.args.micros c.bucket_of_short.result c.if-micros-lt8.false c.bucket_of_short.ensures.few
