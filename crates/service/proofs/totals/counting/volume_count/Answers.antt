use Rattle.std.proofs.Common.{◌≤◌, arith}
use Rattle.std.proofs.lemmas.Nat.{mul-le}
use Rattle.service.proofs.totals.counting.volume_count.Goals as goal

-- 16 ranges at most, each of 16,777,216 blocks at most
pub returns-clause-most : goal.returns-clause-most
returns-clause-most c =
    let is = c.range_blocks.ensures.value in
    let size = c.range_blocks.ensures.size.most in
    let few = c.ranges_used.ensures.few in
    let blocks : c.from.result ≤ 16777216 = (let same = c.from.ensures in omega (arith, same, is, size)) in
    let ranges : c.from-2.result ≤ 16 = (let same = c.from-2.ensures in omega (arith, same, few)) in
    let all = mul-le c.from.result c.from-2.result 16777216 16 blocks ranges in
    omega (arith, all)
