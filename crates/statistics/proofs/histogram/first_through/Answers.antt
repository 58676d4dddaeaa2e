use Rattle.std.proofs.Common.{◌≡◌, ℕ, ◌+◌, ◌*◌, ◌<◌, List, ap, subst, arith, rules, inl, inr, sum}
use Rattle.std.proofs.lemmas.Bool.{cases_lt}
use Rattle.std.proofs.lemmas.List.{take_all, length-take}
use Rattle.statistics.specs.Buckets.{through_by}
use Rattle.statistics.proofs.Sums.{sum_before}
use Rattle.statistics.proofs.histogram.first_through.Goals as goal

-- so it is of one bucket more
before-more : (counts : List ℕ) (bucket share : ℕ) → ((k : ℕ) → k < bucket → 100 * through_by counts k < share) → 100 * through_by counts bucket < share
    → (k : ℕ) → k < bucket + 1 → 100 * through_by counts k < share
before-more counts bucket share all here k h =
    elim (cases_lt k bucket) [
      | inl lt ↦ all k lt
      | inr le ↦ let same : bucket ≡ k = omega arith in subst (λ (n : ℕ). 100 * through_by counts n < share) same here
    ]

pub returns-then-share-through-clause-through : goal.returns-then-share-through-clause-through
returns-then-share-through-clause-through c =
    let within = length-take 123 c.args.counts.now in
    let next = sum_before c.args.counts.now 123 c.loop-bucket.bucket c.from-through.result 0
    (omega (arith, within, c.loop-bucket-test.true, c.told-counts)) (omega (arith, c.told-counts)) c.from-through.ensures in
    omega (arith, next, c.loop-bucket.invariant.sum_is, c.if-share-through.true)

pub loop-bucket-preserved : goal.loop-bucket-preserved
loop-bucket-preserved c =
    let within = length-take 123 c.args.counts.now in
    let next = sum_before c.args.counts.now 123 c.loop-bucket.bucket c.from-through.result 0
    (omega (arith, within, c.loop-bucket-test.true, c.told-counts)) (omega (arith, c.told-counts)) c.from-through.ensures in
    record {
      sum_is = omega (arith, next, c.loop-bucket.invariant.sum_is);
      few = search rules;
      before = before-more c.args.counts.now c.loop-bucket.bucket c.args.share c.loop-bucket.invariant.before
          (omega (arith, next, c.loop-bucket.invariant.sum_is, c.if-share-through.false));
    }

pub returns-clause-through : goal.returns-clause-through
returns-clause-through c =
    let whole = ap sum (take_all 124 c.args.counts.now (omega (arith, c.told-counts))) in
    omega (arith, c.requires, whole)
