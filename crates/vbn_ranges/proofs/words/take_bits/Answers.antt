use Rattle.std.proofs.Common.{◌≡◌, ◌+◌, ◌++◌, ◌<◌, ◌^◌, ℕ, ap, subst, length, arith}
use Rattle.std.proofs.lemmas.List.{length_push}
use lib.Count.{count_trailing_zeros}
use Rattle.vbn_ranges.specs.Words.{bits_from}
use Rattle.vbn_ranges.proofs.Leveled.{bit-taken, bit-ascending, bits-more}
use Rattle.vbn_ranges.proofs.words.take_bits.Goals as goal

pub push-requires-clause-ascending : goal.push-requires-clause-ascending
push-requires-clause-ascending c =
    bit-ascending c.args.first c.loop-left.left c.loop-left.batch _ (omega arith) (omega arith) c.loop-left.invariant.taken c.requires.ascending

pub loop-left-preserved : goal.loop-left-preserved
loop-left-preserved c =
    let left = c.loop-left.left in
    let batch = c.loop-left.batch in
    let size = length_push batch (c.args.first + count_trailing_zeros 64 left) in
    record {
      taken = bit-taken c.args.first left batch _ _ (omega arith) (omega arith) c.loop-left.invariant.taken c.push.ensures;
      few = let more = ap length c.push.ensures in omega arith;
    }

pub returns-after-loop-left-clause-more : goal.returns-after-loop-left-clause-more
returns-after-loop-left-clause-more c =
    let none : c.loop-left.left ≡ 0 = omega arith in
    let fits : c.args.word < 2 ^ 64 = omega arith in
    bits-more c.args.first c.args.word c.args.batch.now c.loop-left.batch c.requires.word fits
    (subst (λ (w : ℕ). c.loop-left.batch ++ bits_from 64 c.args.first w ≡ c.args.batch.now ++ bits_from 64 c.args.first c.args.word) none
    c.loop-left.invariant.taken)
