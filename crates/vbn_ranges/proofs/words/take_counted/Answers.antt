use Rattle.std.proofs.Common.{◌≡◌, ◌∙◌, ◌==◌, ◌≤◌, ◌++◌, ◌⊎◌, inl, inr, [], ap, subst, sym, arith, length-set, add-one, length, ℕ, rules}
use Rattle.std.proofs.lemmas.List.Sums.{prefix_len-le-length}
use Rattle.vbn_ranges.specs.Words.{members}
use Rattle.vbn_ranges.proofs.Bits.{ZeroBefore, zero-prefix, zero-more, zero-set, zero-whole}
use Rattle.vbn_ranges.proofs.Leveled.{word-ascending, word-taken}
use Rattle.vbn_ranges.proofs.Taken.{all-taken}
use Rattle.vbn_ranges.proofs.words.take_counted.Goals.{then-loop-place-test+else-len-most, else-loop-place-test}
use Rattle.vbn_ranges.proofs.words.take_counted.Goals as goal

pub loop-place-init : goal.loop-place-init
loop-place-init c =
    let words = c.args.words.now in
    let few = prefix_len-le-length (λ w. w == 0) words in
    record {
      joined = ap (λ bs. bs ++ members c.args.first words) c.new-batch.ensures;
      zero = subst (λ (k : ℕ). ZeroBefore k words) (sym c.first_filled-place.ensures) (zero-prefix words);
      few = search rules;
      words = c.told-words;
      within = omega (arith, few);
      looked = omega arith;
      giving = omega arith;
    }

pub loop-place-preserved-then-word-eq0 : goal.loop-place-preserved-then-word-eq0
loop-place-preserved-then-word-eq0 c = record {
  joined = c.loop-place.invariant.joined;
  zero = rw add-one (zero-more c.loop-place.place c.loop-place.words c.loop-place.invariant.zero c.if-word-eq0.true);
  few = c.loop-place.invariant.few;
  words = c.loop-place.invariant.words;
  within = omega arith;
  looked = let looked = c.loop-place.invariant.looked in omega (arith, looked);
  giving = c.loop-place.invariant.giving;
}

pub take_bits-left-requires-clause-ascending : goal.take_bits-left-requires-clause-ascending
take_bits-left-requires-clause-ascending c =
    word-ascending c.loop-place.place c.args.first c.loop-place.words c.args.words.now c.loop-place.batch c.loop-place.invariant.zero (omega arith)
    c.loop-place.invariant.joined

pub loop-place-preserved : goal.loop-place-preserved
loop-place-preserved c =
    let words = c.loop-place.words in
    let place = c.loop-place.place in
    record {
      joined =
          word-taken place c.args.first c.take_bits-left.result words c.loop-place.batch c.take_bits-left.new.batch _ c.loop-place.invariant.zero
          (omega arith) c.take_bits-left.ensures.taken c.loop-place.invariant.joined;
      zero = zero-set place words _ c.loop-place.invariant.zero;
      few = c.take_bits-left.ensures.few;
      words = length-set words place _ ∙ c.loop-place.invariant.words;
      within = c.loop-place.invariant.within;
      looked = let looked = c.loop-place.invariant.looked in omega (arith, looked);
      giving = let giving = c.loop-place.invariant.giving in let more = c.take_bits-left.ensures.more in omega (arith, giving, more);
    }

pub returns-clause-batch : goal.returns-clause-batch
returns-clause-batch c =
    let inv = c.loop-place.invariant in
    let done : (members c.args.first c.loop-place.words ≡ []) ⊎ (c.min-most.result ≤ length c.loop-place.batch) =
    elim c.loop-place-test.branch [
      | then-loop-place-test+else-len-most w ↦ let test = w.if-len-most.false in let size = w.len.ensures.value in inr (omega (arith, test, size))
      | else-loop-place-test w ↦
          let past = w.loop-place-test.false in
          let long = inv.words in
          inl (zero-whole c.loop-place.place c.args.first c.loop-place.words (omega (arith, past, long)) inv.zero)
    ] in
    rw (← c.min-most.ensures) (all-taken c.min-most.result c.loop-place.batch _ _ inv.joined inv.few done).0

pub returns-clause-left : goal.returns-clause-left
returns-clause-left c =
    let inv = c.loop-place.invariant in
    let done : (members c.args.first c.loop-place.words ≡ []) ⊎ (c.min-most.result ≤ length c.loop-place.batch) =
    elim c.loop-place-test.branch [
      | then-loop-place-test+else-len-most w ↦ let test = w.if-len-most.false in let size = w.len.ensures.value in inr (omega (arith, test, size))
      | else-loop-place-test w ↦
          let past = w.loop-place-test.false in
          let long = inv.words in
          inl (zero-whole c.loop-place.place c.args.first c.loop-place.words (omega (arith, past, long)) inv.zero)
    ] in
    rw (← c.min-most.ensures) (all-taken c.min-most.result c.loop-place.batch _ _ inv.joined inv.few done).1
