use Rattle.std.proofs.Common.{◌≡◌, ◌∙◌, ◌+◌, ◌-◌, ◌*◌, ◌≤◌, ◌++◌, ◌⊎◌, inl, inr, ap, sym, subst, ℕ, List, [], length, get_or, length-set, arith, rules}
use Rattle.std.proofs.lemmas.Grind.{get_or_default_zero}
use Rattle.nfs_model.specs.Parts.{IsAscending}
use Rattle.vbn_ranges.specs.Words.{bits_from, members}
use Rattle.vbn_ranges.proofs.Summaries.{zero-from}
use Rattle.vbn_ranges.proofs.Taken.{all-taken}
use Rattle.vbn_ranges.proofs.Leveled.{word-ascending, word-taken, count-less, none-left}
use Rattle.vbn_ranges.proofs.levels.Levels.take_counted.Goals.{then-loop-self-test+else-index-ne0, else-loop-self-test}
use Rattle.vbn_ranges.proofs.levels.Levels.take_counted.Goals as goal

pub take_bits-left-requires-clause-ascending : goal.take_bits-left-requires-clause-ascending
take_bits-left-requires-clause-ascending c =
    let words = c.loop-self.self.words.items in
    let place = c.first_filled-place.result in
    let word : c.index-word.result.now ≡ get_or words place 0 =
    c.index-word.ensures ∙ get_or_default_zero words place c.index-word.result.now c.first_filled-place.ensures.within in
    subst (λ (w : ℕ). IsAscending (c.loop-self.batch ++ bits_from 64 (c.args.first + place * 64) w)) (sym word)
    (word-ascending place c.args.first words c.args.self.now.words.items c.loop-self.batch (zero-from place words c.first_filled-place.ensures.before)
    c.first_filled-place.ensures.within c.loop-self.invariant.joined)

pub loop-self-preserved : goal.loop-self-preserved
loop-self-preserved c =
    let words = c.loop-self.self.words.items in
    let place = c.first_filled-place.result in
    let batch = c.loop-self.batch in
    let word : c.index-word.result.now ≡ get_or words place 0 =
    c.index-word.ensures ∙ get_or_default_zero words place c.index-word.result.now c.first_filled-place.ensures.within in
    record {
      joined =
          ap (λ (ws : List ℕ). c.take_bits-left.new.batch ++ members c.args.first ws) c.put.ensures.words
          ∙ word-taken place c.args.first c.take_bits-left.result words batch c.take_bits-left.new.batch _
          (zero-from place words c.first_filled-place.ensures.before) c.first_filled-place.ensures.within
          (c.take_bits-left.ensures.taken ∙ ap (λ (w : ℕ). batch ++ bits_from 64 (c.args.first + place * 64) w) word)
          c.loop-self.invariant.joined;
      few = c.take_bits-left.ensures.few;
      summaries = c.put.ensures.summaries;
      size = ap length c.put.ensures.words ∙ length-set words place _ ∙ c.loop-self.invariant.size;
      count = c.put.ensures.count ∙ c.loop-self.invariant.count;
      looked = let looked = c.loop-self.invariant.looked in omega (arith, looked);
      giving = let giving = c.loop-self.invariant.giving in let more = c.take_bits-left.ensures.more in omega (arith, giving, more);
    }

pub returns-clause-batch : goal.returns-clause-batch
returns-clause-batch c =
    let l = c.loop-self.self in
    let s = c.loop-self.invariant.summaries in
    let done : (members c.args.first l.words.items ≡ []) ⊎ (c.min-most.result ≤ length c.loop-self.batch) =
    elim c.loop-self-test.branch [
      | then-loop-self-test+else-index-ne0 w ↦
          let read : w.index.result.now ≡ get_or l.top.items 0 0 = search rules in
          inl (none-left l.words.items l.low.items l.middle.items l.top.items c.args.first s.low s.middle s.top s.one (sym read ∙ w.if-index-ne0.false))
      | else-loop-self-test w ↦ let test = w.loop-self-test.false in let size = c.len.ensures.value in inr (omega (arith, test, size))
    ] in
    rw (← c.min-most.ensures) (all-taken c.min-most.result c.loop-self.batch _ _ c.loop-self.invariant.joined c.loop-self.invariant.few done).0

pub returns-clause-left : goal.returns-clause-left
returns-clause-left c =
    let l = c.loop-self.self in
    let s = c.loop-self.invariant.summaries in
    let done : (members c.args.first l.words.items ≡ []) ⊎ (c.min-most.result ≤ length c.loop-self.batch) =
    elim c.loop-self-test.branch [
      | then-loop-self-test+else-index-ne0 w ↦
          let read : w.index.result.now ≡ get_or l.top.items 0 0 = search rules in
          inl (none-left l.words.items l.low.items l.middle.items l.top.items c.args.first s.low s.middle s.top s.one (sym read ∙ w.if-index-ne0.false))
      | else-loop-self-test w ↦ let test = w.loop-self-test.false in let size = c.len.ensures.value in inr (omega (arith, test, size))
    ] in
    rw (← c.min-most.ensures) (all-taken c.min-most.result c.loop-self.batch _ _ c.loop-self.invariant.joined c.loop-self.invariant.few done).1

pub returns-clause-levels : goal.returns-clause-levels
returns-clause-levels c =
    let inv = c.loop-self.invariant in
    let s = inv.summaries in
    let old = c.args.self.now in
    record {
      summaries = record { low = s.low; middle = s.middle; top = s.top; one = s.one };
      few = let size = inv.size in let few = c.requires.levels.few in omega (arith, size, few);
      counted = λ f.
          (λ i. inv.count i - c.len-2.ensures.value i)
          ∙ count-less old.count c.args.first f old.words.items c.loop-self.self.words.items c.loop-self.batch c.requires.levels.counted inv.joined;
    }
