use Rattle.std.proofs.Common.{◌≡◌, ◌∙◌, ◌+◌, ◌/◌, ap, sym, get_or, length, length-set, arith}
use Rattle.std.proofs.lemmas.Grind.{get_or_default_zero}
use Rattle.vbn_ranges.specs.Words.{has_bit}
use Rattle.vbn_ranges.proofs.Single.{insert-by}
use Rattle.vbn_ranges.proofs.Leveled.{count-more, members-few}
use Rattle.vbn_ranges.proofs.levels.Levels.insert.Goals as goal

pub overflow_add-self : goal.overflow_add-self
overflow_add-self c =
    let few = members-few 0 c.args.self.now.words.items in
    let counted = c.requires.levels.counted 0 in
    let size = c.requires.levels.few in
    let same = c.put.ensures.count in
    record { fits = omega (arith, few, counted, size, same) }

pub returns-then-not-has-clause-bits : goal.returns-then-not-has-clause-bits
returns-then-not-has-clause-bits c n =
    let words = c.args.self.now.words.items in
    let read : c.index.result.now ≡ get_or words (c.args.place / 64) 0 =
    c.index.ensures ∙ get_or_default_zero words (c.args.place / 64) c.index.result.now c.requires.within in
    ap (λ ws. has_bit ws n) c.put.ensures.words ∙ insert-by words c.args.place c.index.result.now read c.requires.within n

pub returns-then-not-has-clause-levels : goal.returns-then-not-has-clause-levels
returns-then-not-has-clause-levels c =
    let words = c.args.self.now.words.items in
    let s = c.put.ensures.summaries in
    let same = c.put.ensures.count in
    let read : c.index.result.now ≡ get_or words (c.args.place / 64) 0 =
    c.index.ensures ∙ get_or_default_zero words (c.args.place / 64) c.index.result.now c.requires.within in
    record {
      summaries = record { low = s.low; middle = s.middle; top = s.top; one = s.one };
      few =
          let long = ap length c.put.ensures.words ∙ length-set words (c.args.place / 64) _ in
          let few = c.requires.levels.few in
          omega (arith, long, few);
      counted = λ first.
          ap (λ n. n + 1) same
          ∙ count-more c.args.self.now.count c.args.place first words _ c.requires.levels.counted (sym c.has.ensures ∙ c.if-not-has.true)
          (λ n. ap (λ ws. has_bit ws n) c.put.ensures.words ∙ insert-by words c.args.place c.index.result.now read c.requires.within n);
    }
