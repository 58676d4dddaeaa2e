use Rattle.std.proofs.Common.{◌≡◌, ◌∙◌, ◌==◌, ◌/◌, ℕ, not, ap, sym, get_or, arith, if◌then◌else◌, length-set}
use Rattle.std.proofs.lemmas.List.{get_or-set_same}
use Rattle.std.proofs.lemmas.Grind.{get_or_default_zero}
use Rattle.vbn_ranges.specs.Words.{has_bit}
use Rattle.vbn_ranges.proofs.Single.{other-words}
use Rattle.vbn_ranges.proofs.Summaries.{alike, summary-again, summary-kept}
use Rattle.vbn_ranges.proofs.levels.Levels.put.Goals as goal

pub returns-clause-summaries : goal.returns-clause-summaries
returns-clause-summaries c =
    let h = c.requires.summaries in
    let words = c.args.self.now.words.items in
    let low = c.args.self.now.low.items in
    let place = c.args.place in
    let word = c.args.word in
    let within = c.requires.within in
    let low-size = h.low.size in
    let middle-size = h.middle.size in
    let low-long = c.set_bit.ensures.length in
    let middle-long = c.set_bit-2.ensures.length in
    let low-word : c.index-2.result.now ≡ get_or c.set_bit.new.words.items (place / 64) 0 =
    c.index-2.ensures ∙ get_or_default_zero c.set_bit.new.words.items (place / 64) c.index-2.result.now (omega (arith, within, low-size, low-long)) in
    let middle-word : c.index-3.result.now ≡ get_or c.set_bit-2.new.words.items (place / 64 / 64) 0 =
    c.index-3.ensures
    ∙ get_or_default_zero c.set_bit-2.new.words.items (place / 64 / 64) c.index-3.result.now
    (omega (arith, within, low-size, middle-size, middle-long)) in
    record {
      low = summary-again words _ low c.set_bit.new.words.items place h.low (λ k e. other-words words place word k e) (length-set words place word)
          (λ n. c.set_bit.ensures.bits n
          ∙ ap (λ (w : ℕ). if n == place then not (w == 0) else has_bit low n) (sym (get_or-set_same words place word 0 c.requires.within)))
          c.set_bit.ensures.length;
      middle = summary-again low c.set_bit.new.words.items c.args.self.now.middle.items c.set_bit-2.new.words.items (place / 64) h.middle
          c.set_bit.ensures.others c.set_bit.ensures.length
          (λ n. c.set_bit-2.ensures.bits n
          ∙ ap (λ (w : ℕ). if n == place / 64 then not (w == 0) else has_bit c.args.self.now.middle.items n) low-word)
          c.set_bit-2.ensures.length;
      top = summary-again c.args.self.now.middle.items c.set_bit-2.new.words.items c.args.self.now.top.items c.set_bit-3.new.words.items (place / 64 / 64)
          h.top c.set_bit-2.ensures.others c.set_bit-2.ensures.length
          (λ n. c.set_bit-3.ensures.bits n
          ∙ ap (λ (w : ℕ). if n == place / 64 / 64 then not (w == 0) else has_bit c.args.self.now.top.items n) middle-word)
          c.set_bit-3.ensures.length;
      one = c.set_bit-3.ensures.length ∙ h.one;
    }

pub returns-then-was_filled-word-clause-summaries : goal.returns-then-was_filled-word-clause-summaries
returns-then-was_filled-word-clause-summaries c =
    let h = c.requires.summaries in
    let words = c.args.self.now.words.items in
    let read : c.index.result.now ≡ get_or words c.args.place 0 =
    c.index.ensures ∙ get_or_default_zero words c.args.place c.index.result.now c.requires.within in
    record {
      low = summary-kept words c.args.self.now.low.items c.args.place c.args.word h.low c.requires.within
          (ap (λ w. not (w == 0)) (sym read) ∙ alike _ _ c.if-was_filled-word.true);
      middle = h.middle;
      top = h.top;
      one = h.one;
    }
