use Rattle.std.proofs.Common.{◌≡◌, ◌∙◌, ◌*◌, ◌-◌, ◌^◌, ap, length, arith, rules}
use Rattle.std.proofs.lemmas.List.{length-replicate}
use Rattle.vbn_ranges.proofs.Summaries.{none-past}
use Rattle.vbn_ranges.proofs.Leveled.{count-all}
use Rattle.vbn_ranges.proofs.levels.Levels.fill.Goals as goal

pub sum_up-requires-clause-past : goal.sum_up-requires-clause-past
sum_up-requires-clause-past c k past =
    let words = c.args.self.now.words.items in
    let long = ap length c.fill_words.ensures ∙ length-replicate (length words) (2 ^ 64 - 1) in
    none-past words c.args.self.now.low.items c.requires.summaries.low k (omega (arith, long, past))

pub returns-clause-levels : goal.returns-clause-levels
returns-clause-levels c =
    let words = c.args.self.now.words.items in
    let long = ap length c.fill_words.ensures ∙ length-replicate (length words) (2 ^ 64 - 1) in
    let size : c.len.result ≡ length c.fill_words.new.words.items = search rules in
    record {
      summaries = record {
        low = c.sum_up.ensures.summary;
        middle = c.sum_up-2.ensures.summary;
        top = c.sum_up-3.ensures.summary;
        one = c.sum_up-3.ensures.length ∙ c.requires.summaries.one;
      };
      few = let few = c.requires.few in omega (arith, long, few);
      counted = λ first. ap (λ n. n * 64) (size ∙ long) ∙ count-all (length words) first c.fill_words.new.words.items c.fill_words.ensures;
    }
