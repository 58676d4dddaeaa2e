use Rattle.std.proofs.Common.{◌≡◌, ◌∙◌, ap, length, replicate, arith, rules}
use Rattle.vbn_ranges.proofs.Marked.{zeros-length}
use Rattle.vbn_ranges.proofs.Summaries.{none-summed}
use Rattle.vbn_ranges.proofs.Leveled.{count-none}
use Rattle.vbn_ranges.proofs.levels.Levels.none.Goals as goal

pub returns-clause-levels : goal.returns-clause-levels
returns-clause-levels c =
    let words : c.in_ok-vec.field-0.items ≡ replicate c.args.words 0 = search rules in
    let low : c.in_ok-vec-2.field-0.items ≡ replicate c.div_ceil-low.result 0 = search rules in
    let middle : c.in_ok-vec-3.field-0.items ≡ replicate c.div_ceil-middle.result 0 = search rules in
    let top : c.in_ok-vec-4.field-0.items ≡ replicate 1 0 = search rules in
    let words-long = ap length words ∙ zeros-length c.args.words in
    let low-long = ap length low ∙ zeros-length c.div_ceil-low.result in
    let middle-long = ap length middle ∙ zeros-length c.div_ceil-middle.result in
    let top-long = ap length top ∙ zeros-length 1 in
    let ceil-low = c.div_ceil-low.ensures in
    let ceil-middle = c.div_ceil-middle.ensures in
    let few = c.requires in
    record {
      summaries = record {
        low = none-summed c.args.words c.div_ceil-low.result (omega (arith, ceil-low)) _ _ words low words-long low-long;
        middle = none-summed c.div_ceil-low.result c.div_ceil-middle.result (omega (arith, ceil-middle)) _ _ low middle low-long middle-long;
        top = none-summed c.div_ceil-middle.result 1 (omega (arith, ceil-low, ceil-middle, few)) _ _ middle top middle-long top-long;
        one = top-long;
      };
      few = omega (arith, words-long, few);
      counted = λ first. count-none c.args.words first _ words;
    }
