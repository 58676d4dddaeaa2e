use Rattle.std.proofs.Common.{◌≡◌, ◌<◌, ℕ, List, get_or, sym, subst, rules}
use Rattle.vbn_ranges.specs.Summary.{IsSummary}
use Rattle.vbn_ranges.proofs.Summaries.{first-filled}
use Rattle.vbn_ranges.proofs.levels.Levels.first_filled.Goals as goal

pub lowest_bit-requires-clause-before : goal.lowest_bit-requires-clause-before
lowest_bit-requires-clause-before c =
    let l = c.args.self.now in
    let middle : c.deref-2.result.now ≡ l.middle.items = search rules in
    let low : c.deref-3.result.now ≡ l.low.items = search rules in
    subst (λ (ws : List ℕ). (k : ℕ) → k < c.lowest_bit-of_low.result → get_or ws k 0 ≡ 0) (sym low)
    ((first-filled l.low.items c.deref-2.result.now c.lowest_bit-of_low.result
    (subst (λ (ws : List ℕ). IsSummary l.low.items ws) (sym middle) c.requires.summaries.middle) c.lowest_bit-of_low.ensures.bit
    c.lowest_bit-of_low.ensures.before).before)

pub returns-clause-within : goal.returns-clause-within
returns-clause-within c =
    let l = c.args.self.now in
    let low : c.deref-3.result.now ≡ l.low.items = search rules in
    (first-filled l.words.items c.deref-3.result.now c.lowest_bit.result
    (subst (λ (ws : List ℕ). IsSummary l.words.items ws) (sym low) c.requires.summaries.low) c.lowest_bit.ensures.bit c.lowest_bit.ensures.before).within

pub returns-clause-before : goal.returns-clause-before
returns-clause-before c =
    let l = c.args.self.now in
    let low : c.deref-3.result.now ≡ l.low.items = search rules in
    (first-filled l.words.items c.deref-3.result.now c.lowest_bit.result
    (subst (λ (ws : List ℕ). IsSummary l.words.items ws) (sym low) c.requires.summaries.low) c.lowest_bit.ensures.bit c.lowest_bit.ensures.before).before
