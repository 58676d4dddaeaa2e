-- Words with summaries above them.
use Rattle.std.specs.Prelude.{◌≡◌, ℕ, ◌≤◌, length}
use Rattle.vbn_ranges.specs.Words.{members}
use Rattle.vbn_ranges.specs.Summary.{IsSummary}
use Rattle.vbn_ranges.specs.declared.levels.Levels.{Levels}

-- Each level sums up the one below it, and the top is one word.
pub record HasSummaries (l : Levels) : Type 0 where
  pub low : IsSummary l.words.items l.low.items
  pub middle : IsSummary l.low.items l.middle.items
  pub top : IsSummary l.middle.items l.top.items
  pub one : length l.top.items ≡ 1

-- And the bits of the words are counted.
pub record AreLevels (l : Levels) : Type 0 where
  pub summaries : HasSummaries l
  pub few : length l.words.items ≤ 262144
  pub counted : (first : ℕ) → l.count ≡ length (members first l.words.items)
