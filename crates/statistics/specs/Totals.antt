-- What was counted, in all.
use Rattle.std.specs.Prelude.{◌≡◌, ℕ, replicate}
use Rattle.statistics.specs.declared.counts.ReplyCounts.{ReplyCounts}
use Rattle.statistics.specs.declared.histogram.Histogram.{Histogram}
use Rattle.statistics.specs.declared.totals.Totals.{Totals}
use Rattle.statistics.specs.Counts.{kinds_in}
use Rattle.statistics.specs.Kind.{kinds_count}
use Rattle.statistics.specs.Histogram.{buckets_in}
use Rattle.statistics.specs.Wrapping.{wrapping_sum, wrapping_difference, AreSums, AreDifferences}

-- the replies
abbrev pub replies_in : Totals → ReplyCounts
replies_in t = t.replies

-- the times of calls
abbrev pub times_in : Totals → Histogram
times_in t = t.times

-- how often a node was refused
abbrev pub busy_in : Totals → ℕ
busy_in t = t.busy

-- how many calls were told a reply again
abbrev pub repeated_in : Totals → ℕ
repeated_in t = t.repeated

-- nothing was counted
pub record IsNothing (t : Totals) : Type 0 where
  pub replies : kinds_in (replies_in t) ≡ replicate kinds_count 0
  pub times : buckets_in (times_in t) ≡ replicate 124 0
  pub busy : busy_in t ≡ 0
  pub repeated : repeated_in t ≡ 0

-- all counts of both together
pub record HasAdded (before more after : Totals) : Type 0 where
  pub replies : AreSums (kinds_in (replies_in before)) (kinds_in (replies_in more)) (kinds_in (replies_in after))
  pub times : AreSums (buckets_in (times_in before)) (buckets_in (times_in more)) (buckets_in (times_in after))
  pub busy : busy_in after ≡ wrapping_sum (busy_in before) (busy_in more)
  pub repeated : repeated_in after ≡ wrapping_sum (repeated_in before) (repeated_in more)

-- what was counted between an earlier time and now
pub record IsSince (now earlier since : Totals) : Type 0 where
  pub replies : AreDifferences (kinds_in (replies_in now)) (kinds_in (replies_in earlier)) (kinds_in (replies_in since))
  pub times : AreDifferences (buckets_in (times_in now)) (buckets_in (times_in earlier)) (buckets_in (times_in since))
  pub busy : busy_in since ≡ wrapping_difference (busy_in now) (busy_in earlier)
  pub repeated : repeated_in since ≡ wrapping_difference (repeated_in now) (repeated_in earlier)
