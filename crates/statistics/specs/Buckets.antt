-- Buckets of times, in microseconds.
use Rattle.std.specs.Prelude.{◌≡◌, ℕ, ◌+◌, ◌-◌, ◌*◌, ◌/◌, ◌%◌, ◌^◌, ◌<◌, ◌≤◌, nat_lt, if◌then◌else◌, List, slice_index, slice_set, min, sum, take}
use Rattle.statistics.specs.Wrapping.{wrapping_sum}

-- the longest time of a bucket: each up to 3 has one of its own, and from there on each power of two has four up to the next one
abbrev pub top_of : ℕ → ℕ
top_of bucket = if nat_lt bucket 4 then bucket else (bucket % 4 + 5) * 2 ^ (bucket / 4 - 1) - 1

-- a time is in the first bucket whose longest time isn't below it
pub record IsBucketOf (time bucket : ℕ) : Type 0 where
  pub fits : time ≤ top_of bucket
  pub first : (before : ℕ) → before + 1 ≡ bucket → top_of before < time

-- this many calls took so long each, of which times above 2^32 - 1 aren't told apart
pub record HasPut (time calls : ℕ) (before after : List ℕ) : Type 0 where
  pub bucket : ℕ
  pub is : IsBucketOf (min time (2 ^ 32 - 1)) bucket
  pub put : after ≡ slice_set before bucket (wrapping_sum (slice_index before bucket) calls)

-- how many calls are through by the end of a bucket
abbrev pub through_by : List ℕ → ℕ → ℕ
through_by counts bucket = sum (take (bucket + 1) counts)

-- so many calls are through by the end of the bucket of a time, of which those above 2^32 - 1 aren't told apart
pub record AreWithin (time : ℕ) (counts : List ℕ) (calls : ℕ) : Type 0 where
  pub bucket : ℕ
  pub is : IsBucketOf (min time (2 ^ 32 - 1)) bucket
  pub calls_are : calls ≡ through_by counts bucket % 2 ^ 64

-- the longest time of the first bucket by whose end this many percent of the calls are through
pub record IsPercentile (counts : List ℕ) (percent time : ℕ) : Type 0 where
  pub bucket : ℕ
  pub is : time ≡ top_of bucket
  pub through : percent * sum counts ≤ 100 * through_by counts bucket
  pub first : (before : ℕ) → before < bucket → 100 * through_by counts before < percent * sum counts
