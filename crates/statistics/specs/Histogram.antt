-- How long calls took.
use Rattle.std.specs.Prelude.{ℕ, List}
use Rattle.statistics.specs.declared.histogram.Histogram.{Histogram}

-- how many calls there were of each bucket
abbrev pub buckets_in : Histogram → List ℕ
buckets_in h = h.counts
