-- Replies, counted by kind.
use Rattle.std.specs.Prelude.{ℕ, List, slice_index}
use Rattle.statistics.specs.declared.counts.ReplyCounts.{ReplyCounts}
use Rattle.statistics.specs.declared.kind.ReplyKind.{ReplyKind}
use Rattle.statistics.specs.Kind.{place_of}

-- how many there were of each kind, by its place
abbrev pub kinds_in : ReplyCounts → List ℕ
kinds_in c = c.counts

-- how many there were of a kind
abbrev pub count_of : ReplyCounts → ReplyKind → ℕ
count_of c kind = slice_index (kinds_in c) (place_of kind)
