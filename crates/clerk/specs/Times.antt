-- When calls came that aren't finished (our profile).
use Rattle.std.specs.Prelude.{ℕ, List, [], ◌∷◌, ◌++◌, Option, Some, None, replicate}
use Rattle.clerk.specs.declared.times.Span.{Span}
use Rattle.clerk.specs.declared.times.Times.{Times}

-- a time for each call of a span
abbrev pub times_of : Span → List ℕ
times_of span = replicate span.calls span.since

-- of each span, one behind the other
abbrev pub times_of_all : List Span → List ℕ
times_of_all [] = []
times_of_all (span ∷ spans) = times_of span ++ times_of_all spans

abbrev pub times_of_first : Option Span → List ℕ
times_of_first None = []
times_of_first (Some span) = times_of span

-- when each call came that waits, the first first
abbrev pub times_in : Times → List ℕ
times_in times = times_of_first times.first ++ times_of_all times.behind.items
