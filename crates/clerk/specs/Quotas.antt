-- What is told at most once a second (our profile).
use Rattle.std.specs.Prelude.{ℕ, ◌+◌, ◌-◌, ◌^◌, ◌<◌, ◌≤◌, min}
use Rattle.clerk.specs.declared.quota.Quota.{Quota}

-- it happened, and may be told
abbrev pub IsDue : Quota → ℕ → Type 0
IsDue quota now = 0 < quota.count × quota.next ≤ now

-- what is left once it was told: it may be told again in a second
abbrev pub told_at : ℕ → Quota
told_at now = record { count = 0; next = min (now + 1000) (2 ^ 64 - 1) }
