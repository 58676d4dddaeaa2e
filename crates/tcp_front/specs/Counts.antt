-- Devices whose failures are counted.
use Rattle.std.specs.Prelude.{◌≡◌, ℕ, ◌+◌, ◌-◌, ◌^◌, ◌<◌, Result, MatchResult}
use Rattle.tcp_front.specs.declared.counted.Counted.{Counted}

abbrev pub device_of : {D : Type 0} → Counted D → D
device_of c = c.device

abbrev pub failures_of : {D : Type 0} → Counted D → ℕ
failures_of c = c.failures

-- one more failure can be counted
abbrev pub may_fail : {D : Type 0} → Counted D → Type 0
may_fail c = failures_of c < 2 ^ 64 - 1

-- one failure more was counted
abbrev pub HasFailed : {D : Type 0} → Counted D → Counted D → Type 0
HasFailed old new = failures_of new ≡ failures_of old + 1

-- none was
abbrev pub HasNotFailed : {D : Type 0} → Counted D → Counted D → Type 0
HasNotFailed old new = failures_of new ≡ failures_of old

-- the count rose at an error and stayed else
abbrev pub CountsFailure : {D A E : Type 0} → Counted D → Result A E → Counted D → Type 0
CountsFailure old result new = MatchResult result (λ _. HasNotFailed old new) (λ _. HasFailed old new)
