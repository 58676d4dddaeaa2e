-- How often statistics are told (our profile).
use Rattle.std.specs.Prelude.{ℕ, ◌<◌, ◌≤◌}

-- this many minutes: at most a day
abbrev pub AreMinutes : ℕ → Type 0
AreMinutes minutes = 0 < minutes × minutes ≤ 1440
