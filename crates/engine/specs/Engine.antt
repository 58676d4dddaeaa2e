-- Runs that say how many events were refused, and what is seen of a connection.
use Rattle.std.specs.Prelude.{◌≡◌, ℕ, ◌+◌, List, [], ◌∷◌, Option, Some, None, Result, Ok, Err}
use Rattle.nfs_model.specs.World.{Setup, World, Connection}
use Rattle.nfs_model.specs.Events.Refusals.{Event, Done}
use Rattle.nfs_model.specs.Events.Step.{Events}

abbrev pub one_if_refused : Result Done ℕ → ℕ
one_if_refused (Ok done) = 0
one_if_refused (Err number) = 1

-- a list of events, each answered or refused, and how many were refused
abbrev pub RunsRefusing : Setup → World → List Event → ℕ → World → Type 0
RunsRefusing setup old [] refused new = (refused ≡ 0) × (new ≡ old)
RunsRefusing setup old (e ∷ es) refused new =
    (answer : Result Done ℕ) × (middle : World) × (others : ℕ) × Events setup old e answer middle
    × (refused ≡ one_if_refused answer + others) × RunsRefusing setup middle es others new

-- nothing where there is no such connection
abbrev pub output_in : Option Connection → List ℕ
output_in None = []
output_in (Some c) = c.output

abbrev pub stream_in : Option Connection → List ℕ
stream_in None = []
stream_in (Some c) = c.stream
