use Rattle.std.proofs.Common.{ℕ, List}
use Rattle.std.specs.Io.KnownBytes.{Consumes}
use Rattle.admin_client.specs.Incoming.{IsOpen}
use Rattle.admin_client.proofs.incoming.next_record.Given as goal

-- What was read of the stream holds no record yet.
abbrev pub invariant-loop-turn : goal.invariant-loop-turn
invariant-loop-turn g l =
    (came : List ℕ) × IsOpen came l.records × Consumes (g.R.Read.remaining l.initial.stream) (g.R.Read.remaining l.stream) came
