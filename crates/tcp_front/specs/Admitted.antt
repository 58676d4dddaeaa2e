-- The calls among what came.
use Rattle.std.specs.Prelude.{List, [], ◌∷◌}
use Rattle.nfs_model.specs.World as worlds
use Rattle.tcp_front.specs.Arrivals.{Arrival, Waits, Answered}

-- the calls among what came
abbrev pub calls_of : List Arrival → List worlds.Message
calls_of [] = []
calls_of (Waits message ∷ xs) = message ∷ calls_of xs
calls_of (Answered reply ∷ xs) = calls_of xs
