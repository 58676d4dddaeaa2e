use Rattle.depot.specs.Words.{view}
use Rattle.depot_rows.proofs.Rejoined.{rejoined-none}
use Rattle.depot_rows.proofs.trial.close_joined.Goals as goal

pub close-held-requires-clause-none_open : goal.close-held-requires-clause-none_open
close-held-requires-clause-none_open g c =
    rejoined-none _ _ _ (view c.in-Ok.seat) (view c.in-Ok-split_seat.one) (view c.in-Ok-split_seat.other) (view c.join_seat-seat.result)
    c.in-Ok.ensures.made.1 c.in-Ok-split_seat.ensures.split.1 c.in-Ok-split_seat.ensures.split.2 c.join_seat-seat.ensures.joined
