use Rattle.std.proofs.Common.{◌∙◌, ap}
use Rattle.turns.specs.declared.worker.Worker.{Worker}
use Rattle.turns.specs.Words.{seats_in}
use Rattle.server.proofs.visits.write.Goals as goal

pub returns-in-All : goal.returns-in-All
returns-in-All g c =
    let i = c.loop.invariant in
    let e = c.write.ensures in
    record { filer = e.filer ∙ i.filer; identity = e.identity ∙ i.identity; seats = ap (λ (w : Worker). seats_in w) e.worker ∙ i.seats }
