use Rattle.server.proofs.turning.run_calls.Goals as goal

pub returns-then-left-eq0 : goal.returns-then-left-eq0
returns-then-left-eq0 g c = let i = c.loop.invariant in record { filer = i.filer; identity = i.identity; seats = i.seats }
