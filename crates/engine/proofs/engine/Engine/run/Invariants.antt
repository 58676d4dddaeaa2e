use Rattle.std.proofs.Common.{◌≡◌, map, ◌≤◌, take}
use Rattle.engine.specs.Engine.{RunsRefusing}
use Rattle.engine.specs.Seen.{event_of}
use Rattle.engine.specs.Shown.{setup_in, HasHeadline, HasOutcomes, HasHistory}
use Rattle.engine.specs.Promise.{GoesOn}
use Rattle.engine.proofs.engine.Engine.run.Given as goal

abbrev pub invariant-loop-event : goal.invariant-loop-event
invariant-loop-event l =
    RunsRefusing (setup_in l.fn.self) l.fn.self.world (map event_of (take l.event-index l.events)) l.refused l.self.world ×
    (setup_in l.self ≡ setup_in l.fn.self) × (l.refused ≤ l.event-index) × HasHeadline l.self × HasOutcomes l.self × HasHistory l.self ×
    GoesOn l.fn.self (map event_of (take l.event-index l.events)) l.self
