-- Events under which no call is worked or finished, so that none can disturb another.
use Rattle.nfs_model.specs.Events.Refusals.{Event, Work, Finish}

-- all but Work and Finish
abbrev pub WorksNone : Event → Type 0
WorksNone (Work worker) = ⊥
WorksNone (Finish worker) = ⊥
WorksNone event = Unit {0}
