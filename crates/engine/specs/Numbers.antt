-- The numbers by which refusals are told (our profile).
use Rattle.std.specs.Prelude.{ℕ}
use Rattle.engine.specs.declared.event.Refusal.{Refusal}
use Rattle.engine.specs.declared.event.Refusal.TheVariants.{Busy, Worn, Full, NoSuchCall, WorkerBusy, NoWork, NotWorked, Closed, BadMoment, NoSuchRange}
use Rattle.engine.specs.declared.event.Refusal.TheVariants.{NoMemory}

abbrev pub refusal_number : Refusal → ℕ
refusal_number Busy = 21
refusal_number Worn = 22
refusal_number Full = 31
refusal_number NoSuchCall = 32
refusal_number WorkerBusy = 33
refusal_number NoWork = 34
refusal_number NotWorked = 35
refusal_number Closed = 36
refusal_number BadMoment = 37
refusal_number NoSuchRange = 41
refusal_number NoMemory = 90
