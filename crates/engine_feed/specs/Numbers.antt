-- The numbers by which faults and stops are told (our profile).
use Rattle.std.specs.Prelude.{ℕ}
use Rattle.engine_feed.specs.declared.stop.StreamFault.{StreamFault}
use Rattle.engine_feed.specs.declared.stop.StreamFault.TheVariants.{RecordTooLong, BadHeader, NotACall}
use Rattle.engine_feed.specs.declared.stop.Stop.{Stop}
use Rattle.engine_feed.specs.declared.stop.Stop.TheVariants as stops

abbrev pub fault_number : StreamFault → ℕ
fault_number RecordTooLong = 11
fault_number BadHeader = 12
fault_number NotACall = 13

abbrev pub stop_number : Stop → ℕ
stop_number stops.AllTaken = 0
stop_number stops.Full = 31
stop_number (stops.Fault fault) = fault_number fault
stop_number stops.NoMemory = 90
