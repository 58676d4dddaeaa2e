-- Faults of records.
use Rattle.rpc_msg.specs.declared.fault.RecordFault.{RecordFault}
use Rattle.rpc_msg.specs.declared.fault.RecordFault.TheVariants as faults
use Rattle.engine_feed.specs.declared.stop.StreamFault.{StreamFault}
use Rattle.engine_feed.specs.declared.stop.StreamFault.TheVariants.{BadHeader, NotACall}

-- as faults of streams
abbrev pub fault_of : RecordFault → StreamFault
fault_of faults.BadHeader = BadHeader
fault_of faults.NotACall = NotACall
