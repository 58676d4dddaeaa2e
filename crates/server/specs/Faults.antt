-- What ends a server (our profile).
use Rattle.tends.specs.declared.refusal.StartRefusal.{StartRefusal}
use Rattle.tends.specs.declared.refusal.StartRefusal.TheVariants as start
use Rattle.server.specs.declared.fault.ServerFault.{ServerFault}
use Rattle.server.specs.declared.fault.ServerFault.TheVariants as faults
use Rattle.server.specs.declared.serve_fault.ServeFault.{ServeFault}
use Rattle.server.specs.declared.serve_fault.ServeFault.TheVariants as serving

abbrev pub fault_of_start : StartRefusal → ServerFault
fault_of_start start.NoThread = faults.Thread
fault_of_start start.NoMemory = faults.NoMemory

-- a listener that fails
abbrev pub fault_of_serving : ServeFault → ServerFault
fault_of_serving serving.AcceptFailed = faults.Accept
