-- The numbers of faults (our profile).
use Rattle.std.specs.Prelude.{ℕ}
use Rattle.server.specs.declared.serve_fault.ServeFault.{ServeFault}
use Rattle.server.specs.declared.serve_fault.ServeFault.TheVariants as faults

abbrev pub serve_fault_number : ServeFault → ℕ
serve_fault_number faults.AcceptFailed = 63
