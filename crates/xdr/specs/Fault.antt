-- Numbers of faults (our profile).
use Rattle.std.specs.Prelude.{ℕ}
use Rattle.xdr.specs.declared.fault.Fault.{Fault}
use Rattle.xdr.specs.declared.fault.Fault.TheVariants.{Short, BadBool, BadEnum, BadPad, TooLong, LeftOver}

abbrev pub fault_number : Fault → ℕ
fault_number Short = 1
fault_number BadBool = 2
fault_number BadEnum = 3
fault_number BadPad = 4
fault_number TooLong = 5
fault_number LeftOver = 6
