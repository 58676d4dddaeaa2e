-- Why a range refuses.
use Rattle.std.specs.Prelude.{ℕ}
use Rattle.vbn_ranges.specs.declared.fault.RangeFault.{RangeFault}
use Rattle.vbn_ranges.specs.declared.fault.RangeFault.TheVariants.{NoSuchRange, NotHeld}

-- the number by which a refusal is told
abbrev pub fault_number : RangeFault → ℕ
fault_number NoSuchRange = 41
fault_number NotHeld = 42
