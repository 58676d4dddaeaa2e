-- The numbers by which the ends of loops are told (our profile).
use Rattle.std.specs.Prelude.{ℕ}
use Rattle.engine_feed.specs.Numbers.{fault_number}
use Rattle.tcp_front.specs.declared.read_end.ReadEnd.{ReadEnd}
use Rattle.tcp_front.specs.declared.read_end.ReadEnd.TheVariants as ends

abbrev pub end_number : ReadEnd → ℕ
end_number ends.End = 0
end_number (ends.Fault fault) = fault_number fault
end_number ends.ReaderFailed = 64
end_number ends.NoMemory = 90
end_number ends.NumbersUsed = 22
