-- Why threads of a filer didn't start.
use Rattle.std.specs.Prelude.{ℕ}
use Rattle.tends.specs.declared.refusal.StartRefusal.{StartRefusal}
use Rattle.tends.specs.declared.refusal.StartRefusal.TheVariants.{NoThread, NoMemory}

-- the number by which a refusal is told
abbrev pub start_refusal_number : StartRefusal → ℕ
start_refusal_number NoThread = 66
start_refusal_number NoMemory = 90
