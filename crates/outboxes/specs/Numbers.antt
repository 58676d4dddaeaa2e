-- The numbers of refusals (our profile).
use Rattle.std.specs.Prelude.{ℕ}
use Rattle.outboxes.specs.declared.refusal.OpenRefusal.{OpenRefusal}
use Rattle.outboxes.specs.declared.refusal.OpenRefusal.TheVariants.{Full, NoMemory}

abbrev pub refusal_number : OpenRefusal → ℕ
refusal_number Full = 31
refusal_number NoMemory = 90
