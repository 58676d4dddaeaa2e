-- Why a call on a desk doesn't begin.
use Rattle.std.specs.Prelude.{ℕ}
use Rattle.nfs_model.specs.Tree.{Affinity}
use Rattle.desk.specs.laws.Books.{Books, IsTaken}
use Rattle.desk.specs.laws.Calls.{IsWorn}
use Rattle.desk.specs.declared.refusal.BeginRefusal.{BeginRefusal}
use Rattle.desk.specs.declared.refusal.BeginRefusal.TheVariants.{Taken, Worn}

-- its number, as scripts print it
abbrev pub refusal_number : BeginRefusal → ℕ
refusal_number Taken = 21
refusal_number Worn = 22

-- when a call on an affinity is refused: what is lent is asked first, and then how many calls were finished
abbrev pub IsRefused : {P C R : Type 0} → Books P C R → Affinity → BeginRefusal → Type 0
IsRefused b a Taken = IsTaken b a
IsRefused b a Worn = IsWorn b a
