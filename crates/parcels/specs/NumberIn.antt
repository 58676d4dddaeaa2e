-- The number that a parcel is, where each is one.
use Rattle.std.specs.Prelude.{ℕ}
use Rattle.parcels.specs.declared.family.Parcel.{Parcel}
use Rattle.parcels.specs.declared.family.Parcel.TheVariants.{Range, Vbn, Stripe, Logical, Volume, Aggregate, Serial}

abbrev pub number_in : {P : Type 0} → Parcel P ℕ ℕ ℕ ℕ ℕ ℕ ℕ → ℕ
number_in (Range n) = n
number_in (Vbn n) = n
number_in (Stripe n) = n
number_in (Logical n) = n
number_in (Volume n) = n
number_in (Aggregate n) = n
number_in (Serial n) = n
