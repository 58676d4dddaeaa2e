-- What is in a place.
use Rattle.std.proofs.Common.{◌≡◌, ◌<◌, ℕ, zero, suc, List, [], ◌∷◌, length, Option, refl, arith}
use Rattle.std.specs.Prelude.{slice_index_or}
use Rattle.filer_state.specs.state.Sets.{placed}

-- a place that there is, as code finds it
pub placed-index : {H : Type 0} (places : List (Option H)) (i : ℕ) (d : Option H) → i < length places → slice_index_or places i d ≡ placed places i
placed-index [] i d less = absurd (omega arith)
placed-index (x ∷ xs) zero d less = refl
placed-index (x ∷ xs) (suc i) d less = placed-index xs i d (omega arith)
