-- Hands as the model has them.
use Rattle.std.specs.Prelude.{◌≡◌, refl, ℕ, Bool, true, false, List, Option, Some, None}
use Rattle.std.specs.Coded.{Coded, code_by, coded×, coded_ℕ, coded_bool, coded_list, coded_option}
use Rattle.nfs_model.specs.Parts as parts
use Rattle.parcels.specs.declared.hand.Hand.{Hand}
use Rattle.parcels.specs.declared.hand.Hand.TheVariants.{Empty, Fresh, Dead}

-- a hand, as the model has it
abbrev pub hand_of : Hand (List ℕ) → parts.Hand
hand_of Empty = parts.Empty
hand_of (Fresh volume batch) = parts.Fresh volume batch
hand_of (Dead volume batch) = parts.Dead volume batch

-- ---- the code, which the value of a Model needs: whether it is fresh, the volume and the batch

abbrev pub hand_out : parts.Hand → Option (Bool × (ℕ × List ℕ))
hand_out parts.Empty = None
hand_out (parts.Fresh volume blocks) = Some (true, (volume, blocks))
hand_out (parts.Dead volume blocks) = Some (false, (volume, blocks))

abbrev pub carried_back : Bool → ℕ → List ℕ → parts.Hand
carried_back true volume blocks = parts.Fresh volume blocks
carried_back false volume blocks = parts.Dead volume blocks

abbrev pub hand_back : Option (Bool × (ℕ × List ℕ)) → parts.Hand
hand_back None = parts.Empty
hand_back (Some p) = carried_back p.0 p.1.0 p.1.1

pub hand_again : (h : parts.Hand) → hand_back (hand_out h) ≡ h
hand_again parts.Empty = refl
hand_again (parts.Fresh volume blocks) = refl
hand_again (parts.Dead volume blocks) = refl

abbrev pub coded_hand : Coded parts.Hand
coded_hand = code_by (Option (Bool × (ℕ × List ℕ))) (coded_option (coded× coded_bool (coded× coded_ℕ (coded_list coded_ℕ)))) hand_out hand_back hand_again
