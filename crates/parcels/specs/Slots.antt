-- What is found by the number of a node, in one slot or in several.
use Rattle.std.specs.Prelude.{ℕ, zero, suc, ◌==◌, Bool, List, Option, Some, None, slice_get, if◌then◌else◌}

-- one parcel, which is at one node
unfoldable pub alone : {T : Type 0} → ℕ → T → ℕ → Option T
alone node parcel k = if k == node then Some parcel else None

-- what the first has, and else what the second has
abbrev pub or_else : {T : Type 0} → Option T → Option T → Option T
or_else None other = other
or_else (Some parcel) other = Some parcel

-- what a slot has, where something is in it
abbrev pub in_slot : {H T : Type 0} → (H → Option T) → Option (Option H) → Option T
in_slot f None = None
in_slot f (Some None) = None
in_slot f (Some (Some held)) = f held

abbrev pub in_used_place : {H T : Type 0} → (ℕ → Bool) → (ℕ → H → Option T) → List (Option H) → ℕ → Option T
in_used_place is_used f slots i = if is_used i then in_slot (f i) (slice_get slots i) else None

-- what the first n slots have, of those that are in use
unfoldable pub in_places : {H T : Type 0} → (ℕ → Bool) → (ℕ → H → Option T) → List (Option H) → ℕ → Option T
in_places is_used f slots zero = None
in_places is_used f slots (suc n) = or_else (in_places is_used f slots n) (in_used_place is_used f slots n)
