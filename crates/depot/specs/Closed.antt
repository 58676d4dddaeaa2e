-- What is left in the slots of a table that ended.
use Rattle.std.specs.Prelude.{ℕ, zero, suc, Bool, true, false, List, Option, None, slice_index_or}
use mathlib.Core.Option as maybe
use lib.ListN.{get_elem?}

abbrev pub value_of : {T : Type 0} → maybe.Option (Option T) → Option T
value_of maybe.none = None
value_of (maybe.some y) = y

abbrev pub if_filled : {T : Type 0} → Bool → Option T → Option T
if_filled true y = y
if_filled false y = None

-- the parcel in slot k, where it wasn't taken yet. Slot 0 is no node's
abbrev pub left_at : {T : Type 0} → List Bool → List (Option T) → ℕ → Option T
left_at filled items zero = None
left_at filled items (suc k) = if_filled (slice_index_or filled (suc k) false) (value_of (get_elem? items (suc k)))
