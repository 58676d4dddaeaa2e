-- Entries in slots, and their order.
use Rattle.std.specs.Prelude.{◌≡◌, ℕ, zero, suc, Bool, true, false, ◌==◌, List, [], ◌∷◌, map, is_some, Option, Some, None, if◌then◌else◌}
use Rattle.std.specs.List.{list_any}
use Rattle.nfs_model.specs.Types.{Listed}
use Rattle.nfs_values.specs.Answer.{entry_of}
use Rattle.nfs_model.specs.volume.Directories.{Rises}
use Rattle.directories.specs.declared.slot.Slot.{Slot}
use Rattle.directories.specs.declared.slot.Slot.TheVariants.{Filled, Vacant}

-- what a slot shows
abbrev pub shown : Slot → Option Listed
shown (Filled e) = Some (entry_of e)
shown (Vacant next) = None

-- the entry in the slot of a number
abbrev pub in_slot : List Slot → ℕ → Option Listed
in_slot [] s = None
in_slot (x ∷ slots) zero = shown x
in_slot (x ∷ slots) (suc s) = in_slot slots s

-- whether a slot has the entry of a cookie
abbrev pub has_cookie : Option Listed → ℕ → Bool
has_cookie None cookie = false
has_cookie (Some e) cookie = e.cookie == cookie

-- a slot has an entry of this name and fileid
abbrev pub IsNamed : Option Listed → List ℕ → ℕ → Type 0
IsNamed None name fileid = ⊥
IsNamed (Some e) name fileid = (e.name ≡ name) × (e.fileid ≡ fileid)

-- a slot as an entry; the cookie of a vacant one is below all others
abbrev pub entry_or_none : Option Listed → Listed
entry_or_none None = record { cookie = 0; name = []; fileid = 0 }
entry_or_none (Some e) = e

-- the entries of these slots
abbrev pub in_order : List Slot → List ℕ → List Listed
in_order slots order = map (λ s. entry_or_none (in_slot slots s)) order

-- whether a slot is one of these
abbrev pub is_one : List ℕ → ℕ → Bool
is_one order slot = list_any (λ s. s == slot) order

-- The entries in an order of slots rise, and it has every slot that is filled.
pub record IsOrdered (slots : List Slot) (order : List ℕ) (next : ℕ) : Type 0 where
  pub rising : Rises 3 (in_order slots order) next
  pub known : (slot : ℕ) → is_some (in_slot slots slot) ≡ true → is_one order slot ≡ true

-- one slot changes
abbrev pub Becomes : ℕ → Option Listed → List Slot → List Slot → Type 0
Becomes slot entry old new = (s : ℕ) → in_slot new s ≡ (if s == slot then entry else in_slot old s)

-- an entry is put into a slot that was vacant
pub record PutInto (slot : ℕ) (entry : Listed) (old : List Slot) (new : List Slot) : Type 0 where
  pub vacant : in_slot old slot ≡ None
  pub filled : Becomes slot (Some entry) old new
