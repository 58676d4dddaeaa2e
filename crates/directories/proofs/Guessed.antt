-- What the slot has that an entry is guessed in.
use Rattle.std.proofs.Common.{◌≡◌, refl, sym, subst, ◌∙◌, ap, ℕ, List, Option, Some, None, is_some, IfSome}
use Rattle.std.specs.Option.{option_map}
use Rattle.nfs_model.specs.Types.{Listed}
use Rattle.nfs_model.specs.Names.{find_name}
use Rattle.nfs_model.specs.volume.Directories.{NamesDiffer}
use Rattle.nfs_values.specs.declared.number.Fileid.{Fileid}
use Rattle.directories.specs.declared.slot.Slot.{Slot}
use Rattle.directories.specs.Slots.{in_slot, in_order, IsOrdered, IsNamed}
use Rattle.directories.proofs.Names.{found-under}
use Rattle.directories.proofs.Slots.{under-slot}

-- an entry of a name in a slot is the one that the name finds
slot-found : (slots : List Slot) (order : List ℕ) (next s : ℕ) (name : List ℕ) (fileid : ℕ) → IsOrdered slots order next → NamesDiffer (in_order slots order)
    → IsNamed (in_slot slots s) name fileid → Some fileid ≡ option_map (λ (l : Listed). l.fileid) (find_name name (in_order slots order))
slot-found slots order next s name fileid h d n = by (in_slot slots s) refl n
  where
    by : (o : Option Listed) → o ≡ in_slot slots s → IsNamed o name fileid
        → Some fileid ≡ option_map (λ (l : Listed). l.fileid) (find_name name (in_order slots order))
    by None p m = absurd m
    by (Some e) p m =
        let one = h.known s (ap (λ (o : Option Listed). is_some o) (sym p)) in
        let here = under-slot 3 slots order next s e h.rising one (sym p) in
        let there : find_name name (in_order slots order) ≡ Some e =
        subst (λ (k : List ℕ). find_name k (in_order slots order) ≡ Some e) m.0 (found-under (in_order slots order) e.cookie e d here) in
        ap (λ (k : ℕ). Some k) (sym m.1) ∙ sym (ap (λ (o : Option Listed). option_map (λ (l : Listed). l.fileid) o) there)

pub guess-found : (slots : List Slot) (order : List ℕ) (next s : ℕ) (name : List ℕ) (o : Option Fileid) → IsOrdered slots order next
    → NamesDiffer (in_order slots order) → IfSome o (λ (f : Fileid). IsNamed (in_slot slots s) name f.0)
    → IfSome o (λ (f : Fileid). Some f.0 ≡ option_map (λ (l : Listed). l.fileid) (find_name name (in_order slots order)))
guess-found slots order next s name None h d i = tt
guess-found slots order next s name (Some f) h d i = slot-found slots order next s name f.0 h d i
