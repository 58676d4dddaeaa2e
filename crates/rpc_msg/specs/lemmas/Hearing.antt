-- By which faults records are none, and that what they ask is decoded.
use Rattle.std.proofs.Common.{◌≡◌, ℕ, true, false, cond, eqb, List, Result, Ok, Err, ◌⊎◌, refl, subst, inl, inr}
use Rattle.xdr.specs.declared.fault.Fault.{Fault as Unread}
use Rattle.xdr.specs.Shape.{Word}
use Rattle.xdr.specs.Reading.{Reads, read}
use Rattle.nfs_model.specs.Types as model
use Rattle.nfs_model.specs.World.{Heard, IsDecoded}
use Rattle.rpc_msg.specs.declared.handle_form.HandleForm.{HandleForm}
use Rattle.rpc_msg.specs.declared.offer.Offer.{Offer}
use Rattle.rpc_msg.specs.Offer.{form_of}
use Rattle.nfs_types.specs.Arguments.{asked}
use Rattle.nfs_types.specs.Shapes.{◌&◌}
use Rattle.rpc_msg.specs.Heads.{Stop, Incomplete, Refuse, Body, Head, Call, Refused, Faulty, xid_of, body_by, under, head_from, head_by}
use Rattle.rpc_msg.specs.Records.{asked_by, caller_by, heard_from, heard_by}

-- ---- faults

-- a head's fault is 12 or 13
abbrev FaultIs : Head → Type 0
FaultIs (Call xid procedure credential arguments) = Unit {0}
FaultIs (Refused xid reply) = Unit {0}
FaultIs (Faulty number) = (number ≡ 12) ⊎ (number ≡ 13)

under_fault : (xid : ℕ) (r : Result Body Stop) → FaultIs (under xid r)
under_fault xid (Ok body) = tt
under_fault xid (Err (Refuse reply)) = tt
under_fault xid (Err Incomplete) = inl refl

xid_fault : (offer : Offer) (r : Reads (ℕ × ℕ)) → FaultIs (head_from offer (xid_of r))
xid_fault offer (Ok m) = elim (eqb m.0.1 0) as (λ b. FaultIs (head_from offer (cond b (Ok (m.0.0, m.1)) (Err 13)))) [
  | true ↦ under_fault m.0.0 (body_by offer m.1)
  | false ↦ inr refl
]
xid_fault offer (Err fault) = inl refl

heard_fault : (form : HandleForm) (head : Head) → FaultIs head → (number : ℕ) → heard_from form head ≡ Err number → (number ≡ 12) ⊎ (number ≡ 13)
heard_fault form (Call xid procedure credential arguments) f number e = absurd cc
heard_fault form (Refused xid reply) f number e = absurd cc
heard_fault form (Faulty n) f number e =
    let same : n ≡ number = cc in
    subst (λ (m : ℕ). (m ≡ 12) ⊎ (m ≡ 13)) same f

pub fault_of_record : (offer : Offer) (bytes : List ℕ) (number : ℕ) → heard_by offer bytes ≡ Err number → (number ≡ 12) ⊎ (number ≡ 13)
fault_of_record offer bytes = heard_fault (form_of offer) (head_by offer bytes) (xid_fault offer (read (Word & Word) bytes))

-- ---- what is asked

asks_decoded : (form : HandleForm) (caller : model.Caller) (r : Result model.Call Unread) → IsDecoded (asked_by form caller r)
asks_decoded form caller (Ok call) = tt
asks_decoded form caller (Err fault) = tt

-- what holds of what is asked, where it is told
abbrev pub told : Heard → Result Heard ℕ
told h = Ok h

pub same_heard : (P : model.Asked → Type 0) (made h : Heard) → told made ≡ Ok h → P made.asked → P h.asked
same_heard P made h e p =
    let same : made ≡ h = cc in
    subst (λ (h : Heard). P h.asked) same p

decoded : (form : HandleForm) (head : Head) (h : Heard) → heard_from form head ≡ Ok h → IsDecoded h.asked
decoded form (Call xid procedure credential arguments) h e =
    same_heard IsDecoded _ h e (asks_decoded form (caller_by xid credential) (asked procedure arguments))
decoded form (Refused xid reply) h e = same_heard IsDecoded _ h e tt
decoded form (Faulty number) h e = absurd cc

pub record_is_decoded : (offer : Offer) (bytes : List ℕ) (h : Heard) → heard_by offer bytes ≡ Ok h → IsDecoded h.asked
record_is_decoded offer bytes = decoded (form_of offer) (head_by offer bytes)
