-- Replies that refuse a record aren't SUCCESS, and their records are short.
use Rattle.std.proofs.Common.{◌≡◌, ℕ, Bool, true, false, cond, eqb, ltb, ◌≤◌, length, arith, List, Option, Some, None, Result, Ok, Err, find, refl, subst}
use Rattle.xdr.specs.declared.fault.Fault.{Fault as Unread}
use Rattle.xdr.specs.declared.fault.Fault.TheVariants as unreads
use Rattle.xdr.specs.Shape.{Word, Fixed, Value}
use Rattle.xdr.specs.Reading.{Reads, read, all_of}
use Rattle.nfs_model.specs.Types as model
use Rattle.nfs_model.specs.World.{Heard}
use Rattle.rpc_msg.specs.declared.handle_form.HandleForm.{HandleForm}
use Rattle.rpc_msg.specs.declared.handle_form.HandleForm.TheVariants.{Plain, OfRun}
use Rattle.rpc_msg.specs.declared.offer.Offer.{Offer}
use Rattle.rpc_msg.specs.Offer.{form_of}
use Rattle.nfs_values.specs.declared.procedure.Procedure.{Procedure}
use Rattle.nfs_values.specs.declared.reply.Refusal.{Refusal}
use Rattle.nfs_values.specs.declared.reply.Refusal.TheVariants as refusals
use Rattle.nfs_values.specs.Reply.{refusal_of}
use Rattle.nfs_types.specs.Arguments.{asked}
use Rattle.nfs_types.specs.Shapes.{◌&◌}
use Rattle.rpc_msg.specs.Replies.{auth_shape, reply_record, IsRefusal}
use Rattle.rpc_msg.specs.Heads.{◌>>=◌, Stop, Incomplete, Refuse, Body, Head, Call, Refused, Faulty, whole, version_at, numbers_shape, auth_sys_shape, body_of}
use Rattle.rpc_msg.specs.Heads.{user_of, acting, credential_at, version_by, procedures_by, is_numbered, available, of_version, procedure_by, body_by, under}
use Rattle.rpc_msg.specs.Heads.{xid_of, head_from, head_by}
use Rattle.rpc_msg.specs.Handles.{reply_told}
use Rattle.rpc_msg.specs.Room.{refusal_room}
use Rattle.rpc_msg.specs.Records.{asked_by, caller_by, heard_from, heard_by}
use Rattle.rpc_msg.specs.lemmas.Hearing.{same_heard}

-- where a call isn't offered, the reply refuses it
abbrev StopsByRefusal : {A : Type 0} → Result A Stop → Type 0
StopsByRefusal (Ok x) = Unit {0}
StopsByRefusal (Err Incomplete) = Unit {0}
StopsByRefusal (Err (Refuse reply)) = IsRefusal reply

then_sound : {A B : Type 0} (r : Result A Stop) (f : A → Result B Stop) → StopsByRefusal r → ((x : A) → StopsByRefusal (f x)) → StopsByRefusal (r >>= f)
then_sound (Ok x) f s t = t x
then_sound (Err Incomplete) f s t = tt
then_sound (Err (Refuse reply)) f s t = s

if_sound : {A : Type 0} (b : Bool) (r s : Result A Stop) → StopsByRefusal r → StopsByRefusal s → StopsByRefusal (cond b r s)
if_sound true r s x y = x
if_sound false r s x y = y

whole_sound : {A : Type 0} (r : Reads A) → StopsByRefusal (whole r)
whole_sound (Ok x) = tt
whole_sound (Err fault) = tt

body_sound : (r : Reads (List ℕ)) → StopsByRefusal (body_of r)
body_sound (Ok x) = tt
body_sound (Err unreads.Short) = tt
body_sound (Err fault) = tt

user_sound : (r : Result (Value auth_sys_shape) Unread) → StopsByRefusal (user_of r)
user_sound (Ok v) = tt
user_sound (Err fault) = tt

available_sound : (procedure : Option Procedure) → StopsByRefusal (available procedure)
available_sound (Some procedure) = tt
available_sound None = tt

of_version_sound : (offered : Option ℕ) (version : ℕ) (procedure : Option Procedure) → StopsByRefusal (of_version offered version procedure)
of_version_sound None version procedure = tt
of_version_sound (Some offered) version procedure = if_sound (eqb version offered) _ _ (available_sound procedure) tt

acting_sound : (flavor : ℕ) (body : List ℕ) → StopsByRefusal (acting flavor body)
acting_sound flavor body = if_sound (eqb flavor 0) _ _ tt (user_sound (all_of auth_sys_shape body))

credential_sound : (flavor size : ℕ) (bytes : List ℕ) → StopsByRefusal (credential_at flavor size bytes)
credential_sound flavor size bytes =
    if_sound (ltb 1 flavor) _ _ tt
    (if_sound (ltb 400 size) _ _ tt
    (then_sound (body_of (read (Fixed size) bytes)) _ (body_sound (read (Fixed size) bytes))
    (λ b. then_sound (acting flavor b.0) _ (acting_sound flavor b.0) (λ c. tt))))

version_sound : (bytes : List ℕ) → StopsByRefusal (version_at bytes)
version_sound bytes = then_sound (whole (read Word bytes)) _ (whole_sound (read Word bytes)) (λ v. if_sound (eqb v.0 2) _ _ tt tt)

call_sound : (offer : Offer) (bytes : List ℕ) → StopsByRefusal (body_by offer bytes)
call_sound offer bytes =
    then_sound (version_at bytes) _ (version_sound bytes) (λ rest.
    then_sound (whole (read numbers_shape rest)) _ (whole_sound (read numbers_shape rest)) (λ n.
    then_sound (credential_at n.0.1.1.1.0 n.0.1.1.1.1 n.1) _ (credential_sound n.0.1.1.1.0 n.0.1.1.1.1 n.1) (λ c.
    then_sound (whole (read auth_shape c.1)) _ (whole_sound (read auth_shape c.1)) (λ v.
    then_sound (procedure_by offer n.0.0 n.0.1.0 n.0.1.1.0) _ (of_version_sound (version_by offer n.0.0) n.0.1.0 (find (is_numbered n.0.0 n.0.1.1.0)
    (procedures_by offer)))
    (λ p. tt)))))

-- ---- the head and the record

abbrev HeadIsSound : Head → Type 0
HeadIsSound (Call xid procedure credential arguments) = Unit {0}
HeadIsSound (Refused xid reply) = IsRefusal reply
HeadIsSound (Faulty number) = Unit {0}

under_sound : (xid : ℕ) (r : Result Body Stop) → StopsByRefusal r → HeadIsSound (under xid r)
under_sound xid (Ok body) s = tt
under_sound xid (Err Incomplete) s = tt
under_sound xid (Err (Refuse reply)) s = s

head_sound : (offer : Offer) (r : Reads (ℕ × ℕ)) → HeadIsSound (head_from offer (xid_of r))
head_sound offer (Ok m) = elim (eqb m.0.1 0) as (λ b. HeadIsSound (head_from offer (cond b (Ok (m.0.0, m.1)) (Err 13)))) [
  | true ↦ under_sound m.0.0 (body_by offer m.1) (call_sound offer m.1)
  | false ↦ tt
]
head_sound offer (Err fault) = tt

-- a reply that is asked to be given refuses
abbrev AskedRefuses : model.Asked → Type 0
AskedRefuses (model.Ask call caller) = Unit {0}
AskedRefuses (model.Refused reply) = IsRefusal reply
AskedRefuses model.Undecoded = Unit {0}

asked_refuses : (form : HandleForm) (caller : model.Caller) (r : Result model.Call Unread) → AskedRefuses (asked_by form caller r)
asked_refuses form caller (Ok call) = tt
asked_refuses form caller (Err fault) = tt

heard_refuses : (form : HandleForm) (head : Head) (h : Heard) → HeadIsSound head → heard_from form head ≡ Ok h → AskedRefuses h.asked
heard_refuses form (Call xid procedure credential arguments) h s e =
    same_heard AskedRefuses _ h e (asked_refuses form (caller_by xid credential) (asked procedure arguments))
heard_refuses form (Refused xid reply) h s e = same_heard AskedRefuses _ h e s
heard_refuses form (Faulty number) h s e = absurd cc

pub refusal_refuses : (offer : Offer) (bytes : List ℕ) (h : Heard) (reply : model.Reply) → heard_by offer bytes ≡ Ok h
    → h.asked ≡ model.Refused reply → IsRefusal reply
refusal_refuses offer bytes h reply e r =
    subst AskedRefuses r (heard_refuses (form_of offer) (head_by offer bytes) h (head_sound offer (read (Word & Word) bytes)) e)

pub refusal_fits : (reply : model.Reply) (xid : ℕ) → IsRefusal reply → length (reply_record xid reply) ≤ refusal_room
refusal_fits (model.Success answer) xid r = absurd r
refusal_fits model.ProgramUnavailable xid r = omega arith
refusal_fits (model.ProgramMismatch low high) xid r = omega arith
refusal_fits model.ProcedureUnavailable xid r = omega arith
refusal_fits model.GarbageArguments xid r = omega arith
refusal_fits model.SystemError xid r = omega arith
refusal_fits (model.RpcMismatch low high) xid r = omega arith
refusal_fits (model.AuthError number) xid r = omega arith

-- a reply that gives no results is no SUCCESS
pub refusal_is : (r : Refusal) → IsRefusal (refusal_of r)
refusal_is refusals.ProgramUnavailable = tt
refusal_is (refusals.ProgramMismatch low high) = tt
refusal_is refusals.ProcedureUnavailable = tt
refusal_is refusals.GarbageArguments = tt
refusal_is refusals.SystemError = tt
refusal_is (refusals.RpcMismatch low high) = tt
refusal_is (refusals.AuthError fault) = tt

-- it has no handles
pub refusal_told : (form : HandleForm) (reply : model.Reply) → IsRefusal reply → reply_told form reply ≡ reply
refusal_told Plain reply r = refl
refusal_told (OfRun run) (model.Success answer) r = absurd r
refusal_told (OfRun run) reply r = refl
