-- What a server hears of a call.
use Rattle.std.proofs.Common.{◌≡◌, ℕ, ◌^◌, ◌<◌, Bool, true, ◌&&◌, eqb, List, [], Some, Ok, refl, ap, ◌∙◌, arith, inl, inr}
use Rattle.std.proofs.lemmas.List.Folds.{list_any_at}
use Rattle.xdr.specs.Shape.{Fits, spelling}
use Rattle.nfs_model.specs.Types as model
use Rattle.nfs_model.specs.World.{Heard}
use Rattle.nfs_values.specs.declared.procedure.Procedure.{Procedure}
use Rattle.nfs_values.specs.declared.procedure.Procedure.TheVariants as procedures
use Rattle.nfs_values.specs.Procedure.{all_procedures, numbers_of}
use Rattle.nfs_types.specs.Arguments.{asked, growing_shape}
use Rattle.nfs_types.specs.lemmas.Exact.{asked_again}
use Rattle.rpc_msg.specs.declared.handle_form.HandleForm.{HandleForm}
use Rattle.rpc_msg.specs.declared.handle_form.HandleForm.TheVariants.{Plain, OfRun}
use Rattle.rpc_msg.specs.declared.offer.Offer.{Offer}
use Rattle.rpc_msg.specs.Offer.{form_of, offers, offers_program}
use Rattle.rpc_msg.specs.Replies.{auth_shape, no_verifier}
use Rattle.rpc_msg.specs.Heads.{Call, auth_sys_shape, head_by, version_by}
use Rattle.rpc_msg.specs.Calls.{ActsFor, IsCallBy, call_shape, call_value}
use Rattle.rpc_msg.specs.Handles.{call_heard}
use Rattle.rpc_msg.specs.Records.{caller_by, heard_from}
use Rattle.rpc_msg.specs.Hearing.{AsksForBy}
use Rattle.admin_client.specs.declared.call.AdminCall.{AdminCall}
use Rattle.admin_client.specs.declared.call.AdminCall.TheVariants.{Census, Grow, Stop}
use Rattle.admin_client.specs.declared.call.AdminUser.{AdminUser}
use Rattle.admin_client.specs.declared.call.AdminUser.TheVariants.{Nobody, Of}
use Rattle.admin_client.specs.Asking.{acting_for, arguments_of, call_bytes, credential_of, model_call, procedure_of, user_value, CallFits, UserFits}

-- that a call's spelling is found again, as `rpc_msg` has it
abbrev pub FoundAgain : Type 0
FoundAgain = (offer : Offer) (bytes : List ℕ) (xid : ℕ) (procedure : Procedure) (who : model.Credential) (arguments : List ℕ)
    → IsCallBy offer bytes xid procedure who arguments → head_by offer bytes ≡ Call xid procedure who arguments

-- the program is offered where one of its procedures is
census_offered : (offer : Offer) → offers offer procedures.Census ≡ true → version_by offer 536870913 ≡ Some 1
census_offered offer e =
    let test : Procedure → Bool = λ p. offers offer p && eqb (numbers_of p).0 536870913 in
    let one : offers_program offer 536870913 ≡ true = list_any_at test all_procedures 29 procedures.Census (omega arith) (rw e refl) in
    rw one refl

grow_offered : (offer : Offer) → offers offer procedures.Grow ≡ true → version_by offer 536870913 ≡ Some 1
grow_offered offer e =
    let test : Procedure → Bool = λ p. offers offer p && eqb (numbers_of p).0 536870913 in
    let one : offers_program offer 536870913 ≡ true = list_any_at test all_procedures 30 procedures.Grow (omega arith) (rw e refl) in
    rw one refl

stop_offered : (offer : Offer) → offers offer procedures.Stop ≡ true → version_by offer 536870913 ≡ Some 1
stop_offered offer e =
    let test : Procedure → Bool = λ p. offers offer p && eqb (numbers_of p).0 536870913 in
    let one : offers_program offer 536870913 ≡ true = list_any_at test all_procedures 31 procedures.Stop (omega arith) (rw e refl) in
    rw one refl

verifier_fits : Fits auth_shape no_verifier
verifier_fits = (omega arith, (omega arith, omega arith))

-- its body has 20 bytes
user_fits : (uid gid : ℕ) → uid < 2 ^ 32 → gid < 2 ^ 32 → Fits auth_sys_shape (user_value uid gid)
user_fits uid gid u g = (omega arith, ((omega arith, omega arith), (u, (g, (omega arith, omega arith, tt)))))

credential_fits : (user : AdminUser) → Fits auth_shape (credential_of user)
credential_fits Nobody = verifier_fits
credential_fits (Of uid gid) = (omega arith, (omega arith, omega arith))

acts : (user : AdminUser) → UserFits user → ActsFor (credential_of user) (acting_for user)
acts Nobody fits = inl (refl, refl)
acts (Of uid gid) fits = inr (refl, (user_value uid gid, (user_fits uid gid fits.0 fits.1, refl), refl))

call_fits : (xid number : ℕ) (user : AdminUser) → xid < 2 ^ 32 → number < 4
    → Fits call_shape (call_value xid (536870913, number) 1 (credential_of user) no_verifier)
call_fits xid number user small few =
    (small, (omega arith, (omega arith, (omega arith, (omega arith, (omega arith, (credential_fits user, verifier_fits)))))))

-- it is spelled as a call that is offered
is_call : (offer : Offer) (xid : ℕ) (user : AdminUser) (call : AdminCall) → xid < 2 ^ 32 → UserFits user → offers offer (procedure_of call) ≡ true
    → IsCallBy offer (call_bytes xid user call) xid (procedure_of call) (acting_for user) (arguments_of call)
is_call offer xid user Census small own e = record {
  version = 1;
  cred = credential_of user;
  verf = no_verifier;
  offered = e;
  version_is = census_offered offer e;
  acts_for = acts user own;
  fits = call_fits xid 1 user small (omega arith);
  bytes_are = refl;
}
is_call offer xid user (Grow volume ranges) small own e = record {
  version = 1;
  cred = credential_of user;
  verf = no_verifier;
  offered = e;
  version_is = grow_offered offer e;
  acts_for = acts user own;
  fits = call_fits xid 2 user small (omega arith);
  bytes_are = refl;
}
is_call offer xid user Stop small own e = record {
  version = 1;
  cred = credential_of user;
  verf = no_verifier;
  offered = e;
  version_is = stop_offered offer e;
  acts_for = acts user own;
  fits = call_fits xid 3 user small (omega arith);
  bytes_are = refl;
}

arguments_asked : (call : AdminCall) → CallFits call → asked (procedure_of call) (arguments_of call) ≡ Ok (model_call call)
arguments_asked Census fits = asked_again procedures.Census [] model.Census (tt, (tt, refl), refl)
arguments_asked (Grow volume ranges) fits =
    asked_again procedures.Grow (spelling growing_shape (volume.0, ranges)) (model.Grow volume.0 ranges) ((volume.0, ranges), (fits, refl), refl)
arguments_asked Stop fits = asked_again procedures.Stop [] model.Stop (tt, (tt, refl), refl)

-- it has no handle
call_same : (form : HandleForm) (call : AdminCall) → call_heard form (model_call call) ≡ model_call call
call_same Plain call = refl
call_same (OfRun run) Census = refl
call_same (OfRun run) (Grow volume ranges) = refl
call_same (OfRun run) Stop = refl

abbrev heard_as : ℕ → AdminUser → model.Call → Heard
heard_as xid user call = record { xid = xid; asked = model.Ask call (caller_by xid (acting_for user)) }

pub call_is_heard : FoundAgain → (offer : Offer) (xid : ℕ) (user : AdminUser) (call : AdminCall) → xid < 2 ^ 32 → UserFits user → CallFits call
    → offers offer (procedure_of call) ≡ true
    → AsksForBy offer (call_bytes xid user call) xid (model_call call) (caller_by xid (acting_for user))
call_is_heard again offer xid user call small own fits e =
    ap (heard_from (form_of offer)) (again offer (call_bytes xid user call) xid (procedure_of call) (acting_for user) (arguments_of call)
    (is_call offer xid user call small own e))
    ∙ rw (arguments_asked call fits) (ap (λ (c : model.Call). Ok (heard_as xid user c)) (call_same (form_of offer) call))
