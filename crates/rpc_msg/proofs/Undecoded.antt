-- Calls that there was no memory for.
use Rattle.std.proofs.Common.{◌≡◌, ℕ, Bool, true, false, List, [], ◌∷◌, length, Option, Some, None, Result, Ok, refl, sym, ap, subst, ◌∙◌}
use Rattle.std.specs.Prelude.{◌||◌, not, nat_lt, if◌then◌else◌}
use Rattle.xdr.specs.declared.fault.Fault.{Fault as Unread}
use Rattle.xdr.specs.Shape.{Value}
use Rattle.xdr.specs.Reading.{all_of}
use Rattle.xdr.specs.lemmas.Steps.{bind_ok, ok_is}
use Rattle.nfs_model.specs.Types as model
use Rattle.nfs_model.specs.Serial.Mount.{most_path, is_absolute, parts, volume_named, mnt_by, mnt_of_parts}
use Rattle.nfs_model.specs.Serial.Starve.{has_bytes}
use Rattle.nfs_values.specs.Call.{call_with}
use Rattle.rpc_msg.specs.HandleForm.{heard_in_run}
use Rattle.rpc_msg.specs.Handles.{call_heard}
use Rattle.rpc_msg.specs.declared.handle_form.HandleForm.{HandleForm}
use Rattle.rpc_msg.specs.declared.handle_form.HandleForm.TheVariants.{Plain, OfRun}
use Rattle.nfs_values.specs.declared.procedure.Procedure.{Procedure}
use Rattle.nfs_values.specs.declared.procedure.Procedure.TheVariants.{Null, Mount}
use Rattle.nfs_types.specs.Arguments.{arguments_shape, call_from, asked, takes_memory}
use Rattle.nfs_types.specs.lemmas.Exact.{asked_is}
use Rattle.rpc_msg.specs.declared.record.Request.TheVariants as requests
use Rattle.rpc_msg.specs.Heads.{Call}
use Rattle.rpc_msg.specs.Records.{asked_by, caller_by, heard_from}
use Rattle.rpc_msg.specs.Seen.{IsRequestOf}

-- a MNT has its path
bytes_by : (path : List ℕ) (others : List (List ℕ)) (volume : Option ℕ) → has_bytes (mnt_by path others volume) ≡ true
bytes_by path others None = refl
bytes_by path [] (Some volume) = refl
bytes_by path (other ∷ others) (Some volume) = refl

bytes_of_parts : (path : List ℕ) (parts : List (List ℕ)) → has_bytes (mnt_of_parts path parts) ≡ true
bytes_of_parts path [] = refl
bytes_of_parts path (part ∷ others) = bytes_by path others (volume_named 10 part)

bytes_if : (path : List ℕ) (b : Bool) → has_bytes (if b then model.Mount (model.Mnt path) else mnt_of_parts path (parts path)) ≡ true
bytes_if path true = refl
bytes_if path false = bytes_of_parts path (parts path)

-- a procedure takes memory just for a call with a name or data
bytes_from : (procedure : Procedure) (v : Value (arguments_shape procedure)) → has_bytes (call_from procedure v) ≡ takes_memory procedure
bytes_from Null v = refl
bytes_from Mount path = bytes_if path (nat_lt most_path (length path) || not (is_absolute path))
bytes_from procedure v = refl

asked_has_bytes : (procedure : Procedure) (bytes : List ℕ) (call : model.Call) → asked procedure bytes ≡ Ok call → has_bytes call ≡ takes_memory procedure
asked_has_bytes procedure bytes call e =
    let p = bind_ok (all_of (arguments_shape procedure) bytes) (λ v. Ok (call_from procedure v)) call (sym (asked_is procedure bytes) ∙ e) in
    subst (λ (c : model.Call). has_bytes c ≡ takes_memory procedure) (ok_is (call_from procedure p.0) call p.2) (bytes_from procedure p.0)

-- other handles leave a call its name or data
bytes_with : (f : List ℕ → List ℕ) (call : model.Call) → has_bytes (call_with f call) ≡ has_bytes call
bytes_with f (model.Mount (model.Mnt path)) = refl
bytes_with f call = refl

bytes_heard : (form : HandleForm) (call : model.Call) → has_bytes (call_heard form call) ≡ has_bytes call
bytes_heard Plain call = refl
bytes_heard (OfRun run) call = bytes_with (heard_in_run run) call

pub undecoded_by : (form : HandleForm) (xid : ℕ) (procedure : Procedure) (who : model.Credential) (arguments : List ℕ)
    → (takes_memory procedure ≡ true) × ((call : model.Call) × (asked procedure arguments ≡ Ok call))
    → IsRequestOf xid requests.Undecoded (heard_from form (Call xid procedure who arguments))
undecoded_by form xid procedure who arguments m = (
  call_heard form m.1.0,
  (
    caller_by xid who,
    bytes_heard form m.1.0 ∙ asked_has_bytes procedure arguments m.1.0 m.1.1 ∙ m.0,
    ap (λ (r : Result model.Call Unread). Ok (record { xid = xid; asked = asked_by form (caller_by xid who) r })) m.1.1,
  ),
)

pub undecoded : (xid : ℕ) (procedure : Procedure) (who : model.Credential) (arguments : List ℕ)
    → (takes_memory procedure ≡ true) × ((call : model.Call) × (asked procedure arguments ≡ Ok call))
    → IsRequestOf xid requests.Undecoded (heard_from Plain (Call xid procedure who arguments))
undecoded = undecoded_by Plain
