-- Which record is a fault, and which one, doesn't hang on what is offered.
use Rattle.std.proofs.Common.{◌≡◌, ℕ, Bool, true, false, List, Option, Some, None, Result, Ok, Err, refl, sym, ◌∙◌}
use Rattle.std.specs.Prelude.{◌==◌, find, if◌then◌else◌}
use Rattle.xdr.specs.Shape.{Value}
use Rattle.xdr.specs.Reading.{read}
use Rattle.nfs_model.specs.Types as model
use Rattle.nfs_model.specs.World.{Heard}
use Rattle.rpc_msg.specs.declared.offer.Offer.{Offer}
use Rattle.nfs_values.specs.declared.procedure.Procedure.{Procedure}
use Rattle.rpc_msg.specs.Heads.{Stop, Incomplete, Refuse, Body, ◌>>=◌, whole, version_at, numbers_shape, credential_at, available, of_version}
use Rattle.rpc_msg.specs.Heads.{procedure_by, version_by, procedures_by, is_numbered, body_by, under, head_from, xid_at}
use Rattle.rpc_msg.specs.Offer.{form_of}
use Rattle.rpc_msg.specs.Records.{heard_from, heard_by}
use Rattle.rpc_msg.specs.Replies.{auth_shape}

-- the fault that a record is
abbrev pub fault_in : Result Heard ℕ → Option ℕ
fault_in (Ok h) = None
fault_in (Err number) = Some number

-- whether a head isn't all there
abbrev cut_off : {A : Type 0} → Result A Stop → Bool
cut_off (Ok x) = false
cut_off (Err (Refuse reply)) = false
cut_off (Err Incomplete) = true

then_same : {A B : Type 0} (r : Result A Stop) (f g : A → Result B Stop) → ((x : A) → cut_off (f x) ≡ cut_off (g x))
    → cut_off (r >>= f) ≡ cut_off (r >>= g)
then_same (Ok x) f g same = same x
then_same (Err (Refuse reply)) f g same = refl
then_same (Err Incomplete) f g same = refl

-- ---- the procedure, which comes last

of_procedure : (found : Option Procedure) (f : Procedure → Body) → cut_off (available found >>= λ p. Ok (f p)) ≡ false
of_procedure None f = refl
of_procedure (Some p) f = refl

of_number : (is_same : Bool) (known : ℕ) (found : Option Procedure) (f : Procedure → Body)
    → cut_off ((if is_same then available found else Err (Refuse (model.ProgramMismatch known known))) >>= λ p. Ok (f p)) ≡ false
of_number true known found f = of_procedure found f
of_number false known found f = refl

of_program : (known : Option ℕ) (version : ℕ) (found : Option Procedure) (f : Procedure → Body)
    → cut_off (of_version known version found >>= λ p. Ok (f p)) ≡ false
of_program None version found f = refl
of_program (Some known) version found f = of_number (version == known) known found f

-- ---- the whole head

module _ (offer : Offer) where
  abbrev from_verifier : Value numbers_shape × List ℕ → model.Credential × List ℕ → Value auth_shape × List ℕ → Result Body Stop
  from_verifier n c v =
      procedure_by offer n.0.0 n.0.1.0 n.0.1.1.0 >>= λ p. Ok (record { procedure = p; credential = c.0; arguments = v.1 })

  abbrev from_credential : Value numbers_shape × List ℕ → model.Credential × List ℕ → Result Body Stop
  from_credential n c = whole (read auth_shape c.1) >>= from_verifier n c

  abbrev from_numbers : Value numbers_shape × List ℕ → Result Body Stop
  from_numbers n = credential_at n.0.1.1.1.0 n.0.1.1.1.1 n.1 >>= from_credential n

  abbrev from_version : List ℕ → Result Body Stop
  from_version rest = whole (read numbers_shape rest) >>= from_numbers

  whole_at_end : (n : Value numbers_shape × List ℕ) (c : model.Credential × List ℕ) (v : Value auth_shape × List ℕ)
      → cut_off (from_verifier n c v) ≡ false
  whole_at_end n c v =
      of_program (version_by offer n.0.0) n.0.1.0 (find (is_numbered n.0.0 n.0.1.1.0) (procedures_by offer))
      (λ p. record { procedure = p; credential = c.0; arguments = v.1 })

module _ (one other : Offer) where
  body_same : (bytes : List ℕ) → cut_off (body_by one bytes) ≡ cut_off (body_by other bytes)
  body_same bytes =
      then_same (version_at bytes) (from_version one) (from_version other) (λ rest.
      then_same (whole (read numbers_shape rest)) (from_numbers one) (from_numbers other) (λ n.
      then_same (credential_at n.0.1.1.1.0 n.0.1.1.1.1 n.1) (from_credential one n) (from_credential other n) (λ c.
      then_same (whole (read auth_shape c.1)) (from_verifier one n c) (from_verifier other n c) (λ v.
      whole_at_end one n c v ∙ sym (whole_at_end other n c v)))))

  under_same : (xid : ℕ) (r s : Result Body Stop) → cut_off r ≡ cut_off s → fault_in (heard_from (form_of one) (under xid r))
      ≡ fault_in (heard_from (form_of other) (under xid s))
  under_same xid (Ok r) (Ok s) e = refl
  under_same xid (Ok r) (Err (Refuse s)) e = refl
  under_same xid (Ok r) (Err Incomplete) e = absurd cc
  under_same xid (Err (Refuse r)) (Ok s) e = refl
  under_same xid (Err (Refuse r)) (Err (Refuse s)) e = refl
  under_same xid (Err (Refuse r)) (Err Incomplete) e = absurd cc
  under_same xid (Err Incomplete) (Ok s) e = absurd cc
  under_same xid (Err Incomplete) (Err (Refuse s)) e = absurd cc
  under_same xid (Err Incomplete) (Err Incomplete) e = refl

  head_same : (m : Result (ℕ × List ℕ) ℕ) → fault_in (heard_from (form_of one) (head_from one m))
      ≡ fault_in (heard_from (form_of other) (head_from other m))
  head_same (Ok m) = under_same m.0 (body_by one m.1) (body_by other m.1) (body_same m.1)
  head_same (Err number) = refl

  pub fault-same : (bytes : List ℕ) → fault_in (heard_by one bytes) ≡ fault_in (heard_by other bytes)
  fault-same bytes = head_same (xid_at bytes)
