-- The spelling of a call that is offered is heard as that call.
use Rattle.std.proofs.Common.{◌≡◌, ℕ, ◌≤◌, true, false, eqb, ltb, List, ◌++◌, length, Some, Ok, refl, sym, ap, ◌∙◌, arith, inl, inr}
use Rattle.std.proofs.lemmas.Bool.{le-ltb, eq-eqb}
use Rattle.xdr.specs.Shape.{Word, Fixed, Value, Fits, word, padded, spelling}
use Rattle.xdr.specs.Reading.{read}
use Rattle.xdr.specs.lemmas.Shapes.{again, all_again}
use Rattle.nfs_model.specs.Types as model
use Rattle.rpc_msg.specs.declared.offer.Offer.{Offer}
use Rattle.nfs_values.specs.declared.procedure.Procedure.{Procedure}
use Rattle.rpc_msg.specs.Offer.{offers}
use Rattle.nfs_values.specs.Procedure.{numbers_of}
use Rattle.nfs_types.specs.Shapes.{◌&◌}
use Rattle.rpc_msg.specs.Replies.{auth_shape}
use Rattle.rpc_msg.specs.Heads.{Call, whole, version_at, numbers_shape, auth_sys_shape, acting, credential_at, version_by, procedure_by, body_by, under}
use Rattle.rpc_msg.specs.Heads.{xid_at, head_from, head_by}
use Rattle.rpc_msg.specs.Calls.{ActsFor, IsCallBy}
use Rattle.rpc_msg.specs.lemmas.Numbered.{find_again}
use Rattle.rpc_msg.proofs.Steps.{then_is}
use Rattle.rpc_msg.proofs.Spelled.{from_version, from_numbers, from_credential, from_verifier, body_shape, body_value, joined}

acts_again : (flavor : ℕ) (body : List ℕ) (who : model.Credential) → ActsFor (flavor, body) who → acting flavor body ≡ Ok who
acts_again flavor body who (inl h) = rw (h.0, h.1) refl
acts_again flavor body who (inr h) = rw (h.0, all_again auth_sys_shape body h.1.0 h.1.1, h.1.2) refl

acts_flavor : (flavor : ℕ) (body : List ℕ) (who : model.Credential) → ActsFor (flavor, body) who → flavor ≤ 1
acts_flavor flavor body who (inl h) = omega (arith, h.0)
acts_flavor flavor body who (inr h) = omega (arith, h.0)

pub credential_again : (flavor : ℕ) (body : List ℕ) (who : model.Credential) (rest : List ℕ) → length body ≤ 400 → ActsFor (flavor, body) who
    → credential_at flavor (length body) (padded body ++ rest) ≡ Ok (who, rest)
credential_again flavor body who rest short acts =
    let known : ltb 1 flavor ≡ false = le-ltb _ _ (acts_flavor flavor body who acts) in
    let small : ltb 400 (length body) ≡ false = le-ltb _ _ short in
    rw (known, small, again (Fixed (length body)) body rest refl, acts_again flavor body who acts) refl

module _ (offer : Offer) where
  procedure_again : (p : Procedure) (version : ℕ) → offers offer p ≡ true → version_by offer (numbers_of p).0 ≡ Some version
      → procedure_by offer (numbers_of p).0 version (numbers_of p).1 ≡ Ok p
  procedure_again p version offered e =
      let same : eqb version version ≡ true = eq-eqb version version refl in
      rw (e, find_again offer p offered, same) refl

  body_again : (p : Procedure) (version : ℕ) (cred verf : Value auth_shape) (who : model.Credential) (arguments : List ℕ)
      → offers offer p ≡ true
      → version_by offer (numbers_of p).0 ≡ Some version
      → ActsFor cred who
      → Fits body_shape (body_value (numbers_of p) version cred verf)
      → body_by offer (spelling body_shape (body_value (numbers_of p) version cred verf) ++ arguments) ≡ Ok
      (record { procedure = p; credential = who; arguments = arguments })
  body_again p version cred verf who arguments offered version_is acts fits =
      let r4 = spelling auth_shape verf ++ arguments in
      let r3 = padded cred.1 ++ r4 in
      let numbers : Value numbers_shape = ((numbers_of p).0, (version, ((numbers_of p).1, (cred.0, length cred.1)))) in
      let r2 = spelling numbers_shape numbers ++ r3 in
      let short = fits.1.1.1.1.0.1 in
      let version_read : version_at (word 2 ++ r2) ≡ Ok r2 = rw (again Word 2 r2 fits.0) refl in
      let numbers_fit : Fits numbers_shape numbers = (fits.1.0, (fits.1.1.0, (fits.1.1.1.0, (fits.1.1.1.1.0.0, short.1)))) in
      ap (body_by offer) (sym (joined (numbers_of p).0 version (numbers_of p).1 cred.0 (length cred.1) cred.1 verf arguments refl))
      ∙ then_is (version_at (word 2 ++ r2)) (from_version offer) r2 version_read
      ∙ then_is (whole (read numbers_shape r2)) (from_numbers offer) (numbers, r3) (ap whole (again numbers_shape numbers r3 numbers_fit))
      ∙ then_is (credential_at cred.0 (length cred.1) r3) (from_credential offer (numbers, r3)) (who, r4) (credential_again cred.0 cred.1 who r4 short.0 acts)
      ∙ then_is (whole (read auth_shape r4)) (from_verifier offer (numbers, r3) (who, r4)) (verf, arguments) (ap whole
      (again auth_shape verf arguments fits.1.1.1.1.1))
      ∙ then_is (procedure_by offer (numbers_of p).0 version (numbers_of p).1) (λ q. Ok (record { procedure = q; credential = who; arguments = arguments })) p
      (procedure_again p version offered version_is)

  pub call_again : (bytes : List ℕ) (xid : ℕ) (p : Procedure) (who : model.Credential) (arguments : List ℕ) → IsCallBy offer bytes xid p who arguments
      → head_by offer bytes ≡ Call xid p who arguments
  call_again bytes xid p who arguments c =
      let after = spelling body_shape (body_value (numbers_of p) c.version c.cred c.verf) ++ arguments in
      let xid_read : xid_at (spelling (Word & Word) (xid, 0) ++ after) ≡ Ok (xid, after) =
      rw (again (Word & Word) (xid, 0) after (c.fits.0, c.fits.1.0)) refl in
      ap (head_by offer) c.bytes_are
      ∙ ap (head_from offer) xid_read
      ∙ ap (under xid) (body_again p c.version c.cred c.verf who arguments c.offered c.version_is c.acts_for c.fits.1.1)
