-- A head that says a call is the spelling of one.
use Rattle.std.proofs.Common.{◌≡◌, ℕ, ◌^◌, ◌<◌, ◌≤◌, Bool, true, cond, eqb, ltb, List, [], ◌∷◌, ◌++◌, length, replicate, Option, Some, None}
use Rattle.std.proofs.Common.{Result, Ok, Err, find, refl, sym, ap, subst, ◌∙◌, append_assoc, arith, inl, inr}
use Rattle.std.proofs.lemmas.Bool.{cases_lt, ltb-false, eqb-true, eqb-false}
use Rattle.std.proofs.lemmas.List.{get_or_append_left, get_or_past}
use Rattle.xdr.specs.declared.fault.Fault.{Fault as Unread}
use Rattle.xdr.specs.declared.fault.Fault.TheVariants as unreads
use Rattle.xdr.specs.Shape.{Shape, Word, Fixed, Value, Fits, word, padded, padding, spelling}
use Rattle.xdr.specs.Reading.{Reads, read, all_of}
use Rattle.xdr.specs.lemmas.Items.{IsBytes, Splits}
use Rattle.xdr.specs.lemmas.Shapes.{found, all_found}
use Rattle.xdr.specs.lemmas.Steps.{chosen}
use Rattle.nfs_model.specs.Types as model
use Rattle.rpc_msg.specs.declared.offer.Offer.{Offer}
use Rattle.nfs_values.specs.declared.procedure.Procedure.{Procedure}
use Rattle.rpc_msg.specs.Offer.{offers}
use Rattle.nfs_values.specs.Procedure.{all_procedures, numbers_of}
use Rattle.nfs_types.specs.Shapes.{◌&◌}
use Rattle.rpc_msg.specs.Replies.{auth_shape}
use Rattle.rpc_msg.specs.Heads.{◌>>=◌, Stop, Incomplete, Refuse, Body, Call, whole, version_at, numbers_shape, auth_sys_shape, nobody, user, body_of, user_of}
use Rattle.rpc_msg.specs.Heads.{acting, bad_credential, rejected_credential, credential_at, version_by, procedures_by, is_numbered, available, of_version}
use Rattle.rpc_msg.specs.Heads.{procedure_by, body_by, under, xid_at, head_from, head_by}
use Rattle.rpc_msg.specs.Calls.{ActsFor, IsCallBy, call_shape, call_value}
use Rattle.rpc_msg.specs.lemmas.Numbered.{FoundIs, found_is, both_true}
use Rattle.rpc_msg.proofs.Steps.{then_ok, sure_is, whole_ok, xid_ok}

-- ---- the credential

pub IsBytes-front : (a b : List ℕ) → IsBytes (a ++ b) → IsBytes a
IsBytes-front a b h i =
    elim (cases_lt i (length a)) [
      | inl lt ↦ rw (← get_or_append_left a b 0 i lt) (h i)
      | inr le ↦ rw (get_or_past a i 0 le) (omega arith)
    ]

user_ok : (r : Result (Value auth_sys_shape) Unread) (who : model.Credential) → user_of r ≡ Ok who → (v : Value auth_sys_shape) × (r ≡ Ok v) × (who ≡ user v)
user_ok (Ok v) who e = (v, refl, sym (sure_is (user v) who e))
user_ok (Err fault) who e = absurd cc

acts_found : (flavor : ℕ) (body : List ℕ) (who : model.Credential) → flavor ≤ 1 → IsBytes body → acting flavor body ≡ Ok who → ActsFor (flavor, body) who
acts_found flavor body who small fits e =
    elim (chosen (eqb flavor 0) (Ok nobody) (user_of (all_of auth_sys_shape body)) (Ok who) e) [
      | inl h ↦ inl (eqb-true flavor 0 h.0, sym (sure_is nobody who h.1))
      | inr h ↦
          let u = user_ok (all_of auth_sys_shape body) who h.1 in
          let other = eqb-false flavor 0 h.0 in
          inr (omega arith, (u.0, all_found auth_sys_shape body u.0 fits u.1, u.2))
    ]

body_ok : (r : Reads (List ℕ)) (x : List ℕ × List ℕ) → body_of r ≡ Ok x → r ≡ Ok x
body_ok (Ok y) x e = cc
body_ok (Err unreads.Short) x e = absurd cc
body_ok (Err fault) x e = absurd cc

-- a credential whose body has this many bytes
record CredentialIs (flavor size : ℕ) (bytes : List ℕ) (who : model.Credential) (rest : List ℕ) : Type 0 where
  body : List ℕ
  small : size ≤ 400
  size_is : length body ≡ size
  acts : ActsFor (flavor, body) who
  splits : Splits bytes (padded body) rest

abbrev within : ℕ → List ℕ × List ℕ → Result (model.Credential × List ℕ) Stop
within flavor b = acting flavor b.0 >>= λ c. Ok (c, b.1)

credential_found : (flavor size : ℕ) (bytes : List ℕ) (x : model.Credential × List ℕ) → IsBytes bytes → credential_at flavor size bytes ≡ Ok x
    → CredentialIs flavor size bytes x.0 x.1
credential_found flavor size bytes x fits e =
    let rest = body_of (read (Fixed size) bytes) >>= within flavor in
    elim (chosen (ltb 1 flavor) (Err rejected_credential) (cond (ltb 400 size) (Err bad_credential) rest) (Ok x) e) [
      | inl h ↦ absurd cc
      | inr h ↦ elim (chosen (ltb 400 size) (Err bad_credential) rest (Ok x) h.1) [
        | inl k ↦ absurd cc
        | inr k ↦
            let b = then_ok (body_of (read (Fixed size) bytes)) (within flavor) x k.1 in
            let a = then_ok (acting flavor b.0.0) (λ c. Ok (c, b.0.1)) x b.2 in
            let f = found (Fixed size) bytes b.0 fits (body_ok (read (Fixed size) bytes) b.0 b.1) in
            let zeros = replicate (padding (length b.0.0)) 0 in
            let body_fits = IsBytes-front b.0.0 (zeros ++ b.0.1) (subst IsBytes (f.0.parts ∙ append_assoc b.0.0 zeros b.0.1) fits) in
            let made : model.Credential × List ℕ = (a.0, b.0.1) in
            subst (λ (y : model.Credential × List ℕ). CredentialIs flavor size bytes y.0 y.1) (sure_is made x a.2)
            (record {
              body = b.0.0;
              small = ltb-false 400 size k.0;
              size_is = f.1;
              acts = acts_found flavor b.0.0 a.0
                  (ltb-false 1 flavor h.0) body_fits a.1;
              splits = f.0;
            })
      ]
    ]

-- ---- the procedure

find_is : (test : Procedure → Bool) (ps : List Procedure) (p : Procedure) → find test ps ≡ Some p → test p ≡ true
find_is test [] p e = absurd cc
find_is test (q ∷ ps) p e =
    elim (chosen (test q) (Some q) (find test ps) (Some p) e) [
      | inl h ↦
          let same : q ≡ p = cc in
          subst (λ (r : Procedure). test r ≡ true) same h.0
      | inr h ↦ find_is test ps p h.1
    ]

available_ok : (o : Option Procedure) (p : Procedure) → available o ≡ Ok p → o ≡ Some p
available_ok (Some q) p e = cc
available_ok None p e = absurd cc

of_version_ok : (offered : Option ℕ) (version : ℕ) (o : Option Procedure) (p : Procedure) → of_version offered version o ≡ Ok p
    → (offered ≡ Some version) × (o ≡ Some p)
of_version_ok None version o p e = absurd cc
of_version_ok (Some offered) version o p e =
    elim (chosen (eqb version offered) (available o) (Err (Refuse (model.ProgramMismatch offered offered))) (Ok p) e) [
      | inl h ↦ (ap (λ (n : ℕ). Some n) (sym (eqb-true version offered h.0)), available_ok o p h.1)
      | inr h ↦ absurd cc
    ]

pub procedure_found : (offer : Offer) (program version number : ℕ) (p : Procedure) → procedure_by offer program version number ≡ Ok p
    → (version_by offer program ≡ Some version) × ((numbers_of p).0 ≡ program) × ((numbers_of p).1 ≡ number) × (offers offer p ≡ true)
procedure_found offer program version number p e =
    let o = of_version_ok (version_by offer program) version (find (is_numbered program number) (procedures_by offer)) p e in
    let t = both_true (eqb (numbers_of p).0 program) (eqb (numbers_of p).1 number) (find_is (is_numbered program number) (procedures_by offer) p o.1) in
    (o.0, eqb-true _ _ t.0, eqb-true _ _ t.1, subst (FoundIs (offers offer)) o.1 (found_is (offers offer) (is_numbered program number) all_procedures))

-- ---- the body

version_found : (bytes rest : List ℕ) → IsBytes bytes → version_at bytes ≡ Ok rest → Splits bytes (word 2) rest
version_found bytes rest fits e =
    let v = then_ok (whole (read Word bytes)) (λ v. cond (eqb v.0 2) (Ok v.1) (Err (Refuse (model.RpcMismatch 2 2)))) rest e in
    let f = found Word bytes v.0 fits (whole_ok (read Word bytes) v.0 v.1) in
    elim (chosen (eqb v.0.0 2) (Ok v.0.1) (Err (Refuse (model.RpcMismatch 2 2))) (Ok rest) v.2) [
      | inl h ↦
          subst (λ (r : List ℕ). Splits bytes (word 2) r) (sure_is v.0.1 rest h.1) (subst (λ (n : ℕ). Splits bytes (word n) v.0.1) (eqb-true v.0.0 2 h.0) f.0)
      | inr h ↦ absurd cc
    ]

-- rpcvers 2, prog, vers, proc, cred and verf
abbrev pub body_shape : Shape
body_shape = Word & Word & Word & Word & auth_shape & auth_shape

abbrev pub body_value : ℕ × ℕ → ℕ → Value auth_shape → Value auth_shape → Value body_shape
body_value numbers version cred verf = (2, (numbers.0, (version, (numbers.1, (cred, verf)))))

pub joined : (program version number flavor size : ℕ) (body : List ℕ) (verf : Value auth_shape) (rest : List ℕ) → size ≡ length body
    → word 2 ++ (spelling numbers_shape (program, (version, (number, (flavor, size)))) ++ (padded body ++ (spelling auth_shape verf ++ rest)))
    ≡ spelling body_shape (2, (program, (version, (number, ((flavor, body), verf))))) ++ rest
joined program version number flavor size body verf rest e =
    rw e (ap (λ (t : List ℕ). word 2 ++ (spelling numbers_shape (program, (version, (number, (flavor, length body)))) ++ t))
    (sym (append_assoc (padded body) (spelling auth_shape verf) rest)))

record BodyIs (offer : Offer) (bytes : List ℕ) (body : Body) : Type 0 where
  version : ℕ
  cred : Value auth_shape
  verf : Value auth_shape
  offered : offers offer body.procedure ≡ true
  version_is : version_by offer (numbers_of body.procedure).0 ≡ Some version
  acts_for : ActsFor cred body.credential
  fits : Fits body_shape (body_value (numbers_of body.procedure) version cred verf)
  bytes_are : bytes ≡ spelling body_shape (body_value (numbers_of body.procedure) version cred verf) ++ body.arguments

under_ok : (x : ℕ) (r : Result Body Stop) (xid : ℕ) (p : Procedure) (c : model.Credential) (a : List ℕ) → under x r ≡ Call xid p c a
    → (x ≡ xid) × (r ≡ Ok (record { procedure = p; credential = c; arguments = a }))
under_ok x (Ok b) xid p c a e =
    let p-is : b.procedure ≡ p = cc in
    let c-is : b.credential ≡ c = cc in
    let a-is : b.arguments ≡ a = cc in
    (cc, rw (← p-is, ← c-is, ← a-is) refl)
under_ok x (Err Incomplete) xid p c a e = absurd cc
under_ok x (Err (Refuse reply)) xid p c a e = absurd cc

module _ (offer : Offer) where
  abbrev pub from_verifier : Value numbers_shape × List ℕ → model.Credential × List ℕ → Value auth_shape × List ℕ → Result Body Stop
  from_verifier n c v = procedure_by offer n.0.0 n.0.1.0 n.0.1.1.0 >>= λ p. Ok (record { procedure = p; credential = c.0; arguments = v.1 })

  abbrev pub from_credential : Value numbers_shape × List ℕ → model.Credential × List ℕ → Result Body Stop
  from_credential n c = whole (read auth_shape c.1) >>= from_verifier n c

  abbrev pub from_numbers : Value numbers_shape × List ℕ → Result Body Stop
  from_numbers n = credential_at n.0.1.1.1.0 n.0.1.1.1.1 n.1 >>= from_credential n

  abbrev pub from_version : List ℕ → Result Body Stop
  from_version rest = whole (read numbers_shape rest) >>= from_numbers

  body_found : (bytes : List ℕ) (body : Body) → IsBytes bytes → body_by offer bytes ≡ Ok body → BodyIs offer bytes body
  body_found bytes body fits e =
      let v = then_ok (version_at bytes) from_version body e in
      let vs = version_found bytes v.0 fits v.1 in
      let n = then_ok (whole (read numbers_shape v.0)) from_numbers body v.2 in
      let ns = found numbers_shape v.0 n.0 vs.rest_fits (whole_ok (read numbers_shape v.0) n.0 n.1) in
      let program = n.0.0.0 in
      let version = n.0.0.1.0 in
      let number = n.0.0.1.1.0 in
      let flavor = n.0.0.1.1.1.0 in
      let size = n.0.0.1.1.1.1 in
      let c = then_ok (credential_at flavor size n.0.1) (from_credential n.0) body n.2 in
      let cs = credential_found flavor size n.0.1 c.0 ns.0.rest_fits c.1 in
      let w = then_ok (whole (read auth_shape c.0.1)) (from_verifier n.0 c.0) body c.2 in
      let ws = found auth_shape c.0.1 w.0 cs.splits.rest_fits (whole_ok (read auth_shape c.0.1) w.0 w.1) in
      let p = then_ok (procedure_by offer program version number) (λ p. Ok (record { procedure = p; credential = c.0.0; arguments = w.0.1 })) body w.2 in
      let ps = procedure_found offer program version number p.0 p.1 in
      let made : Body = record { procedure = p.0; credential = c.0.0; arguments = w.0.1 } in
      let cred : Value auth_shape = (flavor, cs.body) in
      let size_is : size ≡ length cs.body = sym cs.size_is in
      let parts : bytes ≡ spelling body_shape (2, (program, (version, (number, (cred, w.0.0))))) ++ w.0.1 =
      vs.parts
      ∙ ap (λ (t : List ℕ). word 2 ++ t) (ns.0.parts
      ∙ ap (λ (t : List ℕ). spelling numbers_shape n.0.0 ++ t) (cs.splits.parts ∙ ap (λ (t : List ℕ). padded cs.body ++ t) ws.0.parts))
      ∙ joined program version number flavor size cs.body w.0.0 w.0.1 size_is in
      let short : length cs.body ≤ 400 = omega (arith, cs.small) in
      let two : 2 < 2 ^ 32 = omega arith in
      let all_fit : Fits body_shape (2, (program, (version, (number, (cred, w.0.0))))) =
      (two, (ns.1.0, (ns.1.1.0, (ns.1.1.1.0, ((ns.1.1.1.1.0, (short, omega arith)), ws.1))))) in
      let G : ℕ → ℕ → Type 0 = λ a b. Fits body_shape (body_value (a, b) version cred w.0.0) ×
      (bytes ≡ spelling body_shape (body_value (a, b) version cred w.0.0) ++ w.0.1) in
      let both : G (numbers_of p.0).0 (numbers_of p.0).1 = subst (λ (b : ℕ). G (numbers_of p.0).0 b) (sym ps.2)
      (subst (λ (a : ℕ). G a number) (sym ps.1) (all_fit, parts)) in
      subst (λ (b : Body). BodyIs offer bytes b) (sure_is made body p.2)
      (record {
        version = version;
        cred = cred;
        verf = w.0.0;
        offered = ps.3;
        version_is = ap (version_by offer) ps.1
            ∙ ps.0;
        acts_for = cs.acts;
        fits = both.0;
        bytes_are = both.1;
      })

  -- ---- the head

  head_ok : (r : Result (ℕ × List ℕ) ℕ) (xid : ℕ) (p : Procedure) (c : model.Credential) (a : List ℕ) → head_from offer r ≡ Call xid p c a
      → (m : ℕ × List ℕ) × (r ≡ Ok m) × (under m.0 (body_by offer m.1) ≡ Call xid p c a)
  head_ok (Ok m) xid p c a e = (m, refl, e)
  head_ok (Err number) xid p c a e = absurd cc

  pub call_found : (bytes : List ℕ) (xid : ℕ) (p : Procedure) (who : model.Credential) (arguments : List ℕ) → IsBytes bytes
      → head_by offer bytes ≡ Call xid p who arguments → IsCallBy offer bytes xid p who arguments
  call_found bytes xid p who arguments fits e =
      let h = head_ok (xid_at bytes) xid p who arguments e in
      let f = found (Word & Word) bytes ((h.0.0, 0), h.0.1) fits (xid_ok (read (Word & Word) bytes) h.0 h.1) in
      let u = under_ok h.0.0 (body_by offer h.0.1) xid p who arguments h.2 in
      let b = body_found h.0.1 (record { procedure = p; credential = who; arguments = arguments }) f.0.rest_fits u.1 in
      let parts : bytes ≡ spelling call_shape (call_value h.0.0 (numbers_of p) b.version b.cred b.verf) ++ arguments = f.0.parts
      ∙ ap (λ (t : List ℕ). spelling (Word & Word) (h.0.0, 0) ++ t) b.bytes_are in
      subst (λ (x : ℕ). IsCallBy offer bytes x p who arguments) u.0
      (record {
        version = b.version;
        cred = b.cred;
        verf = b.verf;
        offered = b.offered;
        version_is = b.version_is;
        acts_for = b.acts_for;
        fits =
            (f.1.0, (f.1.1, b.fits));
        bytes_are = parts;
      })
