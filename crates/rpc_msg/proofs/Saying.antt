-- What is heard of a record is what its spellings say.
use Rattle.std.proofs.Common.{◌≡◌, ◌≢◌, ℕ, ◌+◌, ◌<◌, ◌≤◌, ◌^◌, Bool, true, false, cond, eqb, ltb, List, ◌++◌, length, replicate, Option, Some, None, Result}
use Rattle.std.proofs.Common.{Ok, Err, find, refl, sym, ap, subst, ◌∙◌, append_assoc, arith, inl, inr}
use Rattle.std.proofs.lemmas.Bool.{ltb-true, ltb-false, eqb-true, eqb-false}
use Rattle.xdr.specs.declared.fault.Fault.{Fault as Unread}
use Rattle.xdr.specs.declared.fault.Fault.TheVariants as unreads
use Rattle.xdr.specs.Shape.{Shape, Word, Fixed, Value, padded, padding, spelling}
use Rattle.xdr.specs.Reading.{Reads, fixed_at, read, all_of}
use Rattle.xdr.specs.lemmas.Items.{IsBytes}
use Rattle.xdr.specs.lemmas.Shapes.{found, again, all_found, all_again}
use Rattle.xdr.specs.lemmas.Steps.{chosen}
use Rattle.nfs_model.specs.Types as model
use Rattle.rpc_msg.specs.declared.offer.Offer.{Offer}
use Rattle.rpc_msg.specs.Offer.{form_of}
use Rattle.nfs_values.specs.declared.procedure.Procedure.{Procedure}
use Rattle.nfs_values.specs.Procedure.{numbers_of}
use Rattle.nfs_types.specs.Arguments.{asked}
use Rattle.nfs_types.specs.Shapes.{◌&◌}
use Rattle.nfs_types.specs.lemmas.Exact.{asked_found, asked_again}
use Rattle.rpc_msg.specs.Replies.{auth_shape}
use Rattle.rpc_msg.specs.Heads.{◌>>=◌, Stop, Body, whole, numbers_shape, auth_sys_shape, nobody, body_of, user_of, acting, bad_credential}
use Rattle.rpc_msg.specs.Heads.{rejected_credential, version_by, procedures_by, is_numbered, available, of_version, procedure_by, under, xid_of, head_from}
use Rattle.rpc_msg.specs.Heads.{Refuse}
use Rattle.rpc_msg.specs.Calls.{IsCallBy, call_shape, call_value}
use Rattle.rpc_msg.specs.Records.{asked_by, caller_by, heard_from, heard_by}
use Rattle.rpc_msg.specs.Hearing.{Begins, BeginsNone, Opens, flavor_of, size_of, Acts, IsHead, NoMessage, NoVersion, NoNumbers, NoBody, NoVerifier, TooLong}
use Rattle.rpc_msg.specs.Hearing.{BadPadding, NoUser, HasBadCredential, IsHeardBy}
use Rattle.rpc_msg.specs.lemmas.Numbered.{some_numbered}
use Rattle.rpc_msg.proofs.Spelled.{IsBytes-front, procedure_found, from_version, from_numbers, from_credential, from_verifier, joined}

-- ---- beginnings

-- what was read, and that the bytes behind it are bytes
pub record Read (shape : Shape) (v : Value shape) (bytes rest : List ℕ) : Type 0 where
  pub begins : Begins shape v bytes rest
  pub rest_fits : IsBytes rest

pub begun : (shape : Shape) (bytes : List ℕ) (x : Value shape × List ℕ) → IsBytes bytes → read shape bytes ≡ Ok x → Read shape x.0 bytes x.1
begun shape bytes x fits e =
    let f = found shape bytes x fits e in
    record { begins = record { fits = f.1; parts = f.0.parts }; rest_fits = f.0.rest_fits }

abbrev failed : {A : Type 0} → Unread → Reads A
failed fault = Err fault

pub read_again : (shape : Shape) (v : Value shape) (bytes rest : List ℕ) → Begins shape v bytes rest → read shape bytes ≡ Ok (v, rest)
read_again shape v bytes rest b = rw b.parts (again shape v rest b.fits)

apart : {A : Type 0} (r : Reads A) (fault : Unread) (x : A × List ℕ) → r ≡ Err fault → r ≡ Ok x → ⊥
apart (Ok y) fault x e f = absurd cc
apart (Err y) fault x e f = absurd cc

none_begun : (shape : Shape) (bytes : List ℕ) (fault : Unread) → read shape bytes ≡ Err fault → BeginsNone shape bytes
none_begun shape bytes fault e v rest b = apart (read shape bytes) fault (v, rest) e (read_again shape v bytes rest b)

-- ---- the body of a credential

-- bytes that are taken, or a padding that isn't zero
abbrev spelled_or_not : Bool → List ℕ × List ℕ → Reads (List ℕ)
spelled_or_not b x = cond b (Ok x) (Err unreads.BadPad)

not_short : (b : Bool) (x : List ℕ × List ℕ) → spelled_or_not b x ≡ Err unreads.Short → ⊥
not_short true x e = absurd cc
not_short false x e = absurd cc

pub fixed_short : (size : ℕ) (bytes : List ℕ) → fixed_at size bytes ≡ Err unreads.Short → length bytes < size + padding size
unfolding fixed_at
fixed_short size bytes e =
    elim (chosen (ltb (length bytes) (size + padding size)) (Err unreads.Short) (spelled_or_not _ _) (Err unreads.Short) e) [
      | inl h ↦ ltb-true (length bytes) (size + padding size) h.0
      | inr h ↦ absurd (not_short _ _ h.1)
    ]

same_fault : (f g : Unread) → failed {A = List ℕ} f ≡ failed g → f ≡ g
same_fault f g e = cc

fixed_long : (size : ℕ) (bytes : List ℕ) (fault : Unread) → fault ≢ unreads.Short → fixed_at size bytes ≡ Err fault → size + padding size ≤ length bytes
unfolding fixed_at
fixed_long size bytes fault n e =
    elim (chosen (ltb (length bytes) (size + padding size)) (Err unreads.Short) (spelled_or_not _ _) (Err fault) e) [
      | inl h ↦ absurd (n (sym (same_fault unreads.Short fault h.1)))
      | inr h ↦ ltb-false (length bytes) (size + padding size) h.0
    ]

module _ (offer : Offer) where
  -- ---- the chain: what the bytes say, by where it stops

  abbrev Told : List ℕ → ℕ → Result Body Stop → Type 0
  Told bytes xid r = IsHeardBy offer bytes (heard_from (form_of offer) (under xid r))

  -- the arguments of a call
  no_call : (r : Result model.Call Unread) (call : model.Call) (fault : Unread) → r ≡ Err fault → r ≡ Ok call → ⊥
  no_call (Ok c) call fault e f = absurd cc
  no_call (Err g) call fault e f = absurd cc

  call_told : (bytes : List ℕ) (xid : ℕ) (p : Procedure) (who : model.Credential) (arguments : List ℕ) → IsBytes arguments
      → IsCallBy offer bytes xid p who arguments
      → (r : Result model.Call Unread) → asked p arguments ≡ r → IsHeardBy offer bytes
      (Ok (record { xid = xid; asked = asked_by (form_of offer) (caller_by xid who) r }))
  call_told bytes xid p who arguments fits c (Ok call) e =
      record {
        procedure = p;
        who = who;
        arguments = arguments;
        head = c;
        came = call;
        asks = asked_found p arguments call fits e;
        caller_is = refl;
        heard = refl;
      }
  call_told bytes xid p who arguments fits c (Err fault) e =
      record {
        procedure = p;
        who = who;
        arguments = arguments;
        head = c;
        none = λ call a. no_call (asked p arguments) call fault e
            (asked_again p arguments call a);
      }

  -- a head that is all there, of a procedure that is offered
  made_call : (bytes : List ℕ) (xid program version number : ℕ) (who : model.Credential) (arguments : List ℕ) (p : Procedure)
      → IsHead bytes xid program version number who arguments → procedure_by offer program version number ≡ Ok p → IsCallBy offer bytes xid p who arguments
  made_call bytes xid program version number who arguments p h e =
      let ps = procedure_found offer program version number p e in
      let G : ℕ → ℕ → Type 0 = λ a b. Begins call_shape (call_value xid (a, b) version h.cred h.verf) bytes arguments in
      let both : G (numbers_of p).0 (numbers_of p).1 = subst (λ (b : ℕ). G (numbers_of p).0 b) (sym ps.2) (subst (λ (a : ℕ). G a number) (sym ps.1) h.begins) in
      record {
        version = version;
        cred = h.cred;
        verf = h.verf;
        offered = ps.3;
        version_is = ap (version_by offer) ps.1
            ∙ ps.0;
        acts_for = h.acts_for;
        fits = both.fits;
        bytes_are = both.parts;
      }

  abbrev ends : model.Credential → List ℕ → Procedure → Result Body Stop
  ends who arguments p = Ok (record { procedure = p; credential = who; arguments = arguments })

  none_found : (o : Option Procedure) (p : Procedure) → o ≡ None → o ≡ Some p → ⊥
  none_found None p e f = absurd cc
  none_found (Some q) p e f = absurd cc

  -- the procedure, where the version is offered or not
  agreed_told : (bytes : List ℕ) (xid program version number offered : ℕ) (who : model.Credential) (arguments : List ℕ) → IsBytes arguments
      → IsHead bytes xid program version number who arguments → version_by offer program ≡ Some offered
      → (b : Bool) → eqb version offered ≡ b → (f : Option Procedure) → find (is_numbered program number) (procedures_by offer) ≡ f
      → Told bytes xid (cond b (available f) (Err (Refuse (model.ProgramMismatch offered offered))) >>= ends who arguments)
  agreed_told bytes xid program version number offered who arguments fits h e true same (Some p) f =
      let found_p : procedure_by offer program version number ≡ Ok p = rw (e, same, f) refl in
      call_told bytes xid p who arguments fits (made_call bytes xid program version number who arguments p h found_p) (asked p arguments) refl
  agreed_told bytes xid program version number offered who arguments fits h e true same None f =
      let version_is : version ≡ offered = eqb-true version offered same in
      record {
        program = program;
        version = version;
        number = number;
        who = who;
        arguments = arguments;
        head = h;
        served_is = e ∙ ap (λ (n : ℕ). Some n) (sym version_is);
        none = λ p s n. none_found (find (is_numbered program number) (procedures_by offer)) p f (some_numbered offer program number p n s);
      }
  agreed_told bytes xid program version number offered who arguments fits h e false other f g = (
    refl,
    record {
      program = program;
      version = version;
      number = number;
      who = who;
      arguments = arguments;
      head = h;
      served_is = e;
      other = eqb-false
          version offered other;
    },
  )

  procedure_told : (bytes : List ℕ) (xid program version number : ℕ) (who : model.Credential) (arguments : List ℕ) → IsBytes arguments
      → IsHead bytes xid program version number who arguments
      → (o : Option ℕ) → version_by offer program ≡ o → Told bytes xid (of_version o version (find (is_numbered program number)
      (procedures_by offer)) >>= ends who arguments)
  procedure_told bytes xid program version number who arguments fits h None e =
      record { program = program; version = version; number = number; who = who; arguments = arguments; head = h; none = e }
  procedure_told bytes xid program version number who arguments fits h (Some offered) e =
      agreed_told bytes xid program version number offered who arguments fits h e (eqb version offered) refl (find (is_numbered program number)
      (procedures_by offer)) refl

  -- the verifier
  whole_head : (bytes : List ℕ) (xid : ℕ) (n : Value numbers_shape) (rest more arguments : List ℕ) (who : model.Credential) (verf : Value auth_shape)
      → Opens bytes xid n rest → Acts (flavor_of n) (size_of n) rest who more → Begins auth_shape verf more arguments
      → IsHead bytes xid n.0 n.1.0 n.1.1.0 who arguments
  whole_head bytes xid n rest more arguments who verf o a v =
      let size_is : size_of n ≡ length a.body = sym a.begins.fits in
      let front : List ℕ → List ℕ = λ t. spelling (Word & Word & Word & numbers_shape) (xid, (0, (2, n))) ++ t in
      let parts : bytes ≡ spelling call_shape (call_value xid (n.0, n.1.1.0) n.1.0 (flavor_of n, a.body) verf) ++ arguments =
      o.parts ∙ ap front (a.begins.parts ∙ ap (λ (t : List ℕ). padded a.body ++ t) v.parts)
      ∙ ap (λ (t : List ℕ). spelling (Word & Word) (xid, 0) ++ t) (joined n.0 n.1.0 n.1.1.0 (flavor_of n) (size_of n) a.body verf arguments size_is) in
      let f = o.fits in
      let short : length a.body ≤ 400 = omega (arith, a.small, size_is) in
      let size_fits = f.1.1.1.1.1.1.1 in
      let body_fits : length a.body < 2 ^ 32 = omega (arith, size_is, short) in
      record {
        cred = (flavor_of n, a.body);
        verf = verf;
        acts_for = a.acts_for;
        begins = record {
          fits = (
            f.0,
            (
              f.1.0,
              (
                f.1.1.0,
                (f.1.1.1.0, (f.1.1.1.1.0, (f.1.1.1.1.1.0, ((f.1.1.1.1.1.1.0, (short, body_fits)), v.fits)))),
              ),
            ),
          );
          parts = parts;
        };
      }

  verifier_told : (bytes : List ℕ) (xid : ℕ) (n : Value numbers_shape) (rest more : List ℕ) (who : model.Credential) → IsBytes more → Opens bytes xid n rest
      → Acts (flavor_of n) (size_of n) rest who more
      → (r : Reads (Value auth_shape)) → read auth_shape more ≡ r → Told bytes xid (whole r >>= from_verifier offer (n, rest) (who, more))
  verifier_told bytes xid n rest more who fits o a (Err fault) e = inl (refl, NoVerifier xid n rest more who o a (none_begun auth_shape more fault e))
  verifier_told bytes xid n rest more who fits o a (Ok v) e =
      let b = begun auth_shape more v fits e in
      procedure_told bytes xid n.0 n.1.0 n.1.1.0 who v.1 b.rest_fits (whole_head bytes xid n rest more v.1 who v.0 o a b.begins) (version_by offer n.0) refl

  -- the credential
  no_user : (r : Result (Value auth_sys_shape) Unread) (v : Value auth_sys_shape) (fault : Unread) → r ≡ Err fault → r ≡ Ok v → ⊥
  no_user (Ok w) v fault e f = absurd cc
  no_user (Err g) v fault e f = absurd cc

  abbrev after_body : Value numbers_shape → List ℕ → List ℕ → List ℕ → Result model.Credential Stop → Result Body Stop
  after_body n rest body more r = (r >>= λ c. Ok (c, more)) >>= from_credential offer (n, rest)

  user_told : (bytes : List ℕ) (xid : ℕ) (n : Value numbers_shape) (rest body more : List ℕ) → IsBytes more → IsBytes body → Opens bytes xid n rest
      → size_of n ≤ 400 → Begins (Fixed (size_of n)) body rest more → flavor_of n ≡ 1
      → (r : Result (Value auth_sys_shape) Unread) → all_of auth_sys_shape body ≡ r → Told bytes xid (after_body n rest body more (user_of r))
  user_told bytes xid n rest body more fits body_fits o small b one (Ok v) e =
      verifier_told bytes xid n rest more _ fits o
      (record { body = body; small = small; begins = b; acts_for = inr (one, (v, all_found auth_sys_shape body v body_fits e, refl)) })
      (read auth_shape more) refl
  user_told bytes xid n rest body more fits body_fits o small b one (Err fault) e =
      let known : flavor_of n ≤ 1 = omega (arith, one) in
      inl (
        refl,
        record {
          numbers = n;
          rest = rest;
          opens = o;
          known = known;
          bad = NoUser body more small b one
              (λ v s. no_user (all_of auth_sys_shape body) v fault e (all_again auth_sys_shape body v s));
        },
      )

  acting_told : (bytes : List ℕ) (xid : ℕ) (n : Value numbers_shape) (rest body more : List ℕ) → IsBytes more → IsBytes body → Opens bytes xid n rest
      → size_of n ≤ 400 → Begins (Fixed (size_of n)) body rest more → flavor_of n ≤ 1
      → (b : Bool) → eqb (flavor_of n) 0 ≡ b → Told bytes xid (after_body n rest body more (cond b (Ok nobody) (user_of (all_of auth_sys_shape body))))
  acting_told bytes xid n rest body more fits body_fits o small b known true e =
      verifier_told bytes xid n rest more nobody fits o (record { body = body; small = small; begins = b; acts_for = inl (eqb-true (flavor_of n) 0 e, refl) })
      (read auth_shape more) refl
  acting_told bytes xid n rest body more fits body_fits o small b known false e =
      let other = eqb-false (flavor_of n) 0 e in
      user_told bytes xid n rest body more fits body_fits o small b (omega (arith, known, other)) (all_of auth_sys_shape body) refl

  abbrev in_body : Value numbers_shape → List ℕ → Reads (List ℕ) → Result Body Stop
  in_body n rest r = (body_of r >>= λ b. acting (flavor_of n) b.0 >>= λ c. Ok (c, b.1)) >>= from_credential offer (n, rest)

  bad_padding : (bytes : List ℕ) (xid : ℕ) (n : Value numbers_shape) (rest : List ℕ) → Opens bytes xid n rest → flavor_of n ≤ 1 → size_of n ≤ 400
      → (fault : Unread) → fault ≢ unreads.Short → read (Fixed (size_of n)) rest ≡ Err fault → HasBadCredential bytes xid
  bad_padding bytes xid n rest o known small fault other e =
      record {
        numbers = n;
        rest = rest;
        opens = o;
        known = known;
        bad = BadPadding small (fixed_long (size_of n) rest fault other e)
            (none_begun (Fixed (size_of n)) rest fault e);
      }

  body_told : (bytes : List ℕ) (xid : ℕ) (n : Value numbers_shape) (rest : List ℕ) → IsBytes rest → Opens bytes xid n rest → flavor_of n ≤ 1 → size_of n ≤ 400
      → (r : Reads (List ℕ)) → read (Fixed (size_of n)) rest ≡ r → Told bytes xid (in_body n rest r)
  body_told bytes xid n rest fits o known small (Ok x) e =
      let b = begun (Fixed (size_of n)) rest x fits e in
      let zeros = replicate (padding (length x.0)) 0 in
      let body_fits = IsBytes-front x.0 (zeros ++ x.1) (subst IsBytes (b.begins.parts ∙ append_assoc x.0 zeros x.1) fits) in
      acting_told bytes xid n rest x.0 x.1 b.rest_fits body_fits o small b.begins known (eqb (flavor_of n) 0) refl
  body_told bytes xid n rest fits o known small (Err unreads.Short) e = inl (refl, NoBody xid n rest o known small (fixed_short (size_of n) rest e))
  body_told bytes xid n rest fits o known small (Err unreads.BadBool) e =
      inl (refl, bad_padding bytes xid n rest o known small unreads.BadBool (λ s. absurd cc) e)
  body_told bytes xid n rest fits o known small (Err unreads.BadEnum) e =
      inl (refl, bad_padding bytes xid n rest o known small unreads.BadEnum (λ s. absurd cc) e)
  body_told bytes xid n rest fits o known small (Err unreads.BadPad) e =
      inl (refl, bad_padding bytes xid n rest o known small unreads.BadPad (λ s. absurd cc) e)
  body_told bytes xid n rest fits o known small (Err unreads.TooLong) e =
      inl (refl, bad_padding bytes xid n rest o known small unreads.TooLong (λ s. absurd cc) e)
  body_told bytes xid n rest fits o known small (Err unreads.LeftOver) e =
      inl (refl, bad_padding bytes xid n rest o known small unreads.LeftOver (λ s. absurd cc) e)

  size_told : (bytes : List ℕ) (xid : ℕ) (n : Value numbers_shape) (rest : List ℕ) → IsBytes rest → Opens bytes xid n rest → flavor_of n ≤ 1
      → (b : Bool) → ltb 400 (size_of n) ≡ b → Told bytes xid
      (cond b (Err bad_credential) (body_of (read (Fixed (size_of n)) rest) >>= λ b. acting (flavor_of n) b.0 >>= λ c. Ok (c, b.1)) >>= from_credential offer
      (n, rest))
  size_told bytes xid n rest fits o known true e =
      inl (refl, record { numbers = n; rest = rest; opens = o; known = known; bad = TooLong (ltb-true 400 (size_of n) e) })
  size_told bytes xid n rest fits o known false e = body_told bytes xid n rest fits o known (ltb-false 400 (size_of n) e) (read (Fixed (size_of n)) rest) refl

  flavor_told : (bytes : List ℕ) (xid : ℕ) (n : Value numbers_shape) (rest : List ℕ) → IsBytes rest → Opens bytes xid n rest
      → (b : Bool) → ltb 1 (flavor_of n) ≡ b
      → Told bytes xid (cond b (Err rejected_credential)
      (cond (ltb 400 (size_of n)) (Err bad_credential)
      (body_of (read (Fixed (size_of n)) rest) >>= λ b. acting (flavor_of n) b.0 >>= λ c. Ok (c, b.1))) >>= from_credential offer (n, rest))
  flavor_told bytes xid n rest fits o true e = inr (refl, record { numbers = n; rest = rest; opens = o; other = ltb-true 1 (flavor_of n) e })
  flavor_told bytes xid n rest fits o false e = size_told bytes xid n rest fits o (ltb-false 1 (flavor_of n) e) (ltb 400 (size_of n)) refl

  -- the numbers
  numbers_told : (bytes : List ℕ) (xid : ℕ) (rest : List ℕ) → IsBytes rest → Begins (Word & Word & Word) (xid, (0, 2)) bytes rest
      → (r : Reads (Value numbers_shape)) → read numbers_shape rest ≡ r → Told bytes xid (whole r >>= from_numbers offer)
  numbers_told bytes xid rest fits b (Err fault) e = inl (refl, NoNumbers xid rest b (none_begun numbers_shape rest fault e))
  numbers_told bytes xid rest fits b (Ok n) e =
      let c = begun numbers_shape rest n fits e in
      let parts : bytes ≡ spelling (Word & Word & Word & numbers_shape) (xid, (0, (2, n.0))) ++ n.1 = b.parts
      ∙ ap (λ (t : List ℕ). spelling (Word & Word & Word) (xid, (0, 2)) ++ t) c.begins.parts in
      flavor_told bytes xid n.0 n.1 c.rest_fits (record { fits = (b.fits.0, (b.fits.1.0, (b.fits.1.1, c.begins.fits))); parts = parts })
      (ltb 1 (flavor_of n.0)) refl

  -- the version of RPC
  rpc_told : (bytes : List ℕ) (xid version : ℕ) (rest : List ℕ) → IsBytes rest → Begins (Word & Word & Word) (xid, (0, version)) bytes rest
      → (b : Bool) → eqb version 2 ≡ b → Told bytes xid (cond b (Ok rest) (Err (Refuse (model.RpcMismatch 2 2))) >>= from_version offer)
  rpc_told bytes xid version rest fits b true e =
      numbers_told bytes xid rest fits (subst (λ (n : ℕ). Begins (Word & Word & Word) (xid, (0, n)) bytes rest) (eqb-true version 2 e) b)
      (read numbers_shape rest) refl
  rpc_told bytes xid version rest fits b false e = (refl, refl, record { version = version; rest = rest; begins = b; other = eqb-false version 2 e })

  version_told : (bytes : List ℕ) (xid : ℕ) (rest : List ℕ) → IsBytes rest → Begins (Word & Word) (xid, 0) bytes rest
      → (r : Reads ℕ) → read Word rest ≡ r → Told bytes xid ((whole r >>= λ v. cond (eqb v.0 2) (Ok v.1) (Err (Refuse
      (model.RpcMismatch 2 2)))) >>= from_version offer)
  version_told bytes xid rest fits b (Err fault) e = inl (refl, NoVersion xid rest b (none_begun Word rest fault e))
  version_told bytes xid rest fits b (Ok v) e =
      let c = begun Word rest v fits e in
      let parts : bytes ≡ spelling (Word & Word & Word) (xid, (0, v.0)) ++ v.1 = b.parts
      ∙ ap (λ (t : List ℕ). spelling (Word & Word) (xid, 0) ++ t) c.begins.parts in
      rpc_told bytes xid v.0 v.1 c.rest_fits (record { fits = (b.fits.0, (b.fits.1, c.begins.fits)); parts = parts }) (eqb v.0 2) refl

  -- the message
  kind_told : (bytes : List ℕ) (xid kind : ℕ) (rest : List ℕ) → IsBytes rest → Begins (Word & Word) (xid, kind) bytes rest
      → (b : Bool) → eqb kind 0 ≡ b → IsHeardBy offer bytes (heard_from (form_of offer) (head_from offer (cond b (Ok (xid, rest)) (Err 13))))
  kind_told bytes xid kind rest fits b true e =
      version_told bytes xid rest fits (subst (λ (n : ℕ). Begins (Word & Word) (xid, n) bytes rest) (eqb-true kind 0 e) b) (read Word rest) refl
  kind_told bytes xid kind rest fits b false e = inr (refl, record { xid = xid; kind = kind; rest = rest; begins = b; other = eqb-false kind 0 e })

  message_told : (bytes : List ℕ) → IsBytes bytes → (r : Reads (ℕ × ℕ)) → read (Word & Word) bytes ≡ r
      → IsHeardBy offer bytes (heard_from (form_of offer) (head_from offer (xid_of r)))
  message_told bytes fits (Err fault) e = inl (refl, NoMessage (none_begun (Word & Word) bytes fault e))
  message_told bytes fits (Ok m) e =
      let b = begun (Word & Word) bytes m fits e in
      kind_told bytes m.0.0 m.0.1 m.1 b.rest_fits b.begins (eqb m.0.1 0) refl

  pub heard_is : (bytes : List ℕ) → IsBytes bytes → IsHeardBy offer bytes (heard_by offer bytes)
  heard_is bytes fits = message_told bytes fits (read (Word & Word) bytes) refl
