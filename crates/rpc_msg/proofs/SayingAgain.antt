-- What the spellings of a record say is what is heard of it.
use Rattle.std.proofs.Common.{◌≡◌, ℕ, ◌+◌, ◌<◌, ◌≤◌, Bool, true, false, cond, eqb, ltb, List, ◌++◌, length, replicate, Result, Ok, Err, refl, sym, ap, subst}
use Rattle.std.proofs.Common.{◌∙◌, append_assoc, arith, inl, inr}
use Rattle.std.proofs.lemmas.Bool.{lt-ltb, le-ltb, eq-eqb, ne_eqb}
use Rattle.xdr.specs.declared.fault.Fault.{Fault as Unread}
use Rattle.xdr.specs.declared.fault.Fault.TheVariants as unreads
use Rattle.xdr.specs.Shape.{Shape, Word, Fixed, Value, Spells, word, padded, padding, spelling}
use Rattle.xdr.specs.Reading.{Reads, fixed_at, read, all_of}
use Rattle.xdr.specs.lemmas.Items.{IsBytes}
use Rattle.xdr.specs.lemmas.Shapes.{again, all_found}
use Rattle.nfs_model.specs.Types as model
use Rattle.nfs_model.specs.World.{Heard}
use Rattle.rpc_msg.specs.declared.offer.Offer.{Offer}
use Rattle.rpc_msg.specs.Offer.{form_of}
use Rattle.nfs_values.specs.declared.procedure.Procedure.{Procedure}
use Rattle.nfs_values.specs.Procedure.{numbers_of}
use Rattle.nfs_types.specs.Arguments.{Asks, asked}
use Rattle.nfs_types.specs.Shapes.{◌&◌}
use Rattle.nfs_types.specs.lemmas.Exact.{asked_found, asked_again}
use Rattle.rpc_msg.specs.Replies.{auth_shape}
use Rattle.rpc_msg.specs.Heads.{◌>>=◌, Stop, Body, whole, numbers_shape, auth_sys_shape, body_of, user_of, acting, credential_at, procedure_by, body_by}
use Rattle.rpc_msg.specs.Heads.{under, xid_of, head_from, Refuse, bad_credential}
use Rattle.rpc_msg.specs.Calls.{IsCallBy, call_shape, call_value}
use Rattle.rpc_msg.specs.Records.{asked_by, caller_by, heard_from, heard_by}
use Rattle.rpc_msg.specs.Hearing.{Begins, BeginsNone, Opens, flavor_of, size_of, Acts, IsHead, IsIncomplete, NoMessage, NoVersion, NoNumbers, NoBody}
use Rattle.rpc_msg.specs.Hearing.{NoVerifier, IsNoCall, IsOfAnotherRpc, HasAnotherFlavor, IsBadBody, TooLong, BadPadding, NoUser, HasBadCredential}
use Rattle.rpc_msg.specs.Hearing.{IsOfNoProgramBy, IsOfAnotherVersionBy, IsOfNoProcedureBy, HasGarbageBy, IsAskingBy, IsRefusedWithBy, SaysBy, IsHeardBy}
use Rattle.rpc_msg.specs.Hearing.{AsksForBy, Exactly, RefusesBy}
use Rattle.rpc_msg.specs.lemmas.Numbered.{none_numbered}
use Rattle.rpc_msg.proofs.Saying.{heard_is, begun, read_again, fixed_short}
use Rattle.rpc_msg.proofs.Spelled.{IsBytes-front, from_version, from_numbers, from_credential, from_verifier, joined}
use Rattle.rpc_msg.proofs.SpelledAgain.{credential_again, call_again}

-- ---- what can't be read

abbrev Fault : (shape : Shape) → List ℕ → Type 0
Fault shape bytes = (fault : Unread) × (read shape bytes ≡ Err fault)

fault_by : (shape : Shape) (bytes : List ℕ) → IsBytes bytes → BeginsNone shape bytes → (r : Reads (Value shape)) → read shape bytes ≡ r → Fault shape bytes
fault_by shape bytes fits none (Ok x) e = absurd (none x.0 x.1 (begun shape bytes x fits e).begins)
fault_by shape bytes fits none (Err fault) e = (fault, e)

fault_of : (shape : Shape) (bytes : List ℕ) → IsBytes bytes → BeginsNone shape bytes → Fault shape bytes
fault_of shape bytes fits none = fault_by shape bytes fits none (read shape bytes) refl

rest_bytes : (shape : Shape) (v : Value shape) (bytes rest : List ℕ) → IsBytes bytes → Begins shape v bytes rest → IsBytes rest
rest_bytes shape v bytes rest fits b = (begun shape bytes (v, rest) fits (read_again shape v bytes rest b)).rest_fits

module _ (offer : Offer) where
  -- ---- how far the chain comes

  abbrev told : ℕ → Result Body Stop → Result Heard ℕ
  told xid r = heard_from (form_of offer) (under xid r)

  at_kind : (bytes : List ℕ) (xid kind : ℕ) (rest : List ℕ) → Begins (Word & Word) (xid, kind) bytes rest
      → heard_by offer bytes ≡ heard_from (form_of offer) (head_from offer (cond (eqb kind 0) (Ok (xid, rest)) (Err 13)))
  at_kind bytes xid kind rest b =
      ap (λ (r : Reads (ℕ × ℕ)). heard_from (form_of offer) (head_from offer (xid_of r))) (read_again (Word & Word) (xid, kind) bytes rest b)

  at_call : (bytes : List ℕ) (xid : ℕ) (rest : List ℕ) → Begins (Word & Word) (xid, 0) bytes rest → heard_by offer bytes ≡ told xid (body_by offer rest)
  at_call bytes xid rest b = at_kind bytes xid 0 rest b

  abbrev by_version : Reads ℕ → Result Body Stop
  by_version r = (whole r >>= λ v. cond (eqb v.0 2) (Ok v.1) (Err (Refuse (model.RpcMismatch 2 2)))) >>= from_version offer

  at_version : (bytes : List ℕ) (xid version : ℕ) (rest : List ℕ) → Begins (Word & Word & Word) (xid, (0, version)) bytes rest
      → heard_by offer bytes ≡ told xid (cond (eqb version 2) (Ok rest) (Err (Refuse (model.RpcMismatch 2 2))) >>= from_version offer)
  at_version bytes xid version rest b =
      at_call bytes xid (word version ++ rest) (record { fits = (b.fits.0, b.fits.1.0); parts = b.parts })
      ∙ ap (λ (r : Reads ℕ). told xid (by_version r)) (again Word version rest b.fits.1.1)

  at_numbers : (bytes : List ℕ) (xid : ℕ) (rest : List ℕ) → Begins (Word & Word & Word) (xid, (0, 2)) bytes rest
      → heard_by offer bytes ≡ told xid (from_version offer rest)
  at_numbers bytes xid rest b = at_version bytes xid 2 rest b

  at_opened : (bytes : List ℕ) (xid : ℕ) (n : Value numbers_shape) (rest : List ℕ) → Opens bytes xid n rest
      → heard_by offer bytes ≡ told xid (from_numbers offer (n, rest))
  at_opened bytes xid n rest b =
      at_numbers bytes xid (spelling numbers_shape n ++ rest) (record { fits = (b.fits.0, (b.fits.1.0, b.fits.1.1.0)); parts = b.parts })
      ∙ ap (λ (r : Reads (Value numbers_shape)). told xid (whole r >>= from_numbers offer)) (again numbers_shape n rest b.fits.1.1.1)

  acts_at : (flavor size : ℕ) (bytes : List ℕ) (who : model.Credential) (rest : List ℕ) → Acts flavor size bytes who rest
      → credential_at flavor size bytes ≡ Ok (who, rest)
  acts_at flavor size bytes who rest a =
      let short : length a.body ≤ 400 = omega (arith, a.small, a.begins.fits) in
      subst (λ (n : ℕ). credential_at flavor n bytes ≡ Ok (who, rest)) a.begins.fits
      (ap (credential_at flavor (length a.body)) a.begins.parts ∙ credential_again flavor a.body who rest short a.acts_for)

  at_acting : (bytes : List ℕ) (xid : ℕ) (n : Value numbers_shape) (rest : List ℕ) (who : model.Credential) (more : List ℕ) → Opens bytes xid n rest
      → Acts (flavor_of n) (size_of n) rest who more → heard_by offer bytes ≡ told xid (from_credential offer (n, rest) (who, more))
  at_acting bytes xid n rest who more o a =
      at_opened bytes xid n rest o
      ∙ ap (λ (r : Result (model.Credential × List ℕ) Stop). told xid (r >>= from_credential offer (n, rest))) (acts_at (flavor_of n)
      (size_of n) rest who more a)

  at_head : (bytes : List ℕ) (xid program version number : ℕ) (who : model.Credential) (arguments : List ℕ)
      → IsHead bytes xid program version number who arguments
      → heard_by offer bytes ≡ told xid (procedure_by offer program version number >>= λ p. Ok (record {
        procedure = p;
        credential = who;
        arguments =
            arguments;
      }))
  at_head bytes xid program version number who arguments h =
      let size = length h.cred.1 in
      let n : Value numbers_shape = (program, (version, (number, (h.cred.0, size)))) in
      let more = spelling auth_shape h.verf ++ arguments in
      let rest = padded h.cred.1 ++ more in
      let f = h.begins.fits in
      let c = f.1.1.1.1.1.1.0 in
      let parts : bytes ≡ spelling (Word & Word & Word & numbers_shape) (xid, (0, (2, n))) ++ rest =
      h.begins.parts ∙ ap (λ (t : List ℕ). spelling (Word & Word) (xid, 0) ++ t)
      (sym (joined program version number h.cred.0 size h.cred.1 h.verf arguments refl)) in
      let opens : Opens bytes xid n rest = record {
        fits =
            (f.0, (f.1.0, (f.1.1.0, (f.1.1.1.0, (f.1.1.1.1.0, (f.1.1.1.1.1.0, (c.0, c.1.1)))))));
        parts = parts;
      } in
      let acts : Acts h.cred.0 size rest who more = record
      { body = h.cred.1; small = c.1.0; begins = record { fits = refl; parts = refl }; acts_for = h.acts_for } in
      at_acting bytes xid n rest who more opens acts
      ∙ ap (λ (r : Reads (Value auth_shape)). told xid (whole r >>= from_verifier offer (n, rest) (who, more)))
      (again auth_shape h.verf arguments f.1.1.1.1.1.1.1)

  -- ---- the credential

  -- a flavor that is known and a body that isn't too long
  abbrev body_read : ℕ → Reads (List ℕ) → Result (model.Credential × List ℕ) Stop
  body_read flavor r = body_of r >>= λ b. acting flavor b.0 >>= λ c. Ok (c, b.1)

  at_body : (flavor size : ℕ) (rest : List ℕ) → flavor ≤ 1 → size ≤ 400 → credential_at flavor size rest ≡ body_read flavor (read (Fixed size) rest)
  at_body flavor size rest known small =
      let k : ltb 1 flavor ≡ false = le-ltb _ _ known in
      let s : ltb 400 size ≡ false = le-ltb _ _ small in
      rw (k, s) refl

  short_fixed : (size : ℕ) (bytes : List ℕ) → length bytes < size + padding size → fixed_at size bytes ≡ Err unreads.Short
  unfolding fixed_at
  short_fixed size bytes h =
      let s : ltb (length bytes) (size + padding size) ≡ true = lt-ltb _ _ h in
      rw s refl

  bad_body : (flavor size : ℕ) (rest : List ℕ) → IsBytes rest → size + padding size ≤ length rest → BeginsNone (Fixed size) rest → (r : Reads (List ℕ))
      → read (Fixed size) rest ≡ r → body_read flavor r ≡ Err bad_credential
  bad_body flavor size rest fits long none (Ok x) e = absurd (none x.0 x.1 (begun (Fixed size) rest x fits e).begins)
  bad_body flavor size rest fits long none (Err unreads.Short) e = absurd (omega (arith, long, fixed_short size rest e))
  bad_body flavor size rest fits long none (Err fault) e = refl

  bad_user : (body : List ℕ) → IsBytes body → ((v : Value auth_sys_shape) → Spells auth_sys_shape v body → ⊥) → (r : Result (Value auth_sys_shape) Unread)
      → all_of auth_sys_shape body ≡ r → user_of r ≡ Err bad_credential
  bad_user body fits none (Ok v) e = absurd (none v (all_found auth_sys_shape body v fits e))
  bad_user body fits none (Err fault) e = refl

  bad_at : (flavor size : ℕ) (rest : List ℕ) → IsBytes rest → flavor ≤ 1 → IsBadBody flavor size rest → credential_at flavor size rest ≡ Err bad_credential
  bad_at flavor size rest fits known (TooLong long) =
      let k : ltb 1 flavor ≡ false = le-ltb _ _ known in
      let s : ltb 400 size ≡ true = lt-ltb _ _ long in
      rw (k, s) refl
  bad_at flavor size rest fits known (BadPadding small long none) =
      at_body flavor size rest known small ∙ bad_body flavor size rest fits long none (read (Fixed size) rest) refl
  bad_at flavor size rest fits known (NoUser body more small b one none) =
      let body_fits = IsBytes-front body (replicate (padding (length body)) 0 ++ more) (subst IsBytes (b.parts
      ∙ append_assoc body (replicate (padding (length body)) 0) more) fits) in
      let no : acting flavor body ≡ Err bad_credential = rw one (bad_user body body_fits none (all_of auth_sys_shape body) refl) in
      at_body flavor size rest known small
      ∙ ap (body_read flavor) (read_again (Fixed size) body rest more b)
      ∙ ap (λ (r : Result model.Credential Stop). r >>= λ c. Ok (c, more)) no

  -- ---- faults

  incomplete_again : (bytes : List ℕ) → IsBytes bytes → IsIncomplete bytes → heard_by offer bytes ≡ Err 12
  incomplete_again bytes fits (NoMessage none) =
      ap (λ (r : Reads (ℕ × ℕ)). heard_from (form_of offer) (head_from offer (xid_of r))) (fault_of (Word & Word) bytes fits none).1
  incomplete_again bytes fits (NoVersion xid rest b none) =
      at_call bytes xid rest b ∙ ap (λ (r : Reads ℕ). told xid (by_version r)) (fault_of Word rest (rest_bytes (Word & Word) (xid, 0) bytes rest fits b) none).1
  incomplete_again bytes fits (NoNumbers xid rest b none) =
      at_numbers bytes xid rest b
      ∙ ap (λ (r : Reads (Value numbers_shape)). told xid (whole r >>= from_numbers offer))
      (fault_of numbers_shape rest (rest_bytes (Word & Word & Word) (xid, (0, 2)) bytes rest fits b) none).1
  incomplete_again bytes fits (NoBody xid n rest o known small short) =
      at_opened bytes xid n rest o
      ∙ ap (λ (r : Result (model.Credential × List ℕ) Stop). told xid (r >>= from_credential offer (n, rest))) (at_body (flavor_of n)
      (size_of n) rest known small
      ∙ ap (body_read (flavor_of n)) (short_fixed (size_of n) rest short))
  incomplete_again bytes fits (NoVerifier xid n rest more who o a none) =
      let rest_fits = rest_bytes (Word & Word & Word & numbers_shape) (xid, (0, (2, n))) bytes rest fits o in
      let more_fits = rest_bytes (Fixed (size_of n)) a.body rest more rest_fits a.begins in
      at_acting bytes xid n rest who more o a ∙ ap (λ (r : Reads (Value auth_shape)). told xid (whole r >>= from_verifier offer (n, rest) (who, more)))
      (fault_of auth_shape more more_fits none).1

  no_call_again : (bytes : List ℕ) → IsNoCall bytes → heard_by offer bytes ≡ Err 13
  no_call_again bytes c =
      let other : eqb c.kind 0 ≡ false = ne_eqb c.kind 0 c.other in
      at_kind bytes c.xid c.kind c.rest c.begins ∙ ap (λ (b : Bool). heard_from (form_of offer) (head_from offer (cond b (Ok (c.xid, c.rest)) (Err 13)))) other

  -- ---- refusals

  abbrev refused : ℕ → model.Reply → Result Heard ℕ
  refused xid reply = Ok (record { xid = xid; asked = model.Refused reply })

  rpc_again : (bytes : List ℕ) (xid : ℕ) → IsOfAnotherRpc bytes xid → heard_by offer bytes ≡ refused xid (model.RpcMismatch 2 2)
  rpc_again bytes xid r =
      let other : eqb r.version 2 ≡ false = ne_eqb r.version 2 r.other in
      at_version bytes xid r.version r.rest r.begins
      ∙ ap (λ (b : Bool). told xid (cond b (Ok r.rest) (Err (Refuse (model.RpcMismatch 2 2))) >>= from_version offer)) other

  flavor_again : (bytes : List ℕ) (xid : ℕ) → HasAnotherFlavor bytes xid → heard_by offer bytes ≡ refused xid (model.AuthError 2)
  flavor_again bytes xid f =
      let other : ltb 1 (flavor_of f.numbers) ≡ true = lt-ltb _ _ f.other in
      at_opened bytes xid f.numbers f.rest f.opens ∙ rw other refl

  bad_again : (bytes : List ℕ) (xid : ℕ) → IsBytes bytes → HasBadCredential bytes xid → heard_by offer bytes ≡ refused xid (model.AuthError 1)
  bad_again bytes xid fits c =
      let rest_fits = rest_bytes (Word & Word & Word & numbers_shape) (xid, (0, (2, c.numbers))) bytes c.rest fits c.opens in
      at_opened bytes xid c.numbers c.rest c.opens
      ∙ ap (λ (r : Result (model.Credential × List ℕ) Stop). told xid (r >>= from_credential offer (c.numbers, c.rest)))
      (bad_at (flavor_of c.numbers) (size_of c.numbers) c.rest rest_fits c.known c.bad)

  program_again : (bytes : List ℕ) (xid : ℕ) → IsOfNoProgramBy offer bytes xid → heard_by offer bytes ≡ refused xid model.ProgramUnavailable
  program_again bytes xid p = at_head bytes xid p.program p.version p.number p.who p.arguments p.head ∙ rw p.none refl

  other_again : (bytes : List ℕ) (xid offered : ℕ) → IsOfAnotherVersionBy offer bytes xid offered
      → heard_by offer bytes ≡ refused xid (model.ProgramMismatch offered offered)
  other_again bytes xid offered v =
      let other : eqb v.version offered ≡ false = ne_eqb v.version offered v.other in
      at_head bytes xid v.program v.version v.number v.who v.arguments v.head ∙ rw (v.served_is, other) refl

  none_again : (bytes : List ℕ) (xid : ℕ) → IsOfNoProcedureBy offer bytes xid → heard_by offer bytes ≡ refused xid model.ProcedureUnavailable
  none_again bytes xid p =
      let same : eqb p.version p.version ≡ true = eq-eqb p.version p.version refl in
      at_head bytes xid p.program p.version p.number p.who p.arguments p.head ∙ rw (p.served_is, none_numbered offer p.program p.number p.none, same) refl

  -- ---- arguments

  call_bytes : (bytes : List ℕ) (xid : ℕ) (p : Procedure) (who : model.Credential) (arguments : List ℕ) → IsBytes bytes
      → IsCallBy offer bytes xid p who arguments
      → IsBytes arguments
  call_bytes bytes xid p who arguments fits c =
      rest_bytes call_shape (call_value xid (numbers_of p) c.version c.cred c.verf) bytes arguments fits (record { fits = c.fits; parts = c.bytes_are })

  garbage_by : (p : Procedure) (arguments : List ℕ) (caller : model.Caller) → IsBytes arguments → ((call : model.Call) → Asks p arguments call → ⊥)
      → (r : Result model.Call Unread) → asked p arguments ≡ r → asked_by (form_of offer) caller r ≡ model.Refused model.GarbageArguments
  garbage_by p arguments caller fits none (Ok call) e = absurd (none call (asked_found p arguments call fits e))
  garbage_by p arguments caller fits none (Err fault) e = refl

  at_arguments : (bytes : List ℕ) (xid : ℕ) (p : Procedure) (who : model.Credential) (arguments : List ℕ) (a : model.Asked)
      → IsCallBy offer bytes xid p who arguments
      → asked_by (form_of offer) (caller_by xid who) (asked p arguments) ≡ a → heard_by offer bytes ≡ Ok (record { xid = xid; asked = a })
  at_arguments bytes xid p who arguments a c e =
      ap (heard_from (form_of offer)) (call_again offer bytes xid p who arguments c) ∙ ap (λ (b : model.Asked). Ok (record { xid = xid; asked = b })) e

  garbage_again : (bytes : List ℕ) (xid : ℕ) → IsBytes bytes → HasGarbageBy offer bytes xid → heard_by offer bytes ≡ refused xid model.GarbageArguments
  garbage_again bytes xid fits g =
      at_arguments bytes xid g.procedure g.who g.arguments _ g.head
      (garbage_by g.procedure g.arguments (caller_by xid g.who) (call_bytes bytes xid g.procedure g.who g.arguments fits g.head) g.none
      (asked g.procedure g.arguments) refl)

  asking_again : (bytes : List ℕ) (xid : ℕ) (call : model.Call) (caller : model.Caller) → IsAskingBy offer bytes xid call caller
      → heard_by offer bytes ≡ Ok (record { xid = xid; asked = model.Ask call caller })
  asking_again bytes xid call caller a =
      at_arguments bytes xid a.procedure a.who a.arguments _ a.head
      (ap (asked_by (form_of offer) (caller_by xid a.who)) (asked_again a.procedure a.arguments a.came a.asks)
      ∙ ap (λ (c : model.Call). model.Ask c (caller_by xid a.who)) (sym a.heard)
      ∙ ap (λ (c : model.Caller). model.Ask call c) (sym a.caller_is))

  -- ---- all together

  refused_again : (bytes : List ℕ) (xid : ℕ) (reply : model.Reply) → IsBytes bytes → IsRefusedWithBy offer bytes xid reply
      → heard_by offer bytes ≡ refused xid reply
  refused_again bytes xid (model.RpcMismatch low high) fits s = rw (s.0, s.1) (rpc_again bytes xid s.2)
  refused_again bytes xid (model.AuthError number) fits (inl s) = rw s.0 (bad_again bytes xid fits s.1)
  refused_again bytes xid (model.AuthError number) fits (inr s) = rw s.0 (flavor_again bytes xid s.1)
  refused_again bytes xid model.ProgramUnavailable fits s = program_again bytes xid s
  refused_again bytes xid (model.ProgramMismatch low high) fits s = rw (← s.0) (other_again bytes xid low s.1)
  refused_again bytes xid model.ProcedureUnavailable fits s = none_again bytes xid s
  refused_again bytes xid model.GarbageArguments fits s = garbage_again bytes xid fits s
  refused_again bytes xid model.SystemError fits s = absurd s
  refused_again bytes xid (model.Success answer) fits s = absurd s

  says_again : (bytes : List ℕ) (xid : ℕ) (a : model.Asked) → IsBytes bytes → SaysBy offer bytes xid a
      → heard_by offer bytes ≡ Ok (record { xid = xid; asked = a })
  says_again bytes xid (model.Ask call caller) fits s = asking_again bytes xid call caller s
  says_again bytes xid (model.Refused reply) fits s = refused_again bytes xid reply fits s
  says_again bytes xid model.Undecoded fits s = absurd s

  pub heard_again : (bytes : List ℕ) (r : Result Heard ℕ) → IsBytes bytes → IsHeardBy offer bytes r → heard_by offer bytes ≡ r
  heard_again bytes (Ok h) fits s = says_again bytes h.xid h.asked fits s
  heard_again bytes (Err number) fits (inl s) = rw s.0 (incomplete_again bytes fits s.1)
  heard_again bytes (Err number) fits (inr s) = rw s.0 (no_call_again bytes s.1)

  -- ---- each case

  exactly : (bytes : List ℕ) (r : Result Heard ℕ) → IsBytes bytes → Exactly (heard_by offer bytes ≡ r) (IsHeardBy offer bytes r)
  exactly bytes r fits = (λ e. subst (IsHeardBy offer bytes) e (heard_is offer bytes fits), heard_again bytes r fits)

  pub exactly_incomplete : (bytes : List ℕ) → IsBytes bytes → Exactly (heard_by offer bytes ≡ Err 12) (IsIncomplete bytes)
  exactly_incomplete bytes fits =
      let both = exactly bytes (Err 12) fits in (
        λ e. elim (both.0 e) [
          | inl h ↦ h.1
          | inr h ↦ absurd (omega (arith, h.0))
        ],
        λ c. both.1 (inl (refl, c)),
      )

  pub exactly_no_call : (bytes : List ℕ) → IsBytes bytes → Exactly (heard_by offer bytes ≡ Err 13) (IsNoCall bytes)
  exactly_no_call bytes fits =
      let both = exactly bytes (Err 13) fits in (
        λ e. elim (both.0 e) [
          | inl h ↦ absurd (omega (arith, h.0))
          | inr h ↦ h.1
        ],
        λ c. both.1 (inr (refl, c)),
      )

  pub exactly_bad : (bytes : List ℕ) (xid : ℕ) → IsBytes bytes → Exactly (RefusesBy offer bytes xid (model.AuthError 1)) (HasBadCredential bytes xid)
  exactly_bad bytes xid fits =
      let both = exactly bytes (refused xid (model.AuthError 1)) fits in (
        λ e. elim (both.0 e) [
          | inl h ↦ h.1
          | inr h ↦ absurd (omega (arith, h.0))
        ],
        λ c. both.1 (inl (refl, c)),
      )

  pub exactly_rejected : (bytes : List ℕ) (xid : ℕ) → IsBytes bytes → Exactly (RefusesBy offer bytes xid (model.AuthError 2)) (HasAnotherFlavor bytes xid)
  exactly_rejected bytes xid fits =
      let both = exactly bytes (refused xid (model.AuthError 2)) fits in (
        λ e. elim (both.0 e) [
          | inl h ↦ absurd (omega (arith, h.0))
          | inr h ↦ h.1
        ],
        λ c. both.1 (inr (refl, c)),
      )

  pub exactly_rpc : (bytes : List ℕ) (xid : ℕ) → IsBytes bytes → Exactly (RefusesBy offer bytes xid (model.RpcMismatch 2 2)) (IsOfAnotherRpc bytes xid)
  exactly_rpc bytes xid fits =
      let both = exactly bytes (refused xid (model.RpcMismatch 2 2)) fits in
      (λ e. (both.0 e).2, λ c. both.1 (refl, refl, c))

  pub exactly_program : (bytes : List ℕ) (xid : ℕ) → IsBytes bytes
      → Exactly (RefusesBy offer bytes xid model.ProgramUnavailable) (IsOfNoProgramBy offer bytes xid)
  exactly_program bytes xid fits = exactly bytes (refused xid model.ProgramUnavailable) fits

  pub exactly_version : (bytes : List ℕ) (xid offered : ℕ) → IsBytes bytes
      → Exactly (RefusesBy offer bytes xid (model.ProgramMismatch offered offered)) (IsOfAnotherVersionBy offer bytes xid offered)
  exactly_version bytes xid offered fits =
      let both = exactly bytes (refused xid (model.ProgramMismatch offered offered)) fits in
      (λ e. (both.0 e).1, λ c. both.1 (refl, c))

  pub exactly_procedure : (bytes : List ℕ) (xid : ℕ) → IsBytes bytes
      → Exactly (RefusesBy offer bytes xid model.ProcedureUnavailable) (IsOfNoProcedureBy offer bytes xid)
  exactly_procedure bytes xid fits = exactly bytes (refused xid model.ProcedureUnavailable) fits

  pub exactly_garbage : (bytes : List ℕ) (xid : ℕ) → IsBytes bytes → Exactly (RefusesBy offer bytes xid model.GarbageArguments) (HasGarbageBy offer bytes xid)
  exactly_garbage bytes xid fits = exactly bytes (refused xid model.GarbageArguments) fits

  pub exactly_call : (bytes : List ℕ) (xid : ℕ) (call : model.Call) (caller : model.Caller) → IsBytes bytes
      → Exactly (AsksForBy offer bytes xid call caller) (IsAskingBy offer bytes xid call caller)
  exactly_call bytes xid call caller fits = exactly bytes (Ok (record { xid = xid; asked = model.Ask call caller })) fits
