-- What is read of a call that is spelled.
use Rattle.std.proofs.Common.{◌≡◌, ℕ, ◌<◌, ◌≤◌, ◌^◌, List, ◌++◌, length, nat_lt, false, Some, Ok, refl, ap, ◌∙◌, append_assoc, lit<}
use Rattle.std.proofs.lemmas.Bool.{le-ltb}
use Rattle.std.specs.declared.net.ip_addr.IpAddr.{IpAddr}
use Rattle.xdr.specs.Shape.{Word, Fixed, Value, spelling, word, padded}
use Rattle.xdr.specs.Reading.{read}
use Rattle.xdr.specs.lemmas.Shapes.{again}
use Rattle.port_mapper.specs.declared.registration.Registration.{Registration}
use Rattle.port_mapper.specs.Calls.{◌&◌, Call, auth_shape, call_at, credential_at, version_at, xid_at}
use Rattle.port_mapper.specs.Answers.{reply_by, reply_from, reply_to}
use Rattle.port_mapper.specs.Asking.{outcome_of}
use Rattle.port_mapper.specs.Replies.{reply_bytes}
use Rattle.port_mapper.specs.Spelled.{CallFits, call_bytes}

xid_heard : (xid : ℕ) (rest : List ℕ) → xid < 2 ^ 32 → xid_at (word xid ++ (word 0 ++ rest)) ≡ Ok (xid, rest)
xid_heard xid rest fits =
    let e : read (Word & Word) (word xid ++ (word 0 ++ rest)) ≡ Ok ((xid, 0), rest) = again (Word & Word) (xid, 0) rest (fits, lit< tt) in
    rw e refl

version_heard : (rest : List ℕ) → version_at (word 2 ++ rest) ≡ Ok rest
version_heard rest =
    let e : read Word (word 2 ++ rest) ≡ Ok (2, rest) = again Word 2 rest (lit< tt) in
    rw e refl

credential_heard : (flavor : ℕ) (body rest : List ℕ) → flavor < 2 ^ 32 → length body ≤ 400 → length body < 2 ^ 32
    → credential_at (word flavor ++ (word (length body) ++ (padded body ++ rest))) ≡ Ok rest
credential_heard flavor body rest fits few short =
    let e : read (Word & Word) (word flavor ++ (word (length body) ++ (padded body ++ rest))) ≡ Ok ((flavor, length body), padded body ++ rest) =
    again (Word & Word) (flavor, length body) (padded body ++ rest) (fits, short) in
    let f : read (Fixed (length body)) (padded body ++ rest) ≡ Ok (body, rest) = again (Fixed (length body)) body rest refl in
    let g : nat_lt 400 (length body) ≡ false = le-ltb 400 (length body) few in
    rw e (rw g (rw f refl))

call_heard : (call : Call) (xid : ℕ) (credential verifier : Value auth_shape) → CallFits xid call credential verifier
    → call_at
    (word 2
    ++ (word call.program
    ++ (word call.version
    ++ (word call.procedure ++ (word credential.0 ++ (word (length credential.1) ++ (padded credential.1 ++ (spelling auth_shape verifier ++ call.arguments))))))))
    ≡ Ok call
call_heard call xid credential verifier fits =
    let behind = spelling auth_shape verifier ++ call.arguments in
    let cred = word credential.0 ++ (word (length credential.1) ++ (padded credential.1 ++ behind)) in
    let numbers : read (Word & Word & Word) (word call.program ++ (word call.version ++ (word call.procedure ++ cred)))
    ≡ Ok ((call.program, (call.version, call.procedure)), cred) =
    again (Word & Word & Word) (call.program, (call.version, call.procedure)) cred (fits.program_fits, (fits.version_fits, fits.procedure_fits)) in
    let verf : read auth_shape behind ≡ Ok (verifier, call.arguments) = again auth_shape verifier call.arguments fits.verifier_fits in
    rw (version_heard (word call.program ++ (word call.version ++ (word call.procedure ++ cred)))) (
    rw numbers (
    rw (credential_heard credential.0 credential.1 behind fits.credential_fits.0 fits.credential_fits.1.0 fits.credential_fits.1.1) (
    rw verf refl)))

-- a call that is spelled is answered
pub answered : (registered : List Registration) (reached : IpAddr) (xid : ℕ) (call : Call) (credential verifier : Value auth_shape)
    → CallFits xid call credential verifier
    → reply_to registered reached (call_bytes xid call credential verifier)
    ≡ Some (reply_bytes registered reached xid (outcome_of registered reached call))
answered registered reached xid call credential verifier fits =
    let behind = spelling auth_shape verifier ++ call.arguments in
    let body =
    word 2
    ++ (word call.program
    ++ (word call.version ++ (word call.procedure ++ (word credential.0 ++ (word (length credential.1) ++ (padded credential.1 ++ behind)))))) in
    let regrouped : call_bytes xid call credential verifier ≡ word xid ++ (word 0 ++ body) =
    ap (λ l. word xid ++ (word 0 ++ (word 2 ++ (word call.program ++ (word call.version ++ (word call.procedure ++ (word credential.0 ++ (word (length credential.1) ++ l))))))))
    (append_assoc (padded credential.1) (spelling auth_shape verifier) call.arguments) in
    ap (reply_to registered reached) regrouped
    ∙ ap (reply_from registered reached) (xid_heard xid body fits.xid_fits)
    ∙ ap (reply_by registered reached xid) (call_heard call xid credential verifier fits)
