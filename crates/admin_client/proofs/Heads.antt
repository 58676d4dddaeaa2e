-- Replies as they are read.
use Rattle.std.proofs.Common.{◌≡◌, ℕ, ◌^◌, ◌<◌, Bool, true, false, cond, eqb, List, [], ◌++◌, Option, Some}
use Rattle.std.proofs.Common.{None, Result, Ok, Err, refl, ap, ◌∙◌, arith, inl, inr, map}
use Rattle.std.proofs.lemmas.Bool.{eqb-true, eq-eqb}
use Rattle.xdr.specs.declared.fault.Fault.{Fault}
use Rattle.xdr.specs.Shape.{Shape, Case, NoCase, Value, Fits, spelling}
use Rattle.xdr.specs.Reading.{Reads, read, all_of, all_read}
use Rattle.xdr.specs.lemmas.Items.{IsBytes}
use Rattle.xdr.specs.lemmas.Shapes.{found, again, all_found, all_again}
use Rattle.nfs_model.specs.Types as model
use Rattle.nfs_types.specs.Results.{answer_bytes, census_shape, count_value}
use Rattle.rpc_msg.specs.Replies.{auth_shape, no_verifier, reply_bytes}
use Rattle.admin_client.specs.declared.fault.AdminFault.{AdminFault}
use Rattle.admin_client.specs.declared.fault.AdminFault.TheVariants.{OfAnotherCall, Refused}
use Rattle.admin_client.specs.declared.growth.Growth.{Growth}
use Rattle.admin_client.specs.declared.growth.Growth.TheVariants.{Grown, NoVolume, NoRange, TooManyRanges, TooFewSpare}
use Rattle.admin_client.specs.declared.refusal.CallRefusal.{CallRefusal}
use Rattle.admin_client.specs.declared.refusal.CallRefusal.TheVariants as refusals
use Rattle.admin_client.specs.Telling.{accepted_shape, body_shape, head_shape, accepted_refusal, refusal_of, body_in, growth_shape, growth_value, formed}
use Rattle.admin_client.specs.Telling.{refused_where, behind, results_behind, results_at, told_behind, told_by, success, answer_of, refused_by, RefusalFits}

-- ---- a head that is spelled is read

results_told : (xid : ℕ) (bytes : List ℕ) (v : Value body_shape) (rest : List ℕ) → read head_shape bytes ≡ Ok ((xid, inl v), rest)
    → results_at xid bytes ≡ behind (refusal_of v) rest
results_told xid bytes v rest e =
    let same : eqb xid xid ≡ true = eq-eqb xid xid refl in
    ap (results_behind xid) e ∙ rw same refl

told_success : (results : Shape) (xid : ℕ) (answer : model.Answer) (v : Value results) → xid < 2 ^ 32 → all_of results (answer_bytes answer) ≡ Ok v
    → told_by results xid (reply_bytes xid (model.Success answer)) ≡ Ok v
told_success results xid answer v small e =
    let fits : Fits head_shape (success xid no_verifier) =
    (small, (omega arith, (omega arith, ((omega arith, (omega arith, omega arith)), (omega arith, tt))))) in
    let h = again head_shape (success xid no_verifier) (answer_bytes answer) fits in
    ap (told_behind results) (results_told xid (reply_bytes xid (model.Success answer)) (inl (no_verifier, inl tt)) (answer_bytes answer) h) ∙ ap formed e

pub counts_told : (xid : ℕ) (counts : List model.VolumeCount) → xid < 2 ^ 32 → Fits census_shape (map count_value counts)
    → told_by census_shape xid (reply_bytes xid (model.Success (model.CensusDone counts))) ≡ Ok (map count_value counts)
counts_told xid counts small fits =
    told_success census_shape xid (model.CensusDone counts) (map count_value counts) small
    (all_again census_shape (spelling census_shape (map count_value counts)) (map count_value counts) (fits, refl))

growth_spelled : (growth : Growth) → answer_bytes (answer_of growth) ≡ spelling growth_shape (growth_value growth)
growth_spelled (Grown blocks) = refl
growth_spelled NoVolume = refl
growth_spelled NoRange = refl
growth_spelled TooManyRanges = refl
growth_spelled TooFewSpare = refl

pub growths_told : (xid : ℕ) (growth : Growth) → xid < 2 ^ 32 → Fits growth_shape (growth_value growth)
    → told_by growth_shape xid (reply_bytes xid (model.Success (answer_of growth))) ≡ Ok (growth_value growth)
growths_told xid growth small fits =
    told_success growth_shape xid (answer_of growth) (growth_value growth) small
    (all_again growth_shape (answer_bytes (answer_of growth)) (growth_value growth) (fits, growth_spelled growth))

-- ---- refusals

-- the body of a reply that refuses
abbrev refused_value : CallRefusal → Value body_shape
refused_value refusals.ProgramUnavailable = inl (no_verifier, inr (inl tt))
refused_value (refusals.ProgramMismatch low high) = inl (no_verifier, inr (inr (inl (low, high))))
refused_value refusals.ProcedureUnavailable = inl (no_verifier, inr (inr (inr (inl tt))))
refused_value refusals.GarbageArguments = inl (no_verifier, inr (inr (inr (inr (inl tt)))))
refused_value refusals.SystemError = inl (no_verifier, inr (inr (inr (inr (inr (inl tt))))))
refused_value (refusals.RpcMismatch low high) = inr (inl (inl (low, high)))
refused_value (refusals.AuthError number) = inr (inl (inr (inl number)))

verifier_fits : Fits auth_shape no_verifier
verifier_fits = (omega arith, (omega arith, omega arith))

refused_fits : (refusal : CallRefusal) → RefusalFits refusal → Fits body_shape (refused_value refusal)
refused_fits refusals.ProgramUnavailable f = (omega arith, (verifier_fits, (omega arith, (omega arith, tt))))
refused_fits (refusals.ProgramMismatch low high) f = (omega arith, (verifier_fits, (omega arith, (omega arith, (omega arith, f)))))
refused_fits refusals.ProcedureUnavailable f = (omega arith, (verifier_fits, (omega arith, (omega arith, (omega arith, (omega arith, tt))))))
refused_fits refusals.GarbageArguments f =
    (omega arith, (verifier_fits, (omega arith, (omega arith, (omega arith, (omega arith, (omega arith, tt)))))))
refused_fits refusals.SystemError f =
    (omega arith, (verifier_fits, (omega arith, (omega arith, (omega arith, (omega arith, (omega arith, (omega arith, tt))))))))
refused_fits (refusals.RpcMismatch low high) f = (omega arith, (omega arith, (omega arith, f)))
refused_fits (refusals.AuthError number) f = (omega arith, (omega arith, (omega arith, (omega arith, f))))

refused_spelled : (xid : ℕ) (refusal : CallRefusal) → reply_bytes xid (refused_by refusal) ≡ spelling head_shape (xid, inl (refused_value refusal)) ++ []
refused_spelled xid refusals.ProgramUnavailable = refl
refused_spelled xid (refusals.ProgramMismatch low high) = refl
refused_spelled xid refusals.ProcedureUnavailable = refl
refused_spelled xid refusals.GarbageArguments = refl
refused_spelled xid refusals.SystemError = refl
refused_spelled xid (refusals.RpcMismatch low high) = refl
refused_spelled xid (refusals.AuthError number) = refl

refused_is : (refusal : CallRefusal) → refusal_of (refused_value refusal) ≡ Some refusal
refused_is refusals.ProgramUnavailable = refl
refused_is (refusals.ProgramMismatch low high) = refl
refused_is refusals.ProcedureUnavailable = refl
refused_is refusals.GarbageArguments = refl
refused_is refusals.SystemError = refl
refused_is (refusals.RpcMismatch low high) = refl
refused_is (refusals.AuthError number) = refl

pub refusals_told : (results : Shape) (xid : ℕ) (refusal : CallRefusal) → xid < 2 ^ 32 → RefusalFits refusal
    → told_by results xid (reply_bytes xid (refused_by refusal)) ≡ Err (Refused refusal)
refusals_told results xid refusal small f =
    let v = refused_value refusal in
    let fits : Fits head_shape (xid, inl v) = (small, (omega arith, refused_fits refusal f)) in
    let h = ap (read head_shape) (refused_spelled xid refusal) ∙ again head_shape (xid, inl v) [] fits in
    ap (told_behind results)
    (results_told xid (reply_bytes xid (refused_by refusal)) v [] h ∙ ap (λ (o : Option CallRefusal). behind o []) (refused_is refusal))

-- ---- what is told was spelled

accepted_done : (a : Value accepted_shape) → accepted_refusal a ≡ None → a ≡ inl tt
accepted_done (inl u) e = refl
accepted_done (inr (inl u)) e = absurd cc
accepted_done (inr (inr (inl u))) e = absurd cc
accepted_done (inr (inr (inr (inl u)))) e = absurd cc
accepted_done (inr (inr (inr (inr (inl u))))) e = absurd cc
accepted_done (inr (inr (inr (inr (inr (inl u)))))) e = absurd cc
accepted_done (inr (inr (inr (inr (inr (inr v)))))) e = absurd v

abbrev Body : Type 0
Body = Value (Case 1 body_shape NoCase)

abbrev done_with : Value auth_shape → Body
done_with verifier = inl (inl (verifier, inl tt))

body_done : (b : Body) → refusal_of (body_in b) ≡ None → (verifier : Value auth_shape) × (b ≡ done_with verifier)
body_done (inl (inl v)) e = (v.0, ap (λ (a : Value accepted_shape). inl (inl (v.0, a))) (accepted_done v.1 e))
body_done (inl (inr (inl v))) e = absurd cc
body_done (inl (inr (inr v))) e = absurd v
body_done (inr v) e = absurd v

not_refused : (results : Shape) (refusal : CallRefusal) (r : Result (Unit {0}) Fault) (v : Value results)
    → told_behind results (refused_where refusal r) ≡ Ok v → ⊥
not_refused results refusal (Ok u) v e = cc
not_refused results refusal (Err fault) v e = cc

told_formed : (results : Shape) (r : Result (Value results) Fault) (v : Value results) → formed r ≡ Ok v → r ≡ Ok v
told_formed results (Ok x) v e = cc
told_formed results (Err fault) v e = absurd cc

told_done : (results : Shape) (o : Option CallRefusal) (rest : List ℕ) (v : Value results) → told_behind results (behind o rest) ≡ Ok v
    → (o ≡ None) × (all_of results rest ≡ Ok v)
told_done results None rest v e = (refl, told_formed results (all_of results rest) v e)
told_done results (Some refusal) rest v e = absurd (not_refused results refusal (all_read rest) v e)

told_of : (results : Shape) (b : Bool) (r : Result (List ℕ) AdminFault) (v : Value results) → told_behind results (cond b r (Err OfAnotherCall)) ≡ Ok v
    → (b ≡ true) × (told_behind results r ≡ Ok v)
told_of results true r v e = (refl, e)
told_of results false r v e = absurd cc

abbrev Told : (results : Shape) → ℕ → List ℕ → Value results → Type 0
Told results xid bytes v = (verifier : Value auth_shape) × (bytes ≡ spelling head_shape (success xid verifier) ++ spelling results v)

same_head : (h : Value head_shape) (xid : ℕ) (verifier : Value auth_shape) → h.0 ≡ xid → h.1 ≡ done_with verifier → h ≡ success xid verifier
same_head h xid verifier e f = rw (← e, ← f) refl

told_read : (results : Shape) (xid : ℕ) (bytes : List ℕ) (v : Value results) (r : Reads (Value head_shape)) → IsBytes bytes → read head_shape bytes ≡ r
    → told_behind results (results_behind xid r) ≡ Ok v → Told results xid bytes v
told_read results xid bytes v (Ok h) fits e told =
    let t = told_of results (eqb h.0.0 xid) (behind (refusal_of (body_in h.0.1)) h.1) v told in
    let d = told_done results (refusal_of (body_in h.0.1)) h.1 v t.1 in
    let b = body_done h.0.1 d.0 in
    let f = found head_shape bytes h fits e in
    let s = all_found results h.1 v f.0.rest_fits d.1 in
    let same = same_head h.0 xid b.0 (eqb-true h.0.0 xid t.0) b.1 in
    (b.0, f.0.parts ∙ ap (λ (w : Value head_shape). spelling head_shape w ++ h.1) same ∙ ap (λ (l : List ℕ). spelling head_shape (success xid b.0) ++ l) s.1)
told_read results xid bytes v (Err fault) fits e told = absurd cc

pub told_spelled : (results : Shape) (xid : ℕ) (bytes : List ℕ) (v : Value results)
    → IsBytes bytes → told_by results xid bytes ≡ Ok v → Told results xid bytes v
told_spelled results xid bytes v fits told = told_read results xid bytes v (read head_shape bytes) fits refl told
