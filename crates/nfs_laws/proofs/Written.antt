-- The bytes written, where one more entry is finished.
use Rattle.std.proofs.Common.{◌≡◌, ℕ, ◌≤◌, Bool, true, false, List, [], ◌∷◌, ◌++◌, length, Option, Some, None, refl, sym, ap, subst, ◌∙◌, arith, append_assoc}
use Rattle.std.proofs.Common.{length-append}
use Rattle.std.specs.Prelude.{IfSome, slice_get, ◌==◌, if◌then◌else◌}
use Rattle.std.specs.List.{AllByRecursion}
use Rattle.std.proofs.lemmas.Bool.{ne_eqb, eq-eqb}
use Rattle.std.proofs.lemmas.List.{append-nil, take-append-le}
use Rattle.nfs_model.specs.Types.{Reply}
use Rattle.nfs_model.specs.Server.{Server}
use Rattle.nfs_model.specs.Replay.{FinishedCall, step_of, server_after, IsLawful, AreLawful}
use Rattle.nfs_model.specs.World.{Codec, Setup, Connection, changed_at, written_to, with_output}
use Rattle.nfs_model.specs.Headline.{replies, up_to, start}
use Rattle.nfs_laws.proofs.Lists.{changed_all}

-- ---- one more entry

pub server_after-push : (s : Server) (es : List FinishedCall) (e : FinishedCall) → server_after s (es ++ e ∷ []) ≡ (step_of (server_after s es) e).server
server_after-push s [] e = refl
server_after-push s (x ∷ es) e = server_after-push (step_of s x).server es e

pub AreLawful-push : (s : Server) (es : List FinishedCall) (e : FinishedCall) → AreLawful s es → IsLawful (server_after s es) e e.starved
    → AreLawful s (es ++ e ∷ [])
AreLawful-push s [] e p h = (h, tt)
AreLawful-push s (x ∷ es) e p h = (p.0, AreLawful-push (step_of s x).server es e p.1 h)

-- the bytes of an entry for a connection
abbrev bytes_of : Codec → ℕ → Server → FinishedCall → List ℕ
bytes_of codec c s e = if e.connection == c then codec.reply_record e.xid (step_of s e).reply else []

replies-push : (codec : Codec) (c : ℕ) (s : Server) (es : List FinishedCall) (e : FinishedCall)
    → replies codec c s (es ++ e ∷ []) ≡ replies codec c s es ++ bytes_of codec c (server_after s es) e
replies-push codec c s [] e = append-nil _
replies-push codec c s (x ∷ es) e =
    ap (λ r. bytes_of codec c s x ++ r) (replies-push codec c (step_of s x).server es e)
    ∙ sym (append_assoc (bytes_of codec c s x) (replies codec c (step_of s x).server es) (bytes_of codec c (server_after (step_of s x).server es) e))

no_bytes : (b : Bool) (xs ys : List ℕ) → b ≡ false → ys ≡ [] → (if b then xs else []) ++ ys ≡ []
no_bytes true xs ys e n = absurd cc
no_bytes false xs ys e n = n

-- a connection that no entry names
pub replies_none : (codec : Codec) (c : ℕ) (s : Server) (es : List FinishedCall) → AllByRecursion (λ e. e.connection ≡ c → ⊥) es → replies codec c s es ≡ []
replies_none codec c s [] p = refl
replies_none codec c s (e ∷ es) p = no_bytes (e.connection == c) _ _ (ne_eqb e.connection c p.0) (replies_none codec c (step_of s e).server es p.1)

-- ---- all connections

abbrev pub HasReplies : Setup → List Connection → List FinishedCall → Type 0
HasReplies setup connections finished =
    (c : ℕ) (x : Connection) → slice_get connections c ≡ Some x → x.output ≡ replies setup.codec c (start setup) (up_to x.closed finished)

abbrev pub AreUntil : List Connection → List FinishedCall → Type 0
AreUntil connections finished = (c : ℕ) (x : Connection) → slice_get connections c ≡ Some x → IfSome x.closed (λ n. n ≤ length finished)

-- an entry of another connection
replies_elsewhere : (codec : Codec) (c : ℕ) (s : Server) (es : List FinishedCall) (e : FinishedCall) (closed : Option ℕ) (out : List ℕ)
    → (e.connection == c) ≡ false → IfSome closed (λ n. n ≤ length es) → out ≡ replies codec c s (up_to closed es)
    → out ≡ replies codec c s (up_to closed (es ++ e ∷ []))
replies_elsewhere codec c s es e None out ne h o =
    o ∙ sym (replies-push codec c s es e ∙ ap
    (λ (b : Bool). replies codec c s es ++ (if b then codec.reply_record e.xid (step_of (server_after s es) e).reply else [])) ne ∙ append-nil _)
replies_elsewhere codec c s es e (Some n) out ne h o = o ∙ ap (λ (k : List FinishedCall). replies codec c s k) (sym (take-append-le n es (e ∷ []) h))

-- an entry of this one
replies_here : (codec : Codec) (s : Server) (es : List FinishedCall) (e : FinishedCall) (reply : Reply) (x : Connection) (closed : Option ℕ)
    → x.closed ≡ closed → IfSome closed (λ n. n ≤ length es) → reply ≡ (step_of (server_after s es) e).reply
    → x.output ≡ replies codec e.connection s (up_to closed es)
    → (written_to (codec.reply_record e.xid reply) closed x).output ≡ replies codec e.connection s (up_to closed (es ++ e ∷ []))
replies_here codec s es e reply x None c h r o =
    ap (λ (out : List ℕ). out ++ codec.reply_record e.xid reply) o
    ∙ ap (λ (y : Reply). replies codec e.connection s es ++ codec.reply_record e.xid y) r
    ∙ sym (replies-push codec e.connection s es e
    ∙ ap (λ (b : Bool). replies codec e.connection s es ++ (if b then codec.reply_record e.xid (step_of (server_after s es) e).reply else []))
    (eq-eqb e.connection e.connection refl))
replies_here codec s es e reply x (Some n) c h r o = o ∙ ap (λ (k : List FinishedCall). replies codec e.connection s k) (sym (take-append-le n es (e ∷ []) h))

pub written_closed : (bytes : List ℕ) (o : Option ℕ) (x : Connection) → (written_to bytes o x).closed ≡ x.closed
written_closed bytes None x = refl
written_closed bytes (Some n) x = refl

pub written_stream : (bytes : List ℕ) (o : Option ℕ) (x : Connection) → (written_to bytes o x).stream ≡ x.stream
written_stream bytes None x = refl
written_stream bytes (Some n) x = refl

until_push : (closed : Option ℕ) (es : List FinishedCall) (e : FinishedCall) → IfSome closed (λ n. n ≤ length es)
    → IfSome closed (λ n. n ≤ length (es ++ e ∷ []))
until_push None es e h = tt
until_push (Some n) es e h = omega (arith, length-append es (e ∷ []))

-- a call finished, with the reply that the serial server gives it
pub replies_finish : (setup : Setup) (connections : List Connection) (es : List FinishedCall) (e : FinishedCall) (reply : Reply)
    → HasReplies setup connections es → AreUntil connections es → reply ≡ (step_of (server_after (start setup) es) e).reply
    → HasReplies setup (changed_at (with_output (setup.codec.reply_record e.xid reply)) connections e.connection) (es ++ e ∷ [])
replies_finish setup connections es e reply o u r =
    changed_all (λ c x. x.output ≡ replies setup.codec c (start setup) (up_to x.closed (es ++ e ∷ [])))
    (with_output (setup.codec.reply_record e.xid reply)) connections e.connection
    (λ c x at ne. replies_elsewhere setup.codec c (start setup) es e x.closed x.output (ne_eqb e.connection c (λ q. ne (sym q))) (u c x at) (o c x at))
    (λ x at. replies_here setup.codec (start setup) es e reply x x.closed refl (u e.connection x at) r (o e.connection x at)
    ∙ ap (λ (k : Option ℕ). replies setup.codec e.connection (start setup) (up_to k (es ++ e ∷ [])))
    (sym (written_closed (setup.codec.reply_record e.xid reply) x.closed x)))

pub until_finish : (connections : List Connection) (es : List FinishedCall) (e : FinishedCall) (bytes : List ℕ) (k : ℕ)
    → AreUntil connections es → AreUntil (changed_at (with_output bytes) connections k) (es ++ e ∷ [])
until_finish connections es e bytes k u =
    changed_all (λ c x. IfSome x.closed (λ n. n ≤ length (es ++ e ∷ []))) (with_output bytes) connections k
    (λ c x at ne. until_push x.closed es e (u c x at))
    (λ x at. subst (λ (o : Option ℕ). IfSome o (λ n. n ≤ length (es ++ e ∷ []))) (sym (written_closed bytes x.closed x)) (until_push x.closed es e (u k x at)))

-- a change that writes nothing
pub replies_changed : (setup : Setup) (connections : List Connection) (es : List FinishedCall) (f : Connection → Connection) (k : ℕ)
    → ((x : Connection) → (f x).output ≡ x.output) → ((x : Connection) → (f x).closed ≡ x.closed) → HasReplies setup connections es
    → HasReplies setup (changed_at f connections k) es
replies_changed setup connections es f k same close o =
    changed_all (λ c x. x.output ≡ replies setup.codec c (start setup) (up_to x.closed es)) f connections k
    (λ c x at ne. o c x at)
    (λ x at. same x ∙ o k x at ∙ ap (λ (n : Option ℕ). replies setup.codec k (start setup) (up_to n es)) (sym (close x)))

pub until_changed : (connections : List Connection) (es : List FinishedCall) (f : Connection → Connection) (k : ℕ)
    → ((x : Connection) → (f x).closed ≡ x.closed) → AreUntil connections es → AreUntil (changed_at f connections k) es
until_changed connections es f k close u =
    changed_all (λ c x. IfSome x.closed (λ n. n ≤ length es)) f connections k
    (λ c x at ne. u c x at)
    (λ x at. subst (λ (o : Option ℕ). IfSome o (λ n. n ≤ length es)) (sym (close x)) (u k x at))
