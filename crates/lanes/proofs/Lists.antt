-- What came and what ended, list by list.
use Rattle.std.proofs.Common.{◌≡◌, ◌≢◌, ◌==◌, ℕ, ◌+◌, Bool, true, false, if◌then◌else◌, List, [], ◌∷◌, ◌++◌, Option, Some, None, refl, ap, ◌∙◌}
use Rattle.std.proofs.Common.{length, ne_eqb, arith}
use Rattle.nfs_model.specs.Home.{home_of_asked}
use Rattle.nfs_model.specs.Tree.{Affinity, Layout}
use Rattle.nfs_model.specs.World.{Heard}
use Rattle.nfs_model.specs.volume.lemmas.Numbered.{itself}
use Rattle.outboxes.specs.Boxes.{Addressed}
use Rattle.outboxes.specs.Messages.{ReplyMessage}
use Rattle.service.specs.declared.job.Job.{Job}
use Rattle.service.specs.declared.job.Job.TheVariants.{Serve, Inner}
use Rattle.granted_calls.specs.Balance.{FilerEntry}
use Rattle.tcp_front.specs.Arrivals.{Arrival, placed, arrivals, arrival_of}
use Rattle.tcp_front.specs.Peers.{Sender, asked_from, from_peer}
use Rattle.lanes.specs.Story.{comes_of, of_connection, Ending, Served, AtOnce, said_by, with_reply, replies_to}
use Rattle.lanes.specs.Story.{served_of, at_once_of, with_served, served_in}

-- ---- what came

if-append : (b : Bool) (x : Arrival) (xs ys zs : List Arrival) → xs ≡ ys ++ zs
    → (if b then x ∷ xs else xs) ≡ (if b then x ∷ ys else ys) ++ zs
if-append true x xs ys zs e = ap (λ (l : List Arrival). x ∷ l) e
if-append false x xs ys zs e = e

pub of-append : (n : ℕ) (xs ys : List Arrival) → of_connection n (xs ++ ys) ≡ of_connection n xs ++ of_connection n ys
of-append n [] ys = refl
of-append n (x ∷ xs) ys =
    if-append (comes_of x == n) x (of_connection n (xs ++ ys)) (of_connection n xs) (of_connection n ys) (of-append n xs ys)

placed-of : (layout : Layout) (n k : ℕ) (h : Heard) (o : Option Affinity) → comes_of (placed layout n k h o) ≡ n
placed-of layout n k h None = refl
placed-of layout n k h (Some affinity) = refl

if-own : (b : Bool) (x : Arrival) (xs ys : List Arrival) → b ≡ true → xs ≡ ys → (if b then x ∷ xs else xs) ≡ x ∷ ys
if-own b x xs ys is e = ap (λ (c : Bool). if c then x ∷ xs else xs) is ∙ ap (λ (l : List Arrival). x ∷ l) e

if-other : (b : Bool) (x : Arrival) (xs : List Arrival) → b ≡ false → xs ≡ [] → (if b then x ∷ xs else xs) ≡ []
if-other b x xs is e = ap (λ (c : Bool). if c then x ∷ xs else xs) is ∙ e

arrival-of : (layout : Layout) (n : ℕ) (p : Sender) (k : ℕ) (h : Heard) → comes_of (arrival_of layout n p k h) ≡ n
arrival-of layout n p k h = placed-of layout n k (from_peer p h) (home_of_asked layout (asked_from p h.asked))

-- what came of one connection is of that alone
pub of-own : (layout : Layout) (n : ℕ) (p : Sender) (k : ℕ) (hs : List Heard)
    → of_connection n (arrivals layout n p k hs) ≡ arrivals layout n p k hs
of-own layout n p k [] = refl
of-own layout n p k (h ∷ hs) =
    if-own (comes_of (arrival_of layout n p k h) == n) (arrival_of layout n p k h)
    (of_connection n (arrivals layout n p (k + 1) hs)) (arrivals layout n p (k + 1) hs)
    (ap (λ m. m == n) (arrival-of layout n p k h) ∙ itself n)
    (of-own layout n p (k + 1) hs)

pub of-other : (layout : Layout) (m n : ℕ) (p : Sender) (k : ℕ) (hs : List Heard) → n ≢ m
    → of_connection m (arrivals layout n p k hs) ≡ []
of-other layout m n p k [] d = refl
of-other layout m n p k (h ∷ hs) d =
    if-other (comes_of (arrival_of layout n p k h) == m) (arrival_of layout n p k h)
    (of_connection m (arrivals layout n p (k + 1) hs))
    (ap (λ l. l == m) (arrival-of layout n p k h) ∙ ne_eqb n m d)
    (of-other layout m n p (k + 1) hs d)

pub arrivals-append : (layout : Layout) (n : ℕ) (p : Sender) (k : ℕ) (hs gs : List Heard) (j : ℕ) → j ≡ k + length hs
    → arrivals layout n p k (hs ++ gs) ≡ arrivals layout n p k hs ++ arrivals layout n p j gs
arrivals-append layout n p k [] gs j e = ap (λ i. arrivals layout n p i gs) (omega (arith, e))
arrivals-append layout n p k (h ∷ hs) gs j e =
    ap (λ (l : List Arrival). arrival_of layout n p k h ∷ l)
    (arrivals-append layout n p (k + 1) hs gs j (omega (arith, e)))

-- ---- what ended

reply-append : (n : ℕ) (o : Option Addressed) (ms ks ls : List ReplyMessage) → ms ≡ ks ++ ls → with_reply n o ms ≡ with_reply n o ks ++ ls
reply-append n None ms ks ls e = e
reply-append n (Some a) ms ks ls e = by (a.connection == n)
  where
    by : (b : Bool) → (if b then a.message ∷ ms else ms) ≡ (if b then a.message ∷ ks else ks) ++ ls
    by true = ap (λ (l : List ReplyMessage). a.message ∷ l) e
    by false = e

pub replies-append : (n : ℕ) (xs ys : List Ending) → replies_to n (xs ++ ys) ≡ replies_to n xs ++ replies_to n ys
replies-append n [] ys = refl
replies-append n (x ∷ xs) ys = reply-append n (said_by x) (replies_to n (xs ++ ys)) (replies_to n xs) (replies_to n ys) (replies-append n xs ys)

pub served-append : (xs ys : List Ending) → served_of (xs ++ ys) ≡ served_of xs ++ served_of ys
served-append [] ys = refl
served-append (Served e ∷ xs) ys = ap (λ (l : List FilerEntry). e ∷ l) (served-append xs ys)
served-append (AtOnce reply ∷ xs) ys = served-append xs ys

pub at-once-append : (xs ys : List Ending) → at_once_of (xs ++ ys) ≡ at_once_of xs ++ at_once_of ys
at-once-append [] ys = refl
at-once-append (Served e ∷ xs) ys = at-once-append xs ys
at-once-append (AtOnce reply ∷ xs) ys = ap (λ (l : List Addressed). reply ∷ l) (at-once-append xs ys)

with-append : (e : FilerEntry) (job : Job) (es fs gs : List FilerEntry) → es ≡ fs ++ gs → with_served e job es ≡ with_served e job fs ++ gs
with-append e (Serve call) es fs gs h = ap (λ (l : List FilerEntry). e ∷ l) h
with-append e (Inner call) es fs gs h = h

pub entries-append : (es fs : List FilerEntry) → served_in (es ++ fs) ≡ served_in es ++ served_in fs
entries-append [] fs = refl
entries-append (e ∷ es) fs = with-append e e.call (served_in (es ++ fs)) (served_in es) (served_in fs) (entries-append es fs)
