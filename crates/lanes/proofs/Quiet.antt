-- A connection of which nothing came has no reply.
use Rattle.std.proofs.Common.{◌≡◌, ◌≤◌, ◌==◌, ℕ, ◌+◌, Bool, true, false, if◌then◌else◌, List, [], ◌∷◌, map, refl, ap, ◌∙◌}
use Rattle.std.proofs.Common.{arith}
use Rattle.depot_rule.specs.Sums.{total}
use Rattle.nfs_model.specs.World as worlds
use Rattle.outboxes.specs.Boxes.{Addressed}
use Rattle.outboxes.specs.Messages.{ReplyMessage}
use Rattle.filer_state.specs.state.Jobs as jobs
use Rattle.service.specs.declared.job.Job.{Job}
use Rattle.service.specs.declared.job.Job.TheVariants.{Serve, Inner}
use Rattle.granted_calls.specs.Balance.{FilerEntry, Weight, by_entry, by_job, by_key}
use Rattle.turns.specs.Jobs.{job_reply_of}
use Rattle.granted_calls.specs.Messages.{Message}
use Rattle.engine_feed.specs.Seen.{message_of}
use Rattle.tcp_front.specs.Admitted.{calls_of}
use Rattle.tcp_front.specs.Arrivals.{Arrival, Waits, Answered}
use Rattle.lanes.specs.Intakes.{answered_of}
use Rattle.lanes.specs.Story.{of_connection, Ending, Served, AtOnce, answer_to, with_reply, replies_to, served_of, at_once_of, with_served, served_in}

-- ---- entries that answer calls weigh as much as all

served-weigh : (h : Weight) (e : FilerEntry) (job : Job) (es : List FilerEntry) → by_entry h e ≡ by_job h job
    → total (by_entry h) (with_served e job es) ≡ by_job h job + total (by_entry h) es
served-weigh h e (Serve call) es same = omega (arith, same)
served-weigh h e (Inner call) es same = omega arith

pub total-served : (h : Weight) (es : List FilerEntry) → total (by_entry h) (served_in es) ≡ total (by_entry h) es
total-served h [] = refl
total-served h (e ∷ es) =
    let first = served-weigh h e e.call (served_in es) refl in
    let rest = total-served h es in omega (arith, first, rest)

-- ---- what came of a connection, weighed

-- one for each of this connection
abbrev one_if : Bool → ℕ
one_if b = if b then 1 else 0

abbrev of_number : ℕ → Weight
of_number n connection number xid asked = one_if (connection == n)

abbrev pub weigh_seen : Weight → worlds.Message → ℕ
weigh_seen h m = h m.connection m.number m.xid m.asked

abbrev weigh_reply : ℕ → Addressed → ℕ
weigh_reply n a = one_if (a.connection == n)

pub total-seen : (h : Weight) (ms : List Message) → total (weigh_seen h) (map message_of ms) ≡ total (by_key h) ms
total-seen h [] = refl
total-seen h (m ∷ ms) = let rest = total-seen h ms in omega (arith, rest)

none-if : (b : Bool) (x : Arrival) (xs : List Arrival) → (if b then x ∷ xs else xs) ≡ [] → (b ≡ false) × (xs ≡ [])
none-if true x xs e = let no : ⊥ = cc in absurd no
none-if false x xs e = (refl, e)

none-calls : (n : ℕ) (xs : List Arrival) → of_connection n xs ≡ [] → total (weigh_seen (of_number n)) (calls_of xs) ≡ 0
none-calls n [] e = refl
none-calls n (Waits m ∷ xs) e =
    let h = none-if (m.connection == n) (Waits m) (of_connection n xs) e in
    let rest = none-calls n xs h.1 in
    let first : one_if (m.connection == n) ≡ 0 = ap one_if h.0 in omega (arith, first, rest)
none-calls n (Answered a ∷ xs) e = none-calls n xs (none-if (a.connection == n) (Answered a) (of_connection n xs) e).1

none-answers : (n : ℕ) (xs : List Arrival) → of_connection n xs ≡ [] → total (weigh_reply n) (answered_of xs) ≡ 0
none-answers n [] e = refl
none-answers n (Waits m ∷ xs) e = none-answers n xs (none-if (m.connection == n) (Waits m) (of_connection n xs) e).1
none-answers n (Answered a ∷ xs) e =
    let h = none-if (a.connection == n) (Answered a) (of_connection n xs) e in
    let rest = none-answers n xs h.1 in
    let first : one_if (a.connection == n) ≡ 0 = ap one_if h.0 in omega (arith, first, rest)

-- ---- replies

none-one : (b : Bool) (m : ReplyMessage) (ms : List ReplyMessage) → one_if b ≡ 0 → (if b then m ∷ ms else ms) ≡ ms
none-one true m ms e = let no : ⊥ = cc in absurd no
none-one false m ms e = refl

none-served : (n : ℕ) (job : Job) (r : jobs.JobReply) (ms : List ReplyMessage) → by_job (of_number n) job ≡ 0 → with_reply n (answer_to job r) ms ≡ ms
none-served n (Serve call) (jobs.Replied reply) ms e = none-one (call.connection.0 == n) _ ms e
none-served n (Serve call) (jobs.Took batch) ms e = refl
none-served n (Serve call) (jobs.Gave batch) ms e = refl
none-served n (Serve call) (jobs.Surveyed counts) ms e = refl
none-served n (Inner call) r ms e = refl

no-replies : (n : ℕ) (xs : List Ending) → total (by_entry (of_number n)) (served_of xs) ≡ 0 → total (weigh_reply n) (at_once_of xs) ≡ 0
    → replies_to n xs ≡ []
no-replies n [] e f = refl
no-replies n (Served x ∷ xs) e f =
    none-served n x.call (job_reply_of x.reply) (replies_to n xs) (omega (arith, e)) ∙ no-replies n xs (omega (arith, e)) f
no-replies n (AtOnce a ∷ xs) e f =
    none-one (a.connection == n) a.message (replies_to n xs) (omega (arith, f)) ∙ no-replies n xs e (omega (arith, f))

-- where nothing came of a connection, nothing that ended is a reply to it
pub unheard : (n : ℕ) (came : List Arrival) (endings : List Ending) (entries : List FilerEntry) (put : List Message)
    → map message_of put ≡ calls_of came → served_of endings ≡ served_in entries → at_once_of endings ≡ answered_of came
    → ((h : Weight) → total (by_entry h) entries ≤ total (by_key h) put) → of_connection n came ≡ [] → replies_to n endings ≡ []
unheard n came endings entries put admitted finished at_once once none =
    let h = of_number n in
    let a = total-seen h put in
    let b : total (weigh_seen h) (map message_of put) ≡ total (weigh_seen h) (calls_of came) = ap (total (weigh_seen h)) admitted in
    let c = none-calls n came none in
    let d = once h in
    let e = total-served h entries in
    let f : total (by_entry h) (served_of endings) ≡ total (by_entry h) (served_in entries) = ap (total (by_entry h)) finished in
    let g : total (weigh_reply n) (at_once_of endings) ≡ total (weigh_reply n) (answered_of came) = ap (total (weigh_reply n)) at_once in
    no-replies n endings (omega (arith, a, b, c, d, e, f)) (g ∙ none-answers n came none)
