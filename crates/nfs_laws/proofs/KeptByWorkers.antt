-- Begin, Work and Finish keep the headline.
use Rattle.std.proofs.Common.{◌≡◌, ℕ, ◌+◌, Bool, true, false, List, [], ◌∷◌, ◌++◌, Option, Some, None, refl, sym, ap, subst, ◌∙◌, arith}
use Rattle.std.specs.Prelude.{slice_get}
use Rattle.std.specs.List.{AllByRecursion, list_any, remove}
use Rattle.nfs_model.specs.Types.{Moment, Reply, SystemError}
use Rattle.nfs_model.specs.Tree.{Affinity, excludes}
use Rattle.nfs_model.specs.Server.{VolumeState}
use Rattle.nfs_model.specs.Replay.{FinishedCall, step_of, IsLawful}
use Rattle.nfs_model.specs.World.{Heard, Setup, World, Connection, Message, Running, Worker, IsScan, all_running, with_held, affinities, hands_blocks}
use Rattle.nfs_model.specs.World.{with_running, with_output, changed_at, finish}
use Rattle.nfs_model.specs.Parts.{Parts}
use Rattle.nfs_model.specs.Work.{Store, Outcome, Replied, Starved, Moved}
use Rattle.nfs_model.specs.Events.Refusals.{is_busy}
use Rattle.nfs_model.specs.Events.Step.{worked, finished_call, without_call, stamp_added, finished_by}
use Rattle.nfs_model.specs.Headline.{Kept, start, served, messages, tally_finished, tally_messages, server_worked, worked_by, IsOwnCall, IsOwnMessage}
use Rattle.nfs_model.specs.Headline.{HasRunAsItSays}
use Rattle.nfs_model.specs.Headline.{IsOutcome, IsTried, Apart}
use Rattle.nfs_model.specs.Parts.{IsPartition}
use Rattle.nfs_laws.proofs.Lists.{All-get, All-remove, All-push, All-between, All-without, All-there}
use Rattle.nfs_laws.proofs.Written.{AreLawful-push, replies_finish, until_finish, written_stream}
use Rattle.nfs_laws.proofs.Own.{later_changed, entries_later, messages_later, heard_later, own_of_heard}
use Rattle.nfs_laws.proofs.Once.{total_in, once_changed, tally_finished-append, tally_messages-append, tally_messages-remove}
use Rattle.nfs_laws.proofs.Slots.{Slot, slot, messages-between, affinities-append, tally-between, messages_between, messages_without, messages_there}
use Rattle.nfs_laws.proofs.Slots.{server_worked-between, Apart-between, Apart-without}
use Rattle.nfs_model.specs.Agreed.{done, IsAgreed}

-- a worker's call changes, its hand doesn't
module _ (setup : Setup) (w : World) (i : ℕ) (k : Worker) (s : Slot w.workers i k) where
  partition_kept : (h : Kept setup w) (running : Option Running) (v : ℕ) (volume : VolumeState) → slice_get w.server.volumes v ≡ Some volume
      → (p : Parts) × (slice_get w.parts v ≡ Some p) × IsPartition volume p (hands_blocks v (changed_at (with_running running) w.workers i))
  partition_kept h running v volume e =
      let found = h.headline.partition v volume e in
      (found.0, found.1, subst (λ (blocks : List ℕ). IsPartition volume found.0 blocks) (sym (s.hands v running)) found.2)

-- a waiting message begins
pub keeps_begin : (setup : Setup) (w : World) (i : ℕ) (k : Worker) (place : ℕ) (m : Message) (moment : Moment)
    → slice_get w.workers i ≡ Some k → k.running ≡ None → slice_get w.waiting place ≡ Some m → is_busy setup w m.affinity ≡ false → Kept setup w
    → Kept setup (record w {
      waiting = remove w.waiting place;
      workers = changed_at
          (with_running (Some (record { message = m; moment = moment; outcome = None }))) w.workers i;
    })
keeps_begin setup w i k place m moment there idle at free h =
    let r : Running = record { message = m; moment = moment; outcome = None } in
    let s = slot w.workers i k there in
    let was : all_running w.workers ≡ s.before ++ s.after = s.was ∙ ap (λ (o : Option Running). s.before ++ with_held o s.after) idle in
    let now : all_running (changed_at (with_running (Some r)) w.workers i) ≡ s.before ++ r ∷ s.after = s.becomes (Some r) in
    let apart : Apart setup.layout (affinities s.before ++ affinities s.after) = subst (λ (ts : List Affinity). Apart setup.layout ts)
    (ap (λ (rs : List Running). affinities rs) was ∙ affinities-append s.before s.after) h.headline.apart in
    let free_now : list_any (excludes setup.layout m.affinity) (affinities s.before ++ affinities s.after) ≡ false = ap
    (λ (ts : List Affinity). list_any (excludes setup.layout m.affinity) ts) (sym (ap (λ (rs : List Running). affinities rs) was
    ∙ affinities-append s.before s.after)) ∙ free in
    record {
      headline = record {
        output = h.headline.output;
        each_once = λ c x e n.
            let a = tally_messages-remove c n w.waiting place m at in
            let b = ap (λ (rs : List Running). tally_messages c n (messages rs)) now ∙ tally-between c n s.before s.after r in
            let d = ap (λ (rs : List Running). tally_messages c n (messages rs)) was in
            omega (arith, a, b, d) ∙ h.headline.each_once c x e n;
        own_finished = h.headline.own_finished;
        own_waiting = All-remove (IsOwnMessage setup w) w.waiting place h.headline.own_waiting;
        own_running = subst (λ (rs : List Running). AllByRecursion (IsOwnMessage setup w) (messages rs)) (sym now)
            (messages_between (IsOwnMessage setup w) s.before s.after r (All-get (IsOwnMessage setup w) w.waiting place m at h.headline.own_waiting)
            (subst (λ (rs : List Running). AllByRecursion (IsOwnMessage setup w) (messages rs)) was h.headline.own_running));
        lawful = h.headline.lawful;
        state = h.headline.state ∙ ap (λ (rs : List Running). server_worked (done setup w) rs) was
            ∙ sym (ap (λ (rs : List Running). server_worked (done setup w) rs) now ∙ server_worked-between (done setup w) s.before s.after r (λ t. refl));
        partition = partition_kept setup w i k s h (Some r);
        apart = subst (λ (ts : List Affinity). Apart setup.layout ts) (sym (ap (λ (rs : List Running). affinities rs) now
            ∙ affinities-append s.before (r ∷ s.after)))
            (Apart-between setup.layout (affinities s.before) (affinities s.after) m.affinity apart free_now);
      };
      outcomes = subst (λ (rs : List Running). AllByRecursion (λ q. IsOutcome setup (done setup w) q q.outcome) rs) (sym now)
          (All-between (λ q. IsOutcome setup (done setup w) q q.outcome) s.before s.after r tt
          (subst (λ (rs : List Running). AllByRecursion (λ q. IsOutcome setup (done setup w) q q.outcome) rs) was h.outcomes));
      tried_waiting = All-remove (IsTried setup) w.waiting place h.tried_waiting;
      tried_running = subst (λ (rs : List Running). AllByRecursion (IsTried setup) (messages rs)) (sym now)
          (messages_between (IsTried setup) s.before s.after r (All-get (IsTried setup) w.waiting place m at h.tried_waiting)
          (subst (λ (rs : List Running). AllByRecursion (IsTried setup) (messages rs)) was h.tried_running));
      tried_finished = h.tried_finished;
      until = h.until;
    }

-- a count with these messages running
abbrev total_of : World → ℕ → ℕ → List Message → ℕ
total_of w c n ms = tally_finished c n w.finished + tally_messages c n w.waiting + tally_messages c n ms

-- a begun message is worked
pub keeps_work : (setup : Setup) (w : World) (i : ℕ) (k : Worker) (r : Running) (o : Outcome) (store : Store)
    → IsAgreed setup (worked w i r o store) → slice_get w.workers i ≡ Some k → k.running ≡ Some r → Kept setup w → Kept setup (worked w i r o store)
keeps_work setup w i k r o store agreed there runs h =
    let q : Running = record r { outcome = Some o } in
    let s = slot w.workers i k there in
    let was : all_running w.workers ≡ s.before ++ r ∷ s.after = s.was ∙ ap (λ (x : Option Running). s.before ++ with_held x s.after) runs in
    let now : all_running (changed_at (with_running (Some q)) w.workers i) ≡ s.before ++ q ∷ s.after = s.becomes (Some q) in
    let same_messages : messages (all_running (changed_at (with_running (Some q)) w.workers i)) ≡ messages (all_running w.workers) =
    ap (λ (rs : List Running). messages rs) now ∙ messages-between s.before s.after q
    ∙ sym (ap (λ (rs : List Running). messages rs) was ∙ messages-between s.before s.after r) in
    let same_affinities : affinities (all_running (changed_at (with_running (Some q)) w.workers i)) ≡ affinities (all_running w.workers) =
    ap (λ (rs : List Running). affinities rs) now ∙ affinities-append s.before (q ∷ s.after)
    ∙ sym (ap (λ (rs : List Running). affinities rs) was ∙ affinities-append s.before (r ∷ s.after)) in
    record {
      headline = record {
        output = h.headline.output;
        each_once = λ c x e n. ap (λ (ms : List Message). total_of w c n ms) same_messages ∙ h.headline.each_once c x e n;
        own_finished = h.headline.own_finished;
        own_waiting = h.headline.own_waiting;
        own_running = subst (λ (ms : List Message). AllByRecursion (IsOwnMessage setup w) ms) (sym same_messages) h.headline.own_running;
        lawful = h.headline.lawful;
        state = agreed.state;
        partition = agreed.partition;
        apart = subst (λ (ts : List Affinity). Apart setup.layout ts) (sym same_affinities) h.headline.apart;
      };
      outcomes = agreed.outcomes;
      tried_waiting = h.tried_waiting;
      tried_running = subst (λ (ms : List Message). AllByRecursion (IsTried setup) ms) (sym same_messages) h.tried_running;
      tried_finished = h.tried_finished;
      until = h.until;
    }

-- ---- finishing

-- a call that runs is finished, with the reply that the serial server gives it now
keeps_finished : (setup : Setup) (w : World) (i : ℕ) (k : Worker) (r : Running) (starved : Bool) (reply : Reply) (s : Slot w.workers i k)
    → IsScan setup.codec → all_running w.workers ≡ s.before ++ r ∷ s.after → Kept setup w
    → reply ≡ (step_of (done setup w) (finished_call r starved)).reply → IsLawful (done setup w) (finished_call r starved) starved
    → IsAgreed setup (finish setup (stamp_added (without_call w i)) (finished_call r starved) reply)
    → Kept setup (finish setup (stamp_added (without_call w i)) (finished_call r starved) reply)
keeps_finished setup w i k r starved reply s scan was h right lawful agreed =
    let e : FinishedCall = finished_call r starved in
    let write : Connection → Connection = with_output (setup.codec.reply_record e.xid reply) in
    let new : World = finish setup (stamp_added (without_call w i)) e reply in
    let now : all_running (changed_at (with_running None) w.workers i) ≡ s.before ++ s.after = s.becomes None in
    let keeps : (x : Connection) → served setup (write x) ≡ served setup x = λ x. ap (λ (bytes : List ℕ). (setup.codec.scan bytes).served)
    (written_stream (setup.codec.reply_record e.xid reply) x.closed x) in
    let later = later_changed setup w.connections write e.connection (λ x at n y q. ap (λ (hs : List Heard). slice_get hs n) (keeps x) ∙ q) in
    let own_running : AllByRecursion (IsOwnMessage setup w) (messages (s.before ++ r ∷ s.after)) = subst
    (λ (rs : List Running). AllByRecursion (IsOwnMessage setup w) (messages rs)) was h.headline.own_running in
    let own : IsOwnMessage setup w r.message = messages_there (IsOwnMessage setup w) s.before s.after r own_running in
    record {
      headline = record {
        output = replies_finish setup w.connections w.finished e reply h.headline.output h.until right;
        each_once = once_changed setup w.connections (total_in w) (total_in new) write e.connection (λ x at. keeps x)
            (λ c n.
            let a = tally_finished-append c n w.finished (e ∷ []) in
            let b = ap (λ (rs : List Running). tally_messages c n (messages rs)) was ∙ tally-between c n s.before s.after r in
            let d = ap (λ (rs : List Running). tally_messages c n (messages rs)) now in
            omega (arith, a, b, d))
            h.headline.each_once;
        own_finished = All-push (IsOwnCall setup new) w.finished e (entries_later setup w new later w.finished h.headline.own_finished)
            (own_of_heard setup new e r.message.asked scan
            (heard_later setup w new later r.message.connection r.message.number r.message.xid r.message.asked own));
        own_waiting = messages_later setup w new later w.waiting h.headline.own_waiting;
        own_running = subst (λ (rs : List Running). AllByRecursion (IsOwnMessage setup new) (messages rs)) (sym now)
            (messages_later setup w new later (messages (s.before ++ s.after)) (messages_without (IsOwnMessage setup w) s.before s.after r own_running));
        lawful = AreLawful-push (start setup) w.finished e h.headline.lawful lawful;
        state = agreed.state;
        partition = partition_kept setup w i k s h None;
        apart = subst (λ (ts : List Affinity). Apart setup.layout ts) (sym (ap (λ (rs : List Running). affinities rs) now ∙ affinities-append s.before s.after))
            (Apart-without setup.layout (affinities s.before) (affinities s.after) r.message.affinity
            (subst (λ (ts : List Affinity). Apart setup.layout ts) (ap (λ (rs : List Running). affinities rs) was
            ∙ affinities-append s.before (r ∷ s.after)) h.headline.apart));
      };
      outcomes = agreed.outcomes;
      tried_waiting = h.tried_waiting;
      tried_running = subst (λ (rs : List Running). AllByRecursion (IsTried setup) (messages rs)) (sym now)
          (messages_without (IsTried setup) s.before s.after r
          (subst (λ (rs : List Running). AllByRecursion (IsTried setup) (messages rs)) was h.tried_running));
      tried_finished = All-push (HasRunAsItSays setup) w.finished e h.tried_finished
          (messages_there (IsTried setup) s.before s.after r
          (subst (λ (rs : List Running). AllByRecursion (IsTried setup) (messages rs)) was h.tried_running));
      until = until_finish w.connections w.finished e (setup.codec.reply_record e.xid reply) e.connection h.until;
    }

-- a message that moves waits again, at the end
keeps_moved : (setup : Setup) (w : World) (i : ℕ) (k : Worker) (r : Running) (a : Affinity) (s : Slot w.workers i k)
    → all_running w.workers ≡ s.before ++ r ∷ s.after → r.outcome ≡ Some (Moved a) → Kept setup w → Kept setup (finished_by setup w i r (Moved a))
keeps_moved setup w i k r a s was moved h =
    let m : Message = record r.message { affinity = a } in
    let now : all_running (changed_at (with_running None) w.workers i) ≡ s.before ++ s.after = s.becomes None in
    let own : IsOwnMessage setup w r.message = messages_there (IsOwnMessage setup w) s.before s.after r
    (subst (λ (rs : List Running). AllByRecursion (IsOwnMessage setup w) (messages rs)) was h.headline.own_running) in
    let outcomes : AllByRecursion (λ x. IsOutcome setup (done setup w) x x.outcome) (s.before ++ r ∷ s.after) = subst
    (λ (rs : List Running). AllByRecursion (λ x. IsOutcome setup (done setup w) x x.outcome) rs) was h.outcomes in
    record {
      headline = record {
        output = h.headline.output;
        each_once = λ c x e n.
            let b = ap (λ (rs : List Running). tally_messages c n (messages rs)) was ∙ tally-between c n s.before s.after r in
            let d = ap (λ (rs : List Running). tally_messages c n (messages rs)) now in
            omega (arith, tally_messages-append c n w.waiting (m ∷ []), b, d) ∙ h.headline.each_once c x e n;
        own_finished = h.headline.own_finished;
        own_waiting = All-push (IsOwnMessage setup w) w.waiting m h.headline.own_waiting own;
        own_running = subst (λ (rs : List Running). AllByRecursion (IsOwnMessage setup w) (messages rs)) (sym now)
            (messages_without (IsOwnMessage setup w) s.before s.after r
            (subst (λ (rs : List Running). AllByRecursion (IsOwnMessage setup w) (messages rs)) was h.headline.own_running));
        lawful = h.headline.lawful;
        state = h.headline.state ∙ ap (λ (rs : List Running). server_worked (done setup w) rs) was
            ∙ server_worked-between (done setup w) s.before s.after r (λ t. ap (λ (o : Option Outcome). worked_by t r o) moved)
            ∙ ap (λ (rs : List Running). server_worked (done setup w) rs) (sym now);
        partition = partition_kept setup w i k s h None;
        apart = subst (λ (ts : List Affinity). Apart setup.layout ts) (sym (ap (λ (rs : List Running). affinities rs) now ∙ affinities-append s.before s.after))
            (Apart-without setup.layout (affinities s.before) (affinities s.after) r.message.affinity
            (subst (λ (ts : List Affinity). Apart setup.layout ts) (ap (λ (rs : List Running). affinities rs) was
            ∙ affinities-append s.before (r ∷ s.after)) h.headline.apart));
      };
      outcomes = subst (λ (rs : List Running). AllByRecursion (λ x. IsOutcome setup (done setup w) x x.outcome) rs) (sym now)
          (All-without (λ x. IsOutcome setup (done setup w) x x.outcome) s.before s.after r outcomes);
      tried_waiting = All-push (IsTried setup) w.waiting m h.tried_waiting
          (subst (λ (o : Option Outcome). IsOutcome setup (done setup w) r o) moved
          (All-there (λ x. IsOutcome setup (done setup w) x x.outcome) s.before s.after r outcomes));
      tried_running = subst (λ (rs : List Running). AllByRecursion (IsTried setup) (messages rs)) (sym now)
          (messages_without (IsTried setup) s.before s.after r
          (subst (λ (rs : List Running). AllByRecursion (IsTried setup) (messages rs)) was h.tried_running));
      tried_finished = h.tried_finished;
      until = h.until;
    }

-- by the outcome
keeps_by : (setup : Setup) (w : World) (i : ℕ) (k : Worker) (r : Running) (o : Outcome) (s : Slot w.workers i k)
    → IsAgreed setup (finished_by setup w i r o) → IsScan setup.codec → all_running w.workers ≡ s.before ++ r ∷ s.after → r.outcome ≡ Some o
    → IsOutcome setup (done setup w) r (Some o) → Kept setup w
    → Kept setup (finished_by setup w i r o)
keeps_by setup w i k r (Replied reply) s agreed scan was is outcome h = keeps_finished setup w i k r false reply s scan was h outcome tt agreed
keeps_by setup w i k r Starved s agreed scan was is outcome h = keeps_finished setup w i k r true SystemError s scan was h refl outcome agreed
keeps_by setup w i k r (Moved a) s agreed scan was is outcome h = keeps_moved setup w i k r a s was is h

-- a worked message is finished, or waits again
pub keeps_finish : (setup : Setup) (w : World) (i : ℕ) (k : Worker) (r : Running) (o : Outcome)
    → IsAgreed setup (finished_by setup w i r o) → IsScan setup.codec → slice_get w.workers i ≡ Some k → k.running ≡ Some r → r.outcome ≡ Some o → Kept setup w
    → Kept setup (finished_by setup w i r o)
keeps_finish setup w i k r o agreed scan there runs is h =
    let s = slot w.workers i k there in
    let was : all_running w.workers ≡ s.before ++ r ∷ s.after = s.was ∙ ap (λ (x : Option Running). s.before ++ with_held x s.after) runs in
    let outcome : IsOutcome setup (done setup w) r (Some o) =
    subst (λ (x : Option Outcome). IsOutcome setup (done setup w) r x) is
    (All-there (λ x. IsOutcome setup (done setup w) x x.outcome) s.before s.after r
    (subst (λ (rs : List Running). AllByRecursion (λ x. IsOutcome setup (done setup w) x x.outcome) rs) was h.outcomes)) in
    keeps_by setup w i k r o s agreed scan was is outcome h
