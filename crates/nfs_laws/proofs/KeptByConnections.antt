-- Opening and closing a connection keep the headline.
use Rattle.std.proofs.Common.{◌≡◌, ℕ, ◌≤◌, true, List, [], ◌∷◌, ◌++◌, length, Option, Some, None, refl, sym, ap, subst, ◌∙◌, arith}
use Rattle.std.specs.Prelude.{slice_get, IfSome}
use Rattle.std.proofs.lemmas.List.{take_all}
use Rattle.nfs_model.specs.Replay.{FinishedCall}
use Rattle.nfs_model.specs.World.{Setup, World, Connection, IsScan, all_running, changed_at}
use Rattle.nfs_model.specs.Events.Refusals.{is_open}
use Rattle.nfs_model.specs.Events.Step.{new_connection, with_closed}
use Rattle.nfs_model.specs.Headline.{Kept, start, replies, up_to, messages}
use Rattle.nfs_laws.proofs.Lists.{pushed_all, changed_all, Some_same, none_is}
use Rattle.nfs_laws.proofs.Written.{replies_none}
use Rattle.nfs_laws.proofs.Own.{later_pushed, later_changed, entries_later, messages_later, entries_elsewhere, messages_elsewhere}
use Rattle.nfs_laws.proofs.Once.{total_in, once_pushed, once_changed, tally_finished_none, tally_messages_none}

-- a connection is opened
pub keeps_open : (setup : Setup) (w : World) → IsScan setup.codec → Kept setup w → Kept setup (record w { connections = w.connections ++ new_connection ∷ [] })
keeps_open setup w scan h =
    let new : World = record w { connections = w.connections ++ new_connection ∷ [] } in
    let later = later_pushed setup w.connections (new_connection ∷ []) in
    let new_count = length w.connections in
    let none : (n : ℕ) → total_in w new_count n ≡ 0 = λ n.
    let a = tally_finished_none new_count n w.finished (entries_elsewhere setup w w.finished h.headline.own_finished) in
    let b = tally_messages_none new_count n w.waiting (messages_elsewhere setup w w.waiting h.headline.own_waiting) in
    let c = tally_messages_none new_count n (messages (all_running w.workers))
    (messages_elsewhere setup w (messages (all_running w.workers)) h.headline.own_running) in
    omega (arith, a, b, c) in
    record {
      headline = record {
        output =
            pushed_all (λ c x. x.output ≡ replies setup.codec c (start setup) (up_to x.closed w.finished)) w.connections new_connection h.headline.output
            (sym (replies_none setup.codec new_count (start setup) w.finished (entries_elsewhere setup w w.finished h.headline.own_finished)));
        each_once = once_pushed setup w.connections (total_in w) new_connection (ap (λ s. s.served) scan.nothing) none h.headline.each_once;
        own_finished = entries_later setup w new later w.finished h.headline.own_finished;
        own_waiting = messages_later setup w new later w.waiting h.headline.own_waiting;
        own_running = messages_later setup w new later (messages (all_running w.workers)) h.headline.own_running;
        lawful = h.headline.lawful;
        state = h.headline.state;
        partition = h.headline.partition;
        apart = h.headline.apart;
      };
      outcomes = h.outcomes;
      tried_waiting = h.tried_waiting;
      tried_running = h.tried_running;
      tried_finished = h.tried_finished;
      until = pushed_all (λ c x. IfSome x.closed (λ n. n ≤ length w.finished)) w.connections new_connection h.until tt;
    }

-- an open connection is closed
pub keeps_close : (setup : Setup) (w : World) (k : ℕ) → ((x : Connection) → slice_get w.connections k ≡ Some x → x.closed ≡ None) → Kept setup w
    → Kept setup (record w { connections = changed_at (with_closed (length w.finished)) w.connections k })
keeps_close setup w k open_there h =
    let close : Connection → Connection = with_closed (length w.finished) in
    let new : World = record w { connections = changed_at close w.connections k } in
    let later = later_changed setup w.connections close k (λ x at n y q. q) in
    record {
      headline = record {
        output =
            changed_all (λ c x. x.output ≡ replies setup.codec c (start setup) (up_to x.closed w.finished)) close w.connections k
            (λ c x at ne. h.headline.output c x at)
            (λ x at. h.headline.output k x at ∙ ap (λ (o : Option ℕ). replies setup.codec k (start setup) (up_to o w.finished)) (open_there x at)
            ∙ ap (λ (es : List FinishedCall). replies setup.codec k (start setup) es) (sym (take_all (length w.finished) w.finished (omega arith))));
        each_once = once_changed setup w.connections (total_in w) (total_in w) close k (λ x at. refl) (λ c n. refl) h.headline.each_once;
        own_finished = entries_later setup w new later w.finished h.headline.own_finished;
        own_waiting = messages_later setup w new later w.waiting h.headline.own_waiting;
        own_running = messages_later setup w new later (messages (all_running w.workers)) h.headline.own_running;
        lawful = h.headline.lawful;
        state = h.headline.state;
        partition = h.headline.partition;
        apart = h.headline.apart;
      };
      outcomes = h.outcomes;
      tried_waiting = h.tried_waiting;
      tried_running = h.tried_running;
      tried_finished = h.tried_finished;
      until = changed_all (λ c x. IfSome x.closed (λ n. n ≤ length w.finished)) close w.connections k (λ c x at ne. h.until c x at) (λ x at. omega arith);
    }

open_now : (o : Option Connection) (x : Connection) → is_open o ≡ true → o ≡ Some x → x.closed ≡ None
open_now None x t e = absurd cc
open_now (Some y) x t e = subst (λ (z : Connection). z.closed ≡ None) (Some_same y x e) (none_is y.closed t)

pub open_is : (w : World) (k : ℕ) → is_open (slice_get w.connections k) ≡ true → (x : Connection) → slice_get w.connections k ≡ Some x → x.closed ≡ None
open_is w k t x e = open_now (slice_get w.connections k) x t e
