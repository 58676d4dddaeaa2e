-- Runs of events, and what they keep.
use Rattle.std.proofs.Common.{◌≡◌, ℕ, ◌+◌, List, [], ◌∷◌, ◌++◌, length, take, map, get_or, true, false, ◌<◌, Result, Ok, Err, refl, sym, subst, arith}
use Rattle.std.specs.Result.{is_err}
use Rattle.std.proofs.lemmas.List.{map_more}
use Rattle.nfs_model.specs.World.{Setup, World}
use Rattle.nfs_model.specs.Events.Refusals.{Event, Done}
use Rattle.nfs_model.specs.Events.Step.{Events, Runs}
use Rattle.nfs_model.specs.Headline.{opening_world}
use Rattle.engine.specs.declared.event.Event as happened
use Rattle.engine.specs.declared.event.Done as dones
use Rattle.engine.specs.declared.event.Refusal as refusals
use Rattle.engine.specs.Engine.{one_if_refused, RunsRefusing}
use Rattle.engine.specs.Seen.{event_of, answer_of}
use Rattle.engine.specs.Shown.{Shown, setup_in}

runs-on : (setup : Setup) (old : World) (events : List Event) (refused : ℕ) (middle : World) (event : Event) (answer : Result Done ℕ) (new : World)
    → RunsRefusing setup old events refused middle → Events setup middle event answer new
    → RunsRefusing setup old (events ++ event ∷ []) (refused + one_if_refused answer) new
runs-on setup old [] refused middle event answer new r e =
    (answer, new, 0, subst (λ (w : World). Events setup w event answer new) r.1 e, omega (arith, r.0), (refl, refl))
runs-on setup old (x ∷ events) refused middle event answer new r e =
    (r.0, r.1, r.2 + one_if_refused answer, r.3, omega (arith, r.4), runs-on setup r.1 events r.2 middle event answer new r.5 e)

runs : (setup : Setup) (old : World) (events : List Event) (refused : ℕ) (new : World) → RunsRefusing setup old events refused new
    → Runs setup old events new
runs setup old [] refused new r = r.1
runs setup old (x ∷ events) refused new r = (r.0, r.1, r.3, runs setup r.1 events r.2 new r.5)

run-more : (setup : Setup) (old : World) (events : List happened.Event) (i : ℕ) (d : happened.Event) (refused : ℕ) (middle : World)
    (answer : Result Done ℕ) (after : ℕ) (new : World) → i < length events
    → RunsRefusing setup old (map event_of (take i events)) refused middle → Events setup middle (event_of (get_or events i d)) answer new
    → after ≡ refused + one_if_refused answer → RunsRefusing setup old (map event_of (take (i + 1) events)) after new
run-more setup old events i d refused middle answer after new within r e a =
    subst (λ (es : List Event). RunsRefusing setup old es after new) (sym (map_more event_of events i d within))
    (subst (λ (n : ℕ). RunsRefusing setup old (map event_of (take i events) ++ event_of (get_or events i d) ∷ []) n new) (sym a)
    (runs-on setup old (map event_of (take i events)) refused middle (event_of (get_or events i d)) answer new r e))

pub plays : (old new : Shown) (events : List Event) (refused : ℕ) → old.world ≡ opening_world (setup_in old) → setup_in new ≡ setup_in old
    → RunsRefusing (setup_in old) old.world events refused new.world → Runs (setup_in new) (opening_world (setup_in new)) events new.world
plays old new events refused opening same r =
    subst (λ (s : Setup). Runs s (opening_world s) events new.world) (sym same)
    (subst (λ (w : World). Runs (setup_in old) w events new.world) opening (runs (setup_in old) old.world events refused new.world r))

pub refused-counts : (answer : Result dones.Done refusals.Refusal) → is_err answer ≡ true → one_if_refused (answer_of answer) ≡ 1
refused-counts (Ok done) e = absurd (cc)
refused-counts (Err refusal) e = refl

pub done-counts : (answer : Result dones.Done refusals.Refusal) → is_err answer ≡ false → one_if_refused (answer_of answer) ≡ 0
done-counts (Ok done) e = refl
done-counts (Err refusal) e = absurd (cc)

pub run-more-from : (first old new : Shown) (events : List happened.Event) (i : ℕ) (d : happened.Event) (refused : ℕ) (answer : Result Done ℕ) (after : ℕ)
    → i < length events
    → RunsRefusing (setup_in first) first.world (map event_of (take i events)) refused old.world → setup_in old ≡ setup_in first
    → Events (setup_in old) old.world (event_of (get_or events i d)) answer new.world → after ≡ refused + one_if_refused answer
    → RunsRefusing (setup_in first) first.world (map event_of (take (i + 1) events)) after new.world
run-more-from first old new events i d refused answer after within r same e a =
    run-more (setup_in first) first.world events i d refused old.world answer after new.world within r
    (subst (λ (s : Setup). Events s old.world (event_of (get_or events i d)) answer new.world) same e) a
