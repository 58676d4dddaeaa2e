-- The whole statement about an engine: at the beginning, and after more events.
use Rattle.std.proofs.Common.{◌≡◌, ◌<◌, ℕ, ◌+◌, List, [], ◌∷◌, ◌++◌, length, take, map, get_or, Result, refl, sym, ap, ◌∙◌, subst}
use Rattle.std.proofs.lemmas.List.{map_more, append-nil, append_assoc}
use Rattle.rpc_record.specs.Stream.{AreBytes}
use Rattle.nfs_model.specs.World.{Setup, World}
use Rattle.nfs_model.specs.Headline.{opening_world}
use Rattle.nfs_model.specs.Events.Refusals.{Event, Done}
use Rattle.nfs_model.specs.Events.Step.{Events, Runs}
use Rattle.desk.specs.Words.{books}
use Rattle.depot.specs.Words.{view}
use Rattle.service.specs.Jobs.{job_of, job_reply_of}
use Rattle.rpc_msg.specs.declared.offer.Offer.{Offer}
use Rattle.engine_feed.specs.Streams.{IsServed, scan_stream}
use Rattle.engine.specs.laws.lemmas.Historied.{stands-history}
use Rattle.engine.specs.declared.event.Event as happened
use Rattle.engine.specs.declared.state.State.{State}
use Rattle.engine.specs.Seen as fields
use Rattle.engine.specs.Seen.{event_of}
use Rattle.engine.specs.Sound.{IsSoundEngine}
use Rattle.engine.specs.Shown.{Shown, shown, setup_in, HasHeadline, HasOutcomes, HasHistory}
use Rattle.engine.specs.Promise.{Promise, GoesOn}

-- the law of streams
abbrev pub StreamsAreServed : Type 0
StreamsAreServed = (offer : Offer) (stream : List ℕ) → AreBytes stream → IsServed offer stream (scan_stream offer stream)

-- the seat of a sound engine's desk has its history
pub sound-history : (s : State) → IsSoundEngine s → HasHistory (shown s)
sound-history s sound =
    stands-history job_of job_reply_of (fields.setup_in s) (fields.world s) (books s.desk).layout (view s.desk.seat).first (books s.desk).entries
    (books s.desk).lent sound.stands

-- events, and more after them
runs-more : (setup : Setup) (old : World) (es : List Event) (middle : World) (more : List Event) (new : World) → Runs setup old es middle
    → Runs setup middle more new → Runs setup old (es ++ more) new
runs-more setup old [] middle more new came then = subst (λ (w : World). Runs setup w more new) came then
runs-more setup old (e ∷ es) middle more new came then = (came.0, came.1, came.2, runs-more setup came.1 es middle more new came.3 then)

pub promised : StreamsAreServed → (es : List Event) (e : Shown) → Runs (setup_in e) (opening_world (setup_in e)) es e.world → HasHeadline e → HasOutcomes e
    → HasHistory e → Promise es e
promised served es e came headline outcomes history = record {
  came = came;
  headline = headline;
  streams = λ c x there bytes. served e.offer x.stream bytes;
  outcomes = outcomes;
  history = history;
}

goes-on : StreamsAreServed → (old new : Shown) (more : List Event) → setup_in new ≡ setup_in old → Runs (setup_in old) old.world more new.world
    → HasHeadline new → HasOutcomes new → HasHistory new → GoesOn old more new
goes-on served old new more same then headline outcomes history es before =
    promised served (es ++ more) new
    (subst (λ (s : Setup). Runs s (opening_world s) (es ++ more) new.world) (sym same)
    (runs-more (setup_in old) (opening_world (setup_in old)) es old.world more new.world before.came then)) headline outcomes history

-- one event more
pub steps-on : StreamsAreServed → (old new : Shown) (event : Event) (answer : Result Done ℕ) → setup_in new ≡ setup_in old
    → Events (setup_in old) old.world event answer new.world → HasHeadline new → HasOutcomes new → HasHistory new → GoesOn old (event ∷ []) new
steps-on served old new event answer same happens headline outcomes history =
    goes-on served old new (event ∷ []) same (answer, new.world, happens, refl) headline outcomes history

-- no event more
pub goes-nowhere : (e : Shown) → GoesOn e [] e
goes-nowhere e es before = subst (λ (xs : List Event). Promise xs e) (sym (append-nil es)) before

-- the events of a list up to a place, and the one at that place
pub goes-further : (first old new : Shown) (events : List happened.Event) (i : ℕ) (d : happened.Event) → i < length events
    → GoesOn first (map event_of (take i events)) old → GoesOn old (event_of (get_or events i d) ∷ []) new
    → GoesOn first (map event_of (take (i + 1) events)) new
goes-further first old new events i d within before then es promise =
    subst (λ (xs : List Event). Promise xs new)
    (append_assoc es (map event_of (take i events)) (event_of (get_or events i d) ∷ [])
    ∙ ap (λ (xs : List Event). es ++ xs) (sym (map_more event_of events i d within)))
    (then (es ++ map event_of (take i events)) (before es promise))
