-- A feed keeps the headline: one byte after another.
use Rattle.std.proofs.Common.{◌≡◌, ℕ, ◌+◌, ◌≤◌, Bool, true, false, List, [], ◌∷◌, ◌++◌, length, Option, Some, None, refl, sym, ap, subst, ◌∙◌, arith, inl, inr}
use Rattle.std.specs.Prelude.{slice_get, IfSome, is_none, ◌==◌, ◌&&◌}
use Rattle.std.specs.List.{AllByRecursion}
use Rattle.std.proofs.lemmas.List.{append-nil}
use Rattle.std.proofs.lemmas.Bool.{eq-eqb}
use Rattle.nfs_model.specs.Types.{Reply, SystemError}
use Rattle.nfs_model.specs.Tree.{Affinity, begins, path}
use Rattle.nfs_model.specs.Server.{Server, start_of_times}
use Rattle.nfs_model.specs.Serial.Step.{serial}
use Rattle.nfs_model.specs.Home.{home_of_asked}
use Rattle.nfs_model.specs.Replay.{FinishedCall, step_of, server_after, IsLawful}
use Rattle.nfs_model.specs.World.{Heard, Setup, World, Connection, Message, IsScan, all_running, with_output, changed_at, finish}
use Rattle.nfs_model.specs.Events.Refusals.{takes_input}
use Rattle.nfs_model.specs.Events.Feed.{feeding, stream_in, stream_of, served_count, call_at_once, call_undecoded, admit, heard_in, MayStarveIf}
use Rattle.nfs_laws.specs.Walk.{Reached, Further, Complete, AtFault, reached_at, reached_by, reached, with_byte, byte_taken, Takes, TakesFault, Walks}
use Rattle.nfs_model.specs.Headline.{Kept, start, served, messages, tally_finished, server_worked, IsHeard, IsOwnCall, IsOwnMessage, IsOutcome, IsTried}
use Rattle.nfs_model.specs.Headline.{HasRunAsItSays}
use Rattle.nfs_model.specs.Parts.{one_if}
use Rattle.nfs_laws.proofs.Lists.{All-push, Some_same, none_is, slice_get-append, slice_get_next, slice_get-changed_at}
use Rattle.nfs_laws.proofs.Written.{AreLawful-push, server_after-push, replies_finish, until_finish, replies_changed, until_changed, written_stream}
use Rattle.nfs_laws.proofs.Written.{written_closed}
use Rattle.nfs_laws.proofs.Own.{IsLater, later_changed, later_then, own_later, own_of_heard, entries_later, messages_later}
use Rattle.nfs_laws.proofs.Once.{total_in, once_changed, once_heard, tally_finished-append, tally_messages-append}
use Rattle.nfs_laws.proofs.Needs.{IsAtOnce, at_once}
use Rattle.nfs_model.specs.Agreed.{done}

-- ---- what one byte does to a stream

-- the records and the fault after a byte, by what it reached
abbrev pub Brings : Reached → Option ℕ → List Heard → List Heard → Type 0
Brings Further fault old new = (fault ≡ None) × (new ≡ old)
Brings (Complete h) fault old new = (fault ≡ None) × (new ≡ old ++ h ∷ [])
Brings (AtFault number) fault old new = (fault ≡ Some number) × (new ≡ old)

module _ (old : List Heard) where
  at_next : (new more : List Heard) → new ≡ old ++ more → slice_get new (length old) ≡ slice_get more 0
  at_next new more e = ap (λ (hs : List Heard). slice_get hs (length old)) e ∙ slice_get_next old more

  brought : (r : Reached) (fault : Option ℕ) (new more : List Heard) → new ≡ old ++ more → length more ≤ 1 → IfSome fault (λ number. more ≡ [])
      → reached_at fault (slice_get more 0) ≡ r → Brings r fault old new
  brought Further (Some number) new more e few none is = absurd cc
  brought Further None new [] e few none is = (refl, e ∙ append-nil old)
  brought Further None new (h ∷ more) e few none is = absurd cc
  brought (Complete h) (Some number) new more e few none is = absurd cc
  brought (Complete h) None new [] e few none is = absurd cc
  brought (Complete h) None new (x ∷ []) e few none is = let same : x ≡ h = cc in (refl, e ∙ ap (λ (y : Heard). old ++ y ∷ []) same)
  brought (Complete h) None new (x ∷ (y ∷ more)) e few none is = absurd (omega arith)
  brought (AtFault number) None new [] e few none is = absurd cc
  brought (AtFault number) None new (h ∷ more) e few none is = absurd cc
  brought (AtFault number) (Some n) new more e few none is = (
    ap Some (let same : n ≡ number = cc in same),
    e ∙ ap (λ (hs : List Heard). old ++ hs) none
        ∙ append-nil old,
  )

-- ---- a connection that takes input

pub record IsTaking (setup : Setup) (w : World) (c : ℕ) : Type 0 where
  pub connection : Connection
  pub there : slice_get w.connections c ≡ Some connection
  pub unclosed : connection.closed ≡ None
  pub sound : (setup.codec.scan connection.stream).fault ≡ None

and_true : (a b : Bool) → (a && b) ≡ true → (a ≡ true) × (b ≡ true)
and_true true b e = (refl, e)
and_true false b e = absurd cc

taking_at : (setup : Setup) (w : World) (c : ℕ) (o : Option Connection) → slice_get w.connections c ≡ o → takes_input setup o ≡ true → IsTaking setup w c
taking_at setup w c None e t = absurd cc
taking_at setup w c (Some x) e t =
    let parts = and_true (is_none x.closed) (is_none (setup.codec.scan x.stream).fault) t in
    record { connection = x; there = e; unclosed = none_is x.closed parts.0; sound = none_is (setup.codec.scan x.stream).fault parts.1 }

pub taking : (setup : Setup) (w : World) (c : ℕ) → takes_input setup (slice_get w.connections c) ≡ true → IsTaking setup w c
taking setup w c t = taking_at setup w c (slice_get w.connections c) refl t

-- what a byte of this connection reached, in the words of its stream
pub brings : (setup : Setup) (w : World) (c b : ℕ) (t : IsTaking setup w c) (r : Reached) → IsScan setup.codec → reached setup w c b ≡ r
    → Brings r (setup.codec.scan (t.connection.stream ++ b ∷ [])).fault (served setup t.connection) (served setup (with_byte b t.connection))
brings setup w c b t r scan is =
    let x = t.connection in
    let came : stream_of w c ≡ x.stream = ap (λ (o : Option Connection). stream_in o) t.there in
    let more = scan.further x.stream b t.sound in
    let here : reached_by (setup.codec.scan (x.stream ++ b ∷ [])) (length (served setup x)) ≡ r =
    ap (λ (s : List ℕ). reached_by (setup.codec.scan (s ++ b ∷ [])) (length (setup.codec.scan s).served)) (sym came) ∙ is in
    brought (served setup x) r (setup.codec.scan (x.stream ++ b ∷ [])).fault (served setup (with_byte b x)) more.0 more.1 more.2 more.3
    (ap (λ (o : Option Heard). reached_at (setup.codec.scan (x.stream ++ b ∷ [])).fault o)
    (sym (at_next (served setup x) (served setup (with_byte b x)) more.0 more.1)) ∙ here)

-- the connection of a place is one
is_that : (w : World) (c : ℕ) (x y : Connection) → slice_get w.connections c ≡ Some x → slice_get w.connections c ≡ Some y → x ≡ y
is_that w c x y e f = Some_same x y (sym e ∙ f)

byte_later : (setup : Setup) (w : World) (c b : ℕ) (t : IsTaking setup w c) (more : List Heard)
    → served setup (with_byte b t.connection) ≡ served setup t.connection ++ more
    → IsLater setup w.connections (changed_at (with_byte b) w.connections c)
byte_later setup w c b t more longer =
    later_changed setup w.connections (with_byte b) c (λ y at n h q.
    let same : t.connection ≡ y = is_that w c t.connection y t.there at in
    subst (λ (z : Connection). slice_get (served setup (with_byte b z)) n ≡ Some h) same
    (ap (λ (hs : List Heard). slice_get hs n) longer
    ∙ slice_get-append (served setup t.connection) more n h (subst (λ (z : Connection). slice_get (served setup z) n ≡ Some h) (sym same) q)))

-- ---- a byte that brings no record

byte_kept : (setup : Setup) (w : World) (c b : ℕ) (t : IsTaking setup w c) → served setup (with_byte b t.connection) ≡ served setup t.connection
    → Kept setup w → Kept setup (byte_taken w c b)
byte_kept setup w c b t same h =
    let new : World = byte_taken w c b in
    let later = byte_later setup w c b t [] (same ∙ sym (append-nil (served setup t.connection))) in
    record {
      headline = record {
        output = replies_changed setup w.connections w.finished (with_byte b) c (λ x. refl) (λ x. refl) h.headline.output;
        each_once = once_changed setup w.connections (total_in w) (total_in w) (with_byte b) c
            (λ x at. subst (λ (z : Connection). served setup (with_byte b z) ≡ served setup z) (is_that w c t.connection x t.there at) same)
            (λ i n. refl) h.headline.each_once;
        own_finished = entries_later setup w new later w.finished h.headline.own_finished;
        own_waiting = messages_later setup w new later w.waiting h.headline.own_waiting;
        own_running = messages_later setup w new later (messages (all_running w.workers)) h.headline.own_running;
        lawful = h.headline.lawful;
        state = h.headline.state;
        partition = h.headline.partition;
        apart = h.headline.apart;
      };
      outcomes = h.outcomes;
      tried_waiting = h.tried_waiting;
      tried_running = h.tried_running;
      tried_finished = h.tried_finished;
      until = until_changed w.connections w.finished (with_byte b) c (λ x. refl) h.until;
    }

-- ---- a byte that brings a record

-- a record is complete: its connection has one more, of this number
record IsHeardNow (setup : Setup) (w : World) (c b number : ℕ) (heard : Heard) : Type 0 where
  taking : IsTaking setup w c
  longer : served setup (with_byte b taking.connection) ≡ served setup taking.connection ++ heard ∷ []
  numbered : number ≡ length (served setup taking.connection)

module _ (setup : Setup) (w : World) (c b number : ℕ) (heard : Heard) (now : IsHeardNow setup w c b number heard) where
  now_later : IsLater setup w.connections (changed_at (with_byte b) w.connections c)
  now_later = byte_later setup w c b now.taking (heard ∷ []) now.longer

  -- the record is there
  now_own : IsHeard setup (byte_taken w c b) c number heard.xid heard.asked
  now_own = (
    with_byte b now.taking.connection,
    slice_get-changed_at (with_byte b) w.connections c now.taking.connection now.taking.there,
    ap (λ (i : ℕ). slice_get (served setup (with_byte b now.taking.connection)) i) now.numbered
        ∙ ap (λ (hs : List Heard). slice_get hs (length (served setup now.taking.connection))) now.longer
        ∙ slice_get_next (served setup now.taking.connection) (heard ∷ []),
  )

  now_longer : (x : Connection) → slice_get w.connections c ≡ Some x
      → (served setup (with_byte b x) ≡ served setup x ++ heard ∷ []) × (number ≡ length (served setup x))
  now_longer x at =
      subst (λ (z : Connection). (served setup (with_byte b z) ≡ served setup z ++ heard ∷ []) × (number ≡ length (served setup z)))
      (is_that w c now.taking.connection x now.taking.there at) (now.longer, now.numbered)

both_true : (a b : Bool) → a ≡ true → b ≡ true → (a && b) ≡ true
both_true true b e f = f
both_true false b e f = absurd cc

begins_refl : (xs : List ℕ) → begins xs xs ≡ true
begins_refl [] = refl
begins_refl (x ∷ xs) = both_true (x == x) (begins xs xs) (eq-eqb x x refl) (begins_refl xs)

-- it waits under its home
wait_kept : (setup : Setup) (w : World) (c b number : ℕ) (heard : Heard) (a : Affinity) → IsHeardNow setup w c b number heard
    → home_of_asked setup.layout heard.asked ≡ Some a → Kept setup w
    → Kept setup (admit setup (byte_taken w c b) c number heard (Some a))
wait_kept setup w c b number heard a now home h =
    let m : Message = record { connection = c; number = number; xid = heard.xid; asked = heard.asked; affinity = a } in
    let new : World = admit setup (byte_taken w c b) c number heard (Some a) in
    let later = now_later setup w c b number heard now in
    record {
      headline = record {
        output = replies_changed setup w.connections w.finished (with_byte b) c (λ x. refl) (λ x. refl) h.headline.output;
        each_once = once_heard setup w.connections (total_in w) (total_in new) (with_byte b) c number heard (now_longer setup w c b number heard now)
            (λ i n. omega (arith, tally_messages-append i n w.waiting (m ∷ [])))
            h.headline.each_once;
        own_finished = entries_later setup w new later w.finished h.headline.own_finished;
        own_waiting = All-push (IsOwnMessage setup new) w.waiting m (messages_later setup w new later w.waiting h.headline.own_waiting)
            (now_own setup w c b number heard now);
        own_running = messages_later setup w new later (messages (all_running w.workers)) h.headline.own_running;
        lawful = h.headline.lawful;
        state = h.headline.state;
        partition = h.headline.partition;
        apart = h.headline.apart;
      };
      outcomes = h.outcomes;
      tried_waiting = All-push (IsTried setup) w.waiting m h.tried_waiting (a, home, begins_refl (path setup.layout a));
      tried_running = h.tried_running;
      tried_finished = h.tried_finished;
      until = until_changed w.connections w.finished (with_byte b) c (λ x. refl) h.until;
    }

-- it is answered at once, by an entry that changes nothing
answer_kept : (setup : Setup) (w : World) (c b number : ℕ) (heard : Heard) (e : FinishedCall) (reply : Reply) → IsHeardNow setup w c b number heard
    → e.connection ≡ c → e.number ≡ number → IsOwnCall setup (byte_taken w c b) e
    → reply ≡ (step_of (done setup w) e).reply → (step_of (done setup w) e).server ≡ done setup w → IsLawful (done setup w) e e.starved
    → HasRunAsItSays setup e → Kept setup w
    → Kept setup (finish setup (byte_taken w c b) e reply)
answer_kept setup w c b number heard e reply now on_it of_it own right stays lawful ran h =
    let write : Connection → Connection = with_output (setup.codec.reply_record e.xid reply) in
    let middle : World = byte_taken w c b in
    let new : World = finish setup middle e reply in
    let keeps : (x : Connection) → served setup (write x) ≡ served setup x = λ x. ap (λ (bytes : List ℕ). (setup.codec.scan bytes).served)
    (written_stream (setup.codec.reply_record e.xid reply) x.closed x) in
    let written = later_changed setup middle.connections write e.connection (λ x at n y q. ap (λ (hs : List Heard). slice_get hs n) (keeps x) ∙ q) in
    let later = later_then setup w.connections middle.connections new.connections (now_later setup w c b number heard now) written in
    let same : server_after (start setup) (w.finished ++ e ∷ []) ≡ done setup w = server_after-push (start setup) w.finished e ∙ stays in
    let output_now = replies_changed setup w.connections w.finished (with_byte b) c (λ x. refl) (λ x. refl) h.headline.output in
    let until_now = until_changed w.connections w.finished (with_byte b) c (λ x. refl) h.until in
    record {
      headline = record {
        output = replies_finish setup middle.connections w.finished e reply output_now until_now right;
        each_once = once_changed setup middle.connections (total_in new) (total_in new) write e.connection (λ x at. keeps x) (λ i n. refl)
            (once_heard setup w.connections (total_in w) (total_in new) (with_byte b) c number heard (now_longer setup w c b number heard now)
            (λ i n.
            let one : tally_finished i n (e ∷ []) ≡ one_if ((c == i) && (number == n)) + 0 = ap (λ (k : ℕ). one_if ((k == i) && (e.number == n)) + 0) on_it
            ∙ ap (λ (k : ℕ). one_if ((c == i) && (k == n)) + 0) of_it in
            omega (arith, tally_finished-append i n w.finished (e ∷ []), one))
            h.headline.each_once);
        own_finished = All-push (IsOwnCall setup new) w.finished e (entries_later setup w new later w.finished h.headline.own_finished)
            (own_later setup middle new written e e.asked own);
        own_waiting = messages_later setup w new later w.waiting h.headline.own_waiting;
        own_running = messages_later setup w new later (messages (all_running w.workers)) h.headline.own_running;
        lawful = AreLawful-push (start setup) w.finished e h.headline.lawful lawful;
        state = h.headline.state ∙ ap (λ (s : Server). server_worked s (all_running w.workers)) (sym same);
        partition = h.headline.partition;
        apart = h.headline.apart;
      };
      outcomes = subst (λ (s : Server). AllByRecursion (λ r. IsOutcome setup s r r.outcome) (all_running w.workers)) (sym same) h.outcomes;
      tried_waiting = h.tried_waiting;
      tried_running = h.tried_running;
      tried_finished = All-push (HasRunAsItSays setup) w.finished e h.tried_finished ran;
      until = until_finish middle.connections w.finished e (setup.codec.reply_record e.xid reply) e.connection until_now;
    }

-- ---- a complete record

admit_kept : (setup : Setup) (w : World) (c b number : ℕ) (heard : Heard) (o : Option Affinity) → IsScan setup.codec → IsHeardNow setup w c b number heard
    → home_of_asked setup.layout heard.asked ≡ o → Kept setup w → Kept setup (admit setup (byte_taken w c b) c number heard o)
admit_kept setup w c b number heard None scan now home h =
    let e : FinishedCall = call_at_once c number heard in
    let once : IsAtOnce setup w heard.asked = at_once setup w h heard.asked home in
    answer_kept setup w c b number heard e (serial w.server heard.asked start_of_times false).reply now refl refl
    (own_of_heard setup (byte_taken w c b) e heard.asked scan (now_own setup w c b number heard now))
    once.reply once.stays tt (home, refl) h
admit_kept setup w c b number heard (Some a) scan now home h = wait_kept setup w c b number heard a now home h

heard_kept : (setup : Setup) (w : World) (c b number : ℕ) (heard : Heard) (starved : Bool) → IsScan setup.codec → IsHeardNow setup w c b number heard
    → MayStarveIf starved heard.asked → Kept setup w → Kept setup (heard_in setup (byte_taken w c b) c number heard starved)
heard_kept setup w c b number heard true scan now may h =
    answer_kept setup w c b number heard (call_undecoded c number heard) SystemError now refl refl
    (heard.asked, now_own setup w c b number heard now, may, refl, refl)
    refl refl refl (refl, refl) h
heard_kept setup w c b number heard false scan now may h = admit_kept setup w c b number heard (home_of_asked setup.layout heard.asked) scan now refl h

-- ---- bytes one after another

-- the connection goes on taking input
module _ (setup : Setup) (w : World) (c b : ℕ) (t : IsTaking setup w c) (sound : (setup.codec.scan (t.connection.stream ++ b ∷ [])).fault ≡ None) where
  pub taking_byte : IsTaking setup (byte_taken w c b) c
  taking_byte = record {
    connection = with_byte b t.connection;
    there = slice_get-changed_at (with_byte b) w.connections c t.connection t.there;
    unclosed = t.unclosed;
    sound = sound;
  }

  taking_finish : (e : FinishedCall) (reply : Reply) → e.connection ≡ c → IsTaking setup (finish setup (byte_taken w c b) e reply) c
  taking_finish e reply on_it =
      let write : Connection → Connection = with_output (setup.codec.reply_record e.xid reply) in
      let x : Connection = with_byte b t.connection in
      record {
        connection = write x;
        there =
            subst (λ (k : ℕ). slice_get (changed_at write (byte_taken w c b).connections k) c ≡ Some (write x)) (sym on_it)
            (slice_get-changed_at write (byte_taken w c b).connections c x (slice_get-changed_at (with_byte b) w.connections c t.connection t.there));
        unclosed = written_closed (setup.codec.reply_record e.xid reply) x.closed x ∙ t.unclosed;
        sound = ap (λ (bytes : List ℕ). (setup.codec.scan bytes).fault) (written_stream (setup.codec.reply_record e.xid reply) x.closed x) ∙ sound;
      }

  taking_admit : (number : ℕ) (heard : Heard) (o : Option Affinity) → IsTaking setup (admit setup (byte_taken w c b) c number heard o) c
  taking_admit number heard None = taking_finish (call_at_once c number heard) (serial w.server heard.asked start_of_times false).reply refl
  taking_admit number heard (Some a) = record {
    connection = with_byte b t.connection;
    there = slice_get-changed_at (with_byte b) w.connections c t.connection t.there;
    unclosed = t.unclosed;
    sound = sound;
  }

  pub taking_heard : (number : ℕ) (heard : Heard) (starved : Bool) → IsTaking setup (heard_in setup (byte_taken w c b) c number heard starved) c
  taking_heard number heard true = taking_finish (call_undecoded c number heard) SystemError refl
  taking_heard number heard false = taking_admit number heard (home_of_asked setup.layout heard.asked)

-- the headline, with a connection that takes input
record IsFeeding (setup : Setup) (w : World) (c : ℕ) : Type 0 where
  kept : Kept setup w
  taking : IsTaking setup w c

numbered_at : (setup : Setup) (w : World) (c : ℕ) (t : IsTaking setup w c) → served_count setup w c ≡ length (served setup t.connection)
numbered_at setup w c t = ap (λ (o : Option Connection). length (setup.codec.scan (stream_in o)).served) t.there

takes_kept : (setup : Setup) (w : World) (c b : ℕ) (r : Reached) (new : World) → IsScan setup.codec → IsFeeding setup w c → reached setup w c b ≡ r
    → Takes setup w c b r new → IsFeeding setup new c
takes_kept setup w c b Further new scan f is takes =
    let byte = brings setup w c b f.taking Further scan is in
    subst (λ (v : World). IsFeeding setup v c) (sym takes)
    (record { kept = byte_kept setup w c b f.taking byte.1 f.kept; taking = taking_byte setup w c b f.taking byte.0 })
takes_kept setup w c b (Complete heard) new scan f is takes =
    let byte = brings setup w c b f.taking (Complete heard) scan is in
    let starved = takes.1.0 in
    let number = served_count setup w c in
    subst (λ (v : World). IsFeeding setup v c) (sym takes.1.2) (record {
      kept = heard_kept setup w c b number heard starved scan
          (record { taking = f.taking; longer = byte.1; numbered = numbered_at setup w c f.taking }) takes.1.1 f.kept;
      taking = taking_heard setup w c b f.taking byte.0 number heard starved;
    })
takes_kept setup w c b (AtFault number) new scan f is takes = absurd takes

fault_kept : (setup : Setup) (w : World) (c b : ℕ) (r : Reached) (taken stop : ℕ) (new : World) → IsScan setup.codec → IsFeeding setup w c
    → reached setup w c b ≡ r → TakesFault w c b r taken stop new → Kept setup new
fault_kept setup w c b Further taken stop new scan f is takes = absurd takes
fault_kept setup w c b (Complete heard) taken stop new scan f is takes = absurd takes
fault_kept setup w c b (AtFault number) taken stop new scan f is takes =
    subst (λ (v : World). Kept setup v) (sym takes.3) (byte_kept setup w c b f.taking (brings setup w c b f.taking (AtFault number) scan is).1 f.kept)

feeds_kept : (setup : Setup) (c : ℕ) (bytes : List ℕ) (w : World) (taken stop : ℕ) (new : World) → IsScan setup.codec → IsFeeding setup w c
    → Walks setup (feeding c bytes taken stop) w new → Kept setup new
feeds_kept setup c [] w taken stop new scan f feeds = subst (λ (v : World). Kept setup v) (sym feeds.2) f.kept
feeds_kept setup c (b ∷ bytes) w taken stop new scan f (inl stops) = subst (λ (v : World). Kept setup v) (sym stops.1) f.kept
feeds_kept setup c (b ∷ bytes) w taken stop new scan f (inr (inl fault)) = fault_kept setup w c b (reached setup w c b) taken stop new scan f refl fault
feeds_kept setup c (b ∷ bytes) w taken stop new scan f (inr (inr more)) =
    feeds_kept setup c bytes more.0 more.1 stop new scan (takes_kept setup w c b (reached setup w c b) more.0 scan f refl more.3) more.4

-- the bytes of a feed
pub keeps_walk : (setup : Setup) (w : World) (c : ℕ) (bytes : List ℕ) (taken stop : ℕ) (new : World)
    → IsScan setup.codec → takes_input setup (slice_get w.connections c) ≡ true → Walks setup (feeding c bytes taken stop) w new → Kept setup w → Kept setup new
keeps_walk setup w c bytes taken stop new scan takes feeds h =
    feeds_kept setup c bytes w taken stop new scan (record { kept = h; taking = taking setup w c takes }) feeds
