-- Bytes come, and connections are opened and closed: what calls run on stays, and the books stand for the world after it.
use Rattle.std.proofs.Common.{◌≡◌, ℕ, ◌+◌, Bool, true, false, List, [], ◌∷◌, ◌++◌, take, length, Option, Some, None, refl, sym, ap, ◌∙◌}
use Rattle.std.proofs.Common.{subst}
use Rattle.std.specs.List.{AllByRecursion}
use Rattle.std.proofs.lemmas.List.{length-map, append-nil, append_assoc}
use Rattle.nfs_model.specs.Types.{Call, Caller, Moment, Asked, Ask, Refused, Undecoded}
use Rattle.nfs_model.specs.Tree.{Layout, Affinity}
use Rattle.nfs_model.specs.Server.{Server, start_of_times}
use Rattle.nfs_model.specs.Home.{home, home_of_asked}
use Rattle.nfs_model.specs.Serial.Step.{Step, serial, serve, stay}
use Rattle.nfs_model.specs.Serial.AtOnce.{answer_without_home}
use Rattle.nfs_model.specs.Replay.{server_after}
use Rattle.nfs_model.specs.World.{Setup, World, Heard, Message}
use Rattle.nfs_model.specs.Headline.{start}
use Rattle.nfs_model.specs.Events.Feed.{Feeds, Feeding, Hears, heard_in, admit, call_at_once, call_undecoded, bytes_taken, served_count}
use Rattle.desk.specs.laws.Books.{settled, HasHands}
use Rattle.filer_state.specs.state.Contents.{filer_contents}
use Rattle.filer_state.specs.state.Tree.{volume_of}
use Rattle.filer_state.specs.state.Jobs.{Job, JobReply}
use Rattle.filer_state.specs.laws.lemmas.Steps.{laid-out}
use Rattle.engine.specs.laws.Store.{FilerBooks, filer, RunOn, StandsFor, batches_carried, calls_run}
use Rattle.engine.specs.laws.lemmas.Finishing.{after-one}
use Rattle.engine.specs.laws.lemmas.Recorded.{run-none}

-- a call without a home changes nothing
abbrev pub WithoutHomeStays : Type 0
WithoutHomeStays = (layout : Layout) (server : Server) (caller : Caller) (moment : Moment) (call : Call) → length layout.volumes
    ≡ length server.volumes
    → home layout call ≡ None → serve server call caller moment ≡ stay server (answer_without_home layout call)

-- what calls run on is the same in two worlds
pub record RunAlike (setup : Setup) (w new : World) : Type 0 where
  pub server : new.server ≡ w.server
  pub parts : new.parts ≡ w.parts
  pub stamps : new.stamps ≡ w.stamps
  pub workers : new.workers ≡ w.workers
  pub finished : server_after (start setup) new.finished ≡ server_after (start setup) w.finished
  pub ran : calls_run new.finished ≡ calls_run w.finished

-- the books stand for both
pub stands-alike : {P C R : Type 0} (job : C → Job) (told : R → JobReply) (setup : Setup) (w new : World) (b : FilerBooks P C R) → RunAlike setup w new
    → StandsFor job told setup w b → StandsFor job told setup new b
stands-alike job told setup w new b same s = record {
  layout = s.layout;
  lawful = s.lawful;
  lent = s.lent;
  server = same.server ∙ s.server;
  parts = same.parts ∙ s.parts;
  finished = same.finished ∙ s.finished;
  stamps = same.stamps ∙ s.stamps;
  workers = subst (λ ks. RunOn setup b ks b.lent) (sym same.workers) s.workers;
  hands = subst (λ ks. HasHands (filer job told) b (batches_carried ks)) (sym same.workers) s.hands;
  sound = s.sound;
  opening = s.opening;
  legal = s.legal;
  calls = s.calls ∙ sym same.ran;
}

alike-then : (setup : Setup) (a b c : World) → RunAlike setup a b → RunAlike setup b c → RunAlike setup a c
alike-then setup a b c p q = record {
  server = q.server ∙ p.server;
  parts = q.parts ∙ p.parts;
  stamps = q.stamps ∙ p.stamps;
  workers = q.workers ∙ p.workers;
  finished = q.finished ∙ p.finished;
  ran = q.ran ∙ p.ran;
}

-- what holds of each element of two lists holds of each of both in turn
pub all-append : {A : Type 0} (P : A → Type 0) (xs ys : List A) → AllByRecursion P xs → AllByRecursion P ys → AllByRecursion P (xs ++ ys)
all-append P [] ys p q = q
all-append P (x ∷ xs) ys p q = (p.0, all-append P xs ys p.1 q)

module _ (stays : WithoutHomeStays) (setup : Setup) where
  -- a record that is answered at once changes nothing
  at-once-stays : (server : Server) (asked : Asked) → length setup.layout.volumes ≡ length server.volumes → home_of_asked setup.layout asked ≡ None
      → (serial server asked start_of_times false).server ≡ server
  at-once-stays server (Ask call caller) counted none =
      ap (λ (x : Step). x.server) (stays setup.layout server caller start_of_times call counted none)
  at-once-stays server (Refused reply) counted none = refl
  at-once-stays server Undecoded counted none = refl

  abbrev Counted : World → Type 0
  Counted w = length setup.layout.volumes ≡ length (server_after (start setup) w.finished).volumes

  admit-alike : (w : World) (c n : ℕ) (h : Heard) (o : Option Affinity) → home_of_asked setup.layout h.asked ≡ o → Counted w
      → RunAlike setup w (admit setup w c n h o)
  admit-alike w c n h (Some a) is counted = record { server = refl; parts = refl; stamps = refl; workers = refl; finished = refl; ran = refl }
  admit-alike w c n h None is counted = record {
    server = refl;
    parts = refl;
    stamps = refl;
    workers = refl;
    finished = after-one (start setup) w.finished (call_at_once c n h)
        ∙ at-once-stays (server_after (start setup) w.finished) h.asked counted is;
    ran = run-none w.finished (call_at_once c n h) refl;
  }

  heard-alike : (w : World) (c n : ℕ) (h : Heard) (starved : Bool) → Counted w → RunAlike setup w (heard_in setup w c n h starved)
  heard-alike w c n h false counted = admit-alike w c n h (home_of_asked setup.layout h.asked) refl counted
  heard-alike w c n h true counted = record {
    server = refl;
    parts = refl;
    stamps = refl;
    workers = refl;
    finished = after-one (start setup) w.finished (call_undecoded c n h);
    ran = run-none w.finished (call_undecoded c n h) refl;
  }

  still-counted : (w new : World) → RunAlike setup w new → Counted w → Counted new
  still-counted w new same counted = counted ∙ ap (λ (server : Server). length server.volumes) (sym same.finished)

  hears-alike : (hs : List Heard) (c : ℕ) (w : World) (n : ℕ) (new : World) → Counted w → Hears setup c w n hs new → RunAlike setup w new
  hears-alike [] c w n new counted is = record {
    server = ap (λ (x : World). x.server) is;
    parts = ap (λ (x : World). x.parts) is;
    stamps = ap (λ (x : World). x.stamps) is;
    workers = ap (λ (x : World). x.workers) is;
    finished = ap (λ (x : World). server_after (start setup) x.finished) is;
    ran = ap (λ (x : World). calls_run x.finished) is;
  }
  hears-alike (h ∷ hs) c w n new counted hears =
      let one = heard-alike w c n h hears.1.0 counted in
      let next : World = heard_in setup w c n h hears.1.0 in
      alike-then setup w next new one (hears-alike hs c next (n + 1) new (still-counted w next one counted) hears.1.2)

  -- ---- messages that come try their homes

  abbrev pub IsAtHome : Message → Type 0
  IsAtHome m = home_of_asked setup.layout m.asked ≡ Some m.affinity

  -- what waits more, and is at home
  abbrev Adds : World → World → Type 0
  Adds w new = (more : List Message) × (new.waiting ≡ w.waiting ++ more) × AllByRecursion IsAtHome more

  adds-none : (w new : World) → new.waiting ≡ w.waiting → Adds w new
  adds-none w new same = ([], same ∙ sym (append-nil w.waiting), tt)

  adds-then : (a b c : World) → Adds a b → Adds b c → Adds a c
  adds-then a b c p q = (
    p.0 ++ q.0,
    q.1 ∙ ap (λ (ms : List Message). ms ++ q.0) p.1 ∙ append_assoc a.waiting p.0 q.0,
    all-append IsAtHome p.0 q.0 p.2 q.2,
  )

  admit-adds : (w : World) (c n : ℕ) (h : Heard) (o : Option Affinity) → home_of_asked setup.layout h.asked ≡ o → Adds w (admit setup w c n h o)
  admit-adds w c n h None is = adds-none w (admit setup w c n h None) refl
  admit-adds w c n h (Some a) is = (_, refl, (is, tt))

  heard-adds : (w : World) (c n : ℕ) (h : Heard) (starved : Bool) → Adds w (heard_in setup w c n h starved)
  heard-adds w c n h false = admit-adds w c n h (home_of_asked setup.layout h.asked) refl
  heard-adds w c n h true = adds-none w (heard_in setup w c n h true) refl

  hears-adds : (hs : List Heard) (c : ℕ) (w : World) (n : ℕ) (new : World) → Hears setup c w n hs new → Adds w new
  hears-adds [] c w n new is = adds-none w new (ap (λ (x : World). x.waiting) is)
  hears-adds (h ∷ hs) c w n new hears =
      let next : World = heard_in setup w c n h hears.1.0 in
      adds-then w next new (heard-adds w c n h hears.1.0) (hears-adds hs c next (n + 1) new hears.1.2)

  -- ---- a feed

  -- what waits stays as it is, and what comes is at home
  pub feed-adds : (f : Feeding) (w new : World) → Feeds setup f w new
      → (more : List Message) × (new.waiting ≡ w.waiting ++ more) × AllByRecursion IsAtHome more
  feed-adds f w new feeds = hears-adds feeds.heard f.connection _ _ new feeds.hears

  module _ {P C R : Type 0} (job : C → Job) (told : R → JobReply) (b : FilerBooks P C R) (w : World) (s : StandsFor job told setup w b) where
    counted : Counted w
    counted =
        let laid = laid-out b.layout (settled b) in
        ap (λ (layout : Layout). length layout.volumes) (sym s.layout) ∙ sym laid.volumes
        ∙ sym (length-map (filer_contents b.layout (settled b)).volumes volume_of) ∙ ap (λ (server : Server). length server.volumes) (sym s.finished)

    feed-alike : (f : Feeding) (new : World) → Feeds setup f w new → RunAlike setup w new
    feed-alike f new feeds =
        let same = hears-alike feeds.heard f.connection (bytes_taken w f.connection (take f.taken f.bytes))
        (served_count setup w f.connection) new counted feeds.hears in
        record { server = same.server; parts = same.parts; stamps = same.stamps; workers = same.workers; finished = same.finished; ran = same.ran }

    -- the books stand for the world after it
    pub fed-stands : (f : Feeding) (new : World) → Feeds setup f w new → StandsFor job told setup new b
    fed-stands f new feeds = stands-alike job told setup w new b (feed-alike f new feeds) s
