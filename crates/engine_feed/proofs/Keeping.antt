-- Connections and calls that stay sound.
use Rattle.std.proofs.Common.{◌≡◌, ℕ, ◌+◌, ◌≤◌, List, [], ◌∷◌, ◌++◌, sym, ap, subst, ◌∙◌, arith, length, length-append, append_assoc}
use Rattle.std.specs.List.{AllByRecursion}
use Rattle.std.proofs.lemmas.List.{append-nil}
use Rattle.nfs_values.specs.declared.call.Call.{Call}
use Rattle.scheduler.specs.declared.message.Message.{Message}
use Rattle.engine_feed.specs.declared.state.ConnectionState.{ConnectionState}
use Rattle.engine_feed.specs.declared.state.CallsState.{CallsState}
use Rattle.engine_feed.specs.Limit.{reply_limit}
use Rattle.engine_feed.specs.Seen.{owed_by, layout_in, messages_of, running_count}
use Rattle.engine_feed.specs.Sound.{IsInStep, IsSoundConnection, AreSound, IsRoomier, IsWrittenTo, KeepsEntry}
use Rattle.engine_feed.specs.Sound.{IsAnswered}
use Rattle.engine_feed.specs.Sound.{HasRoomToReply, HaveRoomToAdmit}
use Rattle.engine_feed.specs.Words.{rooms, IsOwn, Adds, Keeps}

-- ---- what waits

-- where nothing waits that didn't
pub adds-none : (calls calls' : CallsState) (c c' : ConnectionState) (n : ℕ) → messages_of calls' ≡ messages_of calls → owed_by c' ≡ owed_by c
    → running_count calls' ≡ running_count calls → layout_in calls' ≡ layout_in calls → Adds calls c n calls' c'
adds-none calls calls' c c' n m o r l = record {
  more = [];
  waiting = m ∙ sym (append-nil (messages_of calls));
  own = tt;
  owed = omega (arith, o);
  running = r;
  layout = l;
}

rooms-append : (ms ns : List (Message Call)) → rooms (ms ++ ns) ≡ rooms ms + rooms ns
rooms-append [] ns = omega arith
rooms-append (m ∷ ms) ns = let r = rooms-append ms ns in omega (arith, r)

own-append : (n : ℕ) (ms ns : List (Message Call)) → AllByRecursion (IsOwn n) ms → AllByRecursion (IsOwn n) ns → AllByRecursion (IsOwn n) (ms ++ ns)
own-append n [] ns p q = q
own-append n (m ∷ ms) ns p q = (p.0, own-append n ms ns p.1 q)

-- first these, then those
pub adds-then : (calls calls' calls'' : CallsState) (c c' c'' : ConnectionState) (n : ℕ) → Adds calls c n calls' c' → Adds calls' c' n calls'' c''
    → Adds calls c n calls'' c''
adds-then calls calls' calls'' c c' c'' n p q =
    let sum = rooms-append p.more q.more in
    let first = p.owed in
    let second = q.owed in
    record {
      more = p.more ++ q.more;
      waiting = q.waiting ∙ ap (λ (ms : List (Message Call)). ms ++ q.more) p.waiting ∙ append_assoc (messages_of calls) p.more q.more;
      own = own-append n p.more q.more p.own q.own;
      owed = omega (arith, sum, first, second);
      running = q.running ∙ p.running;
      layout = q.layout ∙ p.layout;
    }

-- ---- connections

-- what was read isn't touched by replies
in-step-answered : (c c' : ConnectionState) → IsAnswered c c' → IsInStep c → IsInStep c'
in-step-answered c c' e s =
    subst IsInStep (sym e) (record { reassembler = s.reassembler; fault = s.fault; records = s.records; few = s.few })

written-answered : (c c' : ConnectionState) (bytes : List ℕ) → IsWrittenTo c c' bytes → IsAnswered c c'
written-answered c c' bytes w = w.same ∙ ap (λ (k : ℕ). record c { output = c'.output; owed = k }) (sym (ap owed_by w.same))

written-sound : (c c' : ConnectionState) (bytes : List ℕ) → IsWrittenTo c c' bytes
    → length bytes ≤ reply_limit → HasRoomToReply c → IsSoundConnection c → IsSoundConnection c'
written-sound c c' bytes w short room s =
    let owed = ap owed_by w.same in
    let size = ap (λ (bs : List ℕ). length bs) w.items in
    let sum = length-append c.output.items bytes in
    let old = c.output.ok.0 in
    let new = c'.output.ok.0 in
    let more = w.room in
    record {
      in_step = in-step-answered c c' (written-answered c c' bytes w) s.in_step;
      room = omega (arith, owed, size, sum, old, new, more, short, room);
    }

pub roomier-sound : (c c' : ConnectionState) → IsRoomier c c' → IsSoundConnection c → IsSoundConnection c'
roomier-sound c c' r s =
    let owed = ap owed_by r.same in
    let len = r.len in
    let room = r.room in
    let old = s.room in
    let answered : IsAnswered c c' = r.same ∙ ap (λ (k : ℕ). record c { output = c'.output; owed = k }) (sym owed) in
    record { in_step = in-step-answered c c' answered s.in_step; room = omega (arith, owed, len, room, old) }

-- ---- calls

kept-sound : (calls calls' : CallsState) → KeepsEntry calls calls' → HaveRoomToAdmit calls → AreSound calls → AreSound calls'
kept-sound calls calls' k entry s =
    let len = k.len in
    let room = k.room in
    subst AreSound (sym k.same) (record { admitted = s.admitted; places = s.places; entries = omega (arith, len, room, entry) })

-- a reply is written, and an entry kept
pub answered-keeps : (calls calls' : CallsState) (c c' : ConnectionState) (n : ℕ) (bytes : List ℕ) → IsWrittenTo c c' bytes → KeepsEntry calls calls'
    → length bytes ≤ reply_limit → IsSoundConnection c → AreSound calls → HasRoomToReply c → HaveRoomToAdmit calls → Keeps calls c n calls' c'
answered-keeps calls calls' c c' n bytes w k short s t room entry = record {
  stays = record {
    adds = adds-none calls calls' c c' n (ap messages_of k.same) (ap owed_by w.same) (ap running_count k.same) (ap layout_in k.same);
    is_sound = written-sound c c' bytes w short room s;
    are_sound = kept-sound calls calls' k entry t;
  };
  same = written-answered c c' bytes w;
}
