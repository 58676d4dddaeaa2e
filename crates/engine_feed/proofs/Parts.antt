-- A connection and calls, as they change in a world.
use Rattle.std.proofs.Common.{◌≡◌, ℕ, List, [], ◌∷◌, ◌++◌, Some, refl, sym, ap, ◌∙◌}
use Rattle.std.specs.Prelude.{length, map}
use Rattle.nfs_model.specs.Types as types
use Rattle.nfs_model.specs.Replay as replays
use Rattle.nfs_model.specs.World as worlds
use Rattle.nfs_model.specs.World.{Connection, World, changed_at, with_output}
use Rattle.nfs_model.specs.Events.Feed.{with_bytes, bytes_taken}
use Rattle.engine_feed.specs.declared.state.ConnectionState.{ConnectionState}
use Rattle.engine_feed.specs.declared.state.CallsState.{CallsState}
use Rattle.engine_feed.specs.Codec.{reply_record}
use Rattle.engine_feed.specs.Seen.{connection_of, layout_in, waiting_of, finished_of, running_count, entry_of}
use Rattle.engine_feed.specs.Within.{IsPartOf, with_part}
use Rattle.engine_feed.specs.Sound.{IsWrittenTo, IsRoomier, IsStreamRoomier, AreRoomier}
use Rattle.engine_feed.specs.Words.{Finishes}
use Rattle.engine_feed.specs.lemmas.Lists.{changed_at-twice, slice_get-changed_at, put-at, put-same}

-- ---- worlds by their three lists

abbrev pub lists : World → List Connection → List worlds.Message → List replays.FinishedCall → World
lists w cs ms es = record w { connections = cs; waiting = ms; finished = es }

pub lists-same : (w : World) (cs ds : List Connection) (ms ns : List worlds.Message) (es fs : List replays.FinishedCall) → cs ≡ ds → ms ≡ ns → es ≡ fs
    → lists w cs ms es ≡ lists w ds ns fs
lists-same w cs ds ms ns es fs e f g =
    ap (λ (x : List Connection). lists w x ms es) e ∙ ap (λ (x : List worlds.Message). lists w ds x es) f
    ∙ ap (λ (x : List replays.FinishedCall). lists w ds ns x) g

-- a part in its world
pub part-is : (calls : CallsState) (n : ℕ) (c : ConnectionState) (w : World) → IsPartOf calls n c w → with_part calls n c w ≡ w
part-is calls n c w p =
    lists-same w _ w.connections _ w.waiting _ w.finished (put-same (connection_of c) w.connections n p.connection) (sym p.shows.waiting)
    (sym p.shows.finished)

pub part-twice : (calls calls' : CallsState) (n : ℕ) (c c' : ConnectionState) (w : World)
    → with_part calls' n c' (with_part calls n c w) ≡ with_part calls' n c' w
part-twice calls calls' n c c' w =
    lists-same w _ _ _ _ _ _ (changed_at-twice (λ (x : Connection). connection_of c) (λ (x : Connection). connection_of c') w.connections n) refl refl

-- what was put into a world is a part of it
pub part-put : (calls calls' : CallsState) (n : ℕ) (c c' : ConnectionState) (w : World) → IsPartOf calls n c w
    → running_count calls' ≡ running_count calls → layout_in calls' ≡ layout_in calls → IsPartOf calls' n c' (with_part calls' n c' w)
part-put calls calls' n c c' w p r l = record {
  connection = slice_get-changed_at (λ (x : Connection). connection_of c') w.connections n (connection_of c) p.connection;
  shows = record { waiting = refl; finished = refl };
  running = p.running ∙ sym r;
  volumes = p.volumes ∙ ap (λ l. length l.volumes) (sym l);
}

-- the same part, where nothing of it that is seen changed
pub part-unseen : (calls calls' : CallsState) (n : ℕ) (c c' : ConnectionState) (w : World) → connection_of c' ≡ connection_of c
    → waiting_of calls' ≡ waiting_of calls → finished_of calls' ≡ finished_of calls
    → running_count calls' ≡ running_count calls → layout_in calls' ≡ layout_in calls → IsPartOf calls n c w → IsPartOf calls' n c' w
part-unseen calls calls' n c c' w o m f r l p = record {
  connection = p.connection ∙ ap (λ (x : Connection). Some x) (sym o);
  shows = record { waiting = p.shows.waiting ∙ sym m; finished = p.shows.finished ∙ sym f };
  running = p.running ∙ sym r;
  volumes = p.volumes ∙ ap (λ l. length l.volumes) (sym l);
}

-- ---- room that is made

room-unseen : (c c' : ConnectionState) → IsRoomier c c' → connection_of c' ≡ connection_of c
room-unseen c c' r = ap connection_of r.same ∙ ap (λ (out : List ℕ). record (connection_of c) { output = out }) r.items

pub stream-room-unseen : (c c' : ConnectionState) → IsStreamRoomier c c' → connection_of c' ≡ connection_of c
stream-room-unseen c c' r = ap connection_of r.same ∙ ap (λ (bytes : List ℕ). record (connection_of c) { stream = bytes }) r.items

pub still-part : (calls calls' : CallsState) (n : ℕ) (c c' : ConnectionState) (w : World) → IsRoomier c c' → AreRoomier calls calls' → IsPartOf calls n c w
    → IsPartOf calls' n c' w
still-part calls calls' n c c' w r s p =
    part-unseen calls calls' n c c' w (room-unseen c c' r) (ap waiting_of s.same) (ap (map entry_of) s.items) (ap running_count s.same) (ap layout_in s.same) p

-- ---- bytes that are taken

pub open-taken : (c c' : ConnectionState) (bytes : List ℕ) → c'.stream.items ≡ c.stream.items ++ bytes → c'.output ≡ c.output
    → connection_of c' ≡ with_bytes bytes (connection_of c)
open-taken c c' bytes e f =
    ap (λ (s : List ℕ). record (connection_of c') { stream = s }) e
    ∙ ap (λ out. record (connection_of c) { stream = c.stream.items ++ bytes; output = out.items }) f

pub part-taken : (calls : CallsState) (n : ℕ) (c c' : ConnectionState) (w : World) (bytes : List ℕ) → IsPartOf calls n c w
    → connection_of c' ≡ with_bytes bytes (connection_of c) → with_part calls n c' w ≡ bytes_taken w n bytes
part-taken calls n c c' w bytes p e =
    lists-same w _ (changed_at (with_bytes bytes) w.connections n) _ w.waiting _ w.finished
    (ap (λ (y : Connection). changed_at (λ x. y) w.connections n) e ∙ put-at (with_bytes bytes) (connection_of c) w.connections n p.connection)
    (sym p.shows.waiting) (sym p.shows.finished)

-- ---- calls that are finished

pub written-is : (c c' : ConnectionState) (bytes : List ℕ) → IsWrittenTo c c' bytes → connection_of c' ≡ with_output bytes (connection_of c)
written-is c c' bytes w = ap connection_of w.same ∙ ap (λ (out : List ℕ). record (connection_of c) { output = out }) w.items

pub finishes : (calls calls' : CallsState) (c c' : ConnectionState) (e : replays.FinishedCall) (told : types.Reply)
    → connection_of c' ≡ with_output (reply_record e.xid told) (connection_of c) → waiting_of calls' ≡ waiting_of calls
    → finished_of calls' ≡ finished_of calls ++ e ∷ [] → Finishes calls c e told calls' c'
finishes calls calls' c c' e told o m f setup w reply k s there =
    let n = e.connection in
    lists-same w _ (changed_at (with_output (setup.codec.reply_record e.xid reply)) w.connections n) _ w.waiting _ (w.finished ++ e ∷ [])
    (ap (λ (y : Connection). changed_at (λ x. y) w.connections n) o
    ∙ put-at (with_output (reply_record e.xid told)) (connection_of c) w.connections n there
    ∙ ap (λ (bs : List ℕ). changed_at (with_output bs) w.connections n) (sym k))
    (m ∙ sym s.waiting)
    (f ∙ ap (λ (es : List replays.FinishedCall). es ++ e ∷ []) (sym s.finished))
