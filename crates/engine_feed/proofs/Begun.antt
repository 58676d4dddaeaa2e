-- Messages that begin, and those that are finished.
use Rattle.std.proofs.Common.{◌≡◌, ℕ, zero, suc, ◌+◌, false, List, [], ◌∷◌, ◌++◌, Option, Some, None, refl, sym, ap, subst, ◌∙◌}
use Rattle.std.specs.Prelude.{is_none, map, option_map, slice_get}
use Rattle.std.specs.List.{AllByRecursion, remove}
use Rattle.std.proofs.lemmas.Option.{slice_get-map}
use Rattle.nfs_model.specs.Types as types
use Rattle.nfs_model.specs.Tree.{Layout}
use Rattle.nfs_model.specs.Replay as replays
use Rattle.nfs_model.specs.World as worlds
use Rattle.nfs_model.specs.World.{Connection, changed_at, with_output, written_to}
use Rattle.nfs_model.specs.Events.Refusals.{is_open}
use Rattle.nfs_values.specs.declared.call.Call.{Call}
use Rattle.scheduler.specs.declared.message.Message.{Message}
use Rattle.engine_feed.specs.declared.state.ConnectionState.{ConnectionState}
use Rattle.engine_feed.specs.declared.state.CallsState.{CallsState}
use Rattle.engine_feed.specs.Codec.{reply_record}
use Rattle.engine_feed.specs.Seen.{connection_of, layout_in, message_of}
use Rattle.engine_feed.specs.Sound.{AreSound, IsAdmitted, HasReplied}
use Rattle.engine_feed.specs.Words.{HasBegun, HasLeft, Finishes, FinishesUnseen}
use Rattle.engine_feed.proofs.Parts.{finishes, lists-same}

-- ---- a message that begins

admitted_at : (layout : Layout) (ms : List (Message Call)) (i : ℕ) (m : Message Call) → AllByRecursion (IsAdmitted layout) ms → slice_get ms i ≡ Some m
    → IsAdmitted layout m
admitted_at layout [] i m all e = absurd cc
admitted_at layout (x ∷ xs) zero m all e = let same : x ≡ m = cc in subst (IsAdmitted layout) same all.0
admitted_at layout (x ∷ xs) (suc i) m all e = admitted_at layout xs i m all.1 e

map_remove : {A B : Type 0} (f : A → B) (xs : List A) (i : ℕ) → map f (remove xs i) ≡ remove (map f xs) i
map_remove f [] zero = refl
map_remove f [] (suc i) = refl
map_remove f (x ∷ xs) zero = refl
map_remove f (x ∷ xs) (suc i) = ap (λ ys. f x ∷ ys) (map_remove f xs i)

pub begun : (calls : CallsState) (place : ℕ) (m : Message Call) (left : List (Message Call)) → AreSound calls → slice_get calls.waiting place ≡ Some m
    → left ≡ remove calls.waiting place → HasBegun calls place m (record calls { waiting = left; running = calls.running + 1 })
begun calls place m left s e l = record {
  there = e;
  admitted = admitted_at (layout_in calls) calls.waiting place m s.admitted e;
  left = l;
  running = refl;
  finished = refl;
  layout = refl;
  begins = λ w shows. (
    ap (λ (ms : List worlds.Message). slice_get ms place) shows.waiting ∙ slice_get-map message_of calls.waiting place ∙ ap (option_map message_of) e,
    lists-same w w.connections _ _ (remove w.waiting place) _ w.finished refl
        (ap (map message_of) l ∙ map_remove message_of calls.waiting place
        ∙ ap (λ (ms : List worlds.Message). remove ms place) (sym shows.waiting))
        (sym shows.finished),
  );
}

-- ---- a message that is finished

replied_is : (c c' : ConnectionState) (bytes : List ℕ) (room : ℕ) → HasReplied c c' bytes room → connection_of c' ≡ with_output bytes (connection_of c)
replied_is c c' bytes room r = ap connection_of r.same ∙ ap (λ (out : List ℕ). record (connection_of c) { output = out }) r.items

pub left-finishes : (calls calls' : CallsState) (c c' : ConnectionState) (e : replays.FinishedCall) (reply : types.Reply) (room : ℕ) → HasLeft calls e calls'
    → HasReplied c c' (reply_record e.xid reply) room → Finishes calls c e reply calls' c'
left-finishes calls calls' c c' e reply room l r =
    finishes calls calls' c c' e reply (replied_is c c' (reply_record e.xid reply) room r) (ap (map message_of) l.waiting) l.finished

closed_stays : (bytes : List ℕ) (closed : Option ℕ) (x : Connection) → is_none closed ≡ false → written_to bytes closed x ≡ x
closed_stays bytes None x e = absurd cc
closed_stays bytes (Some n) x e = refl

-- nothing is written where no connection is open
unseen_stays : (bytes : List ℕ) (xs : List Connection) (i : ℕ) → is_open (slice_get xs i) ≡ false → xs ≡ changed_at (with_output bytes) xs i
unseen_stays bytes [] i e = refl
unseen_stays bytes (x ∷ xs) zero e = ap (λ (y : Connection). y ∷ xs) (sym (closed_stays bytes x.closed x e))
unseen_stays bytes (x ∷ xs) (suc i) e = ap (λ (ys : List Connection). x ∷ ys) (unseen_stays bytes xs i e)

pub left-unseen : (calls calls' : CallsState) (e : replays.FinishedCall) → HasLeft calls e calls' → FinishesUnseen calls e calls'
left-unseen calls calls' e l setup w reply shows closed =
    lists-same w w.connections _ _ w.waiting _ (w.finished ++ e ∷ [])
    (unseen_stays (setup.codec.reply_record e.xid reply) w.connections e.connection closed)
    (ap (map message_of) l.waiting ∙ sym shows.waiting)
    (l.finished ∙ ap (λ (es : List replays.FinishedCall). es ++ e ∷ []) (sym shows.finished))
