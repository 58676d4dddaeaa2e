-- What came to a sink that keeps calls, and has outboxes.
use Rattle.std.specs.Prelude.{◌≡◌, List, [], ◌∷◌, ◌++◌, map, refl}
use Rattle.std.proofs.Common.{sym, ap, ◌∙◌, append_assoc, append-nil}
use Rattle.nfs_model.specs.World as worlds
use Rattle.nfs_values.specs.declared.call.Call.{Call}
use Rattle.scheduler.specs.declared.message.Message.{Message}
use Rattle.outboxes.specs.Boxes.{Boxes, put}
use Rattle.engine_feed.specs.Seen.{message_of}
use Rattle.tcp_front.specs.Arrivals.{Arrival, Waits, Answered}

-- the calls among these
abbrev pub calls_of : List Arrival → List worlds.Message
calls_of [] = []
calls_of (Waits message ∷ xs) = message ∷ calls_of xs
calls_of (Answered reply ∷ xs) = calls_of xs

-- outboxes with the replies among these
abbrev pub with_replies : List Arrival → Boxes → Boxes
with_replies [] b = b
with_replies (Waits message ∷ xs) b = with_replies xs b
with_replies (Answered reply ∷ xs) b = with_replies xs (put reply b)

abbrev pub HasGathered : List (Message Call) → Boxes → List Arrival → List (Message Call) → Boxes → Type 0
HasGathered ms b xs ms' b' = (map message_of ms' ≡ map message_of ms ++ calls_of xs) × (b' ≡ with_replies xs b)

-- ---- laws

calls-append : (xs ys : List Arrival) → calls_of (xs ++ ys) ≡ calls_of xs ++ calls_of ys
calls-append [] ys = refl
calls-append (Waits message ∷ xs) ys = ap (λ l. message ∷ l) (calls-append xs ys)
calls-append (Answered reply ∷ xs) ys = calls-append xs ys

replies-append : (xs ys : List Arrival) (b : Boxes) → with_replies (xs ++ ys) b ≡ with_replies ys (with_replies xs b)
replies-append [] ys b = refl
replies-append (Waits message ∷ xs) ys b = replies-append xs ys b
replies-append (Answered reply ∷ xs) ys b = replies-append xs ys (put reply b)

pub gathered_none : (ms : List (Message Call)) (b : Boxes) → HasGathered ms b [] ms b
gathered_none ms b = (sym (append-nil (map message_of ms)), refl)

pub gathered_more : (ms ms' ms'' : List (Message Call)) (b b' b'' : Boxes) (xs ys : List Arrival) → HasGathered ms b xs ms' b'
    → HasGathered ms' b' ys ms'' b'' → HasGathered ms b (xs ++ ys) ms'' b''
gathered_more ms ms' ms'' b b' b'' xs ys f g = (
  g.0 ∙ ap (λ l. l ++ calls_of ys) f.0 ∙ append_assoc (map message_of ms) (calls_of xs) (calls_of ys)
      ∙ ap (λ l. map message_of ms ++ l) (sym (calls-append xs ys)),
  g.1 ∙ ap (with_replies ys) f.1 ∙ sym (replies-append xs ys b),
)
