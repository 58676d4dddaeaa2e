-- What comes to an intake adds up.
use Rattle.std.proofs.Common.{◌≡◌, refl, sym, ap, ◌∙◌, List, [], ◌∷◌, ◌++◌, map, append_assoc, append-nil, subst}
use Rattle.outboxes.specs.Boxes.{Addressed, Boxes, put}
use Rattle.engine_feed.specs.Seen.{message_of}
use Rattle.tcp_front.specs.Admitted.{calls_of}
use Rattle.tcp_front.specs.Arrivals.{Arrival, Waits, Answered}
use Rattle.granted_calls.specs.shared_waiting.Passes.{known}
use Rattle.connections.specs.declared.due.Due.{Due}
use Rattle.connections.specs.Connections.{with_reply}
use Rattle.lanes.specs.declared.intake.Intake.{Intake}
use Rattle.granted_calls.specs.Telling.{answer_told}
use Rattle.granted_calls.specs.lemmas.Telling.{told-append}
use Rattle.lanes.specs.Intakes.{answered_of, all_put, Adds, HasTakenIn}

pub calls-append : (xs ys : List Arrival) → calls_of (xs ++ ys) ≡ calls_of xs ++ calls_of ys
calls-append [] ys = refl
calls-append (Waits message ∷ xs) ys = ap (λ l. message ∷ l) (calls-append xs ys)
calls-append (Answered reply ∷ xs) ys = calls-append xs ys

pub answered-append : (xs ys : List Arrival) → answered_of (xs ++ ys) ≡ answered_of xs ++ answered_of ys
answered-append [] ys = refl
answered-append (Waits message ∷ xs) ys = answered-append xs ys
answered-append (Answered reply ∷ xs) ys = ap (λ l. reply ∷ l) (answered-append xs ys)

all-put-append : (xs ys : List Addressed) (b : Boxes) → all_put (xs ++ ys) b ≡ all_put ys (all_put xs b)
all-put-append [] ys b = refl
all-put-append (x ∷ xs) ys b = all-put-append xs ys (put x b)

adds-more : (xs ys : List Arrival) (a b c : Due) → Adds xs a b → Adds ys b c → Adds (xs ++ ys) a c
adds-more [] ys a b c p q = subst (λ (d : Due). Adds ys d c) p q
adds-more (Waits message ∷ xs) ys a b c (room, fits, p) q = (room, fits, adds-more xs ys (with_reply room a) b c p q)
adds-more (Answered reply ∷ xs) ys a b c p q = adds-more xs ys (with_reply 0 a) b c p q

pub taken_none : {R : Type 0} (s : Intake R) → HasTakenIn s [] s
taken_none s =
    record {
      filer_is = refl;
      queue_is = refl;
      put = sym (append-nil (map message_of (known s.pass).put));
      picked = refl;
      share = (refl, refl, refl);
      same = record { seat = refl; pass = refl; hand = refl; kept = refl };
      boxes_are = refl;
      form_is = refl;
      adds = refl;
      most_is = refl;
    }

pub taken_more : {R : Type 0} (s t u : Intake R) (xs ys : List Arrival) → HasTakenIn s xs t → HasTakenIn t ys u → HasTakenIn s (xs ++ ys) u
taken_more s t u xs ys f g =
    let told : List Arrival → List Addressed = λ zs. map (answer_told s.handles) (answered_of zs) in
    record {
      filer_is = g.filer_is ∙ f.filer_is;
      queue_is = g.queue_is ∙ f.queue_is;
      put =
          g.put ∙ ap (λ ms. ms ++ calls_of ys) f.put ∙ append_assoc (map message_of (known s.pass).put) (calls_of xs) (calls_of ys)
          ∙ ap (λ ms. map message_of (known s.pass).put ++ ms) (sym (calls-append xs ys));
      picked = g.picked ∙ f.picked;
      share = (g.share.0 ∙ f.share.0, g.share.1 ∙ f.share.1, g.share.2 ∙ f.share.2);
      same = record {
        seat = g.same.seat ∙ f.same.seat;
        pass = g.same.pass ∙ f.same.pass;
        hand = g.same.hand ∙ f.same.hand;
        kept = g.same.kept ∙ f.same.kept;
      };
      boxes_are =
          g.boxes_are ∙ ap (λ form. all_put (map (answer_told form) (answered_of ys)) t.outboxes) f.form_is
          ∙ ap (all_put (told ys)) f.boxes_are ∙ sym (all-put-append (told xs) (told ys) s.outboxes)
          ∙ ap (λ l. all_put l s.outboxes) (sym (told-append s.handles (answered_of xs) (answered_of ys)))
          ∙ ap (λ l. all_put (map (answer_told s.handles) l) s.outboxes) (sym (answered-append xs ys));
      form_is = g.form_is ∙ f.form_is;
      adds = adds-more xs ys s.owed t.owed u.owed f.adds g.adds;
      most_is = g.most_is ∙ f.most_is;
    }
