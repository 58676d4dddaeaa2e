-- The story of a lane, call by call.
use Rattle.std.proofs.Common.{◌≡◌, ◌≢◌, ◌==◌, ◌<◌, ◌≤◌, ℕ, ◌+◌, Bool, true, false, if◌then◌else◌, List, [], ◌∷◌, ◌++◌, length, map, Option}
use Rattle.std.proofs.Common.{Some, None, refl, sym, ap, subst, ◌∙◌, append-nil, cond, ne_eqb, arith}
use Rattle.std.specs.FinMap.{get}
use Rattle.std.proofs.Math.Arith.{lt_of_le-ne}
use Rattle.std.proofs.lemmas.Bool.{eqb-false}
use Rattle.std.proofs.lemmas.List.{length_push}
use Rattle.std.proofs.lemmas.Map.Views.{exact_unsigned_eq}
use Rattle.depot_rule.specs.Sums.{total}
use Rattle.depot_rule.specs.lemmas.Sums.{total-append}
use Rattle.rpc_msg.specs.declared.offer.Offer.{Offer}
use Rattle.rpc_msg.specs.Offer.{form_of}
use Rattle.granted_calls.specs.Telling.{answer_told, message_told}
use Rattle.nfs_model.specs.Tree.{Layout}
use Rattle.nfs_model.specs.World as worlds
use Rattle.nfs_model.specs.World.{Heard}
use Rattle.nfs_model.specs.volume.lemmas.Numbered.{itself, get-insert_at}
use Rattle.outboxes.specs.Boxes.{Addressed, Boxes, opened, put, shut}
use Rattle.outboxes.specs.Messages.{ReplyMessage}
use Rattle.granted_calls.specs.Balance.{FilerEntry, Weight, by_entry, by_key}
use Rattle.granted_calls.specs.Messages.{Message}
use Rattle.engine_feed.specs.Seen.{message_of}
use Rattle.tcp_front.specs.Admitted.{calls_of}
use Rattle.tcp_front.specs.Arrivals.{Arrival, arrivals}
use Rattle.connections.specs.Incoming.{Incoming}
use Rattle.connections.specs.declared.connection.Connection.{Connection}
use Rattle.connections.specs.Connections.{sender_at, number_of}
use Rattle.lanes.specs.Intakes.{all_put, answered_of}
use Rattle.connections.specs.Reading.{Reads}
use Rattle.lanes.specs.Story.{of_connection, Served, AtOnce, said_by, told_to, served_of, at_once_of, served_in, number_at, IsServed}
use Rattle.lanes.specs.Story.{Life, Open, Closed, HasLived, IsClosedAt, Story}
use Rattle.connections.specs.Writing.{Writes}
use Rattle.lanes.specs.lemmas.Coming.{calls-append, answered-append}
use Rattle.lanes.proofs.Lists.{of-append, of-own, of-other, arrivals-append, served-append, at-once-append, entries-append}
use Rattle.lanes.proofs.Numbers.{numbers-differ, number-next}
use Rattle.lanes.proofs.Quiet.{total-seen, total-served, unheard, weigh_seen}
use Rattle.lanes.proofs.Served.{get-last, lived-put, lived-at-once, lived-beside, lived-shut}

-- ---- lists of replies at once

none-served : (xs : List Addressed) → served_of (map AtOnce xs) ≡ []
none-served [] = refl
none-served (x ∷ xs) = none-served xs

all-at-once : (xs : List Addressed) → at_once_of (map AtOnce xs) ≡ xs
all-at-once [] = refl
all-at-once (x ∷ xs) = ap (λ (l : List Addressed). x ∷ l) (all-at-once xs)

put-next : (xs : List Addressed) (b : Boxes) → (all_put xs b).next ≡ b.next
put-next [] b = refl
put-next (x ∷ xs) b = put-next xs (put x b)

put-step : (xs : List Addressed) (b : Boxes) → (all_put xs b).step ≡ b.step
put-step [] b = refl
put-step (x ∷ xs) b = put-step xs (put x b)

-- ---- messages that are seen as the same

-- more messages weigh more
more-weigh : (h : Weight) (ms ms' : List Message) (xs : List worlds.Message) → map message_of ms' ≡ map message_of ms ++ xs
    → total (by_key h) ms ≤ total (by_key h) ms'
more-weigh h ms ms' xs e =
    let a = total-seen h ms in
    let b = total-seen h ms' in
    let c : total (weigh_seen h) (map message_of ms') ≡ total (weigh_seen h) (map message_of ms ++ xs) = ap (total (weigh_seen h)) e in
    let d = total-append (weigh_seen h) (map message_of ms) xs in omega (arith, a, b, c, d)

-- ---- one key

either : (k key : ℕ) (P : Type 0) → (k ≡ key → P) → (k ≢ key → P) → P
either k key P same other = by (k == key) refl
  where
    by : (b : Bool) → (k == key) ≡ b → P
    by true is = same (exact_unsigned_eq k key is)
    by false is = other (eqb-false k key is)

module _ {X : Type 0} where
  some-is : (x y : X) → Some x ≡ Some y → x ≡ y
  some-is x y e = cc

  none-is : (x : X) → None ≡ Some x → ⊥
  none-is x e = cc

-- ---- one life changes

-- the lives with another at one place
abbrev changed : (ℕ → Life) → ℕ → Life → ℕ → Life
changed lives at life k = if k == at then life else lives k

changed-here : (lives : ℕ → Life) (at : ℕ) (life : Life) → changed lives at life at ≡ life
changed-here lives at life = ap (λ (b : Bool). if b then life else lives at) (itself at)

changed-there : (lives : ℕ → Life) (at : ℕ) (life : Life) (k : ℕ) → k ≢ at → changed lives at life k ≡ lives k
changed-there lives at life k d = ap (λ (b : Bool). if b then life else lives k) (ne_eqb k at d)

abbrev key_of : Life → ℕ
key_of (Open key) = key
key_of (Closed at waiting ended) = 0

module _ {D : Type 0} (unread : D → Incoming) (written : D → Option (List ℕ)) (layout : Layout) (offer : Offer) (lane lanes : ℕ) where
  abbrev Slots : Type 0
  Slots = ℕ → Option (Connection D)

  -- the slots have this under a key, and else what they had
  abbrev pub Sets : Slots → ℕ → Option (Connection D) → Slots → Type 0
  Sets slots key slot slots' = (slots' key ≡ slot) × ((other : ℕ) → other ≢ key → slots' other ≡ slots other)

  -- ---- the beginning

  pub story-begins : (entries : List FilerEntry) (messages : List Message) (boxes : Boxes) (slots : Slots) (closed : List (Connection D))
      → entries ≡ [] → messages ≡ [] → lane < lanes → boxes.step ≡ lanes → boxes.next ≡ lane
      → ((key : ℕ) → slots key ≡ None) → closed ≡ [] → Story unread written layout offer lane lanes entries messages boxes slots closed
  story-begins entries messages boxes slots closed none no_message within step next vacant no_closed = record {
    came = [];
    endings = [];
    admitted = ap (map message_of) no_message;
    finished = sym (ap served_in none);
    at_once = refl;
    once = λ h. let e = ap (total (by_entry h)) none in omega (arith, e);
    opened = 0;
    lives = λ k. Open 0;
    within = within;
    step = step;
    next = omega (arith, next);
    each = λ k few. absurd (omega (arith, few));
    known = λ key c is. absurd (none-is c (sym (vacant key) ∙ is));
    gone = λ at few. let e = ap (λ (l : List (Connection D)). length l) no_closed in absurd (omega (arith, few, e));
    only = λ n h. refl;
  }

  module _ (entries : List FilerEntry) (messages : List Message) (boxes : Boxes) (slots : Slots)
      (closed : List (Connection D)) (s : Story unread written layout offer lane lanes entries messages boxes slots closed) where
    -- ---- no connection changes

    -- entries that answer no call
    pub story-turns : (entries' : List FilerEntry) → served_in entries' ≡ served_in entries
        → Story unread written layout offer lane lanes entries' messages boxes slots closed
    story-turns entries' same = record {
      came = s.came;
      endings = s.endings;
      admitted = s.admitted;
      finished = s.finished ∙ sym same;
      at_once = s.at_once;
      once = λ h.
          let a = total-served h entries in
          let b = total-served h entries' in
          let c = ap (total (by_entry h)) same in
          let d = s.once h in omega (arith, a, b, c, d);
      opened = s.opened;
      lives = s.lives;
      within = s.within;
      step = s.step;
      next = s.next;
      each = s.each;
      known = s.known;
      gone = s.gone;
      only = s.only;
    }

    -- one call ended, and its reply was put
    pub story-ends : (e : FilerEntry) (a : Addressed) → said_by (Served e) ≡ Some a → served_in (e ∷ []) ≡ e ∷ []
        → ((h : Weight) → total (by_entry h) (entries ++ e ∷ []) ≤ total (by_key h) messages)
        → Story unread written layout offer lane lanes (entries ++ e ∷ []) messages (put (answer_told (form_of offer) a) boxes) slots closed
    story-ends e a said is once = record {
      came = s.came;
      endings = s.endings ++ Served e ∷ [];
      admitted = s.admitted;
      finished = served-append s.endings (Served e ∷ []) ∙ ap (λ (l : List FilerEntry). l ++ e ∷ []) s.finished
          ∙ ap (λ (l : List FilerEntry). served_in entries ++ l) (sym is) ∙ sym (entries-append entries (e ∷ []));
      at_once = at-once-append s.endings (Served e ∷ []) ∙ append-nil (at_once_of s.endings) ∙ s.at_once;
      once = once;
      opened = s.opened;
      lives = s.lives;
      within = s.within;
      step = s.step;
      next = s.next;
      each = λ k few. lived-put unread written layout offer boxes slots closed s.came s.endings (Served e) a said (number_at lane lanes k) (s.lives k) (s.each k few);
      known = s.known;
      gone = s.gone;
      only = s.only;
    }

    -- ---- a connection more

    -- the next number isn't given
    next-new : (k : ℕ) → k < s.opened → number_at lane lanes s.opened ≢ number_at lane lanes k
    next-new k few = numbers-differ lane lanes s.opened k s.within (λ e. absurd (omega (arith, few, e)))

    next-quiet : of_connection (number_at lane lanes s.opened) s.came ≡ []
    next-quiet = s.only (number_at lane lanes s.opened) next-new

    pub story-opens : (slots' : Slots) (key : ℕ) (c : Connection D) → slots key ≡ None → Sets slots key (Some c) slots' → number_of c ≡ boxes.next
        → Reads offer unread c.opened.value c [] → Writes written c.opened.value c [] []
        → Story unread written layout offer lane lanes entries messages (opened boxes) slots' closed
    story-opens slots' key c vacant sets number reads writes = record {
      came = s.came;
      endings = s.endings;
      admitted = s.admitted;
      finished = s.finished;
      at_once = s.at_once;
      once = s.once;
      opened = s.opened + 1;
      lives = lives';
      within = s.within;
      step = s.step;
      next = ap (λ n. n + boxes.step) s.next ∙ ap (λ n. number_at lane lanes s.opened + n) s.step ∙ number-next lane lanes s.opened;
      each = λ k few. either k s.opened (HasLived unread written layout offer s.came s.endings (opened boxes) slots' closed (number_at lane lanes k) (lives' k))
          (λ e. subst (λ j. HasLived unread written layout offer s.came s.endings (opened boxes) slots' closed (number_at lane lanes j) (lives' j)) (sym e) here)
          (λ d. there k (lt_of_le-ne (omega (arith, few)) d) d);
      known = λ other d at. either other key ((k : ℕ) × (k < s.opened + 1) × (lives' k ≡ Open other))
          (λ e. (s.opened, omega arith, changed-here s.lives s.opened (Open key) ∙ ap Open (sym e)))
          (λ n. let f = s.known other d (sym (sets.1 other n) ∙ at) in (
            f.0,
            (let few = f.1 in omega (arith, few)),
            changed-there s.lives s.opened (Open key) f.0 (λ e. let few = f.1 in absurd (omega (arith, few, e))) ∙ f.2,
          ));
      gone = λ at few. let f = s.gone at few in (
        f.0,
        (let less = f.1 in omega (arith, less)),
        subst (λ (x : Life). IsClosedAt at x)
            (sym (changed-there s.lives s.opened (Open key) f.0 (λ e. let less = f.1 in absurd (omega (arith, less, e))))) f.2,
      );
      only = λ n h. s.only n (λ k few. h k (omega (arith, few)));
    }
      where
        lives' : ℕ → Life
        lives' = changed s.lives s.opened (Open key)

        own : number_of c ≡ number_at lane lanes s.opened
        own = number ∙ s.next

        box : (n : ℕ) → get (opened boxes).waiting n ≡ cond (n == boxes.next) (Some []) (get boxes.waiting n)
        box n = get-insert_at boxes.waiting boxes.next [] n

        here : HasLived unread written layout offer s.came s.endings (opened boxes) slots' closed (number_at lane lanes s.opened) (lives' s.opened)
        here = subst (λ (x : Life). HasLived unread written layout offer s.came s.endings (opened boxes) slots' closed (number_at lane lanes s.opened) x)
            (sym (changed-here s.lives s.opened (Open key))) (
              c,
              [],
              sets.0,
              own,
              box (number_at lane lanes s.opened)
                  ∙ ap (λ b. cond b (Some []) (get boxes.waiting (number_at lane lanes s.opened)))
                  (ap (λ m. m == boxes.next) (sym s.next) ∙ itself boxes.next),
              record {
                heard = [];
                arrived = ap (λ n. of_connection n s.came) own ∙ next-quiet;
                reads = reads;
                writes = subst (λ (l : List ReplyMessage). Writes written c.opened.value c [] l)
                    (sym (ap (λ n. told_to offer n s.endings) own
                    ∙ ap (λ (l : List ReplyMessage). map (message_told (form_of offer)) l)
                    (unheard (number_at lane lanes s.opened) s.came s.endings entries messages s.admitted s.finished s.at_once s.once next-quiet)))
                    writes;
              },
            )

        there : (k : ℕ) → k < s.opened → k ≢ s.opened
            → HasLived unread written layout offer s.came s.endings (opened boxes) slots' closed (number_at lane lanes k) (lives' k)
        there k few d =
            subst (λ (x : Life). HasLived unread written layout offer s.came s.endings (opened boxes) slots' closed (number_at lane lanes k) x)
            (sym (changed-there s.lives s.opened (Open key) k d))
            (lived-beside unread written layout offer s.came s.came s.endings boxes (opened boxes) slots slots' closed (number_at lane lanes k) (s.lives k) refl
            (box (number_at lane lanes k) ∙ ap (λ b. cond b (Some []) (get boxes.waiting (number_at lane lanes k)))
            (ne_eqb (number_at lane lanes k) boxes.next (λ e. next-new k few (sym s.next ∙ sym e))))
            (λ other d at is. sets.1 other (λ e. none-is d (sym vacant ∙ ap slots (sym e) ∙ at)) ∙ at) (s.each k few))

    -- ---- one connection

    -- an open one, by its key
    module _ (key : ℕ) (c : Connection D) (was : slots key ≡ Some c) where
      abbrev place : ℕ
      place = (s.known key c was).0

      placed : place < s.opened
      placed = (s.known key c was).1

      is-open : s.lives place ≡ Open key
      is-open = (s.known key c was).2

      own-life : HasLived unread written layout offer s.came s.endings boxes slots closed (number_at lane lanes place) (Open key)
      own-life = subst (λ (x : Life). HasLived unread written layout offer s.came s.endings boxes slots closed (number_at lane lanes place) x) is-open
          (s.each place placed)

      own-same : own-life.0 ≡ c
      own-same = some-is own-life.0 c (sym own-life.2 ∙ was)

      own-number : number_of c ≡ number_at lane lanes place
      own-number = ap (λ (x : Connection D). number_of x) (sym own-same) ∙ own-life.3

      abbrev own-waiting : List ReplyMessage
      own-waiting = own-life.1

      own-box : get boxes.waiting (number_of c) ≡ Some own-waiting
      own-box = ap (λ n. get boxes.waiting n) own-number ∙ own-life.4

      own-served : IsServed unread written layout offer s.came s.endings own-waiting c
      own-served = subst (λ (x : Connection D). IsServed unread written layout offer s.came s.endings own-waiting x) own-same own-life.5

      -- others have other numbers
      others-differ : (k : ℕ) → k ≢ place → number_at lane lanes k ≢ number_of c
      others-differ k d e = numbers-differ lane lanes k place s.within d (e ∙ own-number)

      -- who has another number stands under another key
      other-key : (k other : ℕ) (d : Connection D) → k ≢ place → slots other ≡ Some d → number_of d ≡ number_at lane lanes k → other ≢ key
      other-key k other d n at is e =
          others-differ k n (sym is ∙ ap (λ (x : Connection D). number_of x) (some-is d c (sym at ∙ ap slots e ∙ was)))

    -- ---- a connection goes on

    module _ (slots' : Slots) (key : ℕ) (c c' : Connection D) (was : slots key ≡ Some c) (sets : Sets slots key (Some c') slots')
        (number : number_of c' ≡ number_of c) (sender : sender_at c' ≡ sender_at c)
        (same_opened : c'.opened.value ≡ c.opened.value) where
      old : IsServed unread written layout offer s.came s.endings (own-waiting key c was) c
      old = own-served key c was

      known-still : (other : ℕ) (d : Connection D) → slots' other ≡ Some d → (k : ℕ) × (k < s.opened) × (s.lives k ≡ Open other)
      known-still other d at = either other key ((k : ℕ) × (k < s.opened) × (s.lives k ≡ Open other))
          (λ e. (place key c was, placed key c was, is-open key c was ∙ ap Open (sym e)))
          (λ n. s.known other d (sym (sets.1 other n) ∙ at))

      -- each connection that the lane had, by this one and the others
      each-by : (came' : List Arrival) (boxes' : Boxes)
          → HasLived unread written layout offer came' s.endings boxes' slots' closed (number_at lane lanes (place key c was)) (Open key)
          → ((n : ℕ) → n ≢ number_of c → of_connection n came' ≡ of_connection n s.came)
          → ((n : ℕ) → n ≢ number_of c → get boxes'.waiting n ≡ get boxes.waiting n)
          → (k : ℕ) → k < s.opened → HasLived unread written layout offer came' s.endings boxes' slots' closed (number_at lane lanes k) (s.lives k)
      each-by came' boxes' here quiet waits k few =
          either k (place key c was) (HasLived unread written layout offer came' s.endings boxes' slots' closed (number_at lane lanes k) (s.lives k))
          (λ e. subst (λ j. HasLived unread written layout offer came' s.endings boxes' slots' closed (number_at lane lanes j) (s.lives j)) (sym e)
          (subst (λ (x : Life). HasLived unread written layout offer came' s.endings boxes' slots' closed (number_at lane lanes (place key c was)) x)
          (sym (is-open key c was)) here))
          (λ n. lived-beside unread written layout offer s.came came' s.endings boxes boxes' slots slots' closed (number_at lane lanes k) (s.lives k)
          (quiet (number_at lane lanes k) (others-differ key c was k n)) (waits (number_at lane lanes k) (others-differ key c was k n))
          (λ other d at is. sets.1 other (other-key key c was k other d n at is) ∙ at) (s.each k few))

      pub story-reads : (messages' : List Message) (heard : List Heard) (boxes' : Boxes)
          → map message_of messages' ≡ map message_of messages ++ calls_of (arrivals layout (number_of c) (sender_at c) c.stream.records heard)
          → boxes' ≡ all_put (map (answer_told (form_of offer)) (answered_of (arrivals layout (number_of c) (sender_at c) c.stream.records heard))) boxes
          → ((before : List Heard) → Reads offer unread c.opened.value c before → Reads offer unread c.opened.value c' (before ++ heard))
          → ((waiting replies : List ReplyMessage) → Writes written c.opened.value c waiting replies → Writes written c.opened.value c' waiting replies)
          → Story unread written layout offer lane lanes entries messages' boxes' slots' closed
      story-reads messages' heard boxes' admitted put reads writes =
          subst (λ (b : Boxes). Story unread written layout offer lane lanes entries messages' b slots' closed) (sym put) all
        where
          xs : List Arrival
          xs = arrivals layout (number_of c) (sender_at c) c.stream.records heard

          answers : List Addressed
          answers = answered_of xs

          quiet : (n : ℕ) → n ≢ number_of c → of_connection n (s.came ++ xs) ≡ of_connection n s.came
          quiet n d = of-append n s.came xs
              ∙ ap (λ (l : List Arrival). of_connection n s.came ++ l) (of-other layout n (number_of c) (sender_at c) c.stream.records heard (λ e. d (sym e)))
              ∙ append-nil (of_connection n s.came)

          served : IsServed unread written layout offer (s.came ++ xs) s.endings (own-waiting key c was) c'
          served = record {
            heard = old.heard ++ heard;
            arrived = ap (λ n. of_connection n (s.came ++ xs)) number ∙ of-append (number_of c) s.came xs
                ∙ ap (λ (l : List Arrival). l ++ of_connection (number_of c) xs) old.arrived
                ∙ ap (λ (l : List Arrival). arrivals layout (number_of c) (sender_at c) 0 old.heard ++ l)
                (of-own layout (number_of c) (sender_at c) c.stream.records heard)
                ∙ sym (arrivals-append layout (number_of c) (sender_at c) 0 old.heard heard c.stream.records
                (let n = old.reads.count in omega (arith, n)))
                ∙ ap (λ n. arrivals layout n (sender_at c) 0 (old.heard ++ heard)) (sym number)
                ∙ ap (λ p. arrivals layout (number_of c') p 0 (old.heard ++ heard)) (sym sender);
            reads = subst (λ x. Reads offer unread x c' (old.heard ++ heard)) (sym same_opened) (reads old.heard old.reads);
            writes = subst (λ x. Writes written x c' (own-waiting key c was) (told_to offer (number_of c') s.endings)) (sym same_opened)
                (subst (λ n. Writes written c.opened.value c' (own-waiting key c was) (told_to offer n s.endings)) (sym number)
                (writes (own-waiting key c was) (told_to offer (number_of c) s.endings) old.writes));
          }

          here : HasLived unread written layout offer (s.came ++ xs) s.endings boxes slots' closed (number_at lane lanes (place key c was)) (Open key)
          here = (
            c',
            own-waiting key c was,
            sets.0,
            number ∙ own-number key c was,
            ap (λ n. get boxes.waiting n) (sym (own-number key c was)) ∙ own-box key c was,
            served,
          )

          all : Story unread written layout offer lane lanes entries messages' (all_put (map (answer_told (form_of offer)) answers) boxes) slots' closed
          all = record {
            came = s.came ++ xs;
            endings = s.endings ++ map AtOnce answers;
            admitted = admitted ∙ ap (λ l. l ++ calls_of xs) s.admitted ∙ sym (calls-append s.came xs);
            finished = served-append s.endings (map AtOnce answers) ∙ ap (λ (l : List FilerEntry). served_of s.endings ++ l) (none-served answers)
                ∙ append-nil (served_of s.endings) ∙ s.finished;
            at_once = at-once-append s.endings (map AtOnce answers) ∙ ap (λ (l : List Addressed). at_once_of s.endings ++ l) (all-at-once answers)
                ∙ ap (λ (l : List Addressed). l ++ answers) s.at_once ∙ sym (answered-append s.came xs);
            once = λ h. let a = s.once h in let b = more-weigh h messages messages' (calls_of xs) admitted in omega (arith, a, b);
            opened = s.opened;
            lives = s.lives;
            within = s.within;
            step = put-step (map (answer_told (form_of offer)) answers) boxes ∙ s.step;
            next = put-next (map (answer_told (form_of offer)) answers) boxes ∙ s.next;
            each = λ k few. lived-at-once unread written layout offer answers boxes slots' closed (s.came ++ xs) s.endings (number_at lane lanes k) (s.lives k)
                (each-by (s.came ++ xs) boxes here quiet (λ n d. refl) k few);
            known = known-still;
            gone = s.gone;
            only = λ n h. quiet n (λ e. h (place key c was) (placed key c was) (e ∙ own-number key c was)) ∙ s.only n h;
          }

      pub story-writes : (boxes' : Boxes) → boxes'.next ≡ boxes.next → boxes'.step ≡ boxes.step
          → ((other : ℕ) → other ≢ number_of c → get boxes'.waiting other ≡ get boxes.waiting other)
          → ((heard : List Heard) → Reads offer unread c.opened.value c heard → Reads offer unread c.opened.value c' heard)
          → ((waiting replies : List ReplyMessage) → get boxes.waiting (number_of c) ≡ Some waiting → Writes written c.opened.value c waiting replies
          → (waiting' : List ReplyMessage) × (get boxes'.waiting (number_of c) ≡ Some waiting') × Writes written c.opened.value c' waiting' replies)
          → Story unread written layout offer lane lanes entries messages boxes' slots' closed
      story-writes boxes' next step others reads writes = record {
        came = s.came;
        endings = s.endings;
        admitted = s.admitted;
        finished = s.finished;
        at_once = s.at_once;
        once = s.once;
        opened = s.opened;
        lives = s.lives;
        within = s.within;
        step = step ∙ s.step;
        next = next ∙ s.next;
        each = each-by s.came boxes' here (λ n d. refl) others;
        known = known-still;
        gone = s.gone;
        only = s.only;
      }
        where
          left : (waiting' : List ReplyMessage) × (get boxes'.waiting (number_of c) ≡ Some waiting')
              × Writes written c.opened.value c' waiting' (told_to offer (number_of c) s.endings)
          left = writes (own-waiting key c was) (told_to offer (number_of c) s.endings) (own-box key c was) old.writes

          here : HasLived unread written layout offer s.came s.endings boxes' slots' closed (number_at lane lanes (place key c was)) (Open key)
          here = (
            c',
            left.0,
            sets.0,
            number ∙ own-number key c was,
            ap (λ n. get boxes'.waiting n) (sym (own-number key c was)) ∙ left.1,
            record {
              heard = old.heard;
              arrived = ap (λ n. of_connection n s.came) number ∙ old.arrived
                  ∙ ap (λ n. arrivals layout n (sender_at c) 0 old.heard) (sym number)
                  ∙ ap (λ p. arrivals layout (number_of c') p 0 old.heard) (sym sender);
              reads = subst (λ x. Reads offer unread x c' old.heard) (sym same_opened) (reads old.heard old.reads);
              writes = subst (λ x. Writes written x c' left.0 (told_to offer (number_of c') s.endings)) (sym same_opened)
                  (subst (λ n. Writes written c.opened.value c' left.0 (told_to offer n s.endings)) (sym number) left.2);
            },
          )

    -- ---- a connection less

    pub story-shuts : (slots' : Slots) (key : ℕ) (c : Connection D) → slots key ≡ Some c → Sets slots key None slots'
        → ((n : ℕ) → n ≢ number_of c → get (shut (number_of c) boxes).waiting n ≡ get boxes.waiting n)
        → Story unread written layout offer lane lanes entries messages (shut (number_of c) boxes) slots' (closed ++ c ∷ [])
    story-shuts slots' key c was sets others = record {
      came = s.came;
      endings = s.endings;
      admitted = s.admitted;
      finished = s.finished;
      at_once = s.at_once;
      once = s.once;
      opened = s.opened;
      lives = lives';
      within = s.within;
      step = s.step;
      next = s.next;
      each = λ k few. either k at (HasLived unread written layout offer s.came s.endings boxes' slots' closed' (number_at lane lanes k) (lives' k))
          (λ e. subst (λ j. HasLived unread written layout offer s.came s.endings boxes' slots' closed' (number_at lane lanes j) (lives' j)) (sym e) here)
          (λ n. there k few n);
      known = λ other d is. either other key ((k : ℕ) × (k < s.opened) × (lives' k ≡ Open other))
          (λ e. absurd (none-is d (sym sets.0 ∙ ap slots' (sym e) ∙ is)))
          (λ n. let f = s.known other d (sym (sets.1 other n) ∙ is) in (
            f.0,
            f.1,
            changed-there s.lives at shut-life f.0
                (λ e. n (ap key_of (sym f.2 ∙ ap s.lives e ∙ is-open key c was))) ∙ f.2,
          ));
      gone = λ place few. either place (length closed) ((k : ℕ) × (k < s.opened) × IsClosedAt place (lives' k))
          (λ e. (at, placed key c was, subst (λ (x : Life). IsClosedAt place x) (sym (changed-here s.lives at shut-life)) (sym e)))
          (λ n. let f = s.gone place (lt_of_le-ne (let l = length_push closed c in omega (arith, few, l)) n) in (
            f.0,
            f.1,
            subst (λ (x : Life). IsClosedAt place x)
                (sym (changed-there s.lives at shut-life f.0
                (λ e. subst (λ (x : Life). IsClosedAt place x) (ap s.lives e ∙ is-open key c was) f.2))) f.2,
          ));
      only = s.only;
    }
      where
        at : ℕ
        at = place key c was

        boxes' : Boxes
        boxes' = shut (number_of c) boxes

        closed' : List (Connection D)
        closed' = closed ++ c ∷ []

        shut-life : Life
        shut-life = Closed (length closed) (own-waiting key c was) s.endings

        lives' : ℕ → Life
        lives' = changed s.lives at shut-life

        here : HasLived unread written layout offer s.came s.endings boxes' slots' closed' (number_at lane lanes at) (lives' at)
        here = subst (λ (x : Life). HasLived unread written layout offer s.came s.endings boxes' slots' closed' (number_at lane lanes at) x)
            (sym (changed-here s.lives at shut-life))
            (c, [], get-last closed c, own-number key c was, sym (append-nil s.endings), own-served key c was)

        there : (k : ℕ) → k < s.opened → k ≢ at → HasLived unread written layout offer s.came s.endings boxes' slots' closed' (number_at lane lanes k) (lives' k)
        there k few n =
            subst (λ (x : Life). HasLived unread written layout offer s.came s.endings boxes' slots' closed' (number_at lane lanes k) x)
            (sym (changed-there s.lives at shut-life k n))
            (lived-shut unread written layout offer s.came s.endings boxes' slots' closed c (number_at lane lanes k) (s.lives k)
            (lived-beside unread written layout offer s.came s.came s.endings boxes boxes' slots slots' closed (number_at lane lanes k) (s.lives k) refl
            (others (number_at lane lanes k) (others-differ key c was k n))
            (λ other d on is. sets.1 other (other-key key c was k other d n on is) ∙ on) (s.each k few)))
