-- What is owed to the connections of a lane, call by call.
use Rattle.std.proofs.Common.{◌≡◌, ◌≢◌, ◌==◌, ◌<◌, ◌≤◌, ℕ, ◌+◌, Bool, true, false, if◌then◌else◌, List, [], ◌∷◌, ◌++◌, map, length}
use Rattle.std.proofs.Common.{Option, Some, None, option_map, Result, Ok, Err, refl, sym, ap, subst, ◌∙◌, cond, ne_eqb, length-append, arith}
use Rattle.std.specs.Prelude.{min}
use Rattle.std.specs.FinMap.{get}
use Rattle.std.specs.Prelude.{IfOk, IfSome, IsSome}
use Rattle.std.proofs.Math.Logic.{∥∥₁_elim, ∥∥₁_map, ∥∥₁_prop}
use Rattle.std.proofs.lemmas.Bool.{eqb-false}
use Rattle.std.proofs.lemmas.Map.Views.{exact_unsigned_eq}
use Rattle.depot_rule.specs.History.{entries_of}
use Rattle.depot_rule.specs.Sums.{total}
use Rattle.depot_rule.specs.lemmas.Sums.{total-append}
use Rattle.slab.specs.Slab as slabs
use Rattle.slab.specs.Slab.{Slab, Updates, with_value}
use Rattle.slab.proofs.SlabLemmas.{Updates-with_value}
use Rattle.rpc_msg.specs.declared.handle_form.HandleForm.{HandleForm}
use Rattle.rpc_msg.specs.declared.offer.Offer.{Offer}
use Rattle.rpc_msg.specs.Offer.{form_of}
use Rattle.nfs_model.specs.Tree.{Layout}
use Rattle.nfs_model.specs.World.{Heard}
use Rattle.nfs_model.specs.volume.lemmas.Numbered.{itself, get-changed_at, get-insert_at, get-remove_at}
use Rattle.nfs_values.specs.declared.moment.Moment.{Moment}
use Rattle.filer_state.specs.state.Jobs as jobs
use Rattle.outboxes.specs.Boxes.{Addressed, Boxes, opened, put, shut, with_last}
use Rattle.outboxes.specs.Messages.{ReplyMessage}
use Rattle.service.specs.declared.job.Job.{Job}
use Rattle.service.specs.declared.job.Job.TheVariants.{Serve, Inner}
use Rattle.turns.specs.Jobs.{job_of}
use Rattle.turns.specs.Tends.{Answers, Tends, call_of, hand_in}
use Rattle.turns.specs.Words.{entries_in}
use Rattle.turns.specs.declared.tend.Tend.{Tend}
use Rattle.turns.specs.declared.tend.TendRefusal.{TendRefusal}
use Rattle.turns.specs.declared.tend.Tended.{Tended}
use Rattle.turns.specs.declared.worker.Worker.{Worker}
use Rattle.granted_calls.specs.Balance.{FilerEntry, by_entry, by_job}
use Rattle.granted_calls.specs.Chains.{puts, DidAll, EndsBy, HasPutAll, HasTurnedOn}
use Rattle.granted_calls.specs.Messages.{Message}
use Rattle.granted_calls.specs.Served.{HasDoneFrom, IsEntryOf, Standing}
use Rattle.granted_calls.specs.Telling.{answer_told, TookTold}
use Rattle.granted_calls.specs.shared_waiting.Passes.{known}
use Rattle.granted_calls.specs.declared.chained.Chained.{Chained}
use Rattle.granted_calls.specs.declared.chained.Chained.TheVariants as chains
use Rattle.engine_feed.specs.Seen.{message_of}
use Rattle.tcp_front.specs.Admitted.{calls_of}
use Rattle.tcp_front.specs.Arrivals.{Arrival, Waits, Answered, arrivals}
use Rattle.tcp_front.specs.declared.peer.Peer.{Peer}
use Rattle.tcp_front.specs.Peers.{Sender}
use Rattle.connections.specs.declared.connection.Connection.{Connection}
use Rattle.connections.specs.declared.connection.Flags.{Flags}
use Rattle.connections.specs.declared.due.Due.{Due}
use Rattle.connections.specs.declared.reading.Came.{Came}
use Rattle.connections.specs.declared.writing.Sent.{Sent}
use Rattle.tcp_front.specs.declared.stream.Stream.{Stream}
use Rattle.connections.specs.Keyed.{Closes, Flagged, HasBegun, Opens, WritesUnder}
use Rattle.connections.specs.Incoming.{Incoming}
use Rattle.connections.specs.Connections.{sender_at, due_of, flagged, most_counted, nothing_due, number_of, records_of, with_reply}
use Rattle.connections.specs.Owing.{Pays}
use Rattle.connections.specs.Taking.{Takes, TakesOf}
use Rattle.connections.specs.lemmas.Owing.{pays-count, pays-out}
use Rattle.connections.specs.lemmas.Reading.{read-count}
use Rattle.connections.specs.lemmas.Taking.{takes-none}
use Rattle.connections.specs.lemmas.Writing.{written-pays, written-same}
use Rattle.lanes.specs.declared.intake.Intake.{Intake}
use Rattle.lanes.specs.Intakes.{Adds, all_put, answered_of, has_room_in, HasTakenIn}
use Rattle.lanes.specs.Lanes.{owing_in, ReadsUnder}
use Rattle.lanes.specs.Owed.{admitted_of, finished_of, of_number, AreOwed, IsOwed}
use Rattle.lanes.specs.Story.{of_connection, number_at, Life, Open, HasLived, Story}
use Rattle.lanes.proofs.Lists.{of-own, of-other}
use Rattle.lanes.proofs.Numbers.{numbers-differ}
use Rattle.lanes.proofs.Quiet.{total-seen, weigh_seen}

-- ---- one key

either : (k key : ℕ) (P : Type 0) → (k ≡ key → P) → (k ≢ key → P) → P
either k key P same other = by (k == key) refl
  where
    by : (b : Bool) → (k == key) ≡ b → P
    by true is = same (exact_unsigned_eq k key is)
    by false is = other (eqb-false k key is)

module _ {X : Type 0} where
  some-is : (x y : X) → Some x ≡ Some y → x ≡ y
  some-is x y e = cc

  none-is : (x : X) → None ≡ Some x → ⊥
  none-is x e = cc

-- ---- what came of one connection, counted

abbrev one_if : Bool → ℕ
one_if b = if b then 1 else 0

abbrev weigh_reply : ℕ → Addressed → ℕ
weigh_reply n a = one_if (a.connection == n)

-- as many calls and replies of it as came of it
count-if : (b : Bool) (k : ℕ) (x : Arrival) (xs : List Arrival) → k ≡ length xs → one_if b + k ≡ length (if b then x ∷ xs else xs)
count-if true k x xs e = omega (arith, e)
count-if false k x xs e = omega (arith, e)

count-of : (n : ℕ) (xs : List Arrival) → total (weigh_seen (of_number n)) (calls_of xs) + total (weigh_reply n) (answered_of xs)
    ≡ length (of_connection n xs)
count-of n [] = refl
count-of n (Waits m ∷ xs) =
    let rest = count-of n xs in
    let first = count-if (m.connection == n) (length (of_connection n xs)) (Waits m) (of_connection n xs) refl in omega (arith, rest, first)
count-of n (Answered a ∷ xs) =
    let rest = count-of n xs in
    let first = count-if (a.connection == n) (length (of_connection n xs)) (Answered a) (of_connection n xs) refl in omega (arith, rest, first)

arrivals-length : (layout : Layout) (n : ℕ) (p : Sender) (k : ℕ) (hs : List Heard) → length (arrivals layout n p k hs) ≡ length hs
arrivals-length layout n p k [] = refl
arrivals-length layout n p k (h ∷ hs) = let e = arrivals-length layout n p (k + 1) hs in omega (arith, e)

-- so many more were admitted
admitted-more : (n : ℕ) (ms ms' : List Message) (xs : List Arrival) → map message_of ms' ≡ map message_of ms ++ calls_of xs
    → admitted_of n ms' ≡ admitted_of n ms + total (weigh_seen (of_number n)) (calls_of xs)
admitted-more n ms ms' xs e =
    let h = of_number n in
    let a = total-seen h ms in
    let b = total-seen h ms' in
    let c : total (weigh_seen h) (map message_of ms') ≡ total (weigh_seen h) (map message_of ms ++ calls_of xs) = ap (total (weigh_seen h)) e in
    let d = total-append (weigh_seen h) (map message_of ms) (calls_of xs) in omega (arith, a, b, c, d)

-- ---- what is put into one outbox

abbrev Filled : Option (List ReplyMessage) → ℕ → ℕ → Type 0
Filled o size more = (waiting : List ReplyMessage) × (o ≡ Some waiting) × (length waiting ≡ size + more)

put-one : (n : ℕ) (a : Addressed) (boxes : Boxes) (waiting : List ReplyMessage) → get boxes.waiting n ≡ Some waiting
    → Filled (get (put a boxes).waiting n) (length waiting) (one_if (a.connection == n))
put-one n a boxes waiting box = by (n == a.connection) refl
  where
    found : get (put a boxes).waiting n
        ≡ (if n == a.connection then option_map (with_last a.message) (get boxes.waiting a.connection) else get boxes.waiting n)
    found = get-changed_at (with_last a.message) a.connection boxes.waiting n

    by : (b : Bool) → (n == a.connection) ≡ b → Filled (get (put a boxes).waiting n) (length waiting) (one_if (a.connection == n))
    by true is =
        let e : n ≡ a.connection = exact_unsigned_eq n a.connection is in
        let one : one_if (a.connection == n) ≡ 1 =
        ap one_if (ap (λ m. m == n) (sym e) ∙ itself n) in
        let size = length-append waiting (a.message ∷ []) in (
          waiting ++ a.message ∷ [],
          found ∙ ap (λ (b : Bool). if b then option_map (with_last a.message) (get boxes.waiting a.connection) else get boxes.waiting n) is
              ∙ ap (λ m. option_map (with_last a.message) (get boxes.waiting m)) (sym e) ∙ ap (option_map (with_last a.message)) box,
          omega (arith, one, size),
        )
    by false is =
        let none : one_if (a.connection == n) ≡ 0 =
        ap one_if (ne_eqb a.connection n (λ e. eqb-false n a.connection is (sym e))) in (
          waiting,
          found ∙ ap (λ (b : Bool). if b then option_map (with_last a.message) (get boxes.waiting a.connection) else get boxes.waiting n) is ∙ box,
          omega (arith, none),
        )

put-many : (form : HandleForm) (n : ℕ) (answers : List Addressed) (boxes : Boxes) (waiting : List ReplyMessage)
    → get boxes.waiting n ≡ Some waiting
    → Filled (get (all_put (map (answer_told form) answers) boxes).waiting n) (length waiting) (total (weigh_reply n) answers)
put-many form n [] boxes waiting box = (waiting, box, omega arith)
put-many form n (a ∷ rest) boxes waiting box =
    let one = put-one n (answer_told form a) boxes waiting box in
    let more = put-many form n rest (put (answer_told form a) boxes) one.0 one.1 in
    let x = one.2 in
    let y = more.2 in (more.0, more.1, omega (arith, x, y))

-- ---- what is added to what is owed

min-less : (a b : ℕ) → a ≤ b → min a b ≡ a
min-less a b h = omega (arith, h)

adds-count : (xs : List Arrival) (a b : Due) → Adds xs a b → a.replies + length xs ≤ most_counted → b.replies ≡ a.replies + length xs
adds-count [] a b e few = ap (λ (d : Due). d.replies) e ∙ omega arith
adds-count (Waits m ∷ xs) a b (room, fits, h) few =
    let one : min (a.replies + 1) most_counted ≡ a.replies + 1 = min-less (a.replies + 1) most_counted (omega (arith, few)) in
    let rest = adds-count xs (with_reply room a) b h (omega (arith, one, few)) in omega (arith, one, rest)
adds-count (Answered r ∷ xs) a b h few =
    let one : min (a.replies + 1) most_counted ≡ a.replies + 1 = min-less (a.replies + 1) most_counted (omega (arith, few)) in
    let rest = adds-count xs (with_reply 0 a) b h (omega (arith, one, few)) in omega (arith, one, rest)

adds-none : (xs : List Arrival) (a b : Due) → Adds xs a b → length xs ≡ 0 → b ≡ a
adds-none [] a b e none = e
adds-none (x ∷ xs) a b h none = absurd (omega (arith, none))

-- ---- numbers, out of the story

module _ {D : Type 0} {unread : D → Incoming} {written : D → Option (List ℕ)} {layout : Layout} {offer : Offer} {lane lanes : ℕ}
    {entries : List FilerEntry} {messages : List Message} {boxes : Boxes} {slots : ℕ → Option (Connection D)} {closed : List (Connection D)}
    (s : Story unread written layout offer lane lanes entries messages boxes slots closed) where
  -- an open connection has a number of the lane, by its place among those that were opened
  numbered : (key : ℕ) (c : Connection D) → slots key ≡ Some c
      → (k : ℕ) × (k < s.opened) × (s.lives k ≡ Open key) × (number_of c ≡ number_at lane lanes k)
  numbered key c was =
      let f = s.known key c was in
      let h : HasLived unread written layout offer s.came s.endings boxes slots closed (number_at lane lanes f.0) (Open key) =
      subst (λ (x : Life). HasLived unread written layout offer s.came s.endings boxes slots closed (number_at lane lanes f.0) x) f.2 (s.each f.0 f.1) in
      (f.0, f.1, f.2, ap (λ (x : Connection D). number_of x) (some-is c h.0 (sym was ∙ h.2)) ∙ h.3)

  -- no two have one number
  pub apart : (key other : ℕ) (c d : Connection D) → slots key ≡ Some c → slots other ≡ Some d → other ≢ key → number_of d ≢ number_of c
  apart key other c d was is differ e =
      let p = numbered key c was in
      let q = numbered other d is in
      either q.0 p.0 ⊥
      (λ same. let h = sym q.2 ∙ ap s.lives same ∙ p.2 in differ cc)
      (λ n. numbers-differ lane lanes q.0 p.0 s.within n (sym q.3 ∙ e ∙ p.3))

  -- none has the next number
  pub next-apart : (key : ℕ) (c : Connection D) → slots key ≡ Some c → number_of c ≢ boxes.next
  next-apart key c was e =
      let p = numbered key c was in
      numbers-differ lane lanes s.opened p.0 s.within (λ same. let few = p.1 in absurd (omega (arith, few, same)))
      (sym s.next ∙ sym e ∙ p.3)

  -- nothing of it was admitted
  pub next-none : admitted_of boxes.next messages ≡ 0
  next-none =
      let n = boxes.next in
      let none : of_connection n s.came ≡ [] =
      s.only n (λ k few e. numbers-differ lane lanes s.opened k s.within (λ same. absurd (omega (arith, few, same))) (sym s.next ∙ e)) in
      let a = total-seen (of_number n) messages in
      let b : total (weigh_seen (of_number n)) (map message_of messages) ≡ total (weigh_seen (of_number n)) (calls_of s.came) =
      ap (total (weigh_seen (of_number n))) s.admitted in
      let c = count-of n s.came in
      let d : length (of_connection n s.came) ≡ 0 = ap (λ (l : List Arrival). length l) none in omega (arith, a, b, c, d)

  -- no more were finished than were admitted
  pub finished-few : (n : ℕ) → finished_of n entries ≤ admitted_of n messages
  finished-few n = s.once (of_number n)

-- ---- one connection goes on

abbrev Slots : Type 0 → Type 0
Slots D = ℕ → Option (Connection D)

module _ {D : Type 0} where
  -- the slots have this under a key, and else what they had
  abbrev Sets : Slots D → ℕ → Option (Connection D) → Slots D → Type 0
  Sets slots key slot slots' = (slots' key ≡ slot) × ((other : ℕ) → other ≢ key → slots' other ≡ slots other)

  -- what is owed to the others doesn't change
  owed-beside : (entries : List FilerEntry) (messages messages' : List Message) (boxes boxes' : Boxes) (c : Connection D)
      → admitted_of (number_of c) messages' ≡ admitted_of (number_of c) messages
      → ((waiting : List ReplyMessage) → get boxes.waiting (number_of c) ≡ Some waiting
      → Filled (get boxes'.waiting (number_of c)) (length waiting) 0)
      → IsOwed entries messages boxes c → IsOwed entries messages' boxes' c
  owed-beside entries messages messages' boxes boxes' c same box o =
      let b = box o.waiting o.box in
      let size = b.2 in
      let e = o.replies in record {
        waiting = b.0;
        box = b.1;
        replies = omega (arith, size, e, same);
        few = o.few;
        room = o.room;
      }

  -- at the beginning none is open
  pub owed-begins : (entries : List FilerEntry) (messages : List Message) (boxes : Boxes) (slots : Slots D) → ((key : ℕ) → slots key ≡ None)
      → AreOwed entries messages boxes slots
  owed-begins entries messages boxes slots vacant key c is = absurd (none-is c (sym (vacant key) ∙ is))

  each-owed : (entries : List FilerEntry) (messages' : List Message) (boxes' : Boxes) (slots slots' : Slots D) (key : ℕ) (c' : Connection D)
      → Sets slots key (Some c') slots' → IsOwed entries messages' boxes' c'
      → ((other : ℕ) (d : Connection D) → other ≢ key → slots other ≡ Some d → IsOwed entries messages' boxes' d)
      → AreOwed entries messages' boxes' slots'
  each-owed entries messages' boxes' slots slots' key c' sets own others other d is =
      either other key (IsOwed entries messages' boxes' d)
      (λ e. subst (λ (x : Connection D). IsOwed entries messages' boxes' x) (some-is c' d (sym sets.0 ∙ ap slots' (sym e) ∙ is)) own)
      (λ n. others other d n (sym (sets.1 other n) ∙ is))

  module _ (unread : D → Incoming) (written : D → Option (List ℕ)) (layout : Layout) (offer : Offer) (lane lanes : ℕ)
      (entries : List FilerEntry) (messages : List Message) (boxes : Boxes) (slots : Slots D) (closed : List (Connection D))
      (s : Story unread written layout offer lane lanes entries messages boxes slots closed) (o : AreOwed entries messages boxes slots) where
    -- ---- reading

    module _ (slots' : Slots D) (key : ℕ) (c c' : Connection D) (was : slots key ≡ Some c) (sets : Sets slots key (Some c') slots')
        (number : number_of c' ≡ number_of c) where
      pub owed-reads : (messages' : List Message) (heard : List Heard) (boxes' : Boxes)
          → map message_of messages' ≡ map message_of messages ++ calls_of (arrivals layout (number_of c) (sender_at c) c.stream.records heard)
          → boxes' ≡ all_put (map (answer_told (form_of offer)) (answered_of (arrivals layout (number_of c) (sender_at c) c.stream.records heard))) boxes
          → Adds (arrivals layout (number_of c) (sender_at c) c.stream.records heard) (due_of c) (due_of c')
          → records_of c' ≡ records_of c + length heard → records_of c' ≤ most_counted → AreOwed entries messages' boxes' slots'
      owed-reads messages' heard boxes' admitted is adds count few =
          each-owed entries messages' boxes' slots slots' key c' sets own (λ other d n at.
          owed-beside entries messages messages' boxes boxes' d (quiet other d n at).0 (quiet other d n at).1 (o other d at))
        where
          n : ℕ
          n = number_of c

          xs : List Arrival
          xs = arrivals layout n (sender_at c) c.stream.records heard

          old : IsOwed entries messages boxes c
          old = o key c was

          size : length xs ≡ length heard
          size = arrivals-length layout n (sender_at c) c.stream.records heard

          more : (due_of c').replies ≡ (due_of c).replies + length heard
          more =
              let f = old.few in
              adds-count xs (due_of c) (due_of c') adds (omega (arith, f, count, few, size)) ∙ ap (λ k. (due_of c).replies + k) size

          filled : Filled (get boxes'.waiting n) (length old.waiting) (total (weigh_reply n) (answered_of xs))
          filled = subst (λ (b : Boxes). Filled (get b.waiting n) (length old.waiting) (total (weigh_reply n) (answered_of xs))) (sym is)
              (put-many (form_of offer) n (answered_of xs) boxes old.waiting old.box)

          own : IsOwed entries messages' boxes' c'
          own = record {
            waiting = filled.0;
            box = ap (λ k. get boxes'.waiting k) number ∙ filled.1;
            replies =
                let e = old.replies in
                let put = filled.2 in
                let all = count-of n xs in
                let mine : length (of_connection n xs) ≡ length xs =
                ap (λ (l : List Arrival). length l) (of-own layout n (sender_at c) c.stream.records heard) in
                let adm = admitted-more n messages messages' xs admitted in
                let f : finished_of (number_of c') entries ≡ finished_of n entries = ap (λ k. finished_of k entries) number in
                let a : admitted_of (number_of c') messages' ≡ admitted_of n messages' = ap (λ k. admitted_of k messages') number in
                omega (arith, e, put, all, mine, adm, f, a, more, size);
            few = let f = old.few in omega (arith, f, more, count);
            room = λ none.
                let zero : length xs ≡ 0 = omega (arith, none, more, size) in
                let same = adds-none xs (due_of c) (due_of c') adds zero in
                ap (λ (d : Due). d.room) same ∙ old.room (sym (ap (λ (d : Due). d.replies) same) ∙ none);
          }

          quiet : (other : ℕ) (d : Connection D) → other ≢ key → slots other ≡ Some d
              → (admitted_of (number_of d) messages' ≡ admitted_of (number_of d) messages)
              × ((waiting : List ReplyMessage) → get boxes.waiting (number_of d) ≡ Some waiting
              → Filled (get boxes'.waiting (number_of d)) (length waiting) 0)
          quiet other d n' at =
              let m = number_of d in
              let none : length (of_connection m xs) ≡ 0 =
              ap (λ (l : List Arrival). length l)
              (of-other layout m n (sender_at c) c.stream.records heard (λ e. apart s key other c d was at n' (sym e))) in
              let all = count-of m xs in
              let adm = admitted-more m messages messages' xs admitted in
              let still : total (weigh_reply m) (answered_of xs) ≡ 0 = omega (arith, none, all) in (
                omega (arith, none, all, adm),
                λ waiting box. subst (λ (b : Boxes). Filled (get b.waiting m) (length waiting) 0) (sym is)
                    (subst (λ k. Filled (get (all_put (map (answer_told (form_of offer)) (answered_of xs)) boxes).waiting m) (length waiting) k) still
                    (put-many (form_of offer) m (answered_of xs) boxes waiting box)),
              )

      -- ---- writing

      left-of : (w : List ReplyMessage) (o o' : Option (List ReplyMessage)) (taken : List ReplyMessage) → o ≡ Some w → TakesOf o taken o'
          → (w' : List ReplyMessage) × (o' ≡ Some w') × (length w ≡ length taken + length w')
      left-of w None o' taken e h = absurd cc
      left-of w (Some v) None taken e h = absurd h
      left-of w (Some v) (Some u) taken e h =
          let same : w ≡ v = cc in (u, refl, ap (λ (l : List ReplyMessage). length l) (same ∙ h) ∙ length-append taken u)

      pub owed-writes : (boxes' : Boxes) (taken : List ReplyMessage) → Takes (number_of c) taken boxes boxes'
          → Pays taken (due_of c) (due_of c') → records_of c' ≡ records_of c → AreOwed entries messages boxes' slots'
      owed-writes boxes' taken takes pays count =
          each-owed entries messages boxes' slots slots' key c' sets own (λ other d n at.
          owed-beside entries messages messages boxes boxes' d refl
          (λ waiting box. (waiting, takes.others (number_of d) (apart s key other c d was at n) ∙ box, omega arith)) (o other d at))
        where
          old : IsOwed entries messages boxes c
          old = o key c was

          left : (w' : List ReplyMessage) × (get boxes'.waiting (number_of c) ≡ Some w') × (length old.waiting ≡ length taken + length w')
          left = left-of old.waiting (get boxes.waiting (number_of c)) (get boxes'.waiting (number_of c)) taken old.box takes.own

          own : IsOwed entries messages boxes' c'
          own = record {
            waiting = left.0;
            box = ap (λ k. get boxes'.waiting k) number ∙ left.1;
            replies =
                let e = old.replies in
                let size = left.2 in
                let paid = pays-count taken (due_of c) (due_of c') pays in
                let fin = finished-few s (number_of c) in
                let f : finished_of (number_of c') entries ≡ finished_of (number_of c) entries = ap (λ k. finished_of k entries) number in
                let a : admitted_of (number_of c') messages ≡ admitted_of (number_of c) messages = ap (λ k. admitted_of k messages) number in
                omega (arith, e, size, paid, fin, f, a);
            few = let f = old.few in let paid = pays-count taken (due_of c) (due_of c') pays in omega (arith, f, paid, count);
            room = pays-out taken (due_of c) (due_of c') old.room pays;
          }

    -- ---- opening and closing

    pub owed-opens : (slots' : Slots D) (key : ℕ) (c : Connection D) → Sets slots key (Some c) slots' → number_of c ≡ boxes.next
        → due_of c ≡ nothing_due → AreOwed entries messages (opened boxes) slots'
    owed-opens slots' key c sets number nothing =
        each-owed entries messages (opened boxes) slots slots' key c sets own (λ other d n at.
        owed-beside entries messages messages boxes (opened boxes) d refl
        (λ waiting box. (
          waiting,
          found (number_of d) ∙ ap (λ b. cond b (Some []) (get boxes.waiting (number_of d)))
              (ne_eqb (number_of d) boxes.next (next-apart s other d at)) ∙ box,
          omega arith,
        )) (o other d at))
      where
        found : (n : ℕ) → get (opened boxes).waiting n ≡ cond (n == boxes.next) (Some []) (get boxes.waiting n)
        found n = get-insert_at boxes.waiting boxes.next [] n

        none : (due_of c).replies ≡ 0
        none = ap (λ (d : Due). d.replies) nothing

        own : IsOwed entries messages (opened boxes) c
        own = record {
          waiting = [];
          box = ap (λ n. get (opened boxes).waiting n) number ∙ found boxes.next
              ∙ ap (λ b. cond b (Some []) (get boxes.waiting boxes.next)) (itself boxes.next);
          replies =
              let adm = next-none s in
              let fin = finished-few s boxes.next in
              let f : finished_of (number_of c) entries ≡ finished_of boxes.next entries = ap (λ k. finished_of k entries) number in
              let a : admitted_of (number_of c) messages ≡ admitted_of boxes.next messages = ap (λ k. admitted_of k messages) number in
              omega (arith, none, adm, fin, f, a);
          few = omega (arith, none);
          room = λ e. ap (λ (d : Due). d.room) nothing;
        }

    pub owed-shuts : (slots' : Slots D) (key : ℕ) (c : Connection D) → slots key ≡ Some c → Sets slots key None slots'
        → AreOwed entries messages (shut (number_of c) boxes) slots'
    owed-shuts slots' key c was sets other d is =
        either other key (IsOwed entries messages (shut (number_of c) boxes) d)
        (λ e. absurd (none-is d (sym sets.0 ∙ ap slots' (sym e) ∙ is)))
        (λ n.
        let at = sym (sets.1 other n) ∙ is in
        owed-beside entries messages messages boxes (shut (number_of c) boxes) d refl
        (λ waiting box. (
          waiting,
          get-remove_at boxes.waiting (number_of c) (number_of d) ∙ ap (λ b. cond b None (get boxes.waiting (number_of d)))
              (ne_eqb (number_of d) (number_of c) (apart s key other c d was at n)) ∙ box,
          omega arith,
        )) (o other d at))

-- ---- turns

module _ {D : Type 0} (messages : List Message) (slots : ℕ → Option (Connection D)) (form : HandleForm) (moment : Moment) where
  -- an entry of a connection is one reply to it
  entry-weighs : (n : ℕ) (m : Message) (at : Moment) (a : Addressed) (e : FilerEntry) → IsEntryOf m at a e
      → by_entry (of_number n) e ≡ one_if (a.connection == n)
  entry-weighs n m at a e i = ap (λ (j : Job). by_job (of_number n) j) i.call ∙ ap (λ k. one_if (k == n)) (sym i.connection)

  owed-done : (s t : Standing) (boxes : Boxes) (a : Addressed) → HasDoneFrom s moment a t → AreOwed (entries_of s.view) messages boxes slots
      → AreOwed (entries_of t.view) messages (put (answer_told form a) boxes) slots
  owed-done s t boxes a d o key c is =
      let old = o key c is in
      let f = d.finished in
      let n = number_of c in
      let p = put-one n (answer_told form a) boxes old.waiting old.box in
      let e = old.replies in
      let size = p.2 in
      let one = entry-weighs n d.message f.moment a f.entry f.is in
      let all : finished_of n (entries_of t.view) ≡ finished_of n (entries_of s.view ++ f.entry ∷ []) = ap (finished_of n) f.entries in
      let sum = total-append (by_entry (of_number n)) (entries_of s.view) (f.entry ∷ []) in record {
        waiting = p.0;
        box = p.1;
        replies = omega (arith, e, size, one, all, sum);
        few = old.few;
        room = old.room;
      }

  owed-all : (s : Standing) (answers : List Addressed) (t : Standing) (boxes : Boxes) → DidAll moment s answers t
      → AreOwed (entries_of s.view) messages boxes slots
      → AreOwed (entries_of t.view) messages (puts (map (answer_told form) answers) boxes) slots
  owed-all s [] t boxes same o = subst (λ (x : Standing). AreOwed (entries_of x.view) messages boxes slots) (sym same) o
  owed-all s (a ∷ rest) t boxes (mid, done, more) o =
      owed-all mid rest t (put (answer_told form a) boxes) more (owed-done s mid boxes a done o)

  ends-same : (layout : Layout) (between : Standing) (chained : Chained) (after : Standing) → EndsBy layout between moment chained after
      → entries_of after.view ≡ entries_of between.view
  ends-same layout between chains.Done after (_, view, _) = ap entries_of view
  ends-same layout between chains.Moved after (m, m', _, r) = r.entries
  ends-same layout between (chains.Busy at word) after (m, r, _) = r.entries
  ends-same layout between chains.Worn after (m, r, _) = r.entries
  ends-same layout between chains.Idle after d = ap entries_of d.view

  pub owed-turns : (layout : Layout) (s : Standing) (boxes boxes' : Boxes) (chained : Chained) (t : Standing)
      → HasTurnedOn (TookTold form HasPutAll) layout s moment boxes chained boxes' t → AreOwed (entries_of s.view) messages boxes slots
      → AreOwed (entries_of t.view) messages boxes' slots
  owed-turns layout s boxes boxes' chained t h o =
      subst (λ (b : Boxes). AreOwed (entries_of t.view) messages b slots) (sym h.told)
      (subst (λ (es : List FilerEntry). AreOwed es messages (puts (map (answer_told form) h.answers) boxes) slots)
      (sym (ends-same layout h.between chained t h.ends)) (owed-all s h.answers h.between boxes h.did o))

-- ---- each call of a lane

sets-at : {D : Type 0} (slab slab' : Slab (Connection D)) (key : ℕ) (c c' : Connection D) → slabs.get slab key ≡ Some c
    → slab' ≡ with_value slab key c' → (slabs.get slab' key ≡ Some c') × ((other : ℕ) → other ≢ key → slabs.get slab' other ≡ slabs.get slab other)
sets-at {D} slab slab' key c c' was is =
    let u = subst (λ (n : Slab (Connection D)). Updates slab n key (Some c')) (sym is)
    (Updates-with_value slab key c' (subst (λ (o : Option (Connection D)). IsSome o) (sym was) refl)) in
    (u.changed, u.others)

-- of two facts that are known
known-both : {A B C : Type 0} → ∥ A ∥₁ → ∥ B ∥₁ → (A → B → C) → ∥ C ∥₁
known-both t u f = ∥∥₁_elim t ∥∥₁_prop (λ a. ∥∥₁_map u (λ b. f a b))

module _ {D : Type 0} (unread : D → Incoming) (written : D → Option (List ℕ)) (layout : Layout) (offer : Offer) (lane lanes : ℕ)
    (entries : List FilerEntry) (closed : List (Connection D)) where
  -- what a lane's type keeps
  abbrev Told : List Message → Boxes → Slab (Connection D) → Type 0
  Told messages boxes slab = ∥ Story unread written layout offer lane lanes entries messages boxes (slabs.get slab) closed ∥₁

  abbrev Owed : List Message → Boxes → Slab (Connection D) → Type 0
  Owed messages boxes slab = ∥ AreOwed entries messages boxes (slabs.get slab) ∥₁

  read-owed : {R : Type 0} (slab slab' : Slab (Connection D)) (key : ℕ) (o : Option (Connection D)) → slabs.get slab key ≡ o
      → (sink sink' : Intake R) (size : ℕ) (result : Came) → ReadsUnder unread written layout offer slab key o sink size result slab' sink'
      → Told (known sink.pass).put sink.outboxes slab → Owed (known sink.pass).put sink.outboxes slab
      → Owed (known sink'.pass).put sink'.outboxes slab'
  read-owed slab slab' key None is sink sink' size result (_, same, sink_same) t u =
      subst (λ (s : Slab (Connection D)). Owed (known sink'.pass).put sink'.outboxes s) (sym same)
      (subst (λ s. Owed (known s.pass).put s.outboxes slab) (sym sink_same) u)
  read-owed {R} slab slab' key (Some c) is sink sink' size result (after, now, on) t u =
      let h = on.read in
      let number : number_of after ≡ number_of c = ap (λ (x : Connection D). number_of x) on.is ∙ ap (λ n. n.0) h.number in
      let due : due_of after ≡ sink'.owed = ap (λ (x : Connection D). due_of x) on.is in
      let count : records_of after ≡ records_of c + length h.heard = ap (λ (x : Connection D). records_of x) on.is
      ∙ read-count unread written HasTakenIn has_room_in layout offer c (owing_in (due_of c) (form_of offer) sink) size result on.between sink' h
      c.opened.value in
      known-both t u (λ s o.
      owed-reads unread written layout offer lane lanes entries (known sink.pass).put sink.outboxes (slabs.get slab) closed s o (slabs.get slab') key c after is
      (sets-at slab slab' key c after is now) number (known sink'.pass).put h.heard sink'.outboxes h.given.put h.given.boxes_are
      (subst (λ (d : Due). Adds (arrivals layout (number_of c) (sender_at c) c.stream.records h.heard) (due_of c) d) (sym due) h.given.adds) count on.few)

  pub reads-owed : {R : Type 0} (layout' : Layout) (slab slab' : Slab (Connection D)) (key : ℕ) (sink sink' : Intake R)
      (size : ℕ) (result : Came) → layout' ≡ layout → ReadsUnder unread written layout' offer slab key (slabs.get slab key) sink size result slab' sink'
      → Told (known sink.pass).put sink.outboxes slab → Owed (known sink.pass).put sink.outboxes slab
      → Owed (known sink'.pass).put sink'.outboxes slab'
  reads-owed layout' slab slab' key sink sink' size result same h t u =
      read-owed slab slab' key (slabs.get slab key) refl sink sink' size result
      (subst (λ (l : Layout). ReadsUnder unread written l offer slab key (slabs.get slab key) sink size result slab' sink') same h) t u

  write-owed : (slab slab' : Slab (Connection D)) (key : ℕ) (o : Option (Connection D)) → slabs.get slab key ≡ o → (messages : List Message)
      (boxes boxes' : Boxes) (result : Sent) → WritesUnder unread written slab key o boxes result slab' boxes'
      → Told messages boxes slab → Owed messages boxes slab → Owed messages boxes' slab'
  write-owed slab slab' key None is messages boxes boxes' result (_, same, boxes_same) t u =
      subst (λ (s : Slab (Connection D)). Owed messages boxes' s) (sym same)
      (subst (λ (b : Boxes). Owed messages b slab) (sym boxes_same) u)
  write-owed slab slab' key (Some c) is messages boxes boxes' result (after, now, h) t u =
      let kept = written-same unread written c boxes result after boxes' h in
      let paid = written-pays unread written c boxes result after boxes' h in
      known-both t u (λ s o.
      owed-writes unread written layout offer lane lanes entries messages boxes (slabs.get slab) closed s o (slabs.get slab') key c after is
      (sets-at slab slab' key c after is now) (ap (λ (x : Stream). x.connection.0) kept.0) boxes' paid.0 paid.1 paid.2
      (ap (λ (x : Stream). x.records) kept.0))

  pub writes-owed : (slab slab' : Slab (Connection D)) (key : ℕ) (messages : List Message) (boxes boxes' : Boxes) (result : Sent)
      → WritesUnder unread written slab key (slabs.get slab key) boxes result slab' boxes' → Told messages boxes slab → Owed messages boxes slab
      → Owed messages boxes' slab'
  writes-owed slab slab' key messages boxes boxes' result h t u =
      write-owed slab slab' key (slabs.get slab key) refl messages boxes boxes' result h t u

  flag-owed : (slab slab' : Slab (Connection D)) (key : ℕ) (o : Option (Connection D)) → slabs.get slab key ≡ o → (messages : List Message)
      (boxes : Boxes) (flags : Flags) → Flagged slab key o flags slab' → Told messages boxes slab → Owed messages boxes slab
      → Owed messages boxes slab'
  flag-owed slab slab' key None is messages boxes flags same t u = subst (λ (s : Slab (Connection D)). Owed messages boxes s) (sym same) u
  flag-owed slab slab' key (Some c) is messages boxes flags now t u =
      known-both t u (λ s o.
      owed-writes unread written layout offer lane lanes entries messages boxes (slabs.get slab) closed s o (slabs.get slab') key c (flagged flags c) is
      (sets-at slab slab' key c (flagged flags c) is now) refl boxes [] (takes-none (number_of c) boxes) refl refl)

  pub flags-owed : (slab slab' : Slab (Connection D)) (key : ℕ) (messages : List Message) (boxes : Boxes) (flags : Flags)
      → Flagged slab key (slabs.get slab key) flags slab' → Told messages boxes slab → Owed messages boxes slab → Owed messages boxes slab'
  flags-owed slab slab' key messages boxes flags h t u = flag-owed slab slab' key (slabs.get slab key) refl messages boxes flags h t u

  pub opens-owed : (slab slab' : Slab (Connection D)) (device : D) (peer : Peer) (result : Result ℕ D) (messages : List Message) (boxes boxes' : Boxes)
      → Opens slab boxes device peer result slab' boxes' → IfOk result (λ key. IfSome (slabs.get slab' key) (HasBegun unread written))
      → Told messages boxes slab → Owed messages boxes slab → Owed messages boxes' slab'
  opens-owed slab slab' device peer (Ok key) messages boxes boxes' (_, is, (c, updates, _, number, _)) begins t u =
      let begun : HasBegun unread written c = subst (λ (o : Option (Connection D)). IfSome o (HasBegun unread written)) updates.changed begins in
      subst (λ (b : Boxes). Owed messages b slab') (sym is)
      (known-both t u (λ s o. owed-opens unread written layout offer lane lanes entries messages boxes (slabs.get slab) closed s o (slabs.get slab') key c
      (updates.changed, updates.others) number begun.owed))
  opens-owed slab slab' device peer (Err back) messages boxes boxes' (_, same, is) begins t u =
      subst (λ (b : Boxes). Owed messages b slab') (sym is)
      (subst (λ (s : ℕ → Option (Connection D)). ∥ AreOwed entries messages boxes s ∥₁) (λ i. λ key. sym (same key) i) u)

  close-owed : (slab slab' : Slab (Connection D)) (key : ℕ) (o : Option (Connection D)) → slabs.get slab key ≡ o → (messages : List Message)
      (boxes boxes' : Boxes) (device : Option D) → Closes slab key boxes o device slab' boxes' → Told messages boxes slab
      → Owed messages boxes slab → Owed messages boxes' slab'
  close-owed slab slab' key None is messages boxes boxes' device (_, same, boxes_same) t u =
      subst (λ (s : Slab (Connection D)). Owed messages boxes' s) (sym same)
      (subst (λ (b : Boxes). Owed messages b slab) (sym boxes_same) u)
  close-owed slab slab' key (Some c) is messages boxes boxes' device (_, updates, boxes_is) t u =
      subst (λ (b : Boxes). Owed messages b slab') (sym boxes_is)
      (known-both t u (λ s o. owed-shuts unread written layout offer lane lanes entries messages boxes (slabs.get slab) closed s o (slabs.get slab') key c is
      (updates.changed, updates.others)))

  pub closes-owed : (slab slab' : Slab (Connection D)) (key : ℕ) (messages : List Message) (boxes boxes' : Boxes) (device : Option D)
      → Closes slab key boxes (slabs.get slab key) device slab' boxes' → Told messages boxes slab → Owed messages boxes slab
      → Owed messages boxes' slab'
  closes-owed slab slab' key messages boxes boxes' device h t u =
      close-owed slab slab' key (slabs.get slab key) refl messages boxes boxes' device h t u

-- ---- tends

-- entries that weigh the same owe the same
owed-weighed : {D : Type 0} (messages : List Message) (boxes : Boxes) (slots : ℕ → Option (Connection D)) (entries entries' : List FilerEntry)
    → ((n : ℕ) → finished_of n entries' ≡ finished_of n entries) → AreOwed entries messages boxes slots → AreOwed entries' messages boxes slots
owed-weighed messages boxes slots entries entries' same o key c is =
    let old = o key c is in
    let f = same (number_of c) in
    let e = old.replies in
    record { waiting = old.waiting; box = old.box; replies = omega (arith, e, f); few = old.few; room = old.room }

inner-none : (n : ℕ) (job : Job) (call : jobs.InnerCall) → job_of job ≡ jobs.Inner call → by_job (of_number n) job ≡ 0
inner-none n (Serve served) call h = let no : ⊥ = cc in absurd no
inner-none n (Inner inner) call h = refl

answers-same : (layout : Layout) (before after : Worker) (inner : Result jobs.InnerCall TendRefusal) (answer : Result Tended TendRefusal)
    → Answers layout before inner answer after → (n : ℕ) → finished_of n (entries_in after) ≡ finished_of n (entries_in before)
answers-same layout before after (Ok call) (Ok tended) h n =
    let k = h.carries in
    let a : finished_of n (entries_in after) ≡ finished_of n (entries_in before ++ k.entry ∷ []) = ap (finished_of n) k.entries in
    let b = total-append (by_entry (of_number n)) (entries_in before) (k.entry ∷ []) in
    let c = inner-none n k.entry.call call k.is_call in omega (arith, a, b, c)
answers-same layout before after (Ok call) (Err refusal) h n = ap (finished_of n) h.0
answers-same layout before after (Err why) answer h n = ap (λ v. finished_of n (entries_of v)) h.1

pub tends-owed : {D : Type 0} (layout : Layout) (messages : List Message) (boxes : Boxes) (slots : ℕ → Option (Connection D)) (before after : Worker)
    (tend : Tend) (answer : Result Tended TendRefusal) → Tends layout before tend answer after
    → ∥ AreOwed (entries_in before) messages boxes slots ∥₁ → ∥ AreOwed (entries_in after) messages boxes slots ∥₁
tends-owed layout messages boxes slots before after tend answer h u =
    ∥∥₁_map u (owed-weighed messages boxes slots (entries_in before) (entries_in after)
    (answers-same layout before after (call_of layout tend (hand_in before)) answer h))
