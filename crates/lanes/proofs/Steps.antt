-- What each call of a lane leaves: its story, and both passes.
use Rattle.std.proofs.Common.{◌≡◌, ◌≢◌, ◌≤◌, ℕ, ◌+◌, ◌*◌, ◌^◌, List, [], ◌∷◌, ◌++◌, map, Option, Some, None, Result, Ok, Err, refl, sym, ap}
use Rattle.std.proofs.Common.{subst, ◌∙◌, append-nil, cond, ne_eqb, arith}
use Rattle.std.specs.Prelude.{IfOk, IfSome, IsSome}
use Rattle.std.specs.FinMap as maps
use Rattle.std.proofs.Math.Logic.{∥∥₁_map}
use Rattle.rpc_msg.specs.declared.offer.Offer.{Offer}
use Rattle.rpc_msg.specs.Offer.{form_of}
use Rattle.granted_calls.specs.Telling.{answer_told, TookTold}
use Rattle.nfs_model.specs.Tree.{Layout}
use Rattle.affinity.specs.declared.layout.Layout as layouts
use Rattle.nfs_model.specs.volume.lemmas.Numbered.{get-remove_at}
use Rattle.nfs_values.specs.declared.moment.Moment.{Moment}
use Rattle.filer_state.specs.state.Jobs as jobs
use Rattle.depot_rule.specs.History.{entries_of}
use Rattle.depot_rule.specs.Sums.{total}
use Rattle.depot_rule.specs.lemmas.Sums.{total-append}
use Rattle.slab.specs.Slab.{Slab, get, Updates, with_value}
use Rattle.slab.proofs.SlabLemmas.{Updates-with_value}
use Rattle.outboxes.specs.Boxes.{Addressed, addressed, Boxes, put, shut}
use Rattle.outboxes.specs.Messages.{ReplyMessage, message}
use Rattle.service.specs.declared.job.Job.{Job}
use Rattle.service.specs.declared.job.Job.TheVariants.{Serve, Inner}
use Rattle.turns.specs.Jobs.{job_of, job_reply_of}
use Rattle.turns.specs.Tends.{Answers, Tends, call_of, hand_in}
use Rattle.turns.specs.declared.tend.Tend.{Tend}
use Rattle.turns.specs.declared.tend.Tended.{Tended}
use Rattle.turns.specs.declared.tend.TendRefusal.{TendRefusal}
use Rattle.granted_calls.specs.Balance.{FilerEntry, Passed, Weight, by_entry, by_key}
use Rattle.granted_calls.specs.Chains.{puts, DidAll, EndsBy, HasPutAll, HasTurnedOn}
use Rattle.granted_calls.specs.Served.{HasDoneFrom, IsEntryOf, Standing, HasShareOf, job_of_message}
use Rattle.turns.specs.Words.{entries_in, passed, IsSameWorker}
use Rattle.granted_calls.specs.Messages.{Message}
use Rattle.granted_calls.specs.declared.shared_waiting.pass.Pass.{Pass}
use Rattle.granted_calls.specs.declared.chained.Chained.{Chained}
use Rattle.granted_calls.specs.declared.chained.Chained.TheVariants as chains
use Rattle.turns.specs.declared.worker.Worker.{Worker}
use Rattle.granted_calls.specs.shared_waiting.Passes.{known}
use Rattle.connections.specs.Incoming.{Incoming}
use Rattle.tcp_front.specs.declared.peer.Peer.{Peer}
use Rattle.tcp_front.specs.Peers.{sender_of}
use Rattle.connections.specs.declared.connection.Connection.{Connection}
use Rattle.connections.specs.declared.connection.Flags.{Flags}
use Rattle.lanes.specs.declared.intake.Intake.{Intake}
use Rattle.connections.specs.declared.reading.Came.{Came}
use Rattle.connections.specs.declared.writing.Sent.{Sent}
use Rattle.tcp_front.specs.declared.stream.Stream.{Stream}
use Rattle.connections.specs.Connections.{sender_at, due_of, flagged, number_of}
use Rattle.lanes.specs.Intakes.{HasTakenIn, has_room_in}
use Rattle.connections.specs.Keyed.{Closes, Flagged, HasBegun, Opens, WritesUnder}
use Rattle.lanes.specs.Lanes.{ReadsOn, ReadsUnder, owing_in}
use Rattle.lanes.specs.Queues.{HasBoth}
use Rattle.connections.specs.Reading.{HasRead, Reads}
use Rattle.lanes.specs.Story.{Served, answer_to, said_by, served_in, with_closed, with_served, Story}
use Rattle.connections.specs.Writing.{Writes}
use Rattle.connections.specs.lemmas.Reading.{reads-on, writes-kept}
use Rattle.connections.specs.lemmas.Writing.{written-takes, written-same, writes-on, reads-kept}
use Rattle.lanes.proofs.Lists.{entries-append}
use Rattle.lanes.proofs.Lived.{story-turns, story-ends, story-opens, story-reads, story-writes, story-shuts}

-- ---- both passes

whole-same : (a b c d a' b' c' d' : ℕ) → a' ≡ a → b' ≡ b → c' ≡ c → d' ≡ d → a * 2 ^ d + c * 2 ^ b ≡ 2 ^ (b + d) → a' * 2 ^ d' + c' * 2 ^ b' ≡ 2 ^ (b' + d')
whole-same a b c d a' b' c' d' p q r s h =
    (λ i. p i * 2 ^ s i + r i * 2 ^ q i) ∙ h ∙ sym (λ i. 2 ^ (q i + s i))

pub both-kept : (p p' : Pass Message layouts.Layout) (w w' : Worker) → HasShareOf (known p) (known p') → HasShareOf (passed w) (passed w')
    → HasBoth p w → HasBoth p' w'
both-kept p p' w w' h k b = (
  whole-same (known p).share (known p).halvings (passed w).share (passed w).halvings (known p').share (known p').halvings (passed w').share
      (passed w').halvings h.0 h.1 k.0 k.1 b.0,
  h.2 ∙ b.1 ∙ sym k.2,
)

pub same-share : (p p' : Pass Message layouts.Layout) → known p' ≡ known p → HasShareOf (known p) (known p')
same-share p p' e = (ap (λ (v : Passed). v.share) e, ap (λ (v : Passed). v.halvings) e, ap (λ (v : Passed). v.key) e)

abbrev get-of : Boxes → ℕ → Option (List ReplyMessage)
get-of boxes n = maps.get boxes.waiting n

-- ---- slabs

module _ {D : Type 0} where
  sets-at : (slab slab' : Slab (Connection D)) (key : ℕ) (c c' : Connection D) → get slab key ≡ Some c → slab' ≡ with_value slab key c'
      → (get slab' key ≡ Some c') × ((other : ℕ) → other ≢ key → get slab' other ≡ get slab other)
  sets-at slab slab' key c c' was is =
      let u = subst (λ (n : Slab (Connection D)). Updates slab n key (Some c')) (sym is)
      (Updates-with_value slab key c' (subst (λ (o : Option (Connection D)). IsSome o) (sym was) refl)) in
      (u.changed, u.others)

module _ {D : Type 0} (unread : D → Incoming) (written : D → Option (List ℕ)) (layout : Layout) (offer : Offer) (lane lanes : ℕ) (entries : List FilerEntry)
    (closed : List (Connection D)) where
  -- what a lane's type keeps
  abbrev pub Told : List Message → Boxes → Slab (Connection D) → Type 0
  Told messages boxes slab = ∥ Story unread written layout offer lane lanes entries messages boxes (get slab) closed ∥₁

  -- ---- reading

  module _ {R : Type 0} (c : Connection D) (sink sink' : Intake R) (size : ℕ) (result : Came) (between : Connection D)
      (h : HasRead unread written HasTakenIn has_room_in layout offer c (owing_in (due_of c) (form_of offer) sink) size result between sink') where
    read-number : number_of between ≡ number_of c
    read-number = ap (λ n. n.0) h.number

  read-told : {R : Type 0} (slab slab' : Slab (Connection D)) (key : ℕ) (o : Option (Connection D)) → get slab key ≡ o → (sink sink' : Intake R)
      (size : ℕ) (result : Came) → ReadsUnder unread written layout offer slab key o sink size result slab' sink'
      → Told (known sink.pass).put sink.outboxes slab → Told (known sink'.pass).put sink'.outboxes slab'
  read-told slab slab' key None is sink sink' size result (_, same, sink_same) t =
      subst (λ (s : Slab (Connection D)). Told (known sink'.pass).put sink'.outboxes s) (sym same)
      (subst (λ s. Told (known s.pass).put s.outboxes slab) (sym sink_same) t)
  read-told slab slab' key (Some c) is sink sink' size result (after, now, on) t =
      ∥∥₁_map t (λ s.
      let h = on.read in
      let number : number_of after ≡ number_of c = ap (λ (x : Connection D). number_of x) on.is ∙ read-number c sink sink' size result on.between h in
      let sender : sender_at after ≡ sender_at c = ap (λ (x : Connection D). sender_at x) on.is
      ∙ ap (λ (p : Peer). sender_of p) h.peer in
      let same : after.opened.value ≡ c.opened.value = ap (λ (x : Connection D). x.opened.value) on.is ∙ ap (λ x. x.value) h.same.2 in
      story-reads unread written layout offer lane lanes entries (known sink.pass).put sink.outboxes (get slab) closed s (get slab') key c after is
      (sets-at slab slab' key c after is now) number sender same (known sink'.pass).put h.heard sink'.outboxes h.given.put h.given.boxes_are
      (λ before r. subst (λ (x : Connection D). Reads offer unread c.opened.value x (before ++ h.heard)) (sym on.is)
      (reads-on unread written HasTakenIn has_room_in layout offer c (owing_in (due_of c) (form_of offer) sink) size result on.between sink' h
      c.opened.value before r))
      (λ waiting replies r. subst (λ (x : Connection D). Writes written c.opened.value x waiting replies) (sym on.is)
      (writes-kept unread written HasTakenIn has_room_in layout offer c (owing_in (due_of c) (form_of offer) sink) size result on.between sink' h
      c.opened.value waiting replies
      r)))

  pub reads-told : {R : Type 0} (layout' : Layout) (slab slab' : Slab (Connection D)) (key : ℕ) (sink sink' : Intake R)
      (size : ℕ) (result : Came) → layout' ≡ layout → ReadsUnder unread written layout' offer slab key (get slab key) sink size result slab' sink'
      → Told (known sink.pass).put sink.outboxes slab → Told (known sink'.pass).put sink'.outboxes slab'
  reads-told {R} layout' slab slab' key sink sink' size result same h t =
      read-told slab slab' key (get slab key) refl sink sink' size result
      (subst (λ (l : Layout). ReadsUnder unread written l offer slab key (get slab key) sink size result slab' sink') same h) t

  -- ---- writing

  write-told : (slab slab' : Slab (Connection D)) (key : ℕ) (o : Option (Connection D)) → get slab key ≡ o → (messages : List Message)
      (boxes boxes' : Boxes) (result : Sent) → WritesUnder unread written slab key o boxes result slab' boxes'
      → Told messages boxes slab → Told messages boxes' slab'
  write-told slab slab' key None is messages boxes boxes' result (_, same, boxes_same) t =
      subst (λ (s : Slab (Connection D)). Told messages boxes' s) (sym same)
      (subst (λ (b : Boxes). Told messages b slab) (sym boxes_same) t)
  write-told slab slab' key (Some c) is messages boxes boxes' result (after, now, h) t =
      ∥∥₁_map t (λ s.
      let kept = written-same unread written c boxes result after boxes' h in
      let takes = written-takes unread written c boxes result after boxes' h in
      story-writes unread written layout offer lane lanes entries messages boxes (get slab) closed s (get slab') key c after is (sets-at slab slab' key c after is now)
      (ap (λ (x : Stream). x.connection.0) kept.0) (ap (λ (x : Stream). sender_of x.peer) kept.0) (ap (λ x. x.value) kept.3)
      boxes' takes.1.next takes.1.step takes.1.others (reads-kept unread written c boxes result after boxes' h offer c.opened.value)
      (λ waiting replies e r. let w = writes-on unread written c boxes result after boxes' h c.opened.value waiting replies e r in (w.0, w.1.0, w.1.1)))

  pub writes-told : (slab slab' : Slab (Connection D)) (key : ℕ) (messages : List Message) (boxes boxes' : Boxes) (result : Sent)
      → WritesUnder unread written slab key (get slab key) boxes result slab' boxes' → Told messages boxes slab → Told messages boxes' slab'
  writes-told slab slab' key messages boxes boxes' result h t = write-told slab slab' key (get slab key) refl messages boxes boxes' result h t

  -- ---- flags

  flag-told : (slab slab' : Slab (Connection D)) (key : ℕ) (o : Option (Connection D)) → get slab key ≡ o → (messages : List Message)
      (boxes : Boxes) (flags : Flags) → Flagged slab key o flags slab' → Told messages boxes slab → Told messages boxes slab'
  flag-told slab slab' key None is messages boxes flags same t = subst (λ (s : Slab (Connection D)). Told messages boxes s) (sym same) t
  flag-told slab slab' key (Some c) is messages boxes flags now t =
      ∥∥₁_map t (λ s.
      story-writes unread written layout offer lane lanes entries messages boxes (get slab) closed s (get slab') key c (flagged flags c) is
      (sets-at slab slab' key c (flagged flags c) is now) refl refl refl boxes refl refl (λ other n. refl) (λ heard r. r)
      (λ waiting replies e r. (waiting, e, r)))

  pub flags-told : (slab slab' : Slab (Connection D)) (key : ℕ) (messages : List Message) (boxes : Boxes) (flags : Flags)
      → Flagged slab key (get slab key) flags slab' → Told messages boxes slab → Told messages boxes slab'
  flags-told slab slab' key messages boxes flags h t = flag-told slab slab' key (get slab key) refl messages boxes flags h t

  -- ---- opening and closing

  pub opens-told : (slab slab' : Slab (Connection D)) (device : D) (peer : Peer) (result : Result ℕ D) (messages : List Message) (boxes boxes' : Boxes)
      → Opens slab boxes device peer result slab' boxes' → IfOk result (λ key. get slab key ≡ None)
      → IfOk result (λ key. IfSome (get slab' key) (HasBegun unread written)) → Told messages boxes slab → Told messages boxes' slab'
  opens-told slab slab' device peer (Ok key) messages boxes boxes' (_, is, (c, updates, _, number, _)) vacant begins t =
      let begun : HasBegun unread written c = subst (λ (o : Option (Connection D)). IfSome o (HasBegun unread written)) updates.changed begins in
      subst (λ (b : Boxes). Told messages b slab') (sym is)
      (∥∥₁_map t (λ s. story-opens unread written layout offer lane lanes entries messages boxes (get slab) closed s (get slab') key c vacant
      (updates.changed, updates.others) number (begun.reads offer) begun.writes))
  opens-told slab slab' device peer (Err back) messages boxes boxes' (_, same, is) vacant begins t =
      subst (λ (b : Boxes). Told messages b slab') (sym is)
      (subst (λ (s : ℕ → Option (Connection D)). ∥ Story unread written layout offer lane lanes entries messages boxes s closed ∥₁)
      (λ i. λ key. sym (same key) i) t)

  closes-told : (slab slab' : Slab (Connection D)) (key : ℕ) (c : Connection D) (messages : List Message) (boxes boxes' : Boxes)
      → get slab key ≡ Some c → Updates slab slab' key None → boxes' ≡ shut (number_of c) boxes
      → Told messages boxes slab
      → ∥ Story unread written layout offer lane lanes entries messages boxes' (get slab') (closed ++ c ∷ []) ∥₁
  closes-told slab slab' key c messages boxes boxes' was updates is t =
      subst (λ (b : Boxes). ∥ Story unread written layout offer lane lanes entries messages b (get slab') (closed ++ c ∷ []) ∥₁) (sym is)
      (∥∥₁_map t (λ s. story-shuts unread written layout offer lane lanes entries messages boxes (get slab) closed s (get slab') key c was (
        updates.changed,
        updates.others,
      )
      (λ n d. get-remove_at boxes.waiting (number_of c) n ∙ ap (λ b. cond b None (get-of boxes n)) (ne_eqb n (number_of c) d))))

module _ {D : Type 0} (unread : D → Incoming) (written : D → Option (List ℕ)) (layout : Layout) (offer : Offer) (lane lanes : ℕ) (entries : List FilerEntry) where
  close-told : (slab slab' : Slab (Connection D)) (key : ℕ) (o : Option (Connection D)) → get slab key ≡ o → (messages : List Message)
      (boxes boxes' : Boxes) (closed : List (Connection D)) (device : Option D) → Closes slab key boxes o device slab' boxes'
      → ∥ Story unread written layout offer lane lanes entries messages boxes (get slab) closed ∥₁
      → ∥ Story unread written layout offer lane lanes entries messages boxes' (get slab') (with_closed o closed) ∥₁
  close-told slab slab' key None is messages boxes boxes' closed device (_, same, boxes_same) t =
      subst (λ (s : Slab (Connection D)). ∥ Story unread written layout offer lane lanes entries messages boxes' (get s) closed ∥₁) (sym same)
      (subst (λ (b : Boxes). ∥ Story unread written layout offer lane lanes entries messages b (get slab) closed ∥₁) (sym boxes_same) t)
  close-told slab slab' key (Some c) is messages boxes boxes' closed device (_, updates, boxes_is) t =
      closes-told unread written layout offer lane lanes entries closed slab slab' key c messages boxes boxes' is updates boxes_is t

  pub closed-told : (slab slab' : Slab (Connection D)) (key : ℕ) (messages : List Message) (boxes boxes' : Boxes) (closed : List (Connection D))
      (device : Option D) → Closes slab key boxes (get slab key) device slab' boxes'
      → ∥ Story unread written layout offer lane lanes entries messages boxes (get slab) closed ∥₁
      → ∥ Story unread written layout offer lane lanes entries messages boxes' (get slab') (with_closed (get slab key) closed) ∥₁
  closed-told slab slab' key messages boxes boxes' closed device h t =
      close-told slab slab' key (get slab key) refl messages boxes boxes' closed device h t

  -- one was open, and is the last that was closed
  pub closed-one : (slab slab' : Slab (Connection D)) (key : ℕ) (messages : List Message) (boxes boxes' : Boxes) (closed closed' : List (Connection D))
      (device : Option D) (c : Connection D) → Closes slab key boxes (get slab key) device slab' boxes' → Some c ≡ get slab key
      → closed' ≡ closed ++ c ∷ [] → ∥ Story unread written layout offer lane lanes entries messages boxes (get slab) closed ∥₁
      → ∥ Story unread written layout offer lane lanes entries messages boxes' (get slab') closed' ∥₁
  closed-one slab slab' key messages boxes boxes' closed closed' device c h was is t =
      subst (λ (l : List (Connection D)). ∥ Story unread written layout offer lane lanes entries messages boxes' (get slab') l ∥₁)
      (ap (λ (o : Option (Connection D)). with_closed o closed) (sym was) ∙ sym is)
      (closed-told slab slab' key messages boxes boxes' closed device h t)

-- ---- turns

-- a pass by which nothing was put
pub put-kept : {D : Type 0} (unread : D → Incoming) (written : D → Option (List ℕ)) (layout : Layout) (offer : Offer) (lane lanes : ℕ) (entries : List FilerEntry)
    (boxes : Boxes)
    (slots : ℕ → Option (Connection D)) (closed : List (Connection D)) (p p' : Pass Message layouts.Layout) → known p' ≡ known p
    → ∥ Story unread written layout offer lane lanes entries (known p).put boxes slots closed ∥₁
    → ∥ Story unread written layout offer lane lanes entries (known p').put boxes slots closed ∥₁
put-kept unread written layout offer lane lanes entries boxes slots closed p p' e t =
    subst (λ (v : Passed). ∥ Story unread written layout offer lane lanes entries v.put boxes slots closed ∥₁) (sym e) t

-- how often a call is finished, at most as often as it was put
abbrev Once : List Message → List FilerEntry → Type 0
Once messages entries = (h : Weight) → total (by_entry h) entries ≤ total (by_key h) messages

once-before : (messages : List Message) (entries more : List FilerEntry) → Once messages (entries ++ more) → Once messages entries
once-before messages entries more once h =
    let a = once h in let b = total-append (by_entry h) entries more in omega (arith, a, b)

module _ {D : Type 0} (unread : D → Incoming) (written : D → Option (List ℕ)) (layout : Layout) (offer : Offer) (lane lanes : ℕ) where
  replied : (m : Message) (moment : Moment) (a : Addressed) (e : FilerEntry) → IsEntryOf m moment a e → said_by (Served e) ≡ Some a
  replied m moment a e i =
      ap (λ (j : Job). answer_to j (job_reply_of e.reply)) i.call ∙ ap (λ r. answer_to (job_of_message m moment i.starved) r) i.reply
      ∙ ap (λ n. Some (addressed n (message m.origin.xid a.message.reply))) (sym i.connection)
      ∙ ap (λ n. Some (addressed a.connection (message n a.message.reply))) (sym i.xid)

  served-one : (m : Message) (moment : Moment) (a : Addressed) (e : FilerEntry) → IsEntryOf m moment a e → served_in (e ∷ []) ≡ e ∷ []
  served-one m moment a e i = ap (λ (j : Job). with_served e j []) i.call

  module _ (messages : List Message) (slots : ℕ → Option (Connection D)) (closed : List (Connection D)) (moment : Moment) where
    abbrev Known : Standing → Boxes → Type 0
    Known s boxes = ∥ Story unread written layout offer lane lanes (entries_of s.view) messages boxes slots closed ∥₁

    same-told : (s t : Standing) (boxes : Boxes) → entries_of t.view ≡ entries_of s.view → Known s boxes → Known t boxes
    same-told s t boxes e k =
        subst (λ (es : List FilerEntry). ∥ Story unread written layout offer lane lanes es messages boxes slots closed ∥₁) (sym e) k

    done-told : (s t : Standing) (boxes : Boxes) (a : Addressed) → HasDoneFrom s moment a t → Once messages (entries_of t.view)
        → Known s boxes → Known t (put (answer_told (form_of offer) a) boxes)
    done-told s t boxes a d once k =
        let f = d.finished in
        subst (λ (es : List FilerEntry). ∥ Story unread written layout offer lane lanes es messages (put (answer_told (form_of offer) a) boxes) slots closed ∥₁)
        (sym f.entries)
        (∥∥₁_map k (λ y. story-ends unread written layout offer lane lanes (entries_of s.view) messages boxes slots closed y f.entry a
        (replied d.message f.moment a f.entry f.is) (served-one d.message f.moment a f.entry f.is) (subst (Once messages) f.entries once)))

    -- what was finished before is among what is finished
    once-all : (s : Standing) (answers : List Addressed) (t : Standing) → DidAll moment s answers t → Once messages (entries_of t.view)
        → Once messages (entries_of s.view)
    once-all s [] t same once = subst (λ (x : Standing). Once messages (entries_of x.view)) same once
    once-all s (a ∷ rest) t (mid, done, more) once =
        let f = done.finished in
        once-before messages (entries_of s.view) (f.entry ∷ []) (subst (Once messages) f.entries (once-all mid rest t more once))

    all-told : (s : Standing) (answers : List Addressed) (t : Standing) (boxes : Boxes) → DidAll moment s answers t
        → Once messages (entries_of t.view) → Known s boxes → Known t (puts (map (answer_told (form_of offer)) answers) boxes)
    all-told s [] t boxes same once k = subst (λ (x : Standing). Known x boxes) (sym same) k
    all-told s (a ∷ rest) t boxes (mid, done, more) once k =
        all-told mid rest t (put (answer_told (form_of offer) a) boxes) more once (done-told s mid boxes a done (once-all mid rest t more once) k)

    ends-same : (between : Standing) (chained : Chained) (after : Standing) → EndsBy layout between moment chained after
        → entries_of after.view ≡ entries_of between.view
    ends-same between chains.Done after (_, view, _) = ap entries_of view
    ends-same between chains.Moved after (m, m', _, r) = r.entries
    ends-same between (chains.Busy at word) after (m, r, _) = r.entries
    ends-same between chains.Worn after (m, r, _) = r.entries
    ends-same between chains.Idle after d = ap entries_of d.view

    pub turns-told : (s : Standing) (boxes boxes' : Boxes) (chained : Chained) (t : Standing)
        → HasTurnedOn (TookTold (form_of offer) HasPutAll) layout s moment boxes chained boxes' t → Once messages (entries_of t.view)
        → Known s boxes → Known t boxes'
    turns-told s boxes boxes' chained t h once k =
        let same = ends-same h.between chained t h.ends in
        subst (λ (b : Boxes). Known t b) (sym h.told)
        (same-told h.between t (puts (map (answer_told (form_of offer)) h.answers) boxes) same
        (all-told s h.answers h.between boxes h.did (subst (Once messages) same once) k))

-- ---- tends

inner-none : (e : FilerEntry) (job : Job) (call : jobs.InnerCall) → job_of job ≡ jobs.Inner call → with_served e job [] ≡ []
inner-none e (Serve served) call h = let no : ⊥ = cc in absurd no
inner-none e (Inner inner) call h = refl

module _ {D : Type 0} (unread : D → Incoming) (written : D → Option (List ℕ)) (layout : Layout) (offer : Offer) (lane lanes : ℕ)
    (messages : List Message) (boxes : Boxes) (slots : ℕ → Option (Connection D)) (closed : List (Connection D)) (before after : Worker) where
  tended-told : (entries entries' : List FilerEntry) → served_in entries' ≡ served_in entries
      → ∥ Story unread written layout offer lane lanes entries messages boxes slots closed ∥₁
      → ∥ Story unread written layout offer lane lanes entries' messages boxes slots closed ∥₁
  tended-told entries entries' e t = ∥∥₁_map t (λ s. story-turns unread written layout offer lane lanes entries messages boxes slots closed s entries' e)

  answers-told : (inner : Result jobs.InnerCall TendRefusal) (answer : Result Tended TendRefusal) → Answers layout before inner answer after
      → served_in (entries_in after) ≡ served_in (entries_in before)
  answers-told (Ok call) (Ok tended) h =
      let k = h.carries in
      ap served_in k.entries ∙ entries-append (entries_in before) (k.entry ∷ [])
      ∙ ap (λ (l : List FilerEntry). served_in (entries_in before) ++ l) (inner-none k.entry k.entry.call call k.is_call)
      ∙ append-nil (served_in (entries_in before))
  answers-told (Ok call) (Err refusal) h = ap served_in h.0
  answers-told (Err why) answer h = ap (λ v. served_in (entries_of v)) h.1

  pub tends-told : (tend : Tend) (answer : Result Tended TendRefusal) → Tends layout before tend answer after
      → ∥ Story unread written layout offer lane lanes (entries_in before) messages boxes slots closed ∥₁
      → ∥ Story unread written layout offer lane lanes (entries_in after) messages boxes slots closed ∥₁
  tends-told tend answer h t =
      tended-told (entries_in before) (entries_in after) (answers-told (call_of layout tend (hand_in before)) answer h) t

-- ---- under a key

module _ {D R : Type 0} (unread : D → Incoming) (written : D → Option (List ℕ)) (layout : Layout) (offer : Offer) where
  pub read-owing : (c : Connection D) (start sink sink' : Intake R) (size : ℕ) (result : Came) (between : Connection D)
      → start ≡ owing_in (due_of c) (form_of offer) sink
      → HasRead unread written HasTakenIn has_room_in layout offer c start size result between sink'
      → HasRead unread written HasTakenIn has_room_in layout offer c (owing_in (due_of c) (form_of offer) sink) size result between sink'
  read-owing c start sink sink' size result between e h =
      subst (λ (s : Intake R). HasRead unread written HasTakenIn has_room_in layout offer c s size result between sink') e h

  pub reads-under : (slab slab' : Slab (Connection D)) (key : ℕ) (o : Option (Connection D)) (before after : Connection D) (sink sink' : Intake R)
      (size : ℕ) (result : Came) → Some before ≡ o → slab' ≡ with_value slab key after
      → ReadsOn unread written layout offer before sink size result after sink' → ReadsUnder unread written layout offer slab key o sink size result slab' sink'
  reads-under slab slab' key o before after sink sink' size result is now on =
      subst (λ (x : Option (Connection D)). ReadsUnder unread written layout offer slab key x sink size result slab' sink') is (after, now, on)

  keep-under : (slab slab' : Slab (Connection D)) (key : ℕ) (o : Option (Connection D)) (sink sink' : Intake R) (size : ℕ) (result : Came)
      → ReadsUnder unread written layout offer slab key o sink size result slab' sink'
      → (sink'.filer.value ≡ sink.filer.value) × (sink'.queue ≡ sink.queue) × ((known sink'.pass).picked ≡ (known sink.pass).picked)
      × HasShareOf (known sink.pass) (known sink'.pass) × IsSameWorker sink.worker sink'.worker × (sink'.most ≡ sink.most)
  keep-under slab slab' key None sink sink' size result h = (
    ap (λ (s : Intake R). s.filer.value) h.2,
    ap (λ (s : Intake R). s.queue) h.2,
    ap (λ (s : Intake R). (known s.pass).picked) h.2,
    (
      ap (λ (s : Intake R). (known s.pass).share) h.2,
      ap (λ (s : Intake R). (known s.pass).halvings) h.2,
      ap (λ (s : Intake R). (known s.pass).key) h.2,
    ),
    record {
      seat = ap (λ (s : Intake R). s.worker.seat) h.2;
      pass = ap (λ (s : Intake R). passed s.worker) h.2;
      hand = ap (λ (s : Intake R). s.worker.hand) h.2;
      kept = ap (λ (s : Intake R). s.worker.kept) h.2;
    },
    ap (λ (s : Intake R). s.most) h.2,
  )
  keep-under slab slab' key (Some c) sink sink' size result (after, now, on) =
      let k = on.read.given in (k.filer_is, k.queue_is, k.picked, k.share, k.same, k.most_is)

  pub reads-keep : (slab slab' : Slab (Connection D)) (key : ℕ) (sink sink' : Intake R) (size : ℕ) (result : Came)
      → ReadsUnder unread written layout offer slab key (get slab key) sink size result slab' sink'
      → (sink'.filer.value ≡ sink.filer.value) × (sink'.queue ≡ sink.queue) × ((known sink'.pass).picked ≡ (known sink.pass).picked)
      × HasShareOf (known sink.pass) (known sink'.pass) × IsSameWorker sink.worker sink'.worker × (sink'.most ≡ sink.most)
  reads-keep slab slab' key sink sink' size result h = keep-under slab slab' key (get slab key) sink sink' size result h
