-- Turns one after the other: what they come to, and what a worker keeps by them.
use Rattle.std.proofs.Common.{◌≡◌, ◌<◌, ℕ, true, false, List, [], ◌∷◌, ◌++◌, length, length-append, Option, Some, None, inl, inr, ⊎_elim}
use Rattle.std.proofs.Common.{refl, sym, ap, ◌∙◌, subst, arith}
use Rattle.std.specs.Prelude.{IfSome}
use Rattle.crossbeam_queue.specs.Fifo.{Held}
use Rattle.nfs_model.specs.Parts.{Hand}
use Rattle.nfs_model.specs.Tree.{Layout}
use Rattle.nfs_values.specs.Reply.{reply_of}
use Rattle.nfs_values.specs.declared.moment.Moment.{Moment}
use Rattle.nfs_values.specs.declared.reply.Reply.{Reply}
use Rattle.affinity.specs.Affinity.{call_affinity, call_node}
use Rattle.affinity.specs.Fault.{fault_of}
use Rattle.affinity.specs.Numbers.{number_of, parents}
use Rattle.parcels.specs.Exact.{kind_in}
use Rattle.depot_rule.specs.History.{AreHands, entries_of}
use Rattle.depot.specs.Grants.{entry_of, IsEnded, IsRefused}
use Rattle.depot.specs.declared.grants.GrantRefusal.{GrantRefusal}
use Rattle.depot.specs.declared.grants.GrantRefusal.TheVariants as refusals
use Rattle.desk.specs.laws.Backing.{CanPutBack, IsGranted}
use Rattle.outboxes.specs.Boxes.{Addressed, addressed}
use Rattle.outboxes.specs.Messages as replies
use Rattle.filer_state.specs.state.Jobs as jobs
use Rattle.filer_state.specs.state.Jobs.{takes, gives}
use Rattle.service.specs.Jobs.{job_of, job_takes, job_gives}
use Rattle.service.specs.declared.job.JobReply.TheVariants.{Replied}
use Rattle.service.specs.declared.outcome.Outcome.TheVariants as outcomes
use Rattle.granted_calls.specs.declared.chained.Chained.{Chained}
use Rattle.granted_calls.specs.declared.chained.Chained.TheVariants as chains
use Rattle.granted_calls.specs.declared.linking.Tried.{Tried}
use Rattle.granted_calls.specs.declared.linking.Tried.TheVariants as tries
use Rattle.granted_calls.specs.declared.linking.Link.TheVariants as links
use Rattle.granted_calls.specs.Balance.{Passed, FilerView, FilerEntry, Weight, by_key, IsEven}
use Rattle.granted_calls.specs.Messages.{IsPlaced, readdressed, Message}
use Rattle.granted_calls.specs.Chains.{DidAll, IsAhead, HasTurnedOn, IsPicked, IsLeft, HasServedOn, HasTriedAll, left_standing}
use Rattle.granted_calls.specs.Chains.{chained_by, each_done}
use Rattle.granted_calls.specs.Links.{chained_so, kept_of, CanEnd, HasChained, HasEnded, HasGoneSo, HasLinked, HasRunSo}
use Rattle.granted_calls.specs.Links.{job_in, Stands}
use Rattle.granted_calls.specs.Runs.{FilerLent}
use Rattle.granted_calls.specs.Served.{filer_behaviour, HasNext, WaitsAgain, HasMoved, HasReturnedFrom, Standing, HasDoneFrom, HasPut}
use Rattle.granted_calls.specs.Filers.{IsReady}
use Rattle.granted_calls.specs.shared_waiting.Balance.{Leaves}
use Rattle.granted_calls.proofs.Replayed.{RoomyBegins, RoomyStays, RepliesFit}
use Rattle.granted_calls.proofs.Finished.{may-go-back, moves-on, back-entries, back-ready, refused-entries}
use Rattle.granted_calls.proofs.Linked.{unread, can-read, holding-tree, ran-on, may-enter, has-room, is-ready, is-done}
use Rattle.granted_calls.proofs.Balancing.{finishes, hand-stays, keeps, picks}

-- ---- turns one after the other

did-snoc : (moment : Moment) (s t u : Standing) (answers : List Addressed) (a : Addressed) → DidAll moment s answers t → HasDoneFrom t moment a u
    → DidAll moment s (answers ++ a ∷ []) u
did-snoc moment s t u [] a did done = (u, subst (λ (x : Standing). HasDoneFrom x moment a u) did done, refl)
did-snoc moment s t u (b ∷ rest) a did done = (did.0, did.1, did-snoc moment did.0 t u rest a did.2 done)

-- there is one
some-answer : (answers : List Addressed) (a : Addressed) → 0 < length (answers ++ a ∷ [])
some-answer answers a = let more = length-append answers (a ∷ []) in omega (arith, more)

-- the seat's entries, balanced by a pass and what is kept
abbrev Even : Standing → Type 0
Even s = IsEven s.pass (entries_of s.view) s.kept

done-even : (s t : Standing) (moment : Moment) (a : Addressed) → HasDoneFrom s moment a t → Even s → Even t
done-even s t moment a done even =
    let kept : IsEven t.pass (entries_of s.view) (Some done.message) =
    picks s.pass t.pass s.kept (Some done.message) (entries_of s.view) even done.next done.put in
    subst (λ (k : Option Message). IsEven t.pass (entries_of t.view) k) (sym done.kept)
    (finishes t.pass done.message done.finished.moment a done.finished.entry (entries_of s.view) (entries_of t.view) kept done.finished.entries done.finished.is)

all-even : (moment : Moment) (s t : Standing) (answers : List Addressed) → DidAll moment s answers t → Even s → Even t
all-even moment s t [] did even = subst Even (sym did) even
all-even moment s t (a ∷ rest) did even = all-even moment did.0 t rest did.2 (done-even s did.0 moment a did.1 even)

-- the seat's hand
abbrev HasHand : List Hand → Standing → Type 0
HasHand hand s = AreHands job_takes job_gives (entries_of s.view) hand

done-hand : (hand : List Hand) (s t : Standing) (moment : Moment) (a : Addressed) → HasDoneFrom s moment a t → HasHand hand s → HasHand hand t
done-hand hand s t moment a done own =
    let f = done.finished in
    hand-stays (entries_of s.view) (entries_of t.view) f.entry hand (ap (λ (r : jobs.JobReply). takes (job_of f.entry.call) r) f.is.reply)
    (ap (λ (r : jobs.JobReply). gives (job_of f.entry.call) r) f.is.reply) f.entries own

all-hand : (hand : List Hand) (moment : Moment) (s t : Standing) (answers : List Addressed) → DidAll moment s answers t → HasHand hand s → HasHand hand t
all-hand hand moment s t [] did own = subst (HasHand hand) (sym did) own
all-hand hand moment s t (a ∷ rest) did own = all-hand hand moment did.0 t rest did.2 (done-hand hand s did.0 moment a did.1 own)

-- a message of the record that was picked is kept
tried-even : (b t : Standing) (m m' : Message) → IsPicked b b.view t.pass m → t.kept ≡ Some m' → ((h : Weight) → by_key h m' ≡ by_key h m)
    → entries_of t.view ≡ entries_of b.view → Even b → Even t
tried-even b t m m' picked kept weighs same even =
    subst (λ (k : Option Message). IsEven t.pass (entries_of t.view) k) (sym kept)
    (keeps t.pass m m' (entries_of b.view) (entries_of t.view) weighs same
    (picks b.pass t.pass b.kept (Some m) (entries_of b.view) even picked.next picked.put))

ahead-even : (b t : Standing) (kept : Option Message) → t.kept ≡ kept → b.kept ≡ None → t.view ≡ b.view → IsAhead b.pass t.pass kept → Even b → Even t
ahead-even b t None is none view ahead even =
    subst (λ (k : Option Message). IsEven t.pass (entries_of t.view) k) (sym is)
    (subst (λ (p : Passed). IsEven p (entries_of t.view) None) (sym ahead)
    (subst (λ (v : FilerView). IsEven b.pass (entries_of v) None) (sym view)
    (subst (λ (k : Option Message). IsEven b.pass (entries_of b.view) k) none even)))
ahead-even b t (Some m) is none view ahead even =
    subst (λ (k : Option Message). IsEven t.pass (entries_of t.view) k) (sym is)
    (subst (λ (v : FilerView). IsEven t.pass (entries_of v) (Some m)) (sym view)
    (picks b.pass t.pass b.kept (Some m) (entries_of b.view) even (inr (none, ahead.0)) ahead.1))

module _ (layout : Layout) (b t : Standing) (moment : Moment) where
  left-even : (chained : Chained) → IsLeft layout b moment chained t → Even b → Even t
  left-even chains.Done left even = ahead-even b t t.kept refl left.0 left.1 left.2 even
  left-even chains.Moved left even =
      tried-even b t left.0 left.1 left.2 left.3 (λ h. ap (by_key h) left.4.message) left.5 even
  left-even (chains.Busy at word) left even = tried-even b t left.0 left.0 left.1 left.2 (λ h. refl) left.4 even
  left-even chains.Worn left even = tried-even b t left.0 left.0 left.1 left.2 (λ h. refl) left.4 even
  left-even chains.Idle left even = absurd left

  left-entries : (chained : Chained) → IsLeft layout b moment chained t → entries_of t.view ≡ entries_of b.view
  left-entries chains.Done left = ap (λ (x : FilerView). entries_of x) left.1
  left-entries chains.Moved left = left.5
  left-entries (chains.Busy at word) left = left.4
  left-entries chains.Worn left = left.4
  left-entries chains.Idle left = absurd left

module _ {S : Type 0} (took : S → List Addressed → S → Type 0) (layout : Layout) (s t : Standing) (moment : Moment) (sink : S)
    (chained : Chained) (sink' : S) (served : HasServedOn took layout s moment sink chained sink' t) where
  pub served-even : Even s → Even t
  served-even even =
      left-even layout served.between t moment chained served.left (all-even moment s served.between served.answers served.did even)

  pub served-hand : (hand : List Hand) → HasHand hand s → HasHand hand t
  served-hand hand own =
      subst (λ (es : List FilerEntry). AreHands job_takes job_gives es hand) (sym (left-entries layout served.between t moment chained served.left))
      (all-hand hand moment s served.between served.answers served.did own)

-- ---- under one grant

module _ {S : Type 0} (took : S → List Addressed → S → Type 0)
    (took_more : (s t u : S) (xs ys : List Addressed) → took s xs t → took t ys u → took s (xs ++ ys) u)
    (layout : Layout) (verifier : List ℕ) (s : Standing) (moment : Moment) where
  module _ (sink sink1 sink2 : S) (m : Message) (pass pass' : Passed) (l l' : FilerLent) (w w' : FilerView)
      (gone : HasGoneSo took layout verifier s moment sink m pass l w sink1) where
    pub goes-on : (next : Message) (said : Reply)
        → HasLinked took layout verifier gone.between m moment pass l w sink1 (links.On next) said pass' l' w' sink2
        → HasGoneSo took layout verifier s moment sink next pass' l' w' sink2
    goes-on next said h = record {
      answers = gone.answers ++ h.0 ∷ [];
      between = h.1;
      did = did-snoc moment s gone.between h.1 gone.answers h.0 gone.did h.2;
      told = took_more sink sink1 sink2 gone.answers (h.0 ∷ []) gone.told h.3;
      stands = h.4;
    }

    pub stops : (tried : Tried) (said : Reply)
        → HasLinked took layout verifier gone.between m moment pass l w sink1 (links.Over tried) said pass' l' w' sink2
        → HasChained took layout verifier s moment sink tried said pass' l' w' sink2
    stops tried said h = record {
      answers = gone.answers;
      between = gone.between;
      did = gone.did;
      told = subst (λ (x : S). took sink gone.answers x) (sym h.0) gone.told;
      over = h.1;
    }

  -- the last one is run
  pub lasts : (sink sink1 : S) (m : Message) (placed : IsPlaced layout m) (pass : Passed) (l l' : FilerLent) (w : FilerView)
      (gone : HasGoneSo took layout verifier s moment sink m pass l w sink1) (tried : Tried) (said : Reply)
      → HasRunSo layout m moment l tried said l' → HasChained took layout verifier s moment sink tried said pass l' w sink1
  lasts sink sink1 m placed pass l l' w gone (tries.Moved back to) said ran = record {
    answers = gone.answers;
    between = gone.between;
    did = gone.did;
    told = gone.told;
    over = record {
      message = m;
      placed = placed;
      pass = pass;
      before = l;
      holding = w;
      stands = gone.stands;
      ran = ran;
      stayed = refl;
      ahead = refl;
    };
  }
  lasts sink sink1 m placed pass l l' w gone (tries.Entered e next) said ran = record {
    answers = gone.answers;
    between = gone.between;
    did = gone.did;
    told = gone.told;
    over = record {
      message = m;
      placed = placed;
      pass = pass;
      before = l;
      holding = w;
      stands = gone.stands;
      ran = ran.1;
      stayed = (w.looked, [], refl);
      ahead = subst (λ (k : Option Message). IsAhead pass pass k) (sym ran.0) refl;
    };
  }

  pub last-placed : (m : Message) (l l' : FilerLent) (tried : Tried) (said : Reply) → HasRunSo layout m moment l tried said l'
      → IfSome (kept_of tried) (IsPlaced layout)
  last-placed m l l' (tries.Moved back to) said ran = tt
  last-placed m l l' (tries.Entered e next) said ran = subst (λ (k : Option Message). IfSome k (IsPlaced layout)) (sym ran.0) tt

  -- ---- the end of the grant

  module _ (lawful : fault_of layout ≡ None) (sink sink1 sink2 : S) (said : Reply) (pass' : Passed) (l' : FilerLent)
      (w' : FilerView) where
    pub can-end : (tried : Tried) → length verifier ≡ 8 → RoomyBegins → RoomyStays → RepliesFit
        → HasChained took layout verifier s moment sink tried said pass' l' w' sink1 → CanEnd layout w' l' tried said
    can-end (tries.Moved back to) eight begins stays fit h =
        let o = h.over in
        let tree = holding-tree layout lawful verifier h.between o.message o.placed o.ran.1 o.pass o.before o.holding o.stands in
        let run = ran-on layout lawful verifier h.between o.message o.placed o.ran.1 o.pass o.before o.holding o.stands (outcomes.Moved to) l' o.ran.3 in
        subst (λ (x : FilerView). CanPutBack layout x l') (sym o.stayed)
        (may-go-back layout lawful o.message o.placed o.ran.1 h.between.view o.holding o.stands.tree tree (outcomes.Moved to) l' run to refl)
    can-end (tries.Entered e next) eight begins stays fit h =
        let o = h.over in (
          can-read layout o.holding w' l' (job_in e) (Replied said) o.stayed
              (may-enter layout lawful verifier h.between o.message o.placed moment o.pass o.before o.holding o.stands e said l' o.ran),
          has-room layout lawful verifier h.between o.message o.placed moment o.pass o.before o.holding o.stands e said l' o.ran eight begins stays fit,
        )

    module _ (u : FilerView) (kept : Option Message) where
      pub end-ready : (tried : Tried) → HasChained took layout verifier s moment sink tried said pass' l' w' sink1
          → HasEnded took layout w' l' tried said sink1 u kept sink2 → IsReady layout verifier u
      end-ready (tries.Moved back to) h ended =
          let o = h.over in
          let tree = holding-tree layout lawful verifier h.between o.message o.placed o.ran.1 o.pass o.before o.holding o.stands in
          let run = ran-on layout lawful verifier h.between o.message o.placed o.ran.1 o.pass o.before o.holding o.stands (outcomes.Moved to) l' o.ran.3 in
          back-ready layout lawful o.message o.placed o.ran.1 h.between.view o.holding o.stands.tree tree (outcomes.Moved to) l' run to refl u
          (subst (λ (x : FilerView). IsEnded x (number_of layout l'.affinity) u) o.stayed ended.0) verifier o.stands.ready
      end-ready (tries.Entered e next) h ended =
          let o = h.over in
          let ready = is-ready layout lawful verifier h.between o.message o.placed moment o.pass o.before o.holding o.stands e said l' o.ran
          (record u { looked = o.holding.looked }) (unread o.holding w' u (number_of layout l'.affinity)
          (entry_of layout l'.affinity l'.parcels (job_in e) (Replied said)) o.stayed ended.0) in
          record { opened = ready.opened; none_open = ready.none_open }

      pub end-placed : (tried : Tried) → HasChained took layout verifier s moment sink tried said pass' l' w' sink1
          → HasEnded took layout w' l' tried said sink1 u kept sink2 → IfSome (kept_of tried) (IsPlaced layout) → IfSome kept (IsPlaced layout)
      end-placed (tries.Moved back to) h ended placed =
          let o = h.over in
          let tree = holding-tree layout lawful verifier h.between o.message o.placed o.ran.1 o.pass o.before o.holding o.stands in
          let run = ran-on layout lawful verifier h.between o.message o.placed o.ran.1 o.pass o.before o.holding o.stands (outcomes.Moved to) l' o.ran.3 in
          let moved = moves-on layout lawful o.message o.placed o.ran.1 h.between.view o.holding o.stands.tree tree (outcomes.Moved to) l' run to refl u
          (subst (λ (x : FilerView). IsEnded x (number_of layout l'.affinity) u) o.stayed ended.0) moment o.ran.2 (readdressed to o.message) refl in
          subst (λ (k : Option Message). IfSome k (IsPlaced layout)) (sym (ended.1 ∙ ap (λ (x : Message). Some (readdressed to x)) o.ran.0)) moved.placed
      end-placed (tries.Entered e next) h ended placed =
          subst (λ (k : Option Message). IfSome k (IsPlaced layout)) (sym ended.1) placed

      pub end-served : (tried : Tried) → HasChained took layout verifier s moment sink tried said pass' l' w' sink1
          → HasEnded took layout w' l' tried said sink1 u kept sink2
          → HasServedOn took layout s moment sink (chained_so tried) sink2 (left_standing u pass' kept)
      end-served (tries.Moved back to) h ended =
          let o = h.over in
          let tree = holding-tree layout lawful verifier h.between o.message o.placed o.ran.1 o.pass o.before o.holding o.stands in
          let run = ran-on layout lawful verifier h.between o.message o.placed o.ran.1 o.pass o.before o.holding o.stands (outcomes.Moved to) l' o.ran.3 in
          let back_at = subst (λ (x : FilerView). IsEnded x (number_of layout l'.affinity) u) o.stayed ended.0 in
          record {
            answers = h.answers;
            between = h.between;
            did = h.did;
            told = subst (λ (x : S). took sink h.answers x) (sym ended.2) h.told;
            left = (
              o.message,
              readdressed to o.message,
              subst (λ (p : Passed). IsPicked h.between h.between.view p o.message) (sym o.ahead) o.stands.picked,
              ended.1 ∙ ap (λ (x : Message). Some (readdressed to x)) o.ran.0,
              moves-on layout lawful o.message o.placed o.ran.1 h.between.view o.holding o.stands.tree tree (outcomes.Moved to) l' run to refl u back_at
                  moment o.ran.2 (readdressed to o.message) refl,
              back-entries layout lawful o.message o.placed o.ran.1 h.between.view o.holding o.stands.tree tree (outcomes.Moved to) l' run to refl u
                  back_at,
            );
            suits = tt;
          }
      end-served (tries.Entered e next) h ended =
          let o = h.over in
          let a = addressed e.origin.connection.0 (replies.message e.origin.xid (reply_of said)) in
          let u0 : FilerView = record u { looked = o.holding.looked } in
          let done = is-done layout lawful verifier h.between o.message o.placed moment o.pass o.before o.holding o.stands e said l' o.ran u0
          (unread o.holding w' u (number_of layout l'.affinity) (entry_of layout l'.affinity l'.parcels (job_in e) (Replied said)) o.stayed ended.0) a refl in
          let did : HasDoneFrom h.between moment a (left_standing u o.pass None) = record {
            message = done.message;
            next = done.next;
            put = done.put;
            kept = refl;
            finished = record {
              moment = done.finished.moment;
              at = done.finished.at;
              entry = done.finished.entry;
              is = done.finished.is;
              entries = done.finished.entries;
              between = done.finished.between;
              added = done.finished.added;
              tree = done.finished.tree;
              first = done.finished.first;
              seen = done.finished.seen;
            };
          } in
          record {
            answers = h.answers ++ a ∷ [];
            between = left_standing u o.pass None;
            did = did-snoc moment s h.between (left_standing u o.pass None) h.answers a h.did did;
            told = took_more sink sink1 sink2 h.answers (a ∷ []) h.told ended.2;
            left = (refl, refl, subst (λ (k : Option Message). IsAhead o.pass pass' k) (sym ended.1) o.ahead);
            suits = some-answer h.answers a;
          }

-- ---- at the begin

-- who picked a message and was granted what it tries
pub begins : {S : Type 0} (took : S → List Addressed → S → Type 0) (took_none : (s : S) → took s [] s) (layout : Layout) (verifier : List ℕ)
    (s : Standing) (moment : Moment) (sink : S) (m : Message) (pass : Passed) (l : FilerLent) (w : FilerView)
    → Stands layout verifier s m pass l w → HasGoneSo took layout verifier s moment sink m pass l w sink
begins took took_none layout verifier s moment sink m pass l w stands =
    record { answers = []; between = s; did = refl; told = took_none sink; stands = stands }

module _ (layout : Layout) (verifier : List ℕ) (s : Standing) (m : Message) (v : FilerView) (pass : Passed) (picked : IsPicked s v pass m)
    (ready : IsReady layout verifier v) where
  pub stands-first : (l : FilerLent) (w : FilerView) → v.tree ≡ parents layout → IsGranted kind_in filer_behaviour layout v (call_node m.affinity) l w
      → Stands layout verifier s m pass l w
  stands-first l w tree granted = record {
    ready = subst (λ (x : FilerView). IsReady layout verifier x) picked.view ready;
    tree = sym (ap (λ (x : FilerView). x.tree) picked.view) ∙ tree;
    granted = subst (λ (x : FilerView). IsGranted kind_in filer_behaviour layout x (call_node m.affinity) l w) picked.view granted;
    picked = record { view = refl; next = picked.next; put = picked.put };
  }

  -- it was refused
  pub refused-served : {S : Type 0} (took : S → List Addressed → S → Type 0) (took_none : (x : S) → took x [] x) (moment : Moment) (sink : S)
      (w : FilerView) (refusal : GrantRefusal) → IsRefused layout v (call_affinity m.affinity) refusal w
      → HasServedOn took layout s moment sink (chained_by refusal) sink (left_standing w pass (Some m))
  refused-served took took_none moment sink w (refusals.Busy at word) refused = record {
    answers = [];
    between = s;
    did = refl;
    told = took_none sink;
    left = (
      m,
      record { view = refl; next = picked.next; put = picked.put },
      refl,
      subst (λ (x : FilerView). IsRefused layout x (call_affinity m.affinity) (refusals.Busy at word) w) picked.view refused,
      refused-entries layout v w (call_affinity m.affinity) (refusals.Busy at word) refused ∙ ap (λ (x : FilerView). entries_of x) picked.view,
    );
    suits = (refl, refl);
  }
  refused-served took took_none moment sink w refusals.Worn refused = record {
    answers = [];
    between = s;
    did = refl;
    told = took_none sink;
    left = (
      m,
      record { view = refl; next = picked.next; put = picked.put },
      refl,
      subst (λ (x : FilerView). IsRefused layout x (call_affinity m.affinity) refusals.Worn w) picked.view refused,
      refused-entries layout v w (call_affinity m.affinity) refusals.Worn refused ∙ ap (λ (x : FilerView). entries_of x) picked.view,
    );
    suits = (refl, refl);
  }

-- who keeps a message has picked it
pub picked-kept : (v : FilerView) (pass : Passed) (kept : Option Message) (m : Message) → kept ≡ Some m → IsPicked (left_standing v pass kept) v pass m
picked-kept v pass kept m is = record { view = refl; next = inl (is, refl); put = refl }

-- ---- what a worker's turns come to

module _ {S : Type 0} (took : S → List Addressed → S → Type 0) (took_none : (x : S) → took x [] x) (layout : Layout) (before picked tried : Standing)
    (moment : Moment) (sink sink' : S) (view : picked.view ≡ before.view) (next : HasNext before.pass before.kept picked.pass picked.kept)
    (put : picked.pass.put ≡ before.pass.put) where
  is-picked : (m : Message) → picked.kept ≡ Some m → IsPicked before picked.view picked.pass m
  is-picked m is = record {
    view = view;
    next = subst (λ (k : Option Message). HasNext before.pass before.kept picked.pass k) is next;
    put = put;
  }

  -- each call was finished: what was picked ahead is kept
  pub all-done : (chained : Chained) → each_done chained ≡ true → HasTriedAll took layout picked moment sink chained sink' tried
      → HasTurnedOn took layout before moment sink chained sink' tried
  all-done chains.Done is did =
      let h = did.2 before (is-picked did.0 did.1) in
      record { answers = h.answers; between = h.between; did = h.did; told = h.told; ends = h.left; suits = h.suits }
  all-done chains.Moved is did = absurd (let no : false ≡ true = is in cc)
  all-done (chains.Busy at word) is did = absurd (let no : false ≡ true = is in cc)
  all-done chains.Worn is did = absurd (let no : false ≡ true = is in cc)
  all-done chains.Idle is did = absurd (let no : false ≡ true = is in cc)

  -- the last call was not: its message waits again, or is kept
  module _ (after : Standing) (again : HasPut tried.pass tried.kept after.pass after.kept) (same : after.pass.picked ≡ tried.pass.picked)
      (last : after.view ≡ tried.view) where
    returned : (b : Standing) (m m' : Message) → IsPicked b b.view tried.pass m → tried.kept ≡ Some m' → entries_of tried.view ≡ entries_of b.view
        → HasReturnedFrom b m m' after
    returned b m m' was kept entries =
        let waits : WaitsAgain tried.pass after.pass after.kept m' =
        subst (λ (k : Option Message). HasPut tried.pass k after.pass after.kept) kept again in
        record {
          next = ⊎_elim
              (λ (x : (b.kept ≡ Some m) × (tried.pass.picked ≡ b.pass.picked)). inl (x.0, same ∙ x.1))
              (λ (x : (b.kept ≡ None) × (tried.pass.picked ≡ b.pass.picked ++ m ∷ [])). inr (x.0, same ∙ x.1))
              was.next;
          again = ⊎_elim
              (λ (x : (after.pass.put ≡ tried.pass.put ++ m' ∷ []) × (after.kept ≡ None)). inl (x.0 ∙ ap (λ l. l ++ m' ∷ []) was.put, x.1))
              (λ (x : (after.pass.put ≡ tried.pass.put) × (after.kept ≡ Some m') × Held 1024 (Leaves after.pass)). inr (x.0 ∙ was.put, x.1, x.2))
              waits;
          entries = ap (λ (x : FilerView). entries_of x) last ∙ entries;
        }

    pub not-all : (chained : Chained) → each_done chained ≡ false → HasTriedAll took layout picked moment sink chained sink' tried
        → HasTurnedOn took layout before moment sink chained sink' after
    not-all chains.Done is did = absurd (let no : true ≡ false = is in cc)
    not-all chains.Moved is did =
        let h = did.2 before (is-picked did.0 did.1) in
        let x = h.left in
        record {
          answers = h.answers;
          between = h.between;
          did = h.did;
          told = h.told;
          suits = h.suits;
          ends = (
            x.0,
            x.1,
            subst (λ (v : FilerView). HasMoved layout h.between.view x.0 moment x.1 v) (sym last) x.4,
            returned h.between x.0 x.1 x.2 x.3 x.5,
          );
        }
    not-all (chains.Busy at word) is did =
        let h = did.2 before (is-picked did.0 did.1) in
        let x = h.left in
        record {
          answers = h.answers;
          between = h.between;
          did = h.did;
          told = h.told;
          suits = h.suits;
          ends = (
            x.0,
            returned h.between x.0 x.0 x.1 x.2 x.4,
            subst (λ (v : FilerView). IsRefused layout h.between.view (call_affinity x.0.affinity) (refusals.Busy at word) v) (sym last) x.3,
          );
        }
    not-all chains.Worn is did =
        let h = did.2 before (is-picked did.0 did.1) in
        let x = h.left in
        record {
          answers = h.answers;
          between = h.between;
          did = h.did;
          told = h.told;
          suits = h.suits;
          ends = (
            x.0,
            returned h.between x.0 x.0 x.1 x.2 x.4,
            subst (λ (v : FilerView). IsRefused layout h.between.view (call_affinity x.0.affinity) refusals.Worn v) (sym last) x.3,
          );
        }
    not-all chains.Idle is did =
        let stayed : tried ≡ picked = did.1 in
        let none : picked.kept ≡ None = did.0 in
        let found = subst (λ (k : Option Message). HasNext before.pass before.kept picked.pass k) none next in
        let put_none = subst (λ (k : Option Message). HasPut tried.pass k after.pass after.kept) (ap (λ (x : Standing). x.kept) stayed ∙ none) again in
        record {
          answers = [];
          between = before;
          did = refl;
          told = subst (λ (x : S). took sink [] x) (sym did.2) (took_none sink);
          suits = (refl, did.2);
          ends = record {
            was_kept = found.0;
            kept = put_none.0;
            pass = put_none.1 ∙ ap (λ (x : Standing). x.pass) stayed ∙ found.1;
            found = found.2;
            view = last ∙ ap (λ (x : Standing). x.view) stayed ∙ view;
          };
        }

-- turns that found no message were made by who keeps none
pub none-kept : {S : Type 0} (took : S → List Addressed → S → Type 0) (layout : Layout) (picked tried : Standing) (moment : Moment) (sink sink' : S)
    (chained : Chained) → HasTriedAll took layout picked moment sink chained sink' tried → chained ≡ chains.Idle → picked.kept ≡ None
none-kept took layout picked tried moment sink sink' chained did is =
    (subst (λ (x : Chained). HasTriedAll took layout picked moment sink x sink' tried) is did).0

-- who keeps a message tried it
pub tried-all : {S : Type 0} (took : S → List Addressed → S → Type 0) (layout : Layout) (before after : Standing) (moment : Moment) (sink sink' : S)
    (m : Message) → before.kept ≡ Some m → (chained : Chained)
    → ((s : Standing) → IsPicked s before.view before.pass m → HasServedOn took layout s moment sink chained sink' after)
    → HasTriedAll took layout before moment sink chained sink' after
tried-all took layout before after moment sink sink' m kept chains.Done served = (m, kept, served)
tried-all took layout before after moment sink sink' m kept chains.Moved served = (m, kept, served)
tried-all took layout before after moment sink sink' m kept (chains.Busy at word) served = (m, kept, served)
tried-all took layout before after moment sink sink' m kept chains.Worn served = (m, kept, served)
tried-all took layout before after moment sink sink' m kept chains.Idle served =
    absurd (served before (picked-kept before.view before.pass before.kept m kept)).left
