-- A message that was worked is finished, or waits again where it moved.
use Rattle.std.proofs.Common.{◌≡◌, ◌≢◌, ℕ, ◌+◌, Bool, List, [], ◌∷◌, ◌++◌, Option, Some, None, refl, sym, ap, ◌∙◌}
use Rattle.std.proofs.Common.{subst, arith}
use Rattle.std.specs.Prelude.{slice_get}
use Rattle.std.proofs.lemmas.List.{length-append}
use mathlib.Core.Option.{some, some-injective}
use lib.ListN.{get_elem?}
use Rattle.nfs_model.specs.Types.{Reply}
use Rattle.nfs_model.specs.Tree.{Layout, Affinity}
use Rattle.nfs_model.specs.Server.{Server}
use Rattle.nfs_model.specs.Replay.{FinishedCall, step_of, server_after}
use Rattle.nfs_model.specs.Work.{Outcome, Moved}
use Rattle.nfs_model.specs.World.{Setup, World, Running, Worker, changed_at, with_running}
use Rattle.nfs_model.specs.Headline.{start, worked_by}
use Rattle.nfs_model.specs.Events.Step.{finished_call}
use Rattle.affinity.specs.Fault.{fault_of}
use Rattle.affinity.specs.Tree.{IsNode}
use Rattle.affinity.specs.Numbers.{number_of, node_count, parents}
use Rattle.affinity.specs.lemmas.Smaller.{length-parents}
use Rattle.depot_rule.specs.declared.view.Entry.{Entry}
use Rattle.depot_rule.specs.Sums.{total}
use Rattle.depot_rule.specs.History.{patched, listed, by_number, put_in, Legal}
use Rattle.depot_rule.specs.lemmas.Covering.{patched-in, patched-out}
use Rattle.depot_rule.specs.lemmas.Histories.{after-snoc, legal-snoc, moved-snoc}
use Rattle.depot_rule.specs.lemmas.Listed.{by-number-at}
use Rattle.depot.specs.Grants.{entry_of}
use Rattle.desk.specs.laws.Books.{Lent, settled, stamps, HasLent, UnderLent, IsUnchanged, HasHands, IsSettled}
use Rattle.desk.specs.laws.Calls.{MayFinish, HasFinished, HasPutBack, with_lent}
use Rattle.desk.specs.laws.lemmas.Overlays.{covers-or-not}
use Rattle.filer_state.specs.state.Parcels.{FilerParcel}
use Rattle.filer_state.specs.state.Contents.{filer_contents}
use Rattle.filer_state.specs.state.Tree.{tree}
use Rattle.filer_state.specs.state.Partition.{all_parts}
use Rattle.filer_state.specs.state.Opening.{AreOpening}
use Rattle.filer_state.specs.state.Jobs as jobs
use Rattle.filer_state.specs.state.Jobs.{Job, JobReply, Serve, takes, gives}
use Rattle.filer_state.specs.state.Deeds.{FilerSteps}
use Rattle.filer_state.specs.laws.lemmas.Lawful.{steps-local}
use Rattle.engine.specs.laws.Store.{FilerBooks, filer, IsServed, HasOutcome, RunsOn, RunOn, IsApart, StandsFor}
use Rattle.engine.specs.laws.Store.{batches_carried, calls_served, calls_run, with_served}
use Rattle.engine.specs.laws.lemmas.Agreeing.{sound-settled}
use Rattle.engine.specs.laws.lemmas.Beginning.{same-now}
use Rattle.engine.specs.laws.lemmas.Changing.{lent-at, run-changed, carried-stay}
use Rattle.engine.specs.laws.lemmas.Recorded.{served-snoc, run-some}
use Rattle.engine.specs.laws.lemmas.Served.{covered-node, outcome-there}

-- the server after one more call
pub after-one : (server : Server) (es : List FinishedCall) (e : FinishedCall) → server_after server (es ++ e ∷ []) ≡
    (step_of (server_after server es) e).server
after-one server [] e = refl
after-one server (d ∷ es) e = after-one (step_of server d).server es e

-- a finished call moves no batch
none-taken : {call : Job} {answer : JobReply} {c : FinishedCall} {reply : Reply} → call ≡ Serve c → answer ≡ jobs.Replied reply → takes call answer ≡ []
none-taken is_call is_reply = λ n. takes (is_call n) (is_reply n)

none-given : {call : Job} {answer : JobReply} {c : FinishedCall} {reply : Reply} → call ≡ Serve c → answer ≡ jobs.Replied reply → gives call answer ≡ []
none-given is_call is_reply = λ n. gives (is_call n) (is_reply n)

-- what an entry left is what was lent
pub left-is : {P : Type 0} (layout : Layout) → fault_of layout ≡ None → (l : Lent (FilerParcel P)) → IsNode layout l.affinity
    → {C R : Type 0} (call : C) (reply : R) (f : ℕ → Option (FilerParcel P))
    → put_in (parents layout) (entry_of layout l.affinity l.parcels call reply) f ≡ patched (parents layout) (number_of layout l.affinity) l.parcels f
left-is {P} layout lawful l node call reply f = λ j k. let here : ℕ = number_of layout l.affinity in let left : List
    (Option (FilerParcel P)) = by_number l.parcels (1 + node_count layout) in covers-or-not (parents layout) here k
    (λ c.
    let p = covered-node layout lawful l.affinity node k c in
    let size = length-parents layout in
    patched-in (parents layout) here (listed left) f k c ∙ by-number-at l.parcels (1 + node_count layout) k (omega arith)
    ∙ sym (patched-in (parents layout) here l.parcels f k c))
    (λ out. patched-out (parents layout) here (listed left) f k out ∙ sym (patched-out (parents layout) here l.parcels f k out))
    j

module _ {P C R : Type 0} (job : C → Job) (told : R → JobReply) (setup : Setup) (w : World) (b : FilerBooks P C R) (s : StandsFor job told setup w b)
    (i : ℕ) (k : Worker) (there : slice_get w.workers i ≡ Some k)
    (r : Running) (runs : k.running ≡ Some r) (o : Outcome) (came : r.outcome ≡ Some o) where
  -- what the worker has runs on what it was lent
  pub run-on : (l : Lent (FilerParcel P)) → HasLent b i l → HasOutcome setup b r l (Some o)
  run-on l lent =
      let at = lent-at setup b w.workers b.lent i k s.workers there in
      let is : at.0 ≡ Some l = some-injective at.0 (Some l) (sym at.1 ∙ lent) in
      let both : RunsOn setup b (Some r) (Some l) = subst (λ x. RunsOn setup b (Some r) x) is (subst (λ q. RunsOn setup b q at.0) runs at.2) in
      subst (λ q. HasOutcome setup b r l q) came both.1

  -- a worked call may be finished
  pub may-finish : (l : Lent (FilerParcel P)) → HasLent b i l → (starved : Bool) (reply : Reply) (call : C) (answer : R)
      → job call ≡ Serve (finished_call r starved) → told answer ≡ jobs.Replied reply
      → IsServed b l (finished_call r starved) reply → MayFinish (filer job told) b i call answer
  may-finish l lent starved reply call answer is_call is_reply served = record {
    lent = l;
    is_lent = lent;
    worked = (
      served.0,
      served.1,
      subst (λ (x : Job × JobReply). FilerSteps (parents b.layout) (number_of b.layout l.affinity) x.0 served.0 x.1 l.parcels)
          (sym (λ n. (is_call n, is_reply n))) served.2,
    );
    hands = batches_carried w.workers;
    next = batches_carried w.workers;
    are_hands = s.hands;
    moves = λ weigh. ap (λ hs. total weigh hs + total weigh (batches_carried w.workers)) (none-given is_call is_reply ∙ sym (none-taken is_call is_reply));
  }

  module _ (starved : Bool) (reply : Reply) (call : C) (answer : R) (is_call : job call ≡ Serve (finished_call r starved))
      (is_reply : told answer ≡ jobs.Replied reply)
      (c : FilerBooks P C R) (done : HasFinished (filer job told) b i call answer c) (served : IsServed b done.lent (finished_call r starved) reply)
      (apart : IsApart c) (next : World)
      (same_server : (server : Server) → worked_by server r (Some o) ≡ (step_of server (finished_call r starved)).server)
      (server : next.server ≡ w.server) (parts : next.parts ≡ w.parts) (finished : next.finished ≡ w.finished ++ finished_call r starved ∷ [])
      (stamps_are : next.stamps ≡ w.stamps + 1) (workers : next.workers ≡ changed_at (with_running None) w.workers i) where
    abbrev l : Lent (FilerParcel P)
    l = done.lent

    abbrev e : Entry (FilerParcel P) C R
    e = entry_of b.layout l.affinity l.parcels call answer

    abbrev es : List (Entry (FilerParcel P) C R)
    es = b.entries ++ e ∷ []

    abbrev new_books : FilerBooks P C R
    new_books = record (with_lent b i None) { entries = es }

    layout-is : c.layout ≡ b.layout
    layout-is = ap (λ (x : FilerBooks P C R). x.layout) done.books

    settled-is : settled new_books ≡ patched (parents b.layout) (number_of b.layout l.affinity) l.parcels (settled b)
    settled-is = after-snoc (parents b.layout) b.first b.entries e
        ∙ left-is b.layout s.lawful l (s.lent.node i l done.is_lent) call answer (settled b)

    -- the finished calls lead to it
    finished-is : server_after (start setup) next.finished ≡ tree b.layout (settled new_books)
    finished-is =
        let there = outcome-there setup b s.lawful l (s.lent.node i l done.is_lent) r (Some o) (run-on l done.is_lent) (settled b) (λ n cover. refl)
        (batches_carried w.workers) (stamps b) (sound-settled job told setup w b s) in
        ap (λ xs. server_after (start setup) xs) finished ∙ after-one (start setup) w.finished (finished_call r starved)
        ∙ ap (λ x. (step_of x (finished_call r starved)).server) s.finished
        ∙ sym (same_server (tree b.layout (settled b))) ∙ sym there.1 ∙ ap (λ f. tree b.layout f) (sym settled-is)

    -- the call is a step from what the calls before it left
    stepped : FilerSteps (parents b.layout) (number_of b.layout l.affinity) (job call) (settled b) (told answer)
        (put_in (parents b.layout) e (settled b))
    stepped =
        let here : ℕ = number_of b.layout l.affinity in
        let step = (steps-local (parents b.layout) here (Serve (finished_call r starved)) served.0 (settled b) (jobs.Replied reply) l.parcels served.2).1
        (λ n cover. let p = covered-node b.layout s.lawful l.affinity (s.lent.node i l done.is_lent) n cover in sym (served.1 n p.0 p.1 cover)) in
        subst (λ (f' : ℕ → Option (FilerParcel P)). FilerSteps (parents b.layout) here (job call) (settled b) (told answer) f')
        (sym (left-is b.layout s.lawful l (s.lent.node i l done.is_lent) call answer (settled b)))
        (subst (λ (x : Job × JobReply). FilerSteps (parents b.layout) here x.0 (settled b) x.1
        (patched (parents b.layout) here l.parcels (settled b))) (sym (λ n. (is_call n, is_reply n))) step)

    legal-is : Legal (filer job told).steps (parents b.layout) b.first es
    legal-is = legal-snoc (filer job told).steps (parents b.layout) b.first b.entries e s.legal stepped

    calls-are : calls_served job es ≡ calls_run next.finished
    calls-are = served-snoc job b.entries e
        ∙ ap (λ (x : Job). calls_served job b.entries ++ with_served x []) is_call
        ∙ ap (λ (xs : List FinishedCall). xs ++ finished_call r starved ∷ []) s.calls
        ∙ sym (run-some w.finished (finished_call r starved) r.message.affinity refl)
        ∙ sym (ap calls_run finished)

    hands-are : HasHands (filer job told) new_books (batches_carried w.workers)
    hands-are weigh =
        let old = s.hands weigh in
        let taken = moved-snoc (λ call reply. takes (job call) (told reply)) weigh b.entries e in
        let given = moved-snoc (λ call reply. gives (job call) (told reply)) weigh b.entries e in
        let no_taken : total weigh (takes (job call) (told answer)) ≡ 0 = ap (λ hs. total weigh hs) (none-taken is_call is_reply) in
        let no_given : total weigh (gives (job call) (told answer)) ≡ 0 = ap (λ hs. total weigh hs) (none-given is_call is_reply) in
        omega (arith, old, taken, given, no_taken, no_given)

    others : (j : ℕ) (m : Lent (FilerParcel P)) → get_elem? b.lent j ≡ some (Some m) → j ≢ i → UnderLent b m (λ n. settled new_books n ≡ settled b n)
    others j m at ne n pos lt cover = ap (λ (x : FilerBooks P C R). settled x n) (sym done.books) ∙ done.others j m at ne n pos lt cover

    pub finished-stands : StandsFor job told setup next c
    finished-stands = record {
      layout = layout-is ∙ s.layout;
      lawful = subst (λ (x : FilerBooks P C R). fault_of x.layout ≡ None) (sym done.books) s.lawful;
      lent = apart;
      server = server ∙ s.server ∙ sym (λ j. tree (layout-is j) (same-now b c done.same j));
      parts = parts ∙ s.parts ∙ sym (λ j. all_parts (filer_contents (layout-is j) (same-now b c done.same j)));
      finished = finished-is ∙ sym (ap (λ (x : FilerBooks P C R). tree x.layout (settled x)) done.books);
      stamps = stamps_are ∙ ap (λ n. n + 1) s.stamps ∙ sym (length-append b.entries (e ∷ [])) ∙ sym (ap (λ (x : FilerBooks P C R). stamps x) done.books);
      workers = subst (λ ks. RunOn setup c ks c.lent) (sym workers)
          (subst (λ (x : FilerBooks P C R). RunOn setup x (changed_at (with_running None) w.workers i) x.lent) (sym done.books)
          (run-changed setup b es (with_lent b i None).lent w.workers b.lent i None None others tt s.workers));
      hands = subst (λ ks. HasHands (filer job told) c (batches_carried ks)) (sym workers)
          (subst (λ hs. HasHands (filer job told) c hs) (sym (carried-stay w.workers i None))
          (subst (λ (x : FilerBooks P C R). HasHands (filer job told) x (batches_carried w.workers)) (sym done.books) hands-are));
      sound = done.keeps;
      opening = subst (λ (x : FilerBooks P C R). AreOpening x.layout setup.verifier x.first) (sym done.books) s.opening;
      legal = subst (λ (x : FilerBooks P C R). Legal (filer job told).steps (parents x.layout) x.first x.entries) (sym done.books) legal-is;
      calls = ap (λ (x : FilerBooks P C R). calls_served job x.entries) done.books ∙ calls-are;
    }

  -- a moved message leaves what it was lent as the finished calls left it
  pub moved-unchanged : (l : Lent (FilerParcel P)) → HasLent b i l → (to : Affinity) → o ≡ Moved to → IsUnchanged b l
  moved-unchanged l lent to is = (subst (λ x. HasOutcome setup b r l (Some x)) is (run-on l lent)).0

  module _ (c : FilerBooks P C R) (back : HasPutBack b i c) (apart : IsApart c) (next : World)
      (server : next.server ≡ w.server) (parts : next.parts ≡ w.parts) (finished : next.finished ≡ w.finished)
      (stamps_are : next.stamps ≡ w.stamps) (workers : next.workers ≡ changed_at (with_running None) w.workers i) where
    back-layout : c.layout ≡ b.layout
    back-layout = ap (λ (x : FilerBooks P C R). x.layout) back.books

    -- the books stand for the world in which it waits again
    pub back-stands : StandsFor job told setup next c
    back-stands = record {
      layout = back-layout ∙ s.layout;
      lawful = subst (λ (x : FilerBooks P C R). fault_of x.layout ≡ None) (sym back.books) s.lawful;
      lent = apart;
      server = server ∙ s.server ∙ sym (λ j. tree (back-layout j) (same-now b c back.same j));
      parts = parts ∙ s.parts ∙ sym (λ j. all_parts (filer_contents (back-layout j) (same-now b c back.same j)));
      finished = ap (λ es. server_after (start setup) es) finished ∙ s.finished ∙ sym (ap (λ (x : FilerBooks P C R). tree x.layout (settled x)) back.books);
      stamps = stamps_are ∙ s.stamps ∙ sym (ap (λ (x : FilerBooks P C R). stamps x) back.books);
      workers = subst (λ ks. RunOn setup c ks c.lent) (sym workers)
          (subst (λ (x : FilerBooks P C R). RunOn setup x (changed_at (with_running None) w.workers i) x.lent) (sym back.books)
          (run-changed setup b b.entries (with_lent b i None).lent w.workers b.lent i None None (λ j m at ne n pos lt d. refl) tt s.workers));
      hands = subst (λ ks. HasHands (filer job told) c (batches_carried ks)) (sym workers)
          (subst (λ hs. HasHands (filer job told) c hs) (sym (carried-stay w.workers i None))
          (subst (λ (x : FilerBooks P C R). HasHands (filer job told) x (batches_carried w.workers)) (sym back.books) s.hands));
      sound = subst (λ (x : FilerBooks P C R). IsSettled (filer job told) x) (sym back.books) s.sound;
      opening = subst (λ (x : FilerBooks P C R). AreOpening x.layout setup.verifier x.first) (sym back.books) s.opening;
      legal = subst (λ (x : FilerBooks P C R). Legal (filer job told).steps (parents x.layout) x.first x.entries) (sym back.books) s.legal;
      calls = ap (λ (x : FilerBooks P C R). calls_served job x.entries) back.books ∙ s.calls ∙ sym (ap calls_run finished);
    }
