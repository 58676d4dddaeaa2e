-- A message is worked: it comes to what the model says, and the books stand for the world after it.
use Rattle.std.proofs.Common.{◌≡◌, ℕ, ◌+◌, Bool, true, false, ◌&&◌, ◌||◌, IsTrue, List, [], ◌∷◌, ◌++◌, Option, Some, None, refl, sym, ap, ◌∙◌}
use Rattle.std.proofs.Common.{subst}
use Rattle.std.proofs.lemmas.Bool.{and_parts, and_from}
use Rattle.std.specs.Prelude.{slice_get, if◌then◌else◌, nat_lt, length, ◌==◌}
use Rattle.std.specs.FinSet.{len}
use mathlib.Core.Option.{some-injective}
use Rattle.nfs_model.specs.Types.{Call, Caller, Asked, Ask, Refused, Undecoded, Reply, SystemError}
use Rattle.nfs_model.specs.Types as types
use Rattle.nfs_model.specs.Tree.{Layout, Affinity, Serial, Aggregate, Volume, Logical, Stripe, Vbn, Range, path, begins, aggregate_of}
use Rattle.nfs_model.specs.Parts.{Parts}
use Rattle.nfs_model.specs.Locate.{locate}
use Rattle.nfs_model.specs.Replay.{FinishedCall}
use Rattle.nfs_model.specs.Work.{Store, Task, Outcome, Replied, Starved, Moved, Works, Ready}
use Rattle.nfs_model.specs.Work.{move_by, move_if, move_of, move_of_call, move_of_asked, parts_at, volume_above, ready_at}
use Rattle.nfs_model.specs.World.{Setup, World, Running, Worker, store_of, task_of, changed_at, with_running}
use Rattle.nfs_model.specs.Headline.{IsTriedAt}
use Rattle.nfs_model.specs.Events.Step.{finished_call, worked}
use Rattle.affinity.specs.Fault.{fault_of}
use Rattle.affinity.specs.Ancestors.{Covers}
use Rattle.affinity.specs.Numbers.{number_of, parents}
use Rattle.depot_rule.specs.History.{patched, Legal}
use Rattle.desk.specs.laws.Books.{Lent, settled, now, stamps, IsUnchanged, HasHands, IsSettled}
use Rattle.desk.specs.laws.Calls.{HasWorked, with_lent}
use Rattle.desk.specs.laws.lemmas.Overlays.{overlaid-here}
use Rattle.filer_state.specs.state.Parcels.{FilerParcel}
use Rattle.filer_state.specs.state.Contents.{filer_contents}
use Rattle.filer_state.specs.state.Tree.{tree}
use Rattle.filer_state.specs.state.Sound.{AllSound}
use Rattle.filer_state.specs.state.Opening.{AreOpening}
use Rattle.filer_state.specs.state.Jobs as jobs
use Rattle.filer_state.specs.state.Jobs.{Job, JobReply, Serve}
use Rattle.filer_state.specs.state.Deeds.{FilerSteps, Serves, stored_all}
use Rattle.filer_state.specs.laws.lemmas.Lawful.{steps-local, entry-does}
use Rattle.engine.specs.laws.Store.{FilerBooks, filer, HasOutcome, RunsOn, RunOn, IsApart, StandsFor, batches_carried, calls_served}
use Rattle.engine.specs.laws.Serving.{Serving, AgreeUnder}
use Rattle.engine.specs.laws.lemmas.Agreeing.{reached-once, now-served}
use Rattle.engine.specs.laws.lemmas.Changing.{lent-at, run-changed, carried-stay}
use Rattle.engine.specs.laws.lemmas.Served.{patched-same}

-- ---- moves go up

-- what begins a beginning begins the whole
begins-front : (xs zs ys : List ℕ) → begins (xs ++ zs) ys ≡ true → begins xs ys ≡ true
begins-front [] zs ys e = refl
begins-front (x ∷ xs) zs [] e = e
begins-front (x ∷ xs) zs (y ∷ ys) e =
    let parts = and_parts (x == y) (begins (xs ++ zs) ys) e in and_from (x == y) (begins xs ys) parts.0 (begins-front xs zs ys parts.1)

inner : (a b : Affinity) → Some a ≡ Some b → a ≡ b
inner a b e = cc

moved-there : (c : Bool) (a b : Affinity) → (if c then Some a else None) ≡ Some b → a ≡ b
moved-there true a b e = inner a b e
moved-there false a b e = absurd cc

module _ (setup : Setup) (home : Affinity) where
  abbrev IsAbove : Affinity → Type 0
  IsAbove a = begins (path setup.layout a) (path setup.layout home) ≡ true

  by-moves : (parts : Option Parts) (a b : Affinity) (ready : Ready) → move_by parts a ready ≡ Some b → IsAbove a → IsAbove b
  by-moves parts (Stripe v i) b ready moved above =
      subst IsAbove (moved-there (ready.extends || ready.clears || nat_lt 0 ready.need) (Logical v) b moved)
      (begins-front (aggregate_of setup.layout v ∷ v ∷ 0 ∷ []) (i ∷ []) (path setup.layout home) above)
  by-moves None Serial b ready moved above = absurd cc
  by-moves None (Aggregate a) b ready moved above = absurd cc
  by-moves None (Volume v) b ready moved above = absurd cc
  by-moves None (Logical v) b ready moved above = absurd cc
  by-moves None (Vbn v) b ready moved above = absurd cc
  by-moves None (Range v r) b ready moved above = absurd cc
  by-moves (Some p) (Logical v) b ready moved above =
      subst IsAbove (moved-there (nat_lt (len p.stock) ready.need) (Volume v) b moved)
      (begins-front (aggregate_of setup.layout v ∷ v ∷ []) (0 ∷ []) (path setup.layout home) above)
  by-moves (Some p) (Volume v) b ready moved above =
      subst IsAbove (moved-there (ready.fits && nat_lt (len p.stock + len p.free + len p.dead) ready.need) (Volume v) b moved) above
  by-moves (Some p) Serial b ready moved above = absurd cc
  by-moves (Some p) (Aggregate a) b ready moved above = absurd cc
  by-moves (Some p) (Vbn v) b ready moved above = absurd cc
  by-moves (Some p) (Range v r) b ready moved above = absurd cc

  if-moves : (parts : Option Parts) (a b : Affinity) (ready : Option Ready) → move_if parts a ready ≡ Some b → IsAbove a → IsAbove b
  if-moves parts a b None moved above = absurd cc
  if-moves parts a b (Some ready) moved above = by-moves parts a b ready moved above

  call-moves : (store : Store) (a b : Affinity) (call : Call) (caller : Caller) → move_of_call store a call caller ≡ Some b → IsAbove a → IsAbove b
  call-moves store a b (types.Write handle offset count written) caller moved above =
      if-moves (parts_at store.parts (volume_above a)) a b (ready_at (locate store.server handle) caller offset count (length written)) moved above
  call-moves store a b call caller moved above = absurd cc

-- where a task moves is above its home
moves-up : (setup : Setup) (store : Store) (task : Task) (to : Affinity) → move_of store task ≡ Some to
    → IsTriedAt setup task.asked task.affinity → IsTriedAt setup task.asked to
moves-up setup store task to moved tried = (tried.0, tried.1, by task.asked moved)
  where
    by : (asked : Asked) → move_of_asked store task.affinity asked ≡ Some to
        → IsTrue (begins (path setup.layout to) (path setup.layout tried.0))
    by (Ask call caller) e = call-moves setup tried.0 store task.affinity to call caller e tried.2
    by (Refused reply) e = absurd cc
    by Undecoded e = absurd cc

-- ---- work

module _ {P C R : Type 0} (job : C → Job) (told : R → JobReply) (setup : Setup) (w : World) (b : FilerBooks P C R) (s : StandsFor job told setup w b)
    (i : ℕ) (k : Worker) (there : slice_get w.workers i ≡ Some k)
    (r : Running) (runs : k.running ≡ Some r) (fresh : r.outcome ≡ None) (o : Outcome) (c : FilerBooks P C R) (done : HasWorked (Serving r) b i o c) where
  abbrev L : Layout
  L = b.layout

  abbrev l : Lent (FilerParcel P)
  l = done.lent

  abbrev l' : Lent (FilerParcel P)
  l' = record { affinity = l.affinity; parcels = done.parcels }

  abbrev here : ℕ
  here = number_of L l.affinity

  abbrev r' : Running
  r' = record r { outcome = Some o }

  -- what the worker has runs on what it was lent
  run : (l.affinity ≡ r.message.affinity) × IsUnchanged b l
  run =
      let at = lent-at setup b w.workers b.lent i k s.workers there in
      let is : at.0 ≡ Some l = some-injective at.0 (Some l) (sym at.1 ∙ done.is_lent) in
      let both : RunsOn setup b (Some r) (Some l) = subst (λ x. RunsOn setup b (Some r) x) is (subst (λ q. RunsOn setup b q at.0) runs at.2) in
      (both.0, subst (λ q. HasOutcome setup b r l q) fresh both.1)

  -- the parcels as they are have what was lent
  lent-now : (n : ℕ) → Covers (parents L) here n → now b n ≡ l.parcels n
  lent-now n cover = overlaid-here L b.lent i l (settled b) n done.is_lent cover
      (λ j m at ne d. reached-once job told setup w b s i j l m done.is_lent at ne n cover d)

  -- ---- what it comes to

  abbrev put : ℕ → Option (FilerParcel P)
  put = patched (parents L) here done.parcels (now b)

  put-now : now c ≡ put
  put-now = λ j n. done.now_is n j

  layout-is : c.layout ≡ L
  layout-is = ap (λ (x : FilerBooks P C R). x.layout) done.books

  abbrev after : Store
  after = stored_all (filer_contents c.layout (now c))

  after-is : stored_all (filer_contents L put) ≡ after
  after-is = sym (λ j. stored_all (filer_contents (layout-is j) (put-now j)))

  store-is : stored_all (filer_contents L (now b)) ≡ store_of w
  store-is = sym (λ j. record { server = s.server j; parts = s.parts j })

  abbrev made : ℕ
  made = (now-served job told setup w b s).0.0

  abbrev sound : AllSound L (now b) (batches_carried w.workers) made
  sound = (now-served job told setup w b s).0.1

  -- a step of the filer does its work here
  served-here : (call : FinishedCall) (reply : Reply) → FilerSteps (parents L) here (Serve call) l.parcels (jobs.Replied reply) done.parcels
      → Serves L l.affinity call (filer_contents L (now b)) reply (filer_contents L put)
  served-here call reply step =
      (entry-does L s.lawful l.affinity (s.lent.node i l done.is_lent) (Serve call) (jobs.Replied reply) (now b) put
      (batches_carried w.workers) (batches_carried w.workers) made
      ((steps-local (parents L) here (Serve call) l.parcels (now b) (jobs.Replied reply) done.parcels step).1 lent-now) sound (λ weigh. refl)).0

  seen : Works (record { asked = r.message.asked; affinity = l.affinity; moment = r.moment }) (stored_all (filer_contents L (now b))) o
      (stored_all (filer_contents L put))
      → Works (task_of r) (store_of w) o after
  seen works =
      subst (λ st. Works (task_of r) (store_of w) o st) after-is
      (subst (λ st. Works (task_of r) st o (stored_all (filer_contents L put))) store-is
      (subst (λ a. Works (record { asked = r.message.asked; affinity = a; moment = r.moment }) (stored_all (filer_contents L (now b))) o
      (stored_all (filer_contents L put))) run.0 works))

  put-same : AgreeUnder L l.affinity done.parcels l.parcels → put ≡ now b
  put-same same = patched-same (parents L) here done.parcels (now b) (λ n cover. same n cover ∙ sym (lent-now n cover))

  came-to : (x : Outcome) → x ≡ o → Serving r L l.affinity l.parcels x done.parcels
      → Works (record { asked = r.message.asked; affinity = l.affinity; moment = r.moment }) (stored_all (filer_contents L (now b))) x
      (stored_all (filer_contents L put))
  came-to (Replied reply) e did = (served-here (finished_call r false) reply did).works
  came-to Starved e did = (served-here (finished_call r true) SystemError did).works
  came-to (Moved to) e did = (
    subst (λ a. move_of (stored_all (filer_contents L (now b))) (record { asked = r.message.asked; affinity = a; moment = r.moment }) ≡ Some to) (sym run.0)
        (did.1 (now b) (batches_carried w.workers) made lent-now sound),
    ap (λ f. stored_all (filer_contents L f)) (put-same did.0),
  )

  -- it comes to what the model says, with this server and these parts after it
  pub works : Works (task_of r) (store_of w) o after
  works = seen (came-to o refl done.did)

  -- ---- what the books stand for then

  kept-outcome : IsTriedAt setup r.message.asked r.message.affinity → (x : Outcome) → Serving r L l.affinity l.parcels x done.parcels
      → Works (task_of r) (store_of w) x after → HasOutcome setup (with_lent b i (Some l')) r' l' (Some x)
  kept-outcome tried (Replied reply) did comes = (l.parcels, run.1, did)
  kept-outcome tried Starved did comes = (l.parcels, run.1, did)
  kept-outcome tried (Moved to) did comes = (
    (λ n pos lt cover. did.0 n cover ∙ run.1 n pos lt cover),
    moves-up setup (store_of w) (task_of r) to comes.0 tried,
  )

  -- the books stand for the world after it
  pub worked-stands : IsApart c → IsTriedAt setup r.message.asked r.message.affinity → StandsFor job told setup (worked w i r o after) c
  worked-stands apart tried = record {
    layout = layout-is ∙ s.layout;
    lawful = subst (λ (x : FilerBooks P C R). fault_of x.layout ≡ None) (sym done.books) s.lawful;
    lent = apart;
    server = refl;
    parts = refl;
    finished = s.finished ∙ sym (ap (λ (x : FilerBooks P C R). tree x.layout (settled x)) done.books);
    stamps = s.stamps ∙ sym (ap (λ (x : FilerBooks P C R). stamps x) done.books);
    workers = subst (λ (x : FilerBooks P C R). RunOn setup x (changed_at (with_running (Some r')) w.workers i) x.lent) (sym done.books)
        (run-changed setup b b.entries (with_lent b i (Some l')).lent w.workers b.lent i (Some r') (Some l') (λ j m at ne n pos lt d. refl)
        (run.0, kept-outcome tried o done.did works) s.workers);
    hands = subst (λ (x : FilerBooks P C R). HasHands (filer job told) x (batches_carried (changed_at (with_running (Some r')) w.workers i))) (sym done.books)
        (subst (λ hs. HasHands (filer job told) b hs) (sym (carried-stay w.workers i (Some r'))) s.hands);
    sound = subst (λ (x : FilerBooks P C R). IsSettled (filer job told) x) (sym done.books) s.sound;
    opening = subst (λ (x : FilerBooks P C R). AreOpening x.layout setup.verifier x.first) (sym done.books) s.opening;
    legal = subst (λ (x : FilerBooks P C R). Legal (filer job told).steps (parents x.layout) x.first x.entries) (sym done.books) s.legal;
    calls = ap (λ (x : FilerBooks P C R). calls_served job x.entries) done.books ∙ s.calls;
  }
