-- A turn keeps a worker's balance.
use Rattle.std.proofs.Common.{◌≡◌, ◌+◌, List, [], ◌∷◌, ◌++◌, Option, Some, None, inl, inr, ⊎_elim, sym, ap, ◌∙◌, subst, arith}
use Rattle.std.specs.Prelude.{option_map, IfSome}
use Rattle.crossbeam_queue.specs.Fifo.{Held}
use Rattle.nfs_model.specs.Parts.{Hand}
use Rattle.nfs_model.specs.Tree as trees
use Rattle.nfs_values.specs.declared.moment.Moment.{Moment}
use Rattle.affinity.specs.declared.layout.Layout.{Layout}
use Rattle.affinity.specs.Layout.{layout_of}
use Rattle.affinity.specs.Affinity.{call_affinity}
use Rattle.depot_rule.specs.declared.view.Entry.{Entry}
use Rattle.depot_rule.specs.Sums.{total}
use Rattle.depot_rule.specs.History.{AreHands, entries_of}
use Rattle.service.specs.Jobs.{job_of, job_takes, job_gives}
use Rattle.service.specs.declared.job.Job.{Job}
use Rattle.service.specs.declared.job.JobReply.{JobReply}
use Rattle.granted_calls.specs.shared_waiting.Balance.{Leaves, FitsIn}
use Rattle.granted_calls.specs.Messages.{IsPlaced, Fits, Message}
use Rattle.granted_calls.specs.Balance.{Passed, FilerView, FilerEntry, Weight, by_key, by_kept, IsEven}
use Rattle.granted_calls.specs.Served.{IsNext, HasNext, WaitsAgain, HasPut, HasFinished, HasMoved, HasServed}
use Rattle.turns.specs.Turns.{IsTold, HasTried, HasReturned, Did}
use Rattle.granted_calls.specs.Filers.{layout_known}
use Rattle.turns.specs.Words.{seat_view, passed, entries_in}
use Rattle.granted_calls.proofs.Balancing.{total-snoc, finishes, hand-stays, keeps}
use Rattle.granted_calls.specs.declared.turned.Served.{Served}
use Rattle.granted_calls.specs.declared.turned.Served.TheVariants as serves
use Rattle.granted_calls.specs.declared.turned.Turn.{Turn}
use Rattle.granted_calls.specs.declared.turned.Turn.TheVariants as turns
use Rattle.turns.specs.declared.worker.Worker.{Worker}
use Rattle.depot.specs.Grants.{IsRefused}
use Rattle.depot.specs.declared.grants.GrantRefusal.TheVariants as refusals
use Rattle.filer_state.specs.state.Jobs as jobs
use Rattle.filer_state.specs.state.Jobs.{takes, gives}

-- ---- the queue's layout

-- what fits a queue of a layout fits the layout
pub placed-by : (layout : trees.Layout) (v : Passed) (m : Message) → layout_known v ≡ Some layout → FitsIn Fits v.key m → IsPlaced layout m
placed-by layout v m known fits = by v.key known fits
  where
    by : (key : Option Layout) → option_map layout_of key ≡ Some layout → FitsIn Fits key m → IsPlaced layout m
    by None e f = absurd f
    by (Some key) e f = subst (λ (x : trees.Layout). IsPlaced x m) (let same : layout_of key ≡ layout = cc in same) f

-- ---- the balance

weighs-again : (h : Weight) (v w : Passed) (kept : Option Message) (m : Message) → WaitsAgain v w kept m
    → total (by_key h) w.put + by_kept h kept ≡ total (by_key h) v.put + by_key h m
weighs-again h v w kept m = ⊎_elim
    (λ (x : (w.put ≡ v.put ++ m ∷ []) × (kept ≡ None)).
    let a = ap (by_kept h) x.1 in let b = ap (total (by_key h)) x.0 in
    let s = total-snoc (by_key h) v.put m in omega (arith, a, b, s))
    (λ (x : (w.put ≡ v.put) × (kept ≡ Some m) × Held 1024 (Leaves w)).
    let a = ap (by_kept h) x.1 in let b = ap (total (by_key h)) x.0 in omega (arith, a, b))

module _ {P : Type 0} where
  -- what is kept is put, or kept still
  pub puts : (v w : Passed) (kept kept' : Option Message) (done : List (Entry P Job JobReply))
      → IsEven v done kept → HasPut v kept w kept' → w.picked ≡ v.picked → IsEven w done kept'
  puts v w None kept' done even put picked h =
      let e = even h in
      let k = ap (by_kept h) put.0 in
      let p = ap (λ (x : Passed). total (by_key h) x.put) put.1 in
      let q = ap (total (by_key h)) picked in
      omega (arith, e, k, p, q)
  puts v w (Some m) kept' done even put picked h =
      let e = even h in
      let a = weighs-again h v w kept' m put in
      let q = ap (total (by_key h)) picked in
      omega (arith, e, a, q)

-- ---- a message that was tried

module _ (layout : trees.Layout) (v w : FilerView) (m : Message) (moment : Moment) where
  -- it is finished, or kept
  pub tried-even : (served : Served) (kept : Option Message) (turned : Turn) (pass : Passed) → HasServed layout v m moment served w
      → IsTold served kept turned → IsEven pass (entries_of v) (Some m) → IsEven pass (entries_of w) kept
  tried-even (serves.Done a) kept turned pass did told even =
      subst (λ (k : Option Message). IsEven pass (entries_of w) k) (sym told.0)
      (finishes pass m did.moment a did.entry (entries_of v) (entries_of w) even did.entries did.is)
  tried-even (serves.Moved m') kept turned pass did told even =
      subst (λ (k : Option Message). IsEven pass (entries_of w) k) (sym told.0)
      (keeps pass m m' (entries_of v) (entries_of w) (λ h. ap (by_key h) did.0.message) did.1 even)
  tried-even (serves.Refused back refusal) kept turned pass did told even =
      subst (λ (k : Option Message). IsEven pass (entries_of w) k) (sym told.0)
      (keeps pass m back (entries_of v) (entries_of w) (λ h. ap (by_key h) did.0) did.1 even)

  pub tried-hand : (served : Served) (hand : List Hand) → HasServed layout v m moment served w
      → AreHands job_takes job_gives (entries_of v) hand → AreHands job_takes job_gives (entries_of w) hand
  tried-hand (serves.Done a) hand did own =
      hand-stays (entries_of v) (entries_of w) did.entry hand (ap (λ (r : jobs.JobReply). takes (job_of did.entry.call) r) did.is.reply)
      (ap (λ (r : jobs.JobReply). gives (job_of did.entry.call) r) did.is.reply) did.entries own
  tried-hand (serves.Moved m') hand did own = subst (λ (es : List FilerEntry). AreHands job_takes job_gives es hand) (sym did.1) own
  tried-hand (serves.Refused back refusal) hand did own = subst (λ (es : List FilerEntry). AreHands job_takes job_gives es hand) (sym did.1) own

  pub tried-placed : (served : Served) (kept : Option Message) (turned : Turn) → HasServed layout v m moment served w → IsTold served kept turned
      → IsPlaced layout m → IfSome kept (IsPlaced layout)
  tried-placed (serves.Done a) kept turned did told placed = subst (λ (k : Option Message). IfSome k (IsPlaced layout)) (sym told.0) tt
  tried-placed (serves.Moved m') kept turned did told placed = subst (λ (k : Option Message). IfSome k (IsPlaced layout)) (sym told.0) did.0.placed
  tried-placed (serves.Refused back refusal) kept turned did told placed =
      subst (λ (k : Option Message). IfSome k (IsPlaced layout)) (sym told.0) (subst (λ (x : Message). IsPlaced layout x) (sym did.0) placed)

-- what a turn answers of it
pub has-tried : (layout : trees.Layout) (before after : Worker) (m : Message) (moment : Moment) (served : Served) (turned : Turn)
    → before.kept ≡ Some m → HasServed layout (seat_view before) m moment served (seat_view after) → IsTold served after.kept turned
    → HasTried layout before moment turned after
has-tried layout before after m moment (serves.Done a) turned was did told =
    subst (λ (t : Turn). HasTried layout before moment t after) (sym told.1) (m, was, told.0, did)
has-tried layout before after m moment (serves.Moved m') turned was did told =
    subst (λ (t : Turn). HasTried layout before moment t after) (sym told.1) (m, m', was, told.0, did.0, did.1)
has-tried layout before after m moment (serves.Refused back (refusals.Busy at word)) turned was did told =
    subst (λ (t : Turn). HasTried layout before moment t after) (sym told.1) (m, was, told.0 ∙ ap Some did.0, did.1, did.2)
has-tried layout before after m moment (serves.Refused back refusals.Worn) turned was did told =
    subst (λ (t : Turn). HasTried layout before moment t after) (sym told.1) (m, was, told.0 ∙ ap Some did.0, did.1, did.2)

-- ---- a turn

module _ (layout : trees.Layout) (before picked tried after : Worker) (moment : Moment)
    (next : HasNext (passed before) before.kept (passed picked) picked.kept) (put : (passed picked).put ≡ (passed before).put)
    (seat : seat_view picked ≡ seat_view before)
    (pass : passed tried ≡ passed picked)
    (again : HasPut (passed tried) tried.kept (passed after) after.kept) (same : (passed after).picked ≡ (passed tried).picked)
    (last : seat_view after ≡ seat_view tried) where
  -- the message that was kept, or picked
  next-is : (m : Message) → picked.kept ≡ Some m → IsNext (passed before) before.kept (passed after) m
  next-is m kept =
      let found : IsNext (passed before) before.kept (passed picked) m = subst (λ (k : Option Message). HasNext (passed before) before.kept (passed picked) k)
      kept next in
      let shown : (passed after).picked ≡ (passed picked).picked = same ∙ ap (λ (x : Passed). x.picked) pass in
      ⊎_elim
      (λ (x : (before.kept ≡ Some m) × ((passed picked).picked ≡ (passed before).picked)). inl (x.0, shown ∙ x.1))
      (λ (x : (before.kept ≡ None) × ((passed picked).picked ≡ (passed before).picked ++ m ∷ [])). inr (x.0, shown ∙ x.1))
      found

  waits-again : (m : Message) → tried.kept ≡ Some m → WaitsAgain (passed before) (passed after) after.kept m
  waits-again m kept =
      let put_now : WaitsAgain (passed tried) (passed after) after.kept m = subst (λ (k : Option Message). HasPut (passed tried) k (passed after) after.kept)
      kept again in
      let shown : (passed tried).put ≡ (passed before).put = ap (λ (x : Passed). x.put) pass ∙ put in
      ⊎_elim
      (λ (x : ((passed after).put ≡ (passed tried).put ++ m ∷ []) × (after.kept ≡ None)). inl (x.0 ∙ ap (λ l. l ++ m ∷ []) shown, x.1))
      (λ (x : ((passed after).put ≡ (passed tried).put) × (after.kept ≡ Some m) × Held 1024 (Leaves (passed after))). inr (x.0 ∙ shown, x.1, x.2))
      put_now

  nothing-put : tried.kept ≡ None → (after.kept ≡ None) × (passed after ≡ passed tried)
  nothing-put none = subst (λ (k : Option Message). HasPut (passed tried) k (passed after) after.kept) none again

  entries-after : entries_in tried ≡ entries_in picked → entries_in after ≡ entries_in before
  entries-after stay = ap (λ (x : FilerView). entries_of x) last ∙ stay ∙ ap (λ (x : FilerView). entries_of x) seat

  returned : (m m' : Message) → picked.kept ≡ Some m → tried.kept ≡ Some m' → entries_in tried ≡ entries_in picked → HasReturned before m m' after
  returned m m' kept left stay = record { next = next-is m kept; again = waits-again m' left; entries = entries-after stay }

  pub turn-did : (turned : Turn) → HasTried layout picked moment turned tried → Did layout before moment turned after
  turn-did (turns.Done a) did =
      let none = nothing-put did.2 in
      record {
        message = did.0;
        next = next-is did.0 did.1;
        put = ap (λ (x : Passed). x.put) (none.1 ∙ pass) ∙ put;
        kept = none.0;
        finished = subst (λ (x : FilerView). HasFinished x did.0 moment a (seat_view after)) seat
            (subst (λ (x : FilerView). HasFinished (seat_view picked) did.0 moment a x) (sym last) did.3);
      }
  turn-did turns.Moved did = (
    did.0,
    did.1,
    subst (λ (x : FilerView). HasMoved layout x did.0 moment did.1 (seat_view after)) seat
        (subst (λ (x : FilerView). HasMoved layout (seat_view picked) did.0 moment did.1 x) (sym last) did.4),
    returned did.0 did.1 did.2 did.3 did.5,
  )
  turn-did (turns.Busy at word) did = (
    did.0,
    returned did.0 did.0 did.1 did.2 did.3,
    subst (λ (x : FilerView). IsRefused layout x (call_affinity did.0.affinity) (refusals.Busy at word) (seat_view after)) seat
        (subst (λ (x : FilerView). IsRefused layout (seat_view picked) (call_affinity did.0.affinity) (refusals.Busy at word) x) (sym last) did.4),
  )
  turn-did turns.Worn did = (
    did.0,
    returned did.0 did.0 did.1 did.2 did.3,
    subst (λ (x : FilerView). IsRefused layout x (call_affinity did.0.affinity) refusals.Worn (seat_view after)) seat
        (subst (λ (x : FilerView). IsRefused layout (seat_view picked) (call_affinity did.0.affinity) refusals.Worn x) (sym last) did.4),
  )
  turn-did turns.Idle did =
      let none = nothing-put did.1 in
      let found = subst (λ (k : Option Message). HasNext (passed before) before.kept (passed picked) k) did.0 next in
      record {
        was_kept = found.0;
        kept = none.0;
        pass = none.1 ∙ pass ∙ found.1;
        found = found.2;
        view = last ∙ did.2 ∙ seat;
      }
