-- A queue in which nothing is left.
use Rattle.std.proofs.Common.{◌≡◌, ◌≤◌, ℕ, ◌+◌, ◌^◌, List, [], ◌∷◌, ◌++◌, length, refl, sym, ap, subst, ◌∙◌, arith}
use Rattle.crossbeam_queue.specs.Fifo.{Held}
use Rattle.affinity.specs.declared.layout.Layout as layouts
use Rattle.depot_rule.specs.Sums.{total}
use Rattle.depot_rule.specs.lemmas.Sums.{total-append}
use Rattle.nfs_model.specs.Tree.{Layout}
use Rattle.nfs_values.specs.declared.moment.Moment.{Moment}
use Rattle.outboxes.specs.Boxes.{Addressed}
use Rattle.granted_calls.specs.Balance.{Passed, Weight, by_entry, by_key, IsEven}
use Rattle.granted_calls.specs.Chains.{DidAll, HasTurnedOn}
use Rattle.granted_calls.specs.Served.{Standing}
use Rattle.granted_calls.specs.declared.chained.Chained.{Chained}
use Rattle.granted_calls.specs.declared.chained.Chained.TheVariants as chains
use Rattle.turns.specs.Words.{entries_in, passed}
use Rattle.granted_calls.specs.Messages.{Message}
use Rattle.granted_calls.specs.declared.shared_waiting.pass.Pass.{Pass}
use Rattle.turns.specs.declared.worker.Worker.{Worker}
use Rattle.granted_calls.specs.shared_waiting.Balance.{IsWhole, Leaves, both}
use Rattle.granted_calls.specs.shared_waiting.Passes.{known}
use Rattle.lanes.specs.Queues.{HasBoth, HasNoneLeft}

none-weighs : (items : List Message) → length items ≡ 0 → (weigh : Message → ℕ) → total weigh items ≡ 0
none-weighs [] e weigh = refl
none-weighs (x ∷ xs) e weigh = absurd (omega (arith, e))

pub turned-round : (x y h k : ℕ) → x + y ≡ 2 ^ (h + k) → y + x ≡ 2 ^ (k + h)
turned-round x y h k e =
    let a : y + x ≡ x + y = omega arith in
    let b : h + k ≡ k + h = omega arith in a ∙ e ∙ ap (λ n. 2 ^ n) b

-- what two passes put, which are all that there are, was picked
none-waits : (v w : Passed) → IsWhole (both v w) → Held 0 (Leaves (both w v)) → (weigh : Message → ℕ)
    → total weigh (v.put ++ w.put) ≡ total weigh (v.picked ++ w.picked)
none-waits v w whole (items, none, leaves) weigh =
    let e = leaves (turned-round _ _ v.halvings w.halvings whole) weigh in
    let a = total-append weigh w.put v.put in
    let b = total-append weigh w.picked v.picked in
    let c = total-append weigh v.put w.put in
    let d = total-append weigh v.picked w.picked in
    let z = none-weighs items none weigh in omega (arith, a, b, c, d, e, z)

pub none-left : (pass pass' : Pass Message layouts.Layout) (worker worker' : Worker) → HasBoth pass worker
    → Held 0 (Leaves (both (passed worker) (known pass))) → known pass' ≡ known pass → passed worker' ≡ passed worker → HasNoneLeft pass' worker'
none-left pass pass' worker worker' h held same_pass same_worker weigh =
    subst (λ (v : Passed). total weigh (v.put ++ (passed worker').put) ≡ total weigh (v.picked ++ (passed worker').picked)) (sym same_pass)
    (subst (λ (w : Passed). total weigh ((known pass).put ++ w.put) ≡ total weigh ((known pass).picked ++ w.picked)) (sym same_worker)
    (none-waits (known pass) (passed worker) h.0 held weigh))

-- turns that found no message picked nothing and put nothing
pub idle-same : {S : Type 0} (took : S → List Addressed → S → Type 0) (layout : Layout) (s : Standing) (moment : Moment) (sink : S)
    (chained : Chained) (sink' : S) (t : Standing) → HasTurnedOn took layout s moment sink chained sink' t → chained ≡ chains.Idle
    → t.pass ≡ s.pass
idle-same took layout s moment sink chained sink' t h is =
    let i = subst (λ (c : Chained). HasTurnedOn took layout s moment sink c sink' t) is h in
    let same : i.between ≡ s = subst (λ (l : List Addressed). DidAll moment s l i.between) i.suits.0 i.did in
    i.ends.pass ∙ ap (λ (x : Standing). x.pass) same

-- what a worker finished was put, each call as often at least, where what is there is known by both passes
pub finished-once : (pass : Pass Message layouts.Layout) (worker : Worker) (n : ℕ) → HasBoth pass worker → (known pass).picked ≡ []
    → Held n (Leaves (both (passed worker) (known pass))) → IsEven (passed worker) (entries_in worker) worker.kept
    → (h : Weight) → total (by_entry h) (entries_in worker) ≤ total (by_key h) (known pass).put
finished-once pass worker n whole none (items, count, leaves) even h =
    let v = known pass in
    let w = passed worker in
    let a = leaves (turned-round _ _ v.halvings w.halvings whole.0) (by_key h) in
    let b = total-append (by_key h) w.put v.put in
    let c = total-append (by_key h) w.picked v.picked in
    let d = ap (total (by_key h)) none in
    let e = even h in omega (arith, a, b, c, d, e)
