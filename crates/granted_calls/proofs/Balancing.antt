-- The balance of what is picked, finished and kept, and the share of a pass.
use Rattle.std.proofs.Common.{◌≡◌, ℕ, ◌+◌, List, [], ◌∷◌, ◌++◌, Option, Some, None, ⊎_elim, sym, ap, ◌∙◌, subst, arith}
use Rattle.std.specs.Prelude.{option_map}
use Rattle.nfs_model.specs.Parts.{Hand}
use Rattle.nfs_model.specs.Tree as trees
use Rattle.nfs_values.specs.declared.moment.Moment.{Moment}
use Rattle.affinity.specs.declared.layout.Layout.{Layout}
use Rattle.affinity.specs.Layout.{layout_of}
use Rattle.depot_rule.specs.declared.view.Entry.{Entry}
use Rattle.depot_rule.specs.Sums.{total}
use Rattle.depot_rule.specs.lemmas.Sums.{total-append}
use Rattle.depot_rule.specs.lemmas.Histories.{moved-snoc}
use Rattle.depot_rule.specs.History.{AreHands}
use Rattle.outboxes.specs.Boxes.{Addressed}
use Rattle.service.specs.Jobs.{job_takes, job_gives}
use Rattle.service.specs.declared.job.Job.{Job}
use Rattle.service.specs.declared.job.JobReply.{JobReply}
use Rattle.granted_calls.specs.Messages.{Message}
use Rattle.granted_calls.specs.Balance.{Passed, FilerEntry, Weight, by_key, by_job, by_entry, by_kept, IsEven}
use Rattle.granted_calls.specs.Served.{IsNext, HasNext, IsEntryOf, HasShareOf}
use Rattle.granted_calls.specs.Filers.{layout_known}

-- ---- the balance

pub total-snoc : {X : Type 0} (f : X → ℕ) (xs : List X) (y : X) → total f (xs ++ y ∷ []) ≡ total f xs + f y
total-snoc f xs y = let r = total-append f xs (y ∷ []) in omega (arith, r)

weighs-next : (h : Weight) (v : Passed) (kept : Option Message) (w : Passed) (m : Message) → IsNext v kept w m
    → total (by_key h) w.picked + by_kept h kept ≡ total (by_key h) v.picked + by_key h m
weighs-next h v kept w m = ⊎_elim
    (λ (x : (kept ≡ Some m) × (w.picked ≡ v.picked)).
    let a = ap (by_kept h) x.0 in let b = ap (total (by_key h)) x.1 in omega (arith, a, b))
    (λ (x : (kept ≡ None) × (w.picked ≡ v.picked ++ m ∷ [])).
    let a = ap (by_kept h) x.0 in let b = ap (total (by_key h)) x.1 in
    let s = total-snoc (by_key h) v.picked m in omega (arith, a, b, s))

module _ {P : Type 0} where
  -- the next message is kept
  pub picks : (v v' : Passed) (kept kept' : Option Message) (done : List (Entry P Job JobReply))
      → IsEven v done kept → HasNext v kept v' kept' → v'.put ≡ v.put → IsEven v' done kept'
  picks v v' kept None done even next put h =
      let e = even h in
      let k = ap (by_kept h) next.0 in
      let p = ap (λ (x : Passed). total (by_key h) x.picked) next.1 in
      let q = ap (total (by_key h)) put in
      omega (arith, e, k, p, q)
  picks v v' kept (Some m) done even next put h =
      let e = even h in
      let n = weighs-next h v kept v' m next in
      let q = ap (total (by_key h)) put in
      omega (arith, e, n, q)

  -- a message of the same record and with the same call is kept, whatever it tries
  pub keeps : (v : Passed) (m m' : Message) (done done' : List (Entry P Job JobReply)) → ((h : Weight) → by_key h m' ≡ by_key h m)
      → done' ≡ done → IsEven v done (Some m) → IsEven v done' (Some m')
  keeps v m m' done done' weighs same even h =
      let e = even h in
      let d = ap (total (by_entry h)) same in
      let k = weighs h in
      omega (arith, e, d, k)

-- what is kept is finished
pub finishes : (v : Passed) (m : Message) (moment : Moment) (a : Addressed) (e : FilerEntry) (done done' : List FilerEntry)
    → IsEven v done (Some m) → done' ≡ done ++ e ∷ [] → IsEntryOf m moment a e → IsEven v done' None
finishes v m moment a e done done' even did is h =
    let b = even h in
    let d = ap (total (by_entry h)) did in
    let s = total-snoc (by_entry h) done e in
    let k : by_entry h e ≡ by_key h m = ap (by_job h) is.call in
    omega (arith, b, d, s, k)

-- ---- the share

pub share-from : (u v w : Passed) → HasShareOf u v → HasShareOf v w → HasShareOf u w
share-from u v w one two = (two.0 ∙ one.0, two.1 ∙ one.1, two.2 ∙ one.2)

-- a pass that has its share still is of a queue of the same layout
pub known-still : (layout : trees.Layout) (v w : Passed) → HasShareOf v w → layout_known v ≡ Some layout → layout_known w ≡ Some layout
known-still layout v w share known = ap (λ (k : Option Layout). option_map layout_of k) share.2 ∙ known

-- ---- the hand

-- an entry that moves no batch leaves the hand
pub hand-stays : (es es' : List FilerEntry) (e : FilerEntry) (hand : List Hand) → job_takes e.call e.reply ≡ [] → job_gives e.call e.reply ≡ []
    → es' ≡ es ++ e ∷ [] → AreHands job_takes job_gives es hand → AreHands job_takes job_gives es' hand
hand-stays es es' e hand none none' more own = subst (λ (ds : List FilerEntry). AreHands job_takes job_gives ds hand) (sym more) (λ weigh.
    let t = moved-snoc job_takes weigh es e in
    let g = moved-snoc job_gives weigh es e in
    let tn : total weigh (job_takes e.call e.reply) ≡ 0 = ap (total weigh) none in
    let gn : total weigh (job_gives e.call e.reply) ≡ 0 = ap (total weigh) none' in
    let o = own weigh in omega (arith, t, g, tn, gn, o))
