-- How many calls a seat finished under one grant.
use Rattle.std.proofs.Common.{◌≡◌, ◌≤◌, ◌+◌, ℕ, List, [], ◌∷◌, ◌++◌, length, length-append, Option, ap, arith}
use Rattle.nfs_model.specs.Tree.{Layout, Affinity}
use Rattle.nfs_values.specs.declared.moment.Moment.{Moment}
use Rattle.nfs_values.specs.declared.reply.Reply.{Reply}
use Rattle.affinity.specs.Affinity.{call_node}
use Rattle.affinity.specs.Numbers.{number_of}
use Rattle.parcels.specs.Exact.{kind_in}
use Rattle.depot_rule.specs.History.{entries_of}
use Rattle.depot.specs.lemmas.Seats.{begun-entries, ended-entries, finished-entries}
use Rattle.depot.specs.Grants.{entry_of}
use Rattle.desk.specs.laws.Backing.{IsGranted}
use Rattle.outboxes.specs.Boxes.{Addressed}
use Rattle.service.specs.declared.job.JobReply.TheVariants.{Replied}
use Rattle.granted_calls.specs.Messages.{Message}
use Rattle.granted_calls.specs.declared.linking.Tried.{Tried}
use Rattle.granted_calls.specs.declared.linking.Tried.TheVariants as tries
use Rattle.granted_calls.specs.declared.linking.Link.TheVariants as links
use Rattle.granted_calls.specs.Balance.{Passed, FilerView, FilerEntry}
use Rattle.granted_calls.specs.Links.{job_in, HasEnded, HasLinked, HasStayed, Stands}
use Rattle.granted_calls.specs.Runs.{FilerLent}
use Rattle.granted_calls.specs.Served.{filer_behaviour, Standing}

one-more : (es es' : List FilerEntry) (e : FilerEntry) → es' ≡ es ++ e ∷ [] → length es' ≡ length es + 1
one-more es es' e is =
    let size = ap (λ (xs : List FilerEntry). length xs) is in let more = length-append es (e ∷ []) in omega (arith, size, more)

as-many : (es es' : List FilerEntry) → es' ≡ es → length es' ≡ length es
as-many es es' is = ap (λ (xs : List FilerEntry). length xs) is

pub granted-size : (layout : Layout) (v w : FilerView) (a : Affinity) (l : FilerLent) → IsGranted kind_in filer_behaviour layout v a l w
    → length (entries_of w) ≡ length (entries_of v)
granted-size layout v w a l granted =
    as-many (entries_of v) (entries_of w) (begun-entries v w (number_of layout l.affinity) l.parcels granted.begun)

stayed-size : (tried : Tried) (w w' : FilerView) → HasStayed tried w w' → length (entries_of w') ≡ length (entries_of w)
stayed-size (tries.Moved m to) w w' stayed = ap (λ (v : FilerView). length (entries_of v)) stayed
stayed-size (tries.Entered e next) w w' stayed = ap (λ (v : FilerView). length (entries_of v)) stayed.2

-- ---- a link

module _ {S : Type 0} (took : S → List Addressed → S → Type 0) (layout : Layout) (verifier : List ℕ) (b : Standing) (m : Message) (moment : Moment)
    (pass pass' : Passed) (l l' : FilerLent) (w w' : FilerView) (sink sink' : S) (said : Reply) (stands : Stands layout verifier b m pass l w) where
  -- one call more is finished
  pub on-size : (next : Message) → HasLinked took layout verifier b m moment pass l w sink (links.On next) said pass' l' w' sink'
      → length (entries_of w') ≡ length (entries_of w) + 1
  on-size next h =
      let here = granted-size layout b.view w (call_node m.affinity) l stands.granted in
      let one = one-more (entries_of b.view) (entries_of h.1.view) h.2.finished.entry h.2.finished.entries in
      let there = granted-size layout h.1.view w' (call_node next.affinity) l' h.4.granted in
      omega (arith, here, one, there)

  -- or none
  pub over-size : (tried : Tried) → HasLinked took layout verifier b m moment pass l w sink (links.Over tried) said pass' l' w' sink'
      → length (entries_of w') ≡ length (entries_of w)
  over-size tried h =
      let o = h.1 in
      let here = granted-size layout b.view w (call_node m.affinity) l stands.granted in
      let there = granted-size layout b.view o.holding (call_node o.message.affinity) o.before o.stands.granted in
      let same = stayed-size tried o.holding w' o.stayed in
      omega (arith, here, there, same)

-- ---- the end

pub ended-size : {S : Type 0} (took : S → List Addressed → S → Type 0) (layout : Layout) (w u : FilerView) (l : FilerLent) (kept : Option Message)
    (sink sink' : S) (tried : Tried) (said : Reply) → HasEnded took layout w l tried said sink u kept sink'
    → length (entries_of u) ≤ length (entries_of w) + 1
ended-size took layout w u l kept sink sink' (tries.Moved m to) said ended =
    let same = as-many (entries_of w) (entries_of u) (ended-entries w u (number_of layout l.affinity) ended.0) in omega (arith, same)
ended-size took layout w u l kept sink sink' (tries.Entered e next) said ended =
    let entry : FilerEntry = entry_of layout l.affinity l.parcels (job_in e) (Replied said) in
    let one = one-more (entries_of w) (entries_of u) entry (finished-entries filer_behaviour w u (number_of layout l.affinity) entry ended.0) in
    omega (arith, one)
