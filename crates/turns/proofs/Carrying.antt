-- A worker after an inner call: its balance, its hand, and what its tend answers.
use Rattle.std.proofs.Common.{◌≡◌, ℕ, Bool, None, List, [], ◌∷◌, Option, refl, sym, ap, ◌∙◌, subst, arith}
use Rattle.std.specs.Prelude.{Result, Ok}
use Rattle.nfs_model.specs.Tree.{Layout}
use Rattle.nfs_model.specs.Parts.{Hand}
use Rattle.affinity.specs.Fault.{fault_of}
use Rattle.affinity.specs.Numbers.{parents}
use Rattle.affinity.specs.Tree.{IsNode}
use Rattle.depot_rule.specs.Sums.{total}
use Rattle.depot_rule.specs.lemmas.Sums.{total-append}
use Rattle.depot_rule.specs.lemmas.Histories.{moved-snoc}
use Rattle.depot_rule.specs.History.{AreHands, entries_of}
use Rattle.filer_state.specs.state.Contents.{filer_contents}
use Rattle.filer_state.specs.state.Tree.{ranges_used}
use Rattle.filer_state.specs.state.Partition.{parts_of}
use Rattle.filer_state.specs.state.Jobs as jobs
use Rattle.filer_state.specs.state.Jobs.{InnerCall, JobReply, takes, gives, batches_in, inner_node, inner_volume, InnerMoves}
use Rattle.filer_state.specs.laws.lemmas.LayoutSizes.{contents-sized}
use Rattle.service.specs.Jobs.{job_of, batch_reply_of, job_takes, job_gives}
use Rattle.service.specs.declared.job.Job.{Job}
use Rattle.service.specs.declared.job.Job.TheVariants.{Serve, Inner}
use Rattle.granted_calls.specs.Messages.{Message}
use Rattle.turns.specs.declared.tend.Carried.{Carried}
use Rattle.turns.specs.declared.tend.Carried.TheVariants.{Done, Refused}
use Rattle.turns.specs.declared.tend.TendRefusal.{TendRefusal}
use Rattle.turns.specs.declared.tend.Tended.{Tended}
use Rattle.turns.specs.declared.worker.Worker.{Worker}
use Rattle.granted_calls.specs.Balance.{Passed, FilerView, FilerEntry, Weight, by_job, by_entry, IsEven}
use Rattle.turns.specs.Carries.{HasCarried, IsToldOf, hand_after, left_by, stock_by}
use Rattle.turns.specs.Stocks.{stocked_after}
use Rattle.turns.specs.Tends.{stocked_in, Answers}
use Rattle.granted_calls.specs.Filers.{HasOpened}
use Rattle.turns.specs.Words.{seat_view, IsHandIn}
use Rattle.turns.proofs.Batches.{OfOneRange, hand-in}
use Rattle.turns.proofs.Sized.{before-sized}

-- ---- entries of inner calls

-- an inner call weighs nothing
inner-weighs : (h : Weight) (j : Job) (call : InnerCall) → job_of j ≡ jobs.Inner call → by_job h j ≡ 0
inner-weighs h (Serve served) call is = absurd (let no : ⊥ = cc in no)
inner-weighs h (Inner other) call is = refl

-- what an entry takes and gives is in its reply
takes-after : (j : jobs.Job) (reply : JobReply) → takes j reply ≡ batches_in (hand_after reply)
takes-after j (jobs.Took hand) = refl
takes-after j (jobs.Gave hand) = refl
takes-after j (jobs.Surveyed told) = refl
takes-after j (jobs.Replied reply) = refl

gives-same : (i j : jobs.Job) (reply : JobReply) → gives i reply ≡ gives j reply
gives-same i j (jobs.Took hand) = refl
gives-same i j (jobs.Gave hand) = refl
gives-same i j (jobs.Surveyed told) = refl
gives-same i j (jobs.Replied reply) = refl

module _ (layout : Layout) (v w : FilerView) (call : InnerCall) (hand : Hand) where
  -- ---- the worker after it

  pub still-even : (carried : Carried) (pass : Passed) (kept : Option Message) → HasCarried layout v call hand carried w → IsEven pass (entries_of v) kept
      → IsEven pass (entries_of w) kept
  still-even (Done reply told) pass kept did even = λ h.
      let b = even h in
      let d = ap (total (by_entry h)) did.0.entries in
      let s = total-append (by_entry h) (entries_of v) (did.0.entry ∷ []) in
      let k : by_entry h did.0.entry ≡ 0 = inner-weighs h did.0.entry.call call did.0.is_call in
      omega (arith, b, d, s, k)
  still-even (Refused back refusal) pass kept did even =
      subst (λ (es : List FilerEntry). IsEven pass es kept) (sym did.1) even

  pub hand-after-it : (carried : Carried) (next : Hand) (answer : Result Tended TendRefusal) → HasCarried layout v call hand carried w
      → IsToldOf carried next answer → AreHands job_takes job_gives (entries_of v) (batches_in hand)
      → AreHands job_takes job_gives (entries_of w) (batches_in next)
  hand-after-it (Done reply stock) next answer did told own =
      let e = did.0.entry in
      let es : List FilerEntry = entries_of v in
      let took : job_takes e.call e.reply ≡ batches_in next =
      ap (λ (r : JobReply). takes (job_of e.call) r) did.0.is_reply ∙ takes-after (job_of e.call) (batch_reply_of reply)
      ∙ ap batches_in (sym told.0) in
      let gave : job_gives e.call e.reply ≡ batches_in hand =
      ap (λ (r : JobReply). gives (job_of e.call) r) did.0.is_reply ∙ gives-same (job_of e.call) (jobs.Inner call) (batch_reply_of reply) ∙ did.0.gave in
      subst (λ (ds : List FilerEntry). AreHands job_takes job_gives ds (batches_in next)) (sym did.0.entries) (λ weigh.
      let t = moved-snoc job_takes weigh es e in
      let g = moved-snoc job_gives weigh es e in
      let t' = ap (total weigh) took in
      let g' = ap (total weigh) gave in
      let o = own weigh in
      omega (arith, t, g, t', g', o))
  hand-after-it (Refused back refusal) next answer did told own =
      subst (λ (es : List FilerEntry). AreHands job_takes job_gives es (batches_in next)) (sym did.1)
      (subst (λ h. AreHands job_takes job_gives (entries_of v) (batches_in h)) (sym (told.0 ∙ did.0)) own)

  pub hand-inside : fault_of layout ≡ None → (verifier : List ℕ) → v.tree ≡ parents layout → HasOpened layout verifier v
      → OfOneRange → (carried : Carried) (next : Hand) (answer : Result Tended TendRefusal) → HasCarried layout v call hand carried w
      → IsToldOf carried next answer → IsNode layout (inner_node call) → IsHandIn layout hand → IsHandIn layout next
  hand-inside lawful verifier of opened one (Done reply stock) next answer did told node inside =
      let c = did.0 in
      let d = c.did in
      let size =
      contents-sized layout (filer_contents layout (left_by v c.between)) (before-sized layout lawful verifier v of opened c.between c.entry c.added)
      (inner_volume call) d.before d.volume_before in
      subst (λ h. IsHandIn layout h) (sym told.0)
      (hand-in one layout call (ranges_used d.before.ranges) (parts_of d.before) (parts_of d.after) (batch_reply_of reply) node
      (subst (λ (m : ℕ). InnerMoves m call (ranges_used d.before.ranges) (parts_of d.before) (batch_reply_of reply) (parts_of d.after)) size d.moves))
  hand-inside lawful verifier of opened one (Refused back refusal) next answer did told node inside =
      subst (λ h. IsHandIn layout h) (sym (told.0 ∙ did.0)) inside

-- what its tend answers of it
pub answers-it : (layout : Layout) (before after : Worker) (call : InnerCall) (carried : Carried) (answer : Result Tended TendRefusal)
    → HasCarried layout (seat_view before) call before.hand carried (seat_view after) → IsToldOf carried after.hand answer
    → stocked_in after ≡ stocked_after (inner_volume call) (stock_by carried) (stocked_in before)
    → Answers layout before (Ok call) answer after
answers-it layout before after call (Done reply stock) answer did told known =
    subst (λ (x : Result Tended TendRefusal). Answers layout before (Ok call) x after) (sym told.2)
    (record {
      reply = batch_reply_of reply;
      carries = did.0;
      hand = told.0;
      told = told.3;
      stocked = known ∙ ap (λ (o : Option Bool). stocked_after (inner_volume call) o (stocked_in before)) did.1;
    })
answers-it layout before after call (Refused back refusal) answer did told known =
    subst (λ (x : Result Tended TendRefusal). Answers layout before (Ok call) x after) (sym told.1) (did.1, told.0 ∙ did.0, did.2, known)
