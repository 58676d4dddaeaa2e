-- An inner call on a seat: what it needs, what its run may end in, and what comes of it.
use Rattle.std.proofs.Common.{◌≡◌, ℕ, ◌<◌, Bool, List, [], ◌∷◌, ◌++◌, length, Option, Some, None, Ok, Err, refl, sym, ap, ◌∙◌, subst, arith}
use Rattle.nfs_model.specs.Tree.{Layout, Affinity, range_blocks_of}
use Rattle.nfs_model.specs.Parts.{Hand, Empty}
use Rattle.nfs_laws.specs.Sizes.{HaveSizes}
use Rattle.affinity.specs.Affinity.{affinity_of}
use Rattle.affinity.specs.declared.affinity.Kind.TheVariants as kinds
use Rattle.affinity.specs.Fault.{fault_of}
use Rattle.affinity.specs.Numbers.{number_of, parents}
use Rattle.affinity.specs.Tree.{IsNode}
use Rattle.affinity.specs.lemmas.Alike.{alike}
use Rattle.parcels.specs.Exact.{kind_in}
use Rattle.depot_rule.specs.Sums.{total}
use Rattle.depot_rule.specs.History.{after, listed, entries_of, AreHands, Legal, SoundHistory, SoundThroughout}
use Rattle.depot_rule.specs.Plays.{HasAdded}
use Rattle.depot.specs.Grants.{entry_of, HasWith, IsBegun, IsAfter, IsStep, IsEnded, IsFinished, IsRefused}
use Rattle.depot.specs.declared.grants.GrantRefusal.{GrantRefusal}
use Rattle.depot.specs.declared.grants.GrantRefusal.TheVariants as refusals
use Rattle.depot.specs.Words.{IsNodeOf}
use Rattle.depot.specs.lemmas.Seats.{begun-with, begun-entries, ended-entries, ended-none, finished-entries, finished-none}
use Rattle.desk.specs.laws.Backing.{CanFinish, CanPutBack}
use Rattle.filer_state.specs.state.Contents.{VolumeContents, volume_at, contents_of, filer_contents}
use Rattle.filer_state.specs.state.Jobs as jobs
use Rattle.filer_state.specs.state.Jobs.{InnerCall, Fetch, Deliver, Cull, Free, Survey, batches_in, inner_node, inner_volume}
use Rattle.filer_state.specs.state.Deeds.{FilerSteps}
use Rattle.filer_state.specs.state.Parcels.{FilerParcel}
use Rattle.filer_state.specs.state.Promises.{HandsMove}
use Rattle.filer_state.specs.state.Running.{HasSizedFiler, IsRefusedIn, IsRefusedOn}
use Rattle.filer_state.specs.state.Sound.{AreSound, IsFiler}
use Rattle.filer_state.specs.state.Tree.{tree}
use Rattle.filer_state.specs.laws.lemmas.Alike.{filer-same}
use Rattle.filer_state.specs.laws.lemmas.Each.{each-get}
use Rattle.filer_state.specs.declared.files.Files.{Files}
use Rattle.service.specs.Inner.{IsHandFor, InnerHasRun, InnerOutcome}
use Rattle.service.specs.Jobs.{inner_of, batch_reply_of, job_steps, job_takes, job_gives}
use Rattle.service.specs.Works.{range_call_of, logical_call_of}
use Rattle.service.specs.declared.inner.Undone.TheVariants.{NoSuchRange, NoMemory}
use Rattle.service.specs.declared.job.InnerCall as codes
use Rattle.service.specs.declared.works.RangeWork.{RangeWork}
use Rattle.service.specs.declared.works.RangeWork.TheVariants as ranges
use Rattle.service.specs.declared.works.LogicalWork.{LogicalWork}
use Rattle.service.specs.declared.works.LogicalWork.TheVariants as logicals
use Rattle.service.specs.declared.job.Job.TheVariants.{Inner}
use Rattle.service.specs.declared.job.BatchReply.{BatchReply}
use Rattle.service.specs.declared.job.JobReply.TheVariants as replies
use Rattle.granted_calls.specs.Balance.{FilerView, FilerEntry}
use Rattle.turns.specs.Carries.{node_tried, refusal_by, IsRefusedFor, MayCarry, Carries, HasRunInner, stock_left}
use Rattle.granted_calls.specs.Runs.{FilerLent}
use Rattle.turns.specs.Stocks.{stock_told}
use Rattle.granted_calls.specs.Served.{filer_behaviour}
use Rattle.granted_calls.specs.Filers.{HasOpened, IsReady}
use Rattle.turns.proofs.Added.{added-did}
use Rattle.granted_calls.proofs.Grants.{as-left}
use Rattle.turns.proofs.Looked.{told-left}
use Rattle.turns.proofs.Sized.{log-sized}

abbrev Parcels : Type 0
Parcels = ℕ → Option (FilerParcel Files)

-- the node that is tried is the call's
pub node-of-call : (call : InnerCall) → affinity_of (node_tried call) ≡ inner_node call
node-of-call (Fetch v r) = refl
node-of-call (Deliver v) = refl
node-of-call (Cull v) = refl
node-of-call (Free v r) = refl
node-of-call (Survey v) = refl

-- and it is of the kind of the node type that it is run for
module _ (layout : Layout) where
  pub range-node : (work : RangeWork) → IsNode layout (inner_node (range_call_of work)) → IsNodeOf layout kinds.Range (node_tried (range_call_of work))
  range-node (ranges.Fetch v r) on = (on, refl)
  range-node (ranges.Free v r batch) on = (on, refl)

  pub logical-node : (work : LogicalWork) → IsNode layout (inner_node (logical_call_of work))
      → IsNodeOf layout kinds.VolumeLogical (node_tried (logical_call_of work))
  logical-node (logicals.Deliver v batch) on = (on, refl)
  logical-node (logicals.Cull v) on = (on, refl)

-- what the depot refused, a tend is refused for
pub refused-for : (layout : Layout) (v w : FilerView) (call : InnerCall) (refusal : GrantRefusal) → IsRefused layout v (node_tried call) refusal w
    → IsRefusedFor layout v call (refusal_by refusal) w
refused-for layout v w call (refusals.Busy at word) refused = refused
refused-for layout v w call refusals.Worn refused = refused

-- the parcels that were granted are some sound filer's, whose sizes are the layout's, and what the seat took and didn't give is in its hands
pub granted-hand : (layout : Layout) → fault_of layout ≡ None → (node : Affinity) → IsNode layout node → (v : FilerView) → v.tree ≡ parents layout
    → (opened : (verifier : List ℕ) × HasOpened layout verifier v) → (f : Parcels) (given : List Hand)
    → AreHands job_takes job_gives (entries_of v) given → IsAfter filer_behaviour v (number_of layout node) f → HasSizedFiler layout node given f
granted-hand layout lawful node there v of opened f given own seen =
    let history : SoundHistory filer_behaviour v.tree v.first v.seen v.mine seen.0 = seen.1 in
    let g : Parcels = after (parents layout) (listed v.first) seen.0 in
    let good : IsFiler (parents layout) g history.hands (length seen.0) =
    subst (λ (ps : List ℕ). IsFiler ps (after ps (listed v.first) seen.0) history.hands (length seen.0)) of history.sound in
    let known : AreHands job_takes job_gives (entries_of v) history.hand = history.own_hand in
    let moves : HandsMove [] given history.hands history.others = λ weigh.
    let a = known weigh in
    let b = own weigh in
    let t = history.together weigh in
    omega (arith, a, b, t) in
    let sized : HaveSizes layout (tree layout g) =
    log-sized layout lawful opened.0 (listed v.first) opened.1 seen.0 (subst (λ (ps : List ℕ). Legal job_steps ps (listed v.first) seen.0) of history.legal)
    (subst (λ (ps : List ℕ). SoundThroughout filer_behaviour ps (listed v.first) seen.0) of history.throughout) in (
      (
        g,
        history.hands,
        history.others,
        length seen.0,
        as-left layout node there v of f seen,
        seen.2,
        moves,
        subst (λ c. AreSound c history.hands (length seen.0)) (filer-same good.0 layout (alike good.0 layout good.1.1) g) good.2,
      ),
      sized,
    )

module _ (layout : Layout) (lawful : fault_of layout ≡ None) (code : codes.InnerCall) (hand : Hand) (v w : FilerView)
    (may : MayCarry layout v (inner_of code) hand) (of_v : v.tree ≡ parents layout) (of_w : w.tree ≡ parents layout)
    (outcome : InnerOutcome BatchReply) (said : Option Bool) (l : FilerLent) (r : HasRunInner layout v (inner_of code) hand outcome said l w) where
  abbrev call : InnerCall
  call = inner_of code

  abbrev node : Affinity
  node = inner_node call

  abbrev before : Parcels
  before = r.before.parcels

  abbrev Ran : InnerOutcome BatchReply → Type 0
  Ran o = InnerHasRun batch_reply_of call hand layout node before o l.parcels

  here : l.affinity ≡ node
  here = r.done.affinity ∙ r.granted.affinity

  told : Ran outcome
  told = subst (λ a. InnerHasRun batch_reply_of call hand layout a before outcome l.parcels) r.granted.affinity r.done.did

  begun : IsBegun v (number_of layout node) before w
  begun = subst (λ a. IsBegun v (number_of layout a) before w) r.granted.affinity r.granted.begun

  left : IsAfter filer_behaviour v (number_of layout node) before
  left = subst (λ a. IsAfter filer_behaviour v (number_of layout a) before) r.granted.affinity r.granted.after

  has : HasWith w (number_of layout node) before
  has = begun-with v w (number_of layout node) before begun

  own : AreHands job_takes job_gives (entries_of w) (batches_in hand)
  own = subst (λ (es : List FilerEntry). AreHands job_takes job_gives es (batches_in hand)) (sym (begun-entries v w (number_of layout node) before begun))
      may.own

  -- ---- it is done

  module _ (reply : BatchReply) (is : outcome ≡ Ok reply) where
    ran : Ran (Ok reply)
    ran = subst Ran is told

    pub may-finish : CanFinish kind_in filer_behaviour layout w l (Inner code) (replies.Moved reply)
    may-finish =
        let step : IsStep filer_behaviour w (number_of layout node) (Inner code) (replies.Moved reply) l.parcels = (
          before,
          has,
          subst (λ ps. FilerSteps ps (number_of layout node) (jobs.Inner call) before (batch_reply_of reply) l.parcels) (sym of_w) ran.0,
        ) in
        record {
          node = subst (λ a. IsNode layout a) (sym here) may.fits.node;
          exact = r.whole.exact;
          step = subst (λ a. IsStep filer_behaviour w (number_of layout a) (Inner code) (replies.Moved reply) l.parcels) (sym here) step;
          hand = (
            batches_in hand,
            job_takes (Inner code) (replies.Moved reply),
            own,
            λ weigh.
                let g : total weigh (job_gives (Inner code) (replies.Moved reply)) ≡ total weigh (batches_in hand) = ap (total weigh) ran.1 in
                omega (arith, g),
          );
        }

    -- after it, the seat has an entry more, and no grant
    module _ (u : FilerView)
        (finished : IsFinished filer_behaviour w (number_of layout l.affinity)
        (entry_of layout l.affinity l.parcels (Inner code) (replies.Moved reply)) u) where
      abbrev entry : FilerEntry
      entry = entry_of layout l.affinity l.parcels (Inner code) (replies.Moved reply)

      ends : IsFinished filer_behaviour w (number_of layout node) entry u
      ends = subst (λ a. IsFinished filer_behaviour w (number_of layout a) entry u) here finished

      pub made-ready : (verifier : List ℕ) → IsReady layout verifier v → IsReady layout verifier u
      made-ready verifier ready = record {
        opened = subst (λ (x : FilerView). HasOpened layout verifier x) (sym ends.3)
            (subst (λ (x : FilerView). HasOpened layout verifier x) (sym begun.3) ready.opened);
        none_open = finished-none filer_behaviour v w u (number_of layout node) before entry ready.none_open begun ends;
      }

      made : Carries layout v call hand (batch_reply_of reply) u
      made =
          let added : HasAdded filer_behaviour v ends.2 entry = subst (λ (x : FilerView). HasAdded filer_behaviour x ends.2 entry) begun.3 ends.4 in
          record {
            entry = entry;
            is_call = refl;
            is_reply = refl;
            gave = ran.1;
            entries = finished-entries filer_behaviour w u (number_of layout node) entry ends
                ∙ ap (λ es. es ++ entry ∷ []) (begun-entries v w (number_of layout node) before begun);
            between = ends.2;
            added = added;
            did = added-did layout lawful v of_v ends.2 entry node may.fits.node (ap (number_of layout) here) added;
          }

      -- and what was told of a stock is so of what the entry left
      pub has-carried : (c : Carries layout v call hand (batch_reply_of reply) u) × (said ≡ stock_left layout call c.entry)
      unfolding made
      has-carried = (
        made,
        r.looked ∙ ap (λ (a : Affinity). stock_told layout a l.parcels) here ∙ told-left layout node may.fits.node l.parcels,
      )

  -- ---- it did nothing

  module _ (same : (k : ℕ) → l.parcels k ≡ before k) where
    may-go-back : CanPutBack layout w l
    may-go-back =
        let back : HasWith w (number_of layout node) l.parcels = (has.0, has.1, λ k some below cover. has.2 k some below cover ∙ sym (same k)) in
        record {
          node = subst (λ a. IsNode layout a) (sym here) may.fits.node;
          as_granted = subst (λ a. HasWith w (number_of layout a) l.parcels) (sym here) back;
        }

  module _ (u : FilerView) (ended : IsEnded w (number_of layout l.affinity) u) where
    ends-so : IsEnded w (number_of layout node) u
    ends-so = subst (λ a. IsEnded w (number_of layout a) u) here ended

    pub left-entries : entries_of u ≡ entries_of v
    left-entries = ended-entries w u (number_of layout node) ends-so ∙ begun-entries v w (number_of layout node) before begun

    pub left-ready : (verifier : List ℕ) → IsReady layout verifier v → IsReady layout verifier u
    left-ready verifier ready = record {
      opened = subst (λ (x : FilerView). HasOpened layout verifier x) (sym ended.2)
          (subst (λ (x : FilerView). HasOpened layout verifier x) (sym begun.3) ready.opened);
      none_open = ended-none v w u (number_of layout node) before ready.none_open begun ends-so;
    }

  module _ (is : outcome ≡ Err NoSuchRange) where
    refused : Ran (Err NoSuchRange)
    refused = subst Ran is told

    pub unused-goes-back : CanPutBack layout w l
    unused-goes-back = may-go-back refused.1

    pub is-unused : (parcels : Parcels) × IsAfter filer_behaviour v (number_of layout node) parcels × IsRefusedIn layout node call parcels
    is-unused = (before, left, refused.0)

    -- then it would fetch, and its hand is empty
    pub empty-hand : hand ≡ Empty
    empty-hand =
        let h = (granted-hand layout lawful node may.fits.node v of_v may.opened before (batches_in hand) may.own left).0 in
        by h.0 call may.fits.node may.fits.fits (λ p there. refused.0 h.0 h.1 h.3 h.4 h.7 p there)
      where
        at : (f : Parcels) (n : ℕ) → n < length layout.volumes → volume_at (filer_contents layout f) n ≡ Some (contents_of layout f n)
        at f n less = each-get (contents_of layout f) (length layout.volumes) n less

        by : (f : Parcels) (x : InnerCall) → IsNode layout (inner_node x) → IsHandFor (range_blocks_of layout (inner_volume x)) x hand
            → ((p : VolumeContents) → volume_at (filer_contents layout f) (inner_volume x) ≡ Some p → IsRefusedOn x p) → hand ≡ Empty
        by f (Fetch n i) on fits why = fits
        by f (Cull n) on fits why = fits
        by f (Survey n) on fits why = fits
        by f (Deliver n) on fits why = absurd (why (contents_of layout f n) (at f n on))
        by f (Free n i) on fits why = absurd (why (contents_of layout f n) (at f n on.0))

  module _ (back : Hand) (is : outcome ≡ Err (NoMemory back)) where
    starved : Ran (Err (NoMemory back))
    starved = subst Ran is told

    pub starved-goes-back : CanPutBack layout w l
    starved-goes-back = may-go-back starved.2
