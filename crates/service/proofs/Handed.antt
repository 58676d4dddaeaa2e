-- From the run of an inner call on the part of a volume that it holds to its run by parcels.
use Rattle.std.proofs.Common.{◌≡◌, ℕ, ◌<◌, length, Option, Some, None, Ok, Err, refl, sym, ap, ◌∙◌, subst, arith}
use Rattle.nfs_model.specs.Parts.{Hand}
use Rattle.nfs_model.specs.Tree.{Layout, Affinity, Logical, Vbn, Range, stripes_of, range_blocks_of}
use Rattle.affinity.specs.Fault.{fault_of}
use Rattle.affinity.specs.Numbers.{number_of, parents}
use Rattle.affinity.specs.Tree.{IsNode}
use Rattle.parcels.specs.Sets.{range_parcels, vbn_parcels, logical_parcels}
use Rattle.nfs_model.specs.volume.Ranges.{RangeValue}
use Rattle.filer_state.specs.state.Contents.{VolumeContents}
use Rattle.filer_state.specs.state.Deeds.{FilerSteps}
use Rattle.filer_state.specs.state.Jobs.{InnerCall, Fetch, Deliver, Cull, Free, Survey, Inner, JobReply, batches_in, inner_node, inner_volume}
use Rattle.filer_state.specs.state.Lenses.{Lens, in_volume, range_lens, vbn_lens, logical_lens}
use Rattle.filer_state.specs.state.Parcels.{FilerParcel}
use Rattle.filer_state.specs.state.Partition.{AreOf}
use Rattle.filer_state.specs.state.Promises.{HasVolume, IsRight, IsSeenBy}
use Rattle.filer_state.specs.state.Running.{HasSizedFiler}
use Rattle.filer_state.specs.state.Sets.{FilerRange, FilerVbn, FilerLogical, vbn_set, logical_set, logical_before, logical_after}
use Rattle.filer_state.specs.laws.lemmas.Granted.{range-has, logical-has}
use Rattle.filer_state.specs.laws.lemmas.Kinds.{range-step, vbn-step, logical-step}
use Rattle.filer_state.specs.laws.lemmas.LayoutSizes.{range-sized, logical-sized}
use Rattle.filer_state.specs.laws.lemmas.Running.{inner-runs-by}
use Rattle.filer_state.specs.laws.lemmas.SeenSets.{range-seen, vbn-seen, logical-seen}
use Rattle.service.specs.Inner.{InnerHasRun, InnerOutcome, IsHandFor}
use Rattle.service.specs.InnerOn.{HasRunOn, MayRunOn, UnlessDone}
use Rattle.service.specs.Jobs.{batch_reply_of, counts_reply_of}
use Rattle.service.specs.declared.job.BatchReply.{BatchReply}
use Rattle.service.specs.declared.job.FreeCounts.{FreeCounts}
use Rattle.service.specs.declared.inner.Undone.TheVariants.{NoSuchRange, NoMemory}
use Rattle.service.proofs.InHand.{hand-of}

-- ---- of any part

module _ {P S A : Type 0} (told : A → JobReply) (layout : Layout) (call : InnerCall) (on : inner_volume call < length layout.volumes)
    (lens : Lens VolumeContents S)
    (numbered : (s : S) (p : VolumeContents) → (lens.put s p).number ≡ p.number) (before after : ℕ → Option (FilerParcel P)) (old new : S)
    (was : IsSeenBy layout (inner_node call) (in_volume (inner_volume call) lens) before old)
    (step : (reply : JobReply) → IsRight layout (inner_node call) (in_volume (inner_volume call) lens) (Inner call) old reply new
    → FilerSteps (parents layout) (number_of layout (inner_node call)) (Inner call) before reply after)
    (size : ℕ) (hand : Hand) (is : IsHandFor size call hand) where
  has-run : (outcome : InnerOutcome A) → UnlessDone outcome ((k : ℕ) → after k ≡ before k)
      → HasRunOn told (inner_volume call) lens call hand old outcome new → InnerHasRun told call hand layout (inner_node call) before outcome after
  has-run (Ok reply) same right = (
    inner-runs-by layout call on lens numbered before after old new was step (Some (told reply)) right.0 right.1
        (subst (AreOf (inner_volume call)) (sym right.2) (hand-of size call hand is)) (λ e. let never : ⊥ = cc in absurd never),
    right.2,
  )
  has-run (Err NoSuchRange) same right =
      inner-runs-by layout call on lens numbered before after old new was step None right (λ u other n. refl) (λ u other n. refl) (λ e. same)
  has-run (Err (NoMemory back)) same right = (right.0, right.1, same)

unless-mapped : {R : Type 0} (outcome : InnerOutcome R) (A B : Type 0) → (A → B) → UnlessDone outcome A → UnlessDone outcome B
unless-mapped (Ok reply) A B f a = tt
unless-mapped (Err undone) A B f a = f a

-- a range that a sound volume has is of its own number
of-number : (v r : ℕ) → r < 16 → (hands : _) (x : RangeValue) → HasVolume v (range_lens r) hands x → x.number ≡ r
of-number v r less hands x h =
    ap (λ (y : RangeValue). y.number) (sym h.4) ∙ (h.8.well_formed.ranges r (let size = h.8.well_formed.sixteen in omega (arith, size, less))).number

-- ---- of each kind of node

module _ {P : Type 0} (layout : Layout) (lawful : fault_of layout ≡ None) where
  module _ (v r : ℕ) (there : IsNode layout (Range v r)) (hand : Hand) (old : FilerRange P)
      (filer : HasSizedFiler layout (Range v r) (batches_in hand) (range_parcels layout (Range v r) old)) where
    range-whole : HasVolume v (range_lens r) (batches_in hand) old.own
    range-whole = range-has layout lawful (batches_in hand) v there.0 r there.1 old filer.0

    abbrev size : ℕ
    size = range_blocks_of layout v

    sized : old.own.range_blocks ≡ size
    sized = range-sized layout lawful (batches_in hand) v there.0 r there.1 old filer

    -- what is in the hand, by the range's own size
    own-hand : IsHandFor size (Free v r) hand → IsHandFor old.own.range_blocks (Free v r) hand
    own-hand is = subst (λ (m : ℕ). IsHandFor m (Free v r) hand) (sym sized) is

    numbered : old.own.number ≡ r
    numbered = of-number v r there.1 (batches_in hand) old.own range-whole

    -- what is asked of a dead batch
    may-free : IsHandFor size (Free v r) hand → MayRunOn old.own.range_blocks v (range_lens old.own.number) (Free v old.own.number) hand old.own
    may-free is = subst (λ (n : ℕ). MayRunOn old.own.range_blocks v (range_lens n) (Free v n) hand old.own) (sym numbered) (own-hand is, range-whole)

    module _ (new : FilerRange P) (outcome : InnerOutcome BatchReply) (same : UnlessDone outcome (new ≡ old)) where
      same-range : UnlessDone outcome ((k : ℕ) → range_parcels layout (Range v r) new k ≡ range_parcels layout (Range v r) old k)
      same-range =
          unless-mapped outcome (new ≡ old) ((k : ℕ) → range_parcels layout (Range v r) new k ≡ range_parcels layout (Range v r) old k)
          (λ e k. ap (λ (h : FilerRange P). range_parcels layout (Range v r) h k) e) same

      fetch-ran : IsHandFor size (Fetch v r) hand
          → HasRunOn batch_reply_of v (range_lens old.own.number) (Fetch v old.own.number) hand old.own outcome new.own
          → InnerHasRun batch_reply_of (Fetch v r) hand layout (Range v r) (range_parcels layout (Range v r) old) outcome (range_parcels layout (Range v r) new)
      fetch-ran is ran =
          has-run batch_reply_of layout (Fetch v r) there.0 (range_lens r) (λ s p. refl) (range_parcels layout (Range v r) old)
          (range_parcels layout (Range v r) new)
          old.own new.own (range-seen layout lawful v there.0 r there.1 old)
          (λ reply step. range-step layout lawful (Inner (Fetch v r)) reply v there.0 r there.1 old new step) size hand is outcome same-range
          (subst (λ (n : ℕ). HasRunOn batch_reply_of v (range_lens n) (Fetch v n) hand old.own outcome new.own) numbered ran)

      free-ran : IsHandFor size (Free v r) hand
          → (IsHandFor old.own.range_blocks (Free v old.own.number) hand
          → HasRunOn batch_reply_of v (range_lens old.own.number) (Free v old.own.number) hand old.own outcome new.own)
          → InnerHasRun batch_reply_of (Free v r) hand layout (Range v r) (range_parcels layout (Range v r) old) outcome (range_parcels layout (Range v r) new)
      free-ran is ran =
          has-run batch_reply_of layout (Free v r) there.0 (range_lens r) (λ s p. refl) (range_parcels layout (Range v r) old)
          (range_parcels layout (Range v r) new)
          old.own new.own (range-seen layout lawful v there.0 r there.1 old)
          (λ reply step. range-step layout lawful (Inner (Free v r)) reply v there.0 r there.1 old new step) size hand is outcome same-range
          (subst (λ (n : ℕ). IsHandFor old.own.range_blocks (Free v n) hand → HasRunOn batch_reply_of v (range_lens n) (Free v n) hand old.own outcome new.own)
          numbered ran (own-hand is))

  pub fetch-runs : (v r : ℕ) (a : Affinity) → a ≡ Range v r → IsNode layout a → (hand : Hand) → IsHandFor (range_blocks_of layout v) (Fetch v r) hand
      → (old new : FilerRange P)
      → HasSizedFiler layout a (batches_in hand) (range_parcels layout a old) → (outcome : InnerOutcome BatchReply) → UnlessDone outcome (new ≡ old)
      → HasRunOn batch_reply_of v (range_lens old.own.number) (Fetch v old.own.number) hand old.own outcome new.own
      → InnerHasRun batch_reply_of (Fetch v r) hand layout a (range_parcels layout a old) outcome (range_parcels layout a new)
  fetch-runs v r a at there hand is old new filer outcome same ran =
      subst (λ (b : Affinity). IsNode layout b → HasSizedFiler layout b (batches_in hand) (range_parcels layout b old)
      → InnerHasRun batch_reply_of (Fetch v r) hand layout b (range_parcels layout b old) outcome (range_parcels layout b new)) (sym at)
      (λ node has. fetch-ran v r node hand old has new outcome same is ran) there filer

  pub free-asks : (v r : ℕ) (a : Affinity) → a ≡ Range v r → IsNode layout a → (hand : Hand) → IsHandFor (range_blocks_of layout v) (Free v r) hand
      → (old : FilerRange P)
      → HasSizedFiler layout a (batches_in hand) (range_parcels layout a old)
      → MayRunOn old.own.range_blocks v (range_lens old.own.number) (Free v old.own.number) hand old.own
  free-asks v r a at there hand is old filer =
      subst (λ (b : Affinity). IsNode layout b → HasSizedFiler layout b (batches_in hand) (range_parcels layout b old)
      → MayRunOn old.own.range_blocks v (range_lens old.own.number) (Free v old.own.number) hand old.own) (sym at)
      (λ node has. may-free v r node hand old has is) there filer

  pub free-runs : (v r : ℕ) (a : Affinity) → a ≡ Range v r → IsNode layout a → (hand : Hand) → IsHandFor (range_blocks_of layout v) (Free v r) hand
      → (old new : FilerRange P)
      → HasSizedFiler layout a (batches_in hand) (range_parcels layout a old) → (outcome : InnerOutcome BatchReply) → UnlessDone outcome (new ≡ old)
      → (IsHandFor old.own.range_blocks (Free v old.own.number) hand
      → HasRunOn batch_reply_of v (range_lens old.own.number) (Free v old.own.number) hand old.own outcome new.own)
      → InnerHasRun batch_reply_of (Free v r) hand layout a (range_parcels layout a old) outcome (range_parcels layout a new)
  free-runs v r a at there hand is old new filer outcome same ran =
      subst (λ (b : Affinity). IsNode layout b → HasSizedFiler layout b (batches_in hand) (range_parcels layout b old)
      → InnerHasRun batch_reply_of (Free v r) hand layout b (range_parcels layout b old) outcome (range_parcels layout b new)) (sym at)
      (λ node has. free-ran v r node hand old has new outcome same is ran) there filer

  -- a survey changes nothing
  pub survey-runs : (v : ℕ) (a : Affinity) → a ≡ Vbn v → IsNode layout a → (hand : Hand) → IsHandFor (range_blocks_of layout v) (Survey v) hand
      → (held : FilerVbn P)
      → (outcome : InnerOutcome FreeCounts) → HasRunOn counts_reply_of v vbn_lens (Survey v) hand (vbn_set held) outcome (vbn_set held)
      → InnerHasRun counts_reply_of (Survey v) hand layout a (vbn_parcels layout a held) outcome (vbn_parcels layout a held)
  survey-runs v a at there hand is held outcome ran =
      subst (λ (b : Affinity). IsNode layout b → InnerHasRun counts_reply_of (Survey v) hand layout b (vbn_parcels layout b held) outcome
      (vbn_parcels layout b held)) (sym at)
      (λ node.
      has-run counts_reply_of layout (Survey v) node vbn_lens (λ s p. refl) (vbn_parcels layout (Vbn v) held) (vbn_parcels layout (Vbn v) held)
      (vbn_set held) (vbn_set held) (vbn-seen layout lawful v node held)
      (λ reply step. vbn-step layout lawful (Inner (Survey v)) reply v node held held step) (range_blocks_of layout v) hand is outcome
      (unchanged outcome) ran) there
    where
      unchanged : (o : InnerOutcome FreeCounts) → UnlessDone o ((k : ℕ) → vbn_parcels layout (Vbn v) held k ≡ vbn_parcels layout (Vbn v) held k)
      unchanged (Ok reply) = tt
      unchanged (Err undone) = λ k. refl

  -- on Logical
  module _ (v : ℕ) (there : IsNode layout (Logical v)) (hand : Hand) (old new : FilerLogical P)
      (filer : HasSizedFiler layout (Logical v) (batches_in hand) (logical_parcels layout (Logical v) old)) (outcome : InnerOutcome BatchReply)
      (same : UnlessDone outcome (new ≡ old)) where
    striped : old.own.stripes ≡ stripes_of layout v
    striped = (logical-has layout lawful (batches_in hand) v there old filer.0).0

    same-logical : UnlessDone outcome ((k : ℕ) → logical_parcels layout (Logical v) new k ≡ logical_parcels layout (Logical v) old k)
    same-logical =
        unless-mapped outcome (new ≡ old) ((k : ℕ) → logical_parcels layout (Logical v) new k ≡ logical_parcels layout (Logical v) old k)
        (λ e k. ap (λ (h : FilerLogical P). logical_parcels layout (Logical v) h k) e) same

    deliver-ran : IsHandFor (range_blocks_of layout v) (Deliver v) hand
        → HasRunOn batch_reply_of v logical_lens (Deliver v) hand (logical_before old) outcome (logical_after old new)
        → InnerHasRun batch_reply_of (Deliver v) hand layout (Logical v) (logical_parcels layout (Logical v) old) outcome
        (logical_parcels layout (Logical v) new)
    deliver-ran is ran =
        has-run batch_reply_of layout (Deliver v) there logical_lens (λ s p. refl) (logical_parcels layout (Logical v) old)
        (logical_parcels layout (Logical v) new)
        (logical_set (stripes_of layout v) old) (logical_set (stripes_of layout v) new) (logical-seen layout lawful v there old)
        (λ reply step. logical-step layout lawful (Inner (Deliver v)) reply v there old new step) (range_blocks_of layout v) hand is outcome same-logical
        (subst (λ (n : ℕ). HasRunOn batch_reply_of v logical_lens (Deliver v) hand (logical_set n old) outcome (logical_set n new)) striped ran)

    cull-ran : IsHandFor (range_blocks_of layout v) (Cull v) hand
        → HasRunOn batch_reply_of v logical_lens (Cull v) hand (logical_before old) outcome (logical_after old new)
        → InnerHasRun batch_reply_of (Cull v) hand layout (Logical v) (logical_parcels layout (Logical v) old) outcome (logical_parcels layout (Logical v) new)
    cull-ran is ran =
        has-run batch_reply_of layout (Cull v) there logical_lens (λ s p. refl) (logical_parcels layout (Logical v) old)
        (logical_parcels layout (Logical v) new)
        (logical_set (stripes_of layout v) old) (logical_set (stripes_of layout v) new) (logical-seen layout lawful v there old)
        (λ reply step. logical-step layout lawful (Inner (Cull v)) reply v there old new step) (range_blocks_of layout v) hand is outcome same-logical
        (subst (λ (n : ℕ). HasRunOn batch_reply_of v logical_lens (Cull v) hand (logical_set n old) outcome (logical_set n new)) striped ran)

  pub deliver-asks : (v : ℕ) (a : Affinity) → a ≡ Logical v → IsNode layout a → (hand : Hand) → IsHandFor (range_blocks_of layout v) (Deliver v) hand
      → (old : FilerLogical P)
      → HasSizedFiler layout a (batches_in hand) (logical_parcels layout a old)
      → MayRunOn old.own.dead.range_blocks v logical_lens (Deliver v) hand (logical_before old)
  deliver-asks v a at there hand is old filer =
      subst (λ (b : Affinity). IsNode layout b → HasSizedFiler layout b (batches_in hand) (logical_parcels layout b old)
      → MayRunOn old.own.dead.range_blocks v logical_lens (Deliver v) hand (logical_before old)) (sym at)
      (λ node has. (
        subst (λ (m : ℕ). IsHandFor m (Deliver v) hand) (sym (logical-sized layout lawful (batches_in hand) v node old has)) is,
        (logical-has layout lawful (batches_in hand) v node old has.0).1,
      )) there filer

  pub deliver-runs : (v : ℕ) (a : Affinity) → a ≡ Logical v → IsNode layout a → (hand : Hand) → IsHandFor (range_blocks_of layout v) (Deliver v) hand
      → (old new : FilerLogical P)
      → HasSizedFiler layout a (batches_in hand) (logical_parcels layout a old) → (outcome : InnerOutcome BatchReply) → UnlessDone outcome (new ≡ old)
      → HasRunOn batch_reply_of v logical_lens (Deliver v) hand (logical_before old) outcome (logical_after old new)
      → InnerHasRun batch_reply_of (Deliver v) hand layout a (logical_parcels layout a old) outcome (logical_parcels layout a new)
  deliver-runs v a at there hand is old new filer outcome same ran =
      subst (λ (b : Affinity). IsNode layout b → HasSizedFiler layout b (batches_in hand) (logical_parcels layout b old)
      → InnerHasRun batch_reply_of (Deliver v) hand layout b (logical_parcels layout b old) outcome (logical_parcels layout b new)) (sym at)
      (λ node has. deliver-ran v node hand old new has outcome same is ran) there filer

  pub cull-runs : (v : ℕ) (a : Affinity) → a ≡ Logical v → IsNode layout a → (hand : Hand) → IsHandFor (range_blocks_of layout v) (Cull v) hand
      → (old new : FilerLogical P)
      → HasSizedFiler layout a (batches_in hand) (logical_parcels layout a old) → (outcome : InnerOutcome BatchReply) → UnlessDone outcome (new ≡ old)
      → HasRunOn batch_reply_of v logical_lens (Cull v) hand (logical_before old) outcome (logical_after old new)
      → InnerHasRun batch_reply_of (Cull v) hand layout a (logical_parcels layout a old) outcome (logical_parcels layout a new)
  cull-runs v a at there hand is old new filer outcome same ran =
      subst (λ (b : Affinity). IsNode layout b → HasSizedFiler layout b (batches_in hand) (logical_parcels layout b old)
      → InnerHasRun batch_reply_of (Cull v) hand layout b (logical_parcels layout b old) outcome (logical_parcels layout b new)) (sym at)
      (λ node has. cull-ran v node hand old new has outcome same is ran) there filer
