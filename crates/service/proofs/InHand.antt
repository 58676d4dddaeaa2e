-- What hands carry.
use Rattle.std.proofs.Common.{◌≡◌, ◌≢◌, ◌<◌, ℕ, length, Bool, true, false, List, [], ◌∷◌, refl, sym, ap, subst, arith, Some, Ok}
use Rattle.std.proofs.lemmas.Bool.{eqb-true}
use Rattle.std.specs.Prelude.{◌==◌, if◌then◌else◌}
use Rattle.nfs_model.specs.Moves.{dead_hand, fresh_hand}
use Rattle.nfs_model.specs.Parts.{Hand, Empty, Fresh, Dead, times_listed, range_of, IsBatch}
use Rattle.nfs_model.specs.volume.Ranges.{RangeValue}
use Rattle.filer_state.specs.state.Jobs as replies
use Rattle.filer_state.specs.state.Jobs.{InnerCall, Fetch, Deliver, Cull, Free, Survey, batches_in, inner_volume}
use Rattle.filer_state.specs.state.Lenses.{LogicalSet, range_lens, logical_lens}
use Rattle.filer_state.specs.state.Partition.{AreOf}
use Rattle.filer_state.specs.state.Running.{InnerRunsOn}
use Rattle.service_batches.specs.Batches.{CullsHere, DeliversHere, FetchesHere, FreesHere}
use Rattle.service.specs.Inner.{IsHandFor}
use Rattle.service.specs.InnerOn.{HasRunOn, MayRunOn}
use Rattle.service.specs.Jobs.{batch_reply_of}
use Rattle.service.specs.declared.job.BatchReply.TheVariants.{Took, Gave}

-- blocks of another volume
listed-other : (u v n : ℕ) (blocks : List ℕ) → u ≢ v → times_listed n (if u == v then blocks else []) ≡ 0
listed-other u v n blocks other = by (u == v) refl
  where
    by : (b : Bool) → (u == v) ≡ b → times_listed n (if b then blocks else []) ≡ 0
    by true e = absurd (other (eqb-true u v e))
    by false e = refl

of-fresh : (v : ℕ) (blocks : List ℕ) → AreOf v (Fresh v blocks ∷ [])
of-fresh v blocks u other n = let none = listed-other u v n blocks other in omega (arith, none)

of-dead : (v : ℕ) (blocks : List ℕ) → AreOf v (Dead v blocks ∷ [])
of-dead v blocks u other n = let none = listed-other u v n blocks other in omega (arith, none)

fetched-of : (v : ℕ) (blocks : List ℕ) → AreOf v (batches_in (fresh_hand v blocks))
fetched-of v [] u other n = refl
fetched-of v (b ∷ blocks) u other n = of-fresh v (b ∷ blocks) u other n

culled-of : (v : ℕ) (blocks : List ℕ) → AreOf v (batches_in (dead_hand v blocks))
culled-of v [] u other n = refl
culled-of v (b ∷ blocks) u other n = of-dead v (b ∷ blocks) u other n

-- what is in the hand of a call is of its volume
pub hand-of : (size : ℕ) (call : InnerCall) (hand : Hand) → IsHandFor size call hand → AreOf (inner_volume call) (batches_in hand)
hand-of size (Fetch v r) hand is = subst (λ (h : Hand). AreOf v (batches_in h)) (sym is) (λ u other n. refl)
hand-of size (Deliver v) hand is = subst (λ (h : Hand). AreOf v (batches_in h)) (sym is.1) (of-fresh v is.0)
hand-of size (Cull v) hand is = subst (λ (h : Hand). AreOf v (batches_in h)) (sym is) (λ u other n. refl)
hand-of size (Free v r) hand is = subst (λ (h : Hand). AreOf v (batches_in h)) (sym is.1) (of-dead v is.0)
hand-of size (Survey v) hand is = subst (λ (h : Hand). AreOf v (batches_in h)) (sym is) (λ u other n. refl)

-- ---- what a run comes to

pub fetched-runs : (v : ℕ) (blocks : List ℕ) (taken : Hand) (old new : RangeValue) → taken ≡ fresh_hand v blocks
    → FetchesHere old (Some blocks) new → HasRunOn batch_reply_of v (range_lens old.number) (Fetch v old.number) Empty old (Ok (Took taken)) new
fetched-runs v blocks taken old new took right = (
  subst (λ (h : Hand). InnerRunsOn v (range_lens old.number) (Fetch v old.number) old (Some (replies.Took h)) new) (sym took) (right v),
  subst (λ (h : Hand). AreOf v (batches_in h)) (sym took) (fetched-of v blocks),
  refl,
)

pub culled-runs : (v : ℕ) (blocks : List ℕ) (taken : Hand) (old new : LogicalSet) → taken ≡ dead_hand v blocks
    → CullsHere old blocks new → HasRunOn batch_reply_of v logical_lens (Cull v) Empty old (Ok (Took taken)) new
culled-runs v blocks taken old new took right = (
  subst (λ (h : Hand). InnerRunsOn v logical_lens (Cull v) old (Some (replies.Took h)) new) (sym took) (right v),
  subst (λ (h : Hand). AreOf v (batches_in h)) (sym took) (culled-of v blocks),
  refl,
)

pub delivered-runs : (v : ℕ) (blocks : List ℕ) (back : Hand) (old new : LogicalSet) → back ≡ Fresh v blocks
    → DeliversHere blocks old new → HasRunOn batch_reply_of v logical_lens (Deliver v) (Fresh v blocks) old (Ok (Gave back)) new
delivered-runs v blocks back old new gave right = (
  subst (λ (h : Hand). InnerRunsOn v logical_lens (Deliver v) old (Some (replies.Gave h)) new) (sym gave) (right v),
  (λ w other n. refl),
  ap batches_in gave,
)

pub freed-runs : (v : ℕ) (blocks : List ℕ) (back : Hand) (old new : RangeValue) → back ≡ Dead v blocks
    → FreesHere blocks old new → HasRunOn batch_reply_of v (range_lens old.number) (Free v old.number) (Dead v blocks) old (Ok (Gave back)) new
freed-runs v blocks back old new gave right = (
  subst (λ (h : Hand). InnerRunsOn v (range_lens old.number) (Free v old.number) old (Some (replies.Gave h)) new) (sym gave) (right v),
  (λ w other n. refl),
  ap batches_in gave,
)

-- ---- what the parts are asked

-- what is in a hand is a batch
pub to-deliver-batch : (size v : ℕ) (blocks : List ℕ) (set : LogicalSet) → MayRunOn size v logical_lens (Deliver v) (Fresh v blocks) set
    → (0 < length blocks) × IsBatch size (range_of size blocks) blocks
to-deliver-batch size v blocks set may =
    let both : Fresh v blocks ≡ Fresh v may.0.0 = may.0.1 in
    let same : may.0.0 ≡ blocks = cc in
    subst (λ (bs : List ℕ). (0 < length bs) × IsBatch size (range_of size bs) bs) same (may.0.2, may.0.3)

pub to-free-batch : (size v : ℕ) (blocks : List ℕ) (x : RangeValue) → MayRunOn size v (range_lens x.number) (Free v x.number) (Dead v blocks) x
    → (0 < length blocks) × IsBatch size x.number blocks
to-free-batch size v blocks x may =
    let both : Dead v blocks ≡ Dead v may.0.0 = may.0.1 in
    let same : may.0.0 ≡ blocks = cc in
    subst (λ (bs : List ℕ). (0 < length bs) × IsBatch size x.number bs) same (may.0.2, may.0.3)
