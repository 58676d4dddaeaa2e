-- The laws of inner calls, by what the parts of a volume answer.
use Rattle.std.proofs.Common.{◌≡◌, ℕ, ◌+◌, ◌<◌, Bool, true, false, List, length, Some, None, Result, Ok, Err, refl, sym, ap, ◌∙◌, subst}
use Rattle.std.specs.Prelude.{OnOk}
use Rattle.std.specs.FinSet.{FinSet}
use Rattle.std.specs.Ordering.{nat_cmp}
use Rattle.nfs_model.specs.Parts.{IsBatch, most_ranges, most_carried, range_of}
use Rattle.nfs_model.specs.volume.Logical.{LogicalValue}
use Rattle.nfs_model.specs.volume.Ranges.{RangeValue, DeadValue, lowest, taken, given, with_numbers, dead_taken}
use Rattle.filer_state.specs.state.Calls.{DoesInnerOn}
use Rattle.filer_state.specs.state.Contents.{VolumeContents}
use Rattle.filer_state.specs.state.Jobs.{Survey, Surveyed}
use Rattle.filer_state.specs.state.Lenses.{LogicalSet, vbn_lens}
use Rattle.filer_state.specs.state.Sound.{IsSound}
use Rattle.filer_state.specs.state.WellFormed.{WellFormed}
use Rattle.filer_state.specs.laws.lemmas.Culling.{culled_from, cull-right, free_counts, lowest_of, survey-right}
use Rattle.filer_state.specs.laws.lemmas.Delivering.{deliver-right}
use Rattle.filer_state.specs.laws.lemmas.Fetching.{fetch-right, fetch-refused}
use Rattle.filer_state.specs.laws.lemmas.Freeing.{free-right}
use Rattle.service_batches.specs.Batches.{CullsHere, DeliversHere, FetchesHere, FreesHere, SurveysHere}

pub fetch-done : (x : RangeValue) → x.number < most_ranges → x.is_used ≡ true → (blocks : List ℕ) (new : RangeValue) → blocks ≡ lowest most_carried x
    → new ≡ taken (lowest most_carried x) x → FetchesHere x (Some blocks) new
fetch-done x less used blocks new took left v =
    subst (λ (bs : List ℕ). FetchesHere x (Some bs) new) (sym took)
    (subst (λ (y : RangeValue). FetchesHere x (Some (lowest most_carried x)) y) (sym left) (λ w. fetch-right w x.number less x used)) v

pub fetch-left : (x : RangeValue) → x.number < most_ranges → x.is_used ≡ false → (new : RangeValue) → new ≡ x → FetchesHere x None new
fetch-left x less unused new left =
    subst (λ (y : RangeValue). FetchesHere x None y) (sym left) (λ v. fetch-refused v x.number less x unused)

-- what is left of a range where a batch of it has come back
pub free-done : (x : RangeValue) → x.number < most_ranges → (blocks : List ℕ) → 0 < length blocks
    → IsBatch x.range_blocks x.number blocks → (new : RangeValue) → new ≡ given blocks x → FreesHere blocks x new
free-done x less blocks some batch new left =
    subst (λ (y : RangeValue). FreesHere blocks x y) (sym left)
    (λ v. free-right v x.number less blocks some x batch)

-- by what the parcel of Logical has
pub deliver-done : (set : LogicalSet) (own : LogicalValue) (stock : FinSet nat_cmp) (blocks : List ℕ) → own ≡ set.own → 0 < length blocks
    → IsBatch set.own.dead.range_blocks (range_of set.own.dead.range_blocks blocks) blocks → stock ≡ with_numbers blocks own.stock
    → DeliversHere blocks set (record set { own = record own { stock = stock } })
deliver-done set own stock blocks same some batch put =
    let left : record own { stock = stock } ≡ record set.own { stock = with_numbers blocks set.own.stock } =
    ap (λ (s : FinSet nat_cmp). record own { stock = s }) put ∙ ap (λ (o : LogicalValue). record o { stock = with_numbers blocks o.stock }) same in
    subst (λ (o : LogicalValue). DeliversHere blocks set (record set { own = o })) (sym left) (λ v. deliver-right v blocks set some batch)

pub cull-done : (set : LogicalSet) (own : LogicalValue) (dead : DeadValue) (blocks : List ℕ) → own ≡ set.own → blocks ≡ lowest_of own.dead
    → dead ≡ dead_taken (lowest_of own.dead) own.dead → CullsHere set blocks (record set { own = record own { dead = dead } })
cull-done set own dead blocks same took away =
    let left : record own { dead = dead } ≡ record set.own { dead = dead_taken (lowest_of set.own.dead) set.own.dead } =
    ap (λ (d : DeadValue). record own { dead = d }) away
    ∙ ap (λ (o : LogicalValue). record o { dead = dead_taken (lowest_of o.dead) o.dead }) same in
    let lowest : lowest_of set.own.dead ≡ blocks = sym (took ∙ ap (λ (o : LogicalValue). lowest_of o.dead) same) in
    subst (λ (o : LogicalValue). CullsHere set blocks (record set { own = o })) (sym left)
    (subst (λ (bs : List ℕ). CullsHere set bs (culled_from set)) lowest (λ v. cull-right v set))

-- a fact of a result that is good
pub on-good : {A E : Type 0} (r : Result A E) (P Q : Type 0) → (P → Q) → OnOk r P → OnOk r Q
on-good (Ok a) P Q f p = f p
on-good (Err e) P Q f p = tt

-- told of each sound volume that has these ranges
pub survey-done : (ranges : List RangeValue) (told : List ℕ) → ((p : VolumeContents) → WellFormed p → p.ranges ≡ ranges → told ≡ free_counts p.ranges)
    → SurveysHere ranges told
survey-done ranges told counted v p hands hands' made has numbered sound moved =
    let same : free_counts ranges ≡ told = ap free_counts (sym has) ∙ sym (counted p sound.well_formed has) in
    subst (λ (counts : List ℕ). DoesInnerOn (Survey v) p (Surveyed counts) (vbn_lens.put ranges p) × IsSound (vbn_lens.put ranges p) hands' (made + 1)) same
    (survey-right v ranges p hands hands' made has numbered sound moved)

-- a range that isn't in use, where a call on it is good only if it is
pub not-used : (b : Bool) → (b ≡ true → false ≡ true) → b ≡ false
not-used true never = sym (never refl)
not-used false never = refl
