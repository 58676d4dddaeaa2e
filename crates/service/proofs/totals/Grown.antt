-- A volume of an Aggregate in which more ranges are in use.
use Rattle.std.proofs.Common.{◌≡◌, ◌≢◌, ℕ, zero, suc, ◌+◌, ◌-◌, ◌*◌, ◌<◌, ◌==◌, Bool, true, List, [], ◌∷◌, length, Option, Some, None, Ok, Err}
use Rattle.std.proofs.Common.{refl, sym, ap, subst, ◌∙◌, arith, eq-eqb}
use Rattle.std.specs.Prelude.{slice_get, slice_set, slice_index_or, is_some, Result, if◌then◌else◌}
use Rattle.nfs_model.specs.Types as types
use Rattle.nfs_model.specs.Types.{Ask, Success}
use Rattle.nfs_model.specs.Tree.{Layout, Aggregate, stripes_of, aggregate_of}
use Rattle.nfs_model.specs.Work.{Replied}
use Rattle.nfs_values.specs.Status.{status_of}
use Rattle.nfs_values.specs.declared.status.Status.{Status}
use Rattle.parcels.specs.Filled.{is_filled, AreFilledAlike, InEachPlace, vbn_alike, volume_alike, aggregate_alike}
use Rattle.nfs_model.specs.volume.Ranges.{RangeValue}
use Rattle.filer_state.specs.state.Contents.{VolumeContents, each}
use Rattle.filer_state.specs.state.Parcels.{no_range}
use Rattle.filer_state.specs.state.Lenses.{VolumeSet, AggregateSet, volume_lens, aggregate_lens}
use Rattle.filer_state.specs.state.Running.{task_under}
use Rattle.filer_state.specs.state.Sets.{FilerRange, FilerVbn, FilerVolume, FilerAggregate, range_value, placed, vbn_set, volume_set, volume_value}
use Rattle.filer_state.specs.state.Sets.{volume_placed}
use Rattle.filer_state.specs.state.Sets.{aggregate_set}
use Rattle.filer_state.specs.state.Tree.{ranges_used}
use Rattle.filer_state.specs.state.WellFormed.{range_at}
use Rattle.filer_state.specs.laws.lemmas.Each.{each-get, each-set, each-index}
use Rattle.filer_state.specs.laws.lemmas.Steps.{get-some}
use Rattle.filer_state.specs.totals.Running.{RunsOnAll}
use Rattle.filer_state.specs.totals.Growing.{first_in_use, grow_refusal, AggregateAnswer, grow_checked, grow_there, grow_aggregate, with_ranges}
use Rattle.filer_state.specs.totals.Laws.{GrowIsRight}
use Rattle.filer_state.specs.totals.lemmas.Sets.{set-there}
use Rattle.service.specs.totals.Growing.{HasVolumeOf, GrowsAggregate, DoneInAggregate, VolumeGrows, PlaceGrows, HasRangesIn, growing_outcome, growth_refused}

-- ---- a place among others

module _ {A : Type 0} where
  found-is : (xs : List (Option A)) (i : ℕ) (d : Option A) → i < length xs → slice_index_or xs i d ≡ placed xs i
  found-is [] i d less = absurd (omega arith)
  found-is (x ∷ xs) zero d less = refl
  found-is (x ∷ xs) (suc i) d less = found-is xs i d (omega arith)

  at-set : (xs : List (Option A)) (i : ℕ) (here : Option A) → i < length xs → placed (slice_set xs i here) i ≡ here
  at-set [] i here less = absurd (omega arith)
  at-set (x ∷ xs) zero here less = refl
  at-set (x ∷ xs) (suc i) here less = at-set xs i here (omega arith)

  at-other : (xs : List (Option A)) (i k : ℕ) (here : Option A) → k ≢ i → placed (slice_set xs i here) k ≡ placed xs k
  at-other [] i k here ne = refl
  at-other (x ∷ xs) zero zero here ne = absurd (ne refl)
  at-other (x ∷ xs) zero (suc k) here ne = refl
  at-other (x ∷ xs) (suc i) zero here ne = refl
  at-other (x ∷ xs) (suc i) (suc k) here ne = at-other xs i k here (λ e. ne (ap suc e))

  at-same : (xs : List (Option A)) (i : ℕ) (d here : Option A) → i < length xs → slice_index_or xs i d ≡ here → slice_set xs i here ≡ xs
  at-same [] i d here less e = absurd (omega arith)
  at-same (x ∷ xs) zero d here less e = ap (λ (y : Option A). y ∷ xs) (sym e)
  at-same (x ∷ xs) (suc i) d here less e = ap (λ (l : List (Option A)). x ∷ l) (at-same xs i d here (omega arith) e)

  -- one that is filled is filled with another
  filled-alike : (xs : List (Option A)) (i : ℕ) (d : Option A) (x y : A) → i < length xs → slice_index_or xs i d ≡ Some x
      → AreFilledAlike xs (slice_set xs i (Some y))
  filled-alike [] i d x y less e k = refl
  filled-alike (z ∷ xs) zero d x y less e zero = ap (λ (o : Option A). is_filled (Some o)) e
  filled-alike (z ∷ xs) zero d x y less e (suc k) = refl
  filled-alike (z ∷ xs) (suc i) d x y less e zero = refl
  filled-alike (z ∷ xs) (suc i) d x y less e (suc k) = filled-alike xs i d x y (omega arith) e k

  each-alike : (Q : A → A → Type 0) → ((x : A) → Q x x) → (xs : List (Option A)) (i : ℕ) (d : Option A) (x y : A) → i < length xs
      → slice_index_or xs i d ≡ Some x → Q x y → InEachPlace Q xs (slice_set xs i (Some y))
  each-alike Q same [] i d x y less e q k u w here there = absurd (omega arith)
  each-alike Q same (z ∷ xs) zero d x y less e q zero u w here there =
      let one : x ≡ u = cc in
      let other : y ≡ w = cc in
      subst (λ (t : A). Q u t) other (subst (λ (t : A). Q t y) one q)
  each-alike Q same (z ∷ xs) zero d x y less e q (suc k) u w here there = let one : u ≡ w = cc in subst (λ (t : A). Q u t) one (same u)
  each-alike Q same (z ∷ xs) (suc i) d x y less e q zero u w here there = let one : u ≡ w = cc in subst (λ (t : A). Q u t) one (same u)
  each-alike Q same (z ∷ xs) (suc i) d x y less e q (suc k) u w here there = each-alike Q same xs i d x y (omega arith) e q k u w here there

-- ---- what is known of what is held

module _ {P : Type 0} where
  range-there : (o : Option (FilerRange P)) (r : ℕ) → r < 16 → (range_value o).number ≡ r → is_some o ≡ true
  range-there None r less e = absurd (omega (arith, less, e))
  range-there (Some held) r less e = refl

  ranges-there : (n : ℕ) (o : Option (FilerVolume P)) → ((r : ℕ) → r < 16 → (range_at (volume_value n o).ranges r).number ≡ r) → HasRangesIn o
  ranges-there n None numbered = let e = numbered 0 (omega arith) in absurd (omega (arith, e))
  ranges-there n (Some x) numbered = λ r less.
      range-there (placed x.vbn.ranges.at r) r less
      (ap (λ (v : RangeValue). v.number) (sym (each-index (λ k. range_value (placed x.vbn.ranges.at k)) no_range 16 r less)) ∙ numbered r less)

  -- the volume is there, with its ranges
  pub volume-there : (v : ℕ) (held : FilerAggregate P) → HasVolumeOf v held → HasRangesIn (placed held.volumes.at v)
  volume-there v held h =
      let layout : Layout = h.layout in
      let a : ℕ = aggregate_of layout v in
      let n : ℕ = stripes_of layout v in
      let w = h.whole in
      let on = h.there in
      let found = get-some w.0.volumes v (let count = w.5.volumes in omega (arith, on, count)) in
      let p : VolumeContents = found.0 in
      let well = (w.8 v p found.1).1.well_formed in
      let f : ℕ → Option VolumeSet = λ k. if aggregate_of layout k == a then Some (volume_placed layout (Some held) k) else None in
      let seen : Some (Some (volume_lens.of p)) ≡ Some (Some (volume_value n (placed held.volumes.at v))) =
      sym (set-there a w.0.volumes v p found.1 (w.5.volume v p found.1).0)
      ∙ ap (λ (s : AggregateSet). slice_get s.volumes v) w.4 ∙ each-get f (length layout.volumes) v on
      ∙ ap (λ (b : Bool). Some (if b then Some (volume_value n (placed held.volumes.at v)) else None)) (eq-eqb a a refl) in
      let same : volume_lens.of p ≡ volume_value n (placed held.volumes.at v) = cc in
      ranges-there n (placed held.volumes.at v) (λ r less.
      ap (λ (s : VolumeSet). (range_at s.ranges r).number) (sym same)
      ∙ (well.ranges r (let long = well.sixteen in omega (arith, less, long))).number)

  pub within : (places : List (Option (FilerVolume P))) (v : ℕ) → HasRangesIn (placed places v) → v < length places
  within [] v there = absurd there
  within (p ∷ ps) zero there = omega arith
  within (p ∷ ps) (suc v) there = let less = within ps v there in omega (arith, less)

  -- in its place
  pub found-there : (v : ℕ) (held : FilerAggregate P) → HasVolumeOf v held → (d : Option (FilerVolume P)) → HasRangesIn (slice_index_or held.volumes.at v d)
  found-there v held h d =
      let there = volume-there v held h in
      subst (λ (o : Option (FilerVolume P)). HasRangesIn o) (sym (found-is held.volumes.at v d (within held.volumes.at v there))) there

-- ---- a volume

module _ {P : Type 0} where
  pub volume-grows : (spare more used : ℕ) (old : FilerVolume P) → used ≡ ranges_used (vbn_set old.vbn) → growth_refused None used spare more
      → (vbn : FilerVbn P) → vbn_set vbn ≡ first_in_use (used + more) (vbn_set old.vbn) → vbn_alike old.vbn vbn
      → (total : ℕ) → total ≡ old.logical.own.dead.range_blocks * (used + more) → VolumeGrows spare more old (Ok total) (record old { vbn = vbn })
  volume-grows spare more used old count passed vbn ranges alike total is = (
    subst (λ (u : ℕ). growth_refused None u spare more) count passed,
    is ∙ ap (λ (u : ℕ). old.logical.own.dead.range_blocks * (u + more)) count,
    refl,
    ranges ∙ ap (λ (u : ℕ). first_in_use (u + more) (vbn_set old.vbn)) count,
    ((λ i. refl), alike),
  )

-- ---- an aggregate

module _ {P : Type 0} (old : FilerAggregate P) (v more : ℕ) (x : FilerVolume P) (there : placed old.volumes.at v ≡ Some x) where
  -- what is held of the volume, by a layout that has it
  module _ (layout : Layout) (on : v < length layout.volumes) where
    abbrev a : ℕ
    a = aggregate_of layout v

    abbrev n : ℕ
    n = stripes_of layout v

    abbrev set : AggregateSet
    set = aggregate_set layout a old

    abbrev sets_of : List (Option (FilerVolume P)) → ℕ → Option VolumeSet
    sets_of places k = if aggregate_of layout k == a then Some (volume_value (stripes_of layout k) (placed places k)) else None

    own-set : (places : List (Option (FilerVolume P))) (y : FilerVolume P) → placed places v ≡ Some y → sets_of places v ≡ Some (volume_set n y)
    own-set places y e =
        ap (λ (b : Bool). if b then Some (volume_value n (placed places v)) else None) (eq-eqb a a refl)
        ∙ ap (λ (o : Option (FilerVolume P)). Some (volume_value n o)) e

    seen : slice_get set.volumes v ≡ Some (Some (volume_set n x))
    seen = each-get (sets_of old.volumes.at) (length layout.volumes) v on
        ∙ ap (λ (o : Option VolumeSet). Some o) (own-set old.volumes.at x there)

    told-by : (r : Option types.Status) → grow_refusal (ranges_used (vbn_set x.vbn)) old.own more ≡ r
        → grow_aggregate v more set ≡ grow_checked v more (volume_set n x) r set
    told-by r e =
        ap (λ (o : Option (Option VolumeSet)). grow_there v more o set) seen
        ∙ ap (λ (o : Option types.Status). grow_checked v more (volume_set n x) o set) e

    set-changed : (y : FilerVolume P) → v < length old.volumes.at
        → each (sets_of (slice_set old.volumes.at v (Some y))) 0 (length layout.volumes) ≡ slice_set set.volumes v (Some (volume_set n y))
    set-changed y less =
        each-set (sets_of old.volumes.at) (sets_of (slice_set old.volumes.at v (Some y))) (length layout.volumes) v on
        (λ k l ne. ap (λ (o : Option (FilerVolume P)). if aggregate_of layout k == a then Some (volume_value (stripes_of layout k) o) else None)
        (at-other old.volumes.at v k (Some y) ne))
        ∙ ap (λ (o : Option VolumeSet). slice_set set.volumes v o)
        (own-set (slice_set old.volumes.at v (Some y)) y (at-set old.volumes.at v (Some y) less))

  -- refused, it stays as it was
  refused-done : (status : Status) (new : FilerAggregate P) → growth_refused (Some status) (ranges_used (vbn_set x.vbn)) old.own more → new ≡ old
      → DoneInAggregate v more old (Err status) new
  refused-done status new refused same = record {
    told = λ layout on. ap (λ (t : AggregateAnswer). t.answer) (sym (told-by layout on (Some (status_of status)) (sym refused)));
    set = λ layout on.
        ap (aggregate_set layout (aggregate_of layout v)) same
        ∙ ap (λ (t : AggregateAnswer). t.set) (sym (told-by layout on (Some (status_of status)) (sym refused)));
    kept = same;
    alike = subst (λ (h : FilerAggregate P). aggregate_alike old h) (sym same) (
      (λ i. refl),
      λ i u w here there.
          let one : u ≡ w = cc in subst (λ (t : FilerVolume P). volume_alike u t) one ((λ k. refl), λ k. refl),
    );
  }

  grown-done : (d : Option (FilerVolume P)) → v < length old.volumes.at → slice_index_or old.volumes.at v d ≡ Some x
      → (total : ℕ) (y : FilerVolume P) → VolumeGrows old.own more x (Ok total) y → (own : ℕ) → own ≡ old.own - more
      → DoneInAggregate v more old (Ok total) (record { own = own; volumes = record { at = slice_set old.volumes.at v (Some y) } })
  grown-done d less found total y grows own fewer = record {
    told = λ layout on.
        ap types.GrowDone grows.1 ∙ ap (λ (t : AggregateAnswer). t.answer) (sym (told-by layout on None (sym grows.0)));
    set = λ layout on.
        (λ j. record {
          spare = fewer j;
          volumes = (set-changed layout on y less
              ∙ ap (λ (s : VolumeSet). slice_set (aggregate_set layout (aggregate_of layout v) old).volumes v (Some s)) (same-volume (stripes_of layout v))) j;
        })
        ∙ ap (λ (t : AggregateAnswer). t.set) (sym (told-by layout on None (sym grows.0)));
    kept = tt;
    alike = (
      filled-alike old.volumes.at v d x y less found,
      each-alike volume_alike (λ u. ((λ k. refl), λ k. refl)) old.volumes.at v d x y less found grows.4,
    );
  }
    where
      same-volume : (n : ℕ) → volume_set n y ≡ with_ranges (ranges_used (vbn_set x.vbn) + more) (volume_set n x)
      same-volume n = λ j. record { logical = (volume_set n (record x { logical = grows.2 j })).logical; ranges = grows.3 j }

-- by what came of its place
module _ {P : Type 0} (old : FilerAggregate P) (v more : ℕ) (held : HasVolumeOf v old) (d was here : Option (FilerVolume P))
    (found : slice_index_or old.volumes.at v d ≡ was) where
  less : v < length old.volumes.at
  less = within old.volumes.at v (volume-there v old held)

  pub done-refused : (status : Status) → PlaceGrows old.own more was (Err status) here
      → DoneInAggregate v more old (Err status) (record { own = old.own; volumes = record { at = slice_set old.volumes.at v here } })
  done-refused status = by was here found
    where
      by : (was here : Option (FilerVolume P)) → slice_index_or old.volumes.at v d ≡ was → PlaceGrows old.own more was (Err status) here
          → DoneInAggregate v more old (Err status) (record { own = old.own; volumes = record { at = slice_set old.volumes.at v here } })
      by None here e grows = absurd grows
      by (Some x) None e grows = absurd grows
      by (Some x) (Some y) e grows =
          refused-done old v more x (sym (found-is old.volumes.at v d less) ∙ e) status _ grows.0
          (λ j. record { own = old.own; volumes = record { at = at-same old.volumes.at v d (Some y) less (e ∙ ap Some (sym grows.1)) j } })

  pub done-grown : (total : ℕ) → PlaceGrows old.own more was (Ok total) here → (own : ℕ) → own ≡ old.own - more
      → DoneInAggregate v more old (Ok total) (record { own = own; volumes = record { at = slice_set old.volumes.at v here } })
  done-grown total = by was here found
    where
      by : (was here : Option (FilerVolume P)) → slice_index_or old.volumes.at v d ≡ was → PlaceGrows old.own more was (Ok total) here
          → (own : ℕ) → own ≡ old.own - more
          → DoneInAggregate v more old (Ok total) (record { own = own; volumes = record { at = slice_set old.volumes.at v here } })
      by None here e grows own fewer = absurd grows
      by (Some x) None e grows own fewer = absurd grows
      by (Some x) (Some y) e grows own fewer =
          grown-done old v more x (sym (found-is old.volumes.at v d less) ∙ e) d less e total y grows own fewer

-- ---- by the law, the run is right

pub grow-is-right : {P : Type 0} → GrowIsRight → (v more : ℕ) (old : FilerAggregate P) (result : Result ℕ Status) (new : FilerAggregate P)
    → DoneInAggregate v more old result new → GrowsAggregate v more old result new
grow-is-right law v more old result new done layout caller moment on =
    let a : ℕ = aggregate_of layout v in
    let s : AggregateSet = aggregate_set layout a old in
    subst (λ (t : AggregateSet). RunsOnAll layout (aggregate_lens a) (task_under (Aggregate a) (Ask (types.Grow v more) caller) moment) s
    (growing_outcome result) t) (sym (done.set layout on))
    (subst (λ (r : types.Answer). RunsOnAll layout (aggregate_lens a) (task_under (Aggregate a) (Ask (types.Grow v more) caller) moment) s
    (Replied (Success r)) (grow_aggregate v more s).set) (sym (done.told layout on)) (law layout a v more caller moment s on refl))
