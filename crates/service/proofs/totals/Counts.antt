-- CENSUS by the counts of volumes, in their places.
use Rattle.std.proofs.Common.{◌≡◌, ℕ, zero, suc, ◌+◌, List, [], ◌∷◌, ◌++◌, length, map, Result, Ok, Err, sym, ap, ◌∙◌, subst, arith}
use Rattle.std.proofs.lemmas.List.{map-append}
use Rattle.std.specs.Global.{Vec}
use Rattle.std.specs.Result.{IsErr}
use Rattle.std.specs.declared.alloc.AllocError.{AllocError}
use Rattle.nfs_model.specs.Types as types
use Rattle.nfs_model.specs.Types.{Answer, CensusDone, Success}
use Rattle.nfs_model.specs.Tree.{Layout, aggregate_of}
use Rattle.nfs_model.specs.Work.{Replied}
use Rattle.nfs_values.specs.Answer.{count_of}
use Rattle.nfs_values.specs.declared.answer.VolumeCount.{VolumeCount}
use Rattle.filer_state.specs.state.Contents.{FilerContents, each}
use Rattle.filer_state.specs.state.Lenses.{serial_lens}
use Rattle.filer_state.specs.state.Sets.{FilerSerial, placed, volume_with, volume_placed, serial_set}
use Rattle.filer_state.specs.laws.lemmas.Each.{each-map}
use Rattle.filer_state.specs.totals.Running.{RunsOnAll}
use Rattle.filer_state.specs.totals.Census.{count_in, count_held}
use Rattle.filer_state.specs.totals.CensusLaws.{census_task}
use Rattle.filer_state.specs.totals.lemmas.Census.{census-right, census-starves}
use Rattle.service.specs.totals.Census.{TakesCensus}

-- ---- the volumes, one after another

module _ {P : Type 0} (layout : Layout) (held : FilerSerial P) where
  -- the count of a volume, in its place
  abbrev pub count_by : ℕ → types.VolumeCount
  count_by v = count_in v (volume_placed layout (placed held.aggregates.at (aggregate_of layout v)) v)

  -- all that is stored is counted so
  pub all-counted : map count_held (serial_set layout held).volumes ≡ each count_by 0 (length layout.volumes)
  all-counted =
      each-map count_held (λ (v : ℕ). volume_with layout v (volume_placed layout (placed held.aggregates.at (aggregate_of layout v)) v)) 0
      (length layout.volumes)

each-last-from : {A : Type 0} (f : ℕ → A) (from n : ℕ) → each f from (suc n) ≡ each f from n ++ f (from + n) ∷ []
each-last-from f from zero = let here : from ≡ from + 0 = omega arith in ap (λ (m : ℕ). f m ∷ []) here
each-last-from f from (suc n) =
    let here : from + 1 + n ≡ from + suc n = omega arith in
    ap (λ rest. f from ∷ rest) (each-last-from f (from + 1) n ∙ ap (λ (m : ℕ). each f (from + 1) n ++ f m ∷ []) here)

-- one more
pub counted-more : (f : ℕ → types.VolumeCount) (v : ℕ) (counts new : List VolumeCount) (here : VolumeCount) → map count_of counts ≡ each f 0 v
    → new ≡ counts ++ here ∷ [] → count_of here ≡ f v → map count_of new ≡ each f 0 (v + 1)
counted-more f v counts new here sofar pushed is =
    let place : 0 + v ≡ v = omega arith in
    let next : suc v ≡ v + 1 = omega arith in
    ap (map count_of) pushed ∙ map-append count_of counts (here ∷ [])
    ∙ (λ j. sofar j ++ is j ∷ [])
    ∙ ap (λ (m : ℕ). each f 0 v ++ f m ∷ []) (sym place)
    ∙ sym (each-last-from f 0 v) ∙ ap (each f 0) next

-- ---- the whole call

pub takes-counts : (layout : Layout) (c : FilerContents) (counts : Vec VolumeCount) → map count_of counts.items ≡ map count_held c.volumes
    → TakesCensus layout c (Ok counts)
takes-counts layout c counts is caller moment =
    subst (λ (a : Answer). RunsOnAll layout serial_lens (census_task caller moment) c (Replied (Success a)) c) (sym (ap CensusDone is))
    (census-right layout caller moment c)

pub takes-none : (layout : Layout) (c : FilerContents) (r : Result (Vec VolumeCount) AllocError) → IsErr r → TakesCensus layout c r
takes-none layout c (Ok counts) failed caller moment = absurd cc
takes-none layout c (Err e) failed caller moment = census-starves layout caller moment c
