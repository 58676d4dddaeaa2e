-- CENSUS by all that is stored.
use Rattle.std.proofs.Common.{◌≡◌, ℕ, suc, ◌+◌, List, [], ◌∷◌, map, Some, refl, sym, ap, subst, arith}
use Rattle.std.specs.Prelude.{slice_get}
use Rattle.nfs_model.specs.Types.{Caller, Moment, CensusDone, Success}
use Rattle.nfs_model.specs.Tree.{Layout}
use Rattle.nfs_model.specs.Parts.{Hand}
use Rattle.nfs_model.specs.Serial.Census.{count_of, census}
use Rattle.nfs_model.specs.Work.{Outcome, Replied, Starved}
use Rattle.filer_state.specs.state.Contents.{VolumeContents, FilerContents}
use Rattle.filer_state.specs.state.Tree.{volume_of, server_of}
use Rattle.filer_state.specs.state.WellFormed.{WellFormed}
use Rattle.filer_state.specs.state.Partition.{times_in_hand}
use Rattle.filer_state.specs.state.Sound.{AreSound}
use Rattle.filer_state.specs.state.Lenses.{serial_lens}
use Rattle.filer_state.specs.state.Promises.{HandsMove}
use Rattle.filer_state.specs.laws.lemmas.Counted.{used-is}
use Rattle.filer_state.specs.laws.lemmas.Steps.{sound-later}
use Rattle.filer_state.specs.totals.Running.{WorksOnAll, RunsOnAll}
use Rattle.filer_state.specs.totals.Census.{count_held, census_answer}
use Rattle.filer_state.specs.totals.CensusLaws.{census_task}

-- the model's counts are the volumes' own
counts-are : (ps : List VolumeContents) → ((v : ℕ) (p : VolumeContents) → slice_get ps v ≡ Some p → WellFormed p)
    → map count_held ps ≡ map count_of (map volume_of ps)
counts-are [] well = refl
counts-are (p ∷ ps) well =
    let used = sym (used-is p (well 0 p refl)) in
    let others = counts-are ps (λ v q there. well (suc v) q there) in
    λ j. record (count_held p) { used = used j } ∷ others j

census-told : (c : FilerContents) (hands : List Hand) (made : ℕ) → AreSound c hands made → census_answer c ≡ census (server_of c)
census-told c hands made sound = ap CensusDone (counts-are c.volumes (λ v p there. (sound v p there).1.well_formed))

-- what is sound stays so through an entry that changes nothing
all-later : (c : FilerContents) (hands hands' : List Hand) (made : ℕ) → HandsMove [] [] hands hands' → AreSound c hands made → AreSound c hands' (made + 1)
all-later c hands hands' made moved sound v p there = (
  (sound v p there).0,
  sound-later p hands hands' made (λ n. let e = moved (times_in_hand p.number n) in omega (arith, e)) (sound v p there).1,
)

-- a call that changes nothing is right where it comes to its outcome on all that is sound
reads-all : (layout : Layout) (caller : Caller) (moment : Moment) (outcome : Outcome) (c : FilerContents)
    → ((hands : List Hand) (made : ℕ) → AreSound c hands made → WorksOnAll (census_task caller moment) c outcome c)
    → RunsOnAll layout serial_lens (census_task caller moment) c outcome c
reads-all layout caller moment outcome c works whole hands hands' made has fits sound moved =
    let mine : AreSound c hands made = subst (λ (w : FilerContents). AreSound w hands made) has sound in (
      subst (λ (w : FilerContents). WorksOnAll (census_task caller moment) w outcome c) (sym has) (works hands made mine),
      all-later c hands hands' made moved mine,
    )

pub census-right : (layout : Layout) (caller : Caller) (moment : Moment) (c : FilerContents)
    → RunsOnAll layout serial_lens (census_task caller moment) c (Replied (Success (census_answer c))) c
census-right layout caller moment c =
    reads-all layout caller moment (Replied (Success (census_answer c))) c
    (λ hands made sound. ((refl, ap Success (census-told c hands made sound), refl, refl), tt))

pub census-starves : (layout : Layout) (caller : Caller) (moment : Moment) (c : FilerContents)
    → RunsOnAll layout serial_lens (census_task caller moment) c Starved c
census-starves layout caller moment c =
    reads-all layout caller moment Starved c (λ hands made sound. ((refl, refl, refl), refl))
