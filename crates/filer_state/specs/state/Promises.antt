-- What a handler promises of the part of what is stored that it holds: for every whole that has this part.
use Rattle.std.specs.Prelude.{◌≡◌, ℕ, ◌+◌, ◌<◌, List, [], length, Option, Some}
use Rattle.nfs_model.specs.Tree.{Layout, Affinity, stripes_of, aggregate_of}
use Rattle.nfs_model.specs.Parts.{Hand}
use Rattle.affinity.specs.Ancestors.{Covers}
use Rattle.affinity.specs.Numbers.{number_of, parents}
use Rattle.depot_rule.specs.Sums.{total}
use Rattle.depot_rule.specs.Shares.{too_many}
use Rattle.depot_rule.specs.History.{patched}
use Rattle.filer_state.specs.state.Parcels.{FilerParcel}
use Rattle.filer_state.specs.state.Contents.{VolumeContents, FilerContents, volume_at, filer_contents}
use Rattle.filer_state.specs.state.Sound.{IsSound, AreSound}
use Rattle.filer_state.specs.state.Jobs.{Job, JobReply, takes, gives}
use Rattle.filer_state.specs.state.Deeds.{DoesJob}
use Rattle.filer_state.specs.state.Lenses.{Lens}

-- what comes into all hands and what leaves them, however hands are weighed
abbrev pub HandsMove : List Hand → List Hand → List Hand → List Hand → Type 0
HandsMove taken given hands hands' =
    (weigh : Hand → ℕ) → total weigh given + total weigh hands' ≡ total weigh taken + total weigh hands

-- Whatever the rest of a fitting whole is: where the whole is good, the deed is done by a part's change from old to new, and the
-- whole is good again, with one more entry and with the hands after it.
abbrev pub RightOn : {W S R : Type 0} → Lens W S → (W → Type 0) → (W → List Hand → ℕ → Type 0) → (W → R → W → Type 0)
    → List Hand → List Hand → S → R → S → Type 0
RightOn lens fits good deed taken given old reply new = (whole : _) (hands hands' : List Hand) (made : ℕ)
    → lens.of whole ≡ old → fits whole → good whole hands made → HandsMove taken given hands hands'
    → deed whole reply (lens.put new whole) × good (lens.put new whole) hands' (made + 1)

-- Some whole that fits and is good has the part, after fewer entries than there ever are, and what is to be given is in hands.
abbrev pub HasWhole : {W S : Type 0} → Lens W S → (W → Type 0) → (W → List Hand → ℕ → Type 0) → List Hand → S → Type 0
HasWhole lens fits good given set = (whole : _) × (hands hands' : List Hand) × (made : ℕ)
    × (lens.of whole ≡ set) × fits whole × (made < too_many) × HandsMove [] given hands hands' × good whole hands made

-- ---- on a volume, and on all that is stored

-- the same, of a part of the volume of a number
abbrev pub RightOnVolume : {S R : Type 0} → ℕ → Lens VolumeContents S → (VolumeContents → R → VolumeContents → Type 0)
    → List Hand → List Hand → S → R → S → Type 0
RightOnVolume v lens deed taken given old reply new = RightOn lens (λ p. p.number ≡ v) IsSound deed taken given old reply new

abbrev pub HasVolume : {S : Type 0} → ℕ → Lens VolumeContents S → List Hand → S → Type 0
HasVolume v lens given set = HasWhole lens (λ p. p.number ≡ v) IsSound given set

-- what is stored is a layout's
pub record IsLaidOut (layout : Layout) (c : FilerContents) : Type 0 where
  pub spare : length c.spare ≡ length layout.spare
  pub volumes : length c.volumes ≡ length layout.volumes
  pub volume : (v : ℕ) (p : VolumeContents) → volume_at c v ≡ Some p
      → (p.aggregate ≡ aggregate_of layout v) × (length p.stripes ≡ stripes_of layout v)

-- the same, of a part of all that is stored
abbrev pub RightOnAll : {S R : Type 0} → Layout → Lens FilerContents S → (FilerContents → R → FilerContents → Type 0)
    → List Hand → List Hand → S → R → S → Type 0
RightOnAll layout lens deed taken given old reply new = RightOn lens (IsLaidOut layout) AreSound deed taken given old reply new

abbrev pub HasAll : {S : Type 0} → Layout → Lens FilerContents S → List Hand → S → Type 0
HasAll layout lens given set = HasWhole lens (IsLaidOut layout) AreSound given set

-- right for an entry under a node, whose part of all that is stored this is
abbrev pub IsRight : {S : Type 0} → Layout → Affinity → Lens FilerContents S → Job → S → JobReply → S → Type 0
IsRight layout node lens job old reply new = RightOnAll layout lens (DoesJob layout node job) (takes job reply) (gives job reply) old reply new

-- ---- parts and parcels by number

-- The parcels of a node are this part: where they stand, all that is stored has the part; and put in among others, they
-- change all that is stored by the part alone.
pub record IsSeenBy {P S : Type 0} (layout : Layout) (node : Affinity) (lens : Lens FilerContents S)
    (parcels : ℕ → Option (FilerParcel P)) (set : S) : Type 0 where
  pub has : (f : ℕ → Option (FilerParcel P)) → ((k : ℕ) → Covers (parents layout) (number_of layout node) k → f k ≡ parcels k)
      → lens.of (filer_contents layout f) ≡ set
  pub put : (f : ℕ → Option (FilerParcel P))
      → filer_contents layout (patched (parents layout) (number_of layout node) parcels f) ≡ lens.put set (filer_contents layout f)
