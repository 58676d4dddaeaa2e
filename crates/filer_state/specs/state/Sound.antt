-- What has to hold of all parcels, with the batches in all hands and the count of entries that were made (our profile).
use Rattle.std.specs.Prelude.{◌≡◌, ℕ, ◌+◌, ◌≤◌, List, Some}
use Rattle.std.specs.FinMap.{get}
use Rattle.nfs_model.specs.Tree.{Layout}
use Rattle.nfs_model.specs.Parts.{Hand}
use Rattle.nfs_model.specs.volume.Directories.{DirectoryValue}
use Rattle.nfs_model.specs.volume.Logical.{LogicalValue}
use Rattle.depot_rule.specs.History.{Invariant}
use Rattle.depot_rule.specs.Completions.{Whole, IsGood, IsLayoutOf}
use Rattle.filer_state.specs.state.Parcels.{FilerParcel}
use Rattle.filer_state.specs.state.Contents.{VolumeContents, FilerContents, volume_at, filer_contents}
use Rattle.filer_state.specs.state.WellFormed.{WellFormed}
use Rattle.filer_state.specs.state.Partition.{StandOnce}

-- An entry makes at most one node, and one entry of a directory: so with fewer than 2^62 entries no fileid and no cookie
-- comes to 2^63.
pub record IsYoung (l : LogicalValue) (made : ℕ) : Type 0 where
  pub fileids : l.inodes.next ≤ 2 + made
  pub cookies : (fileid : ℕ) (d : DirectoryValue) → get l.directories fileid ≡ Some d → d.next ≤ 3 + made

-- of a volume
pub record IsSound (p : VolumeContents) (hands : List Hand) (made : ℕ) : Type 0 where
  pub well_formed : WellFormed p
  pub young : IsYoung p.logical made
  pub partition : StandOnce p hands

-- of all volumes, each of which stands at the place of its number
abbrev pub AreSound : FilerContents → List Hand → ℕ → Type 0
AreSound c hands made = (v : ℕ) (p : VolumeContents) → volume_at c v ≡ Some p → (p.number ≡ v) × IsSound p hands made

-- of all parcels, where the tree is this layout's
abbrev pub AllSound : {P : Type 0} → Whole Layout (FilerParcel P) Hand
AllSound layout f hands made = AreSound (filer_contents layout f) hands made

-- of all parcels by the parents alone
abbrev pub IsFiler : {P : Type 0} → Invariant (FilerParcel P) Hand
IsFiler parents f hands made = IsGood IsLayoutOf AllSound parents f hands made
