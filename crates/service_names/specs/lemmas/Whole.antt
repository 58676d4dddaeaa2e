-- What calls have to know of the set that they hold.
use Rattle.std.proofs.Common.{◌≡◌, ℕ, ◌≤◌, false, true, Option, Some, None, refl, sym, ap, ◌∙◌, arith, ⊎_elim, []}
use Rattle.std.specs.Prelude.{is_some}
use Rattle.std.specs.FinMap.{get}
use Rattle.nfs_model.specs.volume.Directories.{DirectoryValue}
use Rattle.nfs_model.specs.volume.Inodes.{InodeKind, RegularFile, DirectoryKind, Inode, SpecialFile}
use Rattle.filer_state.specs.state.Contents.{VolumeContents}
use Rattle.filer_state.specs.state.Names.{is_directory, parent_in, subdirectories_in, subdirectories_of, directories_listed}
use Rattle.filer_state.specs.state.WellFormed.{WellFormed}
use Rattle.filer_state.specs.state.Lenses.{LogicalSet, logical_lens}
use Rattle.filer_state.specs.state.Promises.{HasVolume}
use Rattle.filer_state.specs.laws.lemmas.Limits.{few-directories}
use Rattle.service_names.specs.Shown.{HasFewLinks}

-- no directory of a sound volume has too many links
pub few-links : (p : VolumeContents) → WellFormed p → (fileid : ℕ) (inode : Inode) → get p.logical.inodes.inodes fileid ≡ Some inode → HasFewLinks inode.kind
few-links p well fileid inode there = by inode.kind refl
  where
    by : (kind : InodeKind) → inode.kind ≡ kind → HasFewLinks kind
    by (RegularFile size filled verifier) is = tt
    by (SpecialFile special size) is = tt
    by (DirectoryKind parent subs) is = listed (get p.logical.directories fileid) refl
      where
        as_directory : is_directory (get p.logical.inodes.inodes fileid) ≡ true
        as_directory = ap is_directory there ∙ ap (λ k. is_some (parent_in k)) is

        listed : (o : Option DirectoryValue) → get p.logical.directories fileid ≡ o → HasFewLinks (DirectoryKind parent subs)
        listed None e = absurd (let no : false ≡ true = sym (ap is_some e) ∙ (well.logical.named.as_directories fileid ∙ as_directory) in cc)
        listed (Some d) e =
            let counted : Some subs ≡ Some (directories_listed p.logical.inodes.inodes d.list) =
            sym (ap subdirectories_of there ∙ ap subdirectories_in is) ∙ (well.logical.named.fits fileid d e).links in
            let same : subs ≡ directories_listed p.logical.inodes.inodes d.list = cc in
            let most = few-directories p.logical.inodes.inodes p.logical.directories well.logical.named fileid d e in
            let few = well.logical.few in
            let bound = well.most_inodes.1 in
            omega arith

module _ (v : ℕ) (set : LogicalSet) (whole : HasVolume v logical_lens [] set) where
  pub whole-few : set.own.stripes ≤ 16
  whole-few =
      let has : whole.0.logical.stripes ≡ set.own.stripes = ap (λ (s : LogicalSet). s.own.stripes) whole.4 in
      ⊎_elim (λ (e : whole.0.logical.stripes ≡ 8). omega arith) (λ (e : whole.0.logical.stripes ≡ 16). omega arith) whole.8.well_formed.striped

  pub whole-links : (fileid : ℕ) (inode : Inode) → get set.own.inodes.inodes fileid ≡ Some inode → HasFewLinks inode.kind
  whole-links fileid inode there =
      few-links whole.0 whole.8.well_formed fileid inode (ap (λ (s : LogicalSet). get s.own.inodes.inodes fileid) whole.4 ∙ there)
