-- What is shown of a node is what its inode and its stripes tell.
use Rattle.std.proofs.Common.{◌≡◌, ℕ, ◌+◌, true, false, List, [], ◌∷◌, Option, Some, None, refl, sym, ap, ◌∙◌, subst, arith}
use Rattle.std.specs.Prelude.{is_some}
use Rattle.std.specs.Option.{option_map}
use Rattle.std.specs.Cmp.{nat_cmp_total}
use Rattle.std.specs.FinMap.{get, nat_cmp-IsAntisymmetric}
use Rattle.std.proofs.lemmas.List.FromFn.{length-map-range_with_len}
use Rattle.nfs_model.specs.Types.{Listed, Success, GetattrDone}
use Rattle.nfs_model.specs.Tree.{Affinity}
use Rattle.nfs_model.specs.Locate.{on_node, Tells}
use Rattle.nfs_model.specs.Server.{Node, VolumeState}
use Rattle.nfs_model.specs.Shown.{shown, subdirectories, is_directory_node}
use Rattle.nfs_model.specs.Parts.{Hand, one_if}
use Rattle.nfs_model.specs.volume.Directories.{DirectoryValue}
use Rattle.nfs_model.specs.volume.Inodes.{InodeKind, DirectoryKind, Inode}
use Rattle.nfs_model.specs.volume.lemmas.Maps.{get-map_values}
use Rattle.filer_state.specs.state.Contents.{VolumeContents}
use Rattle.filer_state.specs.state.Tree.{file_byte, file_bytes, file_filled, file_touch, directory_or_empty, node_by, node_of, volume_of, text_or_empty}
use Rattle.filer_state.specs.state.Names.{is_directory, directories_listed, subdirectories_of, subdirectories_in, text_length_of}
use Rattle.filer_state.specs.state.WellFormed.{WellFormed}
use Rattle.filer_state.specs.state.Partition.{times_in_hand}
use Rattle.filer_state.specs.state.Sound.{IsSound}
use Rattle.filer_state.specs.state.Jobs.{Replied}
use Rattle.filer_state.specs.state.Lenses.{Lens, LogicalSet, logical_lens}
use Rattle.filer_state.specs.state.Promises.{RightOnVolume}
use Rattle.filer_state.specs.state.Calls.{ServesOn, answer_of, volume_left}
use Rattle.filer_state.specs.state.Changes.{shown_inode, getattr_answer}
use Rattle.filer_state.specs.attributes.Laws.{getattr_call}
use Rattle.filer_state.specs.laws.lemmas.InodeKinds.{counted-directory, shown-with, text-told}
use Rattle.filer_state.specs.laws.lemmas.Steps.{sound-later}

module _ (p : VolumeContents) where
  -- the node of a fileid
  pub node-at : (q : ℕ) → get (volume_of p).nodes q ≡ option_map (node_of p.stripes p.logical.directories p.logical.texts q) (get p.logical.inodes.inodes q)
  node-at q = get-map_values nat_cmp_total nat_cmp-IsAntisymmetric (node_of p.stripes p.logical.directories p.logical.texts) p.logical.inodes.inodes q

  directory-node : (q : ℕ) → is_directory_node (get (volume_of p).nodes q) ≡ is_directory (get p.logical.inodes.inodes q)
  directory-node q = ap is_directory_node (node-at q) ∙ by (get p.logical.inodes.inodes q)
    where
      kind : (a : Inode) (k : InodeKind)
          → is_directory_node (Some (node_by p.stripes (get p.logical.directories q) (get p.logical.texts q) q a.attributes a.names k)) ≡ is_directory (Some (record a { kind = k }))
      kind a (DirectoryKind parent subdirectories) = refl
      kind a other = refl

      by : (o : Option Inode) → is_directory_node (option_map (node_of p.stripes p.logical.directories p.logical.texts q) o) ≡ is_directory o
      by None = refl
      by (Some inode) = kind inode inode.kind

  -- the model's count of subdirectories
  subdirectories-are : (list : List Listed) → subdirectories (volume_of p).nodes list ≡ directories_listed p.logical.inodes.inodes list
  subdirectories-are [] = refl
  subdirectories-are (e ∷ list) =
      let here : one_if (is_directory_node (get (volume_of p).nodes e.fileid))
      ≡ one_if (is_directory (get p.logical.inodes.inodes e.fileid)) = ap one_if (directory-node e.fileid) in
      let others = subdirectories-are list in
      omega (arith, here, others)

  module _ (well : WellFormed p) where
    links : (fileid : ℕ) (inode : Inode) → get p.logical.inodes.inodes fileid ≡ Some inode → (subs : ℕ) → subdirectories_in inode.kind ≡ Some subs
        → subdirectories (volume_of p).nodes (directory_or_empty (get p.logical.directories fileid)).list ≡ subs
    links fileid inode there subs is =
        let as_directory : is_directory (get p.logical.inodes.inodes fileid) ≡ true = ap is_directory there ∙ counted-directory inode.kind subs is in
        by (get p.logical.directories fileid) refl (well.logical.named.as_directories fileid ∙ as_directory)
      where
        by : (o : Option DirectoryValue) → get p.logical.directories fileid ≡ o → is_some (get p.logical.directories fileid) ≡ true
            → subdirectories (volume_of p).nodes (directory_or_empty o).list ≡ subs
        by None e some = let no : is_some (get p.logical.directories fileid) ≡ false = ap is_some e in cc
        by (Some d) e some =
            let fits = well.logical.named.fits fileid d e in
            let says : Some subs ≡ Some (directories_listed p.logical.inodes.inodes d.list) =
            sym (ap subdirectories_of there ∙ is) ∙ fits.links in
            let same : subs ≡ directories_listed p.logical.inodes.inodes d.list = cc in
            subdirectories-are d.list ∙ sym same

    -- attributes by the inode
    pub node-shown : (fileid : ℕ) (inode : Inode) → get p.logical.inodes.inodes fileid ≡ Some inode
        → shown (volume_of p) fileid (node_of p.stripes p.logical.directories p.logical.texts fileid inode) ≡ shown_inode p.number fileid inode (file_touch p.stripes fileid)
    node-shown fileid inode there = shown-with (volume_of p) fileid (file_bytes p.stripes fileid) (file_filled p.stripes fileid)
        (file_touch p.stripes fileid) (directory_or_empty (get p.logical.directories fileid)) (text_or_empty (get p.logical.texts fileid)) inode.attributes
        inode.names
        (λ size. length-map-range_with_len (file_byte p.stripes fileid) 0 size) inode.kind (well.filled fileid inode there)
        (links fileid inode there)
        (text-told (get p.logical.texts fileid) inode.kind (well.logical.texts fileid ∙ ap text_length_of there))

-- ---- calls that change nothing

-- a call that changes nothing is right where it does its deed on each sound volume that has the part
pub reads-right : {S R : Type 0} (v : ℕ) (lens : Lens VolumeContents S) (deed : VolumeContents → R → VolumeContents → Type 0) (set : S) (reply : R)
    → ((p : VolumeContents) → lens.put (lens.of p) p ≡ p)
    → ((p : VolumeContents) (hands : List Hand) (made : ℕ) → p.number ≡ v → lens.of p ≡ set → IsSound p hands made → deed p reply p)
    → RightOnVolume v lens deed [] [] set reply set
reads-right v lens deed set reply back does p hands hands' made has numbered sound moved =
    let same : p ≡ lens.put set p = sym (back p) ∙ ap (λ s. lens.put s p) has in
    subst (λ (q : VolumeContents). deed p reply q × IsSound q hands' (made + 1)) same
    (does p hands made numbered has sound, sound-later p hands hands' made (λ n. let e = moved (times_in_hand p.number n) in omega (arith, e)) sound)

-- GETATTR by what is under Logical
pub getattr-right : (v fileid : ℕ) (handle : List ℕ) (node : Affinity) (set : LogicalSet)
    → RightOnVolume v logical_lens (ServesOn (getattr_call handle node fileid) false) [] [] set
    (Replied (Success (getattr_answer v fileid (get set.own.inodes.inodes fileid) (file_touch set.stripes fileid)))) set
getattr-right v fileid handle node set =
    reads-right v logical_lens (ServesOn (getattr_call handle node fileid) false) set
    (Replied (Success (getattr_answer v fileid (get set.own.inodes.inodes fileid) (file_touch set.stripes fileid)))) (λ p. refl)
    (λ p hands made numbered has sound.
    subst (λ (s : LogicalSet). ServesOn (getattr_call handle node fileid) false p
    (Replied (Success (getattr_answer v fileid (get s.own.inodes.inodes fileid) (file_touch s.stripes fileid)))) p) has
    (subst (λ (w : ℕ). ServesOn (getattr_call handle node fileid) false p
    (Replied (Success (getattr_answer w fileid (get p.logical.inodes.inodes fileid) (file_touch p.stripes fileid)))) p) numbered
    (does p hands made sound)))
  where
    told : (p : VolumeContents) (hands : List Hand) (made : ℕ) → IsSound p hands made → (o : Option Inode) → get p.logical.inodes.inodes fileid ≡ o
        → getattr_answer p.number fileid o (file_touch p.stripes fileid)
        ≡ answer_of 0 (on_node (option_map (node_of p.stripes p.logical.directories p.logical.texts fileid) o)
        (λ node. Tells (GetattrDone (shown (volume_of p) fileid node))))
    told p hands made sound None e = refl
    told p hands made sound (Some inode) e = ap GetattrDone (sym (node-shown p sound.well_formed fileid inode e))

    left : (volume : VolumeState) (o : Option Node) → volume ≡ volume_left volume (on_node o (λ node. Tells (GetattrDone (shown volume fileid node))))
    left volume None = refl
    left volume (Some node) = refl

    does : (p : VolumeContents) (hands : List Hand) (made : ℕ) → IsSound p hands made
        → ServesOn (getattr_call handle node fileid) false p
        (Replied (Success (getattr_answer p.number fileid (get p.logical.inodes.inodes fileid) (file_touch p.stripes fileid)))) p
    does p hands made sound = (
      (
        refl,
        ap Success (told p hands made sound (get p.logical.inodes.inodes fileid) refl
            ∙ ap (λ o. answer_of 0 (on_node o (λ node. Tells (GetattrDone (shown (volume_of p) fileid node))))) (sym (node-at p fileid))),
        left (volume_of p) (get (volume_of p).nodes fileid),
        refl,
      ),
      λ e. absurd cc,
    )
