-- What is asked of a directory, by its inode.
use Rattle.std.proofs.Common.{◌≡◌, ℕ, Some, None, Option, refl, sym, ap, ◌∙◌}
use Rattle.std.specs.Option.{option_map}
use Rattle.std.specs.FinMap.{get}
use Rattle.nfs_model.specs.Types.{Moment, Answer}
use Rattle.nfs_model.specs.Server.{DirectoryNode, Node, Directory, VolumeState}
use Rattle.nfs_model.specs.Locate.{Effect, on_directory}
use Rattle.nfs_model.specs.Shown.{shown}
use Rattle.nfs_model.specs.volume.Inodes.{InodeKind, DirectoryKind, Inode}
use Rattle.filer_state.specs.state.Contents.{VolumeContents}
use Rattle.filer_state.specs.state.Tree.{volume_of, node_by, node_of, file_touch}
use Rattle.filer_state.specs.state.WellFormed.{WellFormed}
use Rattle.filer_state.specs.state.Calls.{answer_of, volume_left}
use Rattle.filer_state.specs.state.Changes.{shown_inode}
use Rattle.filer_state.specs.laws.lemmas.InodeKinds.{directory-seen, directory-untouched}
use Rattle.filer_state.specs.attributes.lemmas.Getting.{node-at, node-shown}
use Rattle.filer_state.specs.names.Answers.{on_directory_inode, on_parent, entries_of, directory_node}
use Rattle.filer_state.specs.state.Names.{parent_in}

-- a call on a directory changes nothing where what it runs changes nothing
pub directory-stays : (volume : VolumeState) (o : Option Node) (run : DirectoryNode → Effect)
    → ((d : DirectoryNode) → volume ≡ volume_left volume (run d)) → volume ≡ volume_left volume (on_directory o run)
directory-stays volume None run stays = refl
directory-stays volume (Some (Directory d)) run stays = stays d
directory-stays volume (Some node) run stays = refl

-- a directory shows no touch
pub same-shown : (v fileid : ℕ) (inode : Inode) (parent : ℕ) → parent_in inode.kind ≡ Some parent → (touch : Option Moment)
    → shown_inode v fileid inode touch ≡ shown_inode v fileid inode None
same-shown v fileid inode parent says touch =
    let same = directory-untouched touch inode.attributes inode.kind parent says
    ∙ sym (directory-untouched None inode.attributes inode.kind parent says) in
    λ j. record (shown_inode v fileid inode touch) { mtime = (same j).mtime; ctime = (same j).ctime }

module _ (p : VolumeContents) (fileid : ℕ) where
  -- the node of a directory as its inode and its entries tell it
  abbrev pub directory_at : Inode → ℕ → DirectoryNode
  directory_at inode parent = directory_node inode parent (entries_of p.logical fileid)

  -- what is asked of it is told by its inode where what is run answers so
  pub directory-kind-told : (run : DirectoryNode → Effect) (answer : Inode → ℕ → Answer)
      → ((inode : Inode) (parent : ℕ) → get p.logical.inodes.inodes fileid ≡ Some inode → parent_in inode.kind ≡ Some parent
      → answer inode parent ≡ answer_of 1 (run (directory_at inode parent)))
      → on_directory_inode (get p.logical.inodes.inodes fileid) answer ≡ answer_of 1 (on_directory (get (volume_of p).nodes fileid) run)
  directory-kind-told run answer tells =
      by (get p.logical.inodes.inodes fileid) refl ∙ ap (λ (o : Option Node). answer_of 1 (on_directory o run)) (sym (node-at p fileid))
    where
      kinds : (inode : Inode) → get p.logical.inodes.inodes fileid ≡ Some inode → (kind : InodeKind) → inode.kind ≡ kind
          → on_parent (parent_in kind) (answer inode)
          ≡ answer_of 1 (on_directory (Some (node_by p.stripes (get p.logical.directories fileid) (get p.logical.texts fileid) fileid inode.attributes inode.names kind)) run)
      kinds inode there (DirectoryKind parent subs) is = tells inode parent there (ap parent_in is)
      kinds inode there kind is = refl

      by : (o : Option Inode) → get p.logical.inodes.inodes fileid ≡ o
          → on_directory_inode o answer ≡ answer_of 1 (on_directory (option_map (node_of p.stripes p.logical.directories p.logical.texts fileid) o) run)
      by None e = refl
      by (Some inode) e = kinds inode e inode.kind refl

  -- its attributes
  pub directory-kind-shown : WellFormed p → (inode : Inode) (parent : ℕ) → get p.logical.inodes.inodes fileid ≡ Some inode
      → parent_in inode.kind ≡ Some parent
      → shown (volume_of p) fileid (Directory (directory_at inode parent)) ≡ shown_inode p.number fileid inode None
  directory-kind-shown well inode parent there says =
      sym (ap (shown (volume_of p) fileid)
      (directory-seen p.stripes (get p.logical.directories fileid) (get p.logical.texts fileid) fileid inode.attributes inode.names inode.kind parent says))
      ∙ node-shown p well fileid inode there
      ∙ same-shown p.number fileid inode parent says (file_touch p.stripes fileid)
