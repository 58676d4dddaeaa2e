-- MNT below a root by what is under Logical.
use Rattle.std.proofs.Common.{◌≡◌, ℕ, false, List, [], ◌∷◌, Some, None, Option, refl, sym, ap, ◌∙◌}
use Rattle.std.specs.Option.{option_map}
use Rattle.std.specs.FinMap.{get}
use Rattle.nfs_model.specs.Types.{Caller, Status, Listed, Answer, Success}
use Rattle.nfs_model.specs.Tree.{Affinity}
use Rattle.nfs_model.specs.Server.{DirectoryNode, Node, VolumeState}
use Rattle.nfs_model.specs.Names.{find_name}
use Rattle.nfs_model.specs.Locate.{Effect, unless, on_directory}
use Rattle.nfs_model.specs.Serial.Mount.{parts_below}
use Rattle.nfs_model.specs.Serial.MountBelow.{search_refusal, part_fault, on_entry, mount_below}
use Rattle.nfs_model.specs.volume.Inodes.{InodeKind, DirectoryKind, Inode}
use Rattle.filer_state.specs.state.Contents.{VolumeContents}
use Rattle.filer_state.specs.state.Tree.{volume_of, node_by, node_of}
use Rattle.filer_state.specs.state.Jobs.{Replied}
use Rattle.filer_state.specs.state.Lenses.{LogicalSet, logical_lens}
use Rattle.filer_state.specs.state.Promises.{RightOnVolume}
use Rattle.filer_state.specs.state.Calls.{ServesOn, answer_of, volume_left}
use Rattle.filer_state.specs.attributes.lemmas.Getting.{node-at}
use Rattle.filer_state.specs.names.Answers.{entries_of, by_directory_kind, in_directory, in_searched, search_fault, unless_part_fault, on_fileid, mount_answer}
use Rattle.filer_state.specs.names.Laws.{mount_call}
use Rattle.filer_state.specs.names.lemmas.Telling.{tells-right}
use Rattle.filer_state.specs.names.lemmas.DirectoryKinds.{directory-stays}

-- ---- it changes nothing

module _ (volume : VolumeState) (caller : Caller) where
  unless-stays : (o : Option Status) (effect : Effect) → volume ≡ volume_left volume effect → volume ≡ volume_left volume (unless o effect)
  unless-stays None effect stays = stays
  unless-stays (Some status) effect stays = refl

  entry-stays : (o : Option Listed) (run : ℕ → Effect) → ((fileid : ℕ) → volume ≡ volume_left volume (run fileid))
      → volume ≡ volume_left volume (on_entry o run)
  entry-stays None run stays = refl
  entry-stays (Some e) run stays = stays e.fileid

  below-stays : (parts : List (List ℕ)) (fileid : ℕ) → volume ≡ volume_left volume (mount_below parts caller volume fileid)
  below-stays [] fileid = directory-stays volume (get volume.nodes fileid) _ (λ d. refl)
  below-stays (part ∷ parts) fileid =
      directory-stays volume (get volume.nodes fileid) _ (λ d.
      unless-stays (search_refusal caller d) _
      (unless-stays (part_fault part) _ (entry-stays (find_name part d.list) _ (λ child. below-stays parts child))))

-- what is run in a directory that may be searched
abbrev searched : Caller → (DirectoryNode → Effect) → DirectoryNode → Effect
searched caller run d = unless (search_refusal caller d) (run d)

-- ---- what is told of a directory

module _ (p : VolumeContents) (fileid : ℕ) where
  -- by its inode, where what is run goes by its entries
  in-directory-told : (run : DirectoryNode → Effect) (answer : Answer)
      → ((d : DirectoryNode) → d.list ≡ (entries_of p.logical fileid).list → answer ≡ answer_of 0 (run d))
      → in_directory (get p.logical.inodes.inodes fileid) answer ≡ answer_of 0 (on_directory (get (volume_of p).nodes fileid) run)
  in-directory-told run answer tells =
      by (get p.logical.inodes.inodes fileid) ∙ ap (λ (o : Option Node). answer_of 0 (on_directory o run)) (sym (node-at p fileid))
    where
      kinds : (inode : Inode) (kind : InodeKind)
          → by_directory_kind kind answer
          ≡ answer_of 0 (on_directory (Some (node_by p.stripes (get p.logical.directories fileid) (get p.logical.texts fileid) fileid inode.attributes inode.names kind)) run)
      kinds inode (DirectoryKind parent subs) = tells _ refl
      kinds inode kind = refl

      by : (o : Option Inode)
          → in_directory o answer ≡ answer_of 0 (on_directory (option_map (node_of p.stripes p.logical.directories p.logical.texts fileid) o) run)
      by None = refl
      by (Some inode) = kinds inode inode.kind

  -- and where it has to be searched first
  in-searched-told : (caller : Caller) (run : DirectoryNode → Effect) (answer : Answer)
      → ((d : DirectoryNode) → d.list ≡ (entries_of p.logical fileid).list → answer ≡ answer_of 0 (run d))
      → in_searched caller (get p.logical.inodes.inodes fileid) answer
      ≡ answer_of 0 (on_directory (get (volume_of p).nodes fileid) (λ d. unless (search_refusal caller d) (run d)))
  in-searched-told caller run answer tells =
      by (get p.logical.inodes.inodes fileid) ∙ ap (λ (o : Option Node). answer_of 0 (on_directory o (searched caller run))) (sym (node-at p fileid))
    where
      faults : (o : Option Status) (effect : Effect) → answer ≡ answer_of 0 effect → unless_part_fault o answer ≡ answer_of 0 (unless o effect)
      faults None effect same = same
      faults (Some status) effect same = refl

      kinds : (inode : Inode) (kind : InodeKind)
          → by_directory_kind kind (unless_part_fault (search_fault caller inode) answer)
          ≡ answer_of 0 (on_directory (Some (node_by p.stripes (get p.logical.directories fileid) (get p.logical.texts fileid) fileid inode.attributes inode.names kind)) (searched caller run))
      kinds inode (DirectoryKind parent subs) = faults (search_fault caller inode) _ (tells _ refl)
      kinds inode kind = refl

      by : (o : Option Inode)
          → in_searched caller o answer ≡ answer_of 0 (on_directory (option_map (node_of p.stripes p.logical.directories p.logical.texts fileid) o) (searched caller run))
      by None = refl
      by (Some inode) = kinds inode inode.kind

module _ (p : VolumeContents) (caller : Caller) where
  entry-told : (parts : List (List ℕ))
      → ((fileid : ℕ) → mount_answer p.number parts caller (logical_lens.of p) fileid ≡ answer_of 0 (mount_below parts caller (volume_of p) fileid))
      → (o : Option Listed)
      → on_fileid (option_map (λ (e : Listed). e.fileid) o) (mount_answer p.number parts caller (logical_lens.of p))
      ≡ answer_of 0 (on_entry o (mount_below parts caller (volume_of p)))
  entry-told parts others None = refl
  entry-told parts others (Some e) = others e.fileid

  checked : (o : Option Status) (answer : Answer) (effect : Effect) → answer ≡ answer_of 0 effect
      → unless_part_fault o answer ≡ answer_of 0 (unless o effect)
  checked None answer effect same = same
  checked (Some status) answer effect same = refl

  below-told : (parts : List (List ℕ)) (fileid : ℕ)
      → mount_answer p.number parts caller (logical_lens.of p) fileid ≡ answer_of 0 (mount_below parts caller (volume_of p) fileid)
  below-told [] fileid = in-directory-told p fileid _ _ (λ d same. refl)
  below-told (part ∷ parts) fileid =
      in-searched-told p fileid caller _ _ (λ d same.
      checked (part_fault part) _ _
      (entry-told parts (λ child. below-told parts child) (find_name part (entries_of p.logical fileid).list)
      ∙ ap (λ (l : List Listed). answer_of 0 (on_entry (find_name part l) (mount_below parts caller (volume_of p)))) (sym same)))

pub mount-right : (v fileid : ℕ) (root path : List ℕ) (node : Affinity) (caller : Caller) (set : LogicalSet)
    → RightOnVolume v logical_lens (ServesOn (mount_call root node fileid path caller) false) [] [] set
    (Replied (Success (mount_answer v (parts_below path) caller set fileid))) set
mount-right v fileid root path node caller =
    tells-right v (mount_call root node fileid path caller) (λ n s. mount_answer n (parts_below path) caller s fileid) (λ p. refl) (λ p. refl)
    (λ p. below-stays (volume_of p) caller (parts_below path) fileid) (λ p well. below-told p caller (parts_below path) fileid)
