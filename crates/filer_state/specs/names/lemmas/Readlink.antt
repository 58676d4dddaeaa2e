-- READLINK by what is under Logical.
use Rattle.std.proofs.Common.{◌≡◌, ℕ, false, List, [], Some, None, Option, refl, sym, ap, ◌∙◌, subst}
use Rattle.std.specs.Prelude.{IsTrue}
use Rattle.std.specs.Option.{option_map}
use Rattle.std.specs.FinMap.{get}
use Rattle.nfs_model.specs.Types.{Moment, Shown, Answer, ReadlinkDone, Readlink, Success}
use Rattle.nfs_model.specs.Types.{SpecialType, SymbolicLink}
use Rattle.nfs_model.specs.Tree.{Affinity}
use Rattle.nfs_model.specs.Server.{SpecialNode, Node, Special, VolumeState}
use Rattle.nfs_model.specs.Shown.{shown}
use Rattle.nfs_model.specs.Locate.{Effect, Tells, on_node}
use Rattle.nfs_model.specs.Serial.Readlink.{if_symbolic, on_symbolic, readlink}
use Rattle.nfs_model.specs.Serial.Starve.{takes_memory}
use Rattle.nfs_model.specs.Work.{Starved}
use Rattle.nfs_model.specs.volume.Inodes.{InodeKind, RegularFile, DirectoryKind, SpecialFile, Inode}
use Rattle.filer_state.specs.state.Contents.{VolumeContents}
use Rattle.filer_state.specs.state.Tree.{volume_of, node_by, node_of, file_touch, text_or_empty}
use Rattle.filer_state.specs.state.WellFormed.{WellFormed}
use Rattle.filer_state.specs.state.Jobs.{Replied}
use Rattle.filer_state.specs.state.Lenses.{LogicalSet, logical_lens}
use Rattle.filer_state.specs.state.Promises.{RightOnVolume}
use Rattle.filer_state.specs.state.Calls.{ServesOn, WorksOn, answer_of, volume_left}
use Rattle.filer_state.specs.state.Changes.{shown_kind, shown_inode}
use Rattle.filer_state.specs.attributes.lemmas.Getting.{node-at, node-shown}
use Rattle.filer_state.specs.names.Answers.{special_read, link_read, inode_read, readlink_answer}
use Rattle.filer_state.specs.names.Laws.{readlink_call}
use Rattle.filer_state.specs.names.lemmas.Telling.{tells-right, starves-right}

-- what is read of a symbolic link
abbrev text_told : VolumeState → ℕ → SpecialNode → Effect
text_told volume fileid s = Tells (ReadlinkDone (shown volume fileid (Special s)) s.text)

-- nothing changes
special-stays : (volume : VolumeState) (special : SpecialType) (answer : Answer) → volume ≡ volume_left volume (if_symbolic special (Tells answer))
special-stays volume SymbolicLink answer = refl
special-stays volume special answer = refl

link-stays : (volume : VolumeState) (fileid : ℕ) (o : Option Node)
    → volume ≡ volume_left volume (on_node o (λ node. on_symbolic node (text_told volume fileid)))
link-stays volume fileid None = refl
link-stays volume fileid (Some (Special s)) = special-stays volume s.special (ReadlinkDone (shown volume fileid (Special s)) s.text)
link-stays volume fileid (Some node) = refl

special-told : (special : SpecialType) (mine theirs : Shown) (text : List ℕ) → mine ≡ theirs
    → special_read mine text special ≡ answer_of 1 (if_symbolic special (Tells (ReadlinkDone theirs text)))
special-told SymbolicLink mine theirs text same = ap (λ (s : Shown). ReadlinkDone s text) same
special-told special mine theirs text same = refl

-- by the inode and the text that is held
module _ (p : VolumeContents) (well : WellFormed p) (fileid : ℕ) where
  abbrev seen : Inode → InodeKind → Node
  seen inode kind = node_by p.stripes (get p.logical.directories fileid) (get p.logical.texts fileid) fileid inode.attributes inode.names kind

  abbrev text : List ℕ
  text = text_or_empty (get p.logical.texts fileid)

  kinds : (inode : Inode) → get p.logical.inodes.inodes fileid ≡ Some inode → (kind : InodeKind) → inode.kind ≡ kind
      → link_read (shown_inode p.number fileid inode None) text kind
      ≡ answer_of 1 (on_node (Some (seen inode kind)) (λ node. on_symbolic node (text_told (volume_of p) fileid)))
  kinds inode there (SpecialFile special size) is =
      let by_kind : (touch : Option Moment) → shown_inode p.number fileid inode touch
      ≡ shown_kind p.number fileid inode.attributes inode.names (SpecialFile special size) touch =
      λ touch. ap (λ (k : InodeKind). shown_kind p.number fileid inode.attributes inode.names k touch) is in
      let shows = by_kind None ∙ sym (by_kind (file_touch p.stripes fileid)) ∙ sym (node-shown p well fileid inode there)
      ∙ ap (λ (k : InodeKind). shown (volume_of p) fileid (seen inode k)) is in
      special-told special _ _ text shows
  kinds inode there (RegularFile size filled verifier) is = refl
  kinds inode there (DirectoryKind parent subdirectories) is = refl

  by_inode : (o : Option Inode) → get p.logical.inodes.inodes fileid ≡ o
      → inode_read p.number fileid (logical_lens.of p) o
      ≡ answer_of 1 (on_node (option_map (node_of p.stripes p.logical.directories p.logical.texts fileid) o)
      (λ node. on_symbolic node (text_told (volume_of p) fileid)))
  by_inode None e = refl
  by_inode (Some inode) e = kinds inode e inode.kind refl

  readlink-told : readlink_answer p.number fileid (logical_lens.of p) ≡ answer_of 1 (readlink (volume_of p) fileid)
  readlink-told =
      by_inode (get p.logical.inodes.inodes fileid) refl
      ∙ ap (λ (o : Option Node). answer_of 1 (on_node o (λ node. on_symbolic node (text_told (volume_of p) fileid)))) (sym (node-at p fileid))

module _ (v fileid : ℕ) (handle : List ℕ) (node : Affinity) where
  pub readlink-right : (set : LogicalSet)
      → RightOnVolume v logical_lens (ServesOn (readlink_call handle node fileid) false) [] [] set
      (Replied (Success (readlink_answer v fileid set))) set
  readlink-right =
      tells-right v (readlink_call handle node fileid) (λ n s. readlink_answer n fileid s) (λ p. refl) (λ p. refl)
      (λ p. link-stays (volume_of p) fileid (get (volume_of p).nodes fileid)) (λ p well. readlink-told p well fileid)

  -- memory may run out where it would tell a text
  pub readlink-starves : (set : LogicalSet) (object : Shown) (told : List ℕ) → readlink_answer v fileid set ≡ ReadlinkDone object told
      → RightOnVolume v logical_lens (WorksOn (readlink_call handle node fileid)) [] [] set Starved set
  readlink-starves set object told lists =
      starves-right v (readlink_call handle node fileid) (λ n s. readlink_answer n fileid s) (λ p. refl)
      (λ p well. readlink-told p well fileid) set (λ server answer is.
      subst (λ (a : Answer). IsTrue (takes_memory server (Readlink handle) a)) (sym lists ∙ is) refl)
