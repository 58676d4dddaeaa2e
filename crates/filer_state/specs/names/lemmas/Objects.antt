-- ACCESS, FSINFO and PATHCONF by what is under Logical.
use Rattle.std.proofs.Common.{◌≡◌, ℕ, false, List, [], Some, None, Option, refl, sym, ap, ◌∙◌}
use Rattle.std.specs.Option.{option_map}
use Rattle.std.specs.FinMap.{get}
use Rattle.nfs_model.specs.Types.{Caller, Shown, Answer, AccessDone, FsinfoDone, PathconfDone, Success}
use Rattle.nfs_model.specs.Tree.{Affinity}
use Rattle.nfs_model.specs.Server.{Node, VolumeState}
use Rattle.nfs_model.specs.Shown.{shown}
use Rattle.nfs_model.specs.Locate.{Tells, on_node}
use Rattle.nfs_model.specs.Serial.Access.{access_given}
use Rattle.nfs_model.specs.Serial.Getattr.{tell_of}
use Rattle.nfs_model.specs.volume.Inodes.{Inode}
use Rattle.filer_state.specs.state.Contents.{VolumeContents}
use Rattle.filer_state.specs.state.Tree.{volume_of, node_of, file_touch}
use Rattle.filer_state.specs.state.WellFormed.{WellFormed}
use Rattle.filer_state.specs.state.Jobs.{Replied}
use Rattle.filer_state.specs.state.Lenses.{LogicalSet, logical_lens}
use Rattle.filer_state.specs.state.Promises.{RightOnVolume}
use Rattle.filer_state.specs.state.Calls.{ServesOn, answer_of, volume_left}
use Rattle.filer_state.specs.state.Changes.{shown_inode}
use Rattle.filer_state.specs.attributes.lemmas.Getting.{node-at, node-shown}
use Rattle.filer_state.specs.names.Answers.{object_in, object_told_by, access_answer, fsinfo_answer, pathconf_answer}
use Rattle.filer_state.specs.names.Laws.{access_call, fsinfo_call, pathconf_call}
use Rattle.filer_state.specs.names.lemmas.Telling.{tells-right}

-- nothing changes
object-stays : (volume : VolumeState) (fileid : ℕ) (answer : Shown → Answer) (o : Option Node)
    → volume ≡ volume_left volume (on_node o (λ node. Tells (answer (shown volume fileid node))))
object-stays volume fileid answer None = refl
object-stays volume fileid answer (Some node) = refl

-- what is told by a node's attributes, by its inode and its stripes
module _ (p : VolumeContents) (well : WellFormed p) (fileid : ℕ) (answer : Shown → Answer) where
  inode-told : (o : Option Inode) → get p.logical.inodes.inodes fileid ≡ o
      → object_told_by answer (option_map (λ inode. shown_inode p.number fileid inode (file_touch p.stripes fileid)) o)
      ≡ answer_of 1 (on_node (option_map (node_of p.stripes p.logical.directories p.logical.texts fileid) o)
      (λ node. Tells (answer (shown (volume_of p) fileid node))))
  inode-told None e = refl
  inode-told (Some inode) e = ap answer (sym (node-shown p well fileid inode e))

  object-told : object_told_by answer (object_in p.number fileid (logical_lens.of p)) ≡ answer_of 1 (tell_of answer (volume_of p) fileid)
  object-told =
      inode-told (get p.logical.inodes.inodes fileid) refl
      ∙ ap (λ (o : Option Node). answer_of 1 (on_node o (λ node. Tells (answer (shown (volume_of p) fileid node))))) (sym (node-at p fileid))

module _ (v fileid : ℕ) (handle : List ℕ) (node : Affinity) where
  pub access-right : (asked : ℕ) (caller : Caller) (set : LogicalSet)
      → RightOnVolume v logical_lens (ServesOn (access_call handle node fileid asked caller) false) [] [] set
      (Replied (Success (access_answer v fileid asked caller set))) set
  access-right asked caller =
      tells-right v (access_call handle node fileid asked caller) (λ n s. access_answer n fileid asked caller s) (λ p. refl) (λ p. refl)
      (λ p. object-stays (volume_of p) fileid (λ object. AccessDone object (access_given caller asked object)) (get (volume_of p).nodes fileid))
      (λ p well. object-told p well fileid (λ object. AccessDone object (access_given caller asked object)))

  pub fsinfo-right : (set : LogicalSet)
      → RightOnVolume v logical_lens (ServesOn (fsinfo_call handle node fileid) false) [] [] set (Replied (Success (fsinfo_answer v fileid set))) set
  fsinfo-right =
      tells-right v (fsinfo_call handle node fileid) (λ n s. fsinfo_answer n fileid s) (λ p. refl) (λ p. refl)
      (λ p. object-stays (volume_of p) fileid (λ object. FsinfoDone object (volume_of p).largest) (get (volume_of p).nodes fileid))
      (λ p well. object-told p well fileid (λ object. FsinfoDone object p.logical.largest))

  pub pathconf-right : (caller : Caller) (set : LogicalSet)
      → RightOnVolume v logical_lens (ServesOn (pathconf_call handle node fileid caller) false) [] [] set
      (Replied (Success (pathconf_answer v fileid caller set))) set
  pathconf-right caller =
      tells-right v (pathconf_call handle node fileid caller) (λ n s. pathconf_answer n fileid caller s) (λ p. refl) (λ p. refl)
      (λ p. object-stays (volume_of p) fileid (λ object. PathconfDone object caller.checked) (get (volume_of p).nodes fileid))
      (λ p well. object-told p well fileid (λ object. PathconfDone object caller.checked))
