-- ACCESS, FSINFO and PATHCONF of a set under Logical, by the attributes of a node.
use Rattle.std.proofs.Common.{◌≡◌, ℕ, false, [], Option, Some, None, Ok, Err, sym, ap, ◌∙◌, subst, Result}
use Rattle.std.specs.Option.{option_map}
use Rattle.nfs_model.specs.Types as model
use Rattle.nfs_model.specs.Types.{Caller, Moment, Shown, Answer, Success, AccessDone, FsinfoDone, PathconfDone, Failed}
use Rattle.nfs_model.specs.Serial.Access.{access_given}
use Rattle.nfs_model.specs.Tree.{Logical}
use Rattle.nfs_values.specs.Answer.{answer_of}
use Rattle.nfs_values.specs.Attributes.{shown_of}
use Rattle.nfs_values.specs.Status.{status_of}
use Rattle.nfs_values.specs.declared.answer.Answer.TheVariants.{CheckAccess, FilesystemInfo, PathConfiguration}
use Rattle.nfs_values.specs.declared.answer.AccessResults.{AccessResults}
use Rattle.nfs_values.specs.declared.answer.FilesystemInfoResults.{FilesystemInfoResults}
use Rattle.nfs_values.specs.declared.answer.PathConfigurationResults.{PathConfigurationResults}
use Rattle.nfs_values.specs.declared.attributes.Attributes.{Attributes}
use Rattle.nfs_values.specs.declared.status.Status.{Status}
use Rattle.nfs_values.specs.declared.status.Status.TheVariants.{Stale}
use Rattle.filer_state.specs.state.Lenses.{LogicalSet, logical_lens}
use Rattle.filer_state.specs.state.Promises.{RightOnVolume}
use Rattle.filer_state.specs.state.Jobs.{Replied}
use Rattle.filer_state.specs.state.Calls.{ServesOn}
use Rattle.std.specs.FinMap.{get}
use Rattle.nfs_model.specs.Serial.Access.{bits_given}
use Rattle.nfs_model.specs.Serial.Rights as rights
use Rattle.nfs_model.specs.Serial.Rights.{rights_of}
use Rattle.nfs_model.specs.volume.Inodes.{Inode}
use Rattle.rights.specs.Protection.{protection_of as protection_value}
use Rattle.rights.specs.declared.protection.Protection.{Protection}
use Rattle.filer_state.specs.state.Changes.{shown_inode}
use Rattle.filer_state.specs.state.Protected.{protection_of}
use Rattle.filer_state.specs.state.Tree.{file_touch}
use Rattle.filer_state.specs.changes.NameAnswers.{object_in, object_told_by, access_answer, fsinfo_answer, pathconf_answer}
use Rattle.filer_state.specs.changes.NameLaws.{access_call, fsinfo_call, pathconf_call}
use Rattle.filer_state.specs.changes.ObjectLemmas.{access-right, fsinfo-right, pathconf-right}
use Rattle.service_names.specs.Promises.{ChecksAccess, TellsInfo, TellsPath}

-- ---- by an inode

module _ (v fileid : ℕ) where
  module _ (set : LogicalSet) where
    pub object-there : (inode : Inode) → get set.own.inodes.inodes fileid ≡ Some inode → (object : Attributes)
        → shown_of object ≡ shown_inode v fileid inode (file_touch set.stripes fileid) → object_in v fileid set ≡ Some (shown_of object)
    object-there inode there object is =
        ap (option_map (λ (i : Inode). shown_inode v fileid i (file_touch set.stripes fileid))) there ∙ ap (λ (s : Shown). Some s) (sym is)

    pub none-there : get set.own.inodes.inodes fileid ≡ None → object_in v fileid set ≡ None
    none-there none = ap (option_map (λ (i : Inode). shown_inode v fileid i (file_touch set.stripes fileid))) none

  pub access-shown : (caller : Caller) (asked : ℕ) (inode : Inode) (touch : Option Moment) (object : Attributes)
      → shown_of object ≡ shown_inode v fileid inode touch → (p : Protection) → protection_value p ≡ protection_of inode
      → (given : ℕ) → given ≡ bits_given caller asked (protection_value p).kind (rights_of caller.credential (protection_value p))
      → given ≡ access_given caller asked (shown_of object)
  access-shown caller asked inode touch object shows p is given told =
      told
      ∙ ap (λ (q : rights.Protection). bits_given caller asked q.kind (rights_of caller.credential q)) is
      ∙ ap (λ (s : Shown). access_given caller asked s) (sym shows)

-- ---- what results tell

module _ (v fileid : ℕ) (set : LogicalSet) where
  -- a result is right where it tells what the inode, the stripes and the volume do
  checks : (asked : ℕ) (caller : Caller) (told : Result AccessResults Status) → answer_of (CheckAccess told) ≡ access_answer v fileid asked caller set
      → ChecksAccess v fileid asked caller set told
  checks asked caller told is handle =
      subst (λ (a : Answer). RightOnVolume v logical_lens (ServesOn (access_call handle (Logical v) fileid asked caller) false) [] [] set
      (Replied (Success a)) set) (sym is) (access-right v fileid handle (Logical v) asked caller set)

  tells-info : (told : Result FilesystemInfoResults Status) → answer_of (FilesystemInfo told) ≡ fsinfo_answer v fileid set → TellsInfo v fileid set told
  tells-info told is handle =
      subst (λ (a : Answer). RightOnVolume v logical_lens (ServesOn (fsinfo_call handle (Logical v) fileid) false) [] [] set
      (Replied (Success a)) set) (sym is) (fsinfo-right v fileid handle (Logical v) set)

  tells-path : (caller : Caller) (told : Result PathConfigurationResults Status)
      → answer_of (PathConfiguration told) ≡ pathconf_answer v fileid caller set → TellsPath v fileid caller set told
  tells-path caller told is handle =
      subst (λ (a : Answer). RightOnVolume v logical_lens (ServesOn (pathconf_call handle (Logical v) fileid caller) false) [] [] set
      (Replied (Success a)) set) (sym is) (pathconf-right v fileid handle (Logical v) caller set)

  -- where there is a node
  module _ (object : Attributes) (there : object_in v fileid set ≡ Some (shown_of object)) where
    pub access-of : (asked given : ℕ) (caller : Caller) → given ≡ access_given caller asked (shown_of object)
        → ChecksAccess v fileid asked caller set (Ok (record { object = object; given = given }))
    access-of asked given caller is =
        checks asked caller (Ok (record { object = object; given = given }))
        (ap (AccessDone (shown_of object)) is
        ∙ sym (ap (object_told_by (λ (s : Shown). AccessDone s (access_given caller asked s))) there))

    pub info-of : (largest : ℕ) → largest ≡ set.own.largest → TellsInfo v fileid set (Ok (record { root = object; largest = largest }))
    info-of largest is =
        tells-info (Ok (record { root = object; largest = largest }))
        (ap (FsinfoDone (shown_of object)) is ∙ sym (ap (object_told_by (λ (s : Shown). FsinfoDone s set.own.largest)) there))

    pub path-of : (caller : Caller) → TellsPath v fileid caller set (Ok (record { object = object; is_chown_restricted = caller.checked }))
    path-of caller =
        tells-path caller (Ok (record { object = object; is_chown_restricted = caller.checked }))
        (sym (ap (object_told_by (λ (s : Shown). PathconfDone s caller.checked)) there))

  -- where there is none
  module _ (none : object_in v fileid set ≡ None) (status : Status) (is : status ≡ Stale) where
    stale : Failed (status_of status) 1 ≡ Failed model.Stale 1
    stale = ap (λ (s : Status). Failed (status_of s) 1) is

    pub no-access : (asked : ℕ) (caller : Caller) → ChecksAccess v fileid asked caller set (Err status)
    no-access asked caller =
        checks asked caller (Err status) (stale ∙ sym (ap (object_told_by (λ (s : Shown). AccessDone s (access_given caller asked s))) none))

    pub no-info : TellsInfo v fileid set (Err status)
    no-info = tells-info (Err status) (stale ∙ sym (ap (object_told_by (λ (s : Shown). FsinfoDone s set.own.largest)) none))

    pub no-path : (caller : Caller) → TellsPath v fileid caller set (Err status)
    no-path caller =
        tells-path caller (Err status) (stale ∙ sym (ap (object_told_by (λ (s : Shown). PathconfDone s caller.checked)) none))
