-- REMOVE and RMDIR of a set under Logical, as their checks come out.
use Rattle.std.proofs.Common.{◌≡◌, ℕ, suc, ◌==◌, Bool, true, false, List, [], ◌∷◌, length, Option, Some, None, refl, sym, ap, ◌∙◌, subst, arith}
use Rattle.std.proofs.lemmas.Bool.{eqb-true}
use Rattle.std.specs.Prelude.{if◌then◌else◌}
use Rattle.std.specs.FinMap.{get}
use Rattle.nfs_model.specs.Types.{Moment, Listed, Invalid}
use Rattle.nfs_model.specs.Names.{is_dots}
use Rattle.nfs_model.specs.volume.Directories.{DirectoryValue, fileid_found}
use Rattle.nfs_model.specs.volume.Inodes.{InodeKind, RegularFile, DirectoryKind, Inode, SpecialFile}
use Rattle.nfs_model.specs.volume.lemmas.Numbered.{get-remove_at}
use Rattle.filer_state.specs.state.Lenses.{LogicalSet}
use Rattle.filer_state.specs.state.Changes.{LogicalAnswer}
use Rattle.filer_state.specs.changes.NameAnswers.{entries_of}
use Rattle.filer_state.specs.changes.NodesSized.{kind_sized}
use Rattle.filer_state.specs.changes.NodesDropped.{without_subdirectories, directories_left}
use Rattle.filer_state.specs.changes.Named.{fails, HeldNode, node_at, node_under}
use Rattle.filer_state.specs.changes.Dropping.{name_gone, held_gone, remove_by, remove_kind, held_remove, if_empty, rmdir_kind}
use Rattle.service_names.specs.Naming.{naming_in}
use Rattle.service_names.specs.Shown.{HasFewLinks}
use Rattle.filer_state.specs.state.Names.{parent_in}

-- ---- links

pub few-left : (fewer : ℕ) (kind : InodeKind) → HasFewLinks kind → HasFewLinks (without_subdirectories fewer kind)
few-left fewer (RegularFile size filled verifier) few = few
few-left fewer (SpecialFile special size) few = few
few-left fewer (DirectoryKind parent subs) few = omega (arith, few)

pub few-sized : (size fewer : ℕ) (kind : InodeKind) → HasFewLinks kind → HasFewLinks (kind_sized size fewer kind)
few-sized size fewer (RegularFile old filled verifier) few = few
few-sized size fewer (SpecialFile special old) few = few
few-sized size fewer (DirectoryKind parent subs) few = few

-- ---- a name in a directory

module _ (v directory : ℕ) (inode : Inode) (name : List ℕ) (moment : Moment) (s : LogicalSet) (child : HeldNode)
    (under : node_under (naming_in v directory inode name moment s) ≡ Some child) where
  -- what isn't a directory loses the name
  pub removed-name : (done : LogicalAnswer) → done ≡ held_remove (naming_in v directory inode name moment s)
      → is_dots name ≡ false → parent_in child.inode.kind ≡ None → done ≡ name_gone (naming_in v directory inode name moment s) child
  removed-name done told good none =
      told
      ∙ ap (λ (b : Bool). if b then fails Invalid s else remove_by (naming_in v directory inode name moment s)
      (node_under (naming_in v directory inode name moment s))) good
      ∙ ap (remove_by (naming_in v directory inode name moment s)) under
      ∙ by child.inode.kind none
    where
      by : (k : InodeKind) → parent_in k ≡ None
          → remove_kind (naming_in v directory inode name moment s) child k ≡ name_gone (naming_in v directory inode name moment s) child
      by (RegularFile size filled verifier) none = refl
      by (DirectoryKind parent subs) none = absurd cc
      by (SpecialFile special size) none = refl

  -- a directory without entries does
  pub removed-directory-kind : (parent subs : ℕ) → child.inode.kind ≡ DirectoryKind parent subs → (entries_of s.own child.fileid).list ≡ []
      → rmdir_kind (naming_in v directory inode name moment s) child child.inode.kind
      ≡ held_gone (naming_in v directory inode name moment s) child s
  removed-directory-kind parent subs kind none =
      ap (rmdir_kind (naming_in v directory inode name moment s) child) kind
      ∙ ap (λ (list : List Listed). if_empty list s (held_gone (naming_in v directory inode name moment s) child s)) none

  unnamed : (d : DirectoryValue) → d.list ≡ [] → fileid_found d name ≡ None
  unnamed d none = ap (λ (list : List Listed). fileid_found (record d { list = list }) name) none

  -- which isn't the directory where its name is
  pub still-entered : (parent subs : ℕ) → child.inode.kind ≡ DirectoryKind parent subs → (entries_of s.own child.fileid).list ≡ []
      → get s.own.directories directory ≡ Some (entries_of s.own directory)
      → get (directories_left child.inode.kind child.fileid s.own.directories) directory ≡ Some (entries_of s.own directory)
  still-entered parent subs kind none entered =
      ap (λ (k : InodeKind). get (directories_left k child.fileid s.own.directories) directory) kind
      ∙ get-remove_at s.own.directories child.fileid directory ∙ by (directory == child.fileid) refl
    where
      by : (b : Bool) → (directory == child.fileid) ≡ b
          → (if b then None else get s.own.directories directory) ≡ Some (entries_of s.own directory)
      by false e = entered
      by true e =
          let same : child.fileid ≡ directory = sym (eqb-true directory child.fileid e) in
          let empty : (entries_of s.own directory).list ≡ [] = subst (λ (f : ℕ). (entries_of s.own f).list ≡ []) same none in
          let gone : None ≡ Some child = ap (node_at s) (sym (unnamed (entries_of s.own directory) empty)) ∙ under in
          absurd cc

-- an empty list
pub no-entries : (list : List Listed) (b : Bool) → b ≡ (length list == 0) → b ≡ true → list ≡ []
no-entries [] b is true_is = refl
no-entries (e ∷ list) b is true_is =
    let none : suc (length list) ≡ 0 = eqb-true (suc (length list)) 0 (sym is ∙ true_is) in absurd (omega (arith, none))
