-- What a step leaves after another, and targets that are dropped.
use Rattle.std.proofs.Common.{◌≡◌, ℕ, ◌<◌, ◌≤◌, true, false, List, Option, Some, refl, sym, ap, ◌∙◌}
use Rattle.std.proofs.lemmas.Bool.{le-leb, lt-leb}
use Rattle.std.specs.Prelude.{nat_le}
use Rattle.nfs_model.specs.Types.{Moment}
use Rattle.nfs_model.specs.Types.{SpecialType}
use Rattle.nfs_model.specs.volume.Inodes.{InodeKind, RegularFile, DirectoryKind, SpecialFile, Inode}
use Rattle.filer_state.specs.state.Lenses.{LogicalSet}
use Rattle.filer_state.specs.state.Names.{DirectoryMap}
use Rattle.filer_state.specs.state.Sets.{FilerLogical, logical_set, logical_before, logical_after}
use Rattle.service_names.specs.NodesDropped.{directories_left, node_dropped}
use Rattle.service_names.specs.NodesSized.{kind_sized, file_sized}
use Rattle.service_names.specs.NamedChanges.{HeldNode}
use Rattle.service_names.specs.DroppingChanges.{dropping_of, emptying_of, child_emptied}
use Rattle.service_names.specs.Naming.{naming_in}
use Rattle.service.specs.declared.renames.between.Between.{Between}
use Rattle.service.specs.renames.Moving.{with_map, to_of, node_gone, emptied_gone, name_out, last_out, out_as, target_out}

-- a step that changes what another left
pub then-step : {P : Type 0} (old mid new : FilerLogical P) (t : LogicalSet) (f : LogicalSet → LogicalSet) → logical_after old mid ≡ t
    → t.own.stripes ≡ old.own.stripes → logical_after mid new ≡ f (logical_before mid) → logical_after old new ≡ f t
then-step old mid new t f first kept next =
    let same : mid.own.stripes ≡ old.own.stripes = ap (λ (s : LogicalSet). s.own.stripes) first ∙ kept in
    let at : logical_before mid ≡ t = ap (λ (n : ℕ). logical_set n mid) same ∙ first in
    ap (λ (n : ℕ). logical_set n new) (sym same) ∙ next ∙ ap f at

sized-left : (size fewer : ℕ) (kind : InodeKind) (fileid : ℕ) (directories : DirectoryMap)
    → directories_left (kind_sized size fewer kind) fileid directories ≡ directories_left kind fileid directories
sized-left size fewer (RegularFile old filled verifier) fileid directories = refl
sized-left size fewer (DirectoryKind parent subs) fileid directories = refl
sized-left size fewer (SpecialFile special old) fileid directories = refl

-- a file without bytes is dropped
pub emptied-then-gone : {P : Type 0} (old mid new : FilerLogical P) (v directory : ℕ)
    (as_directory : Inode) (name : List ℕ) (moment : Moment) (child : HeldNode)
    (emptied : Inode) → emptied ≡ (child_emptied child (logical_before old)).inode
    → logical_after old mid ≡ file_sized (emptying_of child) (logical_before old)
    → logical_after mid new ≡ node_gone (naming_in v directory as_directory name moment (logical_before mid))
    (record { fileid = child.fileid; inode = emptied })
    (logical_before mid)
    → logical_after old new ≡ emptied_gone (naming_in v directory as_directory name moment (logical_before old)) child (logical_before old)
emptied-then-gone old mid new v directory as_directory name moment child emptied is sized gone =
    then-step old mid new (file_sized (emptying_of child) (logical_before old))
    (λ (s : LogicalSet). node_gone (naming_in v directory as_directory name moment s) (record { fileid = child.fileid; inode = emptied }) s) sized refl gone
    ∙ ap (λ (i : Inode). node_gone (naming_in v directory as_directory name moment (file_sized (emptying_of child) (logical_before old)))
    (record { fileid = child.fileid; inode = i }) (file_sized (emptying_of child) (logical_before old))) is
    ∙ ap (λ (m : DirectoryMap). with_map m (node_dropped (dropping_of (naming_in v directory as_directory name moment (logical_before old))
    (child_emptied child (logical_before old))) (file_sized (emptying_of child) (logical_before old))))
    (sized-left 0 _ child.inode.kind child.fileid (logical_before old).own.directories)

module _ (b : Between) (t : HeldNode) (s : LogicalSet) where
  -- one that has other names
  pub out-name : 1 < t.inode.names → name_out (to_of b s) t s ≡ target_out b (Some t) s
  out-name more = sym (ap (λ c. out_as c (to_of b s) t s) (lt-leb t.inode.names 1 more))

  -- and one that hasn't
  module _ (last : t.inode.names ≤ 1) where
    out-last : (kind : InodeKind) → t.inode.kind ≡ kind → last_out (to_of b s) t kind s ≡ target_out b (Some t) s
    out-last kind is =
        sym (ap (λ c. out_as c (to_of b s) t s) (le-leb t.inode.names 1 last) ∙ ap (λ (k : InodeKind). last_out (to_of b s) t k s) is)

    pub out-file : (size filled : ℕ) (verifier : Option (List ℕ)) → t.inode.kind ≡ RegularFile size filled verifier
        → emptied_gone (to_of b s) t s ≡ target_out b (Some t) s
    out-file size filled verifier is = out-last (RegularFile size filled verifier) is

    pub out-directory : (parent subs : ℕ) → t.inode.kind ≡ DirectoryKind parent subs → node_gone (to_of b s) t s ≡ target_out b (Some t) s
    out-directory parent subs is = out-last (DirectoryKind parent subs) is

    pub out-special : (special : SpecialType) (size : ℕ) → t.inode.kind ≡ SpecialFile special size
        → node_gone (to_of b s) t s ≡ target_out b (Some t) s
    out-special special size is = out-last (SpecialFile special size) is
