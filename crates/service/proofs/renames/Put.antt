-- A node that comes into its directory, and one that loses a name.
use Rattle.std.proofs.Common.{◌≡◌, ℕ, ◌-◌, List, Option, sym, ap, ◌∙◌}
use Rattle.std.specs.FinMap.{get}
use Rattle.nfs_model.specs.Types.{Moment}
use Rattle.nfs_values.specs.Moment.{moment_of}
use Rattle.nfs_model.specs.volume.Inodes.{Inode}
use Rattle.nfs_model.specs.volume.Stripes.{StripeValue}
use Rattle.nfs_model.specs.volume.Logical.{LogicalValue}
use Rattle.inodes.specs.Inode.{inode_value}
use Rattle.filer_state.specs.state.Changes.{attributes_now, touches_taken}
use Rattle.filer_state.specs.state.Contents.{each}
use Rattle.filer_state.specs.state.Lenses.{LogicalSet}
use Rattle.filer_state.specs.state.Sets.{FilerLogical, stripe_value, placed, logical_before, logical_after}
use Rattle.filer_state.specs.state.Tree.{file_touch}
use Rattle.service_names.specs.NodesMade.{directories_in, with_subdirectories}
use Rattle.service_names.specs.NodesDropped.{without_subdirectories}
use Rattle.service_names.specs.NodesMoved.{dated_inode, with_parent, node_counted, node_hung}
use Rattle.service_names.specs.DroppingChanges.{losing_of}
use Rattle.service_names.specs.NamedChanges.{HeldNaming, HeldNode}
use Rattle.service_names.specs.RenamingChanges.{inode_or, moving_of}
use Rattle.service_names.specs.Changing.{with_inode}
use Rattle.service_names.specs.Naming.{naming_in}
use Rattle.service.specs.declared.renames.between.Between.{Between}
use Rattle.service.specs.renames.Moving.{to_of, name_out, node_in}

module _ {P : Type 0} (old one two new : FilerLogical P) (b : Between) (child : HeldNode)
    (set : Inode) (one_own : one.own ≡ with_inode b.to.fileid.0 set old.own) (one_stripes : one.stripes ≡ old.stripes) where
  abbrev s : LogicalSet
  s = logical_before old

  same : one.own.stripes ≡ old.own.stripes
  same = ap (λ (l : LogicalValue). l.stripes) one_own

  before : (logical_before one).stripes ≡ s.stripes
  before =
      ap (λ (n : ℕ). each (λ i. stripe_value (placed one.stripes.at i)) 0 n) same
      ∙ ap (λ st. each (λ i. stripe_value (placed st.at i)) 0 old.own.stripes) one_stripes

  -- the directory as it is then
  abbrev as_directory : Inode
  as_directory = inode_or (get s.own.inodes.inodes b.to.fileid.0) (inode_value b.to.inode)

  pub dated-is : (now : Inode) → now ≡ as_directory
      → set ≡ dated_inode (moment_of b.moment) (with_subdirectories (directories_in child.inode.kind) now.kind) now
      → set ≡ dated_inode (moment_of b.moment) (with_subdirectories (directories_in child.inode.kind) as_directory.kind) as_directory
  dated-is now is dated = dated ∙ ap (λ (i : Inode). dated_inode (moment_of b.moment) (with_subdirectories (directories_in child.inode.kind) i.kind) i) is

  pub hung-is : (hung : Inode) (touch : Option Moment) → touch ≡ file_touch (logical_before one).stripes child.fileid
      → hung.attributes ≡ record (attributes_now touch child.inode.attributes child.inode.kind) { ctime = moment_of b.moment }
      → hung.names ≡ child.inode.names → hung.kind ≡ with_parent b.to.fileid.0 child.inode.kind
      → hung ≡ node_hung (moving_of (to_of b s) child s) (file_touch s.stripes child.fileid)
  hung-is hung touch latest attributes_is names_is kind_is = λ j. record { attributes = held j; names = names_is j; kind = kind_is j }
    where
      held : hung.attributes
          ≡ record (attributes_now (file_touch s.stripes child.fileid) child.inode.attributes child.inode.kind) { ctime = moment_of b.moment }
      held =
          attributes_is
          ∙ ap (λ (t : Option Moment). record (attributes_now t child.inode.attributes child.inode.kind) { ctime = moment_of b.moment })
          (latest ∙ ap (λ (stripes : List StripeValue). file_touch stripes child.fileid) before)

  pub put-in : (hung : Inode) → two.own ≡ one.own → (logical_after one two).stripes ≡ touches_taken child.fileid (logical_before one).stripes
      → new.own ≡ with_inode child.fileid hung two.own → new.stripes ≡ two.stripes
      → set ≡ dated_inode (moment_of b.moment) (with_subdirectories (directories_in child.inode.kind) as_directory.kind) as_directory
      → hung ≡ node_hung (moving_of (to_of b s) child s) (file_touch s.stripes child.fileid)
      → logical_after old new ≡ node_in b child s
  put-in hung two_own taken new_own new_stripes dated_is hung_is = λ j. record { own = own j; stripes = stripes j }
    where
      own : new.own ≡ (node_in b child s).own
      own =
          new_own ∙ ap (with_inode child.fileid hung) (two_own ∙ one_own)
          ∙ (λ j. with_inode child.fileid (hung_is j) (with_inode b.to.fileid.0 (dated_is j) old.own))

      stripes : (logical_after old new).stripes ≡ touches_taken child.fileid s.stripes
      stripes =
          ap (λ st. each (λ i. stripe_value (placed st.at i)) 0 old.own.stripes) new_stripes
          ∙ ap (λ (n : ℕ). each (λ i. stripe_value (placed two.stripes.at i)) 0 n) (sym same)
          ∙ taken ∙ ap (touches_taken child.fileid) before

module _ {P : Type 0} (old one two new : FilerLogical P) (v directory : ℕ) (inode : Inode) (name : List ℕ) (moment : Moment) (child : HeldNode)
    (set : Inode) (one_own : one.own ≡ with_inode directory set old.own) (one_stripes : one.stripes ≡ old.stripes) where
  abbrev t : LogicalSet
  t = logical_before old

  abbrev n : HeldNaming
  n = naming_in v directory inode name moment t

  same-count : one.own.stripes ≡ old.own.stripes
  same-count = ap (λ (l : LogicalValue). l.stripes) one_own

  before-it : (logical_before one).stripes ≡ t.stripes
  before-it =
      ap (λ (m : ℕ). each (λ i. stripe_value (placed one.stripes.at i)) 0 m) same-count
      ∙ ap (λ st. each (λ i. stripe_value (placed st.at i)) 0 old.own.stripes) one_stripes

  pub counted-is : (counted : Inode) (touch : Option Moment) → touch ≡ file_touch (logical_before one).stripes child.fileid
      → counted.attributes ≡ record (attributes_now touch child.inode.attributes child.inode.kind) { ctime = moment }
      → counted.names ≡ child.inode.names - 1 → counted.kind ≡ child.inode.kind
      → counted ≡ node_counted (losing_of n child) (file_touch t.stripes child.fileid)
  counted-is counted touch latest attributes_is names_is kind_is = λ j. record { attributes = held j; names = names_is j; kind = kind_is j }
    where
      held : counted.attributes ≡ record (attributes_now (file_touch t.stripes child.fileid) child.inode.attributes child.inode.kind) { ctime = moment }
      held =
          attributes_is
          ∙ ap (λ (x : Option Moment). record (attributes_now x child.inode.attributes child.inode.kind) { ctime = moment })
          (latest ∙ ap (λ (stripes : List StripeValue). file_touch stripes child.fileid) before-it)

  pub put-out : (counted : Inode) → two.own ≡ one.own → (logical_after one two).stripes ≡ touches_taken child.fileid (logical_before one).stripes
      → new.own ≡ with_inode child.fileid counted two.own → new.stripes ≡ two.stripes
      → set ≡ dated_inode moment (without_subdirectories (directories_in child.inode.kind) inode.kind) inode
      → counted ≡ node_counted (losing_of n child) (file_touch t.stripes child.fileid)
      → logical_after old new ≡ name_out n child t
  put-out counted two_own taken new_own new_stripes dated_is counted_is = λ j. record { own = own j; stripes = stripes j }
    where
      own : new.own ≡ (name_out n child t).own
      own =
          new_own ∙ ap (with_inode child.fileid counted) (two_own ∙ one_own)
          ∙ (λ j. with_inode child.fileid (counted_is j) (with_inode directory (dated_is j) old.own))

      stripes : (logical_after old new).stripes ≡ touches_taken child.fileid t.stripes
      stripes =
          ap (λ st. each (λ i. stripe_value (placed st.at i)) 0 old.own.stripes) new_stripes
          ∙ ap (λ (m : ℕ). each (λ i. stripe_value (placed two.stripes.at i)) 0 m) (sym same-count)
          ∙ taken ∙ ap (touches_taken child.fileid) before-it
