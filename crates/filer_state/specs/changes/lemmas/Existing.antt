-- CREATE by what is under Logical, beside the serial server, where the name is there.
use Rattle.std.proofs.Common.{◌≡◌, ℕ, ◌+◌, ◌==◌, Bool, true, false, List, [], ◌∷◌, Option, Some, None, refl, sym, ap, ◌∙◌, subst, arith}
use Rattle.std.specs.Prelude.{◌&&◌, is_none, if◌then◌else◌}
use Rattle.std.proofs.lemmas.Bool.{eqb-true}
use Rattle.std.specs.Option.{option_map}
use Rattle.std.specs.Ordering.{nat_cmp}
use Rattle.std.specs.FinMap.{FinMap, get, insert}
use Rattle.nfs_model.specs.Types.{Moment, Caller, Listed, SetAttributes, CreateMode, Unchecked, Guarded, Exclusive, Status, MadeDone, Exists}
use Rattle.nfs_model.specs.Tree.{Affinity}
use Rattle.nfs_model.specs.Server.{Node, Directory, handle_bytes}
use Rattle.nfs_model.specs.Shown.{shown, before_of, subdirectories, is_directory_node}
use Rattle.nfs_model.specs.Locate.{Effect, Fails, Tells, unless, Naming}
use Rattle.nfs_model.specs.Serial.Setattr.{set_node, setattr_fault, with_node}
use Rattle.nfs_model.specs.Serial.Create.{is_verifier, there_told, told_as_it_is, set_there, over_taken, create_over}
use Rattle.nfs_model.specs.Parts.{Hand, one_if}
use Rattle.nfs_model.specs.volume.Inodes.{InodeKind, RegularFile, Inode}
use Rattle.nfs_model.specs.volume.lemmas.Numbered.{get-insert_at}
use Rattle.filer_state.specs.state.Contents.{VolumeContents}
use Rattle.filer_state.specs.state.Tree.{node_by, node_of, volume_of}
use Rattle.filer_state.specs.state.Partition.{stored}
use Rattle.filer_state.specs.state.Sound.{IsSound}
use Rattle.filer_state.specs.state.Lenses.{logical_lens}
use Rattle.filer_state.specs.state.Changes.{LogicalAnswer, shown_inode}
use Rattle.filer_state.specs.attributes.lemmas.Getting.{node-at, node-shown}
use Rattle.filer_state.specs.laws.lemmas.Steps.{sound-later}
use Rattle.filer_state.specs.nodes.Laws.{WeighAlike}
use Rattle.filer_state.specs.changes.Named.{HeldNaming, HeldNode, fails, unless_fault}
use Rattle.filer_state.specs.changes.Attributes.{NodeSet, node_changed, node_fault, taken_by, taken_of}
use Rattle.filer_state.specs.changes.Making.{there_shown, there_set, create_existing}
use Rattle.filer_state.specs.changes.Laws.{create_call}
use Rattle.filer_state.specs.changes.lemmas.Named.{RightAs, naming_held, naming_seen, IsDirectoryHere, IsChildHere, before-shown}
use Rattle.filer_state.specs.changes.lemmas.Setting.{fault-is, IsNodeSet, node-set}
use Rattle.filer_state.specs.changes.lemmas.Making.{SaysNothing, failure-right}

-- ---- a directory, where a node in it is set

set-directory : (set : SetAttributes) (moment : Moment) (node : Node)
    → is_directory_node (Some (set_node set moment node)) ≡ is_directory_node (Some node)
set-directory set moment (Directory d) = refl
set-directory set moment node = refl

module _ (nodes : FinMap nat_cmp Node) (f : ℕ) (old new : Node) (there : get nodes f ≡ Some old)
    (same : is_directory_node (Some new) ≡ is_directory_node (Some old)) where
  kind-same : (q : ℕ) → is_directory_node (get (insert nodes f new) q) ≡ is_directory_node (get nodes q)
  kind-same q = ap is_directory_node (get-insert_at nodes f new q) ∙ by (q == f) refl
    where
      by : (b : Bool) → (q == f) ≡ b → is_directory_node (if b then Some new else get nodes q) ≡ is_directory_node (get nodes q)
      by true e = same ∙ ap is_directory_node (sym there ∙ ap (get nodes) (sym (eqb-true q f e)))
      by false e = refl

  subdirectories-same : (list : List Listed) → subdirectories (insert nodes f new) list ≡ subdirectories nodes list
  subdirectories-same [] = refl
  subdirectories-same (e ∷ list) =
      let here : one_if (is_directory_node (get (insert nodes f new) e.fileid)) ≡ one_if (is_directory_node (get nodes e.fileid)) =
      ap one_if (kind-same e.fileid) in
      let others = subdirectories-same list in
      omega (arith, here, others)

-- ---- by the mode

module _ (handle : List ℕ) (node : Affinity) (mode : CreateMode) (caller : Caller)
    (p : VolumeContents) (hands hands' : List Hand) (made : ℕ) (sound : IsSound p hands made) (weigh : WeighAlike p.number hands hands')
    (fileid : ℕ) (name : List ℕ) (moment : Moment) (says : SaysNothing (create_call handle node fileid name mode caller moment))
    (inode : Inode) (parent : ℕ) (here : IsDirectoryHere p fileid name moment inode parent)
    (child : HeldNode) (child_here : IsChildHere p fileid name child) where
  abbrev h : HeldNaming
  h = naming_held p fileid name moment inode

  abbrev n : Naming
  n = naming_seen p fileid name moment inode parent

  abbrev was : Node
  was = node_of p.stripes p.logical.directories p.logical.texts child.fileid child.inode

  abbrev Right : LogicalAnswer → Effect → Type 0
  Right done effect = RightAs (create_call handle node fileid name mode caller moment) p hands' (made + 1) done effect

  failure : (status : Status) → Right (fails status (logical_lens.of p)) (Fails status)
  failure status = failure-right p hands hands' made sound weigh (create_call handle node fileid name mode caller moment) says status

  own-shown : shown (volume_of p) fileid (Directory n.directory) ≡ shown_inode p.number fileid inode None
  own-shown = before-shown p fileid name moment sound.well_formed inode parent here

  -- a node that is there, as it is
  there-right : Right (there_shown h child) (Tells (there_told n (volume_of p) (record { fileid = child.fileid; node = was })))
  there-right =
      let object = sym (node-shown p sound.well_formed child.fileid child.inode child_here.node) in
      let own = sym own-shown in (
        λ j. MadeDone (handle_bytes p.number child.fileid) (object j) (record { before = before_of (own j); after = own j }),
        refl,
        says (stored p) (stored p) refl refl,
        sound-later p hands hands' made weigh sound,
      )

  -- ---- a node that is set

  module _ (set : SetAttributes) where
    abbrev now : Node
    now = set_node set moment was

    abbrev new : NodeSet
    new = node_changed child.fileid set moment child.inode (logical_lens.of p)

    own-stays : shown (with_node (volume_of p) child.fileid now) fileid (Directory n.directory) ≡ shown_inode p.number fileid inode None
    own-stays =
        (λ j. record (shown (volume_of p) fileid (Directory n.directory)) {
          links = 2 + subdirectories-same (volume_of p).nodes child.fileid was now
              (node-at p child.fileid ∙ ap (option_map (node_of p.stripes p.logical.directories p.logical.texts child.fileid)) child_here.node)
              (set-directory set moment was) n.directory.list j;
        })
        ∙ own-shown

    set-right : node_fault child.fileid set None child.inode (logical_lens.of p) ≡ None
        → Right (there_set h child.fileid new) (set_there n child.fileid now)
    set-right passes =
        let is : IsNodeSet p child.fileid now new hands' (made + 1) =
        node-set p child.fileid set moment child.inode child_here.node hands hands' made weigh sound None passes in
        let own = sym own-stays in (
          λ j. MadeDone (handle_bytes p.number child.fileid) (sym is.is_shown j) (record { before = before_of (own j); after = own j }),
          is.volume,
          is.emptied,
          is.sound,
        )

    checked : (o : Option Status) → node_fault child.fileid set None child.inode (logical_lens.of p) ≡ o
        → Right (unless_fault o (logical_lens.of p) (there_set h child.fileid new)) (unless o (set_there n child.fileid now))
    checked (Some status) is = failure status
    checked None is = set-right is

    abbrev held : LogicalAnswer
    held = unless_fault (node_fault child.fileid set None child.inode (logical_lens.of p)) (logical_lens.of p) (there_set h child.fileid new)

    upon-right : Right held (unless (setattr_fault (volume_of p) set None was) (set_there n child.fileid now))
    upon-right =
        subst (λ (o : Option Status). Right held (unless o (set_there n child.fileid now))) (sym (fault-is p child.fileid set child.inode None))
        (checked (node_fault child.fileid set None child.inode (logical_lens.of p)) refl)

  -- ---- all modes

  by-verifier : (b : Bool) → Right (if b then there_shown h child else fails Exists (logical_lens.of p))
      (if b then Tells (there_told n (volume_of p) (record { fileid = child.fileid; node = was })) else Fails Exists)
  by-verifier true = there-right
  by-verifier false = failure Exists

  -- the node, were it of this kind
  abbrev child_of : InodeKind → Node
  child_of kind = node_by p.stripes (get p.logical.directories child.fileid) (get p.logical.texts child.fileid) child.fileid child.inode.attributes child.inode.names kind

  by-size : (set : SetAttributes) (b : Bool)
      → Right (if b then there_shown h child else held (taken_of caller (over_taken caller set) child.inode))
      (if b then told_as_it_is n child.fileid was
      else unless (setattr_fault (volume_of p) (taken_of caller (over_taken caller set) child.inode) None was)
      (set_there n child.fileid (set_node (taken_of caller (over_taken caller set) child.inode) moment was)))
  by-size set true = there-right
  by-size set false = upon-right (taken_of caller (over_taken caller set) child.inode)

  by-kind : (asked : CreateMode) (kind : InodeKind) → child.inode.kind ≡ kind → Right (create_existing h asked caller child kind)
      (create_over n asked caller child.fileid (node_by p.stripes (get p.logical.directories child.fileid) (get p.logical.texts child.fileid) child.fileid child.inode.attributes child.inode.names kind))
  by-kind (Guarded set) kind is = failure Exists
  by-kind (Exclusive verifier) (RegularFile size filled kept) is =
      let seen = ap child_of is in
      subst (λ (x : Node). Right (if is_verifier kept verifier then there_shown h child else fails Exists (logical_lens.of p))
      (if is_verifier kept verifier then Tells (there_told n (volume_of p) (record { fileid = child.fileid; node = x })) else Fails Exists)) seen
      (by-verifier (is_verifier kept verifier))
  by-kind (Unchecked set) (RegularFile size filled kept) is =
      subst (λ (k : InodeKind). Right
      (if caller.checked && is_none set.size then there_shown h child else held (taken_of caller (over_taken caller set) child.inode))
      (if caller.checked && is_none set.size then told_as_it_is n child.fileid (child_of k)
      else unless (setattr_fault (volume_of p) (taken_by caller (over_taken caller set) child.inode.attributes k) None (child_of k))
      (set_there n child.fileid (set_node (taken_by caller (over_taken caller set) child.inode.attributes k) moment (child_of k))))) is
      (by-size set (caller.checked && is_none set.size))
  by-kind asked kind is = failure Exists

  -- the name is there
  pub there-as : Right (create_existing h mode caller child child.inode.kind) (create_over n mode caller child.fileid was)
  there-as = by-kind mode child.inode.kind refl
