-- A file that loses its last name: it is cut to no bytes, and then dropped.
use Rattle.std.proofs.Common.{◌≡◌, ℕ, ◌+◌, ◌-◌, ◌==◌, Bool, true, false, List, length, Option, Some, None, ◌≤◌}
use Rattle.std.proofs.Common.{refl, sym, ap, ◌∙◌, subst, arith, ne_eqb}
use Rattle.std.specs.Prelude.{if◌then◌else◌, is_some, IfSome}
use Rattle.std.specs.Option.{option_map}
use Rattle.std.specs.Ordering.{nat_cmp}
use Rattle.std.specs.FinMap.{get, insert, remove}
use Rattle.std.specs.FinSet as sets
use Rattle.nfs_model.specs.Types.{Moment, Status, Invalid}
use Rattle.nfs_model.specs.Tree.{Affinity}
use Rattle.nfs_model.specs.Names.{is_dots}
use Rattle.nfs_model.specs.Server.{Node, File, VolumeState, filled_in, used}
use Rattle.nfs_model.specs.Locate.{Effect, Fails, Found, Naming, named_child}
use Rattle.nfs_model.specs.Serial.Remove as removes
use Rattle.nfs_model.specs.Serial.Setattr.{with_node}
use Rattle.nfs_model.specs.Moves.{Emptied}
use Rattle.nfs_model.specs.Parts.{Hand}
use Rattle.nfs_model.specs.volume.Inodes.{InodeKind, RegularFile, DirectoryKind, Inode, filled_blocks}
use Rattle.nfs_model.specs.volume.lemmas.Inodes.{inode-set-there, inode-set-other}
use Rattle.filer_state.specs.state.Contents.{VolumeContents}
use Rattle.filer_state.specs.state.Tree.{file_filled, node_by, node_of, volume_of}
use Rattle.filer_state.specs.state.Names.{is_directory, size_in, parent_in}
use Rattle.filer_state.specs.state.Kinds.{IsFile}
use Rattle.filer_state.specs.state.Partition.{parts_of}
use Rattle.filer_state.specs.state.Sound.{IsSound}
use Rattle.filer_state.specs.state.Lenses.{LogicalSet, logical_lens}
use Rattle.filer_state.specs.state.Calls.{VolumeCall}
use Rattle.filer_state.specs.state.Changes.{LogicalAnswer}
use Rattle.filer_state.specs.laws.lemmas.Counted.{node-filled}
use Rattle.filer_state.specs.laws.lemmas.Steps.{sound-later}
use Rattle.filer_state.specs.attributes.lemmas.Getting.{node-at}
use Rattle.filer_state.specs.nodes.Dropping.{Dropping}
use Rattle.filer_state.specs.nodes.Sizing.{Sizing, all_freed, kind_sized}
use Rattle.filer_state.specs.nodes.Laws.{WeighAlike, LosesName, file_resized, file_seen}
use Rattle.filer_state.specs.nodes.lemmas.Sized.{sized_in, sound-sized}
use Rattle.filer_state.specs.nodes.lemmas.SizedNodes.{volume-sized}
use Rattle.filer_state.specs.nodes.lemmas.Emptied.{emptied-sized}
use Rattle.filer_state.specs.nodes.lemmas.Dropped.{left_in}
use Rattle.filer_state.specs.changes.Named.{fails, HeldNaming, HeldNode, node_under}
use Rattle.filer_state.specs.changes.Dropping.{dropping_of, emptying_of, child_emptied, file_gone, remove_kind, remove_by, held_remove}
use Rattle.filer_state.specs.changes.Laws.{IsDone, remove_call, remove_done}
use Rattle.filer_state.specs.changes.lemmas.Named.{RightAs, done-right, naming_held, naming_seen, IsDirectoryHere, named-right, IsChildHere, child-right}
use Rattle.filer_state.specs.changes.lemmas.Setattr.{unchanged}
use Rattle.filer_state.specs.changes.lemmas.Setting.{set-there}
use Rattle.filer_state.specs.changes.lemmas.Gone.{remove-put, none-before, gone-right, parts-gone, used-gone}

module _ (p : VolumeContents) (fileid : ℕ) (name : List ℕ) (moment : Moment) (inode : Inode) (parent : ℕ)
    (here : IsDirectoryHere p fileid name moment inode parent) (child : HeldNode) (under : IsChildHere p fileid name child)
    (size filled : ℕ) (verifier : Option (List ℕ)) (is_file : IsFile child.inode.kind size filled verifier) (last : child.inode.names ≤ 1)
    (hands : List Hand) (made : ℕ) (sound : IsSound p hands made) where
  abbrev f : ℕ
  f = child.fileid

  abbrev emptying : Sizing
  emptying = emptying_of child

  -- the volume in which the file has no bytes
  abbrev q : VolumeContents
  q = sized_in emptying p

  abbrev left : HeldNode
  left = child_emptied child (logical_lens.of p)

  abbrev m : Dropping
  m = dropping_of (naming_held p fileid name moment inode) left

  pub sound-emptied : IsSound q hands made
  sound-emptied = sound-sized p emptying sound.well_formed under.node size filled verifier is_file (omega arith) hands hands made made (omega arith)
      (λ n. refl) sound

  volume-emptied : volume_of q ≡ with_node (volume_of p) f (File (file_resized 0 child.inode.attributes (file_seen p emptying size verifier)))
  volume-emptied = volume-sized p emptying sound.well_formed under.node size filled verifier is_file (omega arith)

  there-emptied : get q.logical.inodes.inodes f ≡ Some left.inode
  there-emptied = inode-set-there p.logical.inodes f child.inode left.inode under.node

  abbrev emptied_node : Node
  emptied_node = File (file_resized 0 child.inode.attributes (file_seen p emptying size verifier))

  node-emptied : node_of q.stripes q.logical.directories q.logical.texts f left.inode ≡ emptied_node
  node-emptied =
      let found : Some (node_of q.stripes q.logical.directories q.logical.texts f left.inode) ≡ Some emptied_node =
      sym (node-at q f ∙ ap (option_map (node_of q.stripes q.logical.directories q.logical.texts f)) there-emptied)
      ∙ ap (λ v. get v.nodes f) volume-emptied ∙ set-there (volume_of p) f emptied_node in
      cc

  -- it has no block
  none-filled : filled_blocks left.inode.kind ≡ 0
  none-filled =
      sym (node-filled q sound-emptied.well_formed f left.inode there-emptied)
      ∙ ap filled_in node-emptied ∙ ap sets.len (none-before (file_filled p.stripes f)) ∙ sets.len-empty nat_cmp

  -- the directory is another node
  apart : (fileid == f) ≡ false
  apart = ne_eqb fileid f (λ e.
      let same : Some inode ≡ Some child.inode = sym here.there ∙ ap (get p.logical.inodes.inodes) e ∙ under.node in
      let one : inode ≡ child.inode = cc in
      let parents : Some parent ≡ None = sym here.says ∙ ap (λ (i : Inode). parent_in i.kind) one ∙ ap parent_in is_file in
      absurd cc)

  pub loses : LosesName m q.logical.inodes q.logical.directories
  loses = record {
    there = inode-set-other p.logical.inodes f left.inode fileid apart ∙ here.there;
    entered = here.entered;
    entry = under.entry;
    found_there = under.found_there;
    is = under.is;
    node = there-emptied;
    last = last;
    kind = (
      subst (λ o. IfSome o (λ n. n ≡ 0)) (sym (ap (λ (k : InodeKind). size_in (kind_sized 0 (length (all_freed f 0 p.stripes)) k)) is_file)) refl,
      none-filled,
    );
    empty = λ d e.
        let as_directory : is_directory (get p.logical.inodes.inodes f) ≡ false =
        ap is_directory under.node ∙ ap (λ (k : InodeKind). is_some (parent_in k)) is_file in
        let some : is_some (get p.logical.directories f) ≡ true = ap (λ o. is_some o) e in
        let as_directories = sound.well_formed.logical.named.as_directories f in
        absurd cc;
  }

  module _ (hands' : List Hand) (weigh : WeighAlike p.number hands hands') where
    abbrev after : VolumeContents
    after = left_in m q

    pub seen-left : record (volume_of q) {
      nodes = insert (remove (volume_of q).nodes f) fileid (removes.directory_left (naming_seen p fileid name moment inode parent));
    } ≡ record (volume_of p) {
      nodes = insert (remove (volume_of p).nodes f) fileid (removes.directory_left (naming_seen p fileid name moment inode parent));
    }
    seen-left =
        ap (λ (v : VolumeState). record v {
          nodes = insert (remove v.nodes f) fileid (removes.directory_left (naming_seen p fileid name moment inode parent));
        }) volume-emptied
        ∙ ap (λ ns. record (volume_of p) { nodes = insert ns fileid (removes.directory_left (naming_seen p fileid name moment inode parent)) })
        (remove-put (volume_of p).nodes f emptied_node)

    pub emptied : Emptied (used (volume_of p) - used (volume_of after)) (parts_of p) (parts_of after)
    emptied =
        subst (λ (n : ℕ). Emptied (used (volume_of p) - n) (parts_of p) (parts_of after))
        (sym (used-gone q m loses parent here.says hands hands made made (omega arith) (λ n. refl) sound-emptied))
        (subst (Emptied (used (volume_of p) - used (volume_of q)) (parts_of p))
        (sym (parts-gone q m loses parent here.says hands hands made made (omega arith) (λ n. refl) sound-emptied))
        (emptied-sized p emptying hands sound.partition sound.well_formed under.node size filled verifier is_file (omega arith)))
