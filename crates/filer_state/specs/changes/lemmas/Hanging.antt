-- A node that moves to a name that isn't there: all stays sound, no block moves, and its nodes are the serial server's.
use Rattle.std.proofs.Common.{◌≡◌, ℕ, ◌+◌, ◌==◌, Bool, true, false, List, [], ◌∷◌, ◌++◌, map, Option, Some, None}
use Rattle.std.proofs.Common.{refl, sym, ap, ◌∙◌}
use Rattle.std.specs.Prelude.{if◌then◌else◌, is_some}
use Rattle.std.specs.Option.{option_map}
use Rattle.std.specs.FinMap.{get, insert, len}
use Rattle.std.specs.FinSet.{from_list}
use Rattle.nfs_model.specs.Server.{DirectoryNode, Node, Directory, VolumeState, used}
use Rattle.nfs_model.specs.Names.{dropped_name, with_name}
use Rattle.nfs_model.specs.Parts.{Hand}
use Rattle.nfs_model.specs.Locate.{Naming}
use Rattle.nfs_model.specs.Serial.Rename.{Nodes, changed_node, in_directory, without_entry, with_entry, moved_node, with_moved}
use Rattle.nfs_model.specs.volume.Directories.{DirectoryValue, found, added}
use Rattle.nfs_model.specs.volume.Inodes.{inode_set}
use Rattle.nfs_model.specs.volume.Stripes.{StripeValue, touch_taken}
use Rattle.nfs_model.specs.volume.lemmas.Inodes.{next-set}
use Rattle.nfs_model.specs.volume.lemmas.Numbered.{get-insert_at}
use Rattle.filer_state.specs.state.Contents.{VolumeContents}
use Rattle.filer_state.specs.state.Tree.{file_touch, directory_or_empty, node_of, volume_of, file_bytes, file_filled, text_or_empty}
use Rattle.filer_state.specs.state.Names.{parent_in, parent_directory, directory_above}
use Rattle.filer_state.specs.state.Partition.{parts_of, numbers_in, all_numbers}
use Rattle.filer_state.specs.state.Sound.{IsSound}
use Rattle.filer_state.specs.state.Lenses.{LogicalSet, logical_lens}
use Rattle.filer_state.specs.laws.lemmas.Counted.{used-is}
use Rattle.filer_state.specs.laws.lemmas.SameBlocks.{total-mapped}
use Rattle.filer_state.specs.attributes.lemmas.Getting.{node-at}
use Rattle.filer_state.specs.names.Answers.{entries_of}
use Rattle.filer_state.specs.nodes.Making.{directories_in, with_subdirectories}
use Rattle.filer_state.specs.nodes.Dropping.{without_subdirectories}
use Rattle.filer_state.specs.nodes.Moving as moving
use Rattle.filer_state.specs.nodes.Moving.{dated_inode, inodes_untied, entries_untied, node_hung}
use Rattle.filer_state.specs.nodes.Laws.{WeighAlike, StandsUnder, MayHang, seen_directory, nodes_of}
use Rattle.filer_state.specs.nodes.lemmas.Others.{by-one}
use Rattle.filer_state.specs.nodes.lemmas.Unnamed.{parent-kept}
use Rattle.filer_state.specs.nodes.lemmas.Untied.{untied-directory, untied-other, untied-entries, untied-others}
use Rattle.filer_state.specs.nodes.lemmas.Hung.{apart, apart-turned}
use Rattle.filer_state.specs.nodes.lemmas.Moved.{sound-moved}
use Rattle.filer_state.specs.nodes.lemmas.MovedNodes.{nodes-taken, nodes-hung, moved-kind}
use Rattle.filer_state.specs.changes.Named.{HeldNaming, HeldNode}
use Rattle.filer_state.specs.changes.Renaming.{moving_of, child_taken, child_hung}
use Rattle.filer_state.specs.changes.lemmas.Named.{IsChildHere}
use Rattle.filer_state.specs.changes.lemmas.Renamed.{or-there, or-empty, still-absent, above-same, directory-seen, not-root, not-itself}

-- a node changed that is there
pub changed-there : (change : Node → Node) (k : ℕ) (nodes : Nodes) (x : Node) → get nodes k ≡ Some x
    → changed_node change k (get nodes k) nodes ≡ insert nodes k (change x)
changed-there change k nodes x there = ap (λ o. changed_node change k o nodes) there

some-if : (b : Bool) (d : DirectoryValue) (o : Option DirectoryValue) → is_some o ≡ true → is_some (if b then Some d else o) ≡ true
some-if true d o some = refl
some-if false d o some = some

-- a name as the serial server sees it
abbrev naming_of : HeldNaming → VolumeState → DirectoryNode → Naming
naming_of n volume d = record { volume = volume; fileid = n.fileid; directory = d; name = n.name; moment = n.moment }

-- what has to be so of a volume for a node to move there
pub record MayMove (q : VolumeContents) (from to : HeldNaming) (child : HeldNode) (from_parent to_parent : ℕ) : Type 0 where
  pub from_says : parent_directory (get q.logical.inodes.inodes from.fileid) ≡ Some from_parent
  pub from_entered : get q.logical.directories from.fileid ≡ Some (entries_of q.logical from.fileid)
  pub under : IsChildHere q from.fileid from.name child
  pub to_says : parent_directory (get q.logical.inodes.inodes to.fileid) ≡ Some to_parent
  pub to_entered : get q.logical.directories to.fileid ≡ Some (entries_of q.logical to.fileid)
  pub absent : found (entries_of q.logical to.fileid) to.name ≡ None
  pub clear : (k : ℕ) → (directory_above q.logical.inodes.inodes k to.fileid == child.fileid) ≡ false

module _ (q : VolumeContents) (from to : HeldNaming) (child : HeldNode) (from_parent to_parent : ℕ)
    (may : MayMove q from to child from_parent to_parent) (hands : List Hand) (made : ℕ) (sound : IsSound q hands made) where
  abbrev c : ℕ
  c = child.fileid

  abbrev s : LogicalSet
  s = logical_lens.of q

  abbrev m : moving.Naming
  m = moving_of from child s

  abbrev taken : LogicalSet
  taken = child_taken from child s

  abbrev n : moving.Naming
  n = moving_of to child taken

  abbrev hung : LogicalSet
  hung = child_hung to child taken

  -- the volume after the first step, and after both
  abbrev q_taken : VolumeContents
  q_taken = logical_lens.put taken q

  abbrev pub q_hung : VolumeContents
  q_hung = logical_lens.put hung q

  stands : StandsUnder m q.logical.inodes q.logical.directories
  stands = record {
    there = (or-there (get q.logical.inodes.inodes from.fileid) from.inode from_parent may.from_says).0;
    entered = may.from_entered;
    entry = may.under.entry;
    found_there = may.under.found_there;
    is = may.under.is;
    node = may.under.node;
  }

  m-says : parent_in m.inode.kind ≡ Some from_parent
  m-says = (or-there (get q.logical.inodes.inodes from.fileid) from.inode from_parent may.from_says).1

  parents-same : (x : ℕ) → parent_directory (get taken.own.inodes.inodes x) ≡ parent_directory (get q.logical.inodes.inodes x)
  parents-same = by-one from.fileid
      (λ x. parent_directory (get taken.own.inodes.inodes x) ≡ parent_directory (get q.logical.inodes.inodes x))
      (ap parent_directory (untied-directory q.logical.inodes q.logical.directories m stands) ∙ parent-kept (directories_in m.node.kind) m.inode.kind
      ∙ sym (ap parent_directory stands.there))
      (λ x ne. ap parent_directory (untied-other q.logical.inodes q.logical.directories m stands x ne))

  to-says : parent_directory (get taken.own.inodes.inodes to.fileid) ≡ Some to_parent
  to-says = parents-same to.fileid ∙ may.to_says

  n-there : get taken.own.inodes.inodes to.fileid ≡ Some n.inode
  n-there = (or-there (get taken.own.inodes.inodes to.fileid) to.inode to_parent to-says).0

  n-says : parent_in n.inode.kind ≡ Some to_parent
  n-says = (or-there (get taken.own.inodes.inodes to.fileid) to.inode to_parent to-says).1

  n-some : is_some (get taken.own.directories to.fileid) ≡ true
  n-some = by-one from.fileid (λ x. is_some (get q.logical.directories x) ≡ true → is_some (get taken.own.directories x) ≡ true)
      (λ some. ap (λ o. is_some o) (untied-entries q.logical.inodes q.logical.directories m stands))
      (λ x ne some. ap (λ o. is_some o) (untied-others q.logical.inodes q.logical.directories m stands x ne) ∙ some)
      to.fileid (ap (λ o. is_some o) may.to_entered)

  n-absent : found (entries_of taken.own to.fileid) to.name ≡ None
  n-absent = by-one from.fileid
      (λ x. found (entries_of q.logical x) to.name ≡ None → found (entries_of taken.own x) to.name ≡ None)
      (λ absent. ap (λ o. found (directory_or_empty o) to.name) (untied-entries q.logical.inodes q.logical.directories m stands)
      ∙ still-absent (entries_of q.logical from.fileid) from.name to.name absent)
      (λ x ne absent. ap (λ o. found (directory_or_empty o) to.name) (untied-others q.logical.inodes q.logical.directories m stands x ne) ∙ absent)
      to.fileid may.absent

  n-node : get taken.own.inodes.inodes c ≡ Some child.inode
  n-node =
      untied-other q.logical.inodes q.logical.directories m stands c
      (not-itself q sound.well_formed from.fileid from.name child may.under may.from_entered)
      ∙ may.under.node

  may-hang : MayHang n (inodes_untied m q.logical.inodes) (entries_untied m q.logical.directories)
  may-hang = record {
    there = n-there;
    entered = or-empty (get taken.own.directories to.fileid) n-some;
    absent = n-absent;
    node = n-node;
    no_root = not-root q sound.well_formed from.fileid from.name child may.under may.from_entered;
    clear = λ k.
        ap (λ (x : ℕ). x == c) (above-same taken.own.inodes.inodes q.logical.inodes.inodes parents-same k to.fileid) ∙ may.clear k;
  }

  -- all stays sound
  pub sound-hung : (hands' : List Hand) → WeighAlike q.number hands hands' → IsSound q_hung hands' (made + 1)
  sound-hung hands' weigh = sound-moved q m n sound.well_formed stands may-hang refl refl hands hands' made weigh sound

  -- both directories have entries
  pub to-some : is_some (get hung.own.directories to.fileid) ≡ true
  to-some =
      ap (λ o. is_some o) (get-insert_at taken.own.directories to.fileid (added to.name c n.entries) to.fileid)
      ∙ some-if (to.fileid == to.fileid) (added to.name c n.entries) (get taken.own.directories to.fileid) n-some

  pub from-some : is_some (get hung.own.directories from.fileid) ≡ true
  from-some =
      ap (λ o. is_some o) (get-insert_at taken.own.directories to.fileid (added to.name c n.entries) from.fileid)
      ∙ some-if (from.fileid == to.fileid) (added to.name c n.entries) (get taken.own.directories from.fileid)
      (ap (λ o. is_some o) (untied-entries q.logical.inodes q.logical.directories m stands))

  -- ---- the volume that is seen

  apart-here : (to.fileid == c) ≡ false
  apart-here = apart (inodes_untied m q.logical.inodes) (entries_untied m q.logical.directories) n None may-hang

  turned-here : (c == to.fileid) ≡ false
  turned-here = apart-turned (inodes_untied m q.logical.inodes) (entries_untied m q.logical.directories) n None may-hang

  module _ (from_volume to_volume : VolumeState) (from_directory to_directory : DirectoryNode) where
    abbrev from_seen : Naming
    from_seen = naming_of from from_volume from_directory

    abbrev to_seen : Naming
    to_seen = naming_of to to_volume to_directory

    abbrev entered : Node
    entered = Directory (with_name (seen_directory n.inode n.entries to_parent) to.name c to.moment)

    entry-left : without_entry from_seen (volume_of q).nodes ≡ nodes_of taken
    entry-left =
        changed-there (in_directory (λ d. dropped_name d from.name from.moment)) from.fileid (volume_of q).nodes
        (Directory (seen_directory m.inode m.entries from_parent)) (directory-seen q from.fileid m.inode from_parent stands.there m-says)
        ∙ sym (nodes-taken s m stands.there from_parent m-says)

    entry-come : with_entry to_seen c (nodes_of taken) ≡ insert (nodes_of taken) to.fileid entered
    entry-come =
        changed-there (in_directory (λ d. with_name d to.name c to.moment)) to.fileid (nodes_of taken)
        (Directory (seen_directory n.inode n.entries to_parent)) (directory-seen q_taken to.fileid n.inode to_parent n-there n-says)

    node-there : get (insert (nodes_of taken) to.fileid entered) c ≡ Some (node_of q.stripes taken.own.directories taken.own.texts c child.inode)
    node-there =
        get-insert_at (nodes_of taken) to.fileid entered c
        ∙ ap (λ (b : Bool). if b then Some entered else get (nodes_of taken) c) turned-here
        ∙ node-at q_taken c ∙ ap (option_map (node_of q.stripes taken.own.directories taken.own.texts c)) n-node

    nodes-renamed : (volume_of q_hung).nodes ≡ with_moved to_seen c (with_entry to_seen c (without_entry from_seen (volume_of q).nodes))
    nodes-renamed =
        nodes-hung taken n n-there n-node apart-here turned-here to_parent n-says
        (moved_node to.fileid to.moment (node_of q.stripes taken.own.directories taken.own.texts c child.inode))
        (moved-kind (file_bytes q.stripes c) (file_filled q.stripes c) (file_touch q.stripes c) (directory_or_empty (get taken.own.directories c))
        (text_or_empty (get taken.own.texts c)) child.inode.attributes child.inode.names to.fileid to.moment child.inode.kind)
        ∙ sym (changed-there (moved_node to.fileid to.moment) c (insert (nodes_of taken) to.fileid entered)
        (node_of q.stripes taken.own.directories taken.own.texts c child.inode) node-there)
        ∙ sym (ap (λ (ns : Nodes). with_moved to_seen c ns) entry-come)
        ∙ sym (ap (λ (ns : Nodes). with_moved to_seen c (with_entry to_seen c ns)) entry-left)

    next-same : hung.own.inodes.next ≡ q.logical.inodes.next
    next-same =
        next-set (inode_set to.fileid (dated_inode to.moment (with_subdirectories (directories_in child.inode.kind) n.inode.kind) n.inode) taken.own.inodes) c
        (node_hung n (file_touch taken.stripes c))
        ∙ next-set taken.own.inodes to.fileid (dated_inode to.moment (with_subdirectories (directories_in child.inode.kind) n.inode.kind) n.inode)
        ∙ next-set q.logical.inodes from.fileid (dated_inode from.moment (without_subdirectories (directories_in child.inode.kind) m.inode.kind) m.inode)

    pub volume-hung : volume_of q_hung
        ≡ record (volume_of q) { nodes = with_moved to_seen c (with_entry to_seen c (without_entry from_seen (volume_of q).nodes)) }
    volume-hung = λ j. record (volume_of q) { next = next-same j; nodes = nodes-renamed j }

  -- ---- no block moves

  numbers-stay : (stripes : List StripeValue) → all_numbers (map (touch_taken c) stripes) ≡ all_numbers stripes
  numbers-stay [] = refl
  numbers-stay (x ∷ stripes) = ap (λ ns. numbers_in x ++ ns) (numbers-stay stripes)

  pub parts-hung : parts_of q_hung ≡ parts_of q
  parts-hung = λ j. record (parts_of q) { files = from_list (numbers-stay q.stripes j) }

  pub used-hung : used (volume_of q_hung) ≡ used (volume_of q)
  used-hung =
      let after = sound-hung hands (λ k. refl) in
      used-is q_hung after.well_formed ∙ after.well_formed.used
      ∙ total-mapped (touch_taken c) (λ (x : StripeValue). len x.blocks) (λ x. refl) q.stripes
      ∙ sym (used-is q sound.well_formed ∙ sound.well_formed.used)
