-- The nodes that are seen after a node moves to another name, step by step.
use Rattle.std.proofs.Common.{◌≡◌, ℕ, ◌+◌, ◌==◌, Bool, true, false, List, Option, Some, None, refl, sym, ap, ◌∙◌}
use Rattle.std.specs.Prelude.{if◌then◌else◌}
use Rattle.std.proofs.lemmas.Bool.{eqb-true}
use Rattle.std.specs.Option.{option_map}
use Rattle.std.specs.Ordering.{nat_cmp}
use Rattle.std.specs.FinSet.{FinSet}
use Rattle.std.specs.Cmp.{nat_cmp_total}
use Rattle.std.specs.FinMap.{get, insert, nat_cmp-IsAntisymmetric}
use Rattle.nfs_model.specs.Types.{Moment}
use Rattle.nfs_model.specs.Server.{Attributes, Node, Directory}
use Rattle.nfs_model.specs.Names.{with_name, dropped_name}
use Rattle.nfs_model.specs.Serial.Rename.{moved_node}
use Rattle.nfs_model.specs.volume.Directories.{DirectoryValue, added, removed}
use Rattle.nfs_model.specs.volume.Inodes.{InodeKind, RegularFile, DirectoryKind, SpecialFile, Inode, InodesValue, inode_of, inode_set}
use Rattle.nfs_model.specs.volume.Stripes.{StripeValue}
use Rattle.nfs_model.specs.volume.lemmas.Inodes.{inode-set-there, inode-set-other}
use Rattle.nfs_model.specs.volume.lemmas.Maps.{get-map_values}
use Rattle.nfs_model.specs.volume.lemmas.Numbered.{get-insert_at, same-answers, itself}
use Rattle.filer_state.specs.state.Tree.{file_bytes, file_filled, file_touch, directory_or_empty, node_with, node_by, node_of, text_or_empty}
use Rattle.filer_state.specs.state.Names.{parent_in, DirectoryMap}
use Rattle.filer_state.specs.state.Lenses.{LogicalSet}
use Rattle.filer_state.specs.state.Changes.{attributes_now}
use Rattle.filer_state.specs.laws.lemmas.InodeKinds.{directory-seen}
use Rattle.filer_state.specs.attributes.lemmas.Kept.{bytes-stay, filled-stays, touch-gone, touch-stays}
use Rattle.filer_state.specs.nodes.Making.{directories_in, with_subdirectories}
use Rattle.filer_state.specs.nodes.Dropping.{without_subdirectories}
use Rattle.filer_state.specs.nodes.Moving.{Naming, dated_inode, entry_taken, with_parent, node_hung, node_hung_up, name_dropped, node_counted}
use Rattle.filer_state.specs.nodes.Laws.{seen_directory, nodes_of}
use Rattle.nfs_model.specs.Serial.Links.{with_link, without_link}
use Rattle.nfs_model.specs.Shown.{effective_attributes}
use Rattle.std.specs.Prelude.{nat_le, ◌-◌}
use Rattle.filer_state.specs.nodes.lemmas.Named as named
use Rattle.filer_state.specs.nodes.lemmas.Unnamed as unnamed

node-of-directory : (stripes : List StripeValue) (o : Option DirectoryValue) (t : Option (List ℕ)) (d : DirectoryValue) (q : ℕ) (a : Attributes)
    (names : ℕ) (k : InodeKind) (parent : ℕ) → o ≡ Some d → parent_in k ≡ Some parent
    → node_by stripes o t q a names k ≡ Directory (record { attributes = a; parent = parent; next = d.next; list = d.list })
node-of-directory stripes o t d q a names k parent is says =
    directory-seen stripes o t q a names k parent says
    ∙ (λ j. Directory (record { attributes = a; parent = parent; next = (directory_or_empty (is j)).next; list = (directory_or_empty (is j)).list }))

-- a node that moves, by its kind
pub moved-kind : (bytes : ℕ → List ℕ) (blocks : FinSet nat_cmp) (touch : Option Moment) (d : DirectoryValue) (text : List ℕ) (a : Attributes)
    (names parent : ℕ) (moment : Moment) (k : InodeKind)
    → node_with bytes blocks None d text (record (attributes_now touch a k) { ctime = moment }) names (with_parent parent k)
    ≡ moved_node parent moment (node_with bytes blocks touch d text a names k)
moved-kind bytes blocks touch d text a names parent moment (DirectoryKind old subs) = refl
moved-kind bytes blocks touch d text a names parent moment kind = refl

-- one with one more name
linked-kind : (bytes : ℕ → List ℕ) (blocks : FinSet nat_cmp) (touch : Option Moment) (d : DirectoryValue) (text : List ℕ) (a : Attributes)
    (names parent : ℕ) (moment : Moment) (k : InodeKind) → parent_in k ≡ None
    → node_with bytes blocks None d text (record (attributes_now touch a k) { ctime = moment }) (names + 1) (with_parent parent k)
    ≡ with_link moment (node_with bytes blocks touch d text a names k)
linked-kind bytes blocks touch d text a names parent moment (DirectoryKind old subs) none = absurd cc
linked-kind bytes blocks touch d text a names parent moment kind none = refl

-- one with one name less
counted-kind : (bytes : ℕ → List ℕ) (blocks : FinSet nat_cmp) (touch : Option Moment) (d : DirectoryValue) (text : List ℕ) (a : Attributes)
    (names : ℕ) (moment : Moment) (k : InodeKind) (node : Node) → nat_le names 1 ≡ false
    → without_link moment (node_with bytes blocks touch d text a names k) ≡ Some node
    → node_with bytes blocks None d text (record (attributes_now touch a k) { ctime = moment }) (names - 1) k ≡ node
counted-kind bytes blocks touch d text a names moment (RegularFile size filled verifier) node more is = by (nat_le names 1) more is
  where
    left : Node
    left = node_with bytes blocks None d text (record (effective_attributes touch a) { ctime = moment }) (names - 1) (RegularFile size filled verifier)

    by : (b : Bool) → b ≡ false → (if b then None else Some left) ≡ Some node → left ≡ node
    by true e is = absurd cc
    by false e is = cc
counted-kind bytes blocks touch d text a names moment (DirectoryKind parent subs) node more is = absurd cc
counted-kind bytes blocks touch d text a names moment (SpecialFile special size) node more is = by (nat_le names 1) more is
  where
    left : Node
    left = node_with bytes blocks None d text (record a { ctime = moment }) (names - 1) (SpecialFile special size)

    by : (b : Bool) → b ≡ false → (if b then None else Some left) ≡ Some node → left ≡ node
    by true e is = absurd cc
    by false e is = cc

-- ---- an entry taken

module _ (s : LogicalSet) (m : Naming) (there : inode_of s.own.inodes m.directory ≡ Some m.inode)
    (parent : ℕ) (says : parent_in m.inode.kind ≡ Some parent) where
  abbrev was : ℕ → Inode → Node
  was = node_of s.stripes s.own.directories s.own.texts

  abbrev taken : LogicalSet
  taken = entry_taken m s

  abbrev now : ℕ → Inode → Node
  now = node_of taken.stripes taken.own.directories taken.own.texts

  abbrev dated : Inode
  dated = dated_inode m.moment (without_subdirectories (directories_in m.node.kind) m.inode.kind) m.inode

  abbrev directory_then : Node
  directory_then = Directory (dropped_name (seen_directory m.inode m.entries parent) m.name m.moment)

  entries-at : get taken.own.directories m.directory ≡ Some (removed m.name m.entries)
  entries-at =
      get-insert_at s.own.directories m.directory (removed m.name m.entries) m.directory
      ∙ ap (λ (b : Bool). if b then Some (removed m.name m.entries) else get s.own.directories m.directory) (itself m.directory)

  entries-other : (q : ℕ) → (q == m.directory) ≡ false → get taken.own.directories q ≡ get s.own.directories q
  entries-other q ne =
      get-insert_at s.own.directories m.directory (removed m.name m.entries) q
      ∙ ap (λ (b : Bool). if b then Some (removed m.name m.entries) else get s.own.directories q) ne

  here : now m.directory dated ≡ directory_then
  here = node-of-directory taken.stripes (get taken.own.directories m.directory) (get s.own.texts m.directory) (removed m.name m.entries) m.directory
      dated.attributes m.inode.names dated.kind parent
      entries-at (unnamed.parent-kept (directories_in m.node.kind) m.inode.kind ∙ says)

  others : (q : ℕ) → (q == m.directory) ≡ false → (o : Option Inode) → option_map (now q) o ≡ option_map (was q) o
  others q ne None = refl
  others q ne (Some inode) = λ j. Some (node_by s.stripes (entries-other q ne j) (get s.own.texts q) q inode.attributes inode.names inode.kind)

  pub nodes-taken : nodes_of taken ≡ insert (nodes_of s) m.directory directory_then
  nodes-taken = same-answers _ _ (λ q.
      get-map_values nat_cmp_total nat_cmp-IsAntisymmetric now taken.own.inodes.inodes q ∙ by q (q == m.directory) refl
      ∙ sym (get-insert_at (nodes_of s) m.directory directory_then q))
    where
      by : (q : ℕ) (b : Bool) → (q == m.directory) ≡ b
          → option_map (now q) (inode_of taken.own.inodes q) ≡ (if b then Some directory_then else get (nodes_of s) q)
      by q true e =
          ap (λ (k : ℕ). option_map (now k) (inode_of taken.own.inodes k)) (eqb-true q m.directory e)
          ∙ ap (option_map (now m.directory)) (inode-set-there s.own.inodes m.directory m.inode dated there) ∙ ap Some here
      by q false e =
          ap (option_map (now q)) (inode-set-other s.own.inodes m.directory dated q e) ∙ others q e (inode_of s.own.inodes q)
          ∙ sym (get-map_values nat_cmp_total nat_cmp-IsAntisymmetric was s.own.inodes.inodes q)

-- ---- a node hung up

module _ (s : LogicalSet) (m : Naming) (there : inode_of s.own.inodes m.directory ≡ Some m.inode) (node : inode_of s.own.inodes m.fileid ≡ Some m.node)
    (apart : (m.directory == m.fileid) ≡ false) (apart-turned : (m.fileid == m.directory) ≡ false)
    (parent : ℕ) (says : parent_in m.inode.kind ≡ Some parent) (moved_then : Node)
    (is : node_with (file_bytes s.stripes m.fileid) (file_filled s.stripes m.fileid) None (directory_or_empty (get s.own.directories m.fileid))
    (text_or_empty (get s.own.texts m.fileid)) (node_hung m (file_touch s.stripes m.fileid)).attributes m.names (with_parent m.directory m.node.kind)
    ≡ moved_then) where
  abbrev touch : Option Moment
  touch = file_touch s.stripes m.fileid

  abbrev seen : ℕ → Inode → Node
  seen = node_of s.stripes s.own.directories s.own.texts

  abbrev hung : LogicalSet
  hung = node_hung_up m touch s

  abbrev then_seen : ℕ → Inode → Node
  then_seen = node_of hung.stripes hung.own.directories hung.own.texts

  abbrev dated_to : Inode
  dated_to = dated_inode m.moment (with_subdirectories (directories_in m.node.kind) m.inode.kind) m.inode

  abbrev entered_then : Node
  entered_then = Directory (with_name (seen_directory m.inode m.entries parent) m.name m.fileid m.moment)

  hung-at : get hung.own.directories m.directory ≡ Some (added m.name m.fileid m.entries)
  hung-at =
      get-insert_at s.own.directories m.directory (added m.name m.fileid m.entries) m.directory
      ∙ ap (λ (b : Bool). if b then Some (added m.name m.fileid m.entries) else get s.own.directories m.directory) (itself m.directory)

  hung-off : (q : ℕ) → (q == m.directory) ≡ false → get hung.own.directories q ≡ get s.own.directories q
  hung-off q ne =
      get-insert_at s.own.directories m.directory (added m.name m.fileid m.entries) q
      ∙ ap (λ (b : Bool). if b then Some (added m.name m.fileid m.entries) else get s.own.directories q) ne

  directory-then : then_seen m.directory dated_to ≡ entered_then
  directory-then = node-of-directory hung.stripes (get hung.own.directories m.directory) (get s.own.texts m.directory) (added m.name m.fileid m.entries)
      m.directory dated_to.attributes m.inode.names dated_to.kind parent hung-at (named.parent-kept (directories_in m.node.kind) m.inode.kind ∙ says)

  node-then : then_seen m.fileid (node_hung m touch) ≡ moved_then
  node-then =
      (λ j. node_with (λ size. bytes-stay m.fileid s.stripes m.fileid size j) (filled-stays m.fileid s.stripes m.fileid j)
      (touch-gone m.fileid s.stripes j) (directory_or_empty (hung-off m.fileid apart-turned j)) (text_or_empty (get s.own.texts m.fileid))
      (node_hung m touch).attributes m.names (node_hung m touch).kind)
      ∙ is

  off : (q : ℕ) → (q == m.directory) ≡ false → (q == m.fileid) ≡ false → (inode : Inode) → then_seen q inode ≡ seen q inode
  off q ne other inode = λ j. node_with (λ size. bytes-stay m.fileid s.stripes q size j) (filled-stays m.fileid s.stripes q j)
      (touch-stays m.fileid s.stripes q other j) (directory_or_empty (hung-off q ne j)) (text_or_empty (get s.own.texts q))
      inode.attributes inode.names inode.kind

  all-off : (q : ℕ) → (q == m.directory) ≡ false → (q == m.fileid) ≡ false → (o : Option Inode) → option_map (then_seen q) o ≡ option_map (seen q) o
  all-off q ne other None = refl
  all-off q ne other (Some inode) = ap Some (off q ne other inode)

  abbrev answer : ℕ → Option Node
  answer q = if q == m.fileid then Some moved_then else if q == m.directory then Some entered_then else get (nodes_of s) q

  abbrev between : InodesValue
  between = inode_set m.directory dated_to s.own.inodes

  pub nodes-hung : nodes_of hung ≡ insert (insert (nodes_of s) m.directory entered_then) m.fileid moved_then
  nodes-hung = same-answers _ _ (λ q.
      get-map_values nat_cmp_total nat_cmp-IsAntisymmetric then_seen hung.own.inodes.inodes q ∙ first q (q == m.fileid) refl ∙ sym (wanted q))
    where
      wanted : (q : ℕ) → get (insert (insert (nodes_of s) m.directory entered_then) m.fileid moved_then) q ≡ answer q
      wanted q =
          get-insert_at (insert (nodes_of s) m.directory entered_then) m.fileid moved_then q
          ∙ ap (λ (o : Option Node). if q == m.fileid then Some moved_then else o) (get-insert_at (nodes_of s) m.directory entered_then q)

      second : (q : ℕ) (c : Bool) → (q == m.directory) ≡ c → (q == m.fileid) ≡ false
          → option_map (then_seen q) (inode_of hung.own.inodes q) ≡ (if c then Some entered_then else get (nodes_of s) q)
      second q true e other =
          ap (option_map (then_seen q)) (inode-set-other between m.fileid (node_hung m touch) q other)
          ∙ ap (λ (k : ℕ). option_map (then_seen k) (inode_of between k)) (eqb-true q m.directory e)
          ∙ ap (option_map (then_seen m.directory)) (inode-set-there s.own.inodes m.directory m.inode dated_to there) ∙ ap Some directory-then
      second q false e other =
          ap (option_map (then_seen q)) (inode-set-other between m.fileid (node_hung m touch) q other
          ∙ inode-set-other s.own.inodes m.directory dated_to q e)
          ∙ all-off q e other (inode_of s.own.inodes q)
          ∙ sym (get-map_values nat_cmp_total nat_cmp-IsAntisymmetric seen s.own.inodes.inodes q)

      first : (q : ℕ) (b : Bool) → (q == m.fileid) ≡ b → option_map (then_seen q) (inode_of hung.own.inodes q)
          ≡ (if b then Some moved_then else if q == m.directory then Some entered_then else get (nodes_of s) q)
      first q true e =
          ap (λ (k : ℕ). option_map (then_seen k) (inode_of hung.own.inodes k)) (eqb-true q m.fileid e)
          ∙ ap (option_map (then_seen m.fileid)) (inode-set-there between m.fileid m.node (node_hung m touch)
          (inode-set-other s.own.inodes m.directory dated_to m.fileid apart-turned ∙ node))
          ∙ ap Some node-then
      first q false e = second q (q == m.directory) refl e

-- ---- both

-- the nodes after a node moved
pub nodes-moved : (s : LogicalSet) (from to : Naming) (from_parent to_parent : ℕ)
    → inode_of s.own.inodes from.directory ≡ Some from.inode → parent_in from.inode.kind ≡ Some from_parent
    → inode_of (entry_taken from s).own.inodes to.directory ≡ Some to.inode → inode_of (entry_taken from s).own.inodes to.fileid ≡ Some to.node
    → parent_in to.inode.kind ≡ Some to_parent → (to.directory == to.fileid) ≡ false → (to.fileid == to.directory) ≡ false → to.names ≡ to.node.names
    → nodes_of (node_hung_up to (file_touch s.stripes to.fileid) (entry_taken from s))
    ≡ insert (insert (insert (nodes_of s) from.directory
    (Directory (dropped_name (seen_directory from.inode from.entries from_parent) from.name from.moment)))
    to.directory (Directory (with_name (seen_directory to.inode to.entries to_parent) to.name to.fileid to.moment)))
    to.fileid (moved_node to.directory to.moment (node_of s.stripes (entry_taken from s).own.directories s.own.texts to.fileid to.node))
nodes-moved s from to from_parent to_parent from_there from_says to_there node to_says apart apart-turned as_many =
    nodes-hung (entry_taken from s) to to_there node apart apart-turned to_parent to_says
    (moved_node to.directory to.moment (node_of s.stripes (entry_taken from s).own.directories s.own.texts to.fileid to.node))
    (ap (λ (n : ℕ). node_with (file_bytes s.stripes to.fileid) (file_filled s.stripes to.fileid) None
    (directory_or_empty (get (entry_taken from s).own.directories to.fileid)) (text_or_empty (get s.own.texts to.fileid))
    (node_hung to (file_touch s.stripes to.fileid)).attributes n (with_parent to.directory to.node.kind)) as_many
    ∙ moved-kind (file_bytes s.stripes to.fileid) (file_filled s.stripes to.fileid) (file_touch s.stripes to.fileid)
    (directory_or_empty (get (entry_taken from s).own.directories to.fileid)) (text_or_empty (get s.own.texts to.fileid))
    to.node.attributes to.node.names to.directory to.moment to.node.kind)
    ∙ (λ j. insert (insert (nodes-taken s from from_there from_parent from_says j) to.directory
    (Directory (with_name (seen_directory to.inode to.entries to_parent) to.name to.fileid to.moment)))
    to.fileid (moved_node to.directory to.moment (node_of s.stripes (entry_taken from s).own.directories s.own.texts to.fileid to.node)))

-- ---- one more name

-- the nodes after a node that isn't a directory got a name more
pub nodes-linked : (s : LogicalSet) (m : Naming) (parent : ℕ) → inode_of s.own.inodes m.directory ≡ Some m.inode
    → inode_of s.own.inodes m.fileid ≡ Some m.node → (m.directory == m.fileid) ≡ false → (m.fileid == m.directory) ≡ false
    → parent_in m.inode.kind ≡ Some parent → parent_in m.node.kind ≡ None → m.names ≡ m.node.names + 1
    → nodes_of (node_hung_up m (file_touch s.stripes m.fileid) s)
    ≡ insert (insert (nodes_of s) m.directory (Directory (with_name (seen_directory m.inode m.entries parent) m.name m.fileid m.moment)))
    m.fileid (with_link m.moment (node_of s.stripes s.own.directories s.own.texts m.fileid m.node))
nodes-linked s m parent there node apart apart-turned says no_directory one_more =
    nodes-hung s m there node apart apart-turned parent says
    (with_link m.moment (node_of s.stripes s.own.directories s.own.texts m.fileid m.node))
    (ap (λ (n : ℕ). node_with (file_bytes s.stripes m.fileid) (file_filled s.stripes m.fileid) None
    (directory_or_empty (get s.own.directories m.fileid)) (text_or_empty (get s.own.texts m.fileid))
    (node_hung m (file_touch s.stripes m.fileid)).attributes n (with_parent m.directory m.node.kind)) one_more
    ∙ linked-kind (file_bytes s.stripes m.fileid) (file_filled s.stripes m.fileid) (file_touch s.stripes m.fileid)
    (directory_or_empty (get s.own.directories m.fileid)) (text_or_empty (get s.own.texts m.fileid))
    m.node.attributes m.node.names m.directory m.moment m.node.kind no_directory)

-- ---- one name less

module _ (s : LogicalSet) (m : Naming) (node : inode_of (entry_taken m s).own.inodes m.fileid ≡ Some m.node) (one_less : m.names ≡ m.node.names - 1)
    (more : nat_le m.node.names 1 ≡ false) (left_node : Node)
    (is : without_link m.moment (node_of s.stripes (entry_taken m s).own.directories s.own.texts m.fileid m.node) ≡ Some left_node) where
  abbrev touch_then : Option Moment
  touch_then = file_touch s.stripes m.fileid

  abbrev entries_then : DirectoryMap
  entries_then = (entry_taken m s).own.directories

  abbrev kept : LogicalSet
  kept = name_dropped m touch_then s

  abbrev seen_then : ℕ → Inode → Node
  seen_then = node_of kept.stripes kept.own.directories kept.own.texts

  abbrev seen_before : ℕ → Inode → Node
  seen_before = node_of s.stripes entries_then s.own.texts

  node-kept : seen_then m.fileid (node_counted m touch_then) ≡ left_node
  node-kept =
      (λ j. node_with (λ size. bytes-stay m.fileid s.stripes m.fileid size j) (filled-stays m.fileid s.stripes m.fileid j)
      (touch-gone m.fileid s.stripes j) (directory_or_empty (get entries_then m.fileid)) (text_or_empty (get s.own.texts m.fileid))
      (node_counted m touch_then).attributes (one_less j) m.node.kind)
      ∙ counted-kind (file_bytes s.stripes m.fileid) (file_filled s.stripes m.fileid) touch_then (directory_or_empty (get entries_then m.fileid))
      (text_or_empty (get s.own.texts m.fileid)) m.node.attributes m.node.names m.moment m.node.kind left_node more is

  kept-off : (q : ℕ) → (q == m.fileid) ≡ false → (o : Option Inode) → option_map (seen_then q) o ≡ option_map (seen_before q) o
  kept-off q other None = refl
  kept-off q other (Some inode) = λ j. Some (node_with (λ size. bytes-stay m.fileid s.stripes q size j) (filled-stays m.fileid s.stripes q j)
      (touch-stays m.fileid s.stripes q other j) (directory_or_empty (get entries_then q)) (text_or_empty (get s.own.texts q))
      inode.attributes inode.names inode.kind)

  pub nodes-counted : nodes_of kept ≡ insert (nodes_of (entry_taken m s)) m.fileid left_node
  nodes-counted = same-answers _ _ (λ q.
      get-map_values nat_cmp_total nat_cmp-IsAntisymmetric seen_then kept.own.inodes.inodes q ∙ by q (q == m.fileid) refl
      ∙ sym (get-insert_at (nodes_of (entry_taken m s)) m.fileid left_node q))
    where
      by : (q : ℕ) (b : Bool) → (q == m.fileid) ≡ b
          → option_map (seen_then q) (inode_of kept.own.inodes q) ≡ (if b then Some left_node else get (nodes_of (entry_taken m s)) q)
      by q true e =
          ap (λ (k : ℕ). option_map (seen_then k) (inode_of kept.own.inodes k)) (eqb-true q m.fileid e)
          ∙ ap (option_map (seen_then m.fileid)) (inode-set-there (entry_taken m s).own.inodes m.fileid m.node (node_counted m touch_then) node)
          ∙ ap Some node-kept
      by q false e =
          ap (option_map (seen_then q)) (inode-set-other (entry_taken m s).own.inodes m.fileid (node_counted m touch_then) q e)
          ∙ kept-off q e (inode_of (entry_taken m s).own.inodes q)
          ∙ sym (get-map_values nat_cmp_total nat_cmp-IsAntisymmetric seen_before (entry_taken m s).own.inodes.inodes q)
