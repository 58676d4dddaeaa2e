-- A node that loses a name and has others: all stays sound, and so the volume is seen.
use Rattle.std.proofs.Common.{◌≡◌, ℕ, ◌+◌, ◌-◌, ◌<◌, ◌≤◌, ◌==◌, not, Bool, true, false, List, Option, Some, None}
use Rattle.std.proofs.Common.{refl, sym, ap, ◌∙◌, subst, arith, eq-eqb, ne_eqb}
use Rattle.std.specs.Prelude.{is_some, nat_le}
use Rattle.std.proofs.lemmas.Bool.{eqb-true}
use Rattle.std.specs.FinMap.{get, insert}
use Rattle.nfs_model.specs.Types.{Moment}
use Rattle.nfs_model.specs.Server.{Node, Directory}
use Rattle.nfs_model.specs.Names.{dropped_name}
use Rattle.nfs_model.specs.Parts.{Hand, one_if}
use Rattle.nfs_model.specs.Serial.Links.{without_link}
use Rattle.depot_rule.specs.Sums.{total}
use Rattle.nfs_model.specs.volume.Directories.{DirectoryValue, removed}
use Rattle.nfs_model.specs.volume.Inodes.{Inode, InodesValue, inode_of, inode_set}
use Rattle.nfs_model.specs.volume.lemmas.Inodes.{inode-set-there, inode-set-other}
use Rattle.filer_state.specs.state.Contents.{VolumeContents}
use Rattle.filer_state.specs.state.Tree.{file_touch, node_by, node_of, volume_of}
use Rattle.filer_state.specs.state.Names.{root, DirectoryMap, parent_in, parent_directory, subdirectories_of, is_directory, names_of, times_named, AreNamed}
use Rattle.filer_state.specs.state.WellFormed.{WellFormed}
use Rattle.filer_state.specs.state.Partition.{times_in_hand}
use Rattle.filer_state.specs.state.Sound.{IsSound}
use Rattle.filer_state.specs.state.Lenses.{logical_lens}
use Rattle.filer_state.specs.laws.lemmas.InodeKinds as kinds
use Rattle.filer_state.specs.laws.lemmas.SameNames.{SamePlaces, directories-same, children-same, above-same}
use Rattle.filer_state.specs.nodes.Making.{directories_in}
use Rattle.filer_state.specs.nodes.Dropping.{without_subdirectories}
use Rattle.filer_state.specs.nodes.Moving.{Naming, dated_inode, node_counted, inodes_untied, inodes_counted, entries_untied}
use Rattle.filer_state.specs.nodes.Laws.{seen_directory, KeepsAName, unlinked_in}
use Rattle.filer_state.specs.nodes.lemmas.Others as others
use Rattle.filer_state.specs.nodes.lemmas.Unnamed as unnamed
use Rattle.filer_state.specs.nodes.lemmas.Untied.{AreNamedBut, named-untied, untied-other, untied-entries, untied-others}
use Rattle.filer_state.specs.nodes.lemmas.Moved.{SameFiles, same-then, same-set, sound-then}
use Rattle.filer_state.specs.nodes.lemmas.MovedNodes.{nodes-taken, nodes-counted}
use Rattle.filer_state.specs.nodes.lemmas.Linked.{insert-either}
use Rattle.std.proofs.lemmas.Bool.Decides.{nat_tests}

more-than-one : (n : ℕ) → 1 < n → nat_le n 1 ≡ false
more-than-one n h = grind (arith, nat_tests, h)

-- a directory has at most one name
pub names-of-directory : (p : VolumeContents) → WellFormed p → (f : ℕ) (inode : Inode) → get p.logical.inodes.inodes f ≡ Some inode
    → is_directory (get p.logical.inodes.inodes f) ≡ true → inode.names ≤ 1
names-of-directory p well f inode there is =
    let once : inode.names ≡ one_if (not (f == root)) = sym (ap names_of there) ∙ well.logical.named.once f is in
    let most = at-most (not (f == root)) in
    omega (arith, once, most)
  where
    at-most : (b : Bool) → one_if b ≤ 1
    at-most true = omega arith
    at-most false = omega arith

module _ (p : VolumeContents) (m : Naming) (well : WellFormed p) (may : KeepsAName m p.logical.inodes p.logical.directories) where
  abbrev old : InodesValue
  old = p.logical.inodes

  abbrev taken : InodesValue
  taken = inodes_untied m old

  abbrev directories_after : DirectoryMap
  directories_after = entries_untied m p.logical.directories

  abbrev touch : Option Moment
  touch = file_touch p.stripes m.fileid

  abbrev new : InodesValue
  new = inodes_counted m touch old

  but : AreNamedBut m.fileid m.node.names taken.inodes directories_after
  but = named-untied old p.logical.directories m may.stands well.logical.named

  one-most : (b : Bool) → one_if b ≤ 1
  one-most true = omega arith
  one-most false = omega arith

  -- the directory has one name
  apart : (m.fileid == m.directory) ≡ false
  apart = ne_eqb m.fileid m.directory (λ (e : m.fileid ≡ m.directory).
      let as_directory : is_directory (inode_of old m.fileid) ≡ true = ap (λ (k : ℕ). is_directory (inode_of old k)) e
      ∙ sym (well.logical.named.as_directories m.directory) ∙ ap (λ o. is_some o) may.stands.entered in
      let once : m.node.names ≡ one_if (not (m.fileid == root)) = sym (ap names_of may.stands.node) ∙ well.logical.named.once m.fileid as_directory in
      let most = one-most (not (m.fileid == root)) in
      let more = may.more in
      absurd (omega (arith, once, most, more)))

  node-there : inode_of taken m.fileid ≡ Some m.node
  node-there = untied-other old p.logical.directories m may.stands m.fileid apart ∙ may.stands.node

  at-node : inode_of new m.fileid ≡ Some (node_counted m touch)
  at-node = inode-set-there taken m.fileid m.node (node_counted m touch) node-there

  at-other : (q : ℕ) → (q == m.fileid) ≡ false → inode_of new q ≡ inode_of taken q
  at-other q ne = inode-set-other taken m.fileid (node_counted m touch) q ne

  by-fileid : (P : ℕ → Type 0) → P m.fileid → ((q : ℕ) → (q == m.fileid) ≡ false → P q) → (q : ℕ) → P q
  by-fileid = others.by-one m.fileid

  -- ---- names

  places : SamePlaces new.inodes taken.inodes
  places = record {
    parents = by-fileid (λ q. parent_directory (inode_of new q) ≡ parent_directory (inode_of taken q))
        (ap parent_directory at-node ∙ sym (ap parent_directory node-there))
        (λ q ne. ap parent_directory (at-other q ne));
    subdirectories = by-fileid (λ q. subdirectories_of (inode_of new q) ≡ subdirectories_of (inode_of taken q))
        (ap subdirectories_of at-node ∙ sym (ap subdirectories_of node-there))
        (λ q ne. ap subdirectories_of (at-other q ne));
  }

  directory-same : (q : ℕ) → is_directory (inode_of new q) ≡ is_directory (inode_of taken q)
  directory-same q = ap (λ (o : Option ℕ). is_some o) (places.parents q)

  no-directory : is_directory (inode_of taken m.fileid) ≡ true → ⊥
  no-directory is = let one = but.last is in let more = may.more in omega (arith, one, more)

  named-counted : AreNamed new.inodes directories_after
  named-counted = record {
    root_there = places.parents root ∙ but.root_there;
    as_directories = λ q. but.as_directories q ∙ sym (directory-same q);
    fits = λ q d e. let fits = but.fits q d e in record {
      list = fits.list;
      children = children-same new.inodes taken.inodes places q d.list fits.children;
      links = places.subdirectories q ∙ fits.links ∙ ap Some (sym (directories-same new.inodes taken.inodes places d.list));
    };
    counted = by-fileid (λ q. times_named q directories_after ≡ names_of (inode_of new q))
        (let less = but.one_less in let one = may.one_less in
        let here : times_named m.fileid directories_after ≡ m.names = omega (arith, less, one) in here ∙ sym (ap names_of at-node))
        (λ q ne. but.counted q ne ∙ sym (ap names_of (at-other q ne)));
    once = by-fileid (λ q. is_directory (inode_of new q) ≡ true → names_of (inode_of new q) ≡ one_if (not (q == root)))
        (λ is. absurd (no-directory (sym (directory-same m.fileid) ∙ is)))
        (λ q ne is. ap names_of (at-other q ne) ∙ but.once q (sym (directory-same q) ∙ is));
    rooted = λ q is.
        let reaches = but.rooted q (sym (directory-same q) ∙ is) in
        (reaches.0, above-same new.inodes taken.inodes places reaches.0 q ∙ reaches.1);
  }

  -- ---- inodes

  abbrev untied : Inode
  untied = dated_inode m.moment (without_subdirectories (directories_in m.node.kind) m.inode.kind) m.inode

  same-taken : SameFiles taken old
  same-taken = same-set old m.directory m.inode untied well.logical.inodes may.stands.there
      (unnamed.size-kept (directories_in m.node.kind) m.inode.kind)
      (kinds.owner-alike m.inode.attributes untied.attributes m.inode.kind untied.kind refl
      (unnamed.size-kept (directories_in m.node.kind) m.inode.kind))
      (unnamed.blocks-kept (directories_in m.node.kind) m.inode.kind)
      (kinds.text-changed (λ parent. parent) (λ n. n - directories_in m.node.kind) m.inode.kind)

  same-counted : SameFiles new old
  same-counted = same-then old taken new
      (same-set taken m.fileid m.node (node_counted m touch) (same-taken.lawful well.logical.inodes) node-there refl
      (kinds.owner-alike m.node.attributes (node_counted m touch).attributes m.node.kind m.node.kind
      (kinds.owner-now touch m.node.attributes m.node.kind) refl)
      refl refl)
      same-taken

  cookies-counted : (now : ℕ) → ((q : ℕ) (d : DirectoryValue) → get p.logical.directories q ≡ Some d → d.next ≤ 3 + now)
      → (q : ℕ) (d : DirectoryValue) → get directories_after q ≡ Some d → d.next ≤ 3 + now
  cookies-counted now young q d e = by (q == m.directory) refl
    where
      by : (b : Bool) → (q == m.directory) ≡ b → d.next ≤ 3 + now
      by true is =
          let same : removed m.name m.entries ≡ d =
          (let at = sym (ap (get directories_after) (eqb-true q m.directory is)) ∙ e in
          let here = untied-entries old p.logical.directories m may.stands in cc) in
          let next : m.entries.next ≡ d.next = ap (λ (y : DirectoryValue). y.next) same in
          let y = young m.directory m.entries may.stands.entered in
          omega (arith, next, y)
      by false is =
          let y = young q d (sym (untied-others old p.logical.directories m may.stands q is) ∙ e) in
          omega (arith, y)

  -- all stays sound
  pub sound-counted : (hands hands' : List Hand) (made now : ℕ) → made ≤ now
      → ((n : ℕ) → total (times_in_hand p.number n) hands' ≡ total (times_in_hand p.number n) hands)
      → IsSound p hands made → IsSound (unlinked_in m p) hands' now
  sound-counted hands hands' made now later weigh s =
      sound-then p new directories_after m.fileid well same-counted named-counted hands hands' made now later weigh
      (cookies-counted now (λ q d e. let y = s.young.cookies q d e in omega (arith, y, later))) s

  -- the volume after it
  pub volume-counted : (parent : ℕ) (node : Node) → parent_in m.inode.kind ≡ Some parent
      → without_link m.moment (node_of p.stripes p.logical.directories p.logical.texts m.fileid m.node) ≡ Some node
      → volume_of (unlinked_in m p) ≡ record (volume_of p) {
        nodes = insert (insert (volume_of p).nodes m.fileid node) m.directory
            (Directory (dropped_name (seen_directory m.inode m.entries parent) m.name m.moment));
      }
  volume-counted parent node says left = λ j. record (volume_of p) {
    next = same-counted.next j;
    nodes = (nodes-counted (logical_lens.of p) m node-there may.one_less (more-than-one m.node.names may.more) node left-then
        ∙ ap (λ nodes. insert nodes m.fileid node) (nodes-taken (logical_lens.of p) m may.stands.there parent says)
        ∙ insert-either (volume_of p).nodes m.directory m.fileid
        (Directory (dropped_name (seen_directory m.inode m.entries parent) m.name m.moment)) node apart) j;
  }
    where
      left-then : without_link m.moment (node_of p.stripes directories_after p.logical.texts m.fileid m.node) ≡ Some node
      left-then = ap (λ (o : Option DirectoryValue). without_link m.moment
          (node_by p.stripes o (get p.logical.texts m.fileid) m.fileid m.node.attributes m.node.names m.node.kind))
          (untied-others old p.logical.directories m may.stands m.fileid apart)
          ∙ left
