-- A node that gets one more name: all stays sound, and so the volume is seen.
use Rattle.std.proofs.Common.{◌≡◌, ℕ, zero, suc, ◌+◌, ◌-◌, ◌<◌, ◌≤◌, ◌==◌, Bool, true, false, List, Option, Some, None}
use Rattle.std.proofs.Common.{refl, sym, ap, ◌∙◌, subst, arith, eq-eqb, ne_eqb, ⊎_elim}
use Rattle.std.specs.Prelude.{is_some, if◌then◌else◌}
use Rattle.std.proofs.lemmas.Bool.{eqb-true, cases_lt}
use Rattle.std.specs.Ordering.{nat_cmp}
use Rattle.std.specs.FinMap.{FinMap, get, insert}
use Rattle.nfs_model.specs.Types.{Moment}
use Rattle.nfs_model.specs.Server.{Node, Directory}
use Rattle.nfs_model.specs.Names.{with_name}
use Rattle.nfs_model.specs.Parts.{Hand}
use Rattle.nfs_model.specs.Serial.Links.{with_link}
use Rattle.depot_rule.specs.Sums.{total}
use Rattle.nfs_model.specs.volume.Directories.{DirectoryValue, added}
use Rattle.nfs_model.specs.volume.Inodes.{Inode, InodesValue, inode_of, inode_set}
use Rattle.nfs_model.specs.volume.lemmas.Numbered.{get-insert_at, same-answers}
use Rattle.filer_state.specs.state.Contents.{VolumeContents}
use Rattle.filer_state.specs.state.Tree.{file_touch, node_of, volume_of}
use Rattle.filer_state.specs.state.Names.{root, parent_in, parent_directory, parent_or, is_directory, names_of, times_named, directory_above, AreNamed}
use Rattle.filer_state.specs.state.WellFormed.{WellFormed}
use Rattle.filer_state.specs.state.Partition.{times_in_hand}
use Rattle.filer_state.specs.state.Sound.{IsSound}
use Rattle.filer_state.specs.state.Lenses.{logical_lens}
use Rattle.filer_state.specs.laws.lemmas.InodeKinds as kinds
use Rattle.filer_state.specs.nodes.Making.{directories_in, with_subdirectories}
use Rattle.filer_state.specs.nodes.Moving.{Naming, dated_inode, node_hung, inodes_hung, entries_hung}
use Rattle.filer_state.specs.nodes.Laws.{seen_directory, MayHang, MayBeLinked, linked_in}
use Rattle.filer_state.specs.nodes.lemmas.Named as made
use Rattle.filer_state.specs.nodes.lemmas.Untied.{AreNamedBut}
use Rattle.filer_state.specs.nodes.lemmas.Hung.{named-hung, hung-entries, hung-others, still, apart, apart-turned}
use Rattle.filer_state.specs.nodes.lemmas.Moved.{SameFiles, same-then, same-set, sound-then, size-with, owner-with}
use Rattle.filer_state.specs.nodes.lemmas.MovedNodes.{nodes-linked}

-- two nodes put under two fileids, in either order
pub insert-either : {X : Type 0} (nodes : FinMap nat_cmp X) (a b : ℕ) (x y : X) → (b == a) ≡ false
    → insert (insert nodes a x) b y ≡ insert (insert nodes b y) a x
insert-either {X} nodes a b x y apart = same-answers _ _ (λ q. by q (q == a) refl)
  where
    by : (q : ℕ) (c : Bool) → (q == a) ≡ c → get (insert (insert nodes a x) b y) q ≡ get (insert (insert nodes b y) a x) q
    by q true e =
        let is : q ≡ a = eqb-true q a e in
        let off : (q == b) ≡ false = ne_eqb q b (λ (h : q ≡ b). let t : (b == a) ≡ true = eq-eqb b a (sym h ∙ is) in let f = apart in cc) in
        get-insert_at (insert nodes a x) b y q ∙ ap (λ (c : Bool). if c then Some y else get (insert nodes a x) q) off
        ∙ get-insert_at nodes a x q ∙ ap (λ (c : Bool). if c then Some x else get nodes q) e
        ∙ sym (get-insert_at (insert nodes b y) a x q ∙ ap (λ (c : Bool). if c then Some x else get (insert nodes b y) q) e)
    by q false e =
        get-insert_at (insert nodes a x) b y q
        ∙ ap (λ (o : Option X). if q == b then Some y else o) (get-insert_at nodes a x q ∙ ap (λ (c : Bool). if c then Some x else get nodes q) e)
        ∙ sym (get-insert_at (insert nodes b y) a x q ∙ ap (λ (c : Bool). if c then Some x else get (insert nodes b y) q) e ∙ get-insert_at nodes b y q)

none-is : (o : Option ℕ) → is_some o ≡ false → o ≡ None
none-is None e = refl
none-is (Some n) e = absurd cc

module _ (p : VolumeContents) (m : Naming) (well : WellFormed p) (may : MayBeLinked m p.logical.inodes p.logical.directories) where
  abbrev old : InodesValue
  old = p.logical.inodes

  named : AreNamed old.inodes p.logical.directories
  named = well.logical.named

  no-directory : is_directory (inode_of old m.fileid) ≡ false
  no-directory = ap is_directory may.node ∙ ap (λ (o : Option ℕ). is_some o) may.no_directory

  is-directory : is_directory (inode_of old m.directory) ≡ true
  is-directory = sym (named.as_directories m.directory) ∙ ap (λ o. is_some o) may.entered

  root-directory : is_directory (inode_of old root) ≡ true
  root-directory = ap (λ (o : Option ℕ). is_some o) named.root_there

  -- ---- what is no directory is above none

  stays : (q : ℕ) → is_directory (inode_of old q) ≡ false → (n : ℕ) → directory_above old.inodes n q ≡ q
  stays q isnt zero = refl
  stays q isnt (suc n) =
      ap (λ (o : Option ℕ). directory_above old.inodes n (parent_or o q)) (none-is (parent_directory (get old.inodes q)) isnt) ∙ stays q isnt n

  root-stays : (n : ℕ) → directory_above old.inodes n root ≡ root
  root-stays zero = refl
  root-stays (suc n) = ap (λ (o : Option ℕ). directory_above old.inodes n (parent_or o root)) named.root_there ∙ root-stays n

  above-plus : (k n q : ℕ) → directory_above old.inodes (k + n) q ≡ directory_above old.inodes n (directory_above old.inodes k q)
  above-plus zero n q = ap (λ (i : ℕ). directory_above old.inodes i q) (let same : zero + n ≡ n = omega arith in same)
  above-plus (suc k) n q =
      ap (λ (i : ℕ). directory_above old.inodes i q) (let same : suc k + n ≡ suc (k + n) = omega arith in same)
      ∙ above-plus k n (parent_or (parent_directory (get old.inodes q)) q)

  clear : (k : ℕ) → (directory_above old.inodes k m.directory == m.fileid) ≡ false
  clear k = by (directory_above old.inodes k m.directory == m.fileid) refl (named.rooted m.directory is-directory)
    where
      by : (b : Bool) → (directory_above old.inodes k m.directory == m.fileid) ≡ b
          → (steps : ℕ) × (directory_above old.inodes steps m.directory ≡ root) → b ≡ false
      by false e reaches = refl
      by true e reaches = absurd (⊎_elim
          (λ (less : reaches.0 < k).
          let sum : reaches.0 + (k - reaches.0) ≡ k = omega (arith, less) in
          let is_root : directory_above old.inodes k m.directory ≡ root = ap (λ (i : ℕ). directory_above old.inodes i m.directory) (sym sum)
          ∙ above-plus reaches.0 (k - reaches.0) m.directory ∙ ap (directory_above old.inodes (k - reaches.0)) reaches.1 ∙ root-stays (k - reaches.0) in
          let wrong : true ≡ false = sym root-directory ∙ ap (λ (i : ℕ). is_directory (inode_of old i)) (sym is_root ∙ at) ∙ no-directory in cc)
          (λ (more : k ≤ reaches.0).
          let sum : k + (reaches.0 - k) ≡ reaches.0 = omega (arith, more) in
          let is_root : m.fileid ≡ root = sym (stays m.fileid no-directory (reaches.0 - k)) ∙ ap (directory_above old.inodes (reaches.0 - k)) (sym at)
          ∙ sym (above-plus k (reaches.0 - k) m.directory) ∙ ap (λ (i : ℕ). directory_above old.inodes i m.directory) sum ∙ reaches.1 in
          let wrong : true ≡ false = sym root-directory ∙ ap (λ (i : ℕ). is_directory (inode_of old i)) (sym is_root) ∙ no-directory in cc)
          (cases_lt reaches.0 k))
        where
          at : directory_above old.inodes k m.directory ≡ m.fileid
          at = eqb-true (directory_above old.inodes k m.directory) m.fileid e

  pub may-hang : MayHang m old p.logical.directories
  may-hang = record {
    there = may.there;
    entered = may.entered;
    absent = may.absent;
    node = may.node;
    no_root = ne_eqb m.fileid root (λ (e : m.fileid ≡ root).
        let wrong : true ≡ false = sym root-directory ∙ ap (λ (i : ℕ). is_directory (inode_of old i)) (sym e) ∙ no-directory in cc);
    clear = clear;
  }

  -- ---- names

  named-but : AreNamedBut m.fileid m.names old.inodes p.logical.directories
  named-but = record {
    root_there = named.root_there;
    as_directories = named.as_directories;
    fits = named.fits;
    counted = λ q ne. named.counted q;
    one_less =
        let counted : times_named m.fileid p.logical.directories ≡ m.node.names = named.counted m.fileid ∙ ap names_of may.node in
        let more = may.one_more in
        omega (arith, counted, more);
    once = named.once;
    last = λ is. let isnt = no-directory in absurd cc;
    rooted = named.rooted;
  }

  abbrev touch : Option Moment
  touch = file_touch p.stripes m.fileid

  named-linked : AreNamed (inodes_hung m touch old).inodes (entries_hung m p.logical.directories)
  named-linked = named-hung old p.logical.directories m touch may-hang named-but

  -- ---- inodes

  abbrev dated : Inode
  dated = dated_inode m.moment (with_subdirectories (directories_in m.node.kind) m.inode.kind) m.inode

  same-dated : SameFiles (inode_set m.directory dated old) old
  same-dated = same-set old m.directory m.inode dated well.logical.inodes may.there
      (made.size-kept (directories_in m.node.kind) m.inode.kind)
      (kinds.owner-alike m.inode.attributes dated.attributes m.inode.kind dated.kind refl
      (made.size-kept (directories_in m.node.kind) m.inode.kind))
      (made.blocks-kept (directories_in m.node.kind) m.inode.kind)
      (kinds.text-changed (λ parent. parent) (λ n. n + directories_in m.node.kind) m.inode.kind)

  same-hung : SameFiles (inodes_hung m touch old) (inode_set m.directory dated old)
  same-hung = same-set (inode_set m.directory dated old) m.fileid m.node (node_hung m touch) (same-dated.lawful well.logical.inodes)
      (still old p.logical.directories m touch may-hang) (size-with m.directory m.node.kind)
      (owner-with m.directory touch m.moment m.node.attributes m.node.kind)
      (kinds.blocks-changed (λ old. m.directory) (λ n. n) m.node.kind)
      (kinds.text-changed (λ old. m.directory) (λ n. n) m.node.kind)

  same-linked : SameFiles (inodes_hung m touch old) old
  same-linked = same-then old (inode_set m.directory dated old) (inodes_hung m touch old) same-hung same-dated

  cookies-linked : (now : ℕ) → ((q : ℕ) (d : DirectoryValue) → get p.logical.directories q ≡ Some d → d.next + 1 ≤ 3 + now)
      → (q : ℕ) (d : DirectoryValue) → get (entries_hung m p.logical.directories) q ≡ Some d → d.next ≤ 3 + now
  cookies-linked now young q d e = by (q == m.directory) refl
    where
      by : (b : Bool) → (q == m.directory) ≡ b → d.next ≤ 3 + now
      by true is =
          let same : added m.name m.fileid m.entries ≡ d =
          (let at = sym (ap (get (entries_hung m p.logical.directories)) (eqb-true q m.directory is)) ∙ e in
          let here = hung-entries old p.logical.directories m touch may-hang in cc) in
          let next : m.entries.next + 1 ≡ d.next = ap (λ (y : DirectoryValue). y.next) same in
          let y = young m.directory m.entries may.entered in
          omega (arith, next, y)
      by false is =
          let y = young q d (sym (hung-others old p.logical.directories m touch may-hang q is) ∙ e) in
          omega (arith, y)

  -- all stays sound
  pub sound-linked : (hands hands' : List Hand) (made : ℕ) → ((n : ℕ) → total (times_in_hand p.number n) hands' ≡ total (times_in_hand p.number n) hands)
      → IsSound p hands made → IsSound (linked_in m p) hands' (made + 1)
  sound-linked hands hands' made weigh s =
      sound-then p (inodes_hung m touch old) (entries_hung m p.logical.directories) m.fileid well same-linked named-linked
      hands hands' made (made + 1) (omega arith) weigh
      (cookies-linked (made + 1) (λ q d e. let y = s.young.cookies q d e in omega (arith, y))) s

  -- the volume after it
  pub volume-linked : (parent : ℕ) → parent_in m.inode.kind ≡ Some parent → volume_of (linked_in m p) ≡ record (volume_of p) {
    nodes = insert (insert (volume_of p).nodes m.fileid
        (with_link m.moment (node_of p.stripes p.logical.directories p.logical.texts m.fileid m.node))) m.directory
        (Directory (with_name (seen_directory m.inode m.entries parent) m.name m.fileid m.moment));
  }
  volume-linked parent says = λ j. record (volume_of p) {
    next = same-linked.next j;
    nodes = (nodes-linked (logical_lens.of p) m parent may.there may.node
        (apart old p.logical.directories m touch may-hang) (apart-turned old p.logical.directories m touch may-hang) says may.no_directory may.one_more
        ∙ insert-either (volume_of p).nodes m.directory m.fileid
        (Directory (with_name (seen_directory m.inode m.entries parent) m.name m.fileid m.moment))
        (with_link m.moment (node_of p.stripes p.logical.directories p.logical.texts m.fileid m.node))
        (apart-turned old p.logical.directories m touch may-hang)) j;
  }
