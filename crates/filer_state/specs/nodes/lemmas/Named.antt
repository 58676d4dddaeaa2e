-- Inodes and names after a node is made under a name: they are lawful again.
use Rattle.std.proofs.Common.{◌≡◌, ℕ, zero, suc, ◌+◌, ◌==◌, not, Bool, true, false, List, Option, Some, None}
use Rattle.std.proofs.Common.{refl, sym, ap, ◌∙◌, subst, arith, eq-eqb, ne_eqb}
use Rattle.std.specs.Prelude.{if◌then◌else◌, is_some, IfSome}
use Rattle.std.proofs.lemmas.Bool.{eqb-true}
use Rattle.std.specs.List.{AllByRecursion}
use Rattle.std.specs.Option.{option_map}
use Rattle.std.specs.FinMap.{get, insert, entries, nat_cmp-IsAntisymmetric}
use Rattle.nfs_model.specs.Types.{Listed}
use Rattle.nfs_model.specs.Parts.{one_if}
use Rattle.depot_rule.specs.Sums.{total}
use Rattle.nfs_model.specs.volume.Directories.{DirectoryValue, empty_directory, added, entry_added, found}
use Rattle.nfs_model.specs.volume.Inodes.{InodeKind, InodesValue, IsInodes, filled_blocks, inode_of, inode_created}
use Rattle.nfs_model.specs.volume.lemmas.Inodes.{next-absent, inode-created-there, inode-created-other, inode-set-there, inode-set-other}
use Rattle.nfs_model.specs.volume.lemmas.Numbered.{get-insert_at, itself}
use Rattle.filer_state.specs.state.Names.{root, DirectoryMap, size_in, size_of, parent_in, parent_directory, subdirectories_in, subdirectories_of, is_directory, names_of}
use Rattle.filer_state.specs.state.Names.{parent_or, times_in_list, times_named, directories_listed, directory_above, DirectoryFits, AreNamed}
use Rattle.filer_state.specs.laws.lemmas.InodeKinds as kinds
use Rattle.filer_state.specs.laws.lemmas.Mapped.{entry-at-least}
use Rattle.filer_state.specs.nodes.Making.{Making, directories_in, with_subdirectories, directory_inode, inodes_made, directories_made, entries_made}
use Rattle.filer_state.specs.nodes.Laws.{IsNewIn}
use Rattle.filer_state.specs.nodes.lemmas.Others as others
use Rattle.filer_state.specs.nodes.lemmas.Others.{IsChildOf}
use Rattle.filer_state.specs.nodes.lemmas.Summed.{total-insert, total-set}
use Rattle.nfs_model.specs.volume.lemmas.Listing.{count-more, all-more, added-is}

-- ---- kinds

pub parent-kept : (more : ℕ) (k : InodeKind) → parent_in (with_subdirectories more k) ≡ parent_in k
parent-kept more k = kinds.parent-kept (λ n. n + more) k

pub size-kept : (more : ℕ) (k : InodeKind) → size_in (with_subdirectories more k) ≡ size_in k
size-kept more k = kinds.size-changed (λ parent. parent) (λ n. n + more) k

pub blocks-kept : (more : ℕ) (k : InodeKind) → filled_blocks (with_subdirectories more k) ≡ filled_blocks k
blocks-kept more k = kinds.blocks-changed (λ parent. parent) (λ n. n + more) k

pub counted-more : (more n : ℕ) (k : InodeKind) → subdirectories_in k ≡ Some n → subdirectories_in (with_subdirectories more k) ≡ Some (n + more)
counted-more more n k e = kinds.count-changed (λ parent. parent) (λ n. n + more) k ∙ ap (option_map (λ n. n + more)) e

-- the new directory's entries, if it is one
abbrev pub new_entries : InodeKind → Option DirectoryValue
new_entries k = if is_some (parent_in k) then Some empty_directory else None

module _ (old : InodesValue) (directories : DirectoryMap) (m : Making) (lawful : IsInodes old) (there : inode_of old m.directory ≡ Some m.inode) where
  abbrev new : InodesValue
  new = inodes_made m old

  pub apart : (m.directory == old.next) ≡ false
  apart = ne_eqb m.directory old.next (λ e. let less = lawful.fileids m.directory m.inode there in absurd (omega (arith, e, less)))

  pub apart-turned : (old.next == m.directory) ≡ false
  apart-turned = ne_eqb old.next m.directory (λ e. let less = lawful.fileids m.directory m.inode there in absurd (omega (arith, e, less)))

  -- what is found under each fileid
  pub at-directory : inode_of new m.directory ≡ Some (directory_inode m)
  at-directory = inode-set-there (inode_created m.made old) m.directory m.inode (directory_inode m) (inode-created-other old m.made m.directory apart ∙ there)

  pub at-made : inode_of new old.next ≡ Some m.made
  at-made = inode-set-other (inode_created m.made old) m.directory (directory_inode m) old.next apart-turned ∙ inode-created-there old m.made

  pub at-other : (q : ℕ) → (q == m.directory) ≡ false → (q == old.next) ≡ false → inode_of new q ≡ inode_of old q
  at-other q ne older = inode-set-other (inode_created m.made old) m.directory (directory_inode m) q ne ∙ inode-created-other old m.made q older

  -- by which of them a fileid is
  pub by-fileid : (P : ℕ → Type 0) → P m.directory → P old.next → ((q : ℕ) → (q == m.directory) ≡ false → (q == old.next) ≡ false → P q) → (q : ℕ) → P q
  by-fileid = others.by-two m.directory old.next

  -- an inode that was there shows the same parent and size
  parent-same : (q : ℕ) → (q == old.next) ≡ false → parent_directory (inode_of new q) ≡ parent_directory (inode_of old q)
  parent-same q older = by (q == m.directory) refl
    where
      by : (b : Bool) → (q == m.directory) ≡ b → parent_directory (inode_of new q) ≡ parent_directory (inode_of old q)
      by true e =
          let is : q ≡ m.directory = eqb-true q m.directory e in
          ap (λ (k : ℕ). parent_directory (inode_of new k)) is ∙ ap parent_directory at-directory
          ∙ parent-kept (directories_in m.made.kind) m.inode.kind
          ∙ sym (ap (λ (k : ℕ). parent_directory (inode_of old k)) is ∙ ap parent_directory there)
      by false e = ap parent_directory (at-other q e older)

  pub size-same : (q : ℕ) → (q == old.next) ≡ false → size_of (inode_of new q) ≡ size_of (inode_of old q)
  size-same q older = by (q == m.directory) refl
    where
      by : (b : Bool) → (q == m.directory) ≡ b → size_of (inode_of new q) ≡ size_of (inode_of old q)
      by true e =
          let is : q ≡ m.directory = eqb-true q m.directory e in
          ap (λ (k : ℕ). size_of (inode_of new k)) is ∙ ap size_of at-directory
          ∙ size-kept (directories_in m.made.kind) m.inode.kind
          ∙ sym (ap (λ (k : ℕ). size_of (inode_of old k)) is ∙ ap size_of there)
      by false e = ap size_of (at-other q e older)

  names-same : (q : ℕ) → (q == old.next) ≡ false → names_of (inode_of new q) ≡ names_of (inode_of old q)
  names-same q older = by (q == m.directory) refl
    where
      by : (b : Bool) → (q == m.directory) ≡ b → names_of (inode_of new q) ≡ names_of (inode_of old q)
      by true e =
          let is : q ≡ m.directory = eqb-true q m.directory e in
          ap (λ (k : ℕ). names_of (inode_of new k)) is ∙ ap names_of at-directory
          ∙ sym (ap (λ (k : ℕ). names_of (inode_of old k)) is ∙ ap names_of there)
      by false e = ap names_of (at-other q e older)

  -- ---- lists in which the new fileid doesn't stand

  directories-same : (list : List Listed) → times_in_list old.next list ≡ 0 → directories_listed new.inodes list ≡ directories_listed old.inodes list
  directories-same list none = others.directories-same new.inodes old.inodes old.next parent-same list none

  children-same : (fileid : ℕ) (list : List Listed) → times_in_list old.next list ≡ 0
      → AllByRecursion (IsChildOf old.inodes fileid) list → AllByRecursion (IsChildOf new.inodes fileid) list
  children-same fileid list none all = others.children-same new.inodes old.inodes old.next parent-same fileid list none all

  -- ---- directories

  abbrev directories_after : DirectoryMap
  directories_after = entries_made m old.next directories

  module _ (entered : get directories m.directory ≡ Some m.entries) (named : AreNamed old.inodes directories) (absent : found m.entries m.name ≡ None)
      (largest : ℕ) (one : m.made.names ≡ 1) (is_new : IsNewIn m.directory largest m.made.kind) where
    nothing : inode_of old old.next ≡ None
    nothing = next-absent old lawful

    none-named : times_named old.next directories ≡ 0
    none-named = named.counted old.next ∙ ap names_of nothing

    none-listed : (q : ℕ) (d : DirectoryValue) → get directories q ≡ Some d → times_in_list old.next d.list ≡ 0
    none-listed q d e =
        let most = entry-at-least nat_cmp-IsAntisymmetric (λ (x : ℕ × DirectoryValue). times_in_list old.next x.1.list) directories q d e in
        let none = none-named in
        omega (arith, most, none)

    no-entries : get directories old.next ≡ None
    no-entries = by (get directories old.next) (named.as_directories old.next ∙ ap is_directory nothing)
      where
        by : (o : Option DirectoryValue) → is_some o ≡ false → o ≡ None
        by None e = refl
        by (Some d) e = absurd cc

    -- the directories with the new node's entries, if it is one
    abbrev directories_if : Bool → DirectoryMap
    directories_if b = if b then insert directories old.next empty_directory else directories

    abbrev made_one : Bool
    made_one = is_some (parent_in m.made.kind)

    made-alone : (b : Bool) → get (directories_if b) old.next ≡ (if b then Some empty_directory else None)
    made-alone false = no-entries
    made-alone true =
        get-insert_at directories old.next empty_directory old.next
        ∙ ap (λ (b : Bool). if b then Some empty_directory else get directories old.next) (itself old.next)

    others-alone : (b : Bool) (q : ℕ) → (q == old.next) ≡ false → get (directories_if b) q ≡ get directories q
    others-alone false q older = refl
    others-alone true q older =
        get-insert_at directories old.next empty_directory q ∙ ap (λ (b : Bool). if b then Some empty_directory else get directories q) older

    abbrev first_entries : DirectoryMap
    first_entries = directories_made m.made.kind old.next directories

    abbrev entries_then : DirectoryValue
    entries_then = added m.name old.next m.entries

    found-at : (q : ℕ) → get directories_after q ≡ (if q == m.directory then Some entries_then else get first_entries q)
    found-at q = get-insert_at first_entries m.directory entries_then q

    pub directory-entries : get directories_after m.directory ≡ Some entries_then
    directory-entries = found-at m.directory ∙ ap (λ (b : Bool). if b then Some entries_then else get first_entries m.directory) (itself m.directory)

    pub made-entries : get directories_after old.next ≡ new_entries m.made.kind
    made-entries =
        found-at old.next ∙ ap (λ (b : Bool). if b then Some entries_then else get first_entries old.next) apart-turned ∙ made-alone made_one

    pub other-entries : (q : ℕ) → (q == m.directory) ≡ false → (q == old.next) ≡ false → get directories_after q ≡ get directories q
    other-entries q ne older =
        found-at q ∙ ap (λ (b : Bool). if b then Some entries_then else get first_entries q) ne ∙ others-alone made_one q older

    -- ---- what holds of each

    made-some : (b : Bool) → is_some (if b then Some empty_directory else None) ≡ b
    made-some false = refl
    made-some true = refl

    directories-are : (q : ℕ) → is_some (get directories_after q) ≡ is_directory (inode_of new q)
    directories-are = by-fileid (λ q. is_some (get directories_after q) ≡ is_directory (inode_of new q))
        (ap (λ o. is_some o) directory-entries ∙ sym (ap is_directory at-directory ∙ ap (λ o. is_some o) (parent-kept (directories_in m.made.kind) m.inode.kind)
        ∙ sym (ap is_directory there) ∙ sym (named.as_directories m.directory) ∙ ap (λ o. is_some o) entered))
        (ap (λ o. is_some o) made-entries ∙ made-some made_one ∙ sym (ap is_directory at-made))
        (λ q ne older. ap (λ o. is_some o) (other-entries q ne older) ∙ named.as_directories q ∙ sym (ap is_directory (at-other q ne older)))

    abbrev last : Listed
    last = entry_added m.name old.next m.entries

    last-counts : one_if (is_directory (inode_of new old.next)) ≡ directories_in m.made.kind
    last-counts = ap (λ o. one_if (is_directory o)) at-made

    last-child : IsChildOf new.inodes m.directory last
    last-child = subst (λ o. IfSome (parent_directory o) (λ parent. parent ≡ m.directory)) (sym at-made) is_new.parent

    fits-directory : DirectoryFits new.inodes m.directory entries_then
    fits-directory =
        let was = named.fits m.directory m.entries entered in
        let none = none-listed m.directory m.entries entered in
        let old_links : subdirectories_in m.inode.kind ≡ Some (directories_listed old.inodes m.entries.list) = sym (ap subdirectories_of there) ∙ was.links in
        record {
          list = added-is m.entries m.name old.next absent was.list;
          children = all-more (IsChildOf new.inodes m.directory) m.entries.list last
              (children-same m.directory m.entries.list none was.children) last-child;
          links =
              let more = counted-more (directories_in m.made.kind) (directories_listed old.inodes m.entries.list) m.inode.kind old_links in
              let sum : directories_listed new.inodes entries_then.list ≡ directories_listed old.inodes m.entries.list + directories_in m.made.kind =
              count-more (λ (e : Listed). is_directory (get new.inodes e.fileid)) m.entries.list last
              ∙ (let same = directories-same m.entries.list none in let one = last-counts in omega (arith, same, one)) in
              ap subdirectories_of at-directory ∙ more ∙ ap Some (sym sum);
        }

    fits-made : (o : Option ℕ) → parent_in m.made.kind ≡ o → (d : DirectoryValue) → (if is_some o then Some empty_directory else None) ≡ Some d
        → DirectoryFits new.inodes old.next d
    fits-made None says d e = absurd cc
    fits-made (Some parent) says d e =
        let same : empty_directory ≡ d = cc in
        let is = kinds.directory-is m.made.kind parent says in
        let none : is.0 ≡ 0 = subst (λ (k : InodeKind). IfSome (subdirectories_in k) (λ n. n ≡ 0)) is.1 is_new.alone in
        subst (DirectoryFits new.inodes old.next) same (record {
          list = record { cookies = omega arith; names = tt };
          children = tt;
          links = ap subdirectories_of at-made ∙ ap subdirectories_in is.1 ∙ ap Some none;
        })

    fits-other : (q : ℕ) (d : DirectoryValue) → (q == m.directory) ≡ false → (q == old.next) ≡ false → get directories q ≡ Some d
        → DirectoryFits new.inodes q d
    fits-other q d ne older e =
        let was = named.fits q d e in
        let none = none-listed q d e in
        record {
          list = was.list;
          children = children-same q d.list none was.children;
          links = ap subdirectories_of (at-other q ne older) ∙ was.links ∙ ap Some (sym (directories-same d.list none));
        }

    -- ---- how often each is named

    abbrev times_of : ℕ → ℕ × DirectoryValue → ℕ
    times_of q e = times_in_list q e.1.list

    first-times : (q : ℕ) (b : Bool) → total (times_of q) (entries (directories_if b)) ≡ times_named q directories
    first-times q false = refl
    first-times q true =
        let one = total-insert (times_of q) directories old.next empty_directory no-entries in
        omega (arith, one)

    first-there : get first_entries m.directory ≡ Some m.entries
    first-there = others-alone made_one m.directory apart ∙ entered

    -- once more for the new node alone
    times-after : (q : ℕ) → times_named q directories_after ≡ times_named q directories + one_if (old.next == q)
    times-after q =
        let set = total-set (times_of q) first_entries m.directory m.entries entries_then first-there in
        let first = first-times q made_one in
        let more = count-more (λ (e : Listed). e.fileid == q) m.entries.list last in
        omega (arith, set, first, more)

    root-apart : (root == old.next) ≡ false
    root-apart = ne_eqb root old.next (λ e.
        let gone : parent_directory (inode_of old root) ≡ None = ap (λ (k : ℕ). parent_directory (inode_of old k)) e ∙ ap parent_directory nothing in
        let is = named.root_there in
        absurd cc)

    made-is-no-root : (old.next == root) ≡ false
    made-is-no-root = ne_eqb old.next root (λ e.
        let gone : parent_directory (inode_of old root) ≡ None = ap (λ (k : ℕ). parent_directory (inode_of old k)) (sym e) ∙ ap parent_directory nothing in
        let is = named.root_there in
        absurd cc)

    counted-after : (q : ℕ) → times_named q directories_after ≡ names_of (inode_of new q)
    counted-after q = by (q == old.next) refl
      where
        by : (b : Bool) → (q == old.next) ≡ b → times_named q directories_after ≡ names_of (inode_of new q)
        by true e =
            let is : q ≡ old.next = eqb-true q old.next e in
            let here : times_named old.next directories_after ≡ 1 =
            (let after = times-after old.next in let none = none-named in let once : one_if (old.next == old.next) ≡ 1 = ap one_if (itself old.next) in
            omega (arith, after, none, once)) in
            ap (λ (k : ℕ). times_named k directories_after) is ∙ here ∙ sym (ap (λ (k : ℕ). names_of (inode_of new k)) is ∙ ap names_of at-made ∙ one)
        by false e =
            let other : one_if (old.next == q) ≡ 0 =
            ap one_if (ne_eqb old.next q (λ (h : old.next ≡ q). let t : (q == old.next) ≡ true = eq-eqb q old.next (sym h) in cc)) in
            let after = times-after q in
            let was = named.counted q in
            let same = names-same q e in
            omega (arith, other, after, was, same)

    once-after : (q : ℕ) → is_directory (inode_of new q) ≡ true → names_of (inode_of new q) ≡ one_if (not (q == root))
    once-after q h = by (q == old.next) refl
      where
        by : (b : Bool) → (q == old.next) ≡ b → names_of (inode_of new q) ≡ one_if (not (q == root))
        by true e =
            let is : q ≡ old.next = eqb-true q old.next e in
            ap (λ (k : ℕ). names_of (inode_of new k)) is ∙ ap names_of at-made ∙ one
            ∙ sym (ap (λ (k : ℕ). one_if (not (k == root))) is ∙ ap (λ (t : Bool). one_if (not t)) made-is-no-root)
        by false e = names-same q e ∙ named.once q (sym (ap (λ o. is_some o) (parent-same q e)) ∙ h)

    -- ---- the way to the root

    above-made : (n : ℕ) → directory_above old.inodes n old.next ≡ old.next
    above-made zero = refl
    above-made (suc n) = ap (λ o. directory_above old.inodes n (parent_or (parent_directory o) old.next)) nothing ∙ above-made n

    above-same : (n q : ℕ) → directory_above old.inodes n q ≡ root → directory_above new.inodes n q ≡ root
    above-same zero q h = h
    above-same (suc n) q h = by (q == old.next) refl (above-same n)
      where
        by : (b : Bool) → (q == old.next) ≡ b → ((r : ℕ) → directory_above old.inodes n r ≡ root → directory_above new.inodes n r ≡ root)
            → directory_above new.inodes (suc n) q ≡ root
        by true e further =
            let is : q ≡ old.next = eqb-true q old.next e in
            let never : old.next ≡ root = sym (above-made (suc n)) ∙ ap (directory_above old.inodes (suc n)) (sym is) ∙ h in
            let t : (old.next == root) ≡ true = eq-eqb old.next root never in
            let f = made-is-no-root in
            absurd cc
        by false e further =
            ap (λ o. directory_above new.inodes n (parent_or o q)) (parent-same q e)
            ∙ further (parent_or (parent_directory (inode_of old q)) q) h

    rooted-directory : (steps : ℕ) × (directory_above new.inodes steps m.directory ≡ root)
    rooted-directory =
        let as_directory : is_directory (inode_of old m.directory) ≡ true = sym (named.as_directories m.directory) ∙ ap (λ o. is_some o) entered in
        let reaches = named.rooted m.directory as_directory in
        (reaches.0, above-same reaches.0 m.directory reaches.1)

    rooted-made : (o : Option ℕ) → parent_in m.made.kind ≡ o → is_directory (inode_of new old.next) ≡ true
        → (steps : ℕ) × (directory_above new.inodes steps old.next ≡ root)
    rooted-made None says h =
        let none : is_directory (inode_of new old.next) ≡ false = ap is_directory at-made ∙ ap (λ o. is_some o) says in
        absurd cc
    rooted-made (Some parent) says h =
        let own : parent ≡ m.directory = subst (λ o. IfSome o (λ parent. parent ≡ m.directory)) says is_new.parent in
        let up : parent_directory (inode_of new old.next) ≡ Some m.directory = ap parent_directory at-made ∙ says ∙ ap Some own in
        let reaches = rooted-directory in
        (suc reaches.0, ap (λ o. directory_above new.inodes reaches.0 (parent_or o old.next)) up ∙ reaches.1)

    -- ---- all of it

    -- names are lawful again
    pub named-made : AreNamed new.inodes directories_after
    named-made = record {
      root_there = parent-same root root-apart ∙ named.root_there;
      as_directories = directories-are;
      fits = by-fileid (λ q. (d : DirectoryValue) → get directories_after q ≡ Some d → DirectoryFits new.inodes q d)
          (λ d e. let same : entries_then ≡ d = (let was = directory-entries in cc) in subst (DirectoryFits new.inodes m.directory) same fits-directory)
          (λ d e. fits-made (parent_in m.made.kind) refl d (sym made-entries ∙ e))
          (λ q ne older d e. fits-other q d ne older (sym (other-entries q ne older) ∙ e));
      counted = counted-after;
      once = once-after;
      rooted = by-fileid (λ q. is_directory (inode_of new q) ≡ true → (steps : ℕ) × (directory_above new.inodes steps q ≡ root))
          (λ h. rooted-directory)
          (rooted-made (parent_in m.made.kind) refl)
          (λ q ne older h.
          let reaches = named.rooted q (sym (ap is_directory (at-other q ne older)) ∙ h) in
          (reaches.0, above-same reaches.0 q reaches.1));
    }
