-- Inodes and names after a node without entries loses its name: they are lawful again.
use Rattle.std.proofs.Common.{◌≡◌, ◌≢◌, ℕ, zero, suc, ◌+◌, ◌-◌, ◌<◌, ◌==◌, not, Bool, true, false, List, [], ◌∷◌, Option, Some, None}
use Rattle.std.proofs.Common.{refl, sym, ap, ◌∙◌, subst, arith, eq-eqb, ne_eqb}
use Rattle.std.specs.Prelude.{if◌then◌else◌, is_some, IfSome}
use Rattle.std.proofs.lemmas.Bool.{eqb-true}
use Rattle.std.specs.List.{AllByRecursion}
use Rattle.std.specs.Option.{option_map}
use Rattle.std.specs.Cmp.{nat_cmp_total}
use Rattle.std.specs.FinMap.{get, remove, entries, nat_cmp-IsAntisymmetric}
use Rattle.nfs_model.specs.Types.{Listed}
use Rattle.nfs_model.specs.Names.{find_name, without_name}
use Rattle.nfs_model.specs.Parts.{one_if}
use Rattle.depot_rule.specs.Sums.{total}
use Rattle.nfs_model.specs.volume.Directories.{DirectoryValue, removed, found}
use Rattle.nfs_model.specs.volume.Inodes.{InodeKind, Inode, InodesValue, filled_blocks, inode_of, inode_dropped}
use Rattle.nfs_model.specs.volume.lemmas.Inodes.{inode-dropped-there, inode-dropped-other, inode-set-there, inode-set-other}
use Rattle.nfs_model.specs.volume.lemmas.Numbered.{get-insert_at, get-remove_at, itself}
use Rattle.filer_state.specs.state.Names.{root, DirectoryMap, size_in, size_of, parent_in, parent_directory, subdirectories_in, subdirectories_of, is_directory, names_of}
use Rattle.filer_state.specs.state.Names.{parent_or, times_in_list, times_named, directories_listed, directory_above, DirectoryFits, AreNamed}
use Rattle.filer_state.specs.laws.lemmas.InodeKinds as kinds
use Rattle.filer_state.specs.laws.lemmas.Mapped.{entry-at-least, total-entries}
use Rattle.filer_state.specs.nodes.Making.{directories_in}
use Rattle.filer_state.specs.nodes.Dropping.{Dropping, without_subdirectories, directory_left, inodes_left, directories_left, entries_left}
use Rattle.filer_state.specs.nodes.Laws.{LosesName}
use Rattle.filer_state.specs.nodes.lemmas.Others as others
use Rattle.filer_state.specs.nodes.lemmas.Others.{IsChildOf}
use Rattle.filer_state.specs.nodes.lemmas.Summed.{total-split, total-set}
use Rattle.nfs_model.specs.volume.lemmas.Listing.{all-without, removed-is, count-without}

-- ---- kinds

pub parent-kept : (fewer : ℕ) (k : InodeKind) → parent_in (without_subdirectories fewer k) ≡ parent_in k
parent-kept fewer k = kinds.parent-kept (λ n. n - fewer) k

pub size-kept : (fewer : ℕ) (k : InodeKind) → size_in (without_subdirectories fewer k) ≡ size_in k
size-kept fewer k = kinds.size-changed (λ parent. parent) (λ n. n - fewer) k

pub blocks-kept : (fewer : ℕ) (k : InodeKind) → filled_blocks (without_subdirectories fewer k) ≡ filled_blocks k
blocks-kept fewer k = kinds.blocks-changed (λ parent. parent) (λ n. n - fewer) k

pub counted-less : (fewer n : ℕ) (k : InodeKind) → subdirectories_in k ≡ Some n → subdirectories_in (without_subdirectories fewer k) ≡ Some (n - fewer)
counted-less fewer n k e = kinds.count-changed (λ parent. parent) (λ n. n - fewer) k ∙ ap (option_map (λ n. n - fewer)) e

module _ (old : InodesValue) (directories : DirectoryMap) (m : Dropping) (may : LosesName m old directories) where
  abbrev new : InodesValue
  new = inodes_left m old

  apart-is : m.directory ≢ m.fileid
  apart-is e =
      let none : m.entries.list ≡ [] = may.empty m.entries (ap (get directories) (sym e) ∙ may.entered) in
      let gone : found m.entries m.name ≡ None = ap (find_name m.name) none in
      let is = may.found_there in
      absurd cc

  pub apart : (m.directory == m.fileid) ≡ false
  apart = ne_eqb m.directory m.fileid apart-is

  pub apart-turned : (m.fileid == m.directory) ≡ false
  apart-turned = ne_eqb m.fileid m.directory (λ e. apart-is (sym e))

  -- what is found under each fileid
  pub there-still : inode_of (inode_dropped m.fileid old) m.directory ≡ Some m.inode
  there-still = inode-dropped-other old m.fileid m.directory apart ∙ may.there

  pub at-directory : inode_of new m.directory ≡ Some (directory_left m)
  at-directory = inode-set-there (inode_dropped m.fileid old) m.directory m.inode (directory_left m) there-still

  pub at-dropped : inode_of new m.fileid ≡ None
  at-dropped = inode-set-other (inode_dropped m.fileid old) m.directory (directory_left m) m.fileid apart-turned ∙ inode-dropped-there old m.fileid

  pub at-other : (q : ℕ) → (q == m.directory) ≡ false → (q == m.fileid) ≡ false → inode_of new q ≡ inode_of old q
  at-other q ne left = inode-set-other (inode_dropped m.fileid old) m.directory (directory_left m) q ne ∙ inode-dropped-other old m.fileid q left

  -- by which of them a fileid is
  pub by-fileid : (P : ℕ → Type 0) → P m.directory → P m.fileid → ((q : ℕ) → (q == m.directory) ≡ false → (q == m.fileid) ≡ false → P q) → (q : ℕ) → P q
  by-fileid = others.by-two m.directory m.fileid

  -- an inode that stays shows the same parent and size
  pub parent-same : (q : ℕ) → (q == m.fileid) ≡ false → parent_directory (inode_of new q) ≡ parent_directory (inode_of old q)
  parent-same q left = by (q == m.directory) refl
    where
      by : (b : Bool) → (q == m.directory) ≡ b → parent_directory (inode_of new q) ≡ parent_directory (inode_of old q)
      by true e =
          let is : q ≡ m.directory = eqb-true q m.directory e in
          ap (λ (k : ℕ). parent_directory (inode_of new k)) is ∙ ap parent_directory at-directory
          ∙ parent-kept (directories_in m.dropped.kind) m.inode.kind
          ∙ sym (ap (λ (k : ℕ). parent_directory (inode_of old k)) is ∙ ap parent_directory may.there)
      by false e = ap parent_directory (at-other q e left)

  pub size-same : (q : ℕ) → (q == m.fileid) ≡ false → size_of (inode_of new q) ≡ size_of (inode_of old q)
  size-same q left = by (q == m.directory) refl
    where
      by : (b : Bool) → (q == m.directory) ≡ b → size_of (inode_of new q) ≡ size_of (inode_of old q)
      by true e =
          let is : q ≡ m.directory = eqb-true q m.directory e in
          ap (λ (k : ℕ). size_of (inode_of new k)) is ∙ ap size_of at-directory
          ∙ size-kept (directories_in m.dropped.kind) m.inode.kind
          ∙ sym (ap (λ (k : ℕ). size_of (inode_of old k)) is ∙ ap size_of may.there)
      by false e = ap size_of (at-other q e left)

  names-same : (q : ℕ) → (q == m.fileid) ≡ false → names_of (inode_of new q) ≡ names_of (inode_of old q)
  names-same q left = by (q == m.directory) refl
    where
      by : (b : Bool) → (q == m.directory) ≡ b → names_of (inode_of new q) ≡ names_of (inode_of old q)
      by true e =
          let is : q ≡ m.directory = eqb-true q m.directory e in
          ap (λ (k : ℕ). names_of (inode_of new k)) is ∙ ap names_of at-directory
          ∙ sym (ap (λ (k : ℕ). names_of (inode_of old k)) is ∙ ap names_of may.there)
      by false e = ap names_of (at-other q e left)

  -- ---- lists in which the fileid doesn't stand

  directories-same : (list : List Listed) → times_in_list m.fileid list ≡ 0 → directories_listed new.inodes list ≡ directories_listed old.inodes list
  directories-same list none = others.directories-same new.inodes old.inodes m.fileid parent-same list none

  children-same : (fileid : ℕ) (list : List Listed) → times_in_list m.fileid list ≡ 0
      → AllByRecursion (IsChildOf old.inodes fileid) list → AllByRecursion (IsChildOf new.inodes fileid) list
  children-same fileid list none all = others.children-same new.inodes old.inodes m.fileid parent-same fileid list none all

  -- ---- directories

  abbrev directories_after : DirectoryMap
  directories_after = entries_left m directories

  module _ (named : AreNamed old.inodes directories) where
    abbrev times_of : ℕ → ℕ × DirectoryValue → ℕ
    times_of q e = times_in_list q e.1.list

    abbrev list_left : List Listed
    list_left = without_name m.name m.entries.list

    -- how often a fileid stands in what is left of the directory
    times-left : (q : ℕ) → times_in_list q list_left + one_if (m.fileid == q) ≡ times_in_list q m.entries.list
    times-left q =
        let all = count-without (λ (e : Listed). e.fileid == q) m.name m.entries.list may.entry
        (named.fits m.directory m.entries may.entered).list.names may.found_there in
        let same : one_if (may.entry.fileid == q) ≡ one_if (m.fileid == q) = ap (λ (x : ℕ). one_if (x == q)) may.is in
        omega (arith, all, same)

    names-before : times_named m.fileid directories ≡ m.dropped.names
    names-before = named.counted m.fileid ∙ ap names_of may.node

    some-listed : 0 < times_in_list m.fileid m.entries.list
    some-listed = let all = times-left m.fileid in let one : one_if (m.fileid == m.fileid) ≡ 1 = ap one_if (itself m.fileid) in omega (arith, all, one)

    -- it isn't the root, since it has a name
    no-root : (m.fileid == root) ≡ false
    no-root = by (m.fileid == root) refl
      where
        by : (b : Bool) → (m.fileid == root) ≡ b → b ≡ false
        by true e =
            let some = some-listed in
            let most = entry-at-least nat_cmp-IsAntisymmetric (times_of m.fileid) directories m.directory m.entries may.entered in
            let once : times_named m.fileid directories ≡ 0 = ap (λ (k : ℕ). times_named k directories) (eqb-true m.fileid root e)
            ∙ named.counted root ∙ named.once root (ap (λ o. is_some o) named.root_there) in
            absurd (omega (arith, some, most, once))
        by false e = refl

    once-is : times_named m.fileid directories ≡ 1
    once-is =
        let some = some-listed in
        let most = entry-at-least nat_cmp-IsAntisymmetric (times_of m.fileid) directories m.directory m.entries may.entered in
        let before = names-before in
        let last = may.last in
        omega (arith, some, most, before, last)

    none-left : times_in_list m.fileid list_left ≡ 0
    none-left =
        let all = times-left m.fileid in
        let one : one_if (m.fileid == m.fileid) ≡ 1 = ap one_if (itself m.fileid) in
        let most = entry-at-least nat_cmp-IsAntisymmetric (times_of m.fileid) directories m.directory m.entries may.entered in
        let once = once-is in
        omega (arith, all, one, most, once)

    -- it stands in no other directory
    none-listed : (q : ℕ) (d : DirectoryValue) → (q == m.directory) ≡ false → get directories q ≡ Some d → times_in_list m.fileid d.list ≡ 0
    none-listed q d ne e =
        let split = total-split (times_of m.fileid) directories m.directory m.entries may.entered in
        let some = some-listed in
        let once = once-is in
        let still : get (remove directories m.directory) q ≡ Some d =
        get-remove_at directories m.directory q ∙ ap (λ (b : Bool). if b then None else get directories q) ne ∙ e in
        let most = entry-at-least nat_cmp-IsAntisymmetric (times_of m.fileid) (remove directories m.directory) q d still in
        omega (arith, split, some, once, most)

    -- ---- what is found of the directories

    dropped-directory : is_some (get directories m.fileid) ≡ is_some (parent_in m.dropped.kind)
    dropped-directory = named.as_directories m.fileid ∙ ap is_directory may.node

    abbrev first_entries : DirectoryMap
    first_entries = directories_left m.dropped.kind m.fileid directories

    none-is : (o : Option DirectoryValue) → is_some o ≡ false → o ≡ None
    none-is None e = refl
    none-is (Some d) e = absurd cc

    -- the directories without the node's entries, if it is one
    abbrev directories_if : Bool → DirectoryMap
    directories_if b = if b then remove directories m.fileid else directories

    abbrev dropped_one : Bool
    dropped_one = is_some (parent_in m.dropped.kind)

    dropped-alone : (b : Bool) → is_some (get directories m.fileid) ≡ b → get (directories_if b) m.fileid ≡ None
    dropped-alone false e = none-is (get directories m.fileid) e
    dropped-alone true e =
        get-remove_at directories m.fileid m.fileid ∙ ap (λ (b : Bool). if b then None else get directories m.fileid) (itself m.fileid)

    others-alone : (b : Bool) (q : ℕ) → (q == m.fileid) ≡ false → get (directories_if b) q ≡ get directories q
    others-alone false q left = refl
    others-alone true q left = get-remove_at directories m.fileid q ∙ ap (λ (b : Bool). if b then None else get directories q) left

    found-at : (q : ℕ) → get directories_after q ≡ (if q == m.directory then Some (removed m.name m.entries) else get first_entries q)
    found-at q = get-insert_at first_entries m.directory (removed m.name m.entries) q

    pub directory-entries : get directories_after m.directory ≡ Some (removed m.name m.entries)
    directory-entries =
        found-at m.directory ∙ ap (λ (b : Bool). if b then Some (removed m.name m.entries) else get first_entries m.directory) (itself m.directory)

    pub dropped-entries : get directories_after m.fileid ≡ None
    dropped-entries =
        found-at m.fileid ∙ ap (λ (b : Bool). if b then Some (removed m.name m.entries) else get first_entries m.fileid) apart-turned
        ∙ dropped-alone dropped_one dropped-directory

    pub other-entries : (q : ℕ) → (q == m.directory) ≡ false → (q == m.fileid) ≡ false → get directories_after q ≡ get directories q
    other-entries q ne left =
        found-at q ∙ ap (λ (b : Bool). if b then Some (removed m.name m.entries) else get first_entries q) ne ∙ others-alone dropped_one q left

    -- ---- what holds of each

    directories-are : (q : ℕ) → is_some (get directories_after q) ≡ is_directory (inode_of new q)
    directories-are = by-fileid (λ q. is_some (get directories_after q) ≡ is_directory (inode_of new q))
        (ap (λ o. is_some o) directory-entries
        ∙ sym (ap is_directory at-directory ∙ ap (λ o. is_some o) (parent-kept (directories_in m.dropped.kind) m.inode.kind)
        ∙ sym (ap is_directory may.there) ∙ sym (named.as_directories m.directory) ∙ ap (λ o. is_some o) may.entered))
        (ap (λ o. is_some o) dropped-entries ∙ sym (ap is_directory at-dropped))
        (λ q ne left. ap (λ o. is_some o) (other-entries q ne left) ∙ named.as_directories q ∙ sym (ap is_directory (at-other q ne left)))

    entry-counts : one_if (is_directory (inode_of old may.entry.fileid)) ≡ directories_in m.dropped.kind
    entry-counts =
        ap (λ (x : ℕ). one_if (is_directory (inode_of old x))) may.is ∙ ap (λ o. one_if (is_directory o)) may.node

    fits-directory : DirectoryFits new.inodes m.directory (removed m.name m.entries)
    fits-directory =
        let was = named.fits m.directory m.entries may.entered in
        let old_links : subdirectories_in m.inode.kind ≡ Some (directories_listed old.inodes m.entries.list) =
        sym (ap subdirectories_of may.there) ∙ was.links in
        record {
          list = removed-is m.entries m.name was.list;
          children = children-same m.directory list_left none-left (all-without (IsChildOf old.inodes m.directory) m.name m.entries.list was.children);
          links =
              let less = counted-less (directories_in m.dropped.kind) (directories_listed old.inodes m.entries.list) m.inode.kind old_links in
              let all = count-without (λ (e : Listed). is_directory (get old.inodes e.fileid)) m.name m.entries.list may.entry
              was.list.names may.found_there in
              let one = entry-counts in
              let same = directories-same list_left none-left in
              let sum : directories_listed old.inodes m.entries.list - directories_in m.dropped.kind ≡ directories_listed new.inodes list_left =
              omega (arith, all, one, same) in
              ap subdirectories_of at-directory ∙ less ∙ ap Some sum;
        }

    fits-other : (q : ℕ) (d : DirectoryValue) → (q == m.directory) ≡ false → (q == m.fileid) ≡ false → get directories q ≡ Some d
        → DirectoryFits new.inodes q d
    fits-other q d ne left e =
        let was = named.fits q d e in
        let none = none-listed q d ne e in
        record {
          list = was.list;
          children = children-same q d.list none was.children;
          links = ap subdirectories_of (at-other q ne left) ∙ was.links ∙ ap Some (sym (directories-same d.list none));
        }

    -- ---- how often each is named

    first-times : (q : ℕ) (b : Bool) → is_some (get directories m.fileid) ≡ b → total (times_of q) (entries (directories_if b)) ≡ times_named q directories
    first-times q false e = refl
    first-times q true e = by (get directories m.fileid) refl e
      where
        by : (o : Option DirectoryValue) → get directories m.fileid ≡ o → is_some (get directories m.fileid) ≡ true
            → total (times_of q) (entries (remove directories m.fileid)) ≡ times_named q directories
        by None is some = let none : is_some (get directories m.fileid) ≡ false = ap (λ x. is_some x) is in absurd cc
        by (Some d) is some =
            let split = total-split (times_of q) directories m.fileid d is in
            let none : times_in_list q d.list ≡ 0 = ap (times_in_list q) (may.empty d is) in
            omega (arith, split, none)

    first-there : get first_entries m.directory ≡ Some m.entries
    first-there = others-alone dropped_one m.directory apart ∙ may.entered

    times-after : (q : ℕ) → times_named q directories_after + one_if (m.fileid == q) ≡ times_named q directories
    times-after q =
        let set = total-set (times_of q) first_entries m.directory m.entries (removed m.name m.entries) first-there in
        let first = first-times q dropped_one dropped-directory in
        let left = times-left q in
        omega (arith, set, first, left)

    counted-after : (q : ℕ) → times_named q directories_after ≡ names_of (inode_of new q)
    counted-after q = by (q == m.fileid) refl
      where
        by : (b : Bool) → (q == m.fileid) ≡ b → times_named q directories_after ≡ names_of (inode_of new q)
        by true e =
            let is : q ≡ m.fileid = eqb-true q m.fileid e in
            let here : times_named m.fileid directories_after ≡ 0 =
            (let after = times-after m.fileid in let once = once-is in let one : one_if (m.fileid == m.fileid) ≡ 1 = ap one_if (itself m.fileid) in
            omega (arith, after, once, one)) in
            ap (λ (k : ℕ). times_named k directories_after) is ∙ here ∙ sym (ap (λ (k : ℕ). names_of (inode_of new k)) is ∙ ap names_of at-dropped)
        by false e =
            let other : one_if (m.fileid == q) ≡ 0 =
            ap one_if (ne_eqb m.fileid q (λ (h : m.fileid ≡ q). let t : (q == m.fileid) ≡ true = eq-eqb q m.fileid (sym h) in cc)) in
            let after = times-after q in
            let was = named.counted q in
            let same = names-same q e in
            omega (arith, other, after, was, same)

    once-after : (q : ℕ) → is_directory (inode_of new q) ≡ true → names_of (inode_of new q) ≡ one_if (not (q == root))
    once-after q h = by (q == m.fileid) refl
      where
        by : (b : Bool) → (q == m.fileid) ≡ b → names_of (inode_of new q) ≡ one_if (not (q == root))
        by true e =
            let none : is_directory (inode_of new q) ≡ false =
            ap (λ (k : ℕ). is_directory (inode_of new k)) (eqb-true q m.fileid e) ∙ ap is_directory at-dropped in
            absurd cc
        by false e = names-same q e ∙ named.once q (sym (ap (λ o. is_some o) (parent-same q e)) ∙ h)

    -- ---- the way to the root

    -- where the fileid is the parent of another, this other stands in no directory
    module _ (q : ℕ) (parent : parent_directory (inode_of old q) ≡ Some m.fileid) where
      in-other : (x : ℕ) → (x == m.fileid) ≡ false → (list : List Listed) → AllByRecursion (IsChildOf old.inodes x) list → times_in_list q list ≡ 0
      in-other x left [] all = refl
      in-other x left (e ∷ list) all = by (e.fileid == q) refl (in-other x left list all.1)
        where
          by : (b : Bool) → (e.fileid == q) ≡ b → times_in_list q list ≡ 0 → one_if b + times_in_list q list ≡ 0
          by true is others =
              let says : IfSome (parent_directory (inode_of old q)) (λ p. p ≡ x) =
              subst (λ (k : ℕ). IfSome (parent_directory (get old.inodes k)) (λ p. p ≡ x)) (eqb-true e.fileid q is) all.0 in
              let same : m.fileid ≡ x = subst (λ o. IfSome o (λ p. p ≡ x)) parent says in
              let test : (x == m.fileid) ≡ true = eq-eqb x m.fileid (sym same) in
              absurd cc
          by false is others = omega (arith, others)

      in-each : (x : ℕ) (d : DirectoryValue) → get directories x ≡ Some d → times_in_list q d.list ≡ 0
      in-each x d e = by (x == m.fileid) refl
        where
          by : (b : Bool) → (x == m.fileid) ≡ b → times_in_list q d.list ≡ 0
          by true is = ap (times_in_list q) (may.empty d (sym (ap (get directories) (eqb-true x m.fileid is)) ∙ e))
          by false is = in-other x is d.list (named.fits x d e).children

      never-named : times_named q directories ≡ 0
      never-named =
          total-entries nat_cmp_total nat_cmp-IsAntisymmetric (times_of q) (λ (x : ℕ × DirectoryValue). 0) directories in-each
          ∙ zero-total (entries directories)
        where
          zero-total : (es : List (ℕ × DirectoryValue)) → total (λ (x : ℕ × DirectoryValue). 0) es ≡ 0
          zero-total [] = refl
          zero-total (e ∷ es) = let others = zero-total es in omega (arith, others)

      is-root : (q == root) ≡ true
      is-root = by (q == root) refl
        where
          by : (b : Bool) → (q == root) ≡ b → b ≡ true
          by true is = refl
          by false is =
              let once : times_named q directories ≡ 1 = named.counted q ∙ named.once q (ap (λ o. is_some o) parent)
              ∙ ap (λ (t : Bool). one_if (not t)) is in
              let never = never-named in
              absurd (omega (arith, once, never))

      no-child : m.fileid ≡ root
      no-child =
          let here : parent_directory (inode_of old root) ≡ Some m.fileid =
          ap (λ (k : ℕ). parent_directory (inode_of old k)) (sym (eqb-true q root is-root)) ∙ parent in
          let was = named.root_there in
          cc

    not-parent : (q : ℕ) (o : Option ℕ) → parent_directory (inode_of old q) ≡ o → (q == m.fileid) ≡ false → (parent_or o q == m.fileid) ≡ false
    not-parent q None e left = left
    not-parent q (Some parent) e left = ne_eqb parent m.fileid (λ is.
        let here : m.fileid ≡ root = no-child q (e ∙ ap Some is) in
        let test : (m.fileid == root) ≡ true = eq-eqb m.fileid root here in
        let f = no-root in
        cc)

    above-same : (n q : ℕ) → (q == m.fileid) ≡ false → directory_above new.inodes n q ≡ directory_above old.inodes n q
    above-same zero q left = refl
    above-same (suc n) q left =
        ap (λ o. directory_above new.inodes n (parent_or o q)) (parent-same q left)
        ∙ above-same n (parent_or (parent_directory (inode_of old q)) q) (not-parent q (parent_directory (inode_of old q)) refl left)

    rooted-still : (q : ℕ) → (q == m.fileid) ≡ false → is_directory (inode_of old q) ≡ true → (steps : ℕ) × (directory_above new.inodes steps q ≡ root)
    rooted-still q left as_directory = let reaches = named.rooted q as_directory in (reaches.0, above-same reaches.0 q left ∙ reaches.1)

    -- ---- all of it

    -- names are lawful again
    pub named-left : AreNamed new.inodes directories_after
    named-left = record {
      root_there = parent-same root root-stays ∙ named.root_there;
      as_directories = directories-are;
      fits = by-fileid (λ q. (d : DirectoryValue) → get directories_after q ≡ Some d → DirectoryFits new.inodes q d)
          (λ d e. let same : removed m.name m.entries ≡ d = (let was = directory-entries in cc) in
          subst (DirectoryFits new.inodes m.directory) same fits-directory)
          (λ d e. let none = dropped-entries in absurd cc)
          (λ q ne left d e. fits-other q d ne left (sym (other-entries q ne left) ∙ e));
      counted = counted-after;
      once = once-after;
      rooted = by-fileid (λ q. is_directory (inode_of new q) ≡ true → (steps : ℕ) × (directory_above new.inodes steps q ≡ root))
          (λ h. rooted-still m.directory apart (sym (named.as_directories m.directory) ∙ ap (λ o. is_some o) may.entered))
          (λ h. let none : is_directory (inode_of new m.fileid) ≡ false = ap is_directory at-dropped in absurd cc)
          (λ q ne left h. rooted-still q left (sym (ap is_directory (at-other q ne left)) ∙ h));
    }
      where
        root-stays : (root == m.fileid) ≡ false
        root-stays = ne_eqb root m.fileid (λ e. let test : (m.fileid == root) ≡ true = eq-eqb m.fileid root (sym e) in let f = no-root in cc)
