-- Names after an entry is taken, while its node has no name.
use Rattle.std.proofs.Common.{◌≡◌, ℕ, zero, suc, ◌+◌, ◌-◌, ◌==◌, not, Bool, true, false, List, [], ◌∷◌, Some}
use Rattle.std.proofs.Common.{refl, sym, ap, ◌∙◌, subst, arith, eq-eqb, ne_eqb}
use Rattle.std.specs.Prelude.{if◌then◌else◌, is_some, IfSome}
use Rattle.std.proofs.lemmas.Bool.{eqb-true}
use Rattle.std.specs.List.{AllByRecursion}
use Rattle.std.specs.FinMap.{get}
use Rattle.nfs_model.specs.Types.{Listed}
use Rattle.nfs_model.specs.Names.{without_name}
use Rattle.nfs_model.specs.Parts.{one_if}
use Rattle.nfs_model.specs.volume.Directories.{DirectoryValue, removed}
use Rattle.nfs_model.specs.volume.Inodes.{Inode, InodesValue, inode_of}
use Rattle.nfs_model.specs.volume.lemmas.Inodes.{inode-set-there, inode-set-other}
use Rattle.nfs_model.specs.volume.lemmas.Numbered.{get-insert_at, itself}
use Rattle.filer_state.specs.state.Names.{root, InodeMap, DirectoryMap, parent_directory, subdirectories_in, subdirectories_of, names_of}
use Rattle.filer_state.specs.state.Names.{is_directory, parent_or, times_in_list, times_named, directories_listed, directory_above, DirectoryFits}
use Rattle.filer_state.specs.state.Names.{ReachesRoot, AreNamed}
use Rattle.filer_state.specs.nodes.Making.{directories_in}
use Rattle.filer_state.specs.nodes.Dropping.{without_subdirectories}
use Rattle.filer_state.specs.nodes.Moving.{Naming, dated_inode, inodes_untied, entries_untied}
use Rattle.filer_state.specs.nodes.Laws.{StandsUnder}
use Rattle.filer_state.specs.nodes.lemmas.Others as others
use Rattle.filer_state.specs.nodes.lemmas.Others.{IsChildOf}
use Rattle.filer_state.specs.nodes.lemmas.Summed.{total-set}
use Rattle.nfs_model.specs.volume.lemmas.Listing.{all-without, removed-is, count-without}
use Rattle.filer_state.specs.nodes.lemmas.Unnamed.{parent-kept, counted-less}

-- names are lawful, but that one node has one less than this many
pub record AreNamedBut (fileid names : ℕ) (inodes : InodeMap) (directories : DirectoryMap) : Type 0 where
  pub root_there : parent_directory (get inodes root) ≡ Some root
  pub as_directories : (q : ℕ) → is_some (get directories q) ≡ is_directory (get inodes q)
  pub fits : (q : ℕ) (d : DirectoryValue) → get directories q ≡ Some d → DirectoryFits inodes q d
  pub counted : (q : ℕ) → (q == fileid) ≡ false → times_named q directories ≡ names_of (get inodes q)
  pub one_less : times_named fileid directories + 1 ≡ names
  pub once : (q : ℕ) → is_directory (get inodes q) ≡ true → names_of (get inodes q) ≡ one_if (not (q == root))
  pub last : is_directory (get inodes fileid) ≡ true → names ≡ 1
  pub rooted : (q : ℕ) → is_directory (get inodes q) ≡ true → ReachesRoot inodes q

module _ (old : InodesValue) (directories : DirectoryMap) (m : Naming) (stands : StandsUnder m old directories) where
  abbrev new : InodesValue
  new = inodes_untied m old

  abbrev next_inode : Inode
  next_inode = dated_inode m.moment (without_subdirectories (directories_in m.node.kind) m.inode.kind) m.inode

  abbrev directories_after : DirectoryMap
  directories_after = entries_untied m directories

  pub untied-directory : inode_of new m.directory ≡ Some next_inode
  untied-directory = inode-set-there old m.directory m.inode next_inode stands.there

  pub untied-other : (q : ℕ) → (q == m.directory) ≡ false → inode_of new q ≡ inode_of old q
  untied-other q ne = inode-set-other old m.directory next_inode q ne

  by-fileid : (P : ℕ → Type 0) → P m.directory → ((q : ℕ) → (q == m.directory) ≡ false → P q) → (q : ℕ) → P q
  by-fileid = others.by-one m.directory

  parent-same : (q : ℕ) → parent_directory (inode_of new q) ≡ parent_directory (inode_of old q)
  parent-same = by-fileid (λ q. parent_directory (inode_of new q) ≡ parent_directory (inode_of old q))
      (ap parent_directory untied-directory ∙ parent-kept (directories_in m.node.kind) m.inode.kind ∙ sym (ap parent_directory stands.there))
      (λ q ne. ap parent_directory (untied-other q ne))

  pub names-same : (q : ℕ) → names_of (inode_of new q) ≡ names_of (inode_of old q)
  names-same = by-fileid (λ q. names_of (inode_of new q) ≡ names_of (inode_of old q))
      (ap names_of untied-directory ∙ sym (ap names_of stands.there))
      (λ q ne. ap names_of (untied-other q ne))

  directories-same : (list : List Listed) → directories_listed new.inodes list ≡ directories_listed old.inodes list
  directories-same [] = refl
  directories-same (e ∷ list) =
      let here : one_if (is_directory (inode_of new e.fileid)) ≡ one_if (is_directory (inode_of old e.fileid)) =
      ap (λ o. one_if (is_some o)) (parent-same e.fileid) in
      let others = directories-same list in
      omega (arith, here, others)

  children-same : (fileid : ℕ) (list : List Listed) → AllByRecursion (IsChildOf old.inodes fileid) list → AllByRecursion (IsChildOf new.inodes fileid) list
  children-same = others.children-alike new.inodes old.inodes parent-same

  above-same : (n q : ℕ) → directory_above new.inodes n q ≡ directory_above old.inodes n q
  above-same zero q = refl
  above-same (suc n) q =
      ap (λ o. directory_above new.inodes n (parent_or o q)) (parent-same q)
      ∙ above-same n (parent_or (parent_directory (inode_of old q)) q)

  found-at : (q : ℕ) → get directories_after q ≡ (if q == m.directory then Some (removed m.name m.entries) else get directories q)
  found-at q = get-insert_at directories m.directory (removed m.name m.entries) q

  pub untied-entries : get directories_after m.directory ≡ Some (removed m.name m.entries)
  untied-entries =
      found-at m.directory ∙ ap (λ (b : Bool). if b then Some (removed m.name m.entries) else get directories m.directory) (itself m.directory)

  pub untied-others : (q : ℕ) → (q == m.directory) ≡ false → get directories_after q ≡ get directories q
  untied-others q ne = found-at q ∙ ap (λ (b : Bool). if b then Some (removed m.name m.entries) else get directories q) ne

  module _ (named : AreNamed old.inodes directories) where
    abbrev times_of : ℕ → ℕ × DirectoryValue → ℕ
    times_of q e = times_in_list q e.1.list

    times-left : (q : ℕ) → times_in_list q (without_name m.name m.entries.list) + one_if (m.fileid == q) ≡ times_in_list q m.entries.list
    times-left q =
        let all = count-without (λ (e : Listed). e.fileid == q) m.name m.entries.list stands.entry
        (named.fits m.directory m.entries stands.entered).list.names stands.found_there in
        let same : one_if (stands.entry.fileid == q) ≡ one_if (m.fileid == q) = ap (λ (x : ℕ). one_if (x == q)) stands.is in
        omega (arith, all, same)

    times-after : (q : ℕ) → times_named q directories_after + one_if (m.fileid == q) ≡ times_named q directories
    times-after q =
        let set = total-set (times_of q) directories m.directory m.entries (removed m.name m.entries) stands.entered in
        let left = times-left q in
        omega (arith, set, left)

    -- a node that has a name isn't the root
    pub no-root : (m.fileid == root) ≡ false
    no-root = by (m.fileid == root) refl
      where
        by : (b : Bool) → (m.fileid == root) ≡ b → b ≡ false
        by true e =
            let left = times-after m.fileid in
            let one : one_if (m.fileid == m.fileid) ≡ 1 = ap one_if (itself m.fileid) in
            let is : m.fileid ≡ root = eqb-true m.fileid root e in
            let none : times_named m.fileid directories ≡ 0 = ap (λ (k : ℕ). times_named k directories) is ∙ named.counted root
            ∙ named.once root (ap (λ o. is_some o) named.root_there) in
            absurd (omega (arith, left, one, none))
        by false e = refl

    less-after : times_named m.fileid directories_after + 1 ≡ m.node.names
    less-after =
        let left = times-after m.fileid in
        let one : one_if (m.fileid == m.fileid) ≡ 1 = ap one_if (itself m.fileid) in
        let counted : times_named m.fileid directories ≡ m.node.names = named.counted m.fileid ∙ ap names_of stands.node in
        omega (arith, left, one, counted)

    counted-after : (q : ℕ) → (q == m.fileid) ≡ false → times_named q directories_after ≡ names_of (inode_of new q)
    counted-after q e =
        let other : one_if (m.fileid == q) ≡ 0 =
        ap one_if (ne_eqb m.fileid q (λ (h : m.fileid ≡ q). let t : (q == m.fileid) ≡ true = eq-eqb q m.fileid (sym h) in cc)) in
        let left = times-after q in
        let was = named.counted q in
        let same = names-same q in
        omega (arith, other, left, was, same)

    once-after : (q : ℕ) → is_directory (inode_of new q) ≡ true → names_of (inode_of new q) ≡ one_if (not (q == root))
    once-after q e = names-same q ∙ named.once q (sym (ap (λ o. is_some o) (parent-same q)) ∙ e)

    last-after : is_directory (inode_of new m.fileid) ≡ true → m.node.names ≡ 1
    last-after e =
        sym (ap names_of stands.node) ∙ named.once m.fileid (sym (ap (λ o. is_some o) (parent-same m.fileid)) ∙ e)
        ∙ ap (λ (t : Bool). one_if (not t)) no-root

    fits-directory : DirectoryFits new.inodes m.directory (removed m.name m.entries)
    fits-directory =
        let was = named.fits m.directory m.entries stands.entered in
        let old_links : subdirectories_in m.inode.kind ≡ Some (directories_listed old.inodes m.entries.list) =
        sym (ap subdirectories_of stands.there) ∙ was.links in
        record {
          list = removed-is m.entries m.name was.list;
          children = children-same m.directory (without_name m.name m.entries.list)
              (all-without (IsChildOf old.inodes m.directory) m.name m.entries.list was.children);
          links =
              let less = counted-less (directories_in m.node.kind) (directories_listed old.inodes m.entries.list) m.inode.kind old_links in
              let all = count-without (λ (e : Listed). is_directory (get old.inodes e.fileid)) m.name m.entries.list stands.entry
              was.list.names stands.found_there in
              let one : one_if (is_directory (inode_of old stands.entry.fileid)) ≡ directories_in m.node.kind =
              ap (λ (x : ℕ). one_if (is_directory (inode_of old x))) stands.is ∙ ap (λ o. one_if (is_directory o)) stands.node in
              let same = directories-same (without_name m.name m.entries.list) in
              let sum : directories_listed old.inodes m.entries.list - directories_in m.node.kind
              ≡ directories_listed new.inodes (without_name m.name m.entries.list) = omega (arith, all, one, same) in
              ap subdirectories_of untied-directory ∙ less ∙ ap Some sum;
        }

    -- names are lawful but for the node
    pub named-untied : AreNamedBut m.fileid m.node.names new.inodes directories_after
    named-untied = record {
      root_there = parent-same root ∙ named.root_there;
      as_directories = by-fileid (λ q. is_some (get directories_after q) ≡ is_directory (inode_of new q))
          (ap (λ o. is_some o) untied-entries
          ∙ sym (ap (λ o. is_some o) (parent-same m.directory) ∙ sym (named.as_directories m.directory) ∙ ap (λ o. is_some o) stands.entered))
          (λ q ne. ap (λ o. is_some o) (untied-others q ne) ∙ named.as_directories q ∙ sym (ap (λ o. is_some o) (parent-same q)));
      fits = by-fileid (λ q. (d : DirectoryValue) → get directories_after q ≡ Some d → DirectoryFits new.inodes q d)
          (λ d e. let same : removed m.name m.entries ≡ d = (let was = untied-entries in cc) in
          subst (DirectoryFits new.inodes m.directory) same fits-directory)
          (λ q ne d e.
          let was = named.fits q d (sym (untied-others q ne) ∙ e) in
          record {
            list = was.list;
            children = children-same q d.list was.children;
            links = ap subdirectories_of (untied-other q ne) ∙ was.links ∙ ap Some (sym (directories-same d.list));
          });
      counted = counted-after;
      one_less = less-after;
      once = once-after;
      last = last-after;
      rooted = λ q e.
          let reaches = named.rooted q (sym (ap (λ o. is_some o) (parent-same q)) ∙ e) in
          (reaches.0, above-same reaches.0 q ∙ reaches.1);
    }
