-- Names after a node without a name is hung up under one: they are lawful again.
use Rattle.std.proofs.Common.{◌≡◌, ℕ, zero, suc, ◌+◌, ◌==◌, not, Bool, true, false, List, [], ◌∷◌, Option, Some, None}
use Rattle.std.proofs.Common.{refl, sym, ap, ◌∙◌, subst, arith, eq-eqb, ne_eqb}
use Rattle.std.specs.Prelude.{if◌then◌else◌, is_some, IfSome}
use Rattle.std.proofs.lemmas.Bool.{eqb-true}
use Rattle.std.specs.List.{AllByRecursion}
use Rattle.std.specs.Option.{option_map}
use Rattle.std.specs.FinMap.{get, nat_cmp-IsAntisymmetric}
use Rattle.nfs_model.specs.Types.{Moment, Listed}
use Rattle.nfs_model.specs.Parts.{one_if}
use Rattle.nfs_model.specs.volume.Directories.{DirectoryValue, added, entry_added}
use Rattle.nfs_model.specs.volume.Inodes.{InodeKind, Inode, InodesValue, inode_of, inode_set}
use Rattle.nfs_model.specs.volume.lemmas.Inodes.{inode-set-there, inode-set-other}
use Rattle.nfs_model.specs.volume.lemmas.Numbered.{get-insert_at, itself}
use Rattle.filer_state.specs.state.Names.{root, DirectoryMap, parent_in, parent_directory, subdirectories_in, subdirectories_of, is_directory, parent_or, names_of}
use Rattle.filer_state.specs.state.Names.{times_in_list, times_named, directories_listed, directory_above, DirectoryFits, ReachesRoot, AreNamed}
use Rattle.filer_state.specs.laws.lemmas.InodeKinds as kinds
use Rattle.filer_state.specs.laws.lemmas.Mapped.{entry-at-least}
use Rattle.filer_state.specs.nodes.Making.{directories_in, with_subdirectories}
use Rattle.filer_state.specs.nodes.Moving.{Naming, dated_inode, with_parent, node_hung, inodes_hung, entries_hung}
use Rattle.filer_state.specs.nodes.Laws.{MayHang}
use Rattle.filer_state.specs.nodes.lemmas.Others as others
use Rattle.filer_state.specs.nodes.lemmas.Others.{IsChildOf}
use Rattle.filer_state.specs.nodes.lemmas.Summed.{total-set}
use Rattle.nfs_model.specs.volume.lemmas.Listing.{count-more, all-more, added-is}
use Rattle.filer_state.specs.nodes.lemmas.Named.{parent-kept, counted-more}
use Rattle.filer_state.specs.nodes.lemmas.Untied.{AreNamedBut}

some-with_parent : (p : ℕ) (k : InodeKind) → is_some (parent_in (with_parent p k)) ≡ is_some (parent_in k)
some-with_parent p k = kinds.some-kept (λ old. p) (λ n. n) k

counted-with_parent : (p : ℕ) (k : InodeKind) → subdirectories_in (with_parent p k) ≡ subdirectories_in k
counted-with_parent p k = kinds.count-kept (λ old. p) k

parent-with_parent : (p : ℕ) (k : InodeKind) → parent_in (with_parent p k) ≡ option_map (λ old. p) (parent_in k)
parent-with_parent p k = kinds.parent-changed (λ old. p) (λ n. n) k

module _ (old : InodesValue) (directories : DirectoryMap) (m : Naming) (touch : Option Moment) (may : MayHang m old directories) where
  abbrev new : InodesValue
  new = inodes_hung m touch old

  abbrev dated : Inode
  dated = dated_inode m.moment (with_subdirectories (directories_in m.node.kind) m.inode.kind) m.inode

  abbrev between : InodesValue
  between = inode_set m.directory dated old

  abbrev directories_after : DirectoryMap
  directories_after = entries_hung m directories

  pub apart : (m.directory == m.fileid) ≡ false
  apart = may.clear 0

  pub apart-turned : (m.fileid == m.directory) ≡ false
  apart-turned = ne_eqb m.fileid m.directory (λ (e : m.fileid ≡ m.directory).
      let t : (m.directory == m.fileid) ≡ true = eq-eqb m.directory m.fileid (sym e) in let f = apart in cc)

  pub still : inode_of between m.fileid ≡ Some m.node
  still = inode-set-other old m.directory dated m.fileid apart-turned ∙ may.node

  pub hung-node : inode_of new m.fileid ≡ Some (node_hung m touch)
  hung-node = inode-set-there between m.fileid m.node (node_hung m touch) still

  pub hung-directory : inode_of new m.directory ≡ Some dated
  hung-directory = inode-set-other between m.fileid (node_hung m touch) m.directory apart ∙ inode-set-there old m.directory m.inode dated may.there

  hung-other : (q : ℕ) → (q == m.directory) ≡ false → (q == m.fileid) ≡ false → inode_of new q ≡ inode_of old q
  hung-other q ne other = inode-set-other between m.fileid (node_hung m touch) q other ∙ inode-set-other old m.directory dated q ne

  by-fileid : (P : ℕ → Type 0) → P m.directory → P m.fileid → ((q : ℕ) → (q == m.directory) ≡ false → (q == m.fileid) ≡ false → P q) → (q : ℕ) → P q
  by-fileid = others.by-two m.directory m.fileid

  parent-same : (q : ℕ) → (q == m.fileid) ≡ false → parent_directory (inode_of new q) ≡ parent_directory (inode_of old q)
  parent-same = by-fileid (λ q. (q == m.fileid) ≡ false → parent_directory (inode_of new q) ≡ parent_directory (inode_of old q))
      (λ ne. ap parent_directory hung-directory ∙ parent-kept (directories_in m.node.kind) m.inode.kind ∙ sym (ap parent_directory may.there))
      (λ ne. let t = itself m.fileid in absurd cc)
      (λ q ne other _. ap parent_directory (hung-other q ne other))

  directory-same : (q : ℕ) → is_directory (inode_of new q) ≡ is_directory (inode_of old q)
  directory-same = by-fileid (λ q. is_directory (inode_of new q) ≡ is_directory (inode_of old q))
      (ap (λ o. is_some o) (parent-same m.directory apart))
      (ap is_directory hung-node ∙ some-with_parent m.directory m.node.kind ∙ sym (ap is_directory may.node))
      (λ q ne other. ap is_directory (hung-other q ne other))

  names-other : (q : ℕ) → (q == m.fileid) ≡ false → names_of (inode_of new q) ≡ names_of (inode_of old q)
  names-other = by-fileid (λ q. (q == m.fileid) ≡ false → names_of (inode_of new q) ≡ names_of (inode_of old q))
      (λ ne. ap names_of hung-directory ∙ sym (ap names_of may.there))
      (λ ne. let t = itself m.fileid in absurd cc)
      (λ q ne other _. ap names_of (hung-other q ne other))

  directories-same : (list : List Listed) → directories_listed new.inodes list ≡ directories_listed old.inodes list
  directories-same [] = refl
  directories-same (e ∷ list) =
      let here = ap one_if (directory-same e.fileid) in
      let others = directories-same list in
      omega (arith, here, others)

  -- where it is no directory it is nobody's parent, before and after
  parent-all : parent_in m.node.kind ≡ None → (q : ℕ) → parent_directory (inode_of new q) ≡ parent_directory (inode_of old q)
  parent-all none q = by (q == m.fileid) refl
    where
      by : (b : Bool) → (q == m.fileid) ≡ b → parent_directory (inode_of new q) ≡ parent_directory (inode_of old q)
      by true e =
          ap (λ (k : ℕ). parent_directory (inode_of new k)) (eqb-true q m.fileid e) ∙ ap parent_directory hung-node
          ∙ parent-with_parent m.directory m.node.kind ∙ ap (option_map (λ (old : ℕ). m.directory)) none
          ∙ sym (ap (λ (k : ℕ). parent_directory (inode_of old k)) (eqb-true q m.fileid e) ∙ ap parent_directory may.node ∙ none)
      by false e = parent-same q e

  found-at : (q : ℕ) → get directories_after q ≡ (if q == m.directory then Some (added m.name m.fileid m.entries) else get directories q)
  found-at q = get-insert_at directories m.directory (added m.name m.fileid m.entries) q

  pub hung-entries : get directories_after m.directory ≡ Some (added m.name m.fileid m.entries)
  hung-entries =
      found-at m.directory ∙ ap (λ (b : Bool). if b then Some (added m.name m.fileid m.entries) else get directories m.directory) (itself m.directory)

  pub hung-others : (q : ℕ) → (q == m.directory) ≡ false → get directories_after q ≡ get directories q
  hung-others q ne = found-at q ∙ ap (λ (b : Bool). if b then Some (added m.name m.fileid m.entries) else get directories q) ne

  by-directory : (P : ℕ → Type 0) → P m.directory → ((q : ℕ) → (q == m.directory) ≡ false → P q) → (q : ℕ) → P q
  by-directory = others.by-one m.directory

  module _ (named : AreNamedBut m.fileid m.names old.inodes directories) where
    abbrev times_of : ℕ → ℕ × DirectoryValue → ℕ
    times_of q e = times_in_list q e.1.list

    abbrev last : Listed
    last = entry_added m.name m.fileid m.entries

    none-listed : is_directory (inode_of old m.fileid) ≡ true → (q : ℕ) (d : DirectoryValue) → get directories q ≡ Some d → times_in_list m.fileid d.list ≡ 0
    none-listed is q d e =
        let most = entry-at-least nat_cmp-IsAntisymmetric (times_of m.fileid) directories q d e in
        let less = named.one_less in
        let last = named.last is in
        omega (arith, most, less, last)

    children-same : (fileid : ℕ) (d : DirectoryValue) → get directories fileid ≡ Some d
        → AllByRecursion (IsChildOf old.inodes fileid) d.list → AllByRecursion (IsChildOf new.inodes fileid) d.list
    children-same fileid d e all = by (parent_in m.node.kind) refl
      where
        by : (o : Option ℕ) → parent_in m.node.kind ≡ o → AllByRecursion (IsChildOf new.inodes fileid) d.list
        by None is = others.children-alike new.inodes old.inodes (parent-all is) fileid d.list all
        by (Some parent) is =
            others.children-same new.inodes old.inodes m.fileid parent-same fileid d.list
            (none-listed (ap is_directory may.node ∙ ap (λ (o : Option ℕ). is_some o) is) fileid d e) all

    times-after : (q : ℕ) → times_named q directories_after ≡ times_named q directories + one_if (m.fileid == q)
    times-after q =
        let set = total-set (times_of q) directories m.directory m.entries (added m.name m.fileid m.entries) may.entered in
        let more = count-more (λ (e : Listed). e.fileid == q) m.entries.list last in
        omega (arith, set, more)

    counted-after : (q : ℕ) → times_named q directories_after ≡ names_of (inode_of new q)
    counted-after q = by (q == m.fileid) refl
      where
        by : (b : Bool) → (q == m.fileid) ≡ b → times_named q directories_after ≡ names_of (inode_of new q)
        by true e =
            let is : q ≡ m.fileid = eqb-true q m.fileid e in
            let here : times_named m.fileid directories_after ≡ m.names =
            (let after = times-after m.fileid in let less = named.one_less in let one : one_if (m.fileid == m.fileid) ≡ 1 = ap one_if (itself m.fileid) in
            omega (arith, after, less, one)) in
            ap (λ (k : ℕ). times_named k directories_after) is ∙ here ∙ sym (ap (λ (k : ℕ). names_of (inode_of new k)) is ∙ ap names_of hung-node)
        by false e =
            let other : one_if (m.fileid == q) ≡ 0 =
            ap one_if (ne_eqb m.fileid q (λ (h : m.fileid ≡ q). let t : (q == m.fileid) ≡ true = eq-eqb q m.fileid (sym h) in cc)) in
            let after = times-after q in
            let was = named.counted q e in
            let same = names-other q e in
            omega (arith, other, after, was, same)

    once-after : (q : ℕ) → is_directory (inode_of new q) ≡ true → names_of (inode_of new q) ≡ one_if (not (q == root))
    once-after q h = by (q == m.fileid) refl
      where
        was : is_directory (inode_of old q) ≡ true
        was = sym (directory-same q) ∙ h

        by : (b : Bool) → (q == m.fileid) ≡ b → names_of (inode_of new q) ≡ one_if (not (q == root))
        by true e =
            let is : q ≡ m.fileid = eqb-true q m.fileid e in
            ap (λ (k : ℕ). names_of (inode_of new k)) is ∙ ap names_of hung-node
            ∙ named.last (ap (λ (k : ℕ). is_directory (inode_of old k)) (sym is) ∙ was)
            ∙ sym (ap (λ (k : ℕ). one_if (not (k == root))) is ∙ ap (λ (t : Bool). one_if (not t)) may.no_root)
        by false e = names-other q e ∙ named.once q was

    -- ---- what holds of each

    last-child : IsChildOf new.inodes m.directory last
    last-child = subst (λ o. IfSome o (λ parent. parent ≡ m.directory)) (sym (ap parent_directory hung-node ∙ parent-with_parent m.directory m.node.kind)) (by (parent_in m.node.kind))
      where
        by : (o : Option ℕ) → IfSome (option_map (λ old. m.directory) o) (λ parent. parent ≡ m.directory)
        by None = tt
        by (Some parent) = refl

    fits-directory : DirectoryFits new.inodes m.directory (added m.name m.fileid m.entries)
    fits-directory =
        let was = named.fits m.directory m.entries may.entered in
        let old_links : subdirectories_in m.inode.kind ≡ Some (directories_listed old.inodes m.entries.list) =
        sym (ap subdirectories_of may.there) ∙ was.links in
        record {
          list = added-is m.entries m.name m.fileid may.absent was.list;
          children = all-more (IsChildOf new.inodes m.directory) m.entries.list last
              (children-same m.directory m.entries may.entered was.children) last-child;
          links =
              let more = counted-more (directories_in m.node.kind) (directories_listed old.inodes m.entries.list) m.inode.kind old_links in
              let one : one_if (is_directory (inode_of new m.fileid)) ≡ directories_in m.node.kind =
              ap one_if (directory-same m.fileid) ∙ ap (λ o. one_if (is_directory o)) may.node in
              let sum : directories_listed new.inodes (added m.name m.fileid m.entries).list
              ≡ directories_listed old.inodes m.entries.list + directories_in m.node.kind =
              count-more (λ (e : Listed). is_directory (get new.inodes e.fileid)) m.entries.list last
              ∙ (let same = directories-same m.entries.list in omega (arith, same, one)) in
              ap subdirectories_of hung-directory ∙ more ∙ ap Some (sym sum);
        }

    links-other : (q : ℕ) → (q == m.directory) ≡ false → subdirectories_of (inode_of new q) ≡ subdirectories_of (inode_of old q)
    links-other = by-fileid (λ q. (q == m.directory) ≡ false → subdirectories_of (inode_of new q) ≡ subdirectories_of (inode_of old q))
        (λ ne. let t = itself m.directory in absurd cc)
        (λ ne. ap subdirectories_of hung-node ∙ counted-with_parent m.directory m.node.kind ∙ sym (ap subdirectories_of may.node))
        (λ q ne other _. ap subdirectories_of (hung-other q ne other))

    fits-other : (q : ℕ) → (q == m.directory) ≡ false → (d : DirectoryValue) → get directories q ≡ Some d → DirectoryFits new.inodes q d
    fits-other q ne d e =
        let was = named.fits q d e in
        record {
          list = was.list;
          children = children-same q d e was.children;
          links = links-other q ne ∙ was.links ∙ ap Some (sym (directories-same d.list));
        }

    -- ---- the way to the root

    above-clear : (n q : ℕ) → ((k : ℕ) → (directory_above old.inodes k q == m.fileid) ≡ false) → directory_above new.inodes n q ≡ directory_above old.inodes n q
    above-clear zero q clear = refl
    above-clear (suc n) q clear =
        ap (λ o. directory_above new.inodes n (parent_or o q)) (parent-same q (clear 0))
        ∙ above-clear n (parent_or (parent_directory (inode_of old q)) q) (λ k. clear (suc k))

    reaches-directory : ReachesRoot new.inodes m.directory
    reaches-directory =
        let as_directory : is_directory (inode_of old m.directory) ≡ true = sym (named.as_directories m.directory) ∙ ap (λ o. is_some o) may.entered in
        let was = named.rooted m.directory as_directory in
        (was.0, above-clear was.0 m.directory may.clear ∙ was.1)

    -- the node itself, which has its parent now there; a file has none, and is nobody's parent
    reaches-node : (o : Option ℕ) → parent_in m.node.kind ≡ o → (n : ℕ) → directory_above old.inodes n m.fileid ≡ root → ReachesRoot new.inodes m.fileid
    reaches-node (Some parent) is n h =
        let up : parent_directory (inode_of new m.fileid) ≡ Some m.directory = ap parent_directory hung-node
        ∙ parent-with_parent m.directory m.node.kind ∙ ap (option_map (λ (old : ℕ). m.directory)) is in
        let there = reaches-directory in
        (suc there.0, ap (λ o. directory_above new.inodes there.0 (parent_or o m.fileid)) up ∙ there.1)
    reaches-node None is n h =
        let none : parent_directory (inode_of old m.fileid) ≡ None = ap parent_directory may.node ∙ is in
        let t : (m.fileid == root) ≡ true = eq-eqb m.fileid root (sym (stays none n) ∙ h) in
        let f = may.no_root in
        absurd cc
      where
        stays : parent_directory (inode_of old m.fileid) ≡ None → (n : ℕ) → directory_above old.inodes n m.fileid ≡ m.fileid
        stays none zero = refl
        stays none (suc n) = ap (λ o. directory_above old.inodes n (parent_or o m.fileid)) none ∙ stays none n

    reaches : (n q : ℕ) → directory_above old.inodes n q ≡ root → ReachesRoot new.inodes q
    reaches zero q h = (0, h)
    reaches (suc n) q h = by (q == m.fileid) refl (reaches n (parent_or (parent_directory (inode_of old q)) q) h)
      where
        by : (b : Bool) → (q == m.fileid) ≡ b → ReachesRoot new.inodes (parent_or (parent_directory (inode_of old q)) q) → ReachesRoot new.inodes q
        by true e further =
            let is : q ≡ m.fileid = eqb-true q m.fileid e in
            subst (ReachesRoot new.inodes) (sym is)
            (reaches-node (parent_in m.node.kind) refl (suc n) (ap (directory_above old.inodes (suc n)) (sym is) ∙ h))
        by false e further =
            (suc further.0, ap (λ o. directory_above new.inodes further.0 (parent_or o q)) (parent-same q e) ∙ further.1)

    root-other : (root == m.fileid) ≡ false
    root-other = ne_eqb root m.fileid (λ (e : root ≡ m.fileid).
        let t : (m.fileid == root) ≡ true = eq-eqb m.fileid root (sym e) in let f = may.no_root in cc)

    -- names are lawful again
    pub named-hung : AreNamed new.inodes directories_after
    named-hung = record {
      root_there = parent-same root root-other ∙ named.root_there;
      as_directories = by-directory (λ q. is_some (get directories_after q) ≡ is_directory (inode_of new q))
          (ap (λ o. is_some o) hung-entries
          ∙ sym (directory-same m.directory ∙ sym (named.as_directories m.directory) ∙ ap (λ o. is_some o) may.entered))
          (λ q ne. ap (λ o. is_some o) (hung-others q ne) ∙ named.as_directories q ∙ sym (directory-same q));
      fits = by-directory (λ q. (d : DirectoryValue) → get directories_after q ≡ Some d → DirectoryFits new.inodes q d)
          (λ d e. let same : added m.name m.fileid m.entries ≡ d = (let was = hung-entries in cc) in
          subst (DirectoryFits new.inodes m.directory) same fits-directory)
          (λ q ne d e. fits-other q ne d (sym (hung-others q ne) ∙ e));
      counted = counted-after;
      once = once-after;
      rooted = λ q e. let was = named.rooted q (sym (directory-same q) ∙ e) in reaches was.0 q was.1;
    }
