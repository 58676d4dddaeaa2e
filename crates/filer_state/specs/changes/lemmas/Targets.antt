-- A node under the name to which another moves: it is another node, and once it is gone, the other may move there.
use Rattle.std.proofs.Common.{◌≡◌, ℕ, zero, suc, ◌≤◌, ◌==◌, ◌&&◌, not, Bool, true, false, List, Some, None}
use Rattle.std.proofs.Common.{refl, sym, ap, ◌∙◌, subst, arith, ne_eqb, eq-eqb}
use Rattle.std.specs.Prelude.{is_some}
use Rattle.std.proofs.lemmas.Bool.{eqb-true}
use Rattle.std.specs.FinMap.{get, nat_cmp-IsAntisymmetric}
use Rattle.nfs_model.specs.Types.{Moment, Listed}
use Rattle.nfs_model.specs.Names.{same_name}
use Rattle.nfs_model.specs.Parts.{one_if, Hand}
use Rattle.nfs_model.specs.volume.Directories.{DirectoryValue, found, removed}
use Rattle.nfs_model.specs.volume.Inodes.{Inode}
use Rattle.nfs_model.specs.volume.lemmas.Directories.{same-turned, found-removed, found-removed-other, same-is}
use Rattle.nfs_model.specs.volume.lemmas.Numbered.{itself}
use Rattle.filer_state.specs.state.Contents.{VolumeContents}
use Rattle.filer_state.specs.state.Tree.{directory_or_empty}
use Rattle.filer_state.specs.state.Names.{InodeMap, parent_directory, parent_or, times_in_list, times_named, directory_above, AreNamed}
use Rattle.filer_state.specs.state.WellFormed.{WellFormed}
use Rattle.filer_state.specs.names.Answers.{entries_of}
use Rattle.filer_state.specs.nodes.Dropping.{Dropping}
use Rattle.filer_state.specs.nodes.Moving as moving
use Rattle.filer_state.specs.nodes.Moving.{inodes_untied, entries_untied}
use Rattle.filer_state.specs.nodes.Laws.{LosesName, StandsUnder, WeighAlike}
use Rattle.filer_state.specs.nodes.lemmas.Unnamed as gone
use Rattle.filer_state.specs.nodes.lemmas.Untied.{named-untied, untied-entries, untied-others}
use Rattle.filer_state.specs.nodes.lemmas.Dropped.{left_in}
use Rattle.filer_state.specs.laws.lemmas.Mapped.{entry-at-least}
use Rattle.filer_state.specs.changes.Named.{HeldNaming, HeldNode}
use Rattle.filer_state.specs.changes.Dropping.{dropping_of}
use Rattle.filer_state.specs.changes.lemmas.Named.{naming_held, IsDirectoryHere, IsChildHere, found-counted}
use Rattle.filer_state.specs.changes.lemmas.Climbing.{stays-there}
use Rattle.filer_state.specs.changes.lemmas.Renamed.{or-empty}
use Rattle.filer_state.specs.changes.lemmas.Hanging.{MayMove}
use Rattle.filer_state.specs.changes.lemmas.NamesGone.{IsGone}
use Rattle.filer_state.specs.nodes.Making.{directories_in}
use Rattle.filer_state.specs.state.Lenses.{LogicalSet, logical_lens}
use Rattle.filer_state.specs.nodes.lemmas.Unnamed.{parent-kept}
use Rattle.filer_state.specs.state.Sound.{IsSound}

module _ (p : VolumeContents) (well : WellFormed p) (from_id : ℕ) (from_name : List ℕ) (to_id : ℕ) (to_name : List ℕ) (moment : Moment)
    (fi : Inode) (fp : ℕ) (here_from : IsDirectoryHere p from_id from_name moment fi fp)
    (ti : Inode) (tp : ℕ) (here_to : IsDirectoryHere p to_id to_name moment ti tp)
    (child : HeldNode) (under : IsChildHere p from_id from_name child) (target : HeldNode) (upon : IsChildHere p to_id to_name target)
    (two : (target.fileid == child.fileid) ≡ false) where
  abbrev c : ℕ
  c = child.fileid

  abbrev t : ℕ
  t = target.fileid

  abbrev from : HeldNaming
  from = naming_held p from_id from_name moment fi

  abbrev to : HeldNaming
  to = naming_held p to_id to_name moment ti

  other-node : (c == t) ≡ false
  other-node = ne_eqb c t (λ (h : c ≡ t). let is : (t == c) ≡ true = eq-eqb t c (sym h) in let isnt = two in cc)

  -- in one directory the names differ
  names-differ : (from_id == to_id) ≡ true → same_name from_name to_name ≡ false
  names-differ e = by (same_name from_name to_name) refl
    where
      by : (b : Bool) → same_name from_name to_name ≡ b → b ≡ false
      by false is = refl
      by true is =
          let one : Some under.entry ≡ Some upon.entry = sym under.found_there
          ∙ (λ j. found (entries_of p.logical (eqb-true from_id to_id e j)) (same-is from_name to_name is j)) ∙ upon.found_there in
          let entry : under.entry ≡ upon.entry = cc in
          let same : c ≡ t = sym under.is ∙ ap (λ (x : Listed). x.fileid) entry ∙ upon.is in
          let test : (t == c) ≡ true = eq-eqb t c (sym same) in
          let isnt = two in
          absurd cc

  -- ---- where it is gone, the other may move to its name

  module _ (set : LogicalSet) (hands hands' : List Hand) (made now : ℕ) (later : made ≤ now) (sound : IsSound p hands made)
      (weigh : WeighAlike p.number hands hands')
      (gone : IsGone p to_id to_name moment ti tp here_to target upon hands hands' made now later sound weigh set) (not_from : (from_id == t) ≡ false)
      (clear : (k : ℕ) → (directory_above p.logical.inodes.inodes k to_id == c) ≡ false) where
    abbrev after : VolumeContents
    after = logical_lens.put set p

    not-to : (c == to_id) ≡ false
    not-to = ne_eqb c to_id (λ (h : c ≡ to_id). let is : (to_id == c) ≡ true = eq-eqb to_id c (sym h) in let isnt = clear 0 in cc)

    to-parent : parent_directory (get set.own.inodes.inodes to_id) ≡ Some tp
    to-parent = ap parent_directory gone.directory ∙ parent-kept (directories_in target.inode.kind) ti.kind ∙ here_to.says

    from-parent : parent_directory (get set.own.inodes.inodes from_id) ≡ Some fp
    from-parent = by (from_id == to_id) refl
      where
        by : (b : Bool) → (from_id == to_id) ≡ b → parent_directory (get set.own.inodes.inodes from_id) ≡ Some fp
        by true e =
            let is : from_id ≡ to_id = eqb-true from_id to_id e in
            let one : Some fp ≡ Some tp = sym (ap parent_directory here_from.there ∙ here_from.says)
            ∙ ap (λ (x : ℕ). parent_directory (get p.logical.inodes.inodes x)) is ∙ ap parent_directory here_to.there ∙ here_to.says in
            ap (λ (x : ℕ). parent_directory (get set.own.inodes.inodes x)) is ∙ to-parent ∙ sym one
        by false e = ap parent_directory (gone.others from_id e not_from ∙ here_from.there) ∙ here_from.says

    -- its directory has its entries, and the other's
    from-found : (is_some (get set.own.directories from_id) ≡ true) × (found (entries_of set.own from_id) from_name ≡ Some under.entry)
    from-found = by (from_id == to_id) refl
      where
        by : (b : Bool) → (from_id == to_id) ≡ b
            → (is_some (get set.own.directories from_id) ≡ true) × (found (entries_of set.own from_id) from_name ≡ Some under.entry)
        by true e =
            let is : from_id ≡ to_id = eqb-true from_id to_id e in (
              ap (λ (x : ℕ). is_some (get set.own.directories x)) is ∙ ap (λ o. is_some o) gone.entries,
              ap (λ (x : ℕ). found (entries_of set.own x) from_name) is
                  ∙ ap (λ o. found (directory_or_empty o) from_name) gone.entries
                  ∙ found-removed-other (entries_of p.logical to_id) to_name from_name (same-turned to_name from_name ∙ names-differ e)
                  ∙ ap (λ (x : ℕ). found (entries_of p.logical x) from_name) (sym is) ∙ under.found_there,
            )
        by false e =
            let others = gone.other_entries from_id e not_from in (
              ap (λ o. is_some o) others ∙ ap (λ o. is_some o) here_from.entered,
              ap (λ o. found (directory_or_empty o) from_name) others ∙ under.found_there,
            )

    pub may-move : MayMove after from to child fp tp
    may-move = record {
      from_says = from-parent;
      from_entered = or-empty (get set.own.directories from_id) from-found.0;
      under = record {
        entry = under.entry;
        found_there = from-found.1;
        is = under.is;
        node = gone.others c not-to other-node ∙ under.node;
      };
      to_says = to-parent;
      to_entered = or-empty (get set.own.directories to_id) (ap (λ o. is_some o) gone.entries);
      absent =
          ap (λ o. found (directory_or_empty o) to_name) gone.entries ∙ found-removed (entries_of p.logical to_id) to_name;
      clear = gone.clear c other-node to_id clear;
    }
