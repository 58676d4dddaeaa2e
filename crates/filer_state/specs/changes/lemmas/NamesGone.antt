-- A name that goes from a directory, and the node with it if it was its last: what REMOVE does, and RENAME to its target.
use Rattle.std.proofs.Common.{◌≡◌, ℕ, suc, zero, ◌+◌, ◌-◌, ◌<◌, ◌≤◌, ◌==◌, ◌++◌, Bool, true, false, List, [], ◌∷◌, map, Option, Some, None, length}
use Rattle.std.proofs.Common.{refl, sym, ap, ◌∙◌, subst, arith, eq-eqb, ne_eqb}
use Rattle.std.specs.Prelude.{if◌then◌else◌, is_some, nat_le, IfSome}
use Rattle.std.proofs.lemmas.Bool.{eqb-true}
use Rattle.std.proofs.lemmas.Bool.Decides.{nat_tests}
use Rattle.std.specs.Ordering.{nat_cmp}
use Rattle.std.specs.FinMap.{get, insert, remove, len}
use Rattle.std.specs.FinSet.{from_list}
use Rattle.nfs_model.specs.Types.{Moment, Listed}
use Rattle.nfs_model.specs.Parts.{Hand}
use Rattle.nfs_model.specs.Moves.{Emptied}
use Rattle.nfs_model.specs.Server.{Node, Directory, VolumeState, used}
use Rattle.nfs_model.specs.Shown.{shown}
use Rattle.nfs_model.specs.Locate.{Naming}
use Rattle.nfs_model.specs.Serial.Links.{without_link, node_left}
use Rattle.nfs_model.specs.Serial.Remove as removes
use Rattle.nfs_model.specs.Serial.Remove.{without_child}
use Rattle.nfs_model.specs.volume.Directories.{DirectoryValue, removed}
use Rattle.nfs_model.specs.volume.Inodes.{InodeKind, RegularFile, DirectoryKind, SpecialFile, Inode, InodesValue}
use Rattle.nfs_model.specs.volume.Stripes.{StripeValue, touch_taken}
use Rattle.nfs_model.specs.volume.lemmas.Inodes.{inode-set-there, inode-set-other}
use Rattle.nfs_model.specs.volume.lemmas.Numbered.{get-insert_at, itself}
use Rattle.filer_state.specs.state.Contents.{VolumeContents}
use Rattle.filer_state.specs.state.Tree.{directory_or_empty, file_touch, node_by, node_of, volume_of}
use Rattle.filer_state.specs.state.Names.{InodeMap, parent_in, parent_directory, parent_or, is_directory, directory_above}
use Rattle.filer_state.specs.state.Kinds.{IsFile}
use Rattle.filer_state.specs.state.WellFormed.{WellFormed}
use Rattle.filer_state.specs.state.Partition.{parts_of, numbers_in, all_numbers}
use Rattle.filer_state.specs.state.Sound.{IsSound}
use Rattle.filer_state.specs.state.Lenses.{LogicalSet, logical_lens}
use Rattle.filer_state.specs.state.Changes.{shown_inode}
use Rattle.filer_state.specs.attributes.lemmas.Setattr.{emptied-none}
use Rattle.filer_state.specs.laws.lemmas.Counted.{used-is}
use Rattle.filer_state.specs.laws.lemmas.SameBlocks.{total-mapped}
use Rattle.filer_state.specs.names.Answers.{entries_of}
use Rattle.filer_state.specs.names.lemmas.DirectoryKinds.{same-shown}
use Rattle.filer_state.specs.nodes.Making.{directories_in}
use Rattle.filer_state.specs.nodes.Dropping.{Dropping, directory_left, node_dropped, without_subdirectories}
use Rattle.filer_state.specs.nodes.Moving as moving
use Rattle.filer_state.specs.nodes.Moving.{inodes_untied, node_counted, entries_untied, name_dropped}
use Rattle.filer_state.specs.nodes.Sizing.{file_sized, kind_sized, all_freed}
use Rattle.filer_state.specs.nodes.Laws.{WeighAlike, LosesName, IsEmptyKind, KeepsAName, seen_directory}
use Rattle.filer_state.specs.nodes.lemmas.Unnamed as unnamed
use Rattle.filer_state.specs.nodes.lemmas.Untied.{untied-directory, untied-other, untied-entries, untied-others}
use Rattle.filer_state.specs.nodes.lemmas.Sized.{sized_in}
use Rattle.filer_state.specs.nodes.lemmas.Counted as counted
use Rattle.filer_state.specs.changes.Named.{HeldNaming, HeldNode}
use Rattle.filer_state.specs.changes.Dropping.{dropping_of, emptying_of, child_emptied, last_gone, losing_of, one_gone, name_gone}
use Rattle.filer_state.specs.changes.lemmas.Named.{naming_held, naming_seen, IsDirectoryHere, IsChildHere, found_seen}
use Rattle.filer_state.specs.changes.lemmas.Climbing.{stays-there}
use Rattle.filer_state.specs.changes.lemmas.Renamed.{above-same, not-itself}
use Rattle.filer_state.specs.changes.lemmas.Setting.{node-shows}
use Rattle.filer_state.specs.changes.lemmas.Gone.{last-left, sound-gone, volume-gone, parts-gone, used-gone}
use Rattle.filer_state.specs.changes.lemmas.Emptied as emptying

-- where one inode is gone, nothing is above that wasn't
above-gone : (new old : InodeMap) (t c : ℕ) → ((x : ℕ) → (x == t) ≡ false → parent_directory (get new x) ≡ parent_directory (get old x))
    → get new t ≡ None → (c == t) ≡ false → (n q : ℕ) → ((k : ℕ) → (directory_above old k q == c) ≡ false) → (directory_above new n q == c) ≡ false
above-gone new old t c same none other zero q clear = clear 0
above-gone new old t c same none other (suc n) q clear = by (q == t) refl (above-gone new old t c same none other n)
  where
    by : (b : Bool) → (q == t) ≡ b → ((x : ℕ) → ((k : ℕ) → (directory_above old k x == c) ≡ false) → (directory_above new n x == c) ≡ false)
        → (directory_above new (suc n) q == c) ≡ false
    by true e further =
        let is : q ≡ t = eqb-true q t e in
        let none-here : parent_directory (get new q) ≡ None = ap (λ (x : ℕ). parent_directory (get new x)) is ∙ ap parent_directory none in
        ap (λ (x : ℕ). x == c) (stays-there new q (ap (λ o. parent_or o q) none-here) (suc n)) ∙ clear 0
    by false e further =
        ap (λ o. directory_above new n (parent_or o q) == c) (same q e)
        ∙ further (parent_or (parent_directory (get old q)) q) (λ k. clear (suc k))

module _ (p : VolumeContents) (fileid : ℕ) (name : List ℕ) (moment : Moment) (inode : Inode) (parent : ℕ)
    (here : IsDirectoryHere p fileid name moment inode parent) (child : HeldNode) (under : IsChildHere p fileid name child)
    (hands hands' : List Hand) (made now : ℕ) (later : made ≤ now) (good : IsSound p hands made) (weigh : WeighAlike p.number hands hands') where
  abbrev t : ℕ
  t = child.fileid

  abbrev held : HeldNaming
  held = naming_held p fileid name moment inode

  abbrev seen : Naming
  seen = naming_seen p fileid name moment inode parent

  abbrev after : LogicalSet → VolumeContents
  after set = logical_lens.put set p

  -- all stays sound, the volume that is seen has not the name, and what isn't the directory and the node stays
  pub record IsGone (set : LogicalSet) : Type 0 where
    pub sound : IsSound (after set) hands' now
    pub volume : volume_of (after set) ≡ without_child seen (found_seen p child)
    pub emptied : Emptied (used (volume_of p) - used (volume_of (after set))) (parts_of p) (parts_of (after set))
    pub directory : get set.own.inodes.inodes fileid ≡ Some (directory_left (dropping_of held child))
    pub entries : get set.own.directories fileid ≡ Some (removed name (entries_of p.logical fileid))
    pub others : (x : ℕ) → (x == fileid) ≡ false → (x == t) ≡ false → get set.own.inodes.inodes x ≡ get p.logical.inodes.inodes x
    pub other_entries : (x : ℕ) → (x == fileid) ≡ false → (x == t) ≡ false → get set.own.directories x ≡ get p.logical.directories x
    pub clear : (c : ℕ) → (c == t) ≡ false → (q : ℕ) → ((k : ℕ) → (directory_above p.logical.inodes.inodes k q == c) ≡ false)
        → (k : ℕ) → (directory_above set.own.inodes.inodes k q == c) ≡ false

  -- the directory after it, as it is shown
  pub gone-shown : (set : LogicalSet) → IsGone set
      → shown (without_child seen (found_seen p child)) fileid (removes.directory_left seen)
      ≡ shown_inode p.number fileid (directory_left (dropping_of held child)) None
  gone-shown set is =
      node-shows (after set) (without_child seen (found_seen p child)) fileid (removes.directory_left seen) (directory_left (dropping_of held child))
      is.sound.well_formed is.volume
      (get-insert_at (node_left (volume_of p).nodes t (without_link moment (found_seen p child).node)) fileid (removes.directory_left seen) fileid
      ∙ ap (λ (b : Bool). if b then Some (removes.directory_left seen) else get (node_left (volume_of p).nodes t
      (without_link moment (found_seen p child).node)) fileid) (itself fileid))
      is.directory
      ∙ same-shown p.number fileid (directory_left (dropping_of held child)) parent
      (unnamed.parent-kept (directories_in child.inode.kind) inode.kind ∙ here.says) (file_touch (after set).stripes fileid)

  -- ---- the last name of a node without bytes and entries

  module _ (dropped : Inode) (set : LogicalSet)
      (loses : LosesName (dropping_of held (record { fileid = t; inode = dropped })) set.own.inodes set.own.directories)
      (still : IsSound (after set) hands made) (last : child.inode.names ≤ 1)
      (same_kind : directories_in dropped.kind ≡ directories_in child.inode.kind)
      (same : (x : ℕ) → (x == t) ≡ false → get set.own.inodes.inodes x ≡ get p.logical.inodes.inodes x)
      (entries_same : (x : ℕ) → get set.own.directories x ≡ get p.logical.directories x)
      (number_same : WeighAlike p.number hands hands')
      (left : record (volume_of (after set)) {
        nodes = insert (remove (volume_of (after set)).nodes t) fileid (removes.directory_left seen);
      } ≡ record (volume_of p) { nodes = insert (remove (volume_of p).nodes t) fileid (removes.directory_left seen) })
      (emptied : Emptied (used (volume_of p) - used (volume_of (after (node_dropped (dropping_of held (record { fileid = t; inode = dropped })) set))))
      (parts_of p) (parts_of (after (node_dropped (dropping_of held (record { fileid = t; inode = dropped })) set)))) where
    abbrev d : Dropping
    d = dropping_of held (record { fileid = t; inode = dropped })

    abbrev gone_set : LogicalSet
    gone_set = node_dropped d set

    parents : (x : ℕ) → (x == t) ≡ false → parent_directory (get gone_set.own.inodes.inodes x) ≡ parent_directory (get p.logical.inodes.inodes x)
    parents x ne = unnamed.parent-same set.own.inodes set.own.directories d loses x ne ∙ ap parent_directory (same x ne)

    pub dropped-gone : IsGone gone_set
    dropped-gone = record {
      sound = sound-gone (after set) d loses parent here.says hands hands' made now later number_same still;
      volume = volume-gone (after set) d loses parent here.says hands hands' made now later number_same still ∙ left ∙ sym (last-left p seen child last refl);
      emptied = emptied;
      directory = unnamed.at-directory set.own.inodes set.own.directories d loses
          ∙ ap (λ (n : ℕ). Some (record inode {
            attributes = record inode.attributes { mtime = moment; ctime = moment };
            kind = moving_kind n;
          })) same_kind;
      entries = unnamed.directory-entries set.own.inodes set.own.directories d loses still.well_formed.logical.named;
      others = λ x ne other. unnamed.at-other set.own.inodes set.own.directories d loses x ne other ∙ same x other;
      other_entries = λ x ne other. unnamed.other-entries set.own.inodes set.own.directories d loses still.well_formed.logical.named x ne other ∙ entries_same x;
      clear = λ c other q clear k. above-gone gone_set.own.inodes.inodes p.logical.inodes.inodes t c parents
          (unnamed.at-dropped set.own.inodes set.own.directories d loses) other k q clear;
    }
      where
        moving_kind : ℕ → InodeKind
        moving_kind n = without_subdirectories n inode.kind

  -- a node without bytes and entries
  module _ (empty : IsEmptyKind child.inode.kind) (none : (entries_of p.logical t).list ≡ []) (last : child.inode.names ≤ 1) where
    loses-bare : LosesName (dropping_of held child) p.logical.inodes p.logical.directories
    loses-bare = record {
      there = here.there;
      entered = here.entered;
      entry = under.entry;
      found_there = under.found_there;
      is = under.is;
      node = under.node;
      last = last;
      kind = empty;
      empty = λ d e. ap (λ o. (directory_or_empty o).list) (sym e) ∙ none;
    }

    pub bare-gone : IsGone (node_dropped (dropping_of held child) (logical_lens.of p))
    bare-gone =
        let parts = parts-gone p (dropping_of held child) loses-bare parent here.says hands hands made made (omega arith) (λ n. refl) good in
        let stays = used-gone p (dropping_of held child) loses-bare parent here.says hands hands made made (omega arith) (λ n. refl) good in
        dropped-gone child.inode (logical_lens.of p) loses-bare good last refl (λ x ne. refl) (λ x. refl) weigh refl
        (emptied-none (parts_of p) (parts_of (after (node_dropped (dropping_of held child) (logical_lens.of p)))) _ (omega (arith, stays))
        (ap (λ x. x.files) parts) (ap (λ x. x.dead) parts) (ap (λ x. x.stock) parts) (ap (λ x. x.free) parts))

  -- a file
  module _ (size filled : ℕ) (verifier : Option (List ℕ)) (is_file : IsFile child.inode.kind size filled verifier) (last : child.inode.names ≤ 1) where
    abbrev cut : LogicalSet
    cut = file_sized (emptying_of child) (logical_lens.of p)

    pub file-gone : IsGone (node_dropped (dropping_of held (child_emptied child (logical_lens.of p))) cut)
    file-gone = dropped-gone (child_emptied child (logical_lens.of p)).inode cut
        (emptying.loses p fileid name moment inode parent here child under size filled verifier is_file last hands made good)
        (emptying.sound-emptied p fileid name moment inode parent here child under size filled verifier is_file last hands made good) last
        (ap (λ (k : InodeKind). directories_in (kind_sized 0 (length (all_freed t 0 p.stripes)) k)) is_file ∙ sym (ap directories_in is_file))
        (λ x ne. inode-set-other p.logical.inodes t (child_emptied child (logical_lens.of p)).inode x ne) (λ x. refl) weigh
        (emptying.seen-left p fileid name moment inode parent here child under size filled verifier is_file last hands made good hands (λ n. refl))
        (emptying.emptied p fileid name moment inode parent here child under size filled verifier is_file last hands made good hands (λ n. refl))

  -- ---- a node that has other names

  module _ (more : 1 < child.inode.names) where
    abbrev m : moving.Naming
    m = losing_of held child

    keeps : KeepsAName m p.logical.inodes p.logical.directories
    keeps = record {
      stands = record {
        there = here.there;
        entered = here.entered;
        entry = under.entry;
        found_there = under.found_there;
        is = under.is;
        node = under.node;
      };
      more = more;
      one_less = refl;
    }

    abbrev touch : Option Moment
    touch = file_touch p.stripes t

    abbrev kept : LogicalSet
    kept = name_dropped m touch (logical_lens.of p)

    -- it isn't its own directory
    apart : (t == fileid) ≡ false
    apart = not-itself p good.well_formed fileid name child under here.entered

    apart-turned : (fileid == t) ≡ false
    apart-turned = ne_eqb fileid t (λ (e : fileid ≡ t). let is : (t == fileid) ≡ true = eq-eqb t fileid (sym e) in let isnt = apart in cc)

    sound-kept : IsSound (after kept) hands' now
    sound-kept = counted.sound-counted p m good.well_formed keeps hands hands' made now later weigh good

    at-node : get kept.own.inodes.inodes t ≡ Some (node_counted m touch)
    at-node = inode-set-there (inodes_untied m p.logical.inodes) t child.inode (node_counted m touch)
        (untied-other p.logical.inodes p.logical.directories m keeps.stands t apart ∙ under.node)

    at-directory : get kept.own.inodes.inodes fileid ≡ Some (directory_left (dropping_of held child))
    at-directory = inode-set-other (inodes_untied m p.logical.inodes) t (node_counted m touch) fileid apart-turned
        ∙ untied-directory p.logical.inodes p.logical.directories m keeps.stands

    at-other : (x : ℕ) → (x == fileid) ≡ false → (x == t) ≡ false → get kept.own.inodes.inodes x ≡ get p.logical.inodes.inodes x
    at-other x ne other = inode-set-other (inodes_untied m p.logical.inodes) t (node_counted m touch) x other
        ∙ untied-other p.logical.inodes p.logical.directories m keeps.stands x ne

    parents-kept : (x : ℕ) → parent_directory (get kept.own.inodes.inodes x) ≡ parent_directory (get p.logical.inodes.inodes x)
    parents-kept x = by (x == fileid) (x == t) refl refl
      where
        by : (a b : Bool) → (x == fileid) ≡ a → (x == t) ≡ b
            → parent_directory (get kept.own.inodes.inodes x) ≡ parent_directory (get p.logical.inodes.inodes x)
        by true b e f =
            let is : x ≡ fileid = eqb-true x fileid e in
            ap (λ (k : ℕ). parent_directory (get kept.own.inodes.inodes k)) is ∙ ap parent_directory at-directory
            ∙ unnamed.parent-kept (directories_in child.inode.kind) inode.kind
            ∙ sym (ap (λ (k : ℕ). parent_directory (get p.logical.inodes.inodes k)) is ∙ ap parent_directory here.there)
        by false true e f =
            let is : x ≡ t = eqb-true x t f in
            ap (λ (k : ℕ). parent_directory (get kept.own.inodes.inodes k)) is ∙ ap parent_directory at-node
            ∙ sym (ap (λ (k : ℕ). parent_directory (get p.logical.inodes.inodes k)) is ∙ ap parent_directory under.node)
        by false false e f = ap parent_directory (at-other x e f)

    -- no block moves
    numbers-stay : (stripes : List StripeValue) → all_numbers (map (touch_taken t) stripes) ≡ all_numbers stripes
    numbers-stay [] = refl
    numbers-stay (x ∷ stripes) = ap (λ ns. numbers_in x ++ ns) (numbers-stay stripes)

    used-kept : used (volume_of (after kept)) ≡ used (volume_of p)
    used-kept =
        used-is (after kept) sound-kept.well_formed ∙ sound-kept.well_formed.used
        ∙ total-mapped (touch_taken t) (λ (x : StripeValue). len x.blocks) (λ x. refl) p.stripes
        ∙ sym (used-is p good.well_formed ∙ good.well_formed.used)

    -- the node, with one name less
    abbrev left_names : Option Node → Node
    left_names None = (found_seen p child).node
    left_names (Some node) = node

    some-left : without_link moment (found_seen p child).node ≡ Some (left_names (without_link moment (found_seen p child).node))
    some-left = is-some (without_link moment (found_seen p child).node) (by child.inode.kind refl)
      where
        is-some : (o : Option Node) → is_some o ≡ true → o ≡ Some (left_names o)
        is-some None e = absurd cc
        is-some (Some node) e = refl

        many : nat_le child.inode.names 1 ≡ false
        many = grind (arith, nat_tests, more)

        some-where : (b : Bool) (node : Node) → b ≡ false → is_some (if b then None else Some node) ≡ true
        some-where true node e = absurd cc
        some-where false node e = refl

        no-directory : {up below : ℕ} → child.inode.kind ≡ DirectoryKind up below → ⊥
        no-directory is =
            let as_directory : is_directory (get p.logical.inodes.inodes t) ≡ true =
            ap is_directory under.node ∙ ap (λ (k : InodeKind). is_some (parent_in k)) is in
            let one = counted.names-of-directory p good.well_formed t child.inode under.node as_directory in
            let many = more in
            omega (arith, one, many)

        by : (k : InodeKind) → child.inode.kind ≡ k
            → is_some (without_link moment (node_by p.stripes (get p.logical.directories t) (get p.logical.texts t) t child.inode.attributes child.inode.names k)) ≡ true
        by (RegularFile size filled verifier) is = some-where (nat_le child.inode.names 1) _ many
        by (DirectoryKind up below) is = absurd (no-directory is)
        by (SpecialFile special size) is = some-where (nat_le child.inode.names 1) _ many

    pub kept-gone : IsGone kept
    kept-gone = record {
      sound = sound-kept;
      volume = counted.volume-counted p m good.well_formed keeps parent (left_names (without_link moment (found_seen p child).node)) here.says some-left
          ∙ (λ j. record (volume_of p) { nodes = insert (node_left (volume_of p).nodes t (sym some-left j)) fileid (removes.directory_left seen) });
      emptied = emptied-none (parts_of p) (parts_of (after kept)) _ (let same = used-kept in omega (arith, same))
          (ap from_list (numbers-stay p.stripes)) refl refl refl;
      directory = at-directory;
      entries = untied-entries p.logical.inodes p.logical.directories m keeps.stands;
      others = at-other;
      other_entries = λ x ne other. untied-others p.logical.inodes p.logical.directories m keeps.stands x ne;
      clear = λ c other q clear k.
          ap (λ (x : ℕ). x == c) (above-same kept.own.inodes.inodes p.logical.inodes.inodes parents-kept k q) ∙ clear k;
    }

  -- ---- all of them

  -- a node that isn't a directory, or an empty directory
  pub gone-all : ((up below : ℕ) → child.inode.kind ≡ DirectoryKind up below → (entries_of p.logical t).list ≡ []) → IsGone (name_gone held child).set
  gone-all empty = by (nat_le child.inode.names 1) refl
    where
      not-directory : (k : InodeKind) → child.inode.kind ≡ k → parent_in k ≡ None → (entries_of p.logical t).list ≡ []
      not-directory k is none = none-entries (get p.logical.directories t) (good.well_formed.logical.named.as_directories t
          ∙ ap is_directory under.node ∙ ap (λ (k : InodeKind). is_some (parent_in k)) is ∙ ap (λ (o : Option ℕ). is_some o) none)
        where
          none-entries : (o : Option DirectoryValue) → is_some o ≡ false → (directory_or_empty o).list ≡ []
          none-entries None e = refl
          none-entries (Some d) e = absurd cc

      by-kind : child.inode.names ≤ 1 → (k : InodeKind) → child.inode.kind ≡ k → IsGone (last_gone held child k).set
      by-kind last (RegularFile size filled verifier) is = file-gone size filled verifier is last
      by-kind last (DirectoryKind up below) is = bare-gone (subst IsEmptyKind (sym is) (tt, refl)) (empty up below is) last
      by-kind last (SpecialFile special size) is = bare-gone (subst IsEmptyKind (sym is) (tt, refl)) (not-directory _ is refl) last

      by : (b : Bool) → nat_le child.inode.names 1 ≡ b → IsGone (if b then last_gone held child child.inode.kind else one_gone held child).set
      by true e = by-kind (grind (arith, nat_tests, e)) child.inode.kind refl
      by false e = kept-gone (grind (arith, nat_tests, e))
