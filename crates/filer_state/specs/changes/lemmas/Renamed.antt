-- A node that moves to another name, step by step as the serial server moves it.
use Rattle.std.proofs.Common.{◌≡◌, ℕ, zero, suc, ◌≤◌, ◌==◌, ◌&&◌, not, Bool, true, false, List, [], ◌∷◌, Option, Some, None}
use Rattle.std.proofs.Common.{refl, sym, ap, ◌∙◌, subst, arith, eq-eqb}
use Rattle.std.specs.Prelude.{if◌then◌else◌, is_some, IfSome}
use Rattle.std.proofs.lemmas.Bool.{eqb-true}
use Rattle.std.specs.List.{AllByRecursion}
use Rattle.std.specs.Option.{option_map}
use Rattle.std.specs.FinMap.{get, nat_cmp-IsAntisymmetric}
use Rattle.nfs_model.specs.Types.{Listed}
use Rattle.nfs_model.specs.Server.{Directory}
use Rattle.nfs_model.specs.Names.{same_name, find_name}
use Rattle.nfs_model.specs.Parts.{one_if}
use Rattle.nfs_model.specs.volume.Directories.{DirectoryValue, found, removed}
use Rattle.nfs_model.specs.volume.Inodes.{Inode}
use Rattle.nfs_model.specs.volume.lemmas.Directories.{same-is, found-removed, found-removed-other}
use Rattle.filer_state.specs.state.Contents.{VolumeContents}
use Rattle.filer_state.specs.state.Tree.{directory_or_empty, node_of, volume_of}
use Rattle.filer_state.specs.state.Names.{root, InodeMap, parent_in, parent_directory, parent_or, is_directory, times_in_list, directory_above, times_named}
use Rattle.filer_state.specs.state.WellFormed.{WellFormed}
use Rattle.filer_state.specs.laws.lemmas.InodeKinds as kinds
use Rattle.filer_state.specs.laws.lemmas.Mapped.{entry-at-least}
use Rattle.filer_state.specs.attributes.lemmas.Getting.{node-at}
use Rattle.filer_state.specs.names.Answers.{entries_of}
use Rattle.filer_state.specs.nodes.Laws.{seen_directory}
use Rattle.filer_state.specs.nodes.lemmas.Others.{IsChildOf}
use Rattle.filer_state.specs.changes.Named.{HeldNode}
use Rattle.filer_state.specs.changes.Renaming.{inode_or}
use Rattle.filer_state.specs.changes.lemmas.Named.{IsChildHere, found-counted}
use Rattle.filer_state.specs.changes.lemmas.Climbing.{stays-there}

-- ---- what is found

pub or-there : (o : Option Inode) (before : Inode) (parent : ℕ) → parent_directory o ≡ Some parent
    → (o ≡ Some (inode_or o before)) × (parent_in (inode_or o before).kind ≡ Some parent)
or-there None before parent says = absurd cc
or-there (Some inode) before parent says = (refl, says)

pub or-empty : (o : Option DirectoryValue) → is_some o ≡ true → o ≡ Some (directory_or_empty o)
or-empty None some = absurd cc
or-empty (Some d) some = refl

-- what holds of all entries holds of one that is found
all-found : (P : Listed → Type 0) (name : List ℕ) (list : List Listed) (e : Listed) → AllByRecursion P list → find_name name list ≡ Some e → P e
all-found P name [] e all h = absurd cc
all-found P name (x ∷ list) e all h = by (same_name x.name name) h (all-found P name list e all.1)
  where
    by : (b : Bool) → (if b then Some x else find_name name list) ≡ Some e → (find_name name list ≡ Some e → P e) → P e
    by true g others = let same : x ≡ e = cc in subst P same all.0
    by false g others = others g

-- a name that isn't there isn't there after another is removed
pub still-absent : (d : DirectoryValue) (name other : List ℕ) → found d other ≡ None → found (removed name d) other ≡ None
still-absent d name other absent = by (same_name name other) refl
  where
    by : (b : Bool) → same_name name other ≡ b → found (removed name d) other ≡ None
    by true e = subst (λ (n : List ℕ). found (removed name d) n ≡ None) (same-is name other e) (found-removed d name)
    by false e = found-removed-other d name other e ∙ absent

-- where parents are the same, so is what is above
pub above-same : (new old : InodeMap) → ((q : ℕ) → parent_directory (get new q) ≡ parent_directory (get old q))
    → (n q : ℕ) → directory_above new n q ≡ directory_above old n q
above-same new old same zero q = refl
above-same new old same (suc n) q =
    ap (λ o. directory_above new n (parent_or o q)) (same q) ∙ above-same new old same n (parent_or (parent_directory (get old q)) q)

-- a directory that is there, as it is seen
pub directory-seen : (q : VolumeContents) (f : ℕ) (inode : Inode) (parent : ℕ) → get q.logical.inodes.inodes f ≡ Some inode
    → parent_in inode.kind ≡ Some parent
    → get (volume_of q).nodes f ≡ Some (Directory (seen_directory inode (entries_of q.logical f) parent))
directory-seen q f inode parent there says =
    node-at q f ∙ ap (option_map (node_of q.stripes q.logical.directories q.logical.texts f)) there
    ∙ ap Some (kinds.directory-seen q.stripes (get q.logical.directories f) (get q.logical.texts f) f inode.attributes inode.names inode.kind parent says)

-- ---- a node under a name

module _ (q : VolumeContents) (well : WellFormed q) (f : ℕ) (name : List ℕ) (child : HeldNode) (under : IsChildHere q f name child)
    (entered : get q.logical.directories f ≡ Some (entries_of q.logical f)) where
  -- it isn't the root
  pub not-root : (child.fileid == root) ≡ false
  not-root = by (child.fileid == root) refl
    where
      by : (b : Bool) → (child.fileid == root) ≡ b → b ≡ false
      by false e = refl
      by true e =
          let some : 1 ≤ times_in_list child.fileid (entries_of q.logical f).list =
          subst (λ (x : ℕ). 1 ≤ times_in_list x (entries_of q.logical f).list) under.is
          (found-counted name (entries_of q.logical f).list under.entry under.found_there) in
          let more = entry-at-least nat_cmp-IsAntisymmetric (λ (x : ℕ × DirectoryValue). times_in_list child.fileid x.1.list)
          q.logical.directories f (entries_of q.logical f) entered in
          let zero : times_named child.fileid q.logical.directories ≡ 0 = ap (λ (k : ℕ). times_named k q.logical.directories) (eqb-true child.fileid root e)
          ∙ well.logical.named.counted root ∙ well.logical.named.once root (ap (λ (o : Option ℕ). is_some o) well.logical.named.root_there) in
          absurd (omega (arith, some, more, zero))

  -- where it is a directory, its parent is the one in which it stands
  pub child-parent : IfSome (parent_directory (get q.logical.inodes.inodes child.fileid)) (λ parent. parent ≡ f)
  child-parent =
      let fits = well.logical.named.fits f (entries_of q.logical f) entered in
      let own : IsChildOf q.logical.inodes.inodes f under.entry =
      all-found (IsChildOf q.logical.inodes.inodes f) name (entries_of q.logical f).list under.entry fits.children under.found_there in
      subst (λ (x : ℕ). IfSome (parent_directory (get q.logical.inodes.inodes x)) (λ parent. parent ≡ f)) under.is own

  -- nor its own directory
  pub not-itself : (child.fileid == f) ≡ false
  not-itself = by (child.fileid == f) refl
    where
      as_directory : is_directory (get q.logical.inodes.inodes f) ≡ true
      as_directory = sym (well.logical.named.as_directories f) ∙ ap (λ o. is_some o) entered

      parent-is : (o : Option ℕ) → is_some o ≡ true → IfSome o (λ parent. parent ≡ f) → parent_or o f ≡ f
      parent-is None some own = absurd cc
      parent-is (Some parent) some own = own

      by : (b : Bool) → (child.fileid == f) ≡ b → b ≡ false
      by false e = refl
      by true e =
          let same : child.fileid ≡ f = eqb-true child.fileid f e in
          let up = subst (λ (x : ℕ). IfSome (parent_directory (get q.logical.inodes.inodes x)) (λ parent. parent ≡ f)) same child-parent in
          let reaches = well.logical.named.rooted f as_directory in
          let top : f ≡ root =
          sym (stays-there q.logical.inodes.inodes f (parent-is (parent_directory (get q.logical.inodes.inodes f)) as_directory up) reaches.0) ∙ reaches.1 in
          let is : (child.fileid == root) ≡ true = eq-eqb child.fileid root (same ∙ top) in
          let isnt = not-root in
          absurd cc
