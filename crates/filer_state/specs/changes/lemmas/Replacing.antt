-- The node under the name to which another moves is gone: a file as by REMOVE, a directory as by RMDIR.
use Rattle.std.proofs.Common.{◌≡◌, ℕ, ◌-◌, ◌==◌, ◌&&◌, Bool, true, false, List, [], ◌∷◌, Option, Some, None}
use Rattle.std.proofs.Common.{refl, sym, ap, ◌∙◌, subst, arith, ne_eqb, eq-eqb}
use Rattle.std.specs.Prelude.{if◌then◌else◌}
use Rattle.std.specs.FinMap.{get, remove}
use Rattle.nfs_model.specs.Types.{Moment, Listed}
use Rattle.nfs_model.specs.Server.{Directory, used, Node}
use Rattle.nfs_model.specs.Names.{same_name, dropped_name}
use Rattle.nfs_model.specs.Parts.{Hand}
use Rattle.nfs_model.specs.Moves.{Emptied}
use Rattle.nfs_model.specs.Locate.{Found, Naming}
use Rattle.nfs_model.specs.Serial.Remove.{without_child}
use Rattle.nfs_model.specs.Serial.Rename.{in_directory, is_empty_list, without_target}
use Rattle.nfs_model.specs.volume.Directories.{found}
use Rattle.nfs_model.specs.volume.Inodes.{InodeKind, RegularFile, DirectoryKind, Inode}
use Rattle.nfs_model.specs.volume.lemmas.Inodes.{inode-set-other}
use Rattle.nfs_model.specs.volume.lemmas.Numbered.{get-remove_at, get-insert_at}
use Rattle.filer_state.specs.state.Contents.{VolumeContents}
use Rattle.filer_state.specs.state.Tree.{directory_or_empty, volume_of}
use Rattle.filer_state.specs.state.Names.{parent_in, directory_above}
use Rattle.filer_state.specs.state.Kinds.{IsFile}
use Rattle.filer_state.specs.state.Partition.{parts_of}
use Rattle.filer_state.specs.state.Sound.{IsSound}
use Rattle.filer_state.specs.state.Lenses.{logical_lens}
use Rattle.filer_state.specs.attributes.lemmas.Setattr.{emptied-none}
use Rattle.filer_state.specs.names.Answers.{entries_of}
use Rattle.filer_state.specs.nodes.Dropping.{Dropping, node_dropped}
use Rattle.filer_state.specs.nodes.Sizing.{file_sized}
use Rattle.filer_state.specs.nodes.Laws.{LosesName, IsEmptyKind}
use Rattle.filer_state.specs.nodes.lemmas.Sized.{sized_in}
use Rattle.filer_state.specs.changes.Named.{HeldNaming, HeldNode}
use Rattle.filer_state.specs.changes.Dropping.{dropping_of, emptying_of, child_emptied, name_gone}
use Rattle.filer_state.specs.changes.Renaming as renaming
use Rattle.filer_state.specs.changes.lemmas.Named.{naming_held, naming_seen, IsDirectoryHere, IsChildHere, found_seen}
use Rattle.filer_state.specs.changes.lemmas.Gone.{sound-gone, volume-gone, parts-gone, used-gone}
use Rattle.filer_state.specs.changes.lemmas.Renamed.{directory-seen, not-itself}
use Rattle.filer_state.specs.changes.lemmas.Hanging.{changed-there, MayMove}
use Rattle.filer_state.specs.changes.lemmas.Targets.{may-move}
use Rattle.filer_state.specs.changes.lemmas.NamesGone.{IsGone, gone-all}
use Rattle.nfs_model.specs.Serial.Links.{without_link, node_left}
use Rattle.filer_state.specs.laws.lemmas.InodeKinds as kinds

-- a volume without the target, if there is one: the node may move there
pub record IsFree (p q : VolumeContents) (from to : HeldNaming) (child : HeldNode) (from_parent to_parent : ℕ) (to_seen : Naming)
    (target : Option Found) (hands : List Hand) (made : ℕ) : Type 0 where
  pub sound : IsSound q hands made
  pub volume : volume_of q ≡ record (volume_of p) { nodes = without_target to_seen target (volume_of p).nodes }
  pub may : MayMove q from to child from_parent to_parent
  pub emptied : Emptied (used (volume_of p) - used (volume_of q)) (parts_of p) (parts_of q)

module _ (p : VolumeContents) (hands : List Hand) (made : ℕ) (sound : IsSound p hands made)
    (from_id : ℕ) (from_name : List ℕ) (to_id : ℕ) (to_name : List ℕ) (moment : Moment)
    (fi : Inode) (fp : ℕ) (here_from : IsDirectoryHere p from_id from_name moment fi fp)
    (ti : Inode) (tp : ℕ) (here_to : IsDirectoryHere p to_id to_name moment ti tp)
    (child : HeldNode) (under : IsChildHere p from_id from_name child) (target : HeldNode) (upon : IsChildHere p to_id to_name target)
    (two : (target.fileid == child.fileid) ≡ false)
    (clear : (k : ℕ) → (directory_above p.logical.inodes.inodes k to_id == child.fileid) ≡ false) where
  abbrev t : ℕ
  t = target.fileid

  abbrev from : HeldNaming
  from = naming_held p from_id from_name moment fi

  abbrev to : HeldNaming
  to = naming_held p to_id to_name moment ti

  abbrev to_seen : Naming
  to_seen = naming_seen p to_id to_name moment ti tp

  abbrev Free : VolumeContents → Type 0
  Free q = IsFree p q from to child fp tp to_seen (Some (found_seen p target)) hands made

  not-to : (to_id == t) ≡ false
  not-to = ne_eqb to_id t (λ (h : to_id ≡ t).
      let is : (t == to_id) ≡ true = eq-eqb t to_id (sym h) in
      let isnt = not-itself p sound.well_formed to_id to_name target upon here_to.entered in cc)

  -- the serial server takes it away in two steps
  target-left : without_child to_seen (found_seen p target)
      ≡ record (volume_of p) { nodes = without_target to_seen (Some (found_seen p target)) (volume_of p).nodes }
  target-left = λ j. record (volume_of p) {
    nodes = sym (changed-there (in_directory (λ d. dropped_name d to_name moment)) to_id
        (node_left (volume_of p).nodes t (without_link moment (found_seen p target).node)) (Directory to_seen.directory)
        (stays (without_link moment (found_seen p target).node) ∙ directory-seen p to_id ti tp here_to.there here_to.says)) j;
  }
    where
      stays : (o : Option Node) → get (node_left (volume_of p).nodes t o) to_id ≡ get (volume_of p).nodes to_id
      stays None = get-remove_at (volume_of p).nodes t to_id ∙ ap (λ (b : Bool). if b then None else get (volume_of p).nodes to_id) not-to
      stays (Some node) = get-insert_at (volume_of p).nodes t node to_id ∙ ap (λ (b : Bool). if b then Some node else get (volume_of p).nodes to_id) not-to

  -- ---- by the kinds of both

  empty-is : (list : List Listed) → is_empty_list list ≡ true → list ≡ []
  empty-is [] h = refl
  empty-is (x ∷ list) h = absurd cc

  none-there : (moved : InodeKind) (up below : ℕ) → renaming.may_replace (logical_lens.of p) moved t (DirectoryKind up below) ≡ true
      → (entries_of p.logical t).list ≡ []
  none-there (DirectoryKind old subs) up below h = empty-is (entries_of p.logical t).list h
  none-there moved up below h = absurd cc

  module _ (may : renaming.may_replace (logical_lens.of p) child.inode.kind t target.inode.kind ≡ true) where
    -- a directory that is to go is empty
    empty : (up below : ℕ) → target.inode.kind ≡ DirectoryKind up below → (entries_of p.logical t).list ≡ []
    empty up below is =
        none-there child.inode.kind up below (ap (renaming.may_replace (logical_lens.of p) child.inode.kind t) (sym is) ∙ may)

    -- the other directory isn't what goes: it isn't empty
    not-from : (from_id == t) ≡ false
    not-from = ne_eqb from_id t (λ (h : from_id ≡ t).
        let same : Some fi ≡ Some target.inode = sym here_from.there ∙ ap (get p.logical.inodes.inodes) h ∙ upon.node in
        let one : fi ≡ target.inode = cc in
        let is = kinds.directory-is target.inode.kind fp (ap (λ (i : Inode). parent_in i.kind) (sym one) ∙ here_from.says) in
        let list : (entries_of p.logical from_id).list ≡ [] = ap (λ (x : ℕ). (entries_of p.logical x).list) h ∙ empty fp is.0 is.1 in
        let nothing : Some under.entry ≡ None = sym under.found_there ∙ ap (λ (l : List Listed). found (record { next = 0; list = l }) from_name) list in
        absurd cc)

    target-gone : IsGone p to_id to_name moment ti tp here_to target upon hands hands made made (omega arith) sound (λ n. refl) (name_gone to target).set
    target-gone = gone-all p to_id to_name moment ti tp here_to target upon hands hands made made (omega arith) sound (λ n. refl) empty

    pub free-by : Free (logical_lens.put (name_gone to target).set p)
    free-by = record {
      sound = target-gone.sound;
      volume = target-gone.volume ∙ target-left;
      may = may-move p sound.well_formed from_id from_name to_id to_name moment fi fp here_from ti tp here_to child under target upon two
          (name_gone to target).set hands hands made made (omega arith) sound (λ n. refl) target-gone not-from clear;
      emptied = target-gone.emptied;
    }
