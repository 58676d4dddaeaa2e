-- What RENAME checks and tells by what is under Logical, beside the serial server.
use Rattle.std.proofs.Common.{◌≡◌, ℕ, zero, suc, ◌==◌, Bool, true, false, List, Option, Some, None, refl, sym, ap, ◌∙◌, subst, eq-eqb}
use Rattle.std.specs.Prelude.{is_some, IfSome, if◌then◌else◌}
use Rattle.std.proofs.lemmas.Bool.{eqb-true}
use Rattle.std.specs.Option.{option_map}
use Rattle.std.specs.FinMap.{get}
use Rattle.nfs_model.specs.Types.{Status}
use Rattle.nfs_model.specs.Server.{Attributes, DirectoryNode, Node, Directory, VolumeState}
use Rattle.nfs_model.specs.Shown.{shown}
use Rattle.nfs_model.specs.Locate.{Effect, Fails, on_directory}
use Rattle.nfs_model.specs.Serial.Rename as renames
use Rattle.nfs_model.specs.Serial.Rename.{Renaming, Climb, PastIt, ToIt, on_parent, parent_above, climb, met_above, may_go, node_or}
use Rattle.nfs_model.specs.volume.Inodes.{InodeKind, DirectoryKind, Inode}
use Rattle.filer_state.specs.state.Contents.{VolumeContents}
use Rattle.filer_state.specs.state.Tree.{file_touch, node_by, node_of, volume_of}
use Rattle.filer_state.specs.state.Names.{InodeMap, root, parent_in, parent_directory, parent_or, is_directory, directory_above}
use Rattle.filer_state.specs.state.WellFormed.{WellFormed}
use Rattle.filer_state.specs.state.Lenses.{logical_lens}
use Rattle.filer_state.specs.state.Changes.{LogicalAnswer, shown_inode}
use Rattle.filer_state.specs.attributes.lemmas.Getting.{node-at, node-shown}
use Rattle.filer_state.specs.names.Answers.{entries_of, directory_node}
use Rattle.filer_state.specs.names.lemmas.DirectoryKinds.{same-shown}
use Rattle.filer_state.specs.changes.Named.{HeldNaming, HeldNode}
use Rattle.filer_state.specs.changes.Renaming as held
use Rattle.filer_state.specs.changes.Renaming.{HeldRenaming, fails_both, above, climbs, held_above, target_may_go, inode_or, directory_now, on_directory_inode}
use Rattle.filer_state.specs.changes.Renaming.{if_directory}
use Rattle.filer_state.specs.changes.lemmas.Named.{IsChildHere, found_seen}
use Rattle.filer_state.specs.changes.lemmas.Climbing.{climbs-past, stays-there, up-last, round-at-top}
use Rattle.filer_state.specs.changes.lemmas.Renamed.{child-parent, not-root}

-- ---- the directories

-- what holds of failures, and of what is run on each directory that is there, holds of both
pub directory-right : (p : VolumeContents) (fileid : ℕ) (Right : LogicalAnswer → Effect → Type 0) (run : Inode → LogicalAnswer)
    (model : DirectoryNode → Effect) → ((status : Status) → Right (fails_both status (logical_lens.of p)) (Fails status))
    → ((inode : Inode) (parent : ℕ) → get p.logical.inodes.inodes fileid ≡ Some inode → parent_in inode.kind ≡ Some parent
    → Right (run inode) (model (directory_node inode parent (entries_of p.logical fileid))))
    → Right (on_directory_inode (get p.logical.inodes.inodes fileid) (logical_lens.of p) run) (on_directory (get (volume_of p).nodes fileid) model)
directory-right p fileid Right run model failure goes =
    subst (λ (o : Option Node). Right (on_directory_inode (get p.logical.inodes.inodes fileid) (logical_lens.of p) run) (on_directory o model))
    (sym (node-at p fileid)) (by (get p.logical.inodes.inodes fileid) refl)
  where
    kinds : (inode : Inode) → get p.logical.inodes.inodes fileid ≡ Some inode → (kind : InodeKind) → inode.kind ≡ kind
        → Right (if_directory kind (logical_lens.of p) (run inode))
        (on_directory (Some (node_by p.stripes (get p.logical.directories fileid) (get p.logical.texts fileid) fileid inode.attributes inode.names kind)) model)
    kinds inode there (DirectoryKind parent subs) is = goes inode parent there (ap parent_in is)
    kinds inode there kind is = failure _

    by : (o : Option Inode) → get p.logical.inodes.inodes fileid ≡ o
        → Right (on_directory_inode o (logical_lens.of p) run) (on_directory (option_map (node_of p.stripes p.logical.directories p.logical.texts fileid) o) model)
    by None e = failure _
    by (Some inode) e = kinds inode e inode.kind refl

-- a directory after a call, where it has entries
pub directory-told : (z : VolumeContents) (well : WellFormed z) (n : HeldNaming) (volume : VolumeState) (d : DirectoryNode) → volume_of z ≡ volume
    → is_some (get z.logical.directories n.fileid) ≡ true
    → shown volume n.fileid (node_or (get volume.nodes n.fileid) (Directory d))
    ≡ shown_inode z.number n.fileid (directory_now n (logical_lens.of z)) None
directory-told z well n volume d is entered =
    (λ j. shown (sym is j) n.fileid (node_or (get (sym is j).nodes n.fileid) (Directory d)))
    ∙ by (get z.logical.inodes.inodes n.fileid) refl
  where
    as_directory : is_directory (get z.logical.inodes.inodes n.fileid) ≡ true
    as_directory = sym (well.logical.named.as_directories n.fileid) ∙ entered

    parents : (inode : Inode) (o : Option ℕ) → parent_in inode.kind ≡ o → is_some o ≡ true
        → shown_inode z.number n.fileid inode (file_touch z.stripes n.fileid) ≡ shown_inode z.number n.fileid inode None
    parents inode None is some = absurd cc
    parents inode (Some parent) is some = same-shown z.number n.fileid inode parent is (file_touch z.stripes n.fileid)

    by : (o : Option Inode) → get z.logical.inodes.inodes n.fileid ≡ o
        → shown (volume_of z) n.fileid (node_or (get (volume_of z).nodes n.fileid) (Directory d))
        ≡ shown_inode z.number n.fileid (directory_now n (logical_lens.of z)) None
    by None e = let none = ap is_directory e in let some = as_directory in absurd cc
    by (Some inode) e =
        ap (λ (o : Option Node). shown (volume_of z) n.fileid (node_or o (Directory d)))
        (node-at z n.fileid ∙ ap (option_map (node_of z.stripes z.logical.directories z.logical.texts n.fileid)) e)
        ∙ node-shown z well n.fileid inode e
        ∙ parents inode (parent_in inode.kind) refl (sym (ap is_directory e) ∙ as_directory)
        ∙ ap (λ (o : Option Inode). shown_inode z.number n.fileid (inode_or o n.inode) None) (sym e)

-- ---- a directory below itself

module _ (p : VolumeContents) where
  above-seen : (q : ℕ) → parent_above q (get (volume_of p).nodes q) ≡ above q (parent_directory (get p.logical.inodes.inodes q))
  above-seen q = ap (parent_above q) (node-at p q) ∙ by (get p.logical.inodes.inodes q)
    where
      kinds : (a : Attributes) (names : ℕ) (kind : InodeKind)
          → parent_above q (Some (node_by p.stripes (get p.logical.directories q) (get p.logical.texts q) q a names kind)) ≡ above q (parent_in kind)
      kinds a names (DirectoryKind parent subs) = refl
      kinds a names kind = refl

      by : (o : Option Inode) → parent_above q (option_map (node_of p.stripes p.logical.directories p.logical.texts q) o) ≡ above q (parent_directory o)
      by None = refl
      by (Some inode) = kinds inode.attributes inode.names inode.kind

  on-same : (o : Option ℕ) (f g : ℕ → Climb) → ((u : ℕ) → f u ≡ g u) → on_parent o f ≡ on_parent o g
  on-same None f g same = refl
  on-same (Some u) f g same = same u

  climb-seen : (n t q : ℕ) → climb n (volume_of p) t q ≡ climbs n p.logical.inodes.inodes t q
  climb-seen zero t q = refl
  climb-seen (suc n) t q =
      ap (λ (c : Climb). if q == t then ToIt else c)
      (ap (λ (o : Option ℕ). on_parent o (climb n (volume_of p) t)) (above-seen q)
      ∙ on-same (above q (parent_directory (get p.logical.inodes.inodes q))) (climb n (volume_of p) t) (climbs n p.logical.inodes.inodes t)
      (climb-seen n t))

  pub met-seen : (r : Renaming) (h : HeldRenaming) (c : ℕ) (inode : Inode) → r.from.volume ≡ volume_of p → h.from.set ≡ logical_lens.of p
      → r.from.fileid ≡ h.from.fileid → r.to.fileid ≡ h.to.fileid
      → met_above r c (node_of p.stripes p.logical.directories p.logical.texts c inode) ≡ held_above h c inode.kind
  met-seen r h c inode volume set from to = by inode.kind
    where
      by : (kind : InodeKind) → met_above r c (node_by p.stripes (get p.logical.directories c) (get p.logical.texts c) c inode.attributes inode.names kind) ≡ held_above h c kind
      by (DirectoryKind parent subs) =
          (λ j. if from j == to j then PastIt else climb (volume j).most_steps (volume j) c (to j))
          ∙ ap (λ (m : Climb). if h.from.fileid == h.to.fileid then PastIt else m) (climb-seen p.logical.most_steps c h.to.fileid
          ∙ (λ j. climbs (sym set j).own.most_steps (sym set j).own.inodes.inodes c h.to.fileid))
      by kind = refl

  -- the target may go
  pub may-go-seen : (child : HeldNode) (target : HeldNode)
      → may_go (node_of p.stripes p.logical.directories p.logical.texts child.fileid child.inode) (Some (found_seen p target))
      ≡ target_may_go (logical_lens.of p) child (Some target)
  may-go-seen child target = by child.inode.kind target.inode.kind
    where
      by : (k l : InodeKind)
          → renames.may_replace (node_by p.stripes (get p.logical.directories child.fileid) (get p.logical.texts child.fileid) child.fileid child.inode.attributes child.inode.names k)
          (node_by p.stripes (get p.logical.directories target.fileid) (get p.logical.texts target.fileid) target.fileid target.inode.attributes target.inode.names l)
          ≡ held.may_replace (logical_lens.of p) k target.fileid l
      by (DirectoryKind parent subs) (DirectoryKind parent' subs') = refl
      by (DirectoryKind parent subs) l = refl
      by k (DirectoryKind parent subs) = refl
      by k l = refl

-- ---- a node is above no directory that isn't below it

above-turned : (inodes : InodeMap) (a b q : ℕ)
    → directory_above inodes a (directory_above inodes b q) ≡ directory_above inodes b (directory_above inodes a q)
above-turned inodes a zero q = refl
above-turned inodes a (suc b) q =
    above-turned inodes a b (parent_or (parent_directory (get inodes q)) q) ∙ ap (directory_above inodes b) (up-last inodes a q)

module _ (p : VolumeContents) (well : WellFormed p) (from_id : ℕ) (from_name : List ℕ) (child : HeldNode) (under : IsChildHere p from_id from_name child)
    (entered : get p.logical.directories from_id ≡ Some (entries_of p.logical from_id)) (h : HeldRenaming) (set : h.from.set ≡ logical_lens.of p)
    (from_is : h.from.fileid ≡ from_id) (as_directory : is_directory (get p.logical.inodes.inodes h.to.fileid) ≡ true) where
  abbrev inodes : InodeMap
  inodes = p.logical.inodes.inodes

  file-clear : parent_in child.inode.kind ≡ None → (k : ℕ) → (directory_above inodes k h.to.fileid == child.fileid) ≡ false
  file-clear none k = by (directory_above inodes k h.to.fileid == child.fileid) refl
    where
      by : (b : Bool) → (directory_above inodes k h.to.fileid == child.fileid) ≡ b → b ≡ false
      by false e = refl
      by true e =
          let at : directory_above inodes k h.to.fileid ≡ child.fileid = eqb-true (directory_above inodes k h.to.fileid) child.fileid e in
          let way = well.logical.named.rooted h.to.fileid as_directory in
          let stays = stays-there inodes child.fileid
          (ap (λ o. parent_or (parent_directory o) child.fileid) under.node ∙ ap (λ o. parent_or o child.fileid) none) way.0 in
          let top = stays-there inodes root (ap (λ o. parent_or o root) well.logical.named.root_there) k in
          let same : child.fileid ≡ root =
          sym stays ∙ sym (ap (directory_above inodes way.0) at) ∙ above-turned inodes way.0 k h.to.fileid ∙ ap (directory_above inodes k) way.1 ∙ top in
          let is : (child.fileid == root) ≡ true = eq-eqb child.fileid root same in
          let isnt = not-root p well from_id from_name child under entered in
          absurd cc

  -- a directory isn't above the one in which it stands
  own-clear : (parent : ℕ) → parent_in child.inode.kind ≡ Some parent → (k : ℕ) → (directory_above inodes k from_id == child.fileid) ≡ false
  own-clear parent says k = by (directory_above inodes k from_id == child.fileid) refl
    where
      by : (b : Bool) → (directory_above inodes k from_id == child.fileid) ≡ b → b ≡ false
      by false e = refl
      by true e =
          let up : parent_directory (get inodes child.fileid) ≡ Some parent = ap parent_directory under.node ∙ says in
          let is : parent ≡ from_id =
          subst (λ (o : Option ℕ). IfSome o (λ (u : ℕ). u ≡ from_id)) up (child-parent p well from_id from_name child under entered) in
          let round : directory_above inodes (suc k) child.fileid ≡ child.fileid =
          ap (λ (o : Option ℕ). directory_above inodes k (parent_or o child.fileid)) up ∙ ap (directory_above inodes k) is
          ∙ eqb-true (directory_above inodes k from_id) child.fileid e in
          let way = well.logical.named.rooted child.fileid (ap (λ (o : Option ℕ). is_some o) up) in
          let same = round-at-top inodes root (ap (λ (o : Option ℕ). parent_or o root) well.logical.named.root_there) k way.0 child.fileid round way.1 in
          let is_root : (child.fileid == root) ≡ true = eq-eqb child.fileid root same in
          let isnt = not-root p well from_id from_name child under entered in
          absurd cc

  pub clear-of : held_above h child.fileid child.inode.kind ≡ PastIt → (k : ℕ) → (directory_above inodes k h.to.fileid == child.fileid) ≡ false
  clear-of passes = by child.inode.kind refl passes
    where
      kept : (parent : ℕ) → parent_in child.inode.kind ≡ Some parent → (b : Bool) → (h.from.fileid == h.to.fileid) ≡ b
          → (if b then PastIt else climbs h.from.set.own.most_steps h.from.set.own.inodes.inodes child.fileid h.to.fileid) ≡ PastIt
          → (k : ℕ) → (directory_above inodes k h.to.fileid == child.fileid) ≡ false
      kept parent says true one past = λ k.
          ap (λ (x : ℕ). directory_above inodes k x == child.fileid) (sym (eqb-true h.from.fileid h.to.fileid one) ∙ from_is)
          ∙ own-clear parent says k
      kept parent says false two past = climbs-past inodes child.fileid p.logical.most_steps h.to.fileid
          ((λ j. climbs (sym set j).own.most_steps (sym set j).own.inodes.inodes child.fileid h.to.fileid) ∙ past)

      by : (kind : InodeKind) → child.inode.kind ≡ kind → held_above h child.fileid kind ≡ PastIt
          → (k : ℕ) → (directory_above inodes k h.to.fileid == child.fileid) ≡ false
      by (DirectoryKind parent subs) is past = kept parent (ap parent_in is) (h.from.fileid == h.to.fileid) refl past
      by kind is past = file-clear (ap parent_in is)
