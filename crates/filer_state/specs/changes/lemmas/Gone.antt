-- A node without bytes and entries that loses its name, as the serial server sees it: what is shown of its directory, and no block moves.
use Rattle.std.proofs.Common.{◌≡◌, ℕ, ◌+◌, ◌*◌, ◌≤◌, ◌==◌, ◌&&◌, Bool, true, false, List, [], ◌∷◌, ◌++◌, map, Option, Some, None}
use Rattle.std.proofs.Common.{refl, sym, ap, ◌∙◌, arith, nat_lt}
use Rattle.std.specs.Prelude.{if◌then◌else◌, nat_le}
use Rattle.std.proofs.lemmas.Bool.Decides.{nat_tests}
use Rattle.std.specs.Ordering.{nat_cmp}
use Rattle.std.specs.Cmp.{nat_cmp_total}
use Rattle.std.specs.FinMap.{FinMap, get, insert, remove, len, nat_cmp-IsAntisymmetric}
use Rattle.std.specs.FinSet as sets
use Rattle.std.specs.FinSet.{FinSet, contains, retain, contains-retain, from_list}
use Rattle.nfs_model.specs.Names.{dropped_name}
use Rattle.nfs_model.specs.Server.{DirectoryNode, Directory, VolumeState, block_size, used, Node}
use Rattle.nfs_model.specs.Shown.{shown, before_of}
use Rattle.nfs_model.specs.Parts.{Hand}
use Rattle.nfs_model.specs.Moves.{PartsChange}
use Rattle.nfs_model.specs.Types.{Moment, GoneDone}
use Rattle.nfs_model.specs.Locate.{Naming}
use Rattle.nfs_model.specs.Serial.Remove as removes
use Rattle.nfs_model.specs.Serial.Remove.{without_child, gone}
use Rattle.nfs_model.specs.volume.Inodes.{Inode, InodeKind, RegularFile, DirectoryKind, SpecialFile}
use Rattle.nfs_model.specs.volume.Stripes.{StripeValue, card_dropped}
use Rattle.nfs_model.specs.volume.lemmas.Numbered.{get-insert_at, get-remove_at, same-answers, itself}
use Rattle.filer_state.specs.state.Contents.{VolumeContents}
use Rattle.filer_state.specs.state.Tree.{file_touch, volume_of, node_by, node_of}
use Rattle.filer_state.specs.state.Names.{parent_in}
use Rattle.filer_state.specs.state.Partition.{parts_of, stored, numbers_in, all_numbers}
use Rattle.filer_state.specs.state.Sound.{IsSound}
use Rattle.filer_state.specs.state.Lenses.{LogicalSet, logical_lens}
use Rattle.filer_state.specs.state.Calls.{VolumeCall}
use Rattle.filer_state.specs.state.Changes.{shown_inode}
use Rattle.filer_state.specs.laws.lemmas.Counted.{used-is}
use Rattle.filer_state.specs.laws.lemmas.SameBlocks.{total-mapped}
use Rattle.filer_state.specs.names.lemmas.DirectoryKinds.{same-shown}
use Rattle.filer_state.specs.nodes.Making.{directories_in}
use Rattle.filer_state.specs.nodes.Dropping.{Dropping, directory_left}
use Rattle.filer_state.specs.nodes.Laws.{WeighAlike, LosesName, seen_directory}
use Rattle.filer_state.specs.nodes.lemmas.Unnamed.{parent-kept, at-directory}
use Rattle.filer_state.specs.nodes.lemmas.Dropped.{left_in, sound-left, volume-left}
use Rattle.filer_state.specs.changes.Named.{HeldNode}
use Rattle.filer_state.specs.changes.Dropping.{dropping_of, held_gone}
use Rattle.filer_state.specs.changes.lemmas.Named.{RightAs, naming_held, naming_seen, IsDirectoryHere, before-shown, found_seen}
use Rattle.filer_state.specs.changes.lemmas.Setting.{node-shows}
use Rattle.nfs_model.specs.Serial.Links.{without_link, node_left}

-- ---- maps and sets

-- what is put in and taken out again isn't there
pub remove-put : {X : Type 0} (m : FinMap nat_cmp X) (k : ℕ) (x : X) → remove (insert m k x) k ≡ remove m k
remove-put {X} m k x = same-answers (remove (insert m k x) k) (remove m k) (λ q.
    get-remove_at (insert m k x) k q
    ∙ ap (λ (o : Option X). if q == k then None else o) (get-insert_at m k x q)
    ∙ by (q == k) (get m q)
    ∙ sym (get-remove_at m k q))
  where
    by : (b : Bool) (o : Option X) → (if b then None else if b then Some x else o) ≡ (if b then None else o)
    by true o = refl
    by false o = refl

-- no block starts before the end of a file without bytes
pub none-before : (s : FinSet nat_cmp) → retain s (λ b. nat_lt (block_size * b) 0) ≡ sets.empty
none-before s = sets.same_set nat_cmp_total nat_cmp-IsAntisymmetric (retain s (λ b. nat_lt (block_size * b) 0)) sets.empty (λ q.
    contains-retain s (λ b. nat_lt (block_size * b) 0) q
    (λ x same. ap (λ (b : ℕ). nat_lt (block_size * b) 0) (sym (nat_cmp-IsAntisymmetric q x same)))
    ∙ ap (λ t. contains s q && t) (never (block_size * q)) ∙ none (contains s q)
    ∙ sym (sets.contains-empty nat_cmp q))
  where
    never : (n : ℕ) → nat_lt n 0 ≡ false
    never n = grind (arith, nat_tests)

    none : (b : Bool) → (b && false) ≡ false
    none true = refl
    none false = refl

-- ---- a node dropped from a volume

module _ (q : VolumeContents) (m : Dropping) (may : LosesName m q.logical.inodes q.logical.directories) (parent : ℕ)
    (says : parent_in m.inode.kind ≡ Some parent) (hands hands' : List Hand) (made now : ℕ) (later : made ≤ now)
    (weigh : WeighAlike q.number hands hands') (sound : IsSound q hands made) where
  abbrev after : VolumeContents
  after = left_in m q

  abbrev directory_then : DirectoryNode
  directory_then = dropped_name (seen_directory m.inode m.entries parent) m.name m.moment

  abbrev volume_then : VolumeState
  volume_then = record (volume_of q) { nodes = insert (remove (volume_of q).nodes m.fileid) m.directory (Directory directory_then) }

  pub sound-gone : IsSound after hands' now
  sound-gone = sound-left q m sound.well_formed may hands hands' made now later weigh sound

  pub volume-gone : volume_of after ≡ volume_then
  volume-gone = volume-left q m sound.well_formed may parent says

  -- the directory after it
  directory-gone : shown volume_then m.directory (Directory directory_then) ≡ shown_inode q.number m.directory (directory_left m) None
  directory-gone =
      node-shows after volume_then m.directory (Directory directory_then) (directory_left m) sound-gone.well_formed volume-gone
      (get-insert_at (remove (volume_of q).nodes m.fileid) m.directory (Directory directory_then) m.directory
      ∙ ap (λ (b : Bool). if b then Some (Directory directory_then) else get (remove (volume_of q).nodes m.fileid) m.directory) (itself m.directory))
      (at-directory q.logical.inodes q.logical.directories m may)
      ∙ same-shown q.number m.directory (directory_left m) parent
      (parent-kept (directories_in m.dropped.kind) m.inode.kind ∙ says) (file_touch after.stripes m.directory)

  -- no block moves
  numbers-stay : (stripes : List StripeValue) → all_numbers (map (card_dropped m.fileid) stripes) ≡ all_numbers stripes
  numbers-stay [] = refl
  numbers-stay (s ∷ stripes) = ap (λ ns. numbers_in s ++ ns) (numbers-stay stripes)

  pub parts-gone : parts_of after ≡ parts_of q
  parts-gone = λ j. record (parts_of q) { files = from_list (numbers-stay q.stripes j) }

  pub used-gone : used (volume_of after) ≡ used (volume_of q)
  used-gone =
      used-is after sound-gone.well_formed ∙ sound-gone.well_formed.used
      ∙ total-mapped (card_dropped m.fileid) (λ (s : StripeValue). len s.blocks) (λ s. refl) q.stripes
      ∙ sym (used-is q sound.well_formed ∙ sound.well_formed.used)

-- ---- a name gone

-- the last name of a node as the serial server sees it: it goes with it
pub without-last : (p : VolumeContents) (child : HeldNode) (moment : Moment) → child.inode.names ≤ 1
    → without_link moment (node_of p.stripes p.logical.directories p.logical.texts child.fileid child.inode) ≡ None
without-last p child moment last = by child.inode.kind
  where
    few : nat_le child.inode.names 1 ≡ true
    few = grind (arith, nat_tests, last)

    none-where : (b : Bool) (node : Node) → b ≡ true → (if b then None else Some node) ≡ None
    none-where true node e = refl
    none-where false node e = absurd cc

    by : (k : InodeKind) → without_link moment (node_by p.stripes (get p.logical.directories child.fileid) (get p.logical.texts child.fileid) child.fileid
        child.inode.attributes child.inode.names k) ≡ None
    by (RegularFile size filled verifier) = none-where (nat_le child.inode.names 1) _ few
    by (DirectoryKind parent subs) = refl
    by (SpecialFile special size) = none-where (nat_le child.inode.names 1) _ few

-- the volume without it
pub last-left : (p : VolumeContents) (seen : Naming) (child : HeldNode) → child.inode.names ≤ 1 → seen.volume ≡ volume_of p
    → without_child seen (found_seen p child)
    ≡ record (volume_of p) { nodes = insert (remove (volume_of p).nodes child.fileid) seen.fileid (removes.directory_left seen) }
last-left p seen child last same = λ j. record (same j) {
  nodes = insert (node_left (same j).nodes child.fileid (without-last p child seen.moment last j)) seen.fileid (removes.directory_left seen);
}

-- a call by which a node loses its name, in a volume that may have changed but for the directory
module _ (p : VolumeContents) (fileid : ℕ) (name : List ℕ) (moment : Moment) (inode : Inode) (parent : ℕ)
    (here : IsDirectoryHere p fileid name moment inode parent) (child_seen child : HeldNode) (set : LogicalSet)
    (hands hands' : List Hand) (made : ℕ) (sound : IsSound p hands made) (weigh : WeighAlike p.number hands hands') where
  abbrev q : VolumeContents
  q = logical_lens.put set p

  abbrev m : Dropping
  m = dropping_of (naming_held p fileid name moment inode) child

  abbrev seen : Naming
  seen = naming_seen p fileid name moment inode parent

  pub gone-right : (c : VolumeCall) → LosesName m q.logical.inodes q.logical.directories → IsSound q hands made
      → record (volume_of q) { nodes = insert (remove (volume_of q).nodes child.fileid) fileid (removes.directory_left seen) }
      ≡ without_child seen (found_seen p child_seen)
      → PartsChange c.call c.node (stored p) (stored (left_in m q))
      → RightAs c p hands' (made + 1) (held_gone (naming_held p fileid name moment inode) child set) (gone seen (found_seen p child_seen))
  gone-right c may still left parts =
      let before = ap before_of (sym (before-shown p fileid name moment sound.well_formed inode parent here)) in
      let told =
      (λ j. shown (sym left j) fileid (removes.directory_left seen))
      ∙ directory-gone q m may parent here.says hands hands' made (made + 1) (omega arith) weigh still in (
        λ j. GoneDone (record { before = before j; after = sym told j }),
        volume-gone q m may parent here.says hands hands' made (made + 1) (omega arith) weigh still ∙ left,
        parts,
        sound-gone q m may parent here.says hands hands' made (made + 1) (omega arith) weigh still,
      )
