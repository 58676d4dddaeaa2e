-- A node that is set, with a size and without: all stays sound, the volume has the node that the serial server sets, and the blocks that
-- leave a file are dead. SETATTR and CREATE rest on it.
use Rattle.std.proofs.Common.{◌≡◌, ℕ, ◌+◌, ◌-◌, ◌≤◌, ◌==◌, Bool, true, false, List, [], ◌∷◌, ◌++◌, length, map, Option, Some, None}
use Rattle.std.proofs.Common.{refl, sym, ap, ◌∙◌, arith, nat_lt}
use Rattle.std.specs.Prelude.{if◌then◌else◌}
use Rattle.std.proofs.lemmas.Bool.Decides.{nat_tests}
use Rattle.std.specs.Option.{option_map}
use Rattle.std.specs.FinMap.{get, insert}
use Rattle.std.specs.FinSet.{from_list}
use Rattle.nfs_model.specs.Types.{Moment, SetAttributes, NotSynchronous, Invalid, TooBig}
use Rattle.nfs_model.specs.Server.{Attributes, Node, File, VolumeState, used}
use Rattle.nfs_model.specs.Shown.{shown, times, settled}
use Rattle.nfs_model.specs.Serial.Rights.{ownership_of}
use Rattle.nfs_model.specs.Serial.Setattr.{is_stale_guard, has_bad_time, is_past, resized, set_attributes, set_node, setattr_fault, with_node}
use Rattle.nfs_model.specs.Moves.{Emptied}
use Rattle.nfs_model.specs.Parts.{Hand}
use Rattle.nfs_model.specs.volume.Inodes.{InodeKind, RegularFile, Inode}
use Rattle.nfs_model.specs.volume.Stripes.{OfFile, StripeValue, touch_of}
use Rattle.nfs_model.specs.volume.lemmas.Inodes.{inode-set-there, inode-set-other, next-set, used-set-same}
use Rattle.nfs_model.specs.volume.lemmas.Numbered.{get-insert_at, itself}
use Rattle.filer_state.specs.state.Contents.{VolumeContents}
use Rattle.filer_state.specs.state.Tree.{file_touch, later, node_by, node_of, volume_of}
use Rattle.filer_state.specs.state.Kinds.{IsFile}
use Rattle.filer_state.specs.state.WellFormed.{WellFormed}
use Rattle.filer_state.specs.state.Partition.{parts_of, numbers_in, all_numbers}
use Rattle.filer_state.specs.state.Sound.{IsSound}
use Rattle.filer_state.specs.state.Lenses.{logical_lens}
use Rattle.filer_state.specs.state.Changes.{stripes_settled, attributes_now, shown_inode, inode_after}
use Rattle.filer_state.specs.laws.lemmas.Counted.{used-is}
use Rattle.filer_state.specs.attributes.lemmas.Getting.{node-at, node-shown}
use Rattle.filer_state.specs.attributes.lemmas.Settled.{touch-gone}
use Rattle.filer_state.specs.attributes.lemmas.Setting.{set_in, sound-set, with_attributes, nodes-set}
use Rattle.filer_state.specs.attributes.lemmas.Setattr.{emptied-none}
use Rattle.filer_state.specs.nodes.Laws.{WeighAlike, file_resized, file_seen}
use Rattle.filer_state.specs.nodes.Sizing.{Sizing, stripe_sized, all_freed, inode_sized}
use Rattle.filer_state.specs.nodes.lemmas.Sized.{sized_in, card-sized, sound-sized}
use Rattle.filer_state.specs.nodes.lemmas.SizedNodes.{volume-sized, was-file}
use Rattle.filer_state.specs.nodes.lemmas.Emptied.{emptied-sized}
use Rattle.filer_state.specs.changes.Attributes.{NodeSet, sizing_of, node_sized, node_changed, is_directory_sized, set_fault, node_fault}

-- ---- the checks

module _ (p : VolumeContents) (f : ℕ) (set : SetAttributes) (old : Inode) where
  abbrev was : Node
  was = node_of p.stripes p.logical.directories p.logical.texts f old

  -- the attributes that hold
  times-now : times was ≡ attributes_now (file_touch p.stripes f) old.attributes old.kind
  times-now = by old.kind
    where
      by : (kind : InodeKind) → times (node_by p.stripes (get p.logical.directories f) (get p.logical.texts f) f old.attributes old.names kind)
          ≡ attributes_now (file_touch p.stripes f) old.attributes kind
      by (RegularFile size filled verifier) = refl
      by kind = refl

  -- the first check that fails is the serial server's
  pub fault-is : (guard : Option Moment) → setattr_fault (volume_of p) set guard was ≡ node_fault f set guard old (logical_lens.of p)
  fault-is guard = by old.kind
    where
      by : (kind : InodeKind) → setattr_fault (volume_of p) set guard (node_by p.stripes (get p.logical.directories f) (get p.logical.texts f) f old.attributes old.names kind)
          ≡ set_fault p.logical.largest set guard (attributes_now (file_touch p.stripes f) old.attributes kind).ctime kind
      by (RegularFile size filled verifier) = refl
      by kind = refl

-- where no check fails
all-pass : (a b c d : Bool)
    → (if a then Some NotSynchronous else if b then Some Invalid else if c then Some Invalid else if d then Some TooBig else None) ≡ None
    → (c ≡ false) × (d ≡ false)
all-pass true b c d e = absurd cc
all-pass false true c d e = absurd cc
all-pass false false true d e = absurd cc
all-pass false false false true e = absurd cc
all-pass false false false false e = (refl, refl)

-- a size may only be set for a file, and is at most the largest
pub record MaySize (largest size : ℕ) (kind : InodeKind) : Type 0 where
  pub old_size : ℕ
  pub filled : ℕ
  pub verifier : Option (List ℕ)
  pub is_file : IsFile kind old_size filled verifier
  pub small : size ≤ largest

may-size : (largest size : ℕ) (set : SetAttributes) (guard : Option Moment) (ctime : Moment) (kind : InodeKind)
    → set.size ≡ Some size → set_fault largest set guard ctime kind ≡ None → MaySize largest size kind
may-size largest size set guard ctime kind asked passes =
    let pass = all-pass (is_stale_guard guard ctime) (has_bad_time set) (is_directory_sized kind set.size) (is_past set.size largest) passes in
    by kind (ap (is_directory_sized kind) (sym asked) ∙ pass.0) (ap (λ (o : Option ℕ). is_past o largest) (sym asked) ∙ pass.1)
  where
    fits : nat_lt largest size ≡ false → size ≤ largest
    fits h = grind (arith, nat_tests)

    by : (k : InodeKind) → is_directory_sized k (Some size) ≡ false → nat_lt largest size ≡ false → MaySize largest size k
    by (RegularFile s n verifier) a b = record { old_size = s; filled = n; verifier = verifier; is_file = refl; small = fits b }
    by k a b = absurd cc

-- ---- a node set

-- what a set that is put back comes to, where a node of the volume becomes another
pub record IsNodeSet (p : VolumeContents) (f : ℕ) (node : Node) (new : NodeSet) (hands : List Hand) (now : ℕ) : Type 0 where
  pub sound : IsSound (logical_lens.put new.set p) hands now
  pub volume : volume_of (logical_lens.put new.set p) ≡ with_node (volume_of p) f node
  -- the inode after it, and those that stay
  pub there : get new.set.own.inodes.inodes f ≡ Some new.inode
  pub others : (q : ℕ) → (q == f) ≡ false → get new.set.own.inodes.inodes q ≡ get p.logical.inodes.inodes q
  pub directories : new.set.own.directories ≡ p.logical.directories
  -- the attributes after it
  pub is_shown : shown (with_node (volume_of p) f node) f node ≡ shown_inode p.number f new.inode None
  pub emptied : Emptied (used (volume_of p) - used (volume_of (logical_lens.put new.set p))) (parts_of p) (parts_of (logical_lens.put new.set p))

-- a node that a volume has is shown by its inode
pub node-shows : (after : VolumeContents) (volume : VolumeState) (f : ℕ) (node : Node) (next : Inode) → WellFormed after → volume_of after ≡ volume
    → get volume.nodes f ≡ Some node → get after.logical.inodes.inodes f ≡ Some next
    → shown volume f node ≡ shown_inode after.number f next (file_touch after.stripes f)
node-shows after volume f node next well is has there =
    let found : Some (node_of after.stripes after.logical.directories after.logical.texts f next) ≡ Some node =
    sym (node-at after f ∙ ap (option_map (node_of after.stripes after.logical.directories after.logical.texts f)) there) ∙ ap (λ v. get v.nodes f) is ∙ has in
    let same : node_of after.stripes after.logical.directories after.logical.texts f next ≡ node = cc in
    (λ j. shown (sym is j) f (sym same j)) ∙ node-shown after well f next there

-- one that was set is found
pub set-there : (volume : VolumeState) (f : ℕ) (node : Node) → get (with_node volume f node).nodes f ≡ Some node
set-there volume f node = get-insert_at volume.nodes f node f ∙ ap (λ (b : Bool). if b then Some node else get volume.nodes f) (itself f)

module _ (p : VolumeContents) (f : ℕ) (set : SetAttributes) (moment : Moment) (old : Inode) (there : get p.logical.inodes.inodes f ≡ Some old)
    (hands hands' : List Hand) (made : ℕ) (weigh : WeighAlike p.number hands hands') (sound : IsSound p hands made) where
  abbrev node : Node
  node = set_node set moment (node_of p.stripes p.logical.directories p.logical.texts f old)

  -- ---- without a size

  module _ (unsized : set.size ≡ None) where
    abbrev next : Inode
    next = inode_after set moment (file_touch p.stripes f) old

    abbrev after : VolumeContents
    after = set_in f next p

    node-is : with_attributes next.attributes (node_of p.stripes p.logical.directories p.logical.texts f old) ≡ node
    node-is =
        ap (λ a. with_attributes (set_attributes set moment a) (node_of p.stripes p.logical.directories p.logical.texts f old)) (sym (times-now p f set old))
        ∙ by (node_of p.stripes p.logical.directories p.logical.texts f old)
      where
        by : (n : Node) → with_attributes (set_attributes set moment (times n)) n ≡ set_node set moment n
        by (File g) = ap (λ o. File (record (resized o (settled g)) { attributes = set_attributes set moment (settled g).attributes })) (sym unsized)
        by n = refl

    numbers-stay : (stripes : List StripeValue) → all_numbers (stripes_settled f (ownership_of next.attributes) stripes) ≡ all_numbers stripes
    numbers-stay [] = refl
    numbers-stay (s ∷ stripes) = ap (λ ns. numbers_in s ++ ns) (numbers-stay stripes)

    sound-after : IsSound after hands' (made + 1)
    sound-after = sound-set p f old next there (record { kind = refl; names = refl }) hands hands' made weigh sound

    volume-after : volume_of after ≡ with_node (volume_of p) f node
    volume-after = λ j. record (volume_of p) {
      next = next-set p.logical.inodes f next j;
      nodes = (nodes-set p.stripes p.logical.directories p.logical.texts f (ownership_of next.attributes) p.logical.inodes old next there
          (record { kind = refl; names = refl })
          ∙ ap (λ x. insert (volume_of p).nodes f x) node-is) j;
    }

    set-unsized : IsNodeSet p f node (node_sized f set moment old None (logical_lens.of p)) hands' (made + 1)
    set-unsized = record {
      sound = sound-after;
      volume = volume-after;
      there = inode-set-there p.logical.inodes f old next there;
      others = λ q ne. inode-set-other p.logical.inodes f next q ne;
      directories = refl;
      is_shown = node-shows after (with_node (volume_of p) f node) f node next sound-after.well_formed volume-after
          (set-there (volume_of p) f node) (inode-set-there p.logical.inodes f old next there)
          ∙ ap (shown_inode p.number f next) (touch-gone f (ownership_of next.attributes) p.stripes);
      emptied =
          let old_used = used-is p sound.well_formed in
          let new_used = used-is after sound-after.well_formed in
          let same = used-set-same p.logical.inodes f old next sound.well_formed.logical.inodes there refl in
          emptied-none (parts_of p) (parts_of after) (used (volume_of p) - used (volume_of after)) (omega arith)
          (ap from_list (numbers-stay p.stripes)) refl refl refl;
    }

  -- ---- with one

  module _ (size : ℕ) (sized : set.size ≡ Some size) (may : MaySize p.logical.largest size old.kind) where
    abbrev m : Sizing
    m = sizing_of f set moment old size (logical_lens.of p)

    abbrev cut_inode : Inode
    cut_inode = inode_sized m (length (all_freed f size p.stripes))

    abbrev cut : VolumeContents
    cut = sized_in m p

    file-is : File (file_resized size m.attributes (file_seen p m may.old_size may.verifier)) ≡ node
    file-is =
        ap (λ (a : Attributes). File (file_resized size (set_attributes set moment a) (file_seen p m may.old_size may.verifier)))
        (sym (times-now p f set old) ∙ ap times was)
        ∙ ap (λ o. File (record (resized o (settled (file_seen p m may.old_size may.verifier))) {
          attributes = set_attributes set moment (settled (file_seen p m may.old_size may.verifier)).attributes;
        })) (sym sized)
        ∙ ap (set_node set moment) (sym was)
      where
        was : node_of p.stripes p.logical.directories p.logical.texts f old ≡ File (file_seen p m may.old_size may.verifier)
        was = was-file p m sound.well_formed there may.old_size may.filled may.verifier may.is_file may.small

    touch-cut : (stripes : List StripeValue) → file_touch (map (stripe_sized f size (ownership_of m.attributes)) stripes) f ≡ None
    touch-cut [] = refl
    touch-cut (s ∷ stripes) = λ j. later
        ((ap touch_of (card-sized f size (ownership_of m.attributes) s f) ∙ ap (λ (b : Bool). touch_of (if b then Some (OfFile size None (ownership_of m.attributes)) else get s.cards f)) (itself f)) j)
        (touch-cut stripes j)

    sound-cut : IsSound cut hands' (made + 1)
    sound-cut = sound-sized p m sound.well_formed there may.old_size may.filled may.verifier may.is_file may.small hands hands' made (made + 1)
        (omega arith) weigh sound

    volume-cut : volume_of cut ≡ with_node (volume_of p) f node
    volume-cut =
        volume-sized p m sound.well_formed there may.old_size may.filled may.verifier may.is_file may.small
        ∙ ap (with_node (volume_of p) f) file-is

    set-sized : IsNodeSet p f node (node_sized f set moment old (Some size) (logical_lens.of p)) hands' (made + 1)
    set-sized = record {
      sound = sound-cut;
      volume = volume-cut;
      there = inode-set-there p.logical.inodes f old cut_inode there;
      others = λ q ne. inode-set-other p.logical.inodes f cut_inode q ne;
      directories = refl;
      is_shown = node-shows cut (with_node (volume_of p) f node) f node cut_inode sound-cut.well_formed volume-cut
          (set-there (volume_of p) f node) (inode-set-there p.logical.inodes f old cut_inode there)
          ∙ ap (shown_inode p.number f cut_inode) (touch-cut p.stripes);
      emptied = emptied-sized p m hands sound.partition sound.well_formed there may.old_size may.filled may.verifier may.is_file may.small;
    }

  -- a node that passes the checks is set as the serial server sets it
  pub node-set : (guard : Option Moment) → node_fault f set guard old (logical_lens.of p) ≡ None
      → IsNodeSet p f node (node_changed f set moment old (logical_lens.of p)) hands' (made + 1)
  node-set guard passes = by set.size refl
    where
      by : (o : Option ℕ) → set.size ≡ o → IsNodeSet p f node (node_sized f set moment old o (logical_lens.of p)) hands' (made + 1)
      by None e = set-unsized e
      by (Some size) e = set-sized size e (may-size p.logical.largest size set guard
          (attributes_now (file_touch p.stripes f) old.attributes old.kind).ctime old.kind e passes)
