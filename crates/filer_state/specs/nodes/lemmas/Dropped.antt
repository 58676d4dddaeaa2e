-- A node without bytes and entries that loses its name: all stays sound, and the volume that is seen has it no more.
use Rattle.std.proofs.Common.{◌≡◌, ℕ, ◌+◌, ◌-◌, ◌*◌, ◌<◌, ◌≤◌, ◌==◌, Bool, true, false, List, [], ◌∷◌, length, map, Option, Some, None}
use Rattle.std.proofs.Common.{refl, sym, ap, ◌∙◌, subst, arith}
use Rattle.std.specs.Prelude.{if◌then◌else◌, is_some, IfSome}
use Rattle.std.proofs.lemmas.List.{length-map}
use Rattle.std.proofs.lemmas.Bool.{eqb-true}
use Rattle.std.specs.Option.{option_map}
use Rattle.std.specs.Cmp.{nat_cmp_total}
use Rattle.std.specs.FinMap.{get, insert, remove, len, nat_cmp-IsAntisymmetric}
use Rattle.std.specs.FinSet as sets
use Rattle.nfs_model.specs.Server.{Node, Directory, block_size}
use Rattle.nfs_model.specs.Names.{dropped_name}
use Rattle.nfs_model.specs.Parts.{Hand}
use Rattle.depot_rule.specs.Sums.{total}
use Rattle.nfs_model.specs.volume.Directories.{DirectoryValue, removed}
use Rattle.nfs_model.specs.volume.Inodes.{InodeKind, Inode, InodesValue, filled_blocks, inode_of, inode_dropped}
use Rattle.nfs_model.specs.volume.Stripes.{StripeValue, touch_of, card_dropped}
use Rattle.nfs_model.specs.volume.lemmas.Inodes.{len-set, len-dropped, dropped-is, set-is, next-set, used-set-same, used-dropped}
use Rattle.nfs_model.specs.volume.lemmas.Maps.{get-map_values}
use Rattle.nfs_model.specs.volume.lemmas.Numbered.{get-insert_at, get-remove_at, same-answers, itself}
use Rattle.filer_state.specs.state.Contents.{VolumeContents}
use Rattle.filer_state.specs.state.Tree.{stripe_at, file_filled, file_touch, later, directory_or_empty, node_with, node_of, volume_of, text_or_empty}
use Rattle.filer_state.specs.state.Names.{size_in, size_of, parent_in, text_length_in, text_length_of}
use Rattle.filer_state.specs.state.WellFormed.{StripeFits, WellFormed, size_shown, owner_shown, owner_in}
use Rattle.filer_state.specs.state.Partition.{times_in_stripe, times_in_hand}
use Rattle.filer_state.specs.state.Sound.{IsSound}
use Rattle.filer_state.specs.state.Lenses.{logical_lens}
use Rattle.filer_state.specs.laws.lemmas.InodeKinds.{directory-seen, owner-alike}
use Rattle.filer_state.specs.laws.lemmas.SameBlocks as blocks
use Rattle.filer_state.specs.nodes.Making.{directories_in}
use Rattle.filer_state.specs.nodes.Dropping.{Dropping, directory_left, inodes_left, node_dropped}
use Rattle.filer_state.specs.nodes.lemmas.Unnamed as names
use Rattle.filer_state.specs.nodes.Laws.{LosesName, IsEmptyKind, seen_directory}
use Rattle.filer_state.specs.laws.lemmas.InodeKinds as kinds

-- ---- cards

abbrev shown_size : Inode → Option ℕ
shown_size inode = size_in inode.kind

module _ (f : ℕ) where
  card-left : (s : StripeValue) (q : ℕ) → get (card_dropped f s).cards q ≡ (if q == f then None else get s.cards q)
  card-left s q = get-remove_at s.cards f q

  card-other : (s : StripeValue) (q : ℕ) → (q == f) ≡ false → get (card_dropped f s).cards q ≡ get s.cards q
  card-other s q left = card-left s q ∙ ap (λ (b : Bool). if b then None else get s.cards q) left

  touch-other : (stripes : List StripeValue) (q : ℕ) → (q == f) ≡ false → file_touch (map (card_dropped f) stripes) q ≡ file_touch stripes q
  touch-other [] q left = refl
  touch-other (s ∷ stripes) q left = λ j. later (touch_of (card-other s q left j)) (touch-other stripes q left j)

-- ---- the volume after it

-- the volume after a node is dropped
abbrev pub left_in : Dropping → VolumeContents → VolumeContents
left_in m p = logical_lens.put (node_dropped m (logical_lens.of p)) p

-- a node that is empty has no block that starts before its size
empty-size : (k : InodeKind) (size block : ℕ) → IsEmptyKind k → size_in k ≡ Some size → block_size * block < size → ⊥
empty-size k size block h e less = let none : size ≡ 0 = subst (λ o. IfSome o (λ n. n ≡ 0)) e h.0 in omega (arith, none, less)

module _ (p : VolumeContents) (m : Dropping) (well : WellFormed p) (may : LosesName m p.logical.inodes p.logical.directories) where
  abbrev old : InodesValue
  old = p.logical.inodes

  abbrev new : InodesValue
  new = inodes_left m old

  abbrev after : VolumeContents
  after = left_in m p

  -- ---- what is found after it (`Unnamed`)

  at-directory : inode_of new m.directory ≡ Some (directory_left m)
  at-directory = names.at-directory old p.logical.directories m may

  at-dropped : inode_of new m.fileid ≡ None
  at-dropped = names.at-dropped old p.logical.directories m may

  at-other : (q : ℕ) → (q == m.directory) ≡ false → (q == m.fileid) ≡ false → inode_of new q ≡ inode_of old q
  at-other = names.at-other old p.logical.directories m may

  by-fileid : (P : ℕ → Type 0) → P m.directory → P m.fileid → ((q : ℕ) → (q == m.directory) ≡ false → (q == m.fileid) ≡ false → P q) → (q : ℕ) → P q
  by-fileid = names.by-fileid old p.logical.directories m may

  apart : (m.directory == m.fileid) ≡ false
  apart = names.apart old p.logical.directories m may

  size-same : (q : ℕ) → (q == m.fileid) ≡ false → size_of (inode_of new q) ≡ size_of (inode_of old q)
  size-same = names.size-same old p.logical.directories m may

  directory-entries : get after.logical.directories m.directory ≡ Some (removed m.name m.entries)
  directory-entries = names.directory-entries old p.logical.directories m may well.logical.named

  dropped-entries : get after.logical.directories m.fileid ≡ None
  dropped-entries = names.dropped-entries old p.logical.directories m may well.logical.named

  other-entries : (q : ℕ) → (q == m.directory) ≡ false → (q == m.fileid) ≡ false → get after.logical.directories q ≡ get p.logical.directories q
  other-entries = names.other-entries old p.logical.directories m may well.logical.named

  -- ---- stripes

  shown-after : (s : StripeValue) → ((q : ℕ) → option_map size_shown (get s.cards q) ≡ option_map shown_size (inode_of old q))
      → (q : ℕ) → option_map size_shown (get (card_dropped m.fileid s).cards q) ≡ option_map shown_size (inode_of new q)
  shown-after s fits = by-fileid (λ q. option_map size_shown (get (card_dropped m.fileid s).cards q) ≡ option_map shown_size (inode_of new q))
      (ap (option_map size_shown) (card-other m.fileid s m.directory apart) ∙ fits m.directory ∙ ap (option_map shown_size) may.there
      ∙ ap Some (sym (names.size-kept (directories_in m.dropped.kind) m.inode.kind)) ∙ sym (ap (option_map shown_size) at-directory))
      (ap (option_map size_shown) (card-left m.fileid s m.fileid)
      ∙ ap (λ (b : Bool). option_map size_shown (if b then None else get s.cards m.fileid)) (itself m.fileid)
      ∙ sym (ap (option_map shown_size) at-dropped))
      (λ q ne left. ap (option_map size_shown) (card-other m.fileid s q left) ∙ fits q ∙ sym (ap (option_map shown_size) (at-other q ne left)))

  owners-after : (s : StripeValue) → ((q : ℕ) → option_map owner_shown (get s.cards q) ≡ option_map owner_in (inode_of old q))
      → (q : ℕ) → option_map owner_shown (get (card_dropped m.fileid s).cards q) ≡ option_map owner_in (inode_of new q)
  owners-after s fits = by-fileid (λ q. option_map owner_shown (get (card_dropped m.fileid s).cards q) ≡ option_map owner_in (inode_of new q))
      (ap (option_map owner_shown) (card-other m.fileid s m.directory apart) ∙ fits m.directory ∙ ap (option_map owner_in) may.there
      ∙ ap Some (sym (owner-alike m.inode.attributes (directory_left m).attributes m.inode.kind (directory_left m).kind refl
      (names.size-kept (directories_in m.dropped.kind) m.inode.kind)))
      ∙ sym (ap (option_map owner_in) at-directory))
      (ap (option_map owner_shown) (card-left m.fileid s m.fileid)
      ∙ ap (λ (b : Bool). option_map owner_shown (if b then None else get s.cards m.fileid)) (itself m.fileid)
      ∙ sym (ap (option_map owner_in) at-dropped))
      (λ q ne left. ap (option_map owner_shown) (card-other m.fileid s q left) ∙ fits q ∙ sym (ap (option_map owner_in) (at-other q ne left)))

  -- a block is of another file
  other-block : (q block size : ℕ) → size_of (inode_of old q) ≡ Some size → block_size * block < size → size_of (inode_of new q) ≡ Some size
  other-block q block size says less = by (q == m.fileid) refl
    where
      by : (b : Bool) → (q == m.fileid) ≡ b → size_of (inode_of new q) ≡ Some size
      by true e =
          let here : size_in m.dropped.kind ≡ Some size =
          sym (ap (λ (x : ℕ). size_of (inode_of old x)) (eqb-true q m.fileid e) ∙ ap size_of may.node) ∙ says in
          absurd (empty-size m.dropped.kind size block may.kind here less)
      by false e = size-same q e ∙ says

  fits-after : (i : ℕ) (s : StripeValue) → StripeFits p.logical i s → StripeFits after.logical i (card_dropped m.fileid s)
  fits-after i s fits = record {
    verifier = fits.verifier;
    stripes = fits.stripes;
    largest = fits.largest;
    cards = shown-after s fits.cards;
    owners = owners-after s fits.owners;
    long = record { long = fits.long.long };
    blocks = λ fileid block b e.
        let was = fits.blocks fileid block b e in
        (was.0, other-block fileid block was.0 was.1 was.2.starts, was.2);
  }

  stay : (q : ℕ) → file_filled after.stripes q ≡ file_filled p.stripes q
  stay q = blocks.filled-stays (card_dropped m.fileid) (λ s. refl) p.stripes q

  filled-after : (q : ℕ) (x : Inode) → inode_of new q ≡ Some x → filled_blocks x.kind ≡ sets.len (file_filled after.stripes q)
  filled-after = by-fileid (λ q. (x : Inode) → inode_of new q ≡ Some x → filled_blocks x.kind ≡ sets.len (file_filled after.stripes q))
      (λ x e.
      let is : directory_left m ≡ x = (let at = at-directory in cc) in
      ap (λ (i : Inode). filled_blocks i.kind) (sym is) ∙ names.blocks-kept (directories_in m.dropped.kind) m.inode.kind
      ∙ well.filled m.directory m.inode may.there ∙ sym (ap sets.len (stay m.directory)))
      (λ x e. let none = at-dropped in absurd cc)
      (λ q ne left x e. well.filled q x (sym (at-other q ne left) ∙ e) ∙ sym (ap sets.len (stay q)))

  -- the texts: one less, if it is a symbolic link
  none-there : (o : Option (List ℕ)) → option_map length o ≡ None → o ≡ None
  none-there None e = refl
  none-there (Some text) e = absurd cc

  dropped-text : get after.logical.texts m.fileid ≡ None
  dropped-text = by (text_length_in m.dropped.kind) refl
    where
      by : (o : Option ℕ) → text_length_in m.dropped.kind ≡ o
          → get (if is_some o then remove p.logical.texts m.fileid else p.logical.texts) m.fileid ≡ None
      by None e = none-there (get p.logical.texts m.fileid) (well.logical.texts m.fileid ∙ ap text_length_of may.node ∙ e)
      by (Some size) e =
          get-remove_at p.logical.texts m.fileid m.fileid ∙ ap (λ (b : Bool). if b then None else get p.logical.texts m.fileid) (itself m.fileid)

  other-text : (q : ℕ) → (q == m.fileid) ≡ false → get after.logical.texts q ≡ get p.logical.texts q
  other-text q left = by (is_some (text_length_in m.dropped.kind))
    where
      by : (b : Bool) → get (if b then remove p.logical.texts m.fileid else p.logical.texts) q ≡ get p.logical.texts q
      by false = refl
      by true = get-remove_at p.logical.texts m.fileid q ∙ ap (λ (b : Bool). if b then None else get p.logical.texts q) left

  texts-left : (q : ℕ) → option_map length (get after.logical.texts q) ≡ text_length_of (inode_of new q)
  texts-left = by-fileid (λ q. option_map length (get after.logical.texts q) ≡ text_length_of (inode_of new q))
      (ap (option_map length) (other-text m.directory apart) ∙ well.logical.texts m.directory ∙ ap text_length_of may.there
      ∙ sym (ap text_length_of at-directory ∙ kinds.text-changed (λ parent. parent) (λ n. n - directories_in m.dropped.kind) m.inode.kind))
      (ap (option_map length) dropped-text ∙ sym (ap text_length_of at-dropped))
      (λ q ne left. ap (option_map length) (other-text q left) ∙ well.logical.texts q ∙ sym (ap text_length_of (at-other q ne left)))

  dropped-lawful : inode_of (inode_dropped m.fileid old) m.directory ≡ Some m.inode
  dropped-lawful = names.there-still old p.logical.directories m may

  less-than : (b : Bool) (n most : ℕ) → n ≤ most → (if b then n - 1 else n) ≤ most
  less-than true n most h = omega (arith, h)
  less-than false n most h = h

  well-left : WellFormed after
  well-left = record {
    striped = well.striped;
    largest = well.largest;
    most_inodes = well.most_inodes;
    size = well.size;
    logical = record {
      inodes = set-is (inode_dropped m.fileid old) m.directory (directory_left m) (dropped-is old m.fileid well.logical.inodes);
      few =
          let set = len-set (inode_dropped m.fileid old) m.directory (directory_left m) in
          let less = len-dropped old m.fileid in
          let few = less-than (is_some (inode_of old m.fileid)) (len old.inodes) _ well.logical.few in
          omega (arith, set, less, few);
      sizes = by-fileid (λ q. IfSome (size_of (inode_of new q)) (λ size. size ≤ p.logical.largest))
          (subst (λ o. IfSome o (λ size. size ≤ p.logical.largest)) (sym (size-same m.directory apart)) (well.logical.sizes m.directory))
          (subst (λ o. IfSome (size_of o) (λ size. size ≤ p.logical.largest)) (sym at-dropped) tt)
          (λ q ne left. subst (λ o. IfSome o (λ size. size ≤ p.logical.largest)) (sym (size-same q left)) (well.logical.sizes q));
      named = names.named-left old p.logical.directories m may well.logical.named;
      texts = texts-left;
    };
    as_many = length-map p.stripes (card_dropped m.fileid) ∙ well.as_many;
    stripes = λ i less.
        let long = length-map p.stripes (card_dropped m.fileid) in
        let on : i < length p.stripes = omega (arith, less, long) in
        subst (StripeFits after.logical i) (sym (blocks.stripe-mapped (card_dropped m.fileid) p.stripes i on))
        (fits-after i (stripe_at p.stripes i) (well.stripes i on));
    used =
        let same = used-set-same (inode_dropped m.fileid old) m.directory m.inode (directory_left m) (dropped-is old m.fileid well.logical.inodes)
        dropped-lawful (names.blocks-kept (directories_in m.dropped.kind) m.inode.kind) in
        let left = used-dropped old m.fileid m.dropped well.logical.inodes may.node in
        let was = well.used in
        let none = may.kind.1 in
        let stored = blocks.total-mapped (card_dropped m.fileid) (λ (s : StripeValue). len s.blocks) (λ s. refl) p.stripes in
        omega (arith, same, left, was, none, stored);
    filled = filled-after;
    sixteen = well.sixteen;
    some = well.some;
    ranges = well.ranges;
  }

  -- all stays sound
  pub sound-left : (hands hands' : List Hand) (made now : ℕ) → made ≤ now →
      ((n : ℕ) → total (times_in_hand p.number n) hands' ≡ total (times_in_hand p.number n) hands)
      → IsSound p hands made → IsSound after hands' now
  sound-left hands hands' made now later weigh s = record {
    well_formed = well-left;
    young = record {
      fileids =
          let next = next-set (inode_dropped m.fileid old) m.directory (directory_left m) in
          let y = s.young.fileids in
          omega (arith, next, y, later);
      cookies = by-fileid (λ q. (d : DirectoryValue) → get after.logical.directories q ≡ Some d → d.next ≤ 3 + now)
          (λ d e.
          let same : removed m.name m.entries ≡ d = (let at = directory-entries in cc) in
          let is : m.entries.next ≡ d.next = ap (λ (x : DirectoryValue). x.next) same in
          let y = s.young.cookies m.directory m.entries may.entered in
          omega (arith, is, y, later))
          (λ d e. let none = dropped-entries in absurd cc)
          (λ q ne left d e. let y = s.young.cookies q d (sym (other-entries q ne left) ∙ e) in omega (arith, y, later));
    };
    partition = λ n.
        let e = weigh n in
        let o = s.partition n in
        let stripes = blocks.total-mapped (card_dropped m.fileid) (times_in_stripe n) (λ t. refl) p.stripes in
        omega (arith, e, o, stripes);
  }

  -- ---- the volume that is seen

  module _ (parent : ℕ) (says : parent_in m.inode.kind ≡ Some parent) where
    abbrev pub directory_then : Node
    directory_then = Directory (dropped_name (seen_directory m.inode m.entries parent) m.name m.moment)

    is-directory : node_of after.stripes after.logical.directories after.logical.texts m.directory (directory_left m) ≡ directory_then
    is-directory =
        directory-seen after.stripes (get after.logical.directories m.directory) (get after.logical.texts m.directory) m.directory
        (directory_left m).attributes m.inode.names (directory_left m).kind parent
        (names.parent-kept (directories_in m.dropped.kind) m.inode.kind ∙ says)
        ∙ ap (λ (o : Option DirectoryValue). Directory (seen_directory (directory_left m) (directory_or_empty o) parent)) directory-entries

    other-node : (q : ℕ) → (q == m.directory) ≡ false → (q == m.fileid) ≡ false → (inode : Inode)
        → node_of after.stripes after.logical.directories after.logical.texts q inode ≡ node_of p.stripes p.logical.directories p.logical.texts q inode
    other-node q ne left inode = λ j. node_with
        (λ size. blocks.bytes-stay (card_dropped m.fileid) (λ s. refl) p.stripes q size j) (stay q j) (touch-other m.fileid p.stripes q left j)
        (directory_or_empty (other-entries q ne left j)) (text_or_empty (other-text q left j)) inode.attributes inode.names inode.kind

    abbrev now : ℕ → Inode → Node
    now = node_of after.stripes after.logical.directories after.logical.texts

    abbrev was : ℕ → Inode → Node
    was = node_of p.stripes p.logical.directories p.logical.texts

    abbrev answer : ℕ → Option Node
    answer q = if q == m.directory then Some directory_then else if q == m.fileid then None else get (volume_of p).nodes q

    wanted : (q : ℕ) → get (insert (remove (volume_of p).nodes m.fileid) m.directory directory_then) q ≡ answer q
    wanted q =
        get-insert_at (remove (volume_of p).nodes m.fileid) m.directory directory_then q
        ∙ ap (λ (o : Option Node). if q == m.directory then Some directory_then else o) (get-remove_at (volume_of p).nodes m.fileid q)

    others : (q : ℕ) → (q == m.directory) ≡ false → (q == m.fileid) ≡ false → (o : Option Inode) → option_map (now q) o ≡ option_map (was q) o
    others q ne left None = refl
    others q ne left (Some inode) = ap Some (other-node q ne left inode)

    at_each : (q : ℕ) → option_map (now q) (inode_of new q) ≡ answer q
    at_each = by-fileid (λ q. option_map (now q) (inode_of new q) ≡ answer q)
        (ap (option_map (now m.directory)) at-directory ∙ ap Some is-directory
        ∙ sym (ap (λ (b : Bool). if b then Some directory_then else if m.directory == m.fileid then None else get (volume_of p).nodes m.directory)
        (itself m.directory)))
        (ap (option_map (now m.fileid)) at-dropped
        ∙ sym (ap (λ (b : Bool). if b then Some directory_then else if m.fileid == m.fileid then None else get (volume_of p).nodes m.fileid)
        (names.apart-turned old p.logical.directories m may)
        ∙ ap (λ (b : Bool). if b then None else get (volume_of p).nodes m.fileid) (itself m.fileid)))
        (λ q ne left. ap (option_map (now q)) (at-other q ne left) ∙ others q ne left (inode_of old q)
        ∙ sym (get-map_values nat_cmp_total nat_cmp-IsAntisymmetric was old.inodes q)
        ∙ sym (ap (λ (b : Bool). if b then Some directory_then else if q == m.fileid then None else get (volume_of p).nodes q) ne
        ∙ ap (λ (b : Bool). if b then None else get (volume_of p).nodes q) left))

    nodes-left : (volume_of after).nodes ≡ insert (remove (volume_of p).nodes m.fileid) m.directory directory_then
    nodes-left = same-answers _ _ (λ q. get-map_values nat_cmp_total nat_cmp-IsAntisymmetric now new.inodes q ∙ at_each q ∙ sym (wanted q))

    -- the volume after it
    pub volume-left : volume_of after ≡ record (volume_of p) { nodes = insert (remove (volume_of p).nodes m.fileid) m.directory directory_then }
    volume-left = λ j. record (volume_of p) {
      next = next-set (inode_dropped m.fileid old) m.directory (directory_left m) j;
      nodes = nodes-left j;
    }
