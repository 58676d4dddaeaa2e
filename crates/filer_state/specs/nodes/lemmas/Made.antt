-- A node made under a name: all stays sound.
use Rattle.std.proofs.Common.{◌≡◌, ℕ, suc, ◌+◌, ◌<◌, ◌≤◌, ◌==◌, Bool, true, false, List, [], ◌∷◌, length, map, Option, Some, None}
use Rattle.std.proofs.Common.{refl, sym, ap, ◌∙◌, subst, arith, ⊎_elim}
use Rattle.std.specs.Prelude.{if◌then◌else◌, is_some, IfSome, ◌&&◌}
use Rattle.std.proofs.lemmas.List.{length-map}
use Rattle.std.proofs.lemmas.Bool.{eqb-true}
use Rattle.std.specs.List.{range_with_len}
use Rattle.std.specs.Option.{option_map}
use Rattle.std.specs.Ordering.{nat_cmp}
use Rattle.std.specs.Cmp.{nat_cmp_total}
use Rattle.std.specs.FinMap.{get, len, nat_cmp-IsAntisymmetric}
use Rattle.std.specs.FinSet as sets
use Rattle.nfs_model.specs.Types.{Ownership}
use Rattle.nfs_model.specs.Server.{Attributes}
use Rattle.nfs_model.specs.Serial.Rights.{ownership_of}
use Rattle.nfs_model.specs.Parts.{Hand}
use Rattle.depot_rule.specs.Sums.{total}
use Rattle.nfs_model.specs.volume.Directories.{DirectoryValue, empty_directory, added}
use Rattle.nfs_model.specs.volume.Inodes.{InodeKind, Inode, InodesValue, filled_blocks, inode_of, inode_created}
use Rattle.nfs_model.specs.volume.Stripes.{Card, OfFile, OfDirectory, Block, StripeValue, touch_of, stripe_of, is_filled}
use Rattle.nfs_model.specs.volume.lemmas.Inodes.{next-absent, len-set, len-created, created-is, set-is, next-set, used-set-same, inode-created-other}
use Rattle.nfs_model.specs.volume.lemmas.Numbered.{get-insert_at, itself}
use Rattle.filer_state.specs.state.Contents.{VolumeContents}
use Rattle.filer_state.specs.state.Tree.{stripe_at, home_stripe, file_filled, file_touch, later, most_file_blocks}
use Rattle.filer_state.specs.state.Names.{DirectoryMap, size_in, size_of, parent_in, AreNamed, text_length_of}
use Rattle.filer_state.specs.state.WellFormed.{StripeFits, WellFormed, size_shown, owner_shown, owner_by, owner_in}
use Rattle.filer_state.specs.state.Partition.{times_in_stripe, times_in_hand}
use Rattle.filer_state.specs.state.Sound.{IsSound}
use Rattle.filer_state.specs.state.Lenses.{logical_lens}
use Rattle.filer_state.specs.laws.lemmas.InodeKinds.{owner-alike}
use Rattle.filer_state.specs.laws.lemmas.SameBlocks as blocks
use Rattle.filer_state.specs.nodes.Making.{Making, directories_in, directory_inode, inodes_made, entries_made, card_of_size, card_made, node_made, texts_made}
use Rattle.filer_state.specs.nodes.lemmas.Named as names
use Rattle.filer_state.specs.nodes.lemmas.Named.{new_entries}
use Rattle.filer_state.specs.nodes.Laws.{MayBeMade}
use Rattle.filer_state.specs.laws.lemmas.InodeKinds as kinds

-- ---- cards

abbrev shown_size : Inode → Option ℕ
shown_size inode = size_in inode.kind

module _ (owner : Ownership) (k : InodeKind) (f : ℕ) where
  -- the new card
  abbrev card_by : Option ℕ → Card
  card_by None = OfDirectory
  card_by (Some size) = OfFile size None owner

  abbrev card : Card
  card = card_by (size_in k)

  pub blocks-same : (s : StripeValue) → (card_made owner k f s).blocks ≡ s.blocks
  blocks-same s = by (size_in k)
    where
      by : (o : Option ℕ) → (card_of_size owner o f s).blocks ≡ s.blocks
      by None = refl
      by (Some size) = refl

  verifier-same : (s : StripeValue) → (card_made owner k f s).verifier ≡ s.verifier
  verifier-same s = by (size_in k)
    where
      by : (o : Option ℕ) → (card_of_size owner o f s).verifier ≡ s.verifier
      by None = refl
      by (Some size) = refl

  stripes-same : (s : StripeValue) → (card_made owner k f s).stripes ≡ s.stripes
  stripes-same s = by (size_in k)
    where
      by : (o : Option ℕ) → (card_of_size owner o f s).stripes ≡ s.stripes
      by None = refl
      by (Some size) = refl

  largest-same : (s : StripeValue) → (card_made owner k f s).largest ≡ s.largest
  largest-same s = by (size_in k)
    where
      by : (o : Option ℕ) → (card_of_size owner o f s).largest ≡ s.largest
      by None = refl
      by (Some size) = refl

  -- where there was no card, there is one without a touch; the others stay
  card-found : (s : StripeValue) → get s.cards f ≡ None → (q : ℕ)
      → get (card_made owner k f s).cards q ≡ (if q == f then Some card else get s.cards q)
  card-found s none q = by (size_in k)
    where
      by : (o : Option ℕ) → get (card_of_size owner o f s).cards q ≡ (if q == f then Some (card_by o) else get s.cards q)
      by None = get-insert_at s.cards f OfDirectory q
      by (Some size) =
          get-insert_at s.cards f (OfFile size (touch_of (get s.cards f)) owner) q
          ∙ ap (λ o. if q == f then Some (OfFile size (touch_of o) owner) else get s.cards q) none

  shown-size : (o : Option ℕ) → size_shown (card_by o) ≡ o
  shown-size None = refl
  shown-size (Some size) = refl

  untouched : (o : Option ℕ) → touch_of (Some (card_by o)) ≡ None
  untouched None = refl
  untouched (Some size) = refl

  shown-made : (s : StripeValue) → get s.cards f ≡ None
      → option_map size_shown (get (card_made owner k f s).cards f) ≡ Some (size_in k)
  shown-made s none =
      ap (option_map size_shown) (card-found s none f)
      ∙ ap (λ (b : Bool). option_map size_shown (if b then Some card else get s.cards f)) (itself f)
      ∙ ap Some (shown-size (size_in k))

  -- the owner of a file
  owner-size : (a : Attributes) → ownership_of a ≡ owner → (o : Option ℕ) → owner_shown (card_by o) ≡ option_map (λ (size : ℕ). ownership_of a) o
  owner-size a is None = refl
  owner-size a is (Some size) = ap Some (sym is)

  owner-made : (a : Attributes) → ownership_of a ≡ owner → (s : StripeValue) → get s.cards f ≡ None
      → option_map owner_shown (get (card_made owner k f s).cards f) ≡ Some (owner_by a k)
  owner-made a is s none =
      ap (option_map owner_shown) (card-found s none f)
      ∙ ap (λ (b : Bool). option_map owner_shown (if b then Some card else get s.cards f)) (itself f)
      ∙ ap Some (owner-size a is (size_in k))

  shown-other : (s : StripeValue) → get s.cards f ≡ None → (q : ℕ) → (q == f) ≡ false
      → get (card_made owner k f s).cards q ≡ get s.cards q
  shown-other s none q ne = card-found s none q ∙ ap (λ (b : Bool). if b then Some card else get s.cards q) ne

  -- no stripe has a card of a fileid
  abbrev pub HaveNoCard : List StripeValue → Type 0
  HaveNoCard stripes = (i : ℕ) → i < length stripes → get (stripe_at stripes i).cards f ≡ None

  pub touch-none : (stripes : List StripeValue) → HaveNoCard stripes → file_touch (map (card_made owner k f) stripes) f ≡ None
  touch-none [] none = refl
  touch-none (s ∷ stripes) none =
      let here : touch_of (get (card_made owner k f s).cards f) ≡ None =
      ap touch_of (card-found s (none 0 (omega arith)) f)
      ∙ ap (λ (b : Bool). touch_of (if b then Some card else get s.cards f)) (itself f) ∙ untouched (size_in k) in
      λ j. later (here j) (touch-none stripes (λ i less. none (suc i) (omega arith)) j)

  pub touch-other : (stripes : List StripeValue) → HaveNoCard stripes → (q : ℕ) → (q == f) ≡ false
      → file_touch (map (card_made owner k f) stripes) q ≡ file_touch stripes q
  touch-other [] none q ne = refl
  touch-other (s ∷ stripes) none q ne = λ j. later
      (touch_of (shown-other s (none 0 (omega arith)) q ne j)) (touch-other stripes (λ i less. none (suc i) (omega arith)) q ne j)

-- ---- a file without blocks

module _ (stripes : List StripeValue) (f : ℕ) (none : (b : ℕ) → is_filled (home_stripe stripes f b) f b ≡ false) where
  -- a set kept by a test that nothing passes
  and-false : (b : Bool) → (b && false) ≡ false
  and-false true = refl
  and-false false = refl

  pub none-filled : file_filled stripes f ≡ sets.empty
  none-filled = sets.same_set nat_cmp_total nat_cmp-IsAntisymmetric (file_filled stripes f) sets.empty (λ q.
      sets.contains-retain (sets.from_list (range_with_len 0 most_file_blocks)) (λ block. is_filled (home_stripe stripes f block) f block) q
      (λ x same. ap (λ (b : ℕ). is_filled (home_stripe stripes f b) f b) (sym (nat_cmp-IsAntisymmetric q x same)))
      ∙ ap (λ b. sets.contains (sets.from_list {R = nat_cmp} (range_with_len 0 most_file_blocks)) q && b) (none q)
      ∙ and-false (sets.contains (sets.from_list {R = nat_cmp} (range_with_len 0 most_file_blocks)) q)
      ∙ sym (sets.contains-empty nat_cmp q))

-- ---- the volume after it

-- the volume after a node is made
abbrev pub made_in : Making → VolumeContents → VolumeContents
made_in m p = logical_lens.put (node_made m (logical_lens.of p)) p

module _ (p : VolumeContents) (m : Making) (well : WellFormed p) (may : MayBeMade m p) where
  abbrev f : ℕ
  f = p.logical.inodes.next

  abbrev k : InodeKind
  k = m.made.kind

  -- who owns it
  abbrev owner : Ownership
  owner = ownership_of m.made.attributes

  abbrev old : InodesValue
  old = p.logical.inodes

  abbrev new : InodesValue
  new = inodes_made m old

  -- ---- what is found after it (`Named`)

  apart : (m.directory == f) ≡ false
  apart = names.apart old p.logical.directories m well.logical.inodes may.there

  at-directory : inode_of new m.directory ≡ Some (directory_inode m)
  at-directory = names.at-directory old p.logical.directories m well.logical.inodes may.there

  at-made : inode_of new f ≡ Some m.made
  at-made = names.at-made old p.logical.directories m well.logical.inodes may.there

  at-other : (q : ℕ) → (q == m.directory) ≡ false → (q == f) ≡ false → inode_of new q ≡ inode_of old q
  at-other = names.at-other old p.logical.directories m well.logical.inodes may.there

  size-same : (q : ℕ) → (q == f) ≡ false → size_of (inode_of new q) ≡ size_of (inode_of old q)
  size-same = names.size-same old p.logical.directories m well.logical.inodes may.there

  by-fileid : (P : ℕ → Type 0) → P m.directory → P f → ((q : ℕ) → (q == m.directory) ≡ false → (q == f) ≡ false → P q) → (q : ℕ) → P q
  by-fileid = names.by-fileid old p.logical.directories m well.logical.inodes may.there

  abbrev directories_after : DirectoryMap
  directories_after = entries_made m f p.logical.directories

  directory-entries : get directories_after m.directory ≡ Some (added m.name f m.entries)
  directory-entries = names.directory-entries old p.logical.directories m well.logical.inodes may.there may.entered well.logical.named may.absent
      p.logical.largest may.one may.is_new

  made-entries : get directories_after f ≡ new_entries k
  made-entries = names.made-entries old p.logical.directories m well.logical.inodes may.there may.entered well.logical.named may.absent
      p.logical.largest may.one may.is_new

  other-entries : (q : ℕ) → (q == m.directory) ≡ false → (q == f) ≡ false → get directories_after q ≡ get p.logical.directories q
  other-entries = names.other-entries old p.logical.directories m well.logical.inodes may.there may.entered well.logical.named may.absent
      p.logical.largest may.one may.is_new

  named-made : AreNamed new.inodes directories_after
  named-made = names.named-made old p.logical.directories m well.logical.inodes may.there may.entered well.logical.named may.absent
      p.logical.largest may.one may.is_new

  nothing : inode_of old f ≡ None
  nothing = next-absent old well.logical.inodes

  -- no stripe has a card of the new fileid yet, nor a block
  pub no-card : HaveNoCard owner k f p.stripes
  no-card i less = by (get (stripe_at p.stripes i).cards f) ((well.stripes i less).cards f ∙ ap (option_map shown_size) nothing)
    where
      by : (o : Option Card) → option_map size_shown o ≡ None → o ≡ None
      by None e = refl
      by (Some c) e = absurd cc

  some-stripes : 0 < length p.stripes
  some-stripes =
      let many = well.as_many in
      ⊎_elim (λ (e : p.logical.stripes ≡ 8). omega (arith, e, many)) (λ (e : p.logical.stripes ≡ 16). omega (arith, e, many)) well.striped

  pub no-block : (b : ℕ) → is_filled (home_stripe p.stripes f b) f b ≡ false
  no-block b = by (get (home_stripe p.stripes f b).blocks (f, b)) refl
    where
      less : stripe_of (length p.stripes) f b < length p.stripes
      less = let some = some-stripes in omega (arith, some)

      by : (o : Option Block) → get (home_stripe p.stripes f b).blocks (f, b) ≡ o → is_some o ≡ false
      by None e = refl
      by (Some block) e =
          let fits = (well.stripes (stripe_of (length p.stripes) f b) less).blocks f b block e in
          let none : size_of (inode_of old f) ≡ None = ap size_of nothing in
          absurd (let says = fits.1 in cc)

  abbrev after : VolumeContents
  after = made_in m p

  shown-after : (s : StripeValue) → get s.cards f ≡ None
      → ((q : ℕ) → option_map size_shown (get s.cards q) ≡ option_map shown_size (inode_of old q))
      → (q : ℕ) → option_map size_shown (get (card_made owner k f s).cards q) ≡ option_map shown_size (inode_of new q)
  shown-after s none fits = by-fileid
      (λ q. option_map size_shown (get (card_made owner k f s).cards q) ≡ option_map shown_size (inode_of new q))
      (ap (option_map size_shown) (shown-other owner k f s none m.directory (apart))
      ∙ fits m.directory ∙ ap (option_map shown_size) may.there
      ∙ ap Some (sym (names.size-kept (directories_in k) m.inode.kind))
      ∙ sym (ap (option_map shown_size) (at-directory)))
      (shown-made owner k f s none ∙ sym (ap (option_map shown_size) (at-made)))
      (λ q ne older. ap (option_map size_shown) (shown-other owner k f s none q older) ∙ fits q
      ∙ sym (ap (option_map shown_size) (at-other q ne older)))

  owners-after : (s : StripeValue) → get s.cards f ≡ None
      → ((q : ℕ) → option_map owner_shown (get s.cards q) ≡ option_map owner_in (inode_of old q))
      → (q : ℕ) → option_map owner_shown (get (card_made owner k f s).cards q) ≡ option_map owner_in (inode_of new q)
  owners-after s none fits = by-fileid
      (λ q. option_map owner_shown (get (card_made owner k f s).cards q) ≡ option_map owner_in (inode_of new q))
      (ap (option_map owner_shown) (shown-other owner k f s none m.directory (apart))
      ∙ fits m.directory ∙ ap (option_map owner_in) may.there
      ∙ ap Some (sym (owner-alike m.inode.attributes (directory_inode m).attributes m.inode.kind (directory_inode m).kind refl
      (names.size-kept (directories_in k) m.inode.kind)))
      ∙ sym (ap (option_map owner_in) (at-directory)))
      (owner-made owner k f m.made.attributes refl s none ∙ sym (ap (option_map owner_in) (at-made)))
      (λ q ne older. ap (option_map owner_shown) (shown-other owner k f s none q older) ∙ fits q
      ∙ sym (ap (option_map owner_in) (at-other q ne older)))

  -- a block's file was there before
  older-block : (q size : ℕ) → size_of (inode_of old q) ≡ Some size → size_of (inode_of new q) ≡ Some size
  older-block q size says = by (q == f) refl
    where
      by : (b : Bool) → (q == f) ≡ b → size_of (inode_of new q) ≡ Some size
      by true e =
          let none : size_of (inode_of old q) ≡ None = ap (λ (x : ℕ). size_of (inode_of old x)) (eqb-true q f e) ∙ ap size_of nothing in
          absurd cc
      by false e = size-same q e ∙ says

  fits-after : (i : ℕ) (s : StripeValue) → get s.cards f ≡ None → StripeFits p.logical i s → StripeFits after.logical i (card_made owner k f s)
  fits-after i s none fits = record {
    verifier = verifier-same owner k f s ∙ fits.verifier;
    stripes = stripes-same owner k f s ∙ fits.stripes;
    largest = largest-same owner k f s ∙ fits.largest;
    cards = shown-after s none fits.cards;
    owners = owners-after s none fits.owners;
    long = record { long = λ place b e. fits.long.long place b (ap (λ x. get x place) (sym (blocks-same owner k f s)) ∙ e) };
    blocks = λ fileid block b e.
        let was = fits.blocks fileid block b (ap (λ x. get x (fileid, block)) (sym (blocks-same owner k f s)) ∙ e) in
        (was.0, older-block fileid was.0 was.1, was.2);
  }

  empty : filled_blocks k ≡ 0
  empty = may.is_new.blocks

  filled-after : (q : ℕ) (x : Inode) → inode_of new q ≡ Some x → filled_blocks x.kind ≡ sets.len (file_filled after.stripes q)
  filled-after = by-fileid
      (λ q. (x : Inode) → inode_of new q ≡ Some x → filled_blocks x.kind ≡ sets.len (file_filled after.stripes q))
      (λ x e.
      let is : directory_inode m ≡ x = (let at = at-directory in cc) in
      ap (λ (i : Inode). filled_blocks i.kind) (sym is) ∙ names.blocks-kept (directories_in k) m.inode.kind ∙ well.filled m.directory m.inode may.there
      ∙ sym (ap sets.len (stay m.directory)))
      (λ x e.
      let is : m.made ≡ x = (let at = at-made in cc) in
      ap (λ (i : Inode). filled_blocks i.kind) (sym is) ∙ empty ∙ sym (sets.len-empty nat_cmp) ∙ sym (ap sets.len (none-filled p.stripes f no-block))
      ∙ sym (ap sets.len (stay f)))
      (λ q ne older x e.
      well.filled q x (sym (at-other q ne older) ∙ e) ∙ sym (ap sets.len (stay q)))
    where
      stay : (q : ℕ) → file_filled after.stripes q ≡ file_filled p.stripes q
      stay q = blocks.filled-stays (card_made owner k f) (blocks-same owner k f) p.stripes q

  -- the texts: one more, if it is a symbolic link
  pub made-text : get after.logical.texts f ≡ m.text
  made-text = by m.text
    where
      none-there : (o : Option (List ℕ)) → option_map length o ≡ None → o ≡ None
      none-there None e = refl
      none-there (Some text) e = absurd cc

      by : (t : Option (List ℕ)) → get (texts_made t f p.logical.texts) f ≡ t
      by None = none-there (get p.logical.texts f) (well.logical.texts f ∙ ap text_length_of nothing)
      by (Some text) =
          get-insert_at p.logical.texts f text f ∙ ap (λ (b : Bool). if b then Some text else get p.logical.texts f) (itself f)

  pub other-text : (q : ℕ) → (q == f) ≡ false → get after.logical.texts q ≡ get p.logical.texts q
  other-text q older = by m.text
    where
      by : (t : Option (List ℕ)) → get (texts_made t f p.logical.texts) q ≡ get p.logical.texts q
      by None = refl
      by (Some text) = get-insert_at p.logical.texts f text q ∙ ap (λ (b : Bool). if b then Some text else get p.logical.texts q) older

  texts-made : (q : ℕ) → option_map length (get after.logical.texts q) ≡ text_length_of (inode_of new q)
  texts-made = by-fileid (λ q. option_map length (get after.logical.texts q) ≡ text_length_of (inode_of new q))
      (ap (option_map length) (other-text m.directory apart) ∙ well.logical.texts m.directory ∙ ap text_length_of may.there
      ∙ sym (ap text_length_of at-directory ∙ kinds.text-changed (λ parent. parent) (λ n. n + directories_in k) m.inode.kind))
      (ap (option_map length) made-text ∙ may.text ∙ sym (ap text_length_of at-made))
      (λ q ne older. ap (option_map length) (other-text q older) ∙ well.logical.texts q ∙ sym (ap text_length_of (at-other q ne older)))

  created-lawful : (inode_of (inode_created m.made old) m.directory ≡ Some m.inode)
  created-lawful = inode-created-other old m.made m.directory (apart) ∙ may.there

  well-made : WellFormed after
  well-made = record {
    striped = well.striped;
    largest = well.largest;
    most_inodes = well.most_inodes;
    size = well.size;
    logical = record {
      inodes = set-is (inode_created m.made old) m.directory (directory_inode m) (created-is old m.made well.logical.inodes);
      few =
          let set = len-set (inode_created m.made old) m.directory (directory_inode m) in
          let more = len-created old m.made well.logical.inodes in
          let few = may.few in
          omega (arith, set, more, few);
      sizes = λ q. size-after q (q == f) refl;
      named = named-made;
      texts = texts-made;
    };
    as_many = length-map p.stripes (card_made owner k f) ∙ well.as_many;
    stripes = λ i less.
        let long = length-map p.stripes (card_made owner k f) in
        let on : i < length p.stripes = omega (arith, less, long) in
        subst (StripeFits after.logical i) (sym (blocks.stripe-mapped (card_made owner k f) p.stripes i on))
        (fits-after i (stripe_at p.stripes i) (no-card i on) (well.stripes i on));
    used =
        let same = used-set-same (inode_created m.made old) m.directory m.inode (directory_inode m) (created-is old m.made well.logical.inodes)
        created-lawful (names.blocks-kept (directories_in k) m.inode.kind) in
        let was = well.used in
        let none = empty in
        let blocks = blocks.total-mapped (card_made owner k f) (λ (s : StripeValue). len s.blocks) (λ s. ap (λ x. len x) (blocks-same owner k f s)) p.stripes in
        omega (arith, same, was, none, blocks);
    filled = filled-after;
    sixteen = well.sixteen;
    some = well.some;
    ranges = well.ranges;
  }
    where
      size-after : (q : ℕ) (b : Bool) → (q == f) ≡ b → IfSome (size_of (inode_of new q)) (λ size. size ≤ p.logical.largest)
      size-after q true e =
          subst (λ o. IfSome (size_of o) (λ size. size ≤ p.logical.largest))
          (sym (ap (λ (x : ℕ). inode_of new x) (eqb-true q f e) ∙ at-made))
          may.is_new.size
      size-after q false e =
          subst (λ o. IfSome o (λ size. size ≤ p.logical.largest))
          (sym (size-same q e)) (well.logical.sizes q)

  -- all stays sound
  pub sound-made : (hands hands' : List Hand) (made : ℕ) → ((n : ℕ) → total (times_in_hand p.number n) hands' ≡ total (times_in_hand p.number n) hands)
      → IsSound p hands made → IsSound after hands' (made + 1)
  sound-made hands hands' made weigh s = record {
    well_formed = well-made;
    young = record {
      fileids =
          let next = next-set (inode_created m.made old) m.directory (directory_inode m) in
          let y = s.young.fileids in
          omega (arith, next, y);
      cookies = by-fileid
          (λ q. (d : DirectoryValue) → get after.logical.directories q ≡ Some d → d.next ≤ 3 + (made + 1))
          (λ d e.
          let same : added m.name f m.entries ≡ d = (let at = directory-entries in cc) in
          let is : m.entries.next + 1 ≡ d.next = ap (λ (x : DirectoryValue). x.next) same in
          let y = s.young.cookies m.directory m.entries may.entered in
          omega (arith, is, y))
          (λ d e. made-cookies (is_some (parent_in k)) d (sym (made-entries) ∙ e))
          (λ q ne older d e.
          let y = s.young.cookies q d (sym (other-entries q ne older) ∙ e) in
          omega (arith, y));
    };
    partition = λ n.
        let e = weigh n in
        let o = s.partition n in
        let stripes = blocks.total-mapped (card_made owner k f) (times_in_stripe n) (λ t. ap (λ x. times_in_stripe n (record t { blocks = x })) (blocks-same owner k f t))
        p.stripes in
        omega (arith, e, o, stripes);
  }
    where
      made-cookies : (b : Bool) (d : DirectoryValue) → (if b then Some empty_directory else None) ≡ Some d → d.next ≤ 3 + (made + 1)
      made-cookies false d e = absurd cc
      made-cookies true d e =
          let same : empty_directory ≡ d = cc in
          let is : 3 ≡ d.next = ap (λ (x : DirectoryValue). x.next) same in
          omega (arith, is)
