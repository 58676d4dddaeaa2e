-- A file that gets a size: all stays sound.
use Rattle.std.proofs.Common.{◌≡◌, ℕ, ◌+◌, ◌-◌, ◌*◌, ◌<◌, ◌≤◌, ◌==◌, ◌||◌, Bool, true, false, cond, List, [], ◌∷◌, ◌++◌, length, map}
use Rattle.std.proofs.Common.{Option, Some, None, refl, sym, ap, ◌∙◌, subst, arith, nat_lt, length-append, ⊎_elim}
use Rattle.std.specs.Prelude.{if◌then◌else◌, is_some, IfSome}
use Rattle.std.proofs.lemmas.Bool.Decides.{nat_tests}
use Rattle.std.proofs.lemmas.List.{length-map}
use Rattle.std.specs.List.{range_with_len}
use Rattle.std.specs.Option.{option_map}
use Rattle.std.specs.Ordering.{nat_cmp}
use Rattle.std.specs.Cmp.{nat_cmp_total}
use Rattle.std.specs.FinMap.{get, len}
use Rattle.std.specs.FinSet as sets
use Rattle.std.specs.FinSet.{contains, from_list, contains-union}
use Rattle.nfs_model.specs.Server.{block_size}
use Rattle.nfs_model.specs.Parts.{Hand, one_if, times_listed}
use Rattle.depot_rule.specs.Sums.{total}
use Rattle.nfs_model.specs.Types.{Ownership}
use Rattle.nfs_model.specs.Serial.Rights.{ownership_of}
use Rattle.nfs_model.specs.volume.Inodes.{Inode, InodesValue, filled_blocks, inode_of, inode_set}
use Rattle.nfs_model.specs.volume.Stripes.{Card, OfFile, OfDirectory, Block, StripeValue, byte_cut, block_mapped, card_settled, touch_taken}
use Rattle.nfs_model.specs.volume.Stripes.{touch_of, stripe_of, is_filled, numbers_freed}
use Rattle.nfs_model.specs.volume.lemmas.Inodes.{inode-set-there, inode-set-other, next-set, used-set, len-set, set-is}
use Rattle.nfs_model.specs.volume.lemmas.Numbered.{get-insert_at, get-changed_at, itself}
use Rattle.filer_state.specs.state.Contents.{VolumeContents}
use Rattle.filer_state.specs.state.Tree.{stripe_at, home_stripe, file_filled, most_file_blocks, ranges_used}
use Rattle.filer_state.specs.state.Names.{size_in, size_of, parent_directory, subdirectories_of, names_of, text_length_in, text_length_of}
use Rattle.filer_state.specs.state.Kinds.{IsFile}
use Rattle.filer_state.specs.state.WellFormed.{StripeFits, BlockFits, WellFormed, IsLargest, size_shown, owner_shown, owner_by, owner_in}
use Rattle.filer_state.specs.state.Partition.{times_in_stripe, times_in_hand}
use Rattle.filer_state.specs.state.Sound.{IsSound}
use Rattle.filer_state.specs.state.Lenses.{logical_lens}
use Rattle.filer_state.specs.laws.lemmas.SameBlocks.{stripe-mapped}
use Rattle.filer_state.specs.laws.lemmas.SameNames.{SamePlaces, named-same}
use Rattle.filer_state.specs.laws.lemmas.Counted.{listed-times}
use Rattle.filer_state.specs.nodes.Sizing.{Sizing, stripe_sized, all_freed, kind_sized, inode_sized, file_sized}
use Rattle.filer_state.specs.nodes.lemmas.Others as others
use Rattle.filer_state.specs.nodes.lemmas.Counting.{blocks_in, filled-counted}
use Rattle.filer_state.specs.nodes.lemmas.Cutting.{cut-other, cut-here, cut-long, cut-zeros, cut-len, cut-times, cut-of}

-- ---- sums over stripes

module _ (f size : ℕ) (owner : Ownership) where
  freed-len : (stripes : List StripeValue) → total (λ (s : StripeValue). len s.blocks) (map (stripe_sized f size owner) stripes) + length (all_freed f size stripes)
      ≡ total (λ (s : StripeValue). len s.blocks) stripes
  freed-len [] = refl
  freed-len (s ∷ stripes) =
      let here = cut-len f size s in
      let others = freed-len stripes in
      let both = length-append (numbers_freed f size s) (all_freed f size stripes) in
      omega (arith, here, others, both)

  times-append : (n : ℕ) (xs ys : List ℕ) → times_listed n (xs ++ ys) ≡ times_listed n xs + times_listed n ys
  times-append n [] ys = omega arith
  times-append n (x ∷ xs) ys = let others = times-append n xs ys in omega (arith, others)

  pub freed-times : (n : ℕ) (stripes : List StripeValue)
      → total (times_in_stripe n) (map (stripe_sized f size owner) stripes) + times_listed n (all_freed f size stripes) ≡ total (times_in_stripe n) stripes
  freed-times n [] = refl
  freed-times n (s ∷ stripes) =
      let here = cut-times f size n s in
      let others = freed-times n stripes in
      let both = times-append n (numbers_freed f size s) (all_freed f size stripes) in
      omega (arith, here, others, both)

  freed-of : (stripes : List StripeValue) → total (blocks_in f) (map (stripe_sized f size owner) stripes) + length (all_freed f size stripes)
      ≡ total (blocks_in f) stripes
  freed-of [] = refl
  freed-of (s ∷ stripes) =
      let here = cut-of f size s in
      let others = freed-of stripes in
      let both = length-append (numbers_freed f size s) (all_freed f size stripes) in
      omega (arith, here, others, both)

  -- ---- cards

  pub card-sized : (s : StripeValue) (q : ℕ)
      → get (stripe_sized f size owner s).cards q ≡ (if q == f then Some (OfFile size None owner) else get s.cards q)
  card-sized s q =
      get-insert_at (touch_taken f s).cards f (OfFile size (touch_of (get (touch_taken f s).cards f)) owner) q
      ∙ by (q == f) refl
    where
      settled : (o : Option Card) → touch_of (option_map card_settled o) ≡ None
      settled None = refl
      settled (Some (OfFile n touch old)) = refl
      settled (Some OfDirectory) = refl

      untouched : touch_of (get (touch_taken f s).cards f) ≡ None
      untouched =
          ap touch_of (get-changed_at card_settled f s.cards f
          ∙ ap (λ (b : Bool). if b then option_map card_settled (get s.cards f) else get s.cards f) (itself f))
          ∙ settled (get s.cards f)

      by : (b : Bool) → (q == f) ≡ b
          → (if b then Some (OfFile size (touch_of (get (touch_taken f s).cards f)) owner) else get (touch_taken f s).cards q)
          ≡ (if b then Some (OfFile size None owner) else get s.cards q)
      by true e = ap (λ t. Some (OfFile size t owner)) untouched
      by false e = get-changed_at card_settled f s.cards q ∙ ap (λ (b : Bool). if b then option_map card_settled (get s.cards f) else get s.cards q) e

-- ---- the volume after it

-- the volume after a size is set
abbrev pub sized_in : Sizing → VolumeContents → VolumeContents
sized_in m p = logical_lens.put (file_sized m (logical_lens.of p)) p

abbrev shown_size : Inode → Option ℕ
shown_size inode = size_in inode.kind

less-from : (a b : ℕ) → nat_lt a b ≡ true → a < b
less-from a b h = grind (arith, nat_tests)

largest-blocks : (largest size block : ℕ) → IsLargest largest → size ≤ largest → block_size * block < size → block < most_file_blocks
unfolding most_file_blocks
largest-blocks largest size block is most less =
    let whole = is.is in let few = is.most in omega (arith, whole, few, most, less)

module _ (p : VolumeContents) (m : Sizing) (well : WellFormed p) (there : get p.logical.inodes.inodes m.fileid ≡ Some m.inode)
    (old_size filled : ℕ) (verifier : Option (List ℕ)) (is_file : IsFile m.inode.kind old_size filled verifier)
    (small : m.size ≤ p.logical.largest) where
  abbrev f : ℕ
  f = m.fileid

  -- who owns it then
  abbrev owner : Ownership
  owner = ownership_of m.attributes

  abbrev old : InodesValue
  old = p.logical.inodes

  abbrev fewer : ℕ
  fewer = length (all_freed f m.size p.stripes)

  abbrev next_inode : Inode
  next_inode = inode_sized m fewer

  abbrev new : InodesValue
  new = inode_set f next_inode old

  abbrev after : VolumeContents
  after = sized_in m p

  kind-after : IsFile next_inode.kind m.size (filled - fewer) verifier
  kind-after = ap (kind_sized m.size fewer) is_file

  at-file : inode_of new f ≡ Some next_inode
  at-file = inode-set-there old f m.inode next_inode there

  at-other : (q : ℕ) → (q == f) ≡ false → inode_of new q ≡ inode_of old q
  at-other q ne = inode-set-other old f next_inode q ne

  -- any fact of inodes: at the file, and at the others
  by-fileid : (P : ℕ → Type 0) → P f → ((q : ℕ) → (q == f) ≡ false → P q) → (q : ℕ) → P q
  by-fileid = others.by-one f

  size-after : size_of (inode_of new f) ≡ Some m.size
  size-after = ap size_of at-file ∙ ap size_in kind-after

  counts : (q : ℕ) → names_of (inode_of new q) ≡ names_of (inode_of old q)
  counts = by-fileid (λ q. names_of (inode_of new q) ≡ names_of (inode_of old q))
      (ap names_of at-file ∙ sym (ap names_of there))
      (λ q ne. ap names_of (at-other q ne))

  lengths : (q : ℕ) → text_length_of (inode_of new q) ≡ text_length_of (inode_of old q)
  lengths = by-fileid (λ q. text_length_of (inode_of new q) ≡ text_length_of (inode_of old q))
      (ap text_length_of at-file ∙ ap text_length_in kind-after ∙ sym (ap text_length_of there ∙ ap text_length_in is_file))
      (λ q ne. ap text_length_of (at-other q ne))

  places : SamePlaces new.inodes old.inodes
  places = record {
    parents = by-fileid (λ q. parent_directory (inode_of new q) ≡ parent_directory (inode_of old q))
        (ap parent_directory at-file ∙ ap (λ k. parent_directory (Some (record next_inode { kind = k }))) kind-after
        ∙ sym (ap parent_directory there ∙ ap (λ k. parent_directory (Some (record m.inode { kind = k }))) is_file))
        (λ q ne. ap parent_directory (at-other q ne));
    subdirectories = by-fileid (λ q. subdirectories_of (inode_of new q) ≡ subdirectories_of (inode_of old q))
        (ap subdirectories_of at-file ∙ ap (λ k. subdirectories_of (Some (record next_inode { kind = k }))) kind-after
        ∙ sym (ap subdirectories_of there ∙ ap (λ k. subdirectories_of (Some (record m.inode { kind = k }))) is_file))
        (λ q ne. ap subdirectories_of (at-other q ne));
  }

  -- ---- stripes

  shown-after : (s : StripeValue) → ((q : ℕ) → option_map size_shown (get s.cards q) ≡ option_map shown_size (inode_of old q))
      → (q : ℕ) → option_map size_shown (get (stripe_sized f m.size owner s).cards q) ≡ option_map shown_size (inode_of new q)
  shown-after s fits = by-fileid (λ q. option_map size_shown (get (stripe_sized f m.size owner s).cards q) ≡ option_map shown_size (inode_of new q))
      (ap (option_map size_shown) (card-sized f m.size owner s f)
      ∙ ap (λ (b : Bool). option_map size_shown (if b then Some (OfFile m.size None owner) else get s.cards f)) (itself f)
      ∙ sym (ap (option_map shown_size) at-file ∙ ap (λ k. Some (size_in k)) kind-after))
      (λ q ne. ap (option_map size_shown) (card-sized f m.size owner s q)
      ∙ ap (λ (b : Bool). option_map size_shown (if b then Some (OfFile m.size None owner) else get s.cards q)) ne
      ∙ fits q ∙ sym (ap (option_map shown_size) (at-other q ne)))

  owners-after : (s : StripeValue) → ((q : ℕ) → option_map owner_shown (get s.cards q) ≡ option_map owner_in (inode_of old q))
      → (q : ℕ) → option_map owner_shown (get (stripe_sized f m.size owner s).cards q) ≡ option_map owner_in (inode_of new q)
  owners-after s fits = by-fileid (λ q. option_map owner_shown (get (stripe_sized f m.size owner s).cards q) ≡ option_map owner_in (inode_of new q))
      (ap (option_map owner_shown) (card-sized f m.size owner s f)
      ∙ ap (λ (b : Bool). option_map owner_shown (if b then Some (OfFile m.size None owner) else get s.cards f)) (itself f)
      ∙ sym (ap (option_map owner_in) at-file ∙ ap (λ k. Some (owner_by m.attributes k)) kind-after))
      (λ q ne. ap (option_map owner_shown) (card-sized f m.size owner s q)
      ∙ ap (λ (b : Bool). option_map owner_shown (if b then Some (OfFile m.size None owner) else get s.cards q)) ne
      ∙ fits q ∙ sym (ap (option_map owner_in) (at-other q ne)))

  abbrev HasBlockAfter : ℕ → ℕ → ℕ → Block → Type 0
  HasBlockAfter i q block b = (size : ℕ) × (size_of (inode_of new q) ≡ Some size) × BlockFits p.logical.stripes i q block size b

  -- a block of the file that is found after it
  block-here : (i : ℕ) (s : StripeValue) → StripeFits p.logical i s → (block : ℕ) (b : Block)
      → get (stripe_sized f m.size owner s).blocks (f, block) ≡ Some b → HasBlockAfter i f block b × (length b.bytes ≡ block_size)
  block-here i s fits block b e = by (nat_lt (block_size * block) m.size) refl (get s.blocks (f, block)) refl (sym (cut-here f m.size s block) ∙ e)
    where
      by : (t : Bool) → nat_lt (block_size * block) m.size ≡ t → (o : Option Block) → get s.blocks (f, block) ≡ o
          → option_map (block_mapped (byte_cut m.size) block) (cond t o None) ≡ Some b → HasBlockAfter i f block b × (length b.bytes ≡ block_size)
      by true less None was is = absurd cc
      by true less (Some x) was is =
          let same : block_mapped (byte_cut m.size) block x ≡ b = cc in
          let fitted = fits.blocks f block x was in
          let starts = less-from (block_size * block) m.size less in
          subst (λ (y : Block). HasBlockAfter i f block y × (length y.bytes ≡ block_size)) same (
            (m.size, size-after, record { lies = fitted.2.lies; starts = starts; zeros = λ at past. cut-zeros f m.size block at x past }),
            cut-long f m.size block x,
          )
      by false less o was is = absurd cc

  -- a block of another file
  block-there : (i : ℕ) (s : StripeValue) → StripeFits p.logical i s → (q block : ℕ) (b : Block) → (q == f) ≡ false
      → get (stripe_sized f m.size owner s).blocks (q, block) ≡ Some b → HasBlockAfter i q block b × (length b.bytes ≡ block_size)
  block-there i s fits q block b ne e =
      let was : get s.blocks (q, block) ≡ Some b = sym (cut-other f m.size s q block ne) ∙ e in
      let fitted = fits.blocks q block b was in (
        (fitted.0, ap size_of (at-other q ne) ∙ fitted.1, fitted.2),
        fits.long.long (q, block) b was,
      )

  block-after : (i : ℕ) (s : StripeValue) → StripeFits p.logical i s → (q block : ℕ) (b : Block)
      → get (stripe_sized f m.size owner s).blocks (q, block) ≡ Some b → HasBlockAfter i q block b × (length b.bytes ≡ block_size)
  block-after i s fits = by-fileid (λ q. (block : ℕ) (b : Block) → get (stripe_sized f m.size owner s).blocks (q, block) ≡ Some b
      → HasBlockAfter i q block b × (length b.bytes ≡ block_size))
      (block-here i s fits)
      (λ q ne block b e. block-there i s fits q block b ne e)

  fits-after : (i : ℕ) (s : StripeValue) → StripeFits p.logical i s → StripeFits after.logical i (stripe_sized f m.size owner s)
  fits-after i s fits = record {
    verifier = fits.verifier;
    stripes = fits.stripes;
    largest = fits.largest;
    cards = shown-after s fits.cards;
    owners = owners-after s fits.owners;
    long = record { long = λ place b e. (block-after i s fits place.0 place.1 b e).1 };
    blocks = λ q block b e. (block-after i s fits q block b e).0;
  }

  on-stripe : (i : ℕ) → i < length p.stripes → stripe_at after.stripes i ≡ stripe_sized f m.size owner (stripe_at p.stripes i)
  on-stripe i on = stripe-mapped (stripe_sized f m.size owner) p.stripes i on

  -- ---- filled blocks

  many : length p.stripes ≡ p.logical.stripes
  many = well.as_many

  many-after : length after.stripes ≡ length p.stripes
  many-after = length-map p.stripes (stripe_sized f m.size owner)

  some-stripes : 0 < length p.stripes
  some-stripes =
      let as_many = well.as_many in
      ⊎_elim (λ (e : p.logical.stripes ≡ 8). omega (arith, e, as_many)) (λ (e : p.logical.stripes ≡ 16). omega (arith, e, as_many)) well.striped

  old-small : (size : ℕ) → size_of (inode_of old f) ≡ Some size → size ≤ p.logical.largest
  old-small size e = let within = well.logical.sizes f in subst (λ o. IfSome o (λ n. n ≤ p.logical.largest)) e within

  -- a filled block lies in its stripe, and is below the most
  lies-before : (i : ℕ) → i < length p.stripes → (block : ℕ) → is_filled (stripe_at p.stripes i) f block ≡ true
      → (stripe_of (length p.stripes) f block ≡ i) × (block < most_file_blocks)
  lies-before i on block h = by (get (stripe_at p.stripes i).blocks (f, block)) refl h
    where
      by : (o : Option Block) → get (stripe_at p.stripes i).blocks (f, block) ≡ o → is_some o ≡ true
          → (stripe_of (length p.stripes) f block ≡ i) × (block < most_file_blocks)
      by None e g = absurd cc
      by (Some b) e g =
          let fitted = (well.stripes i on).blocks f block b e in (
            ap (λ n. stripe_of n f block) many ∙ fitted.2.lies,
            largest-blocks p.logical.largest fitted.0 block well.largest (old-small fitted.0 fitted.1) fitted.2.starts,
          )

  lies-after : (i : ℕ) → i < length after.stripes → (block : ℕ) → is_filled (stripe_at after.stripes i) f block ≡ true
      → (stripe_of (length after.stripes) f block ≡ i) × (block < most_file_blocks)
  lies-after i less block h = by (get (stripe_at after.stripes i).blocks (f, block)) refl h
    where
      on : i < length p.stripes
      on = let same = many-after in omega (arith, less, same)

      by : (o : Option Block) → get (stripe_at after.stripes i).blocks (f, block) ≡ o → is_some o ≡ true
          → (stripe_of (length after.stripes) f block ≡ i) × (block < most_file_blocks)
      by None e g = absurd cc
      by (Some b) e g =
          let found : get (stripe_sized f m.size owner (stripe_at p.stripes i)).blocks (f, block) ≡ Some b =
          ap (λ (s : StripeValue). get s.blocks (f, block)) (sym (on-stripe i on)) ∙ e in
          let fitted = (block-here i (stripe_at p.stripes i) (well.stripes i on) block b found).0 in
          let same : m.size ≡ fitted.0 = (let is = size-after in let says = fitted.1 in cc) in (
            ap (λ n. stripe_of n f block) (many-after ∙ many) ∙ fitted.2.lies,
            largest-blocks p.logical.largest fitted.0 block well.largest (subst (λ (n : ℕ). n ≤ p.logical.largest) same small) fitted.2.starts,
          )

  filled-before : filled ≡ total (blocks_in f) p.stripes
  filled-before =
      sym (ap filled_blocks is_file) ∙ well.filled f m.inode there ∙ filled-counted p.stripes f some-stripes lies-before

  filled-now : sets.len (file_filled after.stripes f) ≡ total (blocks_in f) after.stripes
  filled-now = filled-counted after.stripes f (let same = many-after in let some = some-stripes in omega (arith, same, some)) lies-after

  file-filled : filled - fewer ≡ sets.len (file_filled after.stripes f)
  file-filled =
      let was = filled-before in
      let left = freed-of f m.size owner p.stripes in
      let now = filled-now in
      omega (arith, was, left, now)

  pub fewer-filled : fewer ≤ filled
  fewer-filled = let was = filled-before in let left = freed-of f m.size owner p.stripes in omega (arith, was, left)

  -- another file's blocks are those that it had
  home-other : (q block : ℕ) → (q == f) ≡ false → is_filled (home_stripe after.stripes q block) q block ≡ is_filled (home_stripe p.stripes q block) q block
  home-other q block ne =
      ap (λ (n : ℕ). is_filled (stripe_at after.stripes (stripe_of n q block)) q block) many-after
      ∙ ap (λ (s : StripeValue). is_filled s q block) (on-stripe (stripe_of (length p.stripes) q block) (let some = some-stripes in omega (arith, some)))
      ∙ ap (λ o. is_some o) (cut-other f m.size (home_stripe p.stripes q block) q block ne)

  pub filled-other : (q : ℕ) → (q == f) ≡ false → file_filled after.stripes q ≡ file_filled p.stripes q
  filled-other q ne = λ j. sets.retain (sets.from_list (range_with_len 0 most_file_blocks)) (λ block. home-other q block ne j)

  filled-after : (q : ℕ) (x : Inode) → inode_of new q ≡ Some x → filled_blocks x.kind ≡ sets.len (file_filled after.stripes q)
  filled-after = by-fileid (λ q. (x : Inode) → inode_of new q ≡ Some x → filled_blocks x.kind ≡ sets.len (file_filled after.stripes q))
      (λ x e.
      let is : next_inode ≡ x = (let at = at-file in cc) in
      ap (λ (i : Inode). filled_blocks i.kind) (sym is) ∙ ap filled_blocks kind-after ∙ file-filled)
      (λ q ne x e. well.filled q x (sym (at-other q ne) ∙ e) ∙ sym (ap sets.len (filled-other q ne)))

  -- ---- all of it

  pub well-sized : WellFormed after
  well-sized = record {
    striped = well.striped;
    largest = well.largest;
    most_inodes = well.most_inodes;
    size = well.size;
    logical = record {
      inodes = set-is old f next_inode well.logical.inodes;
      few = let same = len-set old f next_inode in let few = well.logical.few in omega (arith, same, few);
      sizes = by-fileid (λ q. IfSome (size_of (inode_of new q)) (λ size. size ≤ p.logical.largest))
          (subst (λ o. IfSome o (λ size. size ≤ p.logical.largest)) (sym size-after) small)
          (λ q ne. subst (λ o. IfSome (size_of o) (λ size. size ≤ p.logical.largest)) (sym (at-other q ne)) (well.logical.sizes q));
      named = named-same new.inodes old.inodes places counts p.logical.directories well.logical.named;
      texts = λ q. well.logical.texts q ∙ sym (lengths q);
    };
    as_many = many-after ∙ well.as_many;
    stripes = λ i less.
        let same = many-after in
        let on : i < length p.stripes = omega (arith, less, same) in
        subst (StripeFits after.logical i) (sym (on-stripe i on)) (fits-after i (stripe_at p.stripes i) (well.stripes i on));
    used =
        let set = used-set old f m.inode next_inode well.logical.inodes there in
        let was = well.used in
        let left = freed-len f m.size owner p.stripes in
        let file = ap filled_blocks is_file in
        let now = ap filled_blocks kind-after in
        let less = fewer-filled in
        omega (arith, set, was, left, file, now, less);
    filled = filled-after;
    sixteen = well.sixteen;
    some = well.some;
    ranges = well.ranges;
  }

  -- ---- the partition

  abbrev freed : List ℕ
  freed = all_freed f m.size p.stripes

  or-counts : (b c : Bool) → one_if b + one_if c ≤ 1 → one_if (b || c) ≡ one_if b + one_if c
  or-counts true true h = absurd (omega (arith, h))
  or-counts true false h = refl
  or-counts false c h = omega (arith, h)

  one-at-most : (b : Bool) → one_if b ≤ 1
  one-at-most true = omega arith
  one-at-most false = omega arith

  pub sound-sized : (hands hands' : List Hand) (made now : ℕ) → made ≤ now →
      ((n : ℕ) → total (times_in_hand p.number n) hands' ≡ total (times_in_hand p.number n) hands)
      → IsSound p hands made → IsSound after hands' now
  sound-sized hands hands' made now later weigh s = record {
    well_formed = well-sized;
    young = record {
      fileids = (let next = next-set old f next_inode in let y = s.young.fileids in omega (arith, next, y, later));
      cookies = λ q d e. let y = s.young.cookies q d e in omega (arith, y, later);
    };
    partition = λ n.
        let e = weigh n in
        let o = s.partition n in
        let most = one-at-most (nat_lt n (p.logical.dead.range_blocks * ranges_used p.ranges)) in
        let left = freed-times f m.size owner n p.stripes in
        let listed = listed-times n freed (omega (arith, o, most, left)) in
        let dead = or-counts (contains p.logical.dead.blocks n) (contains (from_list {R = nat_cmp} freed) n) (omega (arith, o, most, left, listed)) in
        let now : one_if (contains after.logical.dead.blocks n) ≡ one_if (contains p.logical.dead.blocks n) + times_listed n freed =
        ap one_if (contains-union nat_cmp_total p.logical.dead.blocks (from_list freed) n)
        ∙ dead ∙ ap (λ (k : ℕ). one_if (contains p.logical.dead.blocks n) + k) listed in
        omega (arith, e, o, left, now);
  }
