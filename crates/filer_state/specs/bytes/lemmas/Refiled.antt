-- A file whose stripes and inode change, so that it is no shorter: what has to hold of its stripes, and what then holds of the volume.
use Rattle.std.proofs.Common.{◌≡◌, ℕ, suc, ◌+◌, ◌/◌, ◌%◌, ◌<◌, ◌≤◌, ◌==◌, false, List, [], ◌∷◌, length, Option, Some}
use Rattle.std.proofs.Common.{refl, sym, ap, ◌∙◌, subst, arith, ⊎_elim}
use Rattle.std.specs.Prelude.{is_some, IfSome}
use Rattle.std.specs.List.{range_with_len}
use Rattle.std.specs.Option.{option_map}
use Rattle.std.specs.FinMap.{get, len}
use Rattle.std.specs.FinSet as sets
use Rattle.nfs_model.specs.Server.{block_size}
use Rattle.nfs_model.specs.Parts.{Hand}
use Rattle.depot_rule.specs.Sums.{total}
use Rattle.nfs_model.specs.volume.Inodes.{RegularFile, Inode, InodesValue, filled_blocks, inode_of, inode_set}
use Rattle.nfs_model.specs.volume.Stripes.{Block, StripeValue, stripe_of, byte_of, touch_of}
use Rattle.nfs_model.specs.volume.lemmas.Inodes.{inode-set-there, inode-set-other, next-set, used-set, len-set, set-is}
use Rattle.filer_state.specs.state.Contents.{VolumeContents}
use Rattle.filer_state.specs.state.Tree.{stripe_at, home_stripe, file_byte, file_filled, file_touch, later, most_file_blocks}
use Rattle.filer_state.specs.state.Names.{size_in, size_of, parent_directory, subdirectories_of, names_of, text_length_in, text_length_of}
use Rattle.filer_state.specs.state.Kinds.{IsFile}
use Rattle.filer_state.specs.state.WellFormed.{StripeFits, BlockFits, WellFormed, size_shown, owner_shown, owner_by, owner_in}
use Rattle.filer_state.specs.state.Partition.{times_in_stripe, times_in_hand}
use Rattle.filer_state.specs.state.Sound.{IsSound}
use Rattle.filer_state.specs.laws.lemmas.SameNames.{SamePlaces, named-same}
use Rattle.filer_state.specs.nodes.lemmas.Others as others

-- a volume has stripes
pub some-stripes : (p : VolumeContents) → WellFormed p → 0 < length p.stripes
some-stripes p well =
    let as_many = well.as_many in
    ⊎_elim (λ (e : p.logical.stripes ≡ 8). omega (arith, e, as_many)) (λ (e : p.logical.stripes ≡ 16). omega (arith, e, as_many)) well.striped

-- ---- a stripe

-- what has to hold of the i-th stripe: the card of a file shows the size and the owner that it had, its blocks fit it, and all else is as it was
pub record Refits (stripes i f size : ℕ) (s new : StripeValue) : Type 0 where
  pub verifier : new.verifier ≡ s.verifier
  pub striped : new.stripes ≡ s.stripes
  pub largest : new.largest ≡ s.largest
  pub card : option_map size_shown (get new.cards f) ≡ Some (Some size)
  pub owner : option_map owner_shown (get new.cards f) ≡ option_map owner_shown (get s.cards f)
  pub cards : (q : ℕ) → (q == f) ≡ false → get new.cards q ≡ get s.cards q
  pub blocks : (q block : ℕ) → (q == f) ≡ false → get new.blocks (q, block) ≡ get s.blocks (q, block)
  pub own : (block : ℕ) (b : Block) → get new.blocks (f, block) ≡ Some b → BlockFits stripes i f block size b × (length b.bytes ≡ block_size)

-- ---- all stripes

-- what has to hold of them, where this many blocks are more
pub record Refiles (p : VolumeContents) (f size more : ℕ) (stripes : List StripeValue) : Type 0 where
  pub as_many : length stripes ≡ length p.stripes
  pub each : (i : ℕ) → i < length p.stripes → Refits p.logical.stripes i f size (stripe_at p.stripes i) (stripe_at stripes i)
  pub used : total (λ (s : StripeValue). len s.blocks) stripes ≡ total (λ (s : StripeValue). len s.blocks) p.stripes + more
  pub filled : sets.len (file_filled stripes f) ≡ sets.len (file_filled p.stripes f) + more

-- touches by their cards
pub touch-alike : (xs ys : List StripeValue) (q : ℕ) → length xs ≡ length ys
    → ((i : ℕ) → i < length ys → touch_of (get (stripe_at xs i).cards q) ≡ touch_of (get (stripe_at ys i).cards q))
    → file_touch xs q ≡ file_touch ys q
touch-alike [] [] q long same = refl
touch-alike [] (y ∷ ys) q long same = absurd (omega (arith, long))
touch-alike (x ∷ xs) [] q long same = absurd (omega (arith, long))
touch-alike (x ∷ xs) (y ∷ ys) q long same =
    let here : touch_of (get x.cards q) ≡ touch_of (get y.cards q) = same 0 (omega arith) in
    let rest : file_touch xs q ≡ file_touch ys q =
    touch-alike xs ys q (omega (arith, long)) (λ i on. same (suc i) (omega (arith, on))) in
    λ j. later (here j) (rest j)

-- a file's kind
abbrev pub next_inode : Inode → ℕ → ℕ → Option (List ℕ) → Inode
next_inode inode size blocks verifier = record inode { kind = RegularFile size blocks verifier }

abbrev shown_size : Inode → Option ℕ
shown_size inode = size_in inode.kind

-- the volume with these stripes, and this inode
abbrev pub refiled : ℕ → Inode → List StripeValue → VolumeContents → VolumeContents
refiled f inode stripes p =
    record p { logical = record p.logical { inodes = inode_set f inode p.logical.inodes }; stripes = stripes }

module _ (p : VolumeContents) (f : ℕ) (inode : Inode) (old_size blocks : ℕ) (verifier : Option (List ℕ)) (size more : ℕ) (stripes : List StripeValue)
    (there : get p.logical.inodes.inodes f ≡ Some inode) (is_file : IsFile inode.kind old_size blocks verifier)
    (well : WellFormed p) (small : size ≤ p.logical.largest) (new : Refiles p f size more stripes) where
  abbrev old : InodesValue
  old = p.logical.inodes

  abbrev next : Inode
  next = next_inode inode size (blocks + more) verifier

  abbrev after : VolumeContents
  after = refiled f next stripes p

  at-file : inode_of after.logical.inodes f ≡ Some next
  at-file = inode-set-there old f inode next there

  at-other : (q : ℕ) → (q == f) ≡ false → inode_of after.logical.inodes q ≡ inode_of old q
  at-other q ne = inode-set-other old f next q ne

  by-fileid : (P : ℕ → Type 0) → P f → ((q : ℕ) → (q == f) ≡ false → P q) → (q : ℕ) → P q
  by-fileid = others.by-one f

  counts : (q : ℕ) → names_of (inode_of after.logical.inodes q) ≡ names_of (inode_of old q)
  counts = by-fileid (λ q. names_of (inode_of after.logical.inodes q) ≡ names_of (inode_of old q))
      (ap names_of at-file ∙ sym (ap names_of there))
      (λ q ne. ap names_of (at-other q ne))

  lengths : (q : ℕ) → text_length_of (inode_of after.logical.inodes q) ≡ text_length_of (inode_of old q)
  lengths = by-fileid (λ q. text_length_of (inode_of after.logical.inodes q) ≡ text_length_of (inode_of old q))
      (ap text_length_of at-file ∙ sym (ap text_length_of there ∙ ap text_length_in is_file))
      (λ q ne. ap text_length_of (at-other q ne))

  places : SamePlaces after.logical.inodes.inodes old.inodes
  places = record {
    parents = by-fileid (λ q. parent_directory (inode_of after.logical.inodes q) ≡ parent_directory (inode_of old q))
        (ap parent_directory at-file
        ∙ sym (ap parent_directory there ∙ ap (λ k. parent_directory (Some (record inode { kind = k }))) is_file))
        (λ q ne. ap parent_directory (at-other q ne));
    subdirectories = by-fileid (λ q. subdirectories_of (inode_of after.logical.inodes q) ≡ subdirectories_of (inode_of old q))
        (ap subdirectories_of at-file
        ∙ sym (ap subdirectories_of there ∙ ap (λ k. subdirectories_of (Some (record inode { kind = k }))) is_file))
        (λ q ne. ap subdirectories_of (at-other q ne));
  }

  -- ---- a stripe fits

  module _ (i : ℕ) (s t : StripeValue) (fits : StripeFits p.logical i s) (refits : Refits p.logical.stripes i f size s t) where
    abbrev HasBlock : ℕ → ℕ → Block → Type 0
    HasBlock q block b = (n : ℕ) × (size_of (inode_of after.logical.inodes q) ≡ Some n) × BlockFits p.logical.stripes i q block n b

    fits-block : (q block : ℕ) (b : Block) → get t.blocks (q, block) ≡ Some b → HasBlock q block b × (length b.bytes ≡ block_size)
    fits-block = by-fileid (λ q. (block : ℕ) (b : Block) → get t.blocks (q, block) ≡ Some b → HasBlock q block b × (length b.bytes ≡ block_size))
        (λ block b e. let own = refits.own block b e in ((size, ap size_of at-file, own.0), own.1))
        (λ q ne block b e.
        let was : get s.blocks (q, block) ≡ Some b = sym (refits.blocks q block ne) ∙ e in
        let fitted = fits.blocks q block b was in
        ((fitted.0, ap size_of (at-other q ne) ∙ fitted.1, fitted.2), fits.long.long (q, block) b was))

    fits-after : StripeFits after.logical i t
    fits-after = record {
      verifier = refits.verifier ∙ fits.verifier;
      stripes = refits.striped ∙ fits.stripes;
      largest = refits.largest ∙ fits.largest;
      cards = by-fileid (λ q. option_map size_shown (get t.cards q) ≡ option_map shown_size (inode_of after.logical.inodes q))
          (refits.card ∙ sym (ap (option_map shown_size) at-file))
          (λ q ne. ap (option_map size_shown) (refits.cards q ne) ∙ fits.cards q ∙ sym (ap (option_map shown_size) (at-other q ne)));
      owners = by-fileid (λ q. option_map owner_shown (get t.cards q) ≡ option_map owner_in (inode_of after.logical.inodes q))
          (refits.owner ∙ fits.owners f ∙ ap (option_map owner_in) there ∙ ap (λ k. Some (owner_by inode.attributes k)) is_file
          ∙ sym (ap (option_map owner_in) at-file))
          (λ q ne. ap (option_map owner_shown) (refits.cards q ne) ∙ fits.owners q ∙ sym (ap (option_map owner_in) (at-other q ne)));
      long = record { long = λ place b e. (fits-block place.0 place.1 b e).1 };
      blocks = λ q block b e. (fits-block q block b e).0;
    }

  -- ---- homes

  -- a block of another file
  home-other : (q block at : ℕ) → (q == f) ≡ false
      → get (home_stripe stripes q block).blocks (q, at) ≡ get (home_stripe p.stripes q block).blocks (q, at)
  home-other q block at ne =
      ap (λ (n : ℕ). get (stripe_at stripes (stripe_of n q block)).blocks (q, at)) new.as_many
      ∙ (new.each (stripe_of (length p.stripes) q block) (let some = some-stripes p well in omega (arith, some))).blocks q at ne

  pub filled-other : (q : ℕ) → (q == f) ≡ false → file_filled stripes q ≡ file_filled p.stripes q
  filled-other q ne = λ j. sets.retain (sets.from_list (range_with_len 0 most_file_blocks)) (λ block. is_some (home-other q block block ne j))

  pub byte-other : (q : ℕ) → (q == f) ≡ false → (k : ℕ) → file_byte stripes q k ≡ file_byte p.stripes q k
  byte-other q ne k = ap (λ o. byte_of o (k % block_size)) (home-other q (k / block_size) (k / block_size) ne)

  pub touch-other : (q : ℕ) → (q == f) ≡ false → file_touch stripes q ≡ file_touch p.stripes q
  touch-other q ne = touch-alike stripes p.stripes q new.as_many (λ i on. ap touch_of ((new.each i on).cards q ne))

  -- ---- the volume

  well-refiled : WellFormed after
  well-refiled = record {
    striped = well.striped;
    largest = well.largest;
    most_inodes = well.most_inodes;
    size = well.size;
    logical = record {
      inodes = set-is old f next well.logical.inodes;
      few = let same = len-set old f next in let few = well.logical.few in omega (arith, same, few);
      sizes = by-fileid (λ q. IfSome (size_of (inode_of after.logical.inodes q)) (λ n. n ≤ p.logical.largest))
          (subst (λ o. IfSome (size_of o) (λ n. n ≤ p.logical.largest)) (sym at-file) small)
          (λ q ne. subst (λ o. IfSome (size_of o) (λ n. n ≤ p.logical.largest)) (sym (at-other q ne)) (well.logical.sizes q));
      named = named-same after.logical.inodes.inodes old.inodes places counts p.logical.directories well.logical.named;
      texts = λ q. well.logical.texts q ∙ sym (lengths q);
    };
    as_many = new.as_many ∙ well.as_many;
    stripes = λ i less.
        let same = new.as_many in
        let on : i < length p.stripes = omega (arith, less, same) in
        fits-after i (stripe_at p.stripes i) (stripe_at stripes i) (well.stripes i on) (new.each i on);
    used =
        let set = used-set old f inode next well.logical.inodes there in
        let was = well.used in
        let sum = new.used in
        let file = ap filled_blocks is_file in
        omega (arith, set, was, sum, file);
    filled = by-fileid (λ q. (x : Inode) → inode_of after.logical.inodes q ≡ Some x → filled_blocks x.kind ≡ sets.len (file_filled stripes q))
        (λ x e.
        let is : next ≡ x = (let at = at-file in cc) in
        let was = well.filled f inode there in
        let file = ap filled_blocks is_file in
        let now = new.filled in
        let sum : blocks + more ≡ sets.len (file_filled stripes f) = omega (arith, was, file, now) in
        ap (λ (y : Inode). filled_blocks y.kind) (sym is) ∙ sum)
        (λ q ne x e. well.filled q x (sym (at-other q ne) ∙ e) ∙ sym (ap sets.len (filled-other q ne)));
    sixteen = well.sixteen;
    some = well.some;
    ranges = well.ranges;
  }

  -- where the numbers that come leave hands
  pub sound-refiled : (hands hands' : List Hand) (made : ℕ)
      → ((n : ℕ) → total (times_in_stripe n) stripes + total (times_in_hand p.number n) hands'
      ≡ total (times_in_stripe n) p.stripes + total (times_in_hand p.number n) hands)
      → IsSound p hands made → IsSound after hands' made
  sound-refiled hands hands' made moved s = record {
    well_formed = well-refiled;
    young = record {
      fileids = (let same = next-set old f next in let y = s.young.fileids in omega (arith, same, y));
      cookies = s.young.cookies;
    };
    partition = λ n. let e = moved n in let o = s.partition n in omega (arith, e, o);
  }
