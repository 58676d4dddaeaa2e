-- A file that grows to an end: all stays sound, and it has the bytes, blocks and touch that it had.
use Rattle.std.proofs.Common.{◌≡◌, ℕ, ◌/◌, ◌%◌, ◌<◌, ◌≤◌, ◌==◌, max, Bool, false, List, length, map, Option, Some, None, refl, sym, ap, ◌∙◌}
use Rattle.std.proofs.Common.{subst, arith}
use Rattle.std.specs.Prelude.{if◌then◌else◌}
use Rattle.std.proofs.lemmas.List.{length-map}
use Rattle.std.specs.Option.{option_map}
use Rattle.std.specs.FinMap.{get, len}
use Rattle.std.specs.FinSet as sets
use Rattle.nfs_model.specs.Server.{block_size}
use Rattle.nfs_model.specs.volume.Inodes.{Inode}
use Rattle.nfs_model.specs.volume.Stripes.{Card, OfFile, OfDirectory, Block, StripeValue, byte_of, touch_of, stripe_of}
use Rattle.nfs_model.specs.volume.lemmas.Numbered.{get-changed_at, itself}
use Rattle.filer_state.specs.state.Contents.{VolumeContents}
use Rattle.filer_state.specs.state.Tree.{stripe_at, home_stripe, file_byte, file_filled, file_touch}
use Rattle.filer_state.specs.state.Names.{size_in, size_of}
use Rattle.filer_state.specs.state.Kinds.{IsFile}
use Rattle.filer_state.specs.state.WellFormed.{BlockFits, WellFormed, size_shown, owner_shown}
use Rattle.filer_state.specs.laws.lemmas.SameBlocks.{stripe-mapped, total-mapped, filled-stays, homes-stay}
use Rattle.filer_state.specs.bytes.Extending.{card_grown, stripe_grown}
use Rattle.filer_state.specs.bytes.lemmas.Refiled.{Refits, Refiles, touch-alike}

-- ---- cards

module _ (f end : ℕ) (s : StripeValue) where
  card-at : (q : ℕ) → get (stripe_grown f end s).cards q ≡ (if q == f then option_map (card_grown end) (get s.cards f) else get s.cards q)
  card-at q = get-changed_at (card_grown end) f s.cards q

  card-here : get (stripe_grown f end s).cards f ≡ option_map (card_grown end) (get s.cards f)
  card-here = card-at f ∙ ap (λ (b : Bool). if b then option_map (card_grown end) (get s.cards f) else get s.cards f) (itself f)

  card-other : (q : ℕ) → (q == f) ≡ false → get (stripe_grown f end s).cards q ≡ get s.cards q
  card-other q ne = card-at q ∙ ap (λ (b : Bool). if b then option_map (card_grown end) (get s.cards f) else get s.cards q) ne

  touch-here : touch_of (get (stripe_grown f end s).cards f) ≡ touch_of (get s.cards f)
  touch-here = ap touch_of card-here ∙ by (get s.cards f)
    where
      by : (o : Option Card) → touch_of (option_map (card_grown end) o) ≡ touch_of o
      by None = refl
      by (Some (OfFile n touch owner)) = refl
      by (Some OfDirectory) = refl

  -- a card that shows a size
  shown-here : (size : ℕ) → option_map size_shown (get s.cards f) ≡ Some (Some size)
      → option_map size_shown (get (stripe_grown f end s).cards f) ≡ Some (Some (max size end))
  shown-here size shows = ap (option_map size_shown) card-here ∙ by (get s.cards f) shows
    where
      by : (o : Option Card) → option_map size_shown o ≡ Some (Some size)
          → option_map size_shown (option_map (card_grown end) o) ≡ Some (Some (max size end))
      by None h = absurd cc
      by (Some (OfFile n touch owner)) h = let same : n ≡ size = cc in ap (λ (k : ℕ). Some (Some (max k end))) same
      by (Some OfDirectory) h = absurd cc

  owner-here : option_map owner_shown (get (stripe_grown f end s).cards f) ≡ option_map owner_shown (get s.cards f)
  owner-here = ap (option_map owner_shown) card-here ∙ by (get s.cards f)
    where
      by : (o : Option Card) → option_map owner_shown (option_map (card_grown end) o) ≡ option_map owner_shown o
      by None = refl
      by (Some (OfFile n touch owner)) = refl
      by (Some OfDirectory) = refl

-- ---- the volume

module _ (p : VolumeContents) (f end : ℕ) (inode : Inode) (size blocks : ℕ) (verifier : Option (List ℕ))
    (there : get p.logical.inodes.inodes f ≡ Some inode) (is_file : IsFile inode.kind size blocks verifier) (well : WellFormed p) where
  abbrev pub grown_stripes : List StripeValue
  grown_stripes = map (stripe_grown f end) p.stripes

  sized : size_of (get p.logical.inodes.inodes f) ≡ Some size
  sized = ap size_of there ∙ ap size_in is_file

  -- the card of the file in each stripe
  pub card-shows : (i : ℕ) → i < length p.stripes → option_map size_shown (get (stripe_at p.stripes i).cards f) ≡ Some (Some size)
  card-shows i on =
      (well.stripes i on).cards f ∙ ap (option_map (λ (x : Inode). size_in x.kind)) there ∙ ap (λ k. Some (size_in k)) is_file

  -- a block of the file fits its size
  pub own-block : (i : ℕ) → i < length p.stripes → (block : ℕ) (b : Block) → get (stripe_at p.stripes i).blocks (f, block) ≡ Some b
      → BlockFits p.logical.stripes i f block size b × (length b.bytes ≡ block_size)
  own-block i on block b e =
      let fits = well.stripes i on in
      let fitted = fits.blocks f block b e in
      let same : fitted.0 ≡ size = (let says = sym fitted.1 ∙ sized in cc) in
      (subst (λ (n : ℕ). BlockFits p.logical.stripes i f block n b) same fitted.2, fits.long.long (f, block) b e)

  refits : (i : ℕ) → i < length p.stripes
      → Refits p.logical.stripes i f (max size end) (stripe_at p.stripes i) (stripe_grown f end (stripe_at p.stripes i))
  refits i on = record {
    verifier = refl;
    striped = refl;
    largest = refl;
    card = shown-here f end (stripe_at p.stripes i) size (card-shows i on);
    owner = owner-here f end (stripe_at p.stripes i);
    cards = card-other f end (stripe_at p.stripes i);
    blocks = λ q block ne. refl;
    own = λ block b e.
        let fitted = own-block i on block b e in (
          record {
            lies = fitted.0.lies;
            starts = (let starts = fitted.0.starts in omega (arith, starts));
            zeros = λ at past. fitted.0.zeros at (omega (arith, past));
          },
          fitted.1,
        );
  }

  pub grows : Refiles p f (max size end) 0 grown_stripes
  grows = record {
    as_many = length-map p.stripes (stripe_grown f end);
    each = λ i on. subst (Refits p.logical.stripes i f (max size end) (stripe_at p.stripes i))
        (sym (stripe-mapped (stripe_grown f end) p.stripes i on)) (refits i on);
    used = (let same = total-mapped (stripe_grown f end) (λ (s : StripeValue). len s.blocks) (λ s. refl) p.stripes in omega (arith, same));
    filled = (
        let same : sets.len (file_filled grown_stripes f) ≡ sets.len (file_filled p.stripes f) =
        ap sets.len (filled-stays (stripe_grown f end) (λ s. refl) p.stripes f) in omega (arith, same));
  }

  pub touch-grown : file_touch grown_stripes f ≡ file_touch p.stripes f
  touch-grown = touch-alike grown_stripes p.stripes f (length-map p.stripes (stripe_grown f end)) (λ i on.
      ap (λ (s : StripeValue). touch_of (get s.cards f)) (stripe-mapped (stripe_grown f end) p.stripes i on)
      ∙ touch-here f end (stripe_at p.stripes i))

  pub byte-grown : (k : ℕ) → file_byte grown_stripes f k ≡ file_byte p.stripes f k
  byte-grown k = ap (λ bs. byte_of (get bs (f, k / block_size)) (k % block_size))
      (homes-stay (stripe_grown f end) (λ s. refl) p.stripes f (k / block_size))

  -- past its size it reads as zeros
  pub byte-past : (k : ℕ) → 0 < length p.stripes → size ≤ k → file_byte p.stripes f k ≡ 0
  byte-past k some past = by (get (home_stripe p.stripes f (k / block_size)).blocks (f, k / block_size)) refl
    where
      by : (o : Option Block) → get (home_stripe p.stripes f (k / block_size)).blocks (f, k / block_size) ≡ o
          → byte_of o (k % block_size) ≡ 0
      by None e = refl
      by (Some b) e =
          (own-block (stripe_of (length p.stripes) f (k / block_size)) (omega (arith, some)) (k / block_size) b e).0.zeros
          (k % block_size) (omega (arith, past))
