-- Bytes of one span or of two, whose blocks are there, written within a file: all stays sound, and the file has them.
use Rattle.std.proofs.Common.{◌≡◌, ℕ, ◌+◌, ◌-◌, ◌*◌, ◌/◌, ◌<◌, ◌≤◌, true, List, [], ◌∷◌, length, take, drop, min}
use Rattle.std.proofs.Common.{Option, Some, None, refl, sym, ap, ◌∙◌, subst, arith, inr}
use Rattle.std.specs.Prelude.{slice_set}
use Rattle.std.specs.Option.{option_map}
use Rattle.std.proofs.lemmas.List.{length-take, length-drop, take_all}
use Rattle.std.specs.List.{list_all}
use Rattle.std.specs.FinMap.{get}
use Rattle.nfs_model.specs.Types.{Moment, Ownership}
use Rattle.nfs_model.specs.Parts.{Hand}
use Rattle.nfs_model.specs.Server.{block_size}
use Rattle.nfs_model.specs.Home.{span_bytes}
use Rattle.nfs_model.specs.Serial.Write.{blocks_met}
use Rattle.nfs_model.specs.Shown.{touched}
use Rattle.nfs_model.specs.Serial.Setattr.{with_node}
use Rattle.nfs_model.specs.volume.Inodes.{Inode}
use Rattle.nfs_model.specs.volume.Stripes.{Card, OfFile, OfDirectory, StripeValue, stripe_of, is_filled, overwritten, byte_written}
use Rattle.filer_state.specs.state.Contents.{VolumeContents}
use Rattle.filer_state.specs.state.Tree.{stripe_at, home_stripe, file_byte, file_filled, file_touch, most_file_blocks, volume_of}
use Rattle.filer_state.specs.state.Names.{size_in, size_of}
use Rattle.filer_state.specs.state.Kinds.{IsFile}
use Rattle.filer_state.specs.state.WellFormed.{size_shown}
use Rattle.filer_state.specs.state.Sound.{IsSound}
use Rattle.filer_state.specs.state.Calls.{LieIn}
use Rattle.filer_state.specs.bytes.Extending.{span_written, spans_written, left_of_span}
use Rattle.filer_state.specs.bytes.lemmas.Refiled.{some-stripes}
use Rattle.filer_state.specs.bytes.lemmas.Else.{SeenAlike, put-twice}
use Rattle.filer_state.specs.bytes.lemmas.Grown.{card-shows}
use Rattle.filer_state.specs.bytes.lemmas.Met.{met-tests, block-home}
use Rattle.filer_state.specs.bytes.lemmas.OneStripe.{home-same}
use Rattle.filer_state.specs.bytes.lemmas.Overwritten.{filled-same}
use Rattle.filer_state.specs.bytes.lemmas.WrittenFits.{sound-written}
use Rattle.filer_state.specs.bytes.lemmas.WrittenNodes.{volume-written, byte-now, filled-kept, touch-now}
use Rattle.filer_state.specs.bytes.lemmas.Neighbours.{written-twice, touched-twice}

-- the blocks that bytes meet are there
abbrev pub AreThere : ℕ → ℕ → ℕ → List StripeValue → Type 0
AreThere f offset n stripes = (b : ℕ) → 0 < n → offset / block_size ≤ b → b ≤ (offset + n - 1) / block_size → is_filled (home_stripe stripes f b) f b ≡ true

-- the volume with other stripes
abbrev pub restriped : List StripeValue → VolumeContents → VolumeContents
restriped stripes p = record p { stripes = stripes }

-- what holds after bytes are written
pub record Overwrites (f offset : ℕ) (written : List ℕ) (moment : Moment) (p : VolumeContents) (hands : List Hand) (made : ℕ) (stripes : List StripeValue)
    : Type 0 where
  pub sound : IsSound (restriped stripes p) hands made
  pub bytes : (k : ℕ) → file_byte stripes f k ≡ byte_written offset written k (file_byte p.stripes f k)
  pub filled : file_filled stripes f ≡ file_filled p.stripes f
  pub there : (b : ℕ) → is_filled (home_stripe stripes f b) f b ≡ is_filled (home_stripe p.stripes f b) f b
  pub touch : file_touch stripes f ≡ Some (touched (file_touch p.stripes f) moment)
  pub seen : SeenAlike f (restriped stripes p) p

module _ (p : VolumeContents) (f : ℕ) (inode : Inode) (size blocks : ℕ) (verifier : Option (List ℕ))
    (there : get p.logical.inodes.inodes f ≡ Some inode) (is_file : IsFile inode.kind size blocks verifier)
    (moment : Moment) (hands : List Hand) (small : size ≤ block_size * most_file_blocks) where
  sized : size_of (get p.logical.inodes.inodes f) ≡ Some size
  sized = ap size_of there ∙ ap size_in is_file

  -- ---- one span

  module _ (stripes : List StripeValue) (made : ℕ) (sound : IsSound (restriped stripes p) hands made) (offset : ℕ) (written : List ℕ)
      (some : 0 < length written) (within : offset + length written ≤ size) (one : offset / span_bytes ≡ (offset + length written - 1) / span_bytes)
      (all : AreThere f offset (length written) stripes) where
    abbrev q : VolumeContents
    q = restriped stripes p

    abbrev i : ℕ
    i = stripe_of (length stripes) f (offset / block_size)

    on : i < length stripes
    on = let more = some-stripes q sound.well_formed in omega (arith, more)

    lies : LieIn (length stripes) i f offset (length written)
    lies = record { span = inr one; stripe = refl }

    filled : list_all (is_filled (stripe_at stripes i) f) (blocks_met offset (length written)) ≡ true
    filled =
        met-tests (is_filled (stripe_at stripes i) f) (λ b. true) offset (length written)
        (λ b more from below.
        sym (ap (λ (k : ℕ). is_filled (stripe_at stripes k) f b) (block-home stripes i f offset (length written) lies b more from below))
        ∙ all b more from below)
        ∙ each (blocks_met offset (length written))
      where
        each : (bs : List ℕ) → list_all (λ (b : ℕ). true) bs ≡ true
        each [] = refl
        each (b ∷ bs) = each bs

    -- the card of the file
    is-card : (o : Option Card) → option_map size_shown o ≡ Some (Some size)
        → (touch : Option Moment) × (owner : Ownership) × (o ≡ Some (OfFile size touch owner))
    is-card None e = absurd cc
    is-card (Some (OfFile n touch owner)) e = let same : n ≡ size = cc in (touch, owner, ap (λ (k : ℕ). Some (OfFile k touch owner)) same)
    is-card (Some OfDirectory) e = absurd cc

    card : (touch : Option Moment) × (owner : Ownership) × (get (stripe_at stripes i).cards f ≡ Some (OfFile size touch owner))
    card = is-card (get (stripe_at stripes i).cards f) (card-shows q f 0 inode size blocks verifier there is_file sound.well_formed i on)

    small-end : offset + length written ≤ block_size * most_file_blocks
    small-end = omega (arith, within, small)

    abbrev now : StripeValue
    now = overwritten f offset written moment (stripe_at stripes i)

    abbrev after : List StripeValue
    after = slice_set stripes i now

    one-span : Overwrites f offset written moment q hands (made + 1) after
    one-span = record {
      sound = sound-written q i f offset written moment size on sized within hands hands made (λ n. refl) sound;
      bytes = byte-now q i f offset written moment on lies small-end filled size card.0 card.1 card.2;
      filled = filled-kept q i f offset written moment on lies small-end filled size card.0 card.1 card.2 f;
      there = λ b. home-same stripes i now on (λ s. is_filled s f b) f b (filled-same f offset written moment (stripe_at stripes i) f b);
      touch = touch-now q i f offset written moment on lies small-end filled size card.0 card.1 card.2;
      seen = λ x.
          ap (λ v. with_node v f x) (volume-written q i f offset written moment on lies small-end filled size card.0 card.1 card.2
          inode there size blocks verifier is_file within)
          ∙ put-twice (volume_of q) f _ x;
    }

  -- ---- both

  module _ (made : ℕ) (sound : IsSound p hands made) (offset : ℕ) (written : List ℕ) (some : 0 < length written) (few : length written ≤ span_bytes)
      (within : offset + length written ≤ size) (all : AreThere f offset (length written) p.stripes) where
    abbrev l : ℕ
    l = left_of_span offset

    abbrev first : List ℕ
    first = take l written

    abbrev second : List ℕ
    second = drop l written

    first-long : length first ≡ min l (length written)
    first-long = length-take l written

    second-long : length second ≡ length written - l
    second-long = length-drop l written

    -- by what there is of the first span
    first-written : (xs : List ℕ) → xs ≡ first → Overwrites f offset xs moment p hands (made + 1) (span_written f offset xs moment p.stripes)
    first-written [] e = let none : 0 ≡ length first = ap (λ (ys : List ℕ). length ys) e in let long = first-long in absurd (omega (arith, none, long, some))
    first-written (x ∷ xs) e =
        let same : length (x ∷ xs) ≡ length first = ap (λ (ys : List ℕ). length ys) e in
        let long = first-long in
        one-span p.stripes made sound offset (x ∷ xs) (omega arith) (omega (arith, long, same, within)) (omega (arith, long, same, some))
        (λ b more from below. all b some from (omega (arith, long, same, below, more)))

    abbrev between : List StripeValue
    between = span_written f offset first moment p.stripes

    first-done : Overwrites f offset first moment p hands (made + 1) between
    first-done = first-written first refl

    abbrev after_both : List ℕ → List StripeValue
    after_both xs = span_written f (offset + l) xs moment between

    -- then the second, if there is one
    joined : (xs : List ℕ) → xs ≡ second → (stripes : List StripeValue) → Overwrites f (offset + l) xs moment (restriped between p) hands (made + 2) stripes
        → Overwrites f offset written moment p hands (made + 2) stripes
    joined xs e stripes other = record {
      sound = other.sound;
      bytes = λ k.
          other.bytes k ∙ ap (byte_written (offset + l) xs k) (first-done.bytes k)
          ∙ ap (λ (ys : List ℕ). byte_written (offset + l) ys k (byte_written offset first k (file_byte p.stripes f k))) e
          ∙ written-twice offset l written k (file_byte p.stripes f k);
      filled = other.filled ∙ first-done.filled;
      there = λ b. other.there b ∙ first-done.there b;
      touch = other.touch ∙ ap (λ o. Some (touched o moment)) first-done.touch
          ∙ ap (λ (m : Moment). Some m) (touched-twice (file_touch p.stripes f) moment);
      seen = λ x. other.seen x ∙ first-done.seen x;
    }

    -- where there is no second span
    alone : [] ≡ second → Overwrites f offset written moment p hands (made + 2) between
    alone e =
        let none : 0 ≡ length second = ap (λ (ys : List ℕ). length ys) e in
        let long = second-long in
        let whole : first ≡ written = take_all l written (omega (arith, none, long)) in
        subst (λ (ys : List ℕ). Overwrites f offset ys moment p hands (made + 2) between) whole (record {
          sound = later (first-done.sound);
          bytes = first-done.bytes;
          filled = first-done.filled;
          there = first-done.there;
          touch = first-done.touch;
          seen = first-done.seen;
        })
      where
        later : IsSound (restriped between p) hands (made + 1) → IsSound (restriped between p) hands (made + 2)
        later s = record {
          well_formed = s.well_formed;
          young = record {
            fileids = (let y = s.young.fileids in omega (arith, y));
            cookies = λ fileid d e. let y = s.young.cookies fileid d e in omega (arith, y);
          };
          partition = s.partition;
        }

    both-written : (xs : List ℕ) → xs ≡ second → Overwrites f offset written moment p hands (made + 2) (after_both xs)
    both-written [] e = alone e
    both-written (x ∷ xs) e =
        let same : length (x ∷ xs) ≡ length second = ap (λ (ys : List ℕ). length ys) e in
        let long = second-long in
        joined (x ∷ xs) e (after_both (x ∷ xs))
        (subst (λ (m : ℕ). Overwrites f (offset + l) (x ∷ xs) moment (restriped between p) hands m (after_both (x ∷ xs)))
        (let sum : made + 1 + 1 ≡ made + 2 = omega arith in sum)
        (one-span between (made + 1) first-done.sound (offset + l) (x ∷ xs) (omega arith) (omega (arith, long, same, within))
        (omega (arith, long, same, few)) (λ b more from below. first-done.there b ∙ all b some (omega (arith, from)) (omega (arith, long, same, below, more)))))

    -- bytes of one span or of two
    pub spans-written : Overwrites f offset written moment p hands (made + 2) (spans_written f offset written moment p.stripes)
    spans-written = both-written second refl
