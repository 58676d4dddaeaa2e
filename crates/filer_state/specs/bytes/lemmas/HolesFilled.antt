-- A file of which holes are filled, with the numbers of a hand: all stays sound, and it has the bytes and touch that it had.
use Rattle.std.proofs.Common.{◌≡◌, ℕ, suc, ◌+◌, ◌*◌, ◌<◌, ◌≤◌, ◌==◌, ◌||◌, Bool, true, false, List, [], ◌∷◌, length, Option, Some}
use Rattle.std.proofs.Common.{nat_eq, eq-eqb, ne_eqb, refl, sym, ap, ◌∙◌, subst, arith}
use Rattle.std.specs.Prelude.{if◌then◌else◌, IfSome}
use Rattle.std.proofs.lemmas.Bool.{eqb-true}
use Rattle.std.specs.FinMap.{get}
use Rattle.nfs_model.specs.Parts.{Hand, Fresh, times_listed}
use Rattle.nfs_model.specs.Server.{block_size}
use Rattle.nfs_model.specs.volume.Inodes.{RegularFile, Inode}
use Rattle.nfs_model.specs.volume.Stripes.{StripeValue, is_filled, block_inserted}
use Rattle.nfs_model.specs.volume.lemmas.Inodes.{inode-set-there, inode-set-twice, inode-set-same}
use Rattle.nfs_model.specs.volume.lemmas.Numbered.{itself}
use Rattle.filer_state.specs.state.Contents.{VolumeContents}
use Rattle.filer_state.specs.state.Tree.{home_stripe, file_byte, file_touch, most_file_blocks}
use Rattle.filer_state.specs.state.Names.{size_in, size_of}
use Rattle.filer_state.specs.state.Kinds.{IsFile}
use Rattle.filer_state.specs.state.WellFormed.{WellFormed, IsLargest}
use Rattle.filer_state.specs.state.Partition.{times_in_hand}
use Rattle.filer_state.specs.state.Sound.{IsSound}
use Rattle.filer_state.specs.bytes.Extending.{filled_with, home_changed}
use Rattle.filer_state.specs.bytes.lemmas.Refiled.{Refiles, refiled, next_inode, sound-refiled}
use Rattle.filer_state.specs.bytes.lemmas.Else.{SeenAlike, seen-alike}
use Rattle.filer_state.specs.bytes.lemmas.HoleFilled.{fills, filled-at, times-filled, touch-filled, byte-filled}
use Rattle.filer_state.specs.bytes.lemmas.Holes.{AreHoles, IsHole, holes-stay, is_listed}

-- ---- hands

-- a hand has its own batch
pub fresh-times : (v n : ℕ) (blocks : List ℕ) → times_in_hand v n (Fresh v blocks) ≡ times_listed n blocks
fresh-times v n blocks = ap (λ (b : Bool). times_listed n (if b then blocks else [])) (itself v)

-- ---- what an inode set twice is

refiled-twice : (p : VolumeContents) (f : ℕ) (x y : Inode) (some stripes : List StripeValue)
    → refiled f y stripes (refiled f x some p) ≡ refiled f y stripes p
refiled-twice p f x y some stripes =
    λ j. record p { logical = record p.logical { inodes = inode-set-twice p.logical.inodes f x y j }; stripes = stripes }

refiled-same : (p : VolumeContents) (f : ℕ) (inode : Inode) → WellFormed p → get p.logical.inodes.inodes f ≡ Some inode → refiled f inode p.stripes p ≡ p
refiled-same p f inode well there =
    λ j. record p { logical = record p.logical { inodes = inode-set-same p.logical.inodes f inode well.logical.inodes there j } }

-- the same inode
inode-is : (inode : Inode) (size blocks : ℕ) (verifier : Option (List ℕ)) (other : ℕ) → IsFile inode.kind size blocks verifier
    → blocks ≡ other → next_inode inode size other verifier ≡ inode
inode-is inode size blocks verifier other is same =
    λ j. record inode { kind = (sym (ap (λ (k : ℕ). RegularFile size k verifier) same) ∙ sym is) j }

-- ---- one after another

-- what holds after holes of a file are filled
pub record FilledUp (f : ℕ) (blocks : List ℕ) (p : VolumeContents) (hands : List Hand) (made : ℕ) (after : VolumeContents) : Type 0 where
  pub sound : IsSound after hands made
  pub bytes : (k : ℕ) → file_byte after.stripes f k ≡ file_byte p.stripes f k
  pub filled : (q : ℕ) → is_filled (home_stripe after.stripes f q) f q ≡ (is_listed q blocks || is_filled (home_stripe p.stripes f q) f q)
  pub touch : file_touch after.stripes f ≡ file_touch p.stripes f
  pub seen : SeenAlike f after p

small-block : (largest size b : ℕ) → IsLargest largest → size ≤ largest → block_size * b < size → b < most_file_blocks
unfolding most_file_blocks
small-block largest size b is most less = let whole = is.is in let few = is.most in omega (arith, whole, few, most, less)

-- it is no longer than the largest
pub size-small : (p : VolumeContents) (f : ℕ) (inode : Inode) (size blocks : ℕ) (verifier : Option (List ℕ)) → WellFormed p
    → get p.logical.inodes.inodes f ≡ Some inode → IsFile inode.kind size blocks verifier → size ≤ p.logical.largest
size-small p f inode size blocks verifier well there is_file =
    subst (λ o. IfSome o (λ n. n ≤ p.logical.largest))
    (ap size_of there ∙ ap size_in is_file) (well.logical.sizes f)

module _ (f : ℕ) (size : ℕ) (verifier : Option (List ℕ)) (hands : List Hand) (made : ℕ) where
  abbrev after_all : List ℕ → List ℕ → Inode → ℕ → VolumeContents → VolumeContents
  after_all blocks numbers inode many p =
      refiled f (next_inode inode size (many + length numbers) verifier) (filled_with f blocks numbers p.stripes) p

  -- one hole, and then the others
  module _ (p : VolumeContents) (inode : Inode) (many : ℕ) (there : get p.logical.inodes.inodes f ≡ Some inode)
      (is_file : IsFile inode.kind size many verifier) (first b n : ℕ) (is_hole : IsHole f size p.stripes first b)
      (numbers : List ℕ) (sound : IsSound p (Fresh p.number (n ∷ numbers) ∷ hands) made) where
    abbrev one : VolumeContents
    one = refiled f (next_inode inode size (many + 1) verifier) (home_changed f b (block_inserted f b n) p.stripes) p

    small : size ≤ p.logical.largest
    small = size-small p f inode size many verifier sound.well_formed there is_file

    below : b < most_file_blocks
    below = small-block p.logical.largest size b sound.well_formed.largest small is_hole.starts

    filling : Refiles p f size 1 (home_changed f b (block_inserted f b n) p.stripes)
    filling = fills p f b n inode size many verifier there is_file sound.well_formed is_hole.starts below is_hole.hole

    there-then : get one.logical.inodes.inodes f ≡ Some (next_inode inode size (many + 1) verifier)
    there-then = inode-set-there p.logical.inodes f inode (next_inode inode size (many + 1) verifier) there

    sound-then : IsSound one (Fresh p.number numbers ∷ hands) made
    sound-then = sound-refiled p f inode size many verifier size 1 (home_changed f b (block_inserted f b n) p.stripes) there is_file
        sound.well_formed small filling (Fresh p.number (n ∷ numbers) ∷ hands) (Fresh p.number numbers ∷ hands) made
        (λ m.
        let more = times-filled p f b n inode size many verifier there is_file sound.well_formed is_hole.starts below is_hole.hole m in
        let was = fresh-times p.number m (n ∷ numbers) in
        let now = fresh-times p.number m numbers in
        omega (arith, more, was, now))
        sound

    filled-then : (c : ℕ) → is_filled (home_stripe one.stripes f c) f c ≡ ((c == b) || is_filled (home_stripe p.stripes f c) f c)
    filled-then = filled-at p f b n inode size many verifier there is_file sound.well_formed is_hole.starts below is_hole.hole

    holes-then : (bs : List ℕ) → AreHoles f size p.stripes (b + 1) bs → AreHoles f size one.stripes (b + 1) bs
    holes-then bs are = holes-stay f size p.stripes one.stripes (b + 1) bs
        (λ c from. filled-then c
        ∙ ap (λ (t : Bool). t || is_filled (home_stripe p.stripes f c) f c)
        (ne_eqb c b (λ (e : c ≡ b). omega (arith, e, from)))) are

    joined : (bs : List ℕ) (after : VolumeContents) → FilledUp f bs one hands made after → FilledUp f (b ∷ bs) p hands made after
    joined bs after rest = record {
      sound = rest.sound;
      bytes = λ k. rest.bytes k
          ∙ byte-filled p f b n inode size many verifier there is_file sound.well_formed is_hole.starts below is_hole.hole k;
      filled = λ q. rest.filled q ∙ ap (λ (t : Bool). is_listed q bs || t) (filled-then q)
          ∙ swapped (is_listed q bs) (q == b) (nat_eq b q) (is_filled (home_stripe p.stripes f q) f q)
          (λ e. eq-eqb b q (sym (eqb-true q b e))) (λ e. eq-eqb q b (sym (eqb-true b q e)));
      touch = rest.touch
          ∙ touch-filled p f b n inode size many verifier there is_file sound.well_formed is_hole.starts below is_hole.hole f;
      seen = λ x. rest.seen x
          ∙ seen-alike p f inode size many verifier size 1 (home_changed f b (block_inserted f b n) p.stripes) there is_file
          sound.well_formed small filling x;
    }
      where
        swapped : (a x y z : Bool) → (x ≡ true → y ≡ true) → (y ≡ true → x ≡ true) → (a || (x || z)) ≡ ((y || a) || z)
        swapped a true true z g h = either a
          where
            either : (t : Bool) → (t || true) ≡ true
            either true = refl
            either false = refl
        swapped a true false z g h = let e = g refl in absurd cc
        swapped a false true z g h = let e = h refl in absurd cc
        swapped a false false z g h = refl

  pub filled-up : (blocks numbers : List ℕ) → length numbers ≡ length blocks → (p : VolumeContents) (inode : Inode) (many first : ℕ)
      → get p.logical.inodes.inodes f ≡ Some inode → IsFile inode.kind size many verifier → AreHoles f size p.stripes first blocks
      → IsSound p (Fresh p.number numbers ∷ hands) made → FilledUp f blocks p hands made (after_all blocks numbers inode many p)
  filled-up [] [] as_many p inode many first there is_file are sound =
      let same : after_all [] [] inode many p ≡ p =
      ap (λ (x : Inode). refiled f x p.stripes p) (inode-is inode size many verifier (many + 0) is_file (omega arith))
      ∙ refiled-same p f inode sound.well_formed there in
      subst (FilledUp f [] p hands made) (sym same) (record {
        sound = record {
          well_formed = sound.well_formed;
          young = sound.young;
          partition = λ m. let once = sound.partition m in let none = fresh-times p.number m [] in omega (arith, once, none);
        };
        bytes = λ k. refl;
        filled = λ q. refl;
        touch = refl;
        seen = λ x. refl;
      })
  filled-up [] (n ∷ numbers) as_many p inode many first there is_file are sound = absurd (omega (arith, as_many))
  filled-up (b ∷ blocks) [] as_many p inode many first there is_file are sound = absurd (omega (arith, as_many))
  filled-up (b ∷ blocks) (n ∷ numbers) as_many p inode many first there is_file are sound =
      let rest = filled-up blocks numbers (omega (arith, as_many)) (one p inode many there is_file first b n are.0 numbers sound)
      (next_inode inode size (many + 1) verifier) (many + 1) (b + 1)
      (there-then p inode many there is_file first b n are.0 numbers sound) refl
      (holes-then p inode many there is_file first b n are.0 numbers sound blocks are.1)
      (sound-then p inode many there is_file first b n are.0 numbers sound) in
      let count : many + 1 + length numbers ≡ many + suc (length numbers) = omega arith in
      let same : after_all blocks numbers (next_inode inode size (many + 1) verifier) (many + 1)
      (one p inode many there is_file first b n are.0 numbers sound) ≡ after_all (b ∷ blocks) (n ∷ numbers) inode many p =
      refiled-twice p f (next_inode inode size (many + 1) verifier) (next_inode inode size (many + 1 + length numbers) verifier)
      (home_changed f b (block_inserted f b n) p.stripes) (filled_with f (b ∷ blocks) (n ∷ numbers) p.stripes)
      ∙ ap (λ (k : ℕ). refiled f (next_inode inode size k verifier) (filled_with f (b ∷ blocks) (n ∷ numbers) p.stripes) p) count in
      joined p inode many there is_file first b n are.0 numbers sound blocks (after_all (b ∷ blocks) (n ∷ numbers) inode many p)
      (subst (FilledUp f blocks (one p inode many there is_file first b n are.0 numbers sound) hands made) same rest)
