-- What stays where a file's touches are taken, and where an inode is set of the same kind.
use Rattle.std.proofs.Common.{◌≡◌, ℕ, ◌<◌, ◌==◌, Bool, true, false, List, [], ◌∷◌, length, Option, Some, None}
use Rattle.std.proofs.Common.{refl, sym, ap, ◌∙◌, eq-eqb}
use Rattle.std.specs.Prelude.{if◌then◌else◌, is_some}
use Rattle.std.proofs.lemmas.Bool.{eqb-true}
use Rattle.std.specs.Option.{option_map}
use Rattle.std.specs.FinMap.{get}
use Rattle.depot_rule.specs.Sums.{total}
use Rattle.nfs_model.specs.volume.Inodes.{InodeKind, Inode, InodesValue, inode_of, inode_set}
use Rattle.nfs_model.specs.volume.Stripes.{Card, OfFile, OfDirectory, StripeValue, card_settled, touch_taken, touch_of}
use Rattle.nfs_model.specs.volume.lemmas.Inodes.{inode-set-there, inode-set-other}
use Rattle.nfs_model.specs.volume.lemmas.Numbered.{get-changed_at}
use Rattle.filer_state.specs.state.Tree.{stripe_at, file_bytes, file_filled, file_touch, later}
use Rattle.filer_state.specs.state.Names.{InodeMap, DirectoryMap, size_in, size_of, parent_in, parent_directory, subdirectories_in, subdirectories_of, names_of, text_length_in, text_length_of}
use Rattle.filer_state.specs.state.Names.{AreNamed}
use Rattle.filer_state.specs.state.WellFormed.{size_shown, owner_shown}
use Rattle.filer_state.specs.state.Changes.{touches_taken}
use Rattle.filer_state.specs.laws.lemmas.SameBlocks as blocks
use Rattle.filer_state.specs.laws.lemmas.SameNames as names

-- ---- touches taken

module _ (f : ℕ) where
  pub bytes-stay : (stripes : List StripeValue) (fileid size : ℕ) → file_bytes (touches_taken f stripes) fileid size ≡ file_bytes stripes fileid size
  bytes-stay stripes fileid size = blocks.bytes-stay (touch_taken f) (λ s. refl) stripes fileid size

  pub filled-stays : (stripes : List StripeValue) (fileid : ℕ) → file_filled (touches_taken f stripes) fileid ≡ file_filled stripes fileid
  filled-stays stripes fileid = blocks.filled-stays (touch_taken f) (λ s. refl) stripes fileid

  -- the file's own touch is gone, and no other
  card-taken : (s : StripeValue) (q : ℕ) → touch_of (get (touch_taken f s).cards q) ≡ (if q == f then None else touch_of (get s.cards q))
  card-taken s q = ap touch_of (get-changed_at card_settled f s.cards q) ∙ by (q == f) (get s.cards f)
    where
      by : (b : Bool) (o : Option Card) → touch_of (if b then option_map card_settled o else get s.cards q) ≡ (if b then None else touch_of (get s.cards q))
      by true None = refl
      by true (Some (OfFile size touch owner)) = refl
      by true (Some OfDirectory) = refl
      by false o = refl

  pub touch-gone : (stripes : List StripeValue) → file_touch (touches_taken f stripes) f ≡ None
  touch-gone [] = refl
  touch-gone (s ∷ stripes) =
      λ j. later ((card-taken s f ∙ ap (λ (b : Bool). if b then None else touch_of (get s.cards f)) (eq-eqb f f refl)) j) (touch-gone stripes j)

  pub touch-stays : (stripes : List StripeValue) (q : ℕ) → (q == f) ≡ false → file_touch (touches_taken f stripes) q ≡ file_touch stripes q
  touch-stays [] q ne = refl
  touch-stays (s ∷ stripes) q ne =
      λ j. later ((card-taken s q ∙ ap (λ (b : Bool). if b then None else touch_of (get s.cards q)) ne) j) (touch-stays stripes q ne j)

  -- what a card shows stays
  pub shown-stays : (s : StripeValue) (q : ℕ) → option_map size_shown (get (touch_taken f s).cards q) ≡ option_map size_shown (get s.cards q)
  shown-stays s q = ap (option_map size_shown) (get-changed_at card_settled f s.cards q) ∙ by (q == f) refl (get s.cards f) refl
    where
      card : (c : Card) → size_shown (card_settled c) ≡ size_shown c
      card (OfFile size touch owner) = refl
      card OfDirectory = refl

      there : (o : Option Card) → option_map size_shown (option_map card_settled o) ≡ option_map size_shown o
      there None = refl
      there (Some c) = ap Some (card c)

      by : (b : Bool) → (q == f) ≡ b → (o : Option Card) → get s.cards f ≡ o
          → option_map size_shown (if b then option_map card_settled o else get s.cards q) ≡ option_map size_shown (get s.cards q)
      by true e o is = there o ∙ ap (option_map size_shown) (sym is ∙ ap (get s.cards) (sym (eqb-true q f e)))
      by false e o is = refl

  -- and its owner
  pub owner-stays : (s : StripeValue) (q : ℕ) → option_map owner_shown (get (touch_taken f s).cards q) ≡ option_map owner_shown (get s.cards q)
  owner-stays s q = ap (option_map owner_shown) (get-changed_at card_settled f s.cards q) ∙ by (q == f) refl (get s.cards f) refl
    where
      card : (c : Card) → owner_shown (card_settled c) ≡ owner_shown c
      card (OfFile size touch owner) = refl
      card OfDirectory = refl

      there : (o : Option Card) → option_map owner_shown (option_map card_settled o) ≡ option_map owner_shown o
      there None = refl
      there (Some c) = ap Some (card c)

      by : (b : Bool) → (q == f) ≡ b → (o : Option Card) → get s.cards f ≡ o
          → option_map owner_shown (if b then option_map card_settled o else get s.cards q) ≡ option_map owner_shown (get s.cards q)
      by true e o is = there o ∙ ap (option_map owner_shown) (sym is ∙ ap (get s.cards) (sym (eqb-true q f e)))
      by false e o is = refl

  pub stripe-taken : (stripes : List StripeValue) (i : ℕ) → i < length stripes → stripe_at (touches_taken f stripes) i ≡ touch_taken f (stripe_at stripes i)
  stripe-taken stripes i less = blocks.stripe-mapped (touch_taken f) stripes i less

  pub total-taken : (g : StripeValue → ℕ) → ((s : StripeValue) → g (touch_taken f s) ≡ g s) → (stripes : List StripeValue)
      → total g (touches_taken f stripes) ≡ total g stripes
  total-taken g same stripes = blocks.total-mapped (touch_taken f) g same stripes

-- ---- kinds that stay

abbrev kind_of : Option Inode → Option InodeKind
kind_of o = option_map (λ (i : Inode). i.kind) o

-- the same inodes, each of the same kind and with as many names
pub record SameKinds (new old : InodeMap) : Type 0 where
  pub kinds : (q : ℕ) → kind_of (get new q) ≡ kind_of (get old q)
  pub counts : (q : ℕ) → names_of (get new q) ≡ names_of (get old q)

-- an inode of the kind of an old one, with as many names
pub record IsLike (inode old : Inode) : Type 0 where
  pub kind : inode.kind ≡ old.kind
  pub names : inode.names ≡ old.names

pub size-same : (o p : Option Inode) → kind_of o ≡ kind_of p → size_of o ≡ size_of p
size-same None None e = refl
size-same None (Some b) e = absurd cc
size-same (Some a) None e = absurd cc
size-same (Some a) (Some b) e = let k : a.kind ≡ b.kind = cc in ap size_in k

pub shown-same : (o p : Option Inode) → kind_of o ≡ kind_of p
    → option_map (λ (inode : Inode). size_in inode.kind) o ≡ option_map (λ (inode : Inode). size_in inode.kind) p
shown-same None None e = refl
shown-same None (Some b) e = absurd cc
shown-same (Some a) None e = absurd cc
shown-same (Some a) (Some b) e = let k : a.kind ≡ b.kind = cc in ap (λ x. Some (size_in x)) k

parent-same : (o p : Option Inode) → kind_of o ≡ kind_of p → parent_directory o ≡ parent_directory p
parent-same None None e = refl
parent-same None (Some b) e = absurd cc
parent-same (Some a) None e = absurd cc
parent-same (Some a) (Some b) e = let k : a.kind ≡ b.kind = cc in ap parent_in k

subdirectories-same : (o p : Option Inode) → kind_of o ≡ kind_of p → subdirectories_of o ≡ subdirectories_of p
subdirectories-same None None e = refl
subdirectories-same None (Some b) e = absurd cc
subdirectories-same (Some a) None e = absurd cc
subdirectories-same (Some a) (Some b) e = let k : a.kind ≡ b.kind = cc in ap subdirectories_in k

pub text-same : (o p : Option Inode) → kind_of o ≡ kind_of p → text_length_of o ≡ text_length_of p
text-same None None e = refl
text-same None (Some b) e = absurd cc
text-same (Some a) None e = absurd cc
text-same (Some a) (Some b) e = let k : a.kind ≡ b.kind = cc in ap text_length_in k

-- names stay lawful
pub named-same : (new old : InodeMap) → SameKinds new old → (directories : DirectoryMap) → AreNamed old directories → AreNamed new directories
named-same new old same directories named = names.named-same new old (record {
  parents = λ q. parent-same (get new q) (get old q) (same.kinds q);
  subdirectories = λ q. subdirectories-same (get new q) (get old q) (same.kinds q);
}) same.counts directories named

-- an inode set of the kind that was there
pub set-kinds : (v : InodesValue) (fileid : ℕ) (old inode : Inode) → inode_of v fileid ≡ Some old → IsLike inode old
    → SameKinds (inode_set fileid inode v).inodes v.inodes
set-kinds v fileid old inode there like = record {
  kinds = λ q. by kind_of (ap Some like.kind) q (q == fileid) refl;
  counts = λ q. by names_of like.names q (q == fileid) refl;
}
  where
    by : {A : Type 0} (g : Option Inode → A) → g (Some inode) ≡ g (Some old) → (q : ℕ) (b : Bool) → (q == fileid) ≡ b
        → g (get (inode_set fileid inode v).inodes q) ≡ g (get v.inodes q)
    by g same q true e =
        let is : q ≡ fileid = eqb-true q fileid e in
        ap (λ (k : ℕ). g (get (inode_set fileid inode v).inodes k)) is ∙ ap g (inode-set-there v fileid old inode there)
        ∙ same ∙ sym (ap (λ (k : ℕ). g (get v.inodes k)) is ∙ ap g there)
    by g same q false e = ap g (inode-set-other v fileid inode q e)
