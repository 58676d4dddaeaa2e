-- What stays where a file's touches are taken and its cards have another owner.
use Rattle.std.proofs.Common.{◌≡◌, ℕ, ◌==◌, Bool, true, false, List, [], ◌∷◌, Option, Some, None}
use Rattle.std.proofs.Common.{refl, sym, ap, ◌∙◌}
use Rattle.std.specs.Prelude.{if◌then◌else◌}
use Rattle.std.proofs.lemmas.Bool.{eqb-true}
use Rattle.std.specs.Option.{option_map}
use Rattle.std.specs.FinMap.{get}
use Rattle.nfs_model.specs.Types.{Ownership}
use Rattle.nfs_model.specs.volume.Stripes.{Card, OfFile, OfDirectory, StripeValue, card_owned, touch_taken, file_card_owned, touch_of}
use Rattle.nfs_model.specs.volume.lemmas.Numbered.{get-changed_at, itself}
use Rattle.filer_state.specs.state.Tree.{file_bytes, file_filled, file_touch, later}
use Rattle.filer_state.specs.state.WellFormed.{size_shown, owner_shown}
use Rattle.filer_state.specs.state.Changes.{touches_taken, stripe_settled, stripes_settled}
use Rattle.filer_state.specs.laws.lemmas.SameBlocks as blocks
use Rattle.filer_state.specs.attributes.lemmas.Kept as kept

module _ (f : ℕ) (owner : Ownership) where
  -- ---- cards of an owner

  abbrev owned : StripeValue → StripeValue
  owned s = file_card_owned f owner s

  card-at : (s : StripeValue) (q : ℕ) → get (owned s).cards q ≡ (if q == f then option_map (card_owned owner) (get s.cards f) else get s.cards q)
  card-at s q = get-changed_at (card_owned owner) f s.cards q

  pub card-here : (s : StripeValue) → get (owned s).cards f ≡ option_map (card_owned owner) (get s.cards f)
  card-here s = card-at s f ∙ ap (λ (b : Bool). if b then option_map (card_owned owner) (get s.cards f) else get s.cards f) (itself f)

  pub card-other : (s : StripeValue) (q : ℕ) → (q == f) ≡ false → get (owned s).cards q ≡ get s.cards q
  card-other s q ne = card-at s q ∙ ap (λ (b : Bool). if b then option_map (card_owned owner) (get s.cards f) else get s.cards q) ne

  -- what doesn't look at the owner is told of a card as before
  told-alike : {A : Type 0} (g : Option Card → A) → ((o : Option Card) → g (option_map (card_owned owner) o) ≡ g o)
      → (s : StripeValue) (q : ℕ) → g (get (owned s).cards q) ≡ g (get s.cards q)
  told-alike g same s q = by (q == f) refl
    where
      by : (b : Bool) → (q == f) ≡ b → g (get (owned s).cards q) ≡ g (get s.cards q)
      by true e =
          ap (λ (k : ℕ). g (get (owned s).cards k)) (eqb-true q f e) ∙ ap g (card-here s) ∙ same (get s.cards f)
          ∙ ap (λ (k : ℕ). g (get s.cards k)) (sym (eqb-true q f e))
      by false e = ap g (card-other s q e)

  pub touch-alike : (s : StripeValue) (q : ℕ) → touch_of (get (owned s).cards q) ≡ touch_of (get s.cards q)
  touch-alike = told-alike touch_of same
    where
      same : (o : Option Card) → touch_of (option_map (card_owned owner) o) ≡ touch_of o
      same None = refl
      same (Some (OfFile size touch old)) = refl
      same (Some OfDirectory) = refl

  pub size-alike : (s : StripeValue) (q : ℕ) → option_map size_shown (get (owned s).cards q) ≡ option_map size_shown (get s.cards q)
  size-alike = told-alike (option_map size_shown) same
    where
      same : (o : Option Card) → option_map size_shown (option_map (card_owned owner) o) ≡ option_map size_shown o
      same None = refl
      same (Some (OfFile size touch old)) = refl
      same (Some OfDirectory) = refl

  -- a file's card shows the owner
  pub owner-here : (s : StripeValue) (old : Ownership) → option_map owner_shown (get s.cards f) ≡ Some (Some old)
      → option_map owner_shown (get (owned s).cards f) ≡ Some (Some owner)
  owner-here s old shows = ap (option_map owner_shown) (card-here s) ∙ by (get s.cards f) shows
    where
      by : (o : Option Card) → option_map owner_shown o ≡ Some (Some old) → option_map owner_shown (option_map (card_owned owner) o) ≡ Some (Some owner)
      by None h = absurd cc
      by (Some (OfFile size touch was)) h = refl
      by (Some OfDirectory) h = absurd cc

  -- a directory's shows none
  pub owner-none : (s : StripeValue) → option_map owner_shown (get s.cards f) ≡ Some None
      → option_map owner_shown (get (owned s).cards f) ≡ Some None
  owner-none s shows = ap (option_map owner_shown) (card-here s) ∙ by (get s.cards f) shows
    where
      by : (o : Option Card) → option_map owner_shown o ≡ Some None → option_map owner_shown (option_map (card_owned owner) o) ≡ Some None
      by None h = absurd cc
      by (Some (OfFile size touch was)) h = absurd cc
      by (Some OfDirectory) h = refl

  pub owner-other : (s : StripeValue) (q : ℕ) → (q == f) ≡ false → option_map owner_shown (get (owned s).cards q) ≡ option_map owner_shown (get s.cards q)
  owner-other s q ne = ap (option_map owner_shown) (card-other s q ne)

  -- ---- stripes in which a node settled

  pub bytes-stay : (stripes : List StripeValue) (fileid size : ℕ) → file_bytes (stripes_settled f owner stripes) fileid size ≡ file_bytes stripes fileid size
  bytes-stay stripes fileid size = blocks.bytes-stay (stripe_settled f owner) (λ s. refl) stripes fileid size

  pub filled-stays : (stripes : List StripeValue) (fileid : ℕ) → file_filled (stripes_settled f owner stripes) fileid ≡ file_filled stripes fileid
  filled-stays stripes fileid = blocks.filled-stays (stripe_settled f owner) (λ s. refl) stripes fileid

  -- touches are those of stripes in which they are taken
  pub touch-settled : (stripes : List StripeValue) (q : ℕ) → file_touch (stripes_settled f owner stripes) q ≡ file_touch (touches_taken f stripes) q
  touch-settled [] q = refl
  touch-settled (s ∷ stripes) q = λ j. later (touch-alike (touch_taken f s) q j) (touch-settled stripes q j)

  pub touch-gone : (stripes : List StripeValue) → file_touch (stripes_settled f owner stripes) f ≡ None
  touch-gone stripes = touch-settled stripes f ∙ kept.touch-gone f stripes

  pub touch-stays : (stripes : List StripeValue) (q : ℕ) → (q == f) ≡ false → file_touch (stripes_settled f owner stripes) q ≡ file_touch stripes q
  touch-stays stripes q ne = touch-settled stripes q ∙ kept.touch-stays f stripes q ne

  pub shown-stays : (s : StripeValue) (q : ℕ) → option_map size_shown (get (stripe_settled f owner s).cards q) ≡ option_map size_shown (get s.cards q)
  shown-stays s q = size-alike (touch_taken f s) q ∙ kept.shown-stays f s q
