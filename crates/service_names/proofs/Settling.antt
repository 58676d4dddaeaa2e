-- Touches of a node taken, and its cards given an owner, in the places of stripes.
use Rattle.std.proofs.Common.{◌≡◌, ℕ, ◌<◌, List, Option, Some, None, refl, sym, ap, ◌∙◌, arith}
use Rattle.std.specs.Prelude.{slice_get, is_some}
use Rattle.std.specs.FinMap as maps
use Rattle.std.specs.Ordering.{nat_cmp}
use Rattle.nfs_model.specs.Types.{Ownership}
use Rattle.parcels.specs.Filled.{AreFilledAlike}
use Rattle.nfs_model.specs.volume.Stripes.{Card, card_owned, file_card_owned}
use Rattle.nfs_model.specs.volume.Maps.{changed_value}
use Rattle.filer_state.specs.state.Contents.{each}
use Rattle.filer_state.specs.state.Changes.{stripe_settled, stripes_settled}
use Rattle.filer_state.specs.state.Parcels.{no_stripe}
use Rattle.filer_state.specs.state.Sets.{FilerStripe, stripe_value, placed, in_one}
use Rattle.filer_state.specs.laws.lemmas.Each.{each-same, each-map}
use Rattle.service_names.specs.Cards.{InFirst}
use Rattle.service_names.proofs.Dropped.{as-long, first-alike}
use Rattle.service_names.proofs.Taking.{vacant-taken, filled-as}

-- where there is no stripe nothing changes
owned-none : (f : ℕ) (owner : Ownership) → file_card_owned f owner no_stripe ≡ no_stripe
owned-none f owner =
    λ j. record no_stripe { cards = changed_value (card_owned owner) (maps.get-empty {X = Card} nat_cmp f j) f no_stripe.cards }

module _ {P : Type 0} (f : ℕ) (owner : Ownership) where
  abbrev pub IsSettled : Option (FilerStripe P) → Option (FilerStripe P) → Type 0
  IsSettled old new = (stripe_value new ≡ stripe_settled f owner (stripe_value old)) × (is_some new ≡ is_some old)

  pub vacant-settled : (o p : Option (FilerStripe P)) → o ≡ None → p ≡ o → stripe_value p ≡ stripe_settled f owner (stripe_value o)
  vacant-settled None None e same =
      sym (owned-none f owner) ∙ ap (file_card_owned f owner) (vacant-taken {P = P} None None f refl refl)
  vacant-settled None (Some p) e same = absurd cc
  vacant-settled (Some s) p e same = absurd cc

  module _ (n : ℕ) (old now : List (Option (FilerStripe P))) (t : InFirst IsSettled n old now) where
    pub settled-alike : AreFilledAlike old now
    settled-alike = first-alike IsSettled (λ x y h. filled-as x y h.1) n old now t

    value-at : (i : ℕ) → i < n → (o : Option (Option (FilerStripe P))) → slice_get old i ≡ o
        → (p : Option (Option (FilerStripe P))) → slice_get now i ≡ p → stripe_value (in_one p) ≡ stripe_settled f owner (stripe_value (in_one o))
    value-at i less None e None h = vacant-settled None None refl refl
    value-at i less None e (Some y) h = absurd (as-long old now i y t.long e h)
    value-at i less (Some x) e None h = absurd (as-long now old i x (sym t.long) h e)
    value-at i less (Some x) e (Some y) h = (t.first i x y less e h).0

    pub settled-all : each (λ i. stripe_value (placed now i)) 0 n ≡ stripes_settled f owner (each (λ i. stripe_value (placed old i)) 0 n)
    settled-all =
        each-same (λ i. stripe_value (placed now i)) (λ i. stripe_settled f owner (stripe_value (placed old i))) 0 n
        (λ i on less. value-at i (omega arith) (slice_get old i) refl (slice_get now i) refl)
        ∙ sym (each-map (stripe_settled f owner) (λ i. stripe_value (placed old i)) 0 n)
