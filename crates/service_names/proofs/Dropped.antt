-- Places of which the first ones are related to what they were, as those of a volume whose cards are dropped.
use Rattle.std.proofs.Common.{◌≡◌, ℕ, ◌<◌, ◌≤◌, List, map, Option, Some, None, refl, sym, ap, ◌∙◌, arith, ⊎_elim}
use Rattle.std.proofs.lemmas.Bool.{cases_lt}
use Rattle.std.specs.Prelude.{length, slice_get}
use Rattle.parcels.specs.Filled.{is_filled, AreFilledAlike}
use Rattle.nfs_model.specs.volume.Stripes.{card_dropped}
use Rattle.filer_state.specs.state.Contents.{each}
use Rattle.filer_state.specs.state.Sets.{FilerStripe, stripe_value, placed, in_one}
use Rattle.filer_state.specs.laws.lemmas.Each.{each-same, each-map, get-there}
use Rattle.service_names.specs.Cards.{InFirst, IsDropped}
use Rattle.service_names.proofs.Gone.{vacant-dropped}
use Rattle.service_names.proofs.Putting.{there}

module _ {P : Type 0} where
  -- lists that are as long have the same places
  pub as-long : (old now : List (Option (FilerStripe P))) (i : ℕ) (y : Option (FilerStripe P)) → length now ≡ length old
      → slice_get old i ≡ None → slice_get now i ≡ Some y → ⊥
  as-long old now i y long e h =
      let less = get-there now i y h in
      let found = there old i (omega arith) in
      absurd (let no = sym e ∙ found.1 in cc)

  -- where related places are filled alike, all are
  pub first-alike : (Q : Option (FilerStripe P) → Option (FilerStripe P) → Type 0)
      → ((x y : Option (FilerStripe P)) → Q x y → is_filled (Some x) ≡ is_filled (Some y))
      → (n : ℕ) (old now : List (Option (FilerStripe P))) → InFirst Q n old now → AreFilledAlike old now
  first-alike Q alike n old now t i = by (slice_get old i) refl (slice_get now i) refl
    where
      by : (o : Option (Option (FilerStripe P))) → slice_get old i ≡ o → (p : Option (Option (FilerStripe P))) → slice_get now i ≡ p
          → is_filled o ≡ is_filled p
      by None e None h = refl
      by None e (Some y) h = absurd (as-long old now i y t.long e h)
      by (Some x) e None h = absurd (as-long now old i x (sym t.long) h e)
      by (Some x) e (Some y) h = ⊎_elim
          (λ (less : i < n). alike x y (t.first i x y less e h))
          (λ (on : n ≤ i). ap (λ z. is_filled (Some z)) (sym (t.others i x y on e h)))
          (cases_lt i n)

  dropped-filled : (f : ℕ) (x y : Option (FilerStripe P)) → IsDropped f x y → is_filled (Some x) ≡ is_filled (Some y)
  dropped-filled f None y e = ap (λ z. is_filled (Some z)) (sym e)
  dropped-filled f (Some x) y e = ap (λ z. is_filled (Some z)) (sym e)

  dropped-value : (f : ℕ) (x y : Option (FilerStripe P)) → IsDropped f x y → stripe_value y ≡ card_dropped f (stripe_value x)
  dropped-value f None y e = ap stripe_value e ∙ vacant-dropped {P = P} None f (λ j. None)
  dropped-value f (Some x) y e = ap stripe_value e

  module _ (f n : ℕ) (old now : List (Option (FilerStripe P))) (t : InFirst (IsDropped f) n old now) where
    pub dropped-alike : AreFilledAlike old now
    dropped-alike = first-alike (IsDropped f) (dropped-filled f) n old now t

    value-at : (i : ℕ) → i < n → (o : Option (Option (FilerStripe P))) → slice_get old i ≡ o
        → (p : Option (Option (FilerStripe P))) → slice_get now i ≡ p → stripe_value (in_one p) ≡ card_dropped f (stripe_value (in_one o))
    value-at i less None e None h = vacant-dropped {P = P} None f (λ j. None)
    value-at i less None e (Some y) h = absurd (as-long old now i y t.long e h)
    value-at i less (Some x) e None h = absurd (as-long now old i x (sym t.long) h e)
    value-at i less (Some x) e (Some y) h = dropped-value f x y (t.first i x y less e h)

    -- the stripes of a volume without the card of a node
    pub dropped-all : each (λ i. stripe_value (placed now i)) 0 n ≡ map (card_dropped f) (each (λ i. stripe_value (placed old i)) 0 n)
    dropped-all =
        each-same (λ i. stripe_value (placed now i)) (λ i. card_dropped f (stripe_value (placed old i))) 0 n
        (λ i on less. value-at i (omega arith) (slice_get old i) (λ j. slice_get old i) (slice_get now i) (λ j. slice_get now i))
        ∙ sym (each-map (card_dropped f) (λ i. stripe_value (placed old i)) 0 n)
