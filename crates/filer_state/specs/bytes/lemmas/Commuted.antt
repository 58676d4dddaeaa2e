-- Growing a file and filling its holes come to the same in either order.
use Rattle.std.proofs.Common.{◌≡◌, ℕ, ◌<◌, not, List, [], ◌∷◌, length, map, refl, sym, ap, ◌∙◌, arith}
use Rattle.std.specs.Prelude.{slice_set, is_some}
use Rattle.std.proofs.lemmas.List.{length-map, length-set, map-set}
use Rattle.std.specs.List.{filter}
use Rattle.std.specs.FinMap.{get}
use Rattle.nfs_model.specs.Serial.Write.{blocks_met}
use Rattle.nfs_model.specs.volume.Stripes.{StripeValue, stripe_of, block_inserted}
use Rattle.filer_state.specs.state.Tree.{stripe_at, home_stripe}
use Rattle.filer_state.specs.laws.lemmas.SameBlocks.{stripe-mapped, homes-stay}
use Rattle.filer_state.specs.bytes.Extending.{holes, stripe_grown, home_changed, filled_with}

module _ (f end : ℕ) where
  abbrev grow : StripeValue → StripeValue
  grow = stripe_grown f end

  -- the holes are the same
  pub holes-grown : (stripes : List StripeValue) (offset n : ℕ) → holes (map grow stripes) f offset n ≡ holes stripes f offset n
  holes-grown stripes offset n =
      λ j. filter (λ b. not (is_some (get (homes-stay grow (λ s. refl) stripes f b j) (f, b)))) (blocks_met offset n)

  home-grown : (stripes : List StripeValue) (b : ℕ) → 0 < length stripes → home_stripe (map grow stripes) f b ≡ grow (home_stripe stripes f b)
  home-grown stripes b some =
      ap (λ (n : ℕ). stripe_at (map grow stripes) (stripe_of n f b)) (length-map stripes grow)
      ∙ stripe-mapped grow stripes (stripe_of (length stripes) f b) (omega (arith, some))

  one-grown : (stripes : List StripeValue) (b n : ℕ) → 0 < length stripes
      → map grow (home_changed f b (block_inserted f b n) stripes) ≡ home_changed f b (block_inserted f b n) (map grow stripes)
  one-grown stripes b n some =
      map-set grow stripes (stripe_of (length stripes) f b) (block_inserted f b n (home_stripe stripes f b))
      ∙ (λ j. slice_set (map grow stripes) (stripe_of (sym (length-map stripes grow) j) f b) (block_inserted f b n (sym (home-grown stripes b some) j)))

  pub filled-grown : (blocks numbers : List ℕ) (stripes : List StripeValue) → 0 < length stripes
      → map grow (filled_with f blocks numbers stripes) ≡ filled_with f blocks numbers (map grow stripes)
  filled-grown [] numbers stripes some = refl
  filled-grown (b ∷ blocks) [] stripes some = refl
  filled-grown (b ∷ blocks) (n ∷ numbers) stripes some =
      let long = length-set stripes (stripe_of (length stripes) f b) (block_inserted f b n (home_stripe stripes f b)) in
      filled-grown blocks numbers (home_changed f b (block_inserted f b n) stripes) (omega (arith, long, some))
      ∙ ap (filled_with f blocks numbers) (one-grown stripes b n some)
