-- What is told of all stripes where one of them changes.
use Rattle.std.proofs.Common.{◌≡◌, ◌≢◌, ℕ, zero, suc, ◌<◌, List, [], ◌∷◌, ◌++◌, length, refl, sym, ap, ◌∙◌, ⊎_elim}
use Rattle.std.specs.Prelude.{slice_set}
use Rattle.std.proofs.lemmas.Bool.{cases_eq}
use Rattle.std.proofs.lemmas.List.{length-set, get_or-set_same, get_or-set_other}
use Rattle.nfs_model.specs.volume.Stripes.{StripeValue, stripe_of}
use Rattle.filer_state.specs.state.Parcels.{no_stripe}
use Rattle.filer_state.specs.state.Tree.{stripe_at, home_stripe}
use Rattle.filer_state.specs.state.Partition.{numbers_in, all_numbers}

module _ (s : StripeValue) where
  -- the numbers of all blocks
  pub numbers-put : (stripes : List StripeValue) (i : ℕ) → numbers_in s ≡ numbers_in (stripe_at stripes i)
      → all_numbers (slice_set stripes i s) ≡ all_numbers stripes
  numbers-put [] i same = refl
  numbers-put (t ∷ stripes) zero same = ap (λ (xs : List ℕ). xs ++ all_numbers stripes) same
  numbers-put (t ∷ stripes) (suc i) same = ap (λ (xs : List ℕ). numbers_in t ++ xs) (numbers-put stripes i same)

module _ (stripes : List StripeValue) (i : ℕ) (s : StripeValue) (on : i < length stripes) where
  abbrev after : List StripeValue
  after = slice_set stripes i s

  -- a fact of the stripe in which a block lies: by whether it is this one
  pub home-put : {A : Type 0} (told was : StripeValue → A) (q block : ℕ) → (stripe_of (length stripes) q block ≡ i → told s ≡ was (stripe_at stripes i))
      → (stripe_of (length stripes) q block ≢ i → told (home_stripe stripes q block) ≡ was (home_stripe stripes q block))
      → told (home_stripe after q block) ≡ was (home_stripe stripes q block)
  home-put told was q block here others =
      ap (λ (n : ℕ). told (stripe_at after (stripe_of n q block))) (length-set stripes i s) ∙ ⊎_elim
      (λ (e : stripe_of (length stripes) q block ≡ i). ap (λ (m : ℕ). told (stripe_at after m)) e
      ∙ ap told (get_or-set_same stripes i s no_stripe on) ∙ here e ∙ ap (λ (m : ℕ). was (stripe_at stripes m)) (sym e))
      (λ (ne : stripe_of (length stripes) q block ≢ i). ap told (get_or-set_other stripes i (stripe_of (length stripes) q block) s no_stripe ne) ∙ others ne)
      (cases_eq (stripe_of (length stripes) q block) i)

  -- one that it keeps
  pub home-same : {A : Type 0} (told : StripeValue → A) (q block : ℕ) → told s ≡ told (stripe_at stripes i)
      → told (home_stripe after q block) ≡ told (home_stripe stripes q block)
  home-same told q block same = home-put told told q block (λ e. same) (λ ne. refl)
