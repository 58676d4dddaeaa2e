-- The stripes that are held under Logical, as they change: one of them, or all.
use Rattle.std.specs.Prelude.{◌≡◌, ℕ, zero, suc, List, [], ◌∷◌, Option, Some, None, slice_index_or, slice_set}
use Rattle.parcels.specs.Filled.{logical_alike}
use Rattle.nfs_model.specs.volume.Stripes.{StripeValue, stripe_of}
use Rattle.filer_state.specs.state.Sets.{FilerStripe, FilerLogical, logical_before}
use Rattle.service_data.specs.Stripes.{HasStripes}

module _ {P : Type 0} where
  -- the stripe in a place changed, if there is one
  abbrev pub place_changed : (StripeValue → StripeValue) → Option (FilerStripe P) → Option (FilerStripe P)
  place_changed change None = None
  place_changed change (Some held) = Some (record held { own = change held.own })

  -- the places with the one of a number changed
  abbrev pub one_changed : ℕ → (StripeValue → StripeValue) → List (Option (FilerStripe P)) → List (Option (FilerStripe P))
  one_changed i change places = slice_set places i (place_changed change (slice_index_or places i None))

  -- the first n places changed
  abbrev pub first_changed : ℕ → (StripeValue → StripeValue) → List (Option (FilerStripe P)) → List (Option (FilerStripe P))
  first_changed zero change places = places
  first_changed (suc n) change [] = []
  first_changed (suc n) change (place ∷ places) = place_changed change place ∷ first_changed n change places

  -- with other places
  abbrev pub with_places : List (Option (FilerStripe P)) → FilerLogical P → FilerLogical P
  with_places places held = record held { stripes = record held.stripes { at = places } }

  -- the stripe of a file's block changed
  abbrev pub home_held : ℕ → ℕ → (StripeValue → StripeValue) → FilerLogical P → FilerLogical P
  home_held fileid block change held = with_places (one_changed (stripe_of held.own.stripes fileid block) change held.stripes.at) held

  -- the stripes have changed so, and nothing else
  pub record StripesChanged (change : List StripeValue → List StripeValue) (old new : FilerLogical P) : Type 0 where
    pub own : new.own ≡ old.own
    pub stripes : (logical_before new).stripes ≡ change (logical_before old).stripes
    pub alike : logical_alike old new
    pub there : HasStripes new
