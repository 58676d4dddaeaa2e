-- The ranges of a volume in their places, as the first of them come into use.
use Rattle.std.specs.Prelude.{◌≡◌, ℕ, zero, suc, ◌<◌, true, is_some, List, [], ◌∷◌, Option, Some, None}
use Rattle.nfs_model.specs.volume.Ranges.{put_in_use}
use Rattle.filer_state.specs.state.Sets.{FilerRange, FilerVbn, placed}

module _ {P : Type 0} where
  -- all 16 are there, each in its place
  abbrev pub HasRanges : FilerVbn P → Type 0
  HasRanges held = (r : ℕ) → r < 16 → is_some (placed held.ranges.at r) ≡ true

  -- the range in a place in use, if there is one
  abbrev pub place_in_use : Option (FilerRange P) → Option (FilerRange P)
  place_in_use None = None
  place_in_use (Some held) = Some (record held { own = put_in_use held.own })

  -- the ranges in the first n places in use
  abbrev pub first_places : ℕ → List (Option (FilerRange P)) → List (Option (FilerRange P))
  first_places zero places = places
  first_places (suc n) [] = []
  first_places (suc n) (place ∷ places) = place_in_use place ∷ first_places n places

  -- with other places
  abbrev pub with_places : List (Option (FilerRange P)) → FilerVbn P → FilerVbn P
  with_places places held = record held { ranges = record held.ranges { at = places } }
