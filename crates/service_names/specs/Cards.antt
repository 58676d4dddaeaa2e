-- Cards in the places of a volume's stripes, as a call that makes a node puts them, or takes them out again.
use Rattle.std.specs.Prelude.{◌≡◌, ℕ, ◌<◌, ◌≤◌, true, List, length, Option, Some, None, is_some, slice_get}
use Rattle.nfs_model.specs.Types.{Ownership}
use Rattle.nfs_model.specs.volume.Inodes.{InodeKind}
use Rattle.nfs_model.specs.volume.Stripes.{card_dropped}
use Rattle.filer_state.specs.state.Sets.{FilerStripe, stripe_value}
use Rattle.filer_state.specs.changes.NodesMade.{card_made}

-- the first n of some places are related to what they were; all others are as they were
pub record InFirst {A : Type 0} (Q : A → A → Type 0) (n : ℕ) (old new : List A) : Type 0 where
  pub long : length new ≡ length old
  pub first : (i : ℕ) (x y : A) → i < n → slice_get old i ≡ Some x → slice_get new i ≡ Some y → Q x y
  pub others : (i : ℕ) (x y : A) → n ≤ i → slice_get old i ≡ Some x → slice_get new i ≡ Some y → y ≡ x

module _ {P : Type 0} where
  -- a place whose stripe has no card of a fileid
  abbrev pub place_dropped : ℕ → Option (FilerStripe P) → Option (FilerStripe P)
  place_dropped fileid None = None
  place_dropped fileid (Some held) = Some (record held { own = card_dropped fileid held.own })

  -- but for the card of a fileid a place is as it was
  abbrev pub DiffersByCard : ℕ → Option (FilerStripe P) → Option (FilerStripe P) → Type 0
  DiffersByCard fileid old new = place_dropped fileid new ≡ place_dropped fileid old

  -- a stripe that is there has the card of a new node
  abbrev pub HasCard : Ownership → InodeKind → ℕ → Option (FilerStripe P) → Option (FilerStripe P) → Type 0
  HasCard owner kind fileid old new = is_some old ≡ true → stripe_value new ≡ card_made owner kind fileid (stripe_value old)

  abbrev pub IsDropped : ℕ → Option (FilerStripe P) → Option (FilerStripe P) → Type 0
  IsDropped fileid old new = new ≡ place_dropped fileid old
