-- A stripe in which a file is cut to a size, with its card or without.
use Rattle.std.specs.Prelude.{ℕ, map, Option, Some, None}
use Rattle.nfs_model.specs.Types.{Ownership}
use Rattle.nfs_model.specs.volume.Stripes.{StripeValue, cut, touch_taken}
use Rattle.filer_state.specs.state.Lenses.{LogicalSet}
use Rattle.filer_state.specs.changes.NodesSized.{Sizing, stripe_sized, file_sized}

-- the touch is taken and the blocks are cut; where an owner is given the card shows it and the size, else the card stays
abbrev pub stripe_shaped : ℕ → ℕ → Option Ownership → StripeValue → StripeValue
stripe_shaped fileid size None s = cut fileid size (touch_taken fileid s)
stripe_shaped fileid size (Some owner) s = stripe_sized fileid size owner s

-- what is under Logical then: as where the file has its size, but for cards that stay
abbrev pub file_shaped : Sizing → Option Ownership → LogicalSet → LogicalSet
file_shaped m owner set = record (file_sized m set) { stripes = map (stripe_shaped m.fileid m.size owner) set.stripes }
