-- Cards as the values have them.
use Rattle.std.specs.Prelude.{ℕ, List, Option, Some, None}
use Rattle.std.specs.Option.{option_map}
use Rattle.std.specs.Int.{w16, w32, w64, from_le_bytes}
use Rattle.nfs_model.specs.Types as model
use Rattle.nfs_values.specs.Moment.{moment_of}
use Rattle.nfs_values.specs.Ownership.{ownership_of}
use Rattle.nfs_model.specs.volume.Stripes as values
use Rattle.stripe_cards.specs.declared.card.Card.{Card}
use Rattle.stripe_cards.specs.declared.card.Card.TheVariants.{File, Directory}
use Rattle.stripe_cards.specs.declared.card.CardKind.{CardKind}
use Rattle.stripe_cards.specs.declared.card.CardKind.TheVariants as kinds
use Rattle.stripe_cards.specs.declared.owner.PackedOwner.{PackedOwner}
use Rattle.stripe_cards.specs.declared.packed.Packed.{Packed}
use Rattle.stripe_cards.specs.declared.packed.Packed.TheVariants as packed

-- a card
abbrev pub card_of : Card → values.Card
card_of (File size touch owner) = values.OfFile size (option_map moment_of touch) (ownership_of owner)
card_of Directory = values.OfDirectory

-- a moment as it is stored
abbrev pub moment_in : List ℕ → List ℕ → model.Moment
moment_in seconds nanoseconds = record { seconds = from_le_bytes w32 seconds; nanoseconds = from_le_bytes w32 nanoseconds }

-- an owner as it is stored
abbrev pub packed_owner : PackedOwner → model.Ownership
packed_owner o = record { mode = from_le_bytes w16 o.mode; uid = from_le_bytes w32 o.uid; gid = from_le_bytes w32 o.gid }

-- a card as it is stored, if there is one
abbrev pub packed_card : Packed → Option values.Card
packed_card packed.Absent = None
packed_card (packed.File size owner) = Some (values.OfFile (from_le_bytes w64 size) None (packed_owner owner))
packed_card (packed.TouchedFile size owner seconds nanoseconds) =
    Some (values.OfFile (from_le_bytes w64 size) (Some (moment_in seconds nanoseconds)) (packed_owner owner))
packed_card packed.Directory = Some values.OfDirectory

-- a stripe with a card set, where there is one or not: a file's touch stays
abbrev pub card_set : ℕ → CardKind → values.StripeValue → values.StripeValue
card_set fileid (kinds.File size owner) s = values.file_card_set fileid size (ownership_of owner) s
card_set fileid kinds.Directory s = values.directory_card_set fileid s
