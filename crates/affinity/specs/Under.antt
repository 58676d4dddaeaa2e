-- The parcels of an affinity and of all below it (our profile).
use Rattle.std.specs.Prelude.{◌≡◌, true, ◌⊎◌}
use Rattle.nfs_model.specs.Tree.{Layout, Affinity}
use Rattle.affinity.specs.Tree.{IsNode, is_above}

-- Each node has one parcel, which is named by it. Under an affinity are its own and those of all below it.
abbrev pub IsUnder : Layout → Affinity → Affinity → Type 0
IsUnder layout a parcel = IsNode layout parcel × ((parcel ≡ a) ⊎ (is_above layout a parcel ≡ true))

-- some parcel is under both
abbrev pub ShareParcel : Layout → Affinity → Affinity → Type 0
ShareParcel layout a b = (parcel : Affinity) × IsUnder layout a parcel × IsUnder layout b parcel
