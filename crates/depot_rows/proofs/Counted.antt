-- What a call that counts by one is to the parcels of its node, and to the seat's entries.
use Rattle.std.proofs.Common.{◌≡◌, ℕ, ◌+◌, ◌%◌, ◌==◌, true, length, List, refl, sym, ap, subst, ◌∙◌, Option, Some}
use Rattle.nfs_model.specs.Tree as trees
use Rattle.nfs_model.specs.Tree.{Layout, Affinity, stripes_of, aggregate_of}
use Rattle.affinity.specs.Numbers.{number_of, parents}
use Rattle.parcels.specs.declared.family.Parcel.{Parcel}
use Rattle.parcels.specs.Exact.{kind_in}
use Rattle.parcels.specs.Filled.{volume_alike, aggregate_alike, serial_alike}
use Rattle.parcels.specs.NumberIn.{number_in}
use Rattle.parcels.specs.Slots.{alone, or_else, in_places}
use Rattle.parcels.specs.Sets.{volume_around, aggregate_number}
use Rattle.parcels.specs.Sets.{range_parcels, vbn_parcels, stripe_parcels, logical_parcels, volume_parcels, aggregate_parcels, serial_parcels}
use Rattle.parcels.specs.declared.family.Parcel.TheVariants.{Range, Vbn, Stripe, Logical, Volume, Aggregate, Serial}
use Rattle.parcels.specs.declared.sets.RangeHeld.{RangeHeld}
use Rattle.parcels.specs.declared.sets.VbnHeld.{VbnHeld}
use Rattle.parcels.specs.declared.sets.StripeHeld.{StripeHeld}
use Rattle.parcels.specs.declared.sets.LogicalHeld.{LogicalHeld}
use Rattle.parcels.specs.declared.sets.VolumeHeld.{VolumeHeld}
use Rattle.parcels.specs.declared.sets.AggrHeld.{AggrHeld}
use Rattle.parcels.specs.declared.sets.SerialHeld.{SerialHeld}
use Rattle.depot.specs.declared.trial.adding.Change.TheVariants.{Add}
use Rattle.depot.specs.trial.Adding.{Changes}
use Rattle.depot.specs.trial.lemmas.Stripes.{alone-here, alone-else}
use Rattle.depot_rows.specs.Counting.{AddsOne}

module _ {P : Type 0} where
  -- the number of a node without nodes below
  leaf-added : (tree : List ℕ) (n : ℕ) (x y : Parcel P ℕ ℕ ℕ ℕ ℕ ℕ ℕ) (sum : ℕ) → kind_in y ≡ kind_in x → number_in y ≡ sum
      → (number_in x + 1) % 18446744073709551616 ≡ sum
      → Changes tree n (Add 1) (alone n x) sum (alone n y)
  leaf-added tree n x y sum kind is plus = (
    (x, y, alone-here n x, alone-here n y, kind, is, plus),
    λ k ne. alone-else n y k ne ∙ sym (alone-else n x k ne),
  )

  -- the number of a node with others below, which stay
  node-added : (tree : List ℕ) (n : ℕ) (x y : Parcel P ℕ ℕ ℕ ℕ ℕ ℕ ℕ) (rest : ℕ → Option (Parcel P ℕ ℕ ℕ ℕ ℕ ℕ ℕ)) (sum : ℕ) → kind_in y ≡ kind_in x
      → number_in y ≡ sum → (number_in x + 1) % 18446744073709551616 ≡ sum
      → Changes tree n (Add 1) (λ k. or_else (alone n x k) (rest k)) sum (λ k. or_else (alone n y k) (rest k))
  node-added tree n x y rest sum kind is plus = (
    (
      x,
      y,
      ap (λ o. or_else o (rest n)) (alone-here n x),
      ap (λ o. or_else o (rest n)) (alone-here n y),
      kind,
      is,
      plus,
    ),
    λ k ne. ap (λ o. or_else o (rest k)) (alone-else n y k ne ∙ sym (alone-else n x k ne)),
  )

  -- ---- each kind of node

  pub range-added : (layout : Layout) (node : Affinity) (held : RangeHeld P ℕ ℕ ℕ ℕ ℕ ℕ ℕ) (sum : ℕ) → (held.own + 1) % 18446744073709551616 ≡ sum
      → AddsOne layout node (range_parcels layout node held) sum (range_parcels layout node (record held { own = sum }))
  unfolding range_parcels
  range-added layout node held sum plus = leaf-added (parents layout) (number_of layout node) (Range held.own) (Range sum) sum refl refl plus

  pub stripe-added : (layout : Layout) (node : Affinity) (held : StripeHeld P ℕ ℕ ℕ ℕ ℕ ℕ ℕ) (sum : ℕ) → (held.own + 1) % 18446744073709551616 ≡ sum
      → AddsOne layout node (stripe_parcels layout node held) sum (stripe_parcels layout node (record held { own = sum }))
  unfolding stripe_parcels
  stripe-added layout node held sum plus = leaf-added (parents layout) (number_of layout node) (Stripe held.own) (Stripe sum) sum refl refl plus

  pub vbn-added : (layout : Layout) (node : Affinity) (held : VbnHeld P ℕ ℕ ℕ ℕ ℕ ℕ ℕ) (sum : ℕ) → (held.own + 1) % 18446744073709551616 ≡ sum
      → AddsOne layout node (vbn_parcels layout node held) sum (vbn_parcels layout node (record held { own = sum }))
  unfolding vbn_parcels
  vbn-added layout node held sum plus =
      node-added (parents layout) (number_of layout node) (Vbn held.own) (Vbn sum)
      (λ k. in_places (λ r. true) (λ r range. range_parcels layout (trees.Range (volume_around node) r) range k) held.ranges.at 16) sum refl refl plus

  pub logical-added : (layout : Layout) (node : Affinity) (held : LogicalHeld P ℕ ℕ ℕ ℕ ℕ ℕ ℕ) (sum : ℕ) → (held.own + 1) % 18446744073709551616 ≡ sum
      → AddsOne layout node (logical_parcels layout node held) sum (logical_parcels layout node (record held { own = sum }))
  unfolding logical_parcels
  logical-added layout node held sum plus =
      node-added (parents layout) (number_of layout node) (Logical held.own) (Logical sum)
      (λ k. in_places (λ i. true) (λ i stripe. stripe_parcels layout (trees.Stripe (volume_around node) i) stripe k) held.stripes.at
      (stripes_of layout (volume_around node))) sum refl refl plus

  pub volume-added : (layout : Layout) (node : Affinity) (held : VolumeHeld P ℕ ℕ ℕ ℕ ℕ ℕ ℕ) (sum : ℕ) → (held.own + 1) % 18446744073709551616 ≡ sum
      → AddsOne layout node (volume_parcels layout node held) sum (volume_parcels layout node (record held { own = sum }))
  unfolding volume_parcels
  volume-added layout node held sum plus =
      node-added (parents layout) (number_of layout node) (Volume held.own) (Volume sum)
      (λ k. or_else (logical_parcels layout (trees.Logical (volume_around node)) held.logical k)
      (vbn_parcels layout (trees.Vbn (volume_around node)) held.vbn k)) sum refl refl plus

  pub aggregate-added : (layout : Layout) (node : Affinity) (held : AggrHeld P ℕ ℕ ℕ ℕ ℕ ℕ ℕ) (sum : ℕ) → (held.own + 1) % 18446744073709551616 ≡ sum
      → AddsOne layout node (aggregate_parcels layout node held) sum (aggregate_parcels layout node (record held { own = sum }))
  unfolding aggregate_parcels
  aggregate-added layout node held sum plus =
      node-added (parents layout) (number_of layout node) (Aggregate held.own) (Aggregate sum)
      (λ k. in_places (λ v. aggregate_of layout v == aggregate_number node) (λ v volume. volume_parcels layout (trees.Volume v) volume k)
      held.volumes.at (length layout.volumes)) sum refl refl plus

  pub serial-added : (layout : Layout) (node : Affinity) (held : SerialHeld P ℕ ℕ ℕ ℕ ℕ ℕ ℕ) (sum : ℕ) → (held.own + 1) % 18446744073709551616 ≡ sum
      → AddsOne layout node (serial_parcels layout node held) sum (serial_parcels layout node (record held { own = sum }))
  unfolding serial_parcels
  serial-added layout node held sum plus =
      node-added (parents layout) (number_of layout node) (Serial held.own) (Serial sum)
      (λ k. in_places (λ a. true) (λ a aggregate. aggregate_parcels layout (trees.Aggregate a) aggregate k) held.aggregates.at (length layout.spare))
      sum refl refl plus

some-some : {A : Type 0} (x y : A) → Some (Some x) ≡ Some (Some y) → x ≡ y
some-some x y e = cc

module _ {P : Type 0} where
  -- a set has something in the same places as itself
  volume-itself : (x y : VolumeHeld P ℕ ℕ ℕ ℕ ℕ ℕ ℕ) → x ≡ y → volume_alike x y
  volume-itself x y e = subst (λ (z : VolumeHeld P ℕ ℕ ℕ ℕ ℕ ℕ ℕ). volume_alike x z) e (λ i. refl, λ i. refl)

  pub aggregate-as-it-was : (held : AggrHeld P ℕ ℕ ℕ ℕ ℕ ℕ ℕ) → aggregate_alike held held
  aggregate-as-it-was held = (λ i. refl, λ i x y here there. volume-itself x y (some-some x y (sym here ∙ there)))

  aggregate-itself : (x y : AggrHeld P ℕ ℕ ℕ ℕ ℕ ℕ ℕ) → x ≡ y → aggregate_alike x y
  aggregate-itself x y e = subst (λ (z : AggrHeld P ℕ ℕ ℕ ℕ ℕ ℕ ℕ). aggregate_alike x z) e (aggregate-as-it-was x)

  pub serial-as-it-was : (held : SerialHeld P ℕ ℕ ℕ ℕ ℕ ℕ ℕ) → serial_alike held held
  serial-as-it-was held = (λ i. refl, λ i x y here there. aggregate-itself x y (some-some x y (sym here ∙ there)))
