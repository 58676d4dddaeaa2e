-- What a step at one child of a node leaves at the others, and what is left of the children where the node's own parcel moved.
use Rattle.std.proofs.Common.{◌≡◌, ◌≢◌, ℕ, ◌<◌, true, Option, ◌∙◌, arith}
use Rattle.std.proofs.lemmas.Bool.{eqb-true}
use Rattle.nfs_model.specs.Tree.{Layout, Affinity, Serial, Aggregate, Volume, Logical, Stripe, Vbn, Range, aggregate_of}
use Rattle.affinity.specs.declared.affinity.Kind.{Kind}
use Rattle.affinity.specs.Numbers.{number_of}
use Rattle.affinity.specs.Tree.{IsNode}
use Rattle.parcels.specs.Children.{child, children, has_child}
use Rattle.parcels.specs.Exact.{Under, IsPlaced}
use Rattle.parcels.proofs.Exactness.{range-from, stripe-from, vbn-from, logical-from, volume-from, aggregate-from, serial-from}
use Rattle.parcels.proofs.Exactness.{range-to, stripe-to, volume-to, aggregate-to}
use Rattle.parcels.proofs.Steps.{stripes-after, ranges-after, stripe-after, range-after, volume-after, volumes-after, aggregate-after, aggregates-after}

-- a slot within the number of slots is of a node
pub child_known : (layout : Layout) (p : Affinity) (i : ℕ) → IsNode layout p → i < children layout p → IsNode layout (child p i)
child_known layout Serial i node l = l
child_known layout (Aggregate a) i node l = l
child_known layout (Volume v) i node l = absurd (let no : ⊥ = omega arith in no)
child_known layout (Logical v) i node l = (node, l)
child_known layout (Stripe v j) i node l = absurd (let no : ⊥ = omega arith in no)
child_known layout (Vbn v) i node l = (node, l)
child_known layout (Range v r) i node l = absurd (let no : ⊥ = omega arith in no)

module _ {T : Type 0} (layout : Layout) (K : (ℕ → Option T) → Affinity → Type 0)
    (over : (f g : ℕ → Option T) (b : Affinity) → g (number_of layout b) ≡ f (number_of layout b) → K f b → K g b)
    (f g : ℕ → Option T) where
  pub sibling-after : (p : Affinity) (i j : ℕ) → IsNode layout p → i < children layout p → j < children layout p → j ≢ i
      → ((k : ℕ) → Under layout (child p i) (λ b. k ≢ number_of layout b) → g k ≡ f k) → Under layout (child p j) (K f) → Under layout (child p j) (K g)
  sibling-after Serial i j node l m n same on =
      aggregate-to layout (K g) j
      (aggregate-after layout K over f g i j l m n (λ k out. same k (aggregate-to layout (λ b. k ≢ number_of layout b) i out))
      (aggregate-from layout (K f) j m on))
  sibling-after (Aggregate a) i j node l m n same on =
      volume-to layout (K g) j
      (volume-after layout K over f g i j l m n (λ k out. same k (volume-to layout (λ b. k ≢ number_of layout b) i out)) (volume-from layout (K f) j m on))
  sibling-after (Volume v) i j node l m n same on = absurd (let no : ⊥ = omega arith in no)
  sibling-after (Logical v) i j node l m n same on =
      stripe-to layout (K g) v j
      (stripe-after layout K over f g v i j (λ k out. same k (stripe-to layout (λ b. k ≢ number_of layout b) v i out)) n
      (stripe-from layout (K f) v j (node, m) on))
  sibling-after (Stripe v s) i j node l m n same on = absurd (let no : ⊥ = omega arith in no)
  sibling-after (Vbn v) i j node l m n same on =
      range-to layout (K g) v j
      (range-after layout K over f g v i j (λ k out. same k (range-to layout (λ b. k ≢ number_of layout b) v i out)) n
      (range-from layout (K f) v j (node, m) on))
  sibling-after (Range v r) i j node l m n same on = absurd (let no : ⊥ = omega arith in no)

  pub children-after : (p : Affinity) → IsNode layout p → ((k : ℕ) → k ≢ number_of layout p → g k ≡ f k) → Under layout p (K f)
      → (i : ℕ) → i < children layout p → has_child layout p i ≡ true → Under layout (child p i) (K g)
  children-after Serial node same on i l used = aggregate-to layout (K g) i
      (aggregates-after layout K over f g i same ((serial-from layout (K f) on).aggregates i l))
  children-after (Aggregate a) node same on i l used =
      volume-to layout (K g) i
      (volumes-after layout K over f g a i node same ((aggregate-from layout (K f) a node on).volumes i l (eqb-true (aggregate_of layout i) a used)))
  children-after (Volume v) node same on i l used = absurd (let no : ⊥ = omega arith in no)
  children-after (Logical v) node same on i l used = stripe-to layout (K g) v i
      (stripes-after layout K over f g v same (logical-from layout (K f) v node on).stripes i l)
  children-after (Stripe v s) node same on i l used = absurd (let no : ⊥ = omega arith in no)
  children-after (Vbn v) node same on i l used = range-to layout (K g) v i (ranges-after layout K over f g v same (vbn-from layout (K f) v node on).ranges i l)
  children-after (Range v r) node same on i l used = absurd (let no : ⊥ = omega arith in no)

pub placed_kept : {T : Type 0} (kind : T → Kind) (layout : Layout) (f g : ℕ → Option T) (b : Affinity)
    → g (number_of layout b) ≡ f (number_of layout b) → IsPlaced kind layout f b → IsPlaced kind layout g b
placed_kept kind layout f g b e has = (has.0, e ∙ has.1, has.2)
