-- Each node has a number of its own, and each number is some node's.
use Rattle.std.proofs.Common.{◌≡◌, ℕ, zero, suc, ◌+◌, ◌-◌, ◌<◌, ◌≤◌, ◌==◌, nat_lt, List, [], ◌∷◌, length, Some, refl, sym, ◌∙◌, ap, arith}
use Rattle.std.proofs.Common.{slice_get, ◌⊎◌, ⊎_elim}
use Rattle.std.specs.Prelude.{if◌then◌else◌}
use Rattle.std.proofs.lemmas.Bool.{cases_lt, cases_order, lt-ltb, le-ltb, eq-eqb, ne_eqb}
use Rattle.nfs_model.specs.Tree.{Layout, VolumeLayout, Affinity, Serial, Aggregate, Volume, Logical, Stripe, Vbn, Range, stripes_of, stripes_in}
use Rattle.affinity.specs.Tree.{IsNode}
use Rattle.affinity.specs.Numbers.{nodes_of, nodes_before, volume_number, number_of, node_count}
use Rattle.affinity.specs.lemmas.Places.{volume_number_next}

-- ---- a volume's nodes by their places

-- the node after Logical, at a place
abbrev below_logical : ℕ → ℕ → ℕ → Affinity
below_logical stripes v p = if nat_lt p stripes then Stripe v p else if p == stripes then Vbn v else Range v (p - (stripes + 1))

abbrev node_at : ℕ → ℕ → ℕ → Affinity
node_at stripes v zero = Volume v
node_at stripes v (suc zero) = Logical v
node_at stripes v (suc (suc p)) = below_logical stripes v p

stripe_at : (stripes v i : ℕ) → i < stripes → Stripe v i ≡ node_at stripes v (suc (suc i))
stripe_at stripes v i h = simp (lt-ltb i stripes h) refl

vbn_at : (stripes v : ℕ) → Vbn v ≡ node_at stripes v (suc (suc stripes))
vbn_at stripes v = simp (le-ltb stripes stripes (omega arith), eq-eqb stripes stripes refl) refl

range_at : (stripes v r : ℕ) → Range v r ≡ node_at stripes v (suc (suc (stripes + 1 + r)))
range_at stripes v r =
    simp (le-ltb (stripes + 1 + r) stripes (omega arith), ne_eqb (stripes + 1 + r) stripes (λ e. omega arith))
    (let less : r ≡ stripes + 1 + r - (stripes + 1) = omega arith in ap (Range v) less)

-- a node at a place of a volume
record IsAt (layout : Layout) (a : Affinity) (v place : ℕ) : Type 0 where
  pub there : v < length layout.volumes
  pub within : place < 19 + stripes_of layout v
  pub number : number_of layout a ≡ volume_number layout v + place
  pub node : a ≡ node_at (stripes_of layout v) v place

-- where a node's number is past the aggregates', it is at a place of a volume
place_of : (layout : Layout) (a : Affinity) → IsNode layout a → 2 + length layout.spare ≤ number_of layout a → (v : ℕ) × (place : ℕ) × IsAt layout a v place
place_of layout Serial h far = absurd (omega arith)
place_of layout (Aggregate a) h far = absurd (omega arith)
place_of layout (Volume v) h far = (v, 0, record { there = h; within = omega arith; number = omega arith; node = refl })
place_of layout (Logical v) h far = (v, 1, record { there = h; within = omega arith; number = refl; node = refl })
place_of layout (Stripe v i) h far =
    (v, suc (suc i), record { there = h.0; within = omega arith; number = omega arith; node = stripe_at (stripes_of layout v) v i h.1 })
place_of layout (Vbn v) h far =
    (v, suc (suc (stripes_of layout v)), record { there = h; within = omega arith; number = omega arith; node = vbn_at (stripes_of layout v) v })
place_of layout (Range v r) h far =
    (v, suc (suc (stripes_of layout v + 1 + r)), record { there = h.0; within = omega arith; number = omega arith; node = range_at (stripes_of layout v) v r })

-- ---- each node has its own

one_volume : (layout : Layout) (a b : Affinity) (v w p q : ℕ) → IsAt layout a v p → IsAt layout b w q → number_of layout a ≡ number_of layout b → v ≡ w
one_volume layout a b v w p q m n e =
    ⊎_elim
    (λ (same : v ≡ w). same)
    (λ (other : (v < w) ⊎ (w < v)). absurd (⊎_elim
    (λ (less : v < w). let next = volume_number_next layout v w m.there less in let no : ⊥ = omega arith in no)
    (λ (less : w < v). let next = volume_number_next layout w v n.there less in let no : ⊥ = omega arith in no)
    other))
    (cases_order v w)

one_node : (layout : Layout) (a b : Affinity) (v w p q : ℕ) → IsAt layout a v p → IsAt layout b w q → number_of layout a ≡ number_of layout b → a ≡ b
one_node layout a b v w p q m n e =
    let same : v ≡ w = one_volume layout a b v w p q m n e in
    let first : volume_number layout v ≡ volume_number layout w = ap (volume_number layout) same in
    let place : p ≡ q = omega arith in
    m.node ∙ ap (λ (x : ℕ). node_at (stripes_of layout x) x p) same ∙ ap (node_at (stripes_of layout w) w) place ∙ sym n.node

-- past the aggregates
own_far : (layout : Layout) (a b : Affinity) → IsNode layout a → IsNode layout b → 2 + length layout.spare ≤ number_of layout a
    → number_of layout a ≡ number_of layout b → a ≡ b
own_far layout a b m n far e =
    let here = place_of layout a m far in
    let there = place_of layout b n (omega arith) in
    one_node layout a b here.0 there.0 here.1 there.1 here.2 there.2 e

pub own_number : (layout : Layout) (a b : Affinity) → IsNode layout a → IsNode layout b → number_of layout a ≡ number_of layout b → a ≡ b
own_number layout Serial Serial m n e = refl
own_number layout Serial b m n e = absurd (omega arith)
own_number layout (Aggregate i) (Aggregate j) m n e = ap Aggregate (omega arith)
own_number layout (Aggregate i) b m n e = absurd (omega arith)
own_number layout a Serial m n e = absurd (omega arith)
own_number layout a (Aggregate j) m n e = absurd (omega arith)
own_number layout a b m n e = own_far layout a b m n (omega arith) e

-- ---- each number is some node's

-- the volume and the place of a number past the aggregates'
split : (volumes : List VolumeLayout) (k : ℕ) → k < nodes_before volumes (length volumes)
    → (v : ℕ) × (x : VolumeLayout) × (place : ℕ) × (slice_get volumes v ≡ Some x) × (place < nodes_of x) × (nodes_before volumes v + place ≡ k)
split [] k h = absurd (omega arith)
split (x ∷ xs) k h =
    ⊎_elim
    (λ (here : k < nodes_of x). (0, x, k, refl, here, omega arith))
    (λ (later : nodes_of x ≤ k).
    let there = split xs (k - nodes_of x) (omega arith) in
    (suc there.0, there.1, there.2, there.3, there.4, (let e = there.5 in omega arith)))
    (cases_lt k (nodes_of x))

-- a node at each place of a volume
filled_below : (layout : Layout) (v p : ℕ) → v < length layout.volumes → p < 17 + stripes_of layout v
    → (a : Affinity) × IsNode layout a × (number_of layout a ≡ volume_number layout v + suc (suc p))
filled_below layout v p h k =
    ⊎_elim
    (λ (stripe : p < stripes_of layout v). (Stripe v p, (h, stripe), omega arith))
    (λ (past : stripes_of layout v ≤ p).
    ⊎_elim
    (λ (range : stripes_of layout v < p). (Range v (p - (stripes_of layout v + 1)), (h, omega arith), omega arith))
    (λ (vbn : p ≤ stripes_of layout v). (Vbn v, h, omega arith))
    (cases_lt (stripes_of layout v) p))
    (cases_lt p (stripes_of layout v))

filled : (layout : Layout) (v place : ℕ) → v < length layout.volumes → place < 19 + stripes_of layout v
    → (a : Affinity) × IsNode layout a × (number_of layout a ≡ volume_number layout v + place)
filled layout v zero h k = (Volume v, h, omega arith)
filled layout v (suc zero) h k = (Logical v, h, refl)
filled layout v (suc (suc p)) h k = filled_below layout v p h (omega arith)

there_is : (volumes : List VolumeLayout) (v : ℕ) (x : VolumeLayout) → slice_get volumes v ≡ Some x → v < length volumes
there_is [] v x e = cc
there_is (y ∷ ys) zero x e = omega arith
there_is (y ∷ ys) (suc v) x e = let others = there_is ys v x e in omega arith

pub some_node : (layout : Layout) (n : ℕ) → 0 < n → n ≤ node_count layout → (a : Affinity) × IsNode layout a × (number_of layout a ≡ n)
some_node layout zero h k = absurd (omega arith)
some_node layout (suc zero) h k = (Serial, tt, refl)
some_node layout (suc (suc n)) h k =
    ⊎_elim
    (λ (aggregate : n < length layout.spare). (Aggregate n, aggregate, omega arith))
    (λ (far : length layout.spare ≤ n).
    let place = split layout.volumes (n - length layout.spare) (omega arith) in
    let stripes : stripes_of layout place.0 ≡ place.1.stripes = ap stripes_in place.3 in
    let node = filled layout place.0 place.2 (there_is layout.volumes place.0 place.1 place.3) (omega arith) in
    (node.0, node.1, (let e = place.5 in let number = node.2 in omega arith)))
    (cases_lt n (length layout.spare))
