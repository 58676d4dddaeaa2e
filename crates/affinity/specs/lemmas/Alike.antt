-- Two layouts with one list of parents have the same nodes, under the same numbers.
use Rattle.std.proofs.Common.{◌≡◌, ◌≢◌, ℕ, zero, suc, ◌+◌, Bool, true, not, ◌&&◌, ◌||◌, List, [], ◌∷◌, ◌++◌, length, replicate, refl, sym}
use Rattle.std.proofs.Common.{ap, ◌∙◌, arith, slice_get, append_assoc, subst, ◌⊎◌}
use Rattle.nfs_model.specs.Tree.{Layout, VolumeLayout, Affinity, Serial, Aggregate, Volume, Logical, Stripe, Vbn, Range, path, begins}
use Rattle.nfs_model.specs.Tree.{excludes, stripes_in, stripes_of, aggregate_in, aggregate_of}
use Rattle.affinity.specs.Alike.{AreAlike}
use Rattle.affinity.specs.Numbers.{nodes_of, nodes_before, volume_number, number_of, parents_from, parents}
use Rattle.affinity.specs.Tree.{IsNode, is_above}
use Rattle.affinity.specs.Under.{IsUnder}

-- ---- as many times one number, and what follows

-- no beginning with x
abbrev NotLed : ℕ → List ℕ → Type 0
NotLed x [] = Unit {0}
NotLed x (y ∷ ys) = x ≢ y

leading : (x s t : ℕ) (r q : List ℕ) → NotLed x r → NotLed x q → replicate s x ++ r ≡ replicate t x ++ q → (s ≡ t) × (r ≡ q)
leading x zero zero r q nr nq e = (refl, e)
leading x zero (suc t) [] q nr nq e = absurd cc
leading x zero (suc t) (y ∷ r) q nr nq e = absurd (nr (let h : y ≡ x = cc in sym h))
leading x (suc s) zero r [] nr nq e = absurd cc
leading x (suc s) zero r (y ∷ q) nr nq e = absurd (nq (let h : x ≡ y = cc in h))
leading x (suc s) (suc t) r q nr nq e =
    let further : replicate s x ++ r ≡ replicate t x ++ q = cc in
    let others = leading x s t r q nr nq further in
    (ap suc others.0, others.1)

without : (xs ys zs : List ℕ) → xs ++ ys ≡ xs ++ zs → ys ≡ zs
without [] ys zs e = e
without (x ∷ xs) ys zs e = without xs ys zs (let h : xs ++ ys ≡ xs ++ zs = cc in h)

-- ---- the volumes

-- the same aggregates and stripes, volume by volume
abbrev SameVolumes : List VolumeLayout → List VolumeLayout → Type 0
SameVolumes [] [] = Unit {0}
SameVolumes [] (w ∷ ws) = ⊥
SameVolumes (v ∷ vs) [] = ⊥
SameVolumes (v ∷ vs) (w ∷ ws) = (v.aggregate ≡ w.aggregate) × (v.stripes ≡ w.stripes) × SameVolumes vs ws

-- what follows a volume's stripes among the parents
abbrev past_stripes : ℕ → ℕ → List ℕ
past_stripes first stripes = first ∷ replicate 16 (first + 2 + stripes)

same_volumes : (first : ℕ) (vs ws : List VolumeLayout) → parents_from first vs ≡ parents_from first ws → SameVolumes vs ws
same_volumes first [] [] e = tt
same_volumes first [] (w ∷ ws) e = absurd cc
same_volumes first (v ∷ vs) [] e = absurd cc
same_volumes first (v ∷ vs) (w ∷ ws) e =
    let end_v : List ℕ = past_stripes first v.stripes in
    let end_w : List ℕ = past_stripes first w.stripes in
    let more_v : List ℕ = parents_from (first + nodes_of v) vs in
    let more_w : List ℕ = parents_from (first + nodes_of w) ws in
    let stripes_v : List ℕ = replicate v.stripes (first + 1) in
    let stripes_w : List ℕ = replicate w.stripes (first + 1) in
    let aggregate : 2 + v.aggregate ≡ 2 + w.aggregate = cc in
    let below : (stripes_v ++ end_v) ++ more_v ≡ (stripes_w ++ end_w) ++ more_w = cc in
    let flat = sym (append_assoc stripes_v end_v more_v) ∙ below ∙ append_assoc stripes_w end_w more_w in
    let split = leading (first + 1) v.stripes w.stripes (end_v ++ more_v) (end_w ++ more_w) (λ h. omega arith) (λ h. omega arith) flat in
    let one_end = ap (λ (s : ℕ). past_stripes first s ++ more_w) (sym split.0) in
    let more : more_v ≡ more_w = without end_v more_v more_w (split.1 ∙ one_end) in
    let one_first = ap (λ (s : ℕ). parents_from (first + (19 + s)) ws) (sym split.0) in
    (omega arith, split.0, same_volumes (first + nodes_of v) vs ws (more ∙ one_first))

before_same : (vs ws : List VolumeLayout) (n : ℕ) → SameVolumes vs ws → nodes_before vs n ≡ nodes_before ws n
before_same [] [] n s = refl
before_same [] (w ∷ ws) n s = absurd s
before_same (v ∷ vs) [] n s = absurd s
before_same (v ∷ vs) (w ∷ ws) zero s = refl
before_same (v ∷ vs) (w ∷ ws) (suc n) s = let others = before_same vs ws n s.2 in let stripes = s.1 in omega arith

length_same : (vs ws : List VolumeLayout) → SameVolumes vs ws → length vs ≡ length ws
length_same [] [] s = refl
length_same [] (w ∷ ws) s = absurd s
length_same (v ∷ vs) [] s = absurd s
length_same (v ∷ vs) (w ∷ ws) s = ap suc (length_same vs ws s.2)

stripes_same : (vs ws : List VolumeLayout) (n : ℕ) → SameVolumes vs ws → stripes_in (slice_get vs n) ≡ stripes_in (slice_get ws n)
stripes_same [] [] n s = refl
stripes_same [] (w ∷ ws) n s = absurd s
stripes_same (v ∷ vs) [] n s = absurd s
stripes_same (v ∷ vs) (w ∷ ws) zero s = s.1
stripes_same (v ∷ vs) (w ∷ ws) (suc n) s = stripes_same vs ws n s.2

aggregates_same : (vs ws : List VolumeLayout) (n : ℕ) → SameVolumes vs ws → aggregate_in (slice_get vs n) ≡ aggregate_in (slice_get ws n)
aggregates_same [] [] n s = refl
aggregates_same [] (w ∷ ws) n s = absurd s
aggregates_same (v ∷ vs) [] n s = absurd s
aggregates_same (v ∷ vs) (w ∷ ws) zero s = s.0
aggregates_same (v ∷ vs) (w ∷ ws) (suc n) s = aggregates_same vs ws n s.2

-- ---- the layouts

-- what two layouts have in common whose parents are one list
record IsSame (l m : Layout) : Type 0 where
  aggregates : length l.spare ≡ length m.spare
  volumes : SameVolumes l.volumes m.volumes

not_led : (a : ℕ) (vs : List VolumeLayout) → NotLed 1 (parents_from (2 + a) vs)
not_led a [] = tt
not_led a (v ∷ vs) = λ e. omega arith

is_same : (l m : Layout) → parents l ≡ parents m → IsSame l m
is_same l m e =
    let below : replicate (length l.spare) 1 ++ parents_from (2 + length l.spare) l.volumes ≡ replicate (length m.spare) 1 ++ parents_from
    (2 + length m.spare) m.volumes = cc in
    let split = leading 1 (length l.spare) (length m.spare) _ _ (not_led (length l.spare) l.volumes) (not_led (length m.spare) m.volumes) below in
    let one_first = ap (λ (a : ℕ). parents_from (2 + a) m.volumes) (sym split.0) in
    record { aggregates = split.0; volumes = same_volumes (2 + length l.spare) l.volumes m.volumes (split.1 ∙ one_first) }

module _ (l m : Layout) (s : IsSame l m) where
  one_aggregate : (v : ℕ) → aggregate_of l v ≡ aggregate_of m v
  one_aggregate v = aggregates_same l.volumes m.volumes v s.volumes

  one_stripes : (v : ℕ) → stripes_of l v ≡ stripes_of m v
  one_stripes v = stripes_same l.volumes m.volumes v s.volumes

  one_count : length l.volumes ≡ length m.volumes
  one_count = length_same l.volumes m.volumes s.volumes

  one_first : (v : ℕ) → volume_number l v ≡ volume_number m v
  one_first v = let before = before_same l.volumes m.volumes v s.volumes in let aggregates = s.aggregates in omega arith

  one_number : (a : Affinity) → number_of l a ≡ number_of m a
  one_number Serial = refl
  one_number (Aggregate a) = refl
  one_number (Volume v) = one_first v
  one_number (Logical v) = let first = one_first v in omega arith
  one_number (Stripe v i) = let first = one_first v in omega arith
  one_number (Vbn v) = let first = one_first v in let stripes = one_stripes v in omega arith
  one_number (Range v r) = let first = one_first v in let stripes = one_stripes v in omega arith

  node_there : (a : Affinity) → IsNode l a → IsNode m a
  node_there Serial h = tt
  node_there (Aggregate a) h = let aggregates = s.aggregates in omega arith
  node_there (Volume v) h = let count = one_count in omega arith
  node_there (Logical v) h = let count = one_count in omega arith
  node_there (Stripe v i) h =
      let count = one_count in let stripes = one_stripes v in let volume = h.0 in let stripe = h.1 in (omega arith, omega arith)
  node_there (Vbn v) h = let count = one_count in omega arith
  node_there (Range v r) h = let count = one_count in let volume = h.0 in (omega arith, h.1)

  one_path : (a : Affinity) → path l a ≡ path m a
  one_path Serial = refl
  one_path (Aggregate a) = refl
  one_path (Volume v) = ap (λ (a : ℕ). a ∷ v ∷ []) (one_aggregate v)
  one_path (Logical v) = ap (λ (a : ℕ). a ∷ v ∷ 0 ∷ []) (one_aggregate v)
  one_path (Stripe v i) = ap (λ (a : ℕ). a ∷ v ∷ 0 ∷ i ∷ []) (one_aggregate v)
  one_path (Vbn v) = ap (λ (a : ℕ). a ∷ v ∷ 1 ∷ []) (one_aggregate v)
  one_path (Range v r) = ap (λ (a : ℕ). a ∷ v ∷ 1 ∷ r ∷ []) (one_aggregate v)

  one_excludes : (a b : Affinity) → excludes l a b ≡ excludes m a b
  one_excludes a b = λ j. begins (one_path a j) (one_path b j) || begins (one_path b j) (one_path a j)

  one_above : (a b : Affinity) → is_above l a b ≡ is_above m a b
  one_above a b = λ j. begins (one_path a j) (one_path b j) && not (begins (one_path b j) (one_path a j))

  under_there : (a b : Affinity) → IsUnder l a b → IsUnder m a b
  under_there a b h = (node_there b h.0, subst (λ (x : Bool). (b ≡ a) ⊎ (x ≡ true)) (one_above a b) h.1)

pub alike : (l m : Layout) → parents l ≡ parents m → AreAlike l m
alike l m e =
    let here = is_same l m e in
    let back = is_same m l (sym e) in
    record {
      aggregates = here.aggregates;
      volumes = one_count l m here;
      aggregate = one_aggregate l m here;
      stripes = one_stripes l m here;
      node = λ a. (node_there l m here a, node_there m l back a);
      number = one_number l m here;
      under = λ a b. (under_there l m here a b, under_there m l back a b);
      excludes = one_excludes l m here;
    }
