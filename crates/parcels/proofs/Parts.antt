-- Parts of the tree by their numbers.
use Rattle.std.proofs.Common.{◌≢◌, ℕ, zero, suc, ◌+◌, ◌<◌, ◌≤◌, length, refl, ap, arith, ◌⊎◌, inl, inr, ⊎_elim}
use Rattle.nfs_model.specs.Tree.{Layout, Affinity, Volume, Logical, Stripe, Vbn, Range, stripes_of}
use Rattle.affinity.specs.Numbers.{number_of, volume_number}
use Rattle.affinity.specs.lemmas.Places.{volume_number_next}
pub use Rattle.parcels.specs.lemmas.Nothing.{range-none, stripe-none, vbn-none, logical-none, volume-none, aggregate-none, serial-none}
use Rattle.parcels.specs.lemmas.Below.{OnLogical, OnVbn, OnVolume}

-- ---- a fact that goes over to another, at the numbers of a part

module _ (layout : Layout) (Q Z : Affinity → Type 0) (v : ℕ) where
  pub logical-over : ((b : Affinity) → volume_number layout v + 1 ≤ number_of layout b
      → number_of layout b ≤ volume_number layout v + 1 + stripes_of layout v → Q b → Z b)
      → OnLogical layout Q v → OnLogical layout Z v
  logical-over h on = record {
    own = h (Logical v) (omega arith) (omega arith) on.own;
    stripes = λ i l. h (Stripe v i) (omega arith) (omega arith) (on.stripes i l);
  }

  pub vbn-over : ((b : Affinity) → volume_number layout v + 2 + stripes_of layout v ≤ number_of layout b
      → number_of layout b ≤ volume_number layout v + 18 + stripes_of layout v → Q b → Z b)
      → OnVbn layout Q v → OnVbn layout Z v
  vbn-over h on = record {
    own = h (Vbn v) (omega arith) (omega arith) on.own;
    ranges = λ r l. h (Range v r) (omega arith) (omega arith) (on.ranges r l);
  }

  pub volume-over : ((b : Affinity) → volume_number layout v ≤ number_of layout b
      → number_of layout b ≤ volume_number layout v + 18 + stripes_of layout v → Q b → Z b)
      → OnVolume layout Q v → OnVolume layout Z v
  volume-over h on = record {
    own = h (Volume v) (omega arith) (omega arith) on.own;
    logical = logical-over (λ b low high. h b (omega arith) (omega arith)) on.logical;
    vbn = vbn-over (λ b low high. h b (omega arith) (omega arith)) on.vbn;
  }

-- ---- numbers that aren't of a part

module _ (layout : Layout) (v k : ℕ) where
  pub logical-outside : (k < volume_number layout v + 1) ⊎ (volume_number layout v + 1 + stripes_of layout v < k)
      → OnLogical layout (λ b. k ≢ number_of layout b) v
  logical-outside (inl h) = record { own = λ e. omega arith; stripes = λ i l e. omega arith }
  logical-outside (inr h) = record { own = λ e. omega arith; stripes = λ i l e. omega arith }

  pub vbn-outside : (k < volume_number layout v + 2 + stripes_of layout v) ⊎ (volume_number layout v + 18 + stripes_of layout v < k)
      → OnVbn layout (λ b. k ≢ number_of layout b) v
  vbn-outside (inl h) = record { own = λ e. omega arith; ranges = λ i l e. omega arith }
  vbn-outside (inr h) = record { own = λ e. omega arith; ranges = λ i l e. omega arith }

  pub volume-outside : (k < volume_number layout v) ⊎ (volume_number layout v + 18 + stripes_of layout v < k) → OnVolume layout (λ b. k ≢ number_of layout b) v
  volume-outside (inl h) = record { own = λ e. omega arith; logical = logical-outside (inl (omega arith)); vbn = vbn-outside (inl (omega arith)) }
  volume-outside (inr h) = record { own = λ e. omega arith; logical = logical-outside (inr (omega arith)); vbn = vbn-outside (inr (omega arith)) }

-- a number of one volume is none of another's
pub volumes-apart : (layout : Layout) (v w k : ℕ) → v < length layout.volumes → w < length layout.volumes → v ≢ w → volume_number layout w ≤ k
    → k ≤ volume_number layout w + 18 + stripes_of layout w
    → (k < volume_number layout v) ⊎ (volume_number layout v + 18 + stripes_of layout v < k)
volumes-apart layout v w k there_v there_w n low high =
    ⊎_elim
    (λ (l : v < w). let next = volume_number_next layout v w there_v l in inr (omega arith))
    (λ (l : w < v). let next = volume_number_next layout w v there_w l in inl (omega arith))
    (let either : (v < w) ⊎ (w < v) = apart v w n in either)
  where
    apart : (a b : ℕ) → a ≢ b → (a < b) ⊎ (b < a)
    apart zero zero n = absurd (n refl)
    apart zero (suc b) n = inl (omega arith)
    apart (suc a) zero n = inr (omega arith)
    apart (suc a) (suc b) n =
        ⊎_elim
        (λ (l : a < b). inl (omega arith))
        (λ (l : b < a). inr (omega arith))
        (apart a b (λ e. n (ap (λ m. suc m) e)))
