-- The way from a directory to its parent, and so on: where it goes past a target, the target isn't above.
use Rattle.std.proofs.Common.{◌≡◌, ℕ, zero, suc, ◌==◌, Bool, true, false, Option, Some, None, refl, sym, ap, ◌∙◌}
use Rattle.std.specs.Prelude.{if◌then◌else◌}
use Rattle.std.proofs.lemmas.Bool.{eqb-true}
use Rattle.std.specs.FinMap.{get}
use Rattle.nfs_model.specs.Serial.Rename.{PastIt, ToIt, TooFar, on_parent}
use Rattle.filer_state.specs.state.Names.{InodeMap, parent_directory, parent_or, directory_above}
use Rattle.filer_state.specs.changes.Renaming.{above, climbs}

abbrev parent_at : InodeMap → ℕ → Option ℕ
parent_at inodes fileid = parent_directory (get inodes fileid)

-- one that is its own parent, or has none, is left by no step
pub stays-there : (inodes : InodeMap) (q : ℕ) → parent_or (parent_at inodes q) q ≡ q → (k : ℕ) → directory_above inodes k q ≡ q
stays-there inodes q own zero = refl
stays-there inodes q own (suc k) = ap (directory_above inodes k) own ∙ stays-there inodes q own k

-- a step before or after others
pub up-last : (inodes : InodeMap) (n q : ℕ)
    → directory_above inodes n (parent_or (parent_at inodes q) q)
    ≡ parent_or (parent_at inodes (directory_above inodes n q)) (directory_above inodes n q)
up-last inodes zero q = refl
up-last inodes (suc n) q = up-last inodes n (parent_or (parent_at inodes q) q)

-- one that is above itself, and from which the way leads to a node that is its own parent, is that node
pub round-at-top : (inodes : InodeMap) (top : ℕ) → parent_or (parent_at inodes top) top ≡ top → (k steps q : ℕ)
    → directory_above inodes (suc k) q ≡ q → directory_above inodes steps q ≡ top → q ≡ top
round-at-top inodes top own k zero q round up = up
round-at-top inodes top own k (suc steps) q round up =
    let again : directory_above inodes (suc k) (parent_or (parent_at inodes q) q) ≡ parent_or (parent_at inodes q) q =
    up-last inodes (suc k) q ∙ ap (λ (x : ℕ). parent_or (parent_at inodes x) x) round in
    let next = round-at-top inodes top own k steps (parent_or (parent_at inodes q) q) again up in
    sym round ∙ ap (directory_above inodes k) next ∙ stays-there inodes top own k

module _ (inodes : InodeMap) (t : ℕ) where
  abbrev IsClear : ℕ → Type 0
  IsClear q = (k : ℕ) → (directory_above inodes k q == t) ≡ false

  -- where the parent is past it
  past-parent : (n q : ℕ) → (q == t) ≡ false → ((u : ℕ) → climbs n inodes t u ≡ PastIt → IsClear u)
      → (o : Option ℕ) → parent_at inodes q ≡ o → on_parent (above q o) (climbs n inodes t) ≡ PastIt → IsClear q
  past-parent n q other further None is past = λ k.
      ap (λ (x : ℕ). x == t) (stays-there inodes q (ap (λ (o : Option ℕ). parent_or o q) is) k) ∙ other
  past-parent n q other further (Some u) is past = by (u == q) refl past
    where
      by : (b : Bool) → (u == q) ≡ b → on_parent (if b then None else Some u) (climbs n inodes t) ≡ PastIt → IsClear q
      by true own past k =
          ap (λ (x : ℕ). x == t) (stays-there inodes q (ap (λ (o : Option ℕ). parent_or o q) is ∙ eqb-true u q own) k) ∙ other
      by false own past zero = other
      by false own past (suc k) =
          ap (λ (o : Option ℕ). directory_above inodes k (parent_or o q) == t) is ∙ further u past k

  -- what is past it has it nowhere above
  pub climbs-past : (n q : ℕ) → climbs n inodes t q ≡ PastIt → IsClear q
  climbs-past zero q past = by (q == t) past
    where
      by : (b : Bool) → (if b then ToIt else TooFar) ≡ PastIt → IsClear q
      by true e = absurd cc
      by false e = absurd cc
  climbs-past (suc n) q past = by (q == t) refl past (climbs-past n)
    where
      by : (b : Bool) → (q == t) ≡ b
          → (if b then ToIt else on_parent (above q (parent_at inodes q)) (climbs n inodes t)) ≡ PastIt
          → ((u : ℕ) → climbs n inodes t u ≡ PastIt → IsClear u) → IsClear q
      by true e past further = absurd cc
      by false e past further = past-parent n q e further (parent_at inodes q) refl past
