-- A climb from directory to directory, step by step.
use Rattle.std.proofs.Common.{◌≡◌, ℕ, zero, suc, ◌-◌, ◌<◌, ◌==◌, Bool, true, false, Option, refl, ap, ◌∙◌, arith, eq-eqb}
use Rattle.std.specs.Prelude.{if◌then◌else◌}
use Rattle.std.proofs.lemmas.Bool.{eqb-true}
use Rattle.std.specs.FinMap.{get}
use Rattle.nfs_model.specs.Serial.Rename.{Climb, ToIt, TooFar, on_parent}
use Rattle.filer_state.specs.state.Names.{InodeMap, parent_directory}
use Rattle.service_names.specs.RenamingChanges.{above, climbs}

is-false : (at target : ℕ) → (at ≡ target → ⊥) → (b : Bool) → (at == target) ≡ b → (at == target) ≡ false
is-false at target other true e = absurd (other (eqb-true at target e))
is-false at target other false e = e

-- the target is met, however many steps are left
pub climb-met : (n : ℕ) (inodes : InodeMap) (target at : ℕ) → at ≡ target → climbs n inodes target at ≡ ToIt
climb-met zero inodes target at same = ap (λ (b : Bool). if b then ToIt else TooFar) (eq-eqb at target same)
climb-met (suc n) inodes target at same =
    ap (λ (b : Bool). if b then ToIt else on_parent (above at (parent_directory (get inodes at))) (climbs n inodes target)) (eq-eqb at target same)

-- no step is left
pub climb-ended : (n : ℕ) (inodes : InodeMap) (target at : ℕ) → n ≡ 0 → (at ≡ target → ⊥) → climbs n inodes target at ≡ TooFar
climb-ended zero inodes target at none elsewhere =
    ap (λ (b : Bool). if b then ToIt else TooFar) (is-false at target elsewhere (at == target) refl)
climb-ended (suc n) inodes target at none elsewhere = absurd (omega (arith, none))

-- one step
climb-step : (n : ℕ) (inodes : InodeMap) (target at : ℕ) → 0 < n
    → climbs n inodes target at
    ≡ (if at == target then ToIt else on_parent (above at (parent_directory (get inodes at))) (climbs (n - 1) inodes target))
climb-step zero inodes target at some = absurd (omega (arith, some))
climb-step (suc n) inodes target at some =
    let one : n ≡ suc n - 1 = omega arith in
    ap (λ (m : ℕ). if at == target then ToIt else on_parent (above at (parent_directory (get inodes at))) (climbs m inodes target)) one

module _ (n : ℕ) (inodes : InodeMap) (target at : ℕ) (some : 0 < n) where
  pub climb-by : (at ≡ target → ⊥) → (o : Option ℕ) → above at (parent_directory (get inodes at)) ≡ o
      → climbs n inodes target at ≡ on_parent o (climbs (n - 1) inodes target)
  climb-by elsewhere o up =
      climb-step n inodes target at some
      ∙ ap (λ (b : Bool). if b then ToIt else on_parent (above at (parent_directory (get inodes at))) (climbs (n - 1) inodes target))
      (is-false at target elsewhere (at == target) refl)
      ∙ ap (λ (p : Option ℕ). on_parent p (climbs (n - 1) inodes target)) up
