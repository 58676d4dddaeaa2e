-- Facts of each block of a list.
use Rattle.std.proofs.Common.{◌≡◌, refl, ap, ◌∙◌, ℕ, zero, suc, ◌<◌, Bool, true, false, ◌||◌, List, [], ◌∷◌, ◌++◌, length, take, get_or, arith}
use Rattle.std.specs.List.{AllByRecursion, list_any}
use Rattle.nfs_values.specs.declared.number.BlockNumber.{BlockNumber}
use Rattle.vbn_ranges.specs.Batch.{numbers}

pub all-at : (P : ℕ → Type 0) (blocks : List BlockNumber) (k : ℕ) (d : BlockNumber) → AllByRecursion P (numbers blocks) → k < length blocks
    → P (get_or blocks k d).0
all-at P [] k d h l = absurd (omega arith)
all-at P (b ∷ blocks) zero d h l = h.0
all-at P (b ∷ blocks) (suc k) d h l = all-at P blocks k d h.1 (omega arith)

or-true : (a : Bool) → (a || true) ≡ true
or-true true = refl
or-true false = refl

pub any-at : (p : ℕ → Bool) (blocks : List BlockNumber) (k : ℕ) (d : BlockNumber) → k < length blocks → p (get_or blocks k d).0 ≡ true
    → list_any p (numbers blocks) ≡ true
any-at p [] k d l e = absurd (omega arith)
any-at p (b ∷ blocks) zero d l e = ap (λ t. t || list_any p (numbers blocks)) e
any-at p (b ∷ blocks) (suc k) d l e = ap (λ t. p b.0 || t) (any-at p blocks k d (omega arith) e) ∙ or-true (p b.0)

pub numbers-more : (blocks : List BlockNumber) (k : ℕ) (d : BlockNumber) → k < length blocks
    → numbers (take (suc k) blocks) ≡ numbers (take k blocks) ++ (get_or blocks k d).0 ∷ []
numbers-more [] k d l = absurd (omega arith)
numbers-more (b ∷ blocks) zero d l = refl
numbers-more (b ∷ blocks) (suc k) d l = ap (λ ns. b.0 ∷ ns) (numbers-more blocks k d (omega arith))
