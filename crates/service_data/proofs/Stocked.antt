-- Numbers that are left in the stock.
use Rattle.std.proofs.Common.{◌≡◌, ℕ, zero, suc, ◌+◌, ◌-◌, ◌<◌, Bool, true, false, not, ◌&&◌, ◌||◌, cond, nat_eq, [], ◌∷◌, refl, sym, ap, ◌∙◌, arith}
use Rattle.std.specs.Ordering.{nat_cmp, eq_by_cmp}
use Rattle.std.specs.Cmp.{nat_cmp_total}
use Rattle.std.specs.FinSet as sets
use Rattle.std.specs.FinSet.{FinSet, contains, len, from_list, remove, contains-remove, contains-insert, len-remove, len-empty, empty_of_len}
use Rattle.std.specs.FinSet.{contains-empty, contains-difference, contains-from_list_nat, same_set, nat_cmp-IsAntisymmetric}
use Rattle.nfs_model.specs.volume.Ranges.{without_numbers}

pub none-left : (s : FinSet nat_cmp) → s ≡ sets.empty → 0 < len s → ⊥
none-left s none some = let no = ap len none ∙ len-empty nat_cmp in absurd (omega (arith, no, some))

or-false : (t : Bool) → (t || false) ≡ t
or-false true = refl
or-false false = refl

ties : (q b : ℕ) → eq_by_cmp nat_cmp q b ≡ nat_eq b q
ties q b =
    sym (contains-insert nat_cmp_total sets.empty b q ∙ ap (λ t. eq_by_cmp nat_cmp q b || t) (contains-empty nat_cmp q) ∙ or-false (eq_by_cmp nat_cmp q b))
    ∙ contains-from_list_nat (b ∷ []) q
    ∙ or-false (nat_eq b q)

fewer : (a b : Bool) → (a && not (b || false)) ≡ (not b && a)
fewer true true = refl
fewer true false = refl
fewer false true = refl
fewer false false = refl

without-one : (b : ℕ) (s : FinSet nat_cmp) → without_numbers (b ∷ []) s ≡ remove s b
without-one b s =
    same_set nat_cmp_total nat_cmp-IsAntisymmetric _ _
    (λ q. contains-difference nat_cmp_total s (from_list (b ∷ [])) q
    ∙ ap (λ t. contains s q && not t) (contains-from_list_nat (b ∷ []) q)
    ∙ fewer (contains s q) (nat_eq b q)
    ∙ sym (contains-remove nat_cmp_total s b q ∙ ap (λ t. not t && contains s q) (ties q b)))

some-len : (s : FinSet nat_cmp) (b : ℕ) → contains s b ≡ true → 0 < len s
some-len s b e = by (len s) refl
  where
    by : (n : ℕ) → len s ≡ n → 0 < n
    by zero z = absurd (let no : true ≡ false = sym e ∙ ap (λ t. contains t b) (empty_of_len s z) ∙ contains-empty nat_cmp b in cc)
    by (suc n) z = omega arith

-- one less
pub len-less : (s : FinSet nat_cmp) (b : ℕ) → contains s b ≡ true → len (without_numbers (b ∷ []) s) + 1 ≡ len s
len-less s b there =
    let some = some-len s b there in
    let less : len (without_numbers (b ∷ []) s) ≡ len s - 1 =
    ap len (without-one b s) ∙ len-remove nat_cmp_total s b ∙ ap (λ t. cond t (len s - 1) (len s)) there in
    omega (arith, some, less)
