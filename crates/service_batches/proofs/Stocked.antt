-- How many numbers a stock has once a batch came into it.
use Rattle.std.proofs.Common.{◌≡◌, refl, sym, ap, ◌∙◌, ℕ, ◌+◌, ◌-◌, ◌<◌, ◌≤◌, Bool, true, false, ◌||◌, nat_eq, cond, List, [], ◌∷◌, length, arith}
use Rattle.std.specs.List.{list_any}
use Rattle.std.specs.Ordering.{nat_cmp, eq_by_cmp}
use Rattle.std.specs.Cmp.{nat_cmp_total}
use Rattle.std.specs.FinSet as sets
use Rattle.std.specs.FinSet.{FinSet, contains, len, from_list, insert, contains-insert, len-insert, contains-empty, contains-union}
use Rattle.std.specs.FinSet.{contains-from_list_nat, same_set, nat_cmp-IsAntisymmetric}
use Rattle.nfs_model.specs.volume.Logical.{LogicalValue}
use Rattle.nfs_model.specs.volume.Ranges.{with_numbers}
use Rattle.service_batches.specs.Batches.{most_stocked}

or-false : (t : Bool) → (t || false) ≡ t
or-false true = refl
or-false false = refl

regroup : (a b c : Bool) → (a || (b || c)) ≡ (b || (a || c))
regroup true true c = refl
regroup true false c = refl
regroup false true c = refl
regroup false false c = refl

ties : (q b : ℕ) → eq_by_cmp nat_cmp q b ≡ nat_eq b q
ties q b =
    sym (contains-insert nat_cmp_total sets.empty b q ∙ ap (λ t. eq_by_cmp nat_cmp q b || t) (contains-empty nat_cmp q) ∙ or-false (eq_by_cmp nat_cmp q b))
    ∙ contains-from_list_nat (b ∷ []) q
    ∙ or-false (nat_eq b q)

with-first : (b : ℕ) (bs : List ℕ) (s : FinSet nat_cmp) → with_numbers (b ∷ bs) s ≡ insert (with_numbers bs s) b
with-first b bs s =
    same_set nat_cmp_total nat_cmp-IsAntisymmetric _ _
    (λ q. contains-union nat_cmp_total s (from_list (b ∷ bs)) q
    ∙ ap (λ t. contains s q || t) (contains-from_list_nat (b ∷ bs) q)
    ∙ regroup (contains s q) (nat_eq b q) (list_any (λ y. nat_eq y q) bs)
    ∙ sym (contains-insert nat_cmp_total (with_numbers bs s) b q
    ∙ ap (λ t. t || contains (with_numbers bs s) q) (ties q b)
    ∙ ap (λ t. nat_eq b q || t) (contains-union nat_cmp_total s (from_list bs) q ∙ ap (λ t. contains s q || t) (contains-from_list_nat bs q))))

with-none : (s : FinSet nat_cmp) → with_numbers [] s ≡ s
with-none s =
    same_set nat_cmp_total nat_cmp-IsAntisymmetric _ _
    (λ q. contains-union nat_cmp_total s (from_list []) q ∙ ap (λ t. contains s q || t) (contains-from_list_nat [] q) ∙ or-false (contains s q))

one-more : (t : Bool) (n : ℕ) → cond t n (n + 1) ≤ n + 1
one-more true n = omega arith
one-more false n = omega arith

len-more : (bs : List ℕ) (s : FinSet nat_cmp) → len (with_numbers bs s) ≤ len s + length bs
len-more [] s = let same = ap len (with-none s) in omega (arith, same)
len-more (b ∷ bs) s =
    let rest = len-more bs s in
    let first = ap len (with-first b bs s) ∙ len-insert nat_cmp_total (with_numbers bs s) b in
    let one = one-more (contains (with_numbers bs s) b) (len (with_numbers bs s)) in
    omega (arith, rest, first, one)

-- a batch for which there was room
pub within-most : (own seen : LogicalValue) (stock : FinSet nat_cmp) (blocks : List ℕ) (count room : ℕ) → own ≡ seen → 0 < length blocks
    → count ≡ length blocks → room ≡ 2097152 - len seen.stock → count ≤ room → stock ≡ with_numbers blocks own.stock → len stock ≤ most_stocked
within-most own seen stock blocks count room same some counted left fits put =
    let more = len-more blocks own.stock in
    let new = ap len put in
    let before = ap (λ (l : LogicalValue). len l.stock) same in
    omega (arith, some, counted, left, fits, more, new, before)
