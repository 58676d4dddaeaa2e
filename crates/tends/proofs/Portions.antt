-- Parts of a whole in powers of two.
use Rattle.std.proofs.Common.{◌≡◌, ℕ, suc, ◌+◌, ◌*◌, ◌-◌, ◌^◌, ◌≤◌, sym, ap, ◌∙◌, arith, mul-add, add-mul, mul_assoc}
use Rattle.std.proofs.Common.{le_antisymm, le_of_mul-le-mul_right, le_of_eq}
use Rattle.std.proofs.lemmas.Nat.{pow-add, pow_pos}

-- a power, parted
power : (k l : ℕ) → l ≤ k → 2 ^ k ≡ 2 ^ l * 2 ^ (k - l)
power k l le = let s : k ≡ l + (k - l) = omega arith in ap (λ n. 2 ^ n) s ∙ pow-add 2 l (k - l)

-- half of a part, twice
pub halves : (n k l : ℕ) → suc l ≤ k → n * 2 ^ (k - l) ≡ n * 2 ^ (k - (l + 1)) + n * 2 ^ (k - (l + 1))
halves n k l le =
    let s : k - l ≡ (k - (l + 1)) + 1 = omega arith in
    let p : 2 ^ (k - l) ≡ 2 ^ (k - (l + 1)) * 2 ^ 1 = ap (λ j. 2 ^ j) s ∙ pow-add 2 (k - (l + 1)) 1 in
    let q : 2 ^ (k - l) ≡ 2 ^ (k - (l + 1)) + 2 ^ (k - (l + 1)) = omega arith in
    ap (λ j. n * j) q ∙ mul-add n (2 ^ (k - (l + 1))) (2 ^ (k - (l + 1)))

-- two parts, joined
pub joined : (a b l m k : ℕ) → l + m ≤ k → (a * 2 ^ m + b * 2 ^ l) * 2 ^ (k - (l + m)) ≡ a * 2 ^ (k - l) + b * 2 ^ (k - m)
joined a b l m k le =
    let s : k - l ≡ m + (k - (l + m)) = omega arith in
    let t : k - m ≡ l + (k - (l + m)) = omega arith in
    let p : 2 ^ (k - l) ≡ 2 ^ m * 2 ^ (k - (l + m)) = ap (λ j. 2 ^ j) s ∙ pow-add 2 m (k - (l + m)) in
    let q : 2 ^ (k - m) ≡ 2 ^ l * 2 ^ (k - (l + m)) = ap (λ j. 2 ^ j) t ∙ pow-add 2 l (k - (l + m)) in
    let pa : a * 2 ^ (k - l) ≡ a * (2 ^ m * 2 ^ (k - (l + m))) = ap (λ j. a * j) p in
    let qb : b * 2 ^ (k - m) ≡ b * (2 ^ l * 2 ^ (k - (l + m))) = ap (λ j. b * j) q in
    let x = mul_assoc a (2 ^ m) (2 ^ (k - (l + m))) in
    let y = mul_assoc b (2 ^ l) (2 ^ (k - (l + m))) in
    let z = add-mul (a * 2 ^ m) (b * 2 ^ l) (2 ^ (k - (l + m))) in
    omega (arith, pa, qb, x, y, z)

-- what is all of a larger count of parts is the whole
pub whole : (share halvings k : ℕ) → halvings ≤ k → share * 2 ^ (k - halvings) ≡ 2 ^ k → share ≡ 2 ^ halvings
whole share halvings k le e =
    let m : share * 2 ^ (k - halvings) ≡ 2 ^ halvings * 2 ^ (k - halvings) = e ∙ power k halvings le in
    le_antisymm (le_of_mul-le-mul_right (le_of_eq m) (pow_pos (k - halvings))) (le_of_mul-le-mul_right (le_of_eq (sym m)) (pow_pos (k - halvings)))
