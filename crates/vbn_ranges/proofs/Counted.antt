-- How many bits of words are set.
use Rattle.std.proofs.Common.{◌≡◌, refl, sym, ap, subst, ◌∙◌, ℕ, ◌+◌, ◌*◌, ◌^◌, ◌<◌, ◌≤◌, List, [], ◌∷◌, length, map, take, get_or, arith, w64}
use Rattle.std.proofs.Math.Seq.{take-length}
use mir.Val.{Fits}
use lib.Count.{ones}
use lib.Lanes.{sum_l, fold_l, Steps}
use Rattle.std.proofs.lemmas.Simd.{sum_fits, fold-sum}
use Rattle.vbn_ranges.specs.Words.{members}
use Rattle.vbn_ranges.proofs.Rising.{Rising}
use Rattle.vbn_ranges.proofs.Bits.{members-count, members-rising}

pub rising-length : (low high : ℕ) (bs : List ℕ) → Rising low high bs → low + length bs ≤ high
rising-length low high [] h = omega (arith, h)
rising-length low high (b ∷ bs) h = let r = rising-length (b + 1) high bs h.1 in let a = h.0 in omega arith

sum-few : (words : List ℕ) → ((k : ℕ) → get_or words k 0 < 2 ^ 64) → sum_l (map ones words) ≤ 64 * length words
sum-few words l =
    let few = rising-length 0 (0 + 64 * length words) (members 0 words) (members-rising 0 _ words refl) in
    let is = members-count 0 words l in
    omega arith

same-numbers : (ns : List ℕ) → map (λ n. n) ns ≡ ns
same-numbers [] = refl
same-numbers (n ∷ ns) = ap (λ ms. n ∷ ms) (same-numbers ns)

lanes : (words : List ℕ) → length words ≡ 16 → map (λ n. n) (map ones (take 16 words)) ≡ map ones words
lanes words n = same-numbers (map ones (take 16 words)) ∙ ap (map ones) (ap (λ k. take k words) (sym n) ∙ take-length words)

pub sum-fits : (words : List ℕ) → length words ≡ 16 → ((k : ℕ) → get_or words k 0 < 2 ^ 64)
    → Steps (λ s x. Fits w64 (s + x)) (λ s x. s + x) 0 (map (λ n. n) (map ones (take 16 words)))
sum-fits words n l =
    subst (λ ns. Steps (λ s x. Fits w64 (s + x)) (λ s x. s + x) 0 ns) (sym (lanes words n))
    (sum_fits w64 0 (map ones words) (let few = sum-few words l in omega arith))

pub sum-is : (first : ℕ) (words : List ℕ) → length words ≡ 16 → ((k : ℕ) → get_or words k 0 < 2 ^ 64)
    → fold_l (λ s x. s + x) 0 (map (λ n. n) (map ones (take 16 words))) ≡ length (members first words)
sum-is first words n l =
    let is = members-count first words l in
    let sum : fold_l (λ s x. s + x) 0 (map (λ n. n) (map ones (take 16 words))) ≡ 0 + sum_l (map ones words) =
    ap (fold_l (λ s x. s + x) 0) (lanes words n) ∙ fold-sum 0 (map ones words) in
    omega arith
