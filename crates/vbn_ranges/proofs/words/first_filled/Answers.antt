use Rattle.std.proofs.Common.{◌≡◌, ap, sym, ◌∙◌, eqb, not, Bool, true, false, ℕ, List, refl, arith, w64}
use lib.Count.{count_trailing_zeros}
use Rattle.std.specs.List.{prefix_len}
use Rattle.std.proofs.lemmas.Simd.{bitmask_splat, leading_from_mask_l, trailing_mask_l}
use Rattle.vbn_ranges.proofs.words.first_filled.Goals as goal

twice-not : (b : Bool) → not (not b) ≡ b
twice-not true = refl
twice-not false = refl

as-zeros : (words : List ℕ) → prefix_len (λ w. not (not (eqb w 0))) words ≡ prefix_len (λ w. eqb w 0) words
as-zeros words = λ i. prefix_len (λ w. twice-not (eqb w 0) i) words

pub returns-then-filled-eq0 : goal.returns-then-filled-eq0
returns-then-filled-eq0 c =
    let words = c.args.words.now in
    let filled = bitmask_splat w64 (λ a b. not (eqb a b)) words 16 0 c.told-words (omega arith) in
    sym (sym (as-zeros words) ∙ leading_from_mask_l (λ w. not (eqb w 0)) words (sym filled ∙ c.if-filled-eq0.true) ∙ c.told-words)

pub returns-else-filled-eq0 : goal.returns-else-filled-eq0
returns-else-filled-eq0 c =
    let words = c.args.words.now in
    let filled = bitmask_splat w64 (λ a b. not (eqb a b)) words 16 0 c.told-words (omega arith) in
    ap (count_trailing_zeros 64) filled ∙ trailing_mask_l (λ w. not (eqb w 0)) 64 words (omega arith) (omega arith) ∙ as-zeros words
