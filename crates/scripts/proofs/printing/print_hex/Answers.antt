use Rattle.std.proofs.Common.{◌≡◌, ℕ, List, [], ◌∷◌, ◌++◌, ◌==◌, true, length, refl, sym, ◌∙◌, arith}
use Rattle.std.proofs.lemmas.Grind.{common_steps}
use Rattle.hex.specs.Hex.{encode_with, lower_digits}
use Rattle.scripts.proofs.Appended.{Appends-none, Appends-more}
use Rattle.scripts.proofs.printing.print_hex.Goals as goal

encode_with-append : (t xs ys : List ℕ) → encode_with t (xs ++ ys) ≡ encode_with t xs ++ encode_with t ys
unfolding encode_with
encode_with-append t [] ys = refl
encode_with-append t (x ∷ xs) ys = let e = encode_with-append t xs ys in cc

before_nothing : (printed rest bytes : List ℕ) → (length rest == 0) ≡ true → printed ++ rest ≡ bytes → printed ≡ bytes
before_nothing printed [] bytes none e = grind (arith, common_steps)
before_nothing printed (x ∷ rest) bytes none e = absurd (grind (arith, common_steps))

pub loop-rest-init : goal.loop-rest-init
unfolding encode_with
loop-rest-init g c = ([], refl, Appends-none _)

pub loop-rest-preserved : goal.loop-rest-preserved
loop-rest-preserved g c = (
  c.loop-rest.invariant.0 ++ c.split_at.result.0.now,
  grind (arith, common_steps),
  rw (encode_with-append lower_digits c.loop-rest.invariant.0 c.split_at.result.0.now)
      (Appends-more _ _ _ _ _ c.loop-rest.invariant.2 c.in_ok-print_piece.ensures.digits),
)

pub returns-clause-digits : goal.returns-clause-digits
returns-clause-digits g c =
    rw (before_nothing _ _ _ (sym c.is_empty.ensures ∙ c.loop-rest-test.false) c.loop-rest.invariant.1) at c.loop-rest.invariant.2
