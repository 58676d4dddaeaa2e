-- Eight bytes that spell a number.
use Rattle.std.proofs.Common.{◌≡◌, ℕ, ◌<◌, List, length, get_or, Bool, true, false, refl, sym, ap, subst, ◌∙◌}
use Rattle.std.specs.Prelude.{◌==◌, ◌^◌}
use Rattle.std.specs.Int.{w64, from_be_bytes, to_be_bytes}
use Rattle.std.proofs.lemmas.Bool.{eqb-true, eq-eqb}
use Rattle.std.proofs.lemmas.Nat.{be_bytes_8, from_be_bytes-to_be_bytes_8}
use Rattle.nfs_model.specs.Names.{same_name}
use Rattle.nfs_model.specs.volume.lemmas.Directories.{same-itself, same-is}

both : (a b : Bool) → (a ≡ true → b ≡ true) → (b ≡ true → a ≡ true) → a ≡ b
both true b f g = sym (f refl)
both false true f g = g refl
both false false f g = refl

-- they are those of a number just when they spell it
pub spelled : (bytes : List ℕ) (spells number : ℕ) → length bytes ≡ 8 → ((i : ℕ) → get_or bytes i 0 < 256)
    → spells ≡ from_be_bytes w64 bytes → number < 2 ^ 64 → (spells == number) ≡ same_name bytes (to_be_bytes w64 number)
spelled bytes spells number eight fits is small =
    let there : to_be_bytes w64 spells ≡ bytes = be_bytes_8 bytes spells eight fits is in
    both (spells == number) (same_name bytes (to_be_bytes w64 number))
    (λ same. subst (λ (xs : List ℕ). same_name bytes xs ≡ true) (sym there ∙ ap (to_be_bytes w64) (eqb-true spells number same))
    (same-itself bytes))
    (λ same. eq-eqb spells number (is ∙ ap (from_be_bytes w64) (same-is bytes (to_be_bytes w64 number) same)
    ∙ from_be_bytes-to_be_bytes_8 number small))
