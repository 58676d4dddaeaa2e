-- A procedure is known by its numbers.
use Rattle.std.proofs.Common.{◌≡◌, refl, sym, ap, ◌∙◌, ℕ, ◌&&◌, eqb, Option, Some, find}
use Rattle.nfs_values.specs.declared.procedure.Procedure.{Procedure}
use Rattle.nfs_values.specs.declared.procedure.Procedure.TheVariants.{Null}
use Rattle.nfs_values.specs.Procedure.{all_procedures, numbers_of}

-- the first procedure with these numbers
abbrev pub numbered : ℕ × ℕ → Option Procedure
numbered n = find (λ (p : Procedure). eqb (numbers_of p).0 n.0 && eqb (numbers_of p).1 n.1) all_procedures

pub found_again : (p : Procedure) → numbered (numbers_of p) ≡ Some p
found_again Null = refl
found_again p = refl

same : (p q : Procedure) → Some p ≡ Some q → p ≡ q
same p q h = cc

-- two procedures of the same numbers are one
pub one_numbered : (p q : Procedure) (n : ℕ × ℕ) → numbers_of p ≡ n → numbers_of q ≡ n → p ≡ q
one_numbered p q n e f = same p q (sym (found_again p) ∙ (ap numbered (e ∙ sym f) ∙ found_again q))
