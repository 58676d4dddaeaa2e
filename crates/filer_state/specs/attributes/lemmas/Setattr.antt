-- Where no block leaves a file.
use Rattle.std.proofs.Common.{◌≡◌, ℕ, ◌||◌, ◌&&◌, not, Bool, true, false, refl, sym, ap, ◌∙◌}
use Rattle.std.specs.Ordering.{nat_cmp}
use Rattle.std.specs.Cmp.{nat_cmp_total}
use Rattle.std.specs.FinMap.{nat_cmp-IsAntisymmetric}
use Rattle.std.specs.FinSet as sets
use Rattle.std.specs.FinSet.{FinSet, contains, difference, union}
use Rattle.nfs_model.specs.Parts.{Parts}
use Rattle.nfs_model.specs.Moves.{Emptied}

or-nothing : (b : Bool) → (b || false) ≡ b
or-nothing true = refl
or-nothing false = refl

and-all : (b : Bool) → (b && not false) ≡ b
and-all true = refl
and-all false = refl

pub difference-empty : (s : FinSet nat_cmp) → difference s sets.empty ≡ s
difference-empty s = sets.same_set nat_cmp_total nat_cmp-IsAntisymmetric (difference s sets.empty) s
    (λ q. sets.contains-difference nat_cmp_total s sets.empty q ∙ ap (λ b. contains s q && not b) (sets.contains-empty nat_cmp q) ∙ and-all (contains s q))

pub union-empty : (s : FinSet nat_cmp) → union s sets.empty ≡ s
union-empty s = sets.same_set nat_cmp_total nat_cmp-IsAntisymmetric (union s sets.empty) s
    (λ q. sets.contains-union nat_cmp_total s sets.empty q ∙ ap (λ b. contains s q || b) (sets.contains-empty nat_cmp q) ∙ or-nothing (contains s q))

pub emptied-none : (old new : Parts) (n : ℕ) → n ≡ 0 → new.files ≡ old.files → new.dead ≡ old.dead → new.stock ≡ old.stock → new.free ≡ old.free
    → Emptied n old new
emptied-none old new n none files dead stock free = record {
  dead = record {
    blocks = sets.empty;
    count = sets.len-empty nat_cmp ∙ sym none;
    there = sets.contains-is_subset nat_cmp_total sets.empty old.files (λ q e. let no = sets.contains-empty nat_cmp q in absurd cc);
    left = files ∙ sym (difference-empty old.files);
    reached = dead ∙ sym (union-empty old.dead);
  };
  stock = stock;
  free = free;
}
