-- Sums over the entries of a map by numbers, where one of them changes.
use Rattle.std.proofs.Common.{◌≡◌, ℕ, ◌+◌, cond, List, [], ◌∷◌, Some, None, refl, sym, ap, ◌∙◌, arith, Ordering}
use Rattle.std.specs.declared.cmp.Ordering.TheVariants.{Less, Equal, Greater}
use Rattle.std.specs.Ordering.{nat_cmp, is_eq}
use Rattle.std.specs.Cmp.{nat_cmp_total}
use Rattle.std.specs.FinMap.{FinMap, get, find, put, insert, remove, entries, get-entries, entries-insert}
use Rattle.std.specs.FinMap.Entries.{by_order}
use Rattle.depot_rule.specs.Sums.{total}
use Rattle.nfs_model.specs.volume.lemmas.Numbered.{insert-removed, removed-absent, insert-same}

module _ {X : Type 0} (f : ℕ × X → ℕ) where
  total-put : (k : ℕ) (x : X) (es : List (ℕ × X)) → find nat_cmp k es ≡ None → total f (put nat_cmp k x es) ≡ f (k, x) + total f es
  total-put k x [] h = refl
  total-put k x (e ∷ es) h = by (nat_cmp k e.0) (total-put k x es) h
    where
      by : (r : Ordering) → (find nat_cmp k es ≡ None → total f (put nat_cmp k x es) ≡ f (k, x) + total f es)
          → cond (is_eq r) (Some e.1) (find nat_cmp k es) ≡ None
          → total f (by_order r ((k, x) ∷ e ∷ es) ((e.0, x) ∷ es) (e ∷ put nat_cmp k x es)) ≡ f (k, x) + (f e + total f es)
      by Less rest g = refl
      by Equal rest g = absurd (grind (arith, g))
      by Greater rest g = let others = rest g in omega (arith, others)

  -- one more
  pub total-insert : (m : FinMap nat_cmp X) (k : ℕ) (x : X) → get m k ≡ None → total f (entries (insert m k x)) ≡ f (k, x) + total f (entries m)
  total-insert m k x h = ap (total f) (entries-insert nat_cmp_total m k x) ∙ total-put k x (entries m) (sym (get-entries m k) ∙ h)

  total-replaced : (m : FinMap nat_cmp X) (k : ℕ) (x : X) → total f (entries (insert m k x)) ≡ f (k, x) + total f (entries (remove m k))
  total-replaced m k x = ap (λ n. total f (entries n)) (sym (insert-removed m k x)) ∙ total-insert (remove m k) k x (removed-absent m k)

  -- one of them is part of the sum
  pub total-split : (m : FinMap nat_cmp X) (k : ℕ) (x : X) → get m k ≡ Some x → total f (entries m) ≡ f (k, x) + total f (entries (remove m k))
  total-split m k x h = ap (λ n. total f (entries n)) (sym (insert-same m k x h)) ∙ total-replaced m k x

  -- one in the place of another
  pub total-set : (m : FinMap nat_cmp X) (k : ℕ) (old x : X) → get m k ≡ Some old
      → f (k, old) + total f (entries (insert m k x)) ≡ f (k, x) + total f (entries m)
  total-set m k old x h = let was = total-split m k old h in let is = total-replaced m k x in omega (arith, was, is)
