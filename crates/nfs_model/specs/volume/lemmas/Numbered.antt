-- Look-ups in a map by numbers after a change at one of them.
use Rattle.std.proofs.Common.{◌≡◌, refl, sym, ap, ◌∙◌, ℕ, ◌+◌, Bool, true, false, cond, ◌==◌, Option, Some, None, is_some}
use Rattle.std.proofs.Common.{if◌then◌else◌, eq-eqb}
use Rattle.std.specs.Option.{option_map}
use Rattle.std.specs.Ordering.{nat_cmp}
use Rattle.std.specs.Cmp.{nat_cmp_total, unsigned_tied}
use Rattle.std.specs.FinMap.{FinMap, get, insert, remove, len, get-insert, get-remove, len-insert, same_map, nat_cmp-IsAntisymmetric}
use Rattle.std.proofs.lemmas.Map.Views.{exact_unsigned_eq}
use Rattle.nfs_model.specs.volume.Maps.{changed_value, changed_at}

pub itself : (k : ℕ) → (k == k) ≡ true
itself k = eq-eqb k k refl

module _ {X : Type 0} where
  pub get-insert_at : (m : FinMap nat_cmp X) (k : ℕ) (x : X) (q : ℕ) → get (insert m k x) q ≡ (if q == k then Some x else get m q)
  get-insert_at m k x q = get-insert nat_cmp_total m k x q ∙ ap (λ b. cond b (Some x) (get m q)) (unsigned_tied q k)

  pub get-remove_at : (m : FinMap nat_cmp X) (k q : ℕ) → get (remove m k) q ≡ (if q == k then None else get m q)
  get-remove_at m k q = get-remove nat_cmp_total m k q ∙ ap (λ b. cond b None (get m q)) (unsigned_tied q k)

  -- maps that answer alike are one
  pub same-answers : (m n : FinMap nat_cmp X) → ((q : ℕ) → get m q ≡ get n q) → m ≡ n
  same-answers m n h = same_map nat_cmp_total nat_cmp-IsAntisymmetric m n h

  -- a key that has what it is given answers as before
  as-before : (m : FinMap nat_cmp X) (k q : ℕ) (o : Option X) → get m k ≡ o → (if q == k then o else get m q) ≡ get m q
  as-before m k q o h = by (q == k) refl
    where
      by : (b : Bool) → b ≡ (q == k) → (if b then o else get m q) ≡ get m q
      by true p = sym h ∙ ap (get m) (sym (exact_unsigned_eq q k (sym p)))
      by false p = refl

  pub insert-same : (m : FinMap nat_cmp X) (k : ℕ) (x : X) → get m k ≡ Some x → insert m k x ≡ m
  insert-same m k x h = same-answers (insert m k x) m (λ q. get-insert_at m k x q ∙ as-before m k q (Some x) h)

  pub remove-absent : (m : FinMap nat_cmp X) (k : ℕ) → get m k ≡ None → remove m k ≡ m
  remove-absent m k h = same-answers (remove m k) m (λ q. get-remove_at m k q ∙ as-before m k q None h)

  -- what was put in can be taken out again
  pub remove-inserted : (m : FinMap nat_cmp X) (k : ℕ) (x : X) → get m k ≡ None → remove (insert m k x) k ≡ m
  remove-inserted m k x h = same-answers (remove (insert m k x) k) m (λ q.
      get-remove_at (insert m k x) k q ∙ (ap (λ o. if q == k then None else o) (get-insert_at m k x q) ∙ (by (q == k) (get m q) ∙ as-before m k q None h)))
    where
      by : (b : Bool) (o : Option X) → (if b then None else (if b then Some x else o)) ≡ (if b then None else o)
      by true o = refl
      by false o = refl

  -- of two values put in one after the other the last stays
  pub insert-twice : (m : FinMap nat_cmp X) (k : ℕ) (x y : X) → insert (insert m k x) k y ≡ insert m k y
  insert-twice m k x y = same-answers (insert (insert m k x) k y) (insert m k y) (λ q.
      get-insert_at (insert m k x) k y q ∙ (ap (λ o. if q == k then Some y else o) (get-insert_at m k x q)
      ∙ (by (q == k) (get m q) ∙ sym (get-insert_at m k y q))))
    where
      by : (b : Bool) (o : Option X) → (if b then Some y else (if b then Some x else o)) ≡ (if b then Some y else o)
      by true o = refl
      by false o = refl

  pub insert-removed : (m : FinMap nat_cmp X) (k : ℕ) (x : X) → insert (remove m k) k x ≡ insert m k x
  insert-removed m k x = same-answers (insert (remove m k) k x) (insert m k x) (λ q.
      get-insert_at (remove m k) k x q ∙ (ap (λ o. if q == k then Some x else o) (get-remove_at m k q)
      ∙ (by (q == k) (get m q) ∙ sym (get-insert_at m k x q))))
    where
      by : (b : Bool) (o : Option X) → (if b then Some x else (if b then None else o)) ≡ (if b then Some x else o)
      by true o = refl
      by false o = refl

  pub removed-absent : (m : FinMap nat_cmp X) (k : ℕ) → get (remove m k) k ≡ None
  removed-absent m k = get-remove_at m k k ∙ ap (λ b. if b then None else get m k) (itself k)

  -- what is found after a value is changed
  pub get-changed_at : (g : X → X) (k : ℕ) (m : FinMap nat_cmp X) (q : ℕ) → get (changed_at g k m) q ≡ (if q == k then option_map g (get m k) else get m q)
  get-changed_at g k m q = by (get m k) refl
    where
      by : (o : Option X) → get m k ≡ o → get (changed_value g o k m) q ≡ (if q == k then option_map g o else get m q)
      by None h = sym (as-before m k q None h)
      by (Some x) h = get-insert_at m k (g x) q

  pub len-changed_at : (g : X → X) (k : ℕ) (m : FinMap nat_cmp X) → len (changed_at g k m) ≡ len m
  len-changed_at g k m = by (get m k) refl
    where
      by : (o : Option X) → get m k ≡ o → len (changed_value g o k m) ≡ len m
      by None h = refl
      by (Some x) h = len-insert nat_cmp_total m k (g x) ∙ ap (λ o. cond (is_some o) (len m) (len m + 1)) h
