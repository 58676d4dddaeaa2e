-- The entries of a map whose values were changed, and sums over the entries of a map.
use Rattle.std.proofs.Common.{◌≡◌, ℕ, ◌+◌, ◌≤◌, Bool, true, false, cond, ◌&&◌, List, [], ◌∷◌, length, map, Some, None, refl, sym, ap, ◌∙◌, subst}
use Rattle.std.proofs.Common.{arith, Ordering}
use Rattle.std.specs.Prelude.{T}
use Rattle.std.specs.declared.cmp.Ordering.TheVariants.{Less, Equal, Greater}
use Rattle.std.specs.Ordering.{is_lt, is_eq}
use Rattle.std.specs.Cmp.{IsTotalOrder, tied_itself}
use Rattle.std.specs.FinMap.{FinMap, from_entries, from_sorted, entries, entries_sorted, get, len, find, is_sorted, get-entries, get-from_entries}
use Rattle.std.specs.FinMap.{get-from_sorted}
use Rattle.std.specs.FinMap.{entries-from_sorted, len-entries, same_map, IsAntisymmetric}
use Rattle.std.specs.FinMap.Entries.{below_all}
use Rattle.std.proofs.lemmas.List.{length-map}
use Rattle.depot_rule.specs.Sums.{total}
use Rattle.nfs_model.specs.volume.Maps.{map_values}

second-test : (a b : Bool) → T (a && b) → T b
second-test true b p = p
second-test false b p = absurd p

first-test : (a b : Bool) → T (a && b) → T a
first-test true b p = tt
first-test false b p = p

abbrev pub changed_by : {K X Y : Type 0} → (K → X → Y) → List (K × X) → List (K × Y)
changed_by g es = map (λ e. (e.0, g e.0 e.1)) es

module _ {K X Y : Type 0} (R : K → K → Ordering) (g : K → X → Y) where
  below-changed : (x : K) (es : List (K × X)) → below_all R x (changed_by g es) ≡ below_all R x es
  below-changed x [] = refl
  below-changed x (e ∷ es) = ap (λ b. is_lt (R x e.0) && b) (below-changed x es)

  sorted-changed : (es : List (K × X)) → is_sorted R (changed_by g es) ≡ is_sorted R es
  sorted-changed [] = refl
  sorted-changed (e ∷ es) = λ j. below-changed e.0 es j && sorted-changed es j

module _ {K X Y : Type 0} {R : K → K → Ordering} (g : K → X → Y) where
  -- the same keys, with the values changed
  pub entries-map_values : IsTotalOrder R → IsAntisymmetric R → (m : FinMap R X) → entries (map_values g m) ≡ changed_by g (entries m)
  unfolding map_values
  entries-map_values o same m =
      let sorted : T (is_sorted R (changed_by g (entries m))) = subst T (sym (sorted-changed R g (entries m))) (entries_sorted m) in
      ap entries (same_map o same (from_entries (changed_by g (entries m))) (from_sorted (changed_by g (entries m)))
      (λ q. get-from_entries o (changed_by g (entries m)) q ∙ sym (get-from_sorted R (changed_by g (entries m)) q sorted)))
      ∙ entries-from_sorted R (changed_by g (entries m)) sorted

  pub len-map_values : IsTotalOrder R → IsAntisymmetric R → (m : FinMap R X) → len (map_values g m) ≡ len m
  len-map_values o same m =
      len-entries (map_values g m) ∙ ap length (entries-map_values o same m) ∙ length-map (entries m) (λ (e : K × X). (e.0, g e.0 e.1)) ∙ sym (len-entries m)

module _ {K X : Type 0} {R : K → K → Ordering} (o : IsTotalOrder R) (same : IsAntisymmetric R) (f g : K × X → ℕ) where
  below-none : (q : K) (es : List (K × X)) → T (below_all R q es) → find R q es ≡ None
  below-none q [] h = refl
  below-none q (e ∷ es) h = by (R q e.0) (first-test (is_lt (R q e.0)) (below_all R q es) h) (below-none q es (second-test (is_lt (R q e.0))
      (below_all R q es) h))
    where
      by : (r : Ordering) → T (is_lt r) → find R q es ≡ None → cond (is_eq r) (Some e.1) (find R q es) ≡ None
      by Less t none = none
      by Equal t none = absurd t
      by Greater t none = none

  list-same : (es : List (K × X)) → T (is_sorted R es) → ((k : K) (x : X) → find R k es ≡ Some x → f (k, x) ≡ g (k, x)) → total f es ≡ total g es
  list-same [] sorted h = refl
  list-same (e ∷ es) sorted h =
      let below = first-test (below_all R e.0 es) (is_sorted R es) sorted in
      let here : f e ≡ g e = h e.0 e.1 (ap (λ r. cond (is_eq r) (Some e.1) (find R e.0 es)) (tied_itself o e.0)) in
      let others = list-same es (second-test (below_all R e.0 es) (is_sorted R es) sorted)
      (λ k x is. h k x (past (R k e.0) k x refl (below-none e.0 es below) is)) in
      omega (arith, here, others)
    where
      past : (r : Ordering) (k : K) (x : X) → R k e.0 ≡ r → find R e.0 es ≡ None → find R k es ≡ Some x → cond (is_eq r) (Some e.1) (find R k es) ≡ Some x
      past Less k x tied none is = is
      past Equal k x tied none is = let gone : find R k es ≡ None = subst (λ q. find R q es ≡ None) (sym (same k e.0 tied)) none in cc
      past Greater k x tied none is = is

  -- sums over the entries that are found under their keys
  pub total-entries : (m : FinMap R X) → ((k : K) (x : X) → get m k ≡ Some x → f (k, x) ≡ g (k, x)) → total f (entries m) ≡ total g (entries m)
  total-entries m h = list-same (entries m) (entries_sorted m) (λ k x is. h k x (get-entries m k ∙ is))

-- what is found is among what is summed
module _ {K X : Type 0} {R : K → K → Ordering} (same : IsAntisymmetric R) (f : K × X → ℕ) where
  list-at-least : (es : List (K × X)) (k : K) (x : X) → find R k es ≡ Some x → f (k, x) ≤ total f es
  list-at-least [] k x is = absurd cc
  list-at-least (e ∷ es) k x is = by (R k e.0) refl (list-at-least es k x) is
    where
      by : (r : Ordering) → R k e.0 ≡ r → (find R k es ≡ Some x → f (k, x) ≤ total f es) → cond (is_eq r) (Some e.1) (find R k es) ≡ Some x
          → f (k, x) ≤ f e + total f es
      by Less tied others h = let more = others h in omega (arith, more)
      by Greater tied others h = let more = others h in omega (arith, more)
      by Equal tied others h =
          let value : e.1 ≡ x = cc in
          let here : f (k, x) ≡ f e = (λ j. f (same k e.0 tied j, sym value j)) in
          omega (arith, here)

  pub entry-at-least : (m : FinMap R X) (k : K) (x : X) → get m k ≡ Some x → f (k, x) ≤ total f (entries m)
  entry-at-least m k x is = list-at-least (entries m) k x (sym (get-entries m k) ∙ is)
