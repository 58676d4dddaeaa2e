-- Look-ups in a map whose values were changed.
use Rattle.std.proofs.Common.{◌≡◌, cond, List, [], ◌∷◌, map, Option, Some, None, refl, sym, ap, ◌∙◌, Ordering}
use Rattle.std.specs.declared.cmp.Ordering.TheVariants.{Less, Equal, Greater}
use Rattle.std.specs.Ordering.{is_eq, eq_by_cmp}
use Rattle.std.specs.Option.{option_map}
use Rattle.std.specs.Cmp.{IsTotalOrder}
use Rattle.std.specs.FinMap.{FinMap, entries, get, find, get-from_entries, get-entries, get-insert, get_tied, IsAntisymmetric}
use Rattle.nfs_model.specs.volume.Maps.{map_values, changed_value, changed_at}

module _ {K X Y : Type 0} {R : K → K → Ordering} where
  find-map : IsAntisymmetric R → (g : K → X → Y) (q : K) (es : List (K × X))
      → find R q (map (λ (e : K × X). (e.0, g e.0 e.1)) es) ≡ option_map (g q) (find R q es)
  find-map same g q [] = refl
  find-map same g q (e ∷ es) = by (R q e.0) refl (find-map same g q es)
    where
      by : (r : Ordering) → R q e.0 ≡ r → find R q (map (λ (x : K × X). (x.0, g x.0 x.1)) es) ≡ option_map (g q) (find R q es)
          → cond (is_eq r) (Some (g e.0 e.1)) (find R q (map (λ (x : K × X). (x.0, g x.0 x.1)) es)) ≡ option_map (g q)
          (cond (is_eq r) (Some e.1) (find R q es))
      by Less h rest = rest
      by Equal h rest = ap (λ k. Some (g k e.1)) (sym (same q e.0 h))
      by Greater h rest = rest

  -- what is found under a key is what was, changed
  pub get-map_values : IsTotalOrder R → IsAntisymmetric R → (g : K → X → Y) (m : FinMap R X) (q : K)
      → get (map_values g m) q ≡ option_map (g q) (get m q)
  unfolding map_values
  get-map_values o same g m q = get-from_entries o _ q ∙ find-map same g q (entries m) ∙ ap (option_map (g q)) (sym (get-entries m q))

-- what is found under a key is what was, changed if the key is the one
pub get-changed_at : {K X : Type 0} {S : K → K → Ordering} → IsTotalOrder S → (g : X → X) (k : K) (m : FinMap S X) (q : K)
    → get (changed_at g k m) q ≡ cond (eq_by_cmp S q k) (option_map g (get m q)) (get m q)
get-changed_at {K} {X} {S} o g k m q = by (get m k) refl (S q k) refl
  where
    by : (x : Option X) → get m k ≡ x → (r : Ordering) → S q k ≡ r
        → get (changed_value g x k m) q ≡ cond (is_eq r) (option_map g (get m q)) (get m q)
    by None e Less h = refl
    by None e Equal h = sym (get_tied o m q k h) ∙ e ∙ ap (option_map g) (sym e ∙ get_tied o m q k h)
    by None e Greater h = refl
    by (Some x) e Less h = get-insert o m k (g x) q ∙ ap (λ r. cond (is_eq r) (Some (g x)) (get m q)) h
    by (Some x) e Equal h =
        get-insert o m k (g x) q ∙ ap (λ r. cond (is_eq r) (Some (g x)) (get m q)) h ∙ ap (option_map g) (sym e ∙ get_tied o m q k h)
    by (Some x) e Greater h = get-insert o m k (g x) q ∙ ap (λ r. cond (is_eq r) (Some (g x)) (get m q)) h
