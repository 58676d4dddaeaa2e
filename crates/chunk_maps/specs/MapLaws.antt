-- The map that a map of chunks is, after what is done to it. Lemmas alone.
use Rattle.std.proofs.Common.{◌≡◌, ◌≢◌, ℕ, zero, suc, ◌+◌, ◌-◌, ◌*◌, ◌/◌, ◌<◌, ◌≤◌, ◌==◌, ◌&&◌, Bool, true, false, cond, nat_lt, nat_le, List, [], ◌∷◌}
use Rattle.std.proofs.Common.{Option, Some, None, is_some, refl, sym, ap, ◌∙◌, inl, inr, arith, eq-eqb}
use Rattle.std.specs.Global.{Vec}
use Rattle.std.specs.Option.{option_map}
use Rattle.std.proofs.Common.{Result, Ok, Err, OnErr}
use Rattle.std.proofs.lemmas.Bool.{cases_eq}
use Rattle.std.proofs.lemmas.Bool.Decides.{nat_tests}
use Rattle.std.specs.Ordering.{nat_cmp}
use Rattle.std.specs.Cmp.{nat_cmp_total}
use Rattle.std.specs.FinMap.{FinMap, empty, get, insert, remove, get-empty, len, len-insert, len-remove}
use Rattle.nfs_model.specs.volume.Maps.{changed_value, changed_at}
use Rattle.nfs_model.specs.volume.lemmas.Numbered.{get-insert_at, get-remove_at, get-changed_at, same-answers, insert-removed, removed-absent}
use Rattle.chunk_maps.specs.SlotLaws.{unlike}
use Rattle.chunk_maps.specs.declared.chunk_map.ChunkMap.{ChunkMap}
use Rattle.chunk_maps.specs.Chunks.{page_size, Slots, slot_of, value_on, Sets, SameAt}
use Rattle.chunk_maps.specs.Numbers.{page_of, value_in}
use Rattle.chunk_maps.specs.Maps.{value_at, with_slot, with_values, values_on, values_of}

-- whether a number is one of n from a first on
abbrev is_among : ℕ → ℕ → ℕ → Bool
is_among first n q = nat_le first q && nat_lt q (first + n)

is-none : (first q : ℕ) → is_among first zero q ≡ false
is-none first q = grind (arith, nat_tests)

is-last : (first n q : ℕ) → q ≡ first + n → is_among first (suc n) q ≡ true
is-last first n q is = grind (arith, nat_tests, is)

is-earlier : (first n q : ℕ) → q ≢ first + n → is_among first (suc n) q ≡ is_among first n q
is-earlier first n q other = grind (arith, nat_tests, other)

-- those of a page
all-among : (number q : ℕ) → is_among (page_size * number) page_size q ≡ (q / page_size == number)
all-among number q = elim (cases_eq (q / page_size) number) [
  | inl e ↦
      (let low : page_size * number ≤ q = omega (arith, e) in
      let high : q < page_size * number + page_size = omega (arith, e) in
      let all : is_among (page_size * number) page_size q ≡ true = grind (arith, nat_tests, low, high) in all)
      ∙ sym (eq-eqb _ _ e)
  | inr apart ↦ by (nat_le (page_size * number) q) (nat_lt q (page_size * number + page_size)) refl refl apart
      ∙ sym (unlike (q / page_size) number apart)
]
  where
    by : (a b : Bool) → nat_le (page_size * number) q ≡ a → nat_lt q (page_size * number + page_size) ≡ b → q / page_size ≢ number → (a && b) ≡ false
    by true true low high apart =
        let l : page_size * number ≤ q = grind (arith, nat_tests, low) in
        let h : q < page_size * number + page_size = grind (arith, nat_tests, high) in absurd (apart (omega (arith, l, h)))
    by true false low high apart = refl
    by false b low high apart = refl

-- what follows where a call has failed
pub on-err : {T E P : Type 0} (r : Result T E) → P → OnErr r P
on-err (Ok x) p = tt
on-err (Err e) p = p

module _ {V : Type 0} where
  get-with_slot : (k : ℕ) (o : Option V) (m : FinMap nat_cmp V) (q : ℕ) → get (with_slot k o m) q ≡ cond (q == k) o (get m q)
  get-with_slot k None m q = get-remove_at m k q
  get-with_slot k (Some value) m q = get-insert_at m k value q

  get-with_values : (under : ℕ → Option V) (first n : ℕ) (m : FinMap nat_cmp V) (q : ℕ)
      → get (with_values under first n m) q ≡ cond (is_among first n q) (under q) (get m q)
  unfolding with_values
  get-with_values under first zero m q = sym (ap (λ b. cond b (under q) (get m q)) (is-none first q))
  get-with_values under first (suc n) m q =
      let k = first + n in
      let before = get (with_values under first n m) q in
      get-with_slot k (under k) (with_values under first n m) q ∙ elim (cases_eq q k) [
        | inl e ↦ ap (λ b. cond b (under k) before) (eq-eqb q k e) ∙ ap under (sym e)
            ∙ sym (ap (λ b. cond b (under q) (get m q)) (is-last first n q e))
        | inr other ↦ ap (λ b. cond b (under k) before) (unlike q k other) ∙ get-with_values under first n m q
            ∙ sym (ap (λ b. cond b (under q) (get m q)) (is-earlier first n q other))
      ]

  get-values_on : (pages : List (ℕ × Vec (Option (Slots V)))) (q : ℕ)
      → get (values_on pages) q ≡ value_in slot_of (page_of pages (q / page_size)) q
  unfolding values_on
  get-values_on [] q = get-empty nat_cmp q
  get-values_on (page ∷ pages) q =
      get-with_values (value_on slot_of page.1.items) (page_size * page.0) page_size (values_on pages) q
      ∙ ap (λ b. cond b (value_on slot_of page.1.items q) (get (values_on pages) q)) (all-among page.0 q)
      ∙ by (q / page_size == page.0) (get-values_on pages q)
    where
      by : (b : Bool) → get (values_on pages) q ≡ value_in slot_of (page_of pages (q / page_size)) q
          → cond b (value_on slot_of page.1.items q) (get (values_on pages) q)
          ≡ value_in slot_of (cond b (Some page.1) (page_of pages (q / page_size))) q
      by true rest = refl
      by false rest = rest

  -- the value under a fileid
  pub get-values_of : (m : ChunkMap (Slots V)) (q : ℕ) → get (values_of m) q ≡ value_at m q
  unfolding values_of
  get-values_of m q = get-values_on m.pages q

  -- no value
  pub no-values : (m : ChunkMap (Slots V)) → ((q : ℕ) → value_at m q ≡ None) → values_of m ≡ empty
  no-values m none = same-answers (values_of m) empty (λ q. get-values_of m q ∙ none q ∙ sym (get-empty nat_cmp q))

  -- the same values
  pub same-values : (old new : ChunkMap (Slots V)) → SameAt (value_at old) (value_at new) → values_of new ≡ values_of old
  same-values old new same = same-answers (values_of new) (values_of old) (λ q. get-values_of new q ∙ same q ∙ sym (get-values_of old q))

  pub put-values : (k : ℕ) (value : V) (old new : ChunkMap (Slots V)) → Sets k (Some value) (value_at old) (value_at new)
      → values_of new ≡ insert (values_of old) k value
  put-values k value old new sets = same-answers (values_of new) (insert (values_of old) k value) (λ q.
      get-values_of new q ∙ sets q
      ∙ sym (get-insert_at (values_of old) k value q ∙ ap (cond (q == k) (Some value)) (get-values_of old q)))

  pub changed-values : (g : V → V) (k : ℕ) (old new : ChunkMap (Slots V)) → Sets k (option_map g (value_at old k)) (value_at old) (value_at new)
      → values_of new ≡ changed_at g k (values_of old)
  changed-values g k old new sets = same-answers (values_of new) (changed_at g k (values_of old)) (λ q.
      get-values_of new q ∙ sets q
      ∙ sym (get-changed_at g k (values_of old) q
      ∙ ap (λ o. cond (q == k) (option_map g o) (get (values_of old) q)) (get-values_of old k)
      ∙ ap (cond (q == k) (option_map g (value_at old k))) (get-values_of old q)))

  pub removed-values : (k : ℕ) (old new : ChunkMap (Slots V)) → Sets k None (value_at old) (value_at new) → values_of new ≡ remove (values_of old) k
  removed-values k old new sets = same-answers (values_of new) (remove (values_of old) k) (λ q.
      get-values_of new q ∙ sets q ∙ sym (get-remove_at (values_of old) k q ∙ ap (cond (q == k) None) (get-values_of old q)))

  -- ---- how many there are

  pub len-changed : (g : V → V) (k : ℕ) (m : FinMap nat_cmp V) → len (changed_at g k m) ≡ len m
  len-changed g k m = by (get m k) refl
    where
      by : (o : Option V) → get m k ≡ o → len (changed_value g o k m) ≡ len m
      by None h = refl
      by (Some x) h = len-insert nat_cmp_total m k (g x) ∙ ap (λ o. cond (is_some o) (len m) (len m + 1)) h

  pub len-put : (k : ℕ) (value : V) (m : FinMap nat_cmp V) → get m k ≡ None → len (insert m k value) ≡ len m + 1
  len-put k value m none = len-insert nat_cmp_total m k value ∙ ap (λ o. cond (is_some o) (len m) (len m + 1)) none

  pub len-gone : (k : ℕ) (value : V) (m : FinMap nat_cmp V) → get m k ≡ Some value → len (remove m k) ≡ len m - 1
  len-gone k value m there = len-remove nat_cmp_total m k ∙ ap (λ o. cond (is_some o) (len m - 1) (len m)) there

  pub len-none : (k : ℕ) (m : FinMap nat_cmp V) → get m k ≡ None → len (remove m k) ≡ len m
  len-none k m none = len-remove nat_cmp_total m k ∙ ap (λ o. cond (is_some o) (len m - 1) (len m)) none

  -- where a value is there is one at least
  pub len-some : (k : ℕ) (value : V) (m : FinMap nat_cmp V) → get m k ≡ Some value → 1 ≤ len m
  len-some k value m there =
      let all : len (insert m k value) ≡ len m = len-insert nat_cmp_total m k value ∙ ap (λ o. cond (is_some o) (len m) (len m + 1)) there in
      let gone : len (insert (remove m k) k value) ≡ len (remove m k) + 1 =
      len-insert nat_cmp_total (remove m k) k value ∙ ap (λ o. cond (is_some o) (len (remove m k)) (len (remove m k) + 1)) (removed-absent m k) in
      let same : len (insert (remove m k) k value) ≡ len (insert m k value) = ap (λ x. len x) (insert-removed m k value) in
      omega (arith, all, gone, same)
