-- Pages by their numbers: where one is found, and what becomes of them where one is put, changed or removed.
use Rattle.std.proofs.Common.{◌≡◌, ◌≢◌, ℕ, zero, suc, ◌+◌, ◌/◌, ◌<◌, ◌≤◌, ◌==◌, cond, List, [], ◌∷◌, length, get_or, set}
use Rattle.std.proofs.Common.{Option, Some, None, Result, Ok, Err, IfOk, IfErr, OnErr, IsTrue, refl, sym, ap, subst, ◌∙◌, inl, inr, arith, eq-eqb}
use Rattle.std.specs.Global.{Vec}
use Rattle.std.specs.Option.{option_map}
use Rattle.std.specs.List.{insert, remove}
use Rattle.std.specs.List.Sorted.{IsSearchInRange, IsBinarySearchResult, IsNonDecreasingBy}
use Rattle.std.specs.Ordering.{nat_cmp, ordering_index}
use Rattle.std.proofs.lemmas.Cmp.{ranked}
use Rattle.std.proofs.lemmas.Bool.{cases_eq}
use Rattle.std.proofs.lemmas.Bool.Decides.{nat_tests}
use Rattle.chunk_maps.specs.SlotLaws.{unlike}
use Rattle.chunk_maps.specs.Chunks.{page_size, chunk_at, slot_by, value_on, place_of, SameAt, Sets, SetsAmong}
use Rattle.chunk_maps.specs.Numbers.{page_of, Rise, number_at, IsAt, IsGap, value_in, value_among}

module _ {P : Type 0} where
  -- ---- numbers at their places

  pub number-read : (pages : List (ℕ × P)) (i : ℕ) (d : ℕ × P) → i < length pages → number_at pages i ≡ (get_or pages i d).0
  number-read [] i d within = absurd (omega arith)
  number-read (page ∷ pages) zero d within = refl
  number-read (page ∷ pages) (suc i) d within = number-read pages i d (omega arith)

  any-page : (pages : List (ℕ × P)) (i : ℕ) → i < length pages → ℕ × P
  any-page [] i within = absurd (omega arith)
  any-page (page ∷ pages) i within = page

  at-least : (least : ℕ) (pages : List (ℕ × P)) (i : ℕ) → Rise least pages → i < length pages → least ≤ number_at pages i
  at-least least [] i rise within = absurd (omega arith)
  at-least least (page ∷ pages) zero rise within = rise.0
  at-least least (page ∷ pages) (suc i) rise within =
      let first = rise.0 in
      let rest = at-least (page.0 + 1) pages i rise.1 (omega arith) in omega (arith, first, rest)

  no-fall : (least : ℕ) (pages : List (ℕ × P)) (i j : ℕ) → Rise least pages → i ≤ j → j < length pages → number_at pages i ≤ number_at pages j
  no-fall least [] i j rise le within = absurd (omega arith)
  no-fall least (page ∷ pages) zero zero rise le within = omega arith
  no-fall least (page ∷ pages) zero (suc j) rise le within =
      let rest = at-least (page.0 + 1) pages j rise.1 (omega arith) in omega (arith, rest)
  no-fall least (page ∷ pages) (suc i) zero rise le within = absurd (omega arith)
  no-fall least (page ∷ pages) (suc i) (suc j) rise le within = no-fall (page.0 + 1) pages i j rise.1 (omega arith) (omega arith)

  from-less : (least more : ℕ) (pages : List (ℕ × P)) → Rise more pages → least ≤ more → Rise least pages
  from-less least more [] rise le = tt
  from-less least more (page ∷ pages) rise le = (let first = rise.0 in omega (arith, first), rise.1)

  from-first : (least more : ℕ) (pages : List (ℕ × P)) → Rise least pages → (0 < length pages → more ≤ number_at pages 0) → Rise more pages
  from-first least more [] rise first = tt
  from-first least more (page ∷ pages) rise first = (first (omega arith), rise.1)

  -- ---- what is found

  first-found : (page : ℕ × P) (pages : List (ℕ × P)) (number : ℕ) → number ≡ page.0 → page_of (page ∷ pages) number ≡ Some page.1
  first-found page pages number e = ap (λ b. cond b (Some page.1) (page_of pages number)) (eq-eqb number page.0 e)

  not-first : (page : ℕ × P) (pages : List (ℕ × P)) (number : ℕ) → number ≢ page.0 → page_of (page ∷ pages) number ≡ page_of pages number
  not-first page pages number apart = ap (λ b. cond b (Some page.1) (page_of pages number)) (unlike number page.0 apart)

  none-of : (number : ℕ) (pages : List (ℕ × P)) → ((j : ℕ) → j < length pages → number ≢ number_at pages j) → page_of pages number ≡ None
  none-of number [] others = refl
  none-of number (page ∷ pages) others =
      not-first page pages number (others zero (omega arith)) ∙ none-of number pages (λ j within. others (suc j) (omega arith))

  none-less : (least number : ℕ) (pages : List (ℕ × P)) → Rise least pages → number < least → page_of pages number ≡ None
  none-less least number pages rise less = none-of number pages (λ j within e. let more = at-least least pages j rise within in omega (arith, more, e))

  pub none-in-gap : (number i : ℕ) (pages : List (ℕ × P)) → IsGap pages number i → page_of pages number ≡ None
  none-in-gap number i pages gap = none-of number pages (λ j within e. grind (arith, gap.less j, gap.greater j))

  at-tail : (page : ℕ × P) (pages : List (ℕ × P)) (number i : ℕ) → IsAt (page ∷ pages) number (suc i) → IsAt pages number i
  at-tail page pages number i at = let within = at.within in record { within = omega (arith, within); has = at.has }

  gap-tail : (page : ℕ × P) (pages : List (ℕ × P)) (number i : ℕ) → IsGap (page ∷ pages) number (suc i) → IsGap pages number i
  gap-tail page pages number i gap = let within = gap.within in record {
    within = omega (arith, within);
    less = λ j l. gap.less (suc j) (omega arith);
    greater = λ j le l. gap.greater (suc j) (omega arith) (omega arith);
  }

  -- a number behind the first
  above-first : (least : ℕ) (page : ℕ × P) (pages : List (ℕ × P)) (number i : ℕ) → Rise least (page ∷ pages) → IsAt (page ∷ pages) number (suc i) → page.0 < number
  above-first least page pages number i rise at =
      let within = at.within in
      let more = at-least (page.0 + 1) pages i rise.1 (omega (arith, within)) in
      let has = at.has in omega (arith, more, has)

  pub found-at : (least number i : ℕ) (pages : List (ℕ × P)) (d : ℕ × P) → Rise least pages → IsAt pages number i → page_of pages number ≡ Some (get_or pages i d).1
  found-at least number i [] d rise at = let within = at.within in absurd (omega (arith, within))
  found-at least number zero (page ∷ pages) d rise at = first-found page pages number (sym at.has)
  found-at least number (suc i) (page ∷ pages) d rise at =
      let above = above-first least page pages number i rise at in
      not-first page pages number (λ e. omega (arith, above, e)) ∙ found-at (page.0 + 1) number i pages d rise.1 (at-tail page pages number i at)

  -- whether the page at a place has a number
  pub is-there : (number i : ℕ) (pages value seen : List (ℕ × P)) (page : ℕ × P) → pages ≡ value → seen ≡ pages → i < length seen
      → page ≡ get_or seen i page → IsTrue (page.0 == number) → IsAt value number i
  is-there number i pages value seen page is same within read equal =
      subst (λ l. IsAt l number i) (same ∙ is) (record {
        within = within;
        has = number-read seen i page within ∙ ap (λ p. p.0) (sym read) ∙ (let e : page.0 ≡ number = grind (arith, nat_tests, equal) in e);
      })

  -- a search by halving ends at the page of a number, or where it would be
  searched : (number : ℕ) (pages : List (ℕ × P)) (r : Result ℕ ℕ) → Rise 0 pages → IsSearchInRange r (length pages)
      → IsBinarySearchResult (λ page. nat_cmp page.0 number) pages r
      → record { found : IfOk r (IsAt pages number); absent : IfErr r (IsGap pages number); none : OnErr r (page_of pages number ≡ None) }
  searched number pages (Ok i) rise within equal =
      let d = any-page pages i within in
      record { found = record { within = within; has = number-read pages i d within ∙ ranked _ number _ (sym (equal d)) }; absent = tt; none = tt }
  searched number pages (Err i) rise within parted =
      let order : IsNonDecreasingBy (λ page. ordering_index (nat_cmp page.0 number)) pages = λ j k d le l.
      let a = number-read pages j d (omega arith) in
      let b = number-read pages k d l in
      let c = no-fall 0 pages j k rise le l in grind (arith, nat_tests, a, b, c) in
      let gap : IsGap pages number i = record {
        within = within;
        less = λ j l. let d = any-page pages j (omega arith) in
            subst (λ n. n < number) (sym (number-read pages j d (omega arith))) (ranked _ number _ (sym ((parted order).0 j d (omega arith) l)));
        greater = λ j le l. let d = any-page pages j l in
            subst (λ n. number < n) (sym (number-read pages j d l)) (ranked _ number _ (sym ((parted order).1 j d le l)));
      } in record { found = tt; absent = gap; none = none-in-gap number i pages gap }

  pub halved : (number : ℕ) (pages value seen : List (ℕ × P)) (r : Result ℕ ℕ) → Rise 0 pages → pages ≡ value → seen ≡ pages
      → IsSearchInRange r (length seen) → IsBinarySearchResult (λ page. nat_cmp page.0 number) seen r
      → record { found : IfOk r (IsAt value number); absent : IfErr r (IsGap value number); none : OnErr r (page_of value number ≡ None) }
  halved number pages value seen r rise is same range result =
      subst (λ l. record { found : IfOk r (IsAt l number); absent : IfErr r (IsGap l number); none : OnErr r (page_of l number ≡ None) }) (same ∙ is)
      (searched number seen r (subst (λ l. Rise 0 l) (sym same) rise) range result)

  -- ---- a page set at its place

  pub set-rises : (least number i : ℕ) (pages : List (ℕ × P)) (new : P) → Rise least pages → IsAt pages number i → Rise least (set pages i (number, new))
  set-rises least number i [] new rise at = let within = at.within in absurd (omega (arith, within))
  set-rises least number zero (page ∷ pages) new rise at =
      (subst (λ n. least ≤ n) at.has rise.0, subst (λ n. Rise (n + 1) pages) at.has rise.1)
  set-rises least number (suc i) (page ∷ pages) new rise at =
      (rise.0, set-rises (page.0 + 1) number i pages new rise.1 (at-tail page pages number i at))

  pub set-finds : (least number i : ℕ) (pages : List (ℕ × P)) (new : P) → Rise least pages → IsAt pages number i → (q : ℕ)
      → page_of (set pages i (number, new)) q ≡ cond (q == number) (Some new) (page_of pages q)
  set-finds least number i [] new rise at q = let within = at.within in absurd (omega (arith, within))
  set-finds least number zero (page ∷ pages) new rise at q = grind (arith, nat_tests, at.has)
  set-finds least number (suc i) (page ∷ pages) new rise at q =
      let above = above-first least page pages number i rise at in
      let rest = set-finds (page.0 + 1) number i pages new rise.1 (at-tail page pages number i at) q in grind (arith, nat_tests, above, rest)

  -- ---- a page put into a gap

  pub insert-rises : (least number i : ℕ) (pages : List (ℕ × P)) (new : P) → least ≤ number → Rise least pages → IsGap pages number i
      → Rise least (insert pages i (number, new))
  insert-rises least number zero pages new low rise gap =
      (low, from-first least (number + 1) pages rise (λ some. let more = gap.greater 0 (omega arith) some in omega (arith, more)))
  insert-rises least number (suc i) [] new low rise gap = let within = gap.within in absurd (omega (arith, within))
  insert-rises least number (suc i) (page ∷ pages) new low rise gap =
      let above = gap.less 0 (omega arith) in
      (rise.0, insert-rises (page.0 + 1) number i pages new (omega (arith, above)) rise.1 (gap-tail page pages number i gap))

  pub insert-finds : (number i : ℕ) (pages : List (ℕ × P)) (new : P) → IsGap pages number i → (q : ℕ)
      → page_of (insert pages i (number, new)) q ≡ cond (q == number) (Some new) (page_of pages q)
  insert-finds number zero pages new gap q = refl
  insert-finds number (suc i) [] new gap q = refl
  insert-finds number (suc i) (page ∷ pages) new gap q =
      let above = gap.less 0 (omega arith) in
      let rest = insert-finds number i pages new (gap-tail page pages number i gap) q in grind (arith, nat_tests, above, rest)

  -- ---- a page removed

  pub remove-rises : (least number i : ℕ) (pages : List (ℕ × P)) → Rise least pages → IsAt pages number i → Rise least (remove pages i)
  remove-rises least number i [] rise at = let within = at.within in absurd (omega (arith, within))
  remove-rises least number zero (page ∷ pages) rise at = let first = rise.0 in from-less least (page.0 + 1) pages rise.1 (omega (arith, first))
  remove-rises least number (suc i) (page ∷ pages) rise at =
      (rise.0, remove-rises (page.0 + 1) number i pages rise.1 (at-tail page pages number i at))

  pub remove-finds : (least number i : ℕ) (pages : List (ℕ × P)) → Rise least pages → IsAt pages number i → (q : ℕ)
      → page_of (remove pages i) q ≡ cond (q == number) None (page_of pages q)
  remove-finds least number i [] rise at q = let within = at.within in absurd (omega (arith, within))
  remove-finds least number zero (page ∷ pages) rise at q =
      let has = at.has in
      elim (cases_eq q number) [
        | inl e ↦ none-less (page.0 + 1) q pages rise.1 (omega (arith, has, e))
            ∙ sym (ap (λ b. cond b None (page_of (page ∷ pages) q)) (eq-eqb q number e))
        | inr apart ↦ sym (ap (λ b. cond b None (page_of (page ∷ pages) q)) (unlike q number apart)
            ∙ not-first page pages q (λ e. apart (e ∙ has)))
      ]
  remove-finds least number (suc i) (page ∷ pages) rise at q =
      let above = above-first least page pages number i rise at in
      let rest = remove-finds (page.0 + 1) number i pages rise.1 (at-tail page pages number i at) q in grind (arith, nat_tests, above, rest)

-- ---- pages as they are stored, and as they are seen

-- the page that is read at the place of a number
pub found-there : {P : Type 0} (number i : ℕ) (pages value : List (ℕ × P)) (page : ℕ × P) → Rise 0 pages → pages ≡ value → IsAt value number i
    → page ≡ get_or pages i page → Some page.1 ≡ page_of value number
found-there number i pages value page rise is at read =
    ap (λ p. Some p.1) read ∙ sym (found-at 0 number i pages page rise (subst (λ l. IsAt l number i) (sym is) at)) ∙ ap (λ l. page_of l number) is

module _ {P : Type 0} (pages value : List (ℕ × P)) (number i : ℕ) (old : ℕ × P) (new : P) (rise : Rise 0 pages) (is : pages ≡ value) (at : IsAt value number i)
    (read : old ≡ get_or pages i old) where
  there : IsAt pages number i
  there = subst (λ l. IsAt l number i) (sym is) at

  is-number : old.0 ≡ number
  is-number = ap (λ page. page.0) read ∙ sym (number-read pages i old there.within) ∙ there.has

  pub page-rises : Rise 0 (set pages i (old.0, new))
  page-rises = subst (λ n. Rise 0 (set pages i (n, new))) (sym is-number) (set-rises 0 number i pages new rise there)

  pub page-finds : (q : ℕ) → page_of (set pages i (old.0, new)) q ≡ cond (q == number) (Some new) (page_of value q)
  page-finds q = ap (λ n. page_of (set pages i (n, new)) q) is-number ∙ set-finds 0 number i pages new rise there q
      ∙ ap (λ l. cond (q == number) (Some new) (page_of l q)) is

module _ {P : Type 0} (pages value : List (ℕ × P)) (number i : ℕ) (new : P) (rise : Rise 0 pages) (is : pages ≡ value) (gap : IsGap value number i) where
  apart : IsGap pages number i
  apart = subst (λ l. IsGap l number i) (sym is) gap

  pub more-rise : (after : List (ℕ × P)) → after ≡ insert pages i (number, new) → Rise 0 after
  more-rise after e = subst (λ l. Rise 0 l) (sym e) (insert-rises 0 number i pages new (omega arith) rise apart)

  pub more-find : (after : List (ℕ × P)) → after ≡ insert pages i (number, new) → (q : ℕ) → page_of after q ≡ cond (q == number) (Some new) (page_of value q)
  more-find after e q = ap (λ l. page_of l q) e ∙ insert-finds number i pages new apart q ∙ ap (λ l. cond (q == number) (Some new) (page_of l q)) is

module _ {P : Type 0} (pages value : List (ℕ × P)) (number i : ℕ) (rise : Rise 0 pages) (is : pages ≡ value) (at : IsAt value number i) where
  found : IsAt pages number i
  found = subst (λ l. IsAt l number i) (sym is) at

  pub fewer-rise : (after : List (ℕ × P)) → after ≡ remove pages i → Rise 0 after
  fewer-rise after e = subst (λ l. Rise 0 l) (sym e) (remove-rises 0 number i pages rise found)

  pub fewer-find : (after : List (ℕ × P)) → after ≡ remove pages i → (q : ℕ) → page_of after q ≡ cond (q == number) None (page_of value q)
  fewer-find after e q = ap (λ l. page_of l q) e ∙ remove-finds 0 number i pages rise found q ∙ ap (λ l. cond (q == number) None (page_of l q)) is

-- ---- what is under fileids where the page at a place changes

module _ {C V : Type 0} (slot : C → ℕ → Option V) (pages value : List (ℕ × Vec (Option C))) (number i : ℕ) (old : ℕ × Vec (Option C)) (new : Vec (Option C))
    (rise : Rise 0 pages) (is : pages ≡ value) (at : IsAt value number i) (read : old ≡ get_or pages i old) where
  abbrev after : List (ℕ × Vec (Option C))
  after = set pages i (old.0, new)

  pub value-was : (f : ℕ) → f / page_size ≡ number → value_among slot value f ≡ value_on slot old.1.items f
  value-was f e = ap (λ n. value_in slot (page_of value n) f) e
      ∙ ap (λ o. value_in slot o f) (sym (found-there number i pages value old rise is at read))

  value-is : (f : ℕ) → f / page_size ≡ number → value_among slot after f ≡ value_on slot new.items f
  value-is f e = ap (λ o. value_in slot o f) (page-finds pages value number i old new rise is at read (f / page_size)
      ∙ ap (λ b. cond b (Some new) (page_of value (f / page_size))) (eq-eqb (f / page_size) number e))

  value-stays : (f : ℕ) → f / page_size ≢ number → value_among slot after f ≡ value_among slot value f
  value-stays f other = ap (λ o. value_in slot o f) (page-finds pages value number i old new rise is at read (f / page_size)
      ∙ ap (λ b. cond b (Some new) (page_of value (f / page_size))) (unlike (f / page_size) number other))

  pub pages-set : (f : ℕ) (v : Option V) → f / page_size ≡ number → SetsAmong page_size f v (value_on slot old.1.items) (value_on slot new.items)
      → Sets f v (value_among slot value) (value_among slot after)
  pages-set f v here sets q = elim (cases_eq (q / page_size) number) [
    | inl e ↦ value-is q e ∙ sets q (e ∙ sym here) ∙ ap (cond (q == f) v) (sym (value-was q e))
    | inr other ↦ value-stays q other
        ∙ sym (ap (λ b. cond b v (value_among slot value q)) (unlike q f (λ e. other (ap (λ n. n / page_size) e ∙ here))))
  ]

  pub pages-changed : (f : ℕ) (h : V → V) → f / page_size ≡ number
      → SetsAmong page_size f (option_map h (value_on slot old.1.items f)) (value_on slot old.1.items) (value_on slot new.items)
      → Sets f (option_map h (value_among slot value f)) (value_among slot value) (value_among slot after)
  pages-changed f h here sets = subst (λ o. Sets f (option_map h o) (value_among slot value) (value_among slot after)) (sym (value-was f here))
      (pages-set f (option_map h (value_on slot old.1.items f)) here sets)

  pub pages-same : SameAt (value_on slot old.1.items) (value_on slot new.items) → SameAt (value_among slot value) (value_among slot after)
  pages-same same q = elim (cases_eq (q / page_size) number) [
    | inl e ↦ value-is q e ∙ same q ∙ sym (value-was q e)
    | inr other ↦ value-stays q other
  ]

  pub pages-none : ((place : ℕ) → chunk_at new.items place ≡ None) → (f : ℕ) → f / page_size ≡ number → value_among slot after f ≡ None
  pages-none none f e = value-is f e ∙ ap (λ chunk. slot_by slot chunk f) (none (place_of f))
