-- The blocks of a span that a cut takes out of its array.
use Rattle.std.proofs.Common.{◌≡◌, ◌≢◌, ℕ, zero, suc, ◌+◌, ◌-◌, ◌%◌, ◌<◌, ◌≤◌, Bool, true, false, List, [], ◌∷◌, ◌++◌, length, get_or, set, refl, sym, ap, ◌∙◌}
use Rattle.std.proofs.Common.{Option, Some, None, IfSome, is_some, inl, inr, arith, append_assoc, length-append, subst}
use Rattle.std.specs.Prelude.{◌&&◌, nat_le, nat_lt, if◌then◌else◌}
use Rattle.std.proofs.lemmas.Bool.{cases_eq, cases_lt}
use Rattle.std.proofs.lemmas.Bool.Decides.{nat_tests}
use Rattle.std.proofs.lemmas.List.{append-nil, get_or-set_same, get_or-set_other}
use Rattle.nfs_model.specs.volume.Stripes.{Block, span_blocks}
use Rattle.stripes.specs.Spans.{Places, place_of, with_number, numbers_at, numbers_from, IsFirst, IsTakenUpTo, IsTakenFrom}
use Rattle.stripes.proofs.Places.{at-place}

-- ---- numbers of places

-- the same blocks have the same numbers
pub numbers-same : (f g : ℕ → Option Block) (from n : ℕ) → ((i : ℕ) → from ≤ i → i < from + n → f i ≡ g i) → numbers_at f from n ≡ numbers_at g from n
numbers-same f g from zero same = refl
numbers-same f g from (suc n) same =
    let rest = numbers-same f g (from + 1) n (λ i a b. same i (omega arith) (omega arith)) in
    let here = same from (omega arith) (omega arith) in
    λ i. with_number (here i) (rest i)

-- a block among them has one
pub numbers-some : (f : ℕ → Option Block) (from n i : ℕ) → from ≤ i → i < from + n → is_some (f i) ≡ true → 0 < length (numbers_at f from n)
numbers-some f from zero i a b there = absurd (omega arith)
numbers-some f from (suc n) i a b there = by (f from) refl (λ later. numbers-some f (from + 1) n i (omega arith) (omega arith) there)
  where
    by : (o : Option Block) → f from ≡ o → (from < i → 0 < length (numbers_at f (from + 1) n)) → 0 < length (with_number o (numbers_at f (from + 1) n))
    by None e next = elim (cases_lt from i) [
      | inl later ↦ next later
      | inr upto ↦ absurd (let here : from ≡ i = omega arith in
          let no : false ≡ true = sym (ap is_some e) ∙ ap (λ k. is_some (f k)) here ∙ there in cc)
    ]
    by (Some b) e next = omega arith

first-some : (from i : ℕ) (places : Places) (numbers : List ℕ) → IsFirst from i places → numbers ≡ numbers_from from places → 0 < length numbers
first-some from i places numbers first told =
    let within = first.within in
    let after = first.after in
    let some = numbers-some (place_of places) from (span_blocks - from) i after (omega (arith, within, after)) first.there in
    let long = ap length told in
    omega (arith, some, long)

-- where a first block was found there is a number
pub some-from : (from : ℕ) (first : Option ℕ) (found places : Places) (numbers : List ℕ) → is_some first ≡ true
    → IfSome first (λ i. IsFirst from i found) → found ≡ places → numbers ≡ numbers_from from places → 0 < length numbers
some-from from None found places numbers some is same told = absurd (cc)
some-from from (Some i) found places numbers some is same told =
    first-some from i places numbers (subst (λ (ps : Places). IsFirst from i ps) same is) told

-- ---- place after place

number-before : (o : Option Block) (rest : List ℕ) → with_number o [] ++ rest ≡ with_number o rest
number-before None rest = refl
number-before (Some b) rest = refl

-- the number at a place goes behind those before it
pub joined-more : (f : ℕ → Option Block) (o : Option Block) (freed new whole : List ℕ) (i : ℕ) → i < span_blocks → o ≡ f i
    → new ≡ freed ++ with_number o [] → freed ++ numbers_at f i (span_blocks - i) ≡ whole
    → new ++ numbers_at f (i + 1) (span_blocks - (i + 1)) ≡ whole
joined-more f o freed new whole i below e told joined =
    let rest = numbers_at f (i + 1) (span_blocks - (i + 1)) in
    let left : suc (span_blocks - (i + 1)) ≡ span_blocks - i = omega (arith, below) in
    ap (λ ns. ns ++ rest) told
    ∙ append_assoc freed (with_number o []) rest
    ∙ ap (λ ns. freed ++ ns) (number-before o rest ∙ ap (λ b. with_number b rest) e ∙ ap (numbers_at f i) left)
    ∙ joined

-- at most one more
pub few-more : (o : Option Block) (freed new : List ℕ) (i : ℕ) → new ≡ freed ++ with_number o [] → length freed ≤ i → length new ≤ i + 1
few-more None freed new i told few = let long = ap length told ∙ length-append freed [] in omega (arith, long, few)
few-more (Some b) freed new i told few = let long = ap length told ∙ length-append freed (b.number ∷ []) in omega (arith, long, few)

-- none is after the last place
pub joined-last : (f : ℕ → Option Block) (freed whole : List ℕ) (i : ℕ) → span_blocks ≤ i → freed ++ numbers_at f i (span_blocks - i) ≡ whole → freed ≡ whole
joined-last f freed whole i past joined =
    let none : span_blocks - i ≡ 0 = omega (arith, past) in
    sym (append-nil freed) ∙ sym (ap (λ n. freed ++ numbers_at f i n) none) ∙ joined

-- ---- blocks counted

-- a place with a block is one more
pub counted-more : (f : ℕ → Option Block) (count new whole i : ℕ) → i < span_blocks → is_some (f i) ≡ true → new ≡ count + 1
    → count + length (numbers_at f i (span_blocks - i)) ≡ whole → new + length (numbers_at f (i + 1) (span_blocks - (i + 1))) ≡ whole
counted-more f count new whole i below there more counted = by (f i) refl
  where
    left : suc (span_blocks - (i + 1)) ≡ span_blocks - i
    left = omega (arith, below)

    long : count + length (with_number (f i) (numbers_at f (i + 1) (span_blocks - (i + 1)))) ≡ whole
    long = ap (λ n. count + length (numbers_at f i n)) left ∙ counted

    by : (o : Option Block) → f i ≡ o → new + length (numbers_at f (i + 1) (span_blocks - (i + 1))) ≡ whole
    by None e = absurd (let no : false ≡ true = sym (ap is_some e) ∙ there in cc)
    by (Some b) e =
        let all = ap (λ o. count + length (with_number o (numbers_at f (i + 1) (span_blocks - (i + 1))))) (sym e) ∙ long in
        omega (arith, all, more)

-- a place without one is none
pub counted-same : (f : ℕ → Option Block) (count new whole i : ℕ) → i < span_blocks → is_some (f i) ≡ false → new ≡ count
    → count + length (numbers_at f i (span_blocks - i)) ≡ whole → new + length (numbers_at f (i + 1) (span_blocks - (i + 1))) ≡ whole
counted-same f count new whole i below none same counted = by (f i) refl
  where
    left : suc (span_blocks - (i + 1)) ≡ span_blocks - i
    left = omega (arith, below)

    long : count + length (with_number (f i) (numbers_at f (i + 1) (span_blocks - (i + 1)))) ≡ whole
    long = ap (λ n. count + length (numbers_at f i n)) left ∙ counted

    by : (o : Option Block) → f i ≡ o → new + length (numbers_at f (i + 1) (span_blocks - (i + 1))) ≡ whole
    by None e =
        let all = ap (λ o. count + length (with_number o (numbers_at f (i + 1) (span_blocks - (i + 1))))) (sym e) ∙ long in
        omega (arith, all, same)
    by (Some b) e = absurd (let no : true ≡ false = sym (ap is_some e) ∙ none in cc)

-- none is after the last place
pub counted-last : (f : ℕ → Option Block) (count whole i : ℕ) → span_blocks ≤ i → count + length (numbers_at f i (span_blocks - i)) ≡ whole → count ≡ whole
counted-last f count whole i past counted =
    let none : span_blocks - i ≡ 0 = omega (arith, past) in
    let all = ap (λ n. count + length (numbers_at f i n)) (sym none) ∙ counted in
    omega (arith, all)

-- ---- the places that are taken

self-before : (from i : ℕ) → (nat_le from i && nat_lt i i) ≡ false
self-before from i = grind (arith, nat_tests)

self-after : (from i : ℕ) → from ≤ i → (nat_le from i && nat_lt i (i + 1)) ≡ true
self-after from i h = grind (arith, nat_tests)

other-after : (b i : ℕ) → b ≢ i → nat_lt b (i + 1) ≡ nat_lt b i
other-after b i h = grind (arith, nat_tests)

none-upto : (from b : ℕ) → (nat_le from b && nat_lt b from) ≡ false
none-upto from b = grind (arith, nat_tests)

all-before : (b i : ℕ) → b < span_blocks → span_blocks ≤ i → nat_lt b i ≡ nat_lt b span_blocks
all-before b i below past = grind (arith, nat_tests)

-- nothing is taken yet
pub taken-none : (from : ℕ) (places : Places) → IsTakenUpTo from from places places
taken-none from places b = sym (ap (λ (t : Bool). if t then None else place_of places b) (none-upto from (b % span_blocks)))

-- all are taken
pub taken-all : (from i : ℕ) (old new : Places) → span_blocks ≤ i → IsTakenUpTo from i old new → IsTakenFrom from old new
taken-all from i old new past taken b =
    taken b
    ∙ ap (λ (t : Bool). if nat_le from (b % span_blocks) && t then None else place_of old b) (all-before (b % span_blocks) i (omega arith) past)

module _ (old xs : Places) (from i : ℕ) (so_far : IsTakenUpTo from i old xs) (below : i < span_blocks) (long : i < length xs) where
  at : i % span_blocks ≡ i
  at = omega (arith, below)

  -- what is there is what was there at first
  pub taken-found : (x : Option Block) → get_or xs i x ≡ place_of old i
  taken-found x =
      at-place xs xs i i x refl (sym at) long ∙ so_far i
      ∙ ap (λ k. if nat_le from k && nat_lt k i then None else place_of old i) at
      ∙ ap (λ (t : Bool). if t then None else place_of old i) (self-before from i)

  -- one place more
  pub taken-more : (y : Option Block) → y ≡ None → from ≤ i → IsTakenUpTo from (i + 1) old (set xs i y)
  taken-more y none after b = elim (cases_eq (b % span_blocks) i) [
    | inl e ↦ ap (λ j. get_or (set xs i y) j None) e ∙ get_or-set_same xs i y None long ∙ none
        ∙ sym (ap (λ k. if nat_le from k && nat_lt k (i + 1) then None else place_of old b) e
        ∙ ap (λ (t : Bool). if t then None else place_of old b) (self-after from i after))
    | inr other ↦ get_or-set_other xs i (b % span_blocks) y None other ∙ so_far b
        ∙ sym (ap (λ (t : Bool). if nat_le from (b % span_blocks) && t then None else place_of old b) (other-after (b % span_blocks) i other))
  ]
