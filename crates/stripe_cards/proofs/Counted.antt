-- Touches stay counted, whatever is done to the cards.
use Rattle.std.proofs.Common.{◌≡◌, refl, sym, ap, ◌∙◌, ℕ, ◌+◌, ◌-◌, ◌%◌, ◌<◌, ◌≤◌, ◌==◌, ◌&&◌, Bool, true, false, cond, List, [], ◌∷◌, length}
use Rattle.std.proofs.Common.{Option, Some, None, is_some, get_or, nat_lt, if◌then◌else◌, eq-eqb, arith}
use Rattle.std.proofs.Common.{replicate}
use Rattle.std.proofs.lemmas.Bool.Decides.{nat_tests}
use Rattle.std.proofs.lemmas.List.{length-replicate}
use Rattle.std.specs.declared.cmp.Ordering.{Ordering}
use Rattle.std.specs.declared.cmp.Ordering.TheVariants.{Less, Equal, Greater}
use Rattle.std.specs.Ordering.{nat_cmp, is_eq}
use Rattle.std.specs.Cmp.{nat_cmp_total}
use Rattle.std.specs.FinMap.{FinMap, empty, get, insert, remove, entries, len, find, put, get-entries, entries-insert, len-entries, len-empty}
use Rattle.std.specs.FinMap.Entries.{by_order}
use Rattle.nfs_model.specs.Types.{Moment, Ownership}
use Rattle.nfs_model.specs.volume.Maps.{changed_value, changed_at}
use Rattle.nfs_model.specs.volume.lemmas.Numbered.{insert-same, insert-removed, removed-absent, remove-absent}
use Rattle.nfs_model.specs.volume.Stripes.{Card, OfFile, OfDirectory, touch_of, card_touched, card_settled, card_sized, card_owned}
use Rattle.chunk_maps.specs.Chunks.{one_if}
use Rattle.stripe_cards.specs.Counts.{is_untouched, touches_on, touched_in, AreCounted, one_more, one_less, ChangesCount}

-- ---- the touches of a class

past : (a b c d : ℕ) → b ≡ c + d → a + b ≡ c + (a + d)
past a b c d h = omega (arith, h)

never : (b : Bool) → one_if (b && false) ≡ 0
never true = refl
never false = refl

module _ (class : ℕ) where
  put-one : (k : ℕ) (x : Card) (es : List (ℕ × Card)) → find nat_cmp k es ≡ None
      → touched_in class (put nat_cmp k x es) ≡ touches_on class k (Some x) + touched_in class es
  put-one k x [] h = refl
  put-one k x (e ∷ es) h = by (nat_cmp k e.0) (put-one k x es) h
    where
      by : (r : Ordering) → (find nat_cmp k es ≡ None → touched_in class (put nat_cmp k x es) ≡ touches_on class k (Some x) + touched_in class es)
          → cond (is_eq r) (Some e.1) (find nat_cmp k es) ≡ None
          → touched_in class (by_order r ((k, x) ∷ e ∷ es) ((e.0, x) ∷ es) (e ∷ put nat_cmp k x es))
          ≡ touches_on class k (Some x) + (touches_on class e.0 (Some e.1) + touched_in class es)
      by Less rest g = refl
      by Equal rest g = absurd (grind (arith, g))
      by Greater rest g =
          past (touches_on class e.0 (Some e.1)) (touched_in class (put nat_cmp k x es)) (touches_on class k (Some x)) (touched_in class es) (rest g)

  insert-one : (m : FinMap nat_cmp Card) (k : ℕ) (x : Card) → get m k ≡ None
      → touched_in class (entries (insert m k x)) ≡ touches_on class k (Some x) + touched_in class (entries m)
  insert-one m k x h = ap (touched_in class) (entries-insert nat_cmp_total m k x) ∙ put-one k x (entries m) (sym (get-entries m k) ∙ h)

  -- a card in place of whatever was there
  set-one : (m : FinMap nat_cmp Card) (k : ℕ) (x : Card)
      → touched_in class (entries (insert m k x)) ≡ touches_on class k (Some x) + touched_in class (entries (remove m k))
  set-one m k x = ap (λ n. touched_in class (entries n)) (sym (insert-removed m k x)) ∙ insert-one (remove m k) k x (removed-absent m k)

  -- the touch of a fileid, and all others
  split-one : (m : FinMap nat_cmp Card) (k : ℕ)
      → touched_in class (entries m) ≡ touches_on class k (get m k) + touched_in class (entries (remove m k))
  split-one m k = by (get m k) refl
    where
      by : (o : Option Card) → get m k ≡ o → touched_in class (entries m) ≡ touches_on class k o + touched_in class (entries (remove m k))
      by None h =
          let none = never (class == k % 256) in
          let same = ap (λ n. touched_in class (entries n)) (remove-absent m k h) in omega (arith, none, same)
      by (Some x) h = ap (λ n. touched_in class (entries n)) (sym (insert-same m k x h)) ∙ set-one m k x

-- where a fileid has a touch its class has one
touch-counted : (m : FinMap nat_cmp Card) (k : ℕ) → touched_in (k % 256) (entries m) ≤ 0 → is_some (touch_of (get m k)) ≡ false
touch-counted m k none = by (is_some (touch_of (get m k))) refl
  where
    by : (b : Bool) → is_some (touch_of (get m k)) ≡ b → b ≡ false
    by false is = refl
    by true is =
        let split = split-one (k % 256) m k in
        let one : touches_on (k % 256) k (get m k) ≡ 1 = rw (eq-eqb (k % 256) (k % 256) refl, is) refl in absurd (omega (arith, split, one, none))

-- where a class has no touch, none of its fileids has
pub no-touch : (counts : List ℕ) (m : FinMap nat_cmp Card) (k : ℕ) → AreCounted counts m → get_or counts (k % 256) 0 ≡ 0 → touch_of (get m k) ≡ None
no-touch counts m k a zero =
    let most = a.most (k % 256) (omega arith) (omega (arith, zero)) in none (touch_of (get m k)) (touch-counted m k (omega (arith, most, zero)))
  where
    none : (o : Option Moment) → is_some o ≡ false → o ≡ None
    none None e = refl
    none (Some t) e = absurd (grind (arith, e))

no-entries : (es : List (ℕ × Card)) → length es ≡ 0 → es ≡ []
no-entries [] e = refl
no-entries (x ∷ es) e = absurd (omega (arith, e))

pub none-counted : (m : FinMap nat_cmp Card) → m ≡ empty → AreCounted (replicate 256 0) m
none-counted m is = record {
  size = length-replicate {A = ℕ} 256 0;
  most = λ class within below.
      let es = no-entries (entries m) (sym (len-entries m) ∙ ap (λ n. len n) is ∙ len-empty nat_cmp Card) in
      let none : touched_in class (entries m) ≡ 0 = ap (touched_in class) es in omega (arith, none);
}

-- what has no touch is settled
pub settled-none : (m : FinMap nat_cmp Card) (k : ℕ) → touch_of (get m k) ≡ None → m ≡ changed_at card_settled k m
settled-none m k none = by (get m k) refl none
  where
    by : (o : Option Card) → get m k ≡ o → touch_of o ≡ None → m ≡ changed_value card_settled o k m
    by None h e = refl
    by (Some OfDirectory) h e = sym (insert-same m k OfDirectory h)
    by (Some (OfFile size None owner)) h e = sym (insert-same m k (OfFile size None owner) h)
    by (Some (OfFile size (Some t) owner)) h e = absurd (grind (arith, e))

-- ---- counts

more-below : (old new touched : ℕ) → new ≡ one_more old → new < 255 → (old < 255 → touched ≤ old) → touched + 1 ≤ new
more-below old new touched is below most = by (nat_lt old 255) refl is
  where
    by : (b : Bool) → nat_lt old 255 ≡ b → new ≡ (if b then old + 1 else old) → touched + 1 ≤ new
    by true e h = let l = most (grind (arith, nat_tests, e)) in omega (arith, h, l)
    by false e h = absurd (grind (arith, nat_tests, e, h, below))

less-below : (old new touched left : ℕ) → new ≡ one_less old → new < 255 → (old < 255 → touched ≤ old) → left + 1 ≤ touched → left ≤ new
less-below old new touched left is below most fewer = by (nat_lt old 255) refl is
  where
    by : (b : Bool) → nat_lt old 255 ≡ b → new ≡ (if b then old - 1 else old) → left ≤ new
    by true e h = let l = most (grind (arith, nat_tests, e)) in omega (arith, h, l, fewer)
    by false e h = absurd (grind (arith, nat_tests, e, h, below))

module _ (counts : List ℕ) (m n : FinMap nat_cmp Card) where
  no-more : AreCounted counts m → ((class : ℕ) → touched_in class (entries n) ≤ touched_in class (entries m)) → AreCounted counts n
  no-more a less = record {
    size = a.size;
    most = λ class within below. let most = a.most class within below in let l = less class in omega (arith, most, l);
  }

  module _ (new : List ℕ) (k : ℕ) where
    up : ChangesCount one_more k counts new → ((class : ℕ) → touched_in class (entries n) ≤ touched_in class (entries m) + one_if (class == k))
        → AreCounted counts m → AreCounted new n
    up c more a = record { size = c.size ∙ a.size; most = λ class within below. by class (class == k) within below (c.counts class) (more class) }
      where
        by : (class : ℕ) (b : Bool) → class < 256 → get_or new class 0 < 255
            → get_or new class 0 ≡ (if b then one_more (get_or counts class 0) else get_or counts class 0)
            → touched_in class (entries n) ≤ touched_in class (entries m) + one_if b → touched_in class (entries n) ≤ get_or new class 0
        by class true within below is l =
            let one = more-below (get_or counts class 0) (get_or new class 0) (touched_in class (entries m)) is below (a.most class within) in
            omega (arith, one, l)
        by class false within below is l = let most = a.most class within (omega (arith, is, below)) in omega (arith, is, most, l)

    down : ChangesCount one_less k counts new
        → ((class : ℕ) → touched_in class (entries n) + one_if (class == k) ≤ touched_in class (entries m)) → AreCounted counts m → AreCounted new n
    down c fewer a = record { size = c.size ∙ a.size; most = λ class within below. by class (class == k) within below (c.counts class) (fewer class) }
      where
        by : (class : ℕ) (b : Bool) → class < 256 → get_or new class 0 < 255
            → get_or new class 0 ≡ (if b then one_less (get_or counts class 0) else get_or counts class 0)
            → touched_in class (entries n) + one_if b ≤ touched_in class (entries m) → touched_in class (entries n) ≤ get_or new class 0
        by class true within below is l =
            less-below (get_or counts class 0) (get_or new class 0) (touched_in class (entries m)) (touched_in class (entries n)) is below
            (a.most class within) l
        by class false within below is l = let most = a.most class within (omega (arith, is, below)) in omega (arith, is, most, l)

-- ---- cards that change

at-most : (b c : Bool) → one_if (b && c) ≤ one_if b
at-most true true = omega arith
at-most true false = omega arith
at-most false c = omega arith

module _ (counts : List ℕ) (m : FinMap nat_cmp Card) (k : ℕ) where
  -- a card that has the touch which was there
  pub counted-set : (x : Card) → touch_of (Some x) ≡ touch_of (get m k) → AreCounted counts m → AreCounted counts (insert m k x)
  counted-set x same a =
      no-more counts m (insert m k x) a (λ class.
      let set = set-one class m k x in
      let split = split-one class m k in
      let one : touches_on class k (Some x) ≡ touches_on class k (get m k) = ap (λ t. one_if ((class == k % 256) && is_some t)) same in
      omega (arith, set, split, one))

  pub counted-directory : AreCounted counts m → AreCounted counts (insert m k OfDirectory)
  counted-directory a =
      no-more counts m (insert m k OfDirectory) a (λ class.
      let set = set-one class m k OfDirectory in
      let split = split-one class m k in
      let one = never (class == k % 256) in omega (arith, set, split, one))

  pub counted-sized : (size : ℕ) → AreCounted counts m → AreCounted counts (changed_at (card_sized size) k m)
  counted-sized size a = by (get m k) refl
    where
      by : (o : Option Card) → get m k ≡ o → AreCounted counts (changed_value (card_sized size) o k m)
      by None h = a
      by (Some OfDirectory) h = counted-directory a
      by (Some (OfFile old touch owner)) h = counted-set (OfFile size touch owner) (ap touch_of (sym h)) a

  pub counted-owned : (owner : Ownership) → AreCounted counts m → AreCounted counts (changed_at (card_owned owner) k m)
  counted-owned owner a = by (get m k) refl
    where
      by : (o : Option Card) → get m k ≡ o → AreCounted counts (changed_value (card_owned owner) o k m)
      by None h = a
      by (Some OfDirectory) h = counted-directory a
      by (Some (OfFile size touch old)) h = counted-set (OfFile size touch owner) (ap touch_of (sym h)) a

  module _ (moment : Moment) where
    touched-more : (class : ℕ) → touched_in class (entries (changed_at (card_touched moment) k m)) ≤ touched_in class (entries m) + one_if (class == k % 256)
    touched-more class = by (get m k) refl (split-one class m k)
      where
        by : (o : Option Card) → get m k ≡ o → touched_in class (entries m) ≡ touches_on class k o + touched_in class (entries (remove m k))
            → touched_in class (entries (changed_value (card_touched moment) o k m)) ≤ touched_in class (entries m) + one_if (class == k % 256)
        by None h split = omega arith
        by (Some x) h split =
            let set = set-one class m k (card_touched moment x) in
            let most = at-most (class == k % 256) (is_some (touch_of (Some (card_touched moment x)))) in omega (arith, set, split, most)

    touched-same : is_untouched (get m k) ≡ false → (class : ℕ)
        → touched_in class (entries (changed_at (card_touched moment) k m)) ≤ touched_in class (entries m)
    touched-same not-first class = by (get m k) not-first (split-one class m k)
      where
        by : (o : Option Card) → is_untouched o ≡ false → touched_in class (entries m) ≡ touches_on class k o + touched_in class (entries (remove m k))
            → touched_in class (entries (changed_value (card_touched moment) o k m)) ≤ touched_in class (entries m)
        by None f split = omega arith
        by (Some OfDirectory) f split = let set = set-one class m k OfDirectory in omega (arith, set, split)
        by (Some (OfFile size None owner)) f split = absurd (grind (arith, f))
        by (Some (OfFile size (Some t) owner)) f split =
            let set = set-one class m k (card_touched moment (OfFile size (Some t) owner)) in omega (arith, set, split)

    pub counted-touched : is_untouched (get m k) ≡ false → AreCounted counts m → AreCounted counts (changed_at (card_touched moment) k m)
    counted-touched not-first a = no-more counts m (changed_at (card_touched moment) k m) a (touched-same not-first)

    pub counted-up : (new : List ℕ) → ChangesCount one_more (k % 256) counts new → AreCounted counts m
        → AreCounted new (changed_at (card_touched moment) k m)
    counted-up new c a = up counts m (changed_at (card_touched moment) k m) new (k % 256) c touched-more a

  settled-less : (class : ℕ) → touched_in class (entries (changed_at card_settled k m)) + touches_on class k (get m k) ≤ touched_in class (entries m)
  settled-less class = by (get m k) refl (split-one class m k)
    where
      by : (o : Option Card) → get m k ≡ o → touched_in class (entries m) ≡ touches_on class k o + touched_in class (entries (remove m k))
          → touched_in class (entries (changed_value card_settled o k m)) + touches_on class k o ≤ touched_in class (entries m)
      by None h split = let none = never (class == k % 256) in omega (arith, none)
      by (Some OfDirectory) h split =
          let none = never (class == k % 256) in
          let set = set-one class m k OfDirectory in omega (arith, set, split, none)
      by (Some (OfFile size touch owner)) h split =
          let none = never (class == k % 256) in
          let set = set-one class m k (OfFile size None owner) in omega (arith, set, split, none)

  removed-less : (class : ℕ) → touched_in class (entries (remove m k)) + touches_on class k (get m k) ≤ touched_in class (entries m)
  removed-less class = let split = split-one class m k in omega (arith, split)

  one-less : (n : FinMap nat_cmp Card) → is_some (touch_of (get m k)) ≡ true
      → ((class : ℕ) → touched_in class (entries n) + touches_on class k (get m k) ≤ touched_in class (entries m))
      → (class : ℕ) → touched_in class (entries n) + one_if (class == k % 256) ≤ touched_in class (entries m)
  one-less n there less class =
      let l = less class in
      let one : touches_on class k (get m k) ≡ one_if (class == k % 256) = ap (λ b. one_if ((class == k % 256) && b)) there ∙ with-true (class == k % 256) in
      omega (arith, l, one)
    where
      with-true : (b : Bool) → one_if (b && true) ≡ one_if b
      with-true true = refl
      with-true false = refl

  pub counted-settled : AreCounted counts m → AreCounted counts (changed_at card_settled k m)
  counted-settled a = no-more counts m (changed_at card_settled k m) a (λ class. let l = settled-less class in omega (arith, l))

  pub counted-settled-down : (new : List ℕ) → is_some (touch_of (get m k)) ≡ true → ChangesCount one_less (k % 256) counts new → AreCounted counts m
      → AreCounted new (changed_at card_settled k m)
  counted-settled-down new there c a =
      down counts m (changed_at card_settled k m) new (k % 256) c (one-less (changed_at card_settled k m) there settled-less) a

  pub counted-removed : AreCounted counts m → AreCounted counts (remove m k)
  counted-removed a = no-more counts m (remove m k) a (λ class. let l = removed-less class in omega (arith, l))

  pub counted-removed-down : (new : List ℕ) → is_some (touch_of (get m k)) ≡ true → ChangesCount one_less (k % 256) counts new → AreCounted counts m
      → AreCounted new (remove m k)
  counted-removed-down new there c a = down counts m (remove m k) new (k % 256) c (one-less (remove m k) there removed-less) a
