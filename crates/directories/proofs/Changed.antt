-- An index after a name is added or removed.
use Rattle.std.proofs.Common.{◌≡◌, refl, sym, subst, ◌∙◌, ap, ℕ, zero, suc, ◌+◌, ◌≤◌, Bool, true, false, ◌==◌}
use Rattle.std.proofs.Common.{◌||◌, not, List, [], ◌∷◌, ◌++◌, length, take, drop, Option, Some, None, is_some, arith, if◌then◌else◌, length-append}
use Rattle.std.specs.List.{AllByRecursion, slice_get, filter, insert, remove}
use Rattle.std.specs.List.Sorted.{IsStrictlySortedBy}
use Rattle.std.specs.declared.cmp.Ordering.TheVariants.{Less, Equal, Greater}
use Rattle.std.proofs.lemmas.Bool.Decides.{nat_tests}
use Rattle.nfs_model.specs.Types.{Listed}
use Rattle.nfs_model.specs.Names.{without_name}
use Rattle.nfs_values.specs.declared.number.Cookie.{Cookie}
use Rattle.nfs_model.specs.volume.Directories.{DirectoryValue, Rises, found, added, removed, entry_added, empty_directory}
use Rattle.directories.specs.Entries.{under, has, without, dropped}
use Rattle.directories.specs.Index.{name_cmp, name_in, name_under, name_at, is_listed, IsIndex, IsIndexed, IsPosition, NamesRise}
use Rattle.directories.proofs.Orders.{with-itself, all-at, all-take, all-drop, all-agree, sorted-agree, sorted-insert, sorted-filter}
use Rattle.directories.proofs.Rising.{rises-push, rises-without, without-none}
use Rattle.directories.proofs.Names.{differ-push, differ-without, without-same}
use Rattle.directories.proofs.Found.{listed-here, name-here}

-- ---- an entry more

rises-top : (low : ℕ) (es : List Listed) (next : ℕ) → Rises low es next → low ≤ next
rises-top low [] next h = h
rises-top low (e ∷ es) next h = let r = rises-top (e.cookie + 1) es next h.1 in let a = h.0 in omega arith

pub none-at-next : (low : ℕ) (es : List Listed) (next : ℕ) → Rises low es next → has es next ≡ false
none-at-next low [] next h = refl
none-at-next low (e ∷ es) next h = let t = rises-top (e.cookie + 1) es next h.1 in let r = none-at-next (e.cookie + 1) es next h.1 in grind
    (arith, nat_tests, t, r)

pub has-push : (es : List Listed) (e : Listed) (k : ℕ) → has (es ++ e ∷ []) k ≡ (has es k || (e.cookie == k))
has-push [] e k = by (e.cookie == k)
  where
    by : (b : Bool) → is_some (if b then Some e else under k []) ≡ b
    by true = refl
    by false = refl
has-push (x ∷ es) e k = by (x.cookie == k) (has-push es e k)
  where
    by : (b : Bool) → has (es ++ e ∷ []) k ≡ (has es k || (e.cookie == k))
        → is_some (if b then Some x else under k (es ++ e ∷ [])) ≡ (is_some (if b then Some x else under k es) || (e.cookie == k))
    by true r = refl
    by false r = r

under-push : (es : List Listed) (e : Listed) (k : ℕ) → has es k ≡ true → under k (es ++ e ∷ []) ≡ under k es
under-push [] e k t = absurd (grind (arith, t))
under-push (x ∷ es) e k t = by (x.cookie == k) (under-push es e k) t
  where
    by : (b : Bool) → (has es k ≡ true → under k (es ++ e ∷ []) ≡ under k es) → is_some (if b then Some x else under k es) ≡ true
        → (if b then Some x else under k (es ++ e ∷ [])) ≡ (if b then Some x else under k es)
    by true r s = refl
    by false r s = r s

under-pushed : (es : List Listed) (e : Listed) (k : ℕ) → has es k ≡ false → e.cookie ≡ k → under k (es ++ e ∷ []) ≡ Some e
under-pushed [] e k t is = grind (arith, nat_tests)
under-pushed (x ∷ es) e k t is = by (x.cookie == k) (under-pushed es e k) t
  where
    by : (b : Bool) → (has es k ≡ false → e.cookie ≡ k → under k (es ++ e ∷ []) ≡ Some e) → is_some (if b then Some x else under k es) ≡ false
        → (if b then Some x else under k (es ++ e ∷ [])) ≡ Some e
    by true r s = absurd (grind (arith, s))
    by false r s = r s is

or-turned : (a b : Bool) → (a || b) ≡ (b || a)
or-turned true true = refl
or-turned true false = refl
or-turned false true = refl
or-turned false false = refl

listed-insert : (xs : List Cookie) (i : ℕ) (c : Cookie) (k : ℕ) → is_listed (insert xs i c) k ≡ (is_listed xs k || (c.0 == k))
listed-insert xs zero c k = or-turned (c.0 == k) (is_listed xs k)
listed-insert [] (suc i) c k = or-turned (c.0 == k) false
listed-insert (x ∷ xs) (suc i) c k = by (x.0 == k) (listed-insert xs i c k)
  where
    by : (b : Bool) → is_listed (insert xs i c) k ≡ (is_listed xs k || (c.0 == k))
        → (b || is_listed (insert xs i c) k) ≡ ((b || is_listed xs k) || (c.0 == k))
    by true r = refl
    by false r = r

length-insert : (xs : List Cookie) (i : ℕ) (c : Cookie) → length (insert xs i c) ≡ length xs + 1
length-insert xs zero c = omega arith
length-insert [] (suc i) c = refl
length-insert (x ∷ xs) (suc i) c = let r = length-insert xs i c in omega (arith, r)

all-known : (P : Cookie → Type 0) (xs : List Cookie) → ((c : Cookie) → is_listed xs c.0 ≡ true → P c) → AllByRecursion P xs
all-known P [] h = tt
all-known P (x ∷ xs) h = (h x (grind (arith, nat_tests)), all-known P xs (λ c t. h c (by (x.0 == c.0) (is_listed xs c.0) t)))
  where
    by : (a b : Bool) → b ≡ true → (a || b) ≡ true
    by true b t = refl
    by false b t = t

pub names-kept : (es : List Listed) (index : List Cookie) (e : Listed) → IsIndex es index
    → AllByRecursion (λ c. name_under (es ++ e ∷ []) c ≡ name_under es c) index
names-kept es index e x =
    all-known (λ c. name_under (es ++ e ∷ []) c ≡ name_under es c) index
    (λ c t. ap (λ (o : Option Listed). name_in o) (under-push es e c.0 (x.same c.0 ∙ t)))

-- the name of the entry that comes
pub name-added : (d : DirectoryValue) (index : List Cookie) (c : Cookie) (name : List ℕ) (fileid : ℕ) → IsIndexed d index → c.0 ≡ d.next
    → name_under (added name fileid d).list c ≡ name
name-added d index c name fileid x is =
    ap (λ (o : Option Listed). name_in o)
    (under-pushed d.list (entry_added name fileid d) c.0
    (subst (λ k. has d.list k ≡ false) (sym is) (none-at-next 3 d.list d.next x.directory.cookies)) (sym is))

index-added : (d : DirectoryValue) (index : List Cookie) (position : ℕ) (c : Cookie) (name : List ℕ) (fileid : ℕ) → IsIndexed d index
    → IsPosition d index name position
    → c.0 ≡ d.next → IsIndex (added name fileid d).list (insert index position c)
index-added d index position c name fileid x p is =
    let e = entry_added name fileid d in
    let f = name_under d.list in
    let g = name_under (d.list ++ e ∷ []) in
    let kept = names-kept d.list index e x.index in
    let here : g c ≡ name = name-added d index c name fileid x is in
    let agrees = λ (y : Cookie). g y ≡ f y in
    record {
      count = let i = length-insert index position c in let l = length-append d.list (e ∷ []) in let s = x.index.count in omega (arith, i, l, s);
      same = λ k. has-push d.list e k
          ∙ (ap (λ b. b || (e.cookie == k)) (x.index.same k) ∙ (ap (λ n. is_listed index k || (n == k)) (sym is) ∙ sym (listed-insert index position c k)));
      sorted =
          sorted-insert g index position c name (sorted-agree f g index kept x.index.sorted) here
          (all-agree f g (take position index) name Less (all-take agrees index position kept) p.before)
          (all-agree f g (drop position index) name Greater (all-drop agrees index position kept) p.after);
    }

pub indexed-added : (d : DirectoryValue) (index : List Cookie) (position : ℕ) (c : Cookie) (name : List ℕ) (fileid : ℕ) → IsIndexed d index
    → IsPosition d index name position → found d name ≡ None → c.0 ≡ d.next → IsIndexed (added name fileid d) (insert index position c)
indexed-added d index position c name fileid x p f is = record {
  directory = record {
    cookies = rises-push 3 d.list d.next (entry_added name fileid d) refl x.directory.cookies;
    names = differ-push d.list (entry_added name fileid d) x.directory.names f;
  };
  index = index-added d index position c name fileid x p is;
}

pub indexed-empty : IsIndexed empty_directory []
unfolding IsStrictlySortedBy
indexed-empty = record { directory = record { cookies = omega arith; names = tt }; index = record { count = refl; same = λ k. refl; sorted = tt } }

-- ---- an entry less

abbrev index_without : ℕ → List Cookie → List Cookie
index_without k xs = filter (λ (c : Cookie). not (c.0 == k)) xs

different : (es : List Listed) (x y : Cookie) → name_cmp (name_under es x) (name_under es y) ≡ Less → (x.0 == y.0) ≡ false
different es x y l = by (x.0 == y.0) refl
  where
    by : (b : Bool) → b ≡ (x.0 == y.0) → b ≡ false
    by true p =
        let same : x.0 ≡ y.0 = grind (arith, nat_tests, p) in
        let names : name_under es x ≡ name_under es y = ap (λ k. name_in (under k es)) same in
        let e : Less ≡ Equal = sym l ∙ (ap (λ n. name_cmp n (name_under es y)) names ∙ with-itself (name_under es y)) in absurd (grind (arith, e))
    by false p = refl

index-kept : (es : List Listed) (x : Cookie) (xs : List Cookie) → AllByRecursion (λ y. name_cmp (name_under es x) (name_under es y) ≡ Less) xs
    → index_without x.0 xs ≡ xs
index-kept es x [] a = refl
index-kept es x (y ∷ xs) a =
    let o : (y.0 == x.0) ≡ false = (let d = different es x y a.0 in grind (arith, nat_tests, d)) in rw o (ap (λ l. y ∷ l) (index-kept es x xs a.1))

pub index-removed : (es : List Listed) (xs : List Cookie) (i : ℕ) (c : Cookie) → NamesRise es xs → slice_get xs i ≡ Some c → remove xs i ≡ index_without c.0 xs
unfolding IsStrictlySortedBy
index-removed es [] i c s g = absurd (grind (arith, g))
index-removed es (x ∷ xs) zero c s g =
    let same : x ≡ c = grind (arith, g) in
    let kept = index-kept es x xs s.0 in
    subst (λ (y : Cookie). xs ≡ index_without y.0 (x ∷ xs)) same (let self : (x.0 == x.0) ≡ true = grind (arith, nat_tests) in rw self (sym kept))
index-removed es (x ∷ xs) (suc i) c s g =
    let o = different es x c (all-at (λ y. name_cmp (name_under es x) (name_under es y) ≡ Less) xs i c s.0 g) in
    rw o (ap (λ l. x ∷ l) (index-removed es xs i c s.1 g))

length-removed : (xs : List Cookie) (i : ℕ) (c : Cookie) → slice_get xs i ≡ Some c → length (remove xs i) + 1 ≡ length xs
length-removed [] i c g = absurd (grind (arith, g))
length-removed (x ∷ xs) zero c g = omega arith
length-removed (x ∷ xs) (suc i) c g = let r = length-removed xs i c g in omega (arith, r)

length-without : (low : ℕ) (es : List Listed) (next k : ℕ) → Rises low es next → has es k ≡ true → length (without k es) + 1 ≡ length es
length-without low [] next k h t = absurd (grind (arith, t))
length-without low (e ∷ es) next k h t = by (e.cookie == k) refl (length-without (e.cookie + 1) es next k h.1) t
  where
    by : (b : Bool) → b ≡ (e.cookie == k) → (has es k ≡ true → length (without k es) + 1 ≡ length es) → is_some (if b then Some e else under k es) ≡ true
        → length (if not b then e ∷ without k es else without k es) + 1 ≡ length (e ∷ es)
    by true p r s =
        let here : e.cookie ≡ k = grind (arith, nat_tests, p) in
        let kept = ap (λ (l : List Listed). length l) (without-none (e.cookie + 1) es next k h.1 (omega (arith, here))) in omega (arith, kept)
    by false p r s = let l = r s in omega (arith, l)

has-without : (es : List Listed) (k q : ℕ) → has (without k es) q ≡ (if q == k then false else has es q)
has-without [] k q = by (q == k)
  where
    by : (b : Bool) → false ≡ (if b then false else false)
    by true = refl
    by false = refl
has-without (x ∷ es) k q = by (x.cookie == k) refl (x.cookie == q) refl (q == k) refl (has-without es k q)
  where
    by : (a : Bool) → a ≡ (x.cookie == k) → (b : Bool) → b ≡ (x.cookie == q) → (c : Bool) → c ≡ (q == k)
        → has (without k es) q ≡ (if q == k then false else has es q)
        → has (if not a then x ∷ without k es else without k es) q ≡ (if c then false else is_some (if b then Some x else under q es))
    by true p true s true u r = rw (← u) at r
    by true p false s true u r = rw (← u) at r
    by true p true s false u r = absurd (grind (arith, nat_tests, p, s, u))
    by true p false s false u r = rw (← u) at r
    by false p true s true u r = absurd (grind (arith, nat_tests, p, s, u))
    by false p true s false u r = rw (← s) refl
    by false p false s true u r = rw (← s) (rw (← u) at r)
    by false p false s false u r = rw (← s) (rw (← u) at r)

listed-without : (xs : List Cookie) (k q : ℕ) → is_listed (index_without k xs) q ≡ (if q == k then false else is_listed xs q)
listed-without [] k q = by (q == k)
  where
    by : (b : Bool) → false ≡ (if b then false else false)
    by true = refl
    by false = refl
listed-without (x ∷ xs) k q = by (x.0 == k) refl (x.0 == q) refl (q == k) refl (listed-without xs k q)
  where
    by : (a : Bool) → a ≡ (x.0 == k) → (b : Bool) → b ≡ (x.0 == q) → (c : Bool) → c ≡ (q == k)
        → is_listed (index_without k xs) q ≡ (if q == k then false else is_listed xs q)
        → is_listed (if not a then x ∷ index_without k xs else index_without k xs) q ≡ (if c then false else (b || is_listed xs q))
    by true p true s true u r = rw (← u) at r
    by true p false s true u r = rw (← u) at r
    by true p true s false u r = absurd (grind (arith, nat_tests, p, s, u))
    by true p false s false u r = rw (← u) at r
    by false p true s true u r = absurd (grind (arith, nat_tests, p, s, u))
    by false p true s false u r = rw (← s) refl
    by false p false s true u r = rw (← s) (rw (← u) at r)
    by false p false s false u r = rw (← s) (rw (← u) at r)

under-without : (es : List Listed) (k q : ℕ) → (q == k) ≡ false → under q (without k es) ≡ under q es
under-without [] k q o = refl
under-without (x ∷ es) k q o = by (x.cookie == k) refl (x.cookie == q) refl (under-without es k q o)
  where
    by : (a : Bool) → a ≡ (x.cookie == k) → (b : Bool) → b ≡ (x.cookie == q) → under q (without k es) ≡ under q es
        → under q (if not a then x ∷ without k es else without k es) ≡ (if b then Some x else under q es)
    by true p true s r = absurd (grind (arith, nat_tests, p, s, o))
    by true p false s r = r
    by false p true s r = rw (← s) refl
    by false p false s r = rw (← s) r

pub names-left : (es : List Listed) (k : ℕ) (xs : List Cookie) → AllByRecursion (λ c. name_under (without k es) c ≡ name_under es c) (index_without k xs)
names-left es k [] = tt
names-left es k (x ∷ xs) = by (x.0 == k) refl (names-left es k xs)
  where
    by : (b : Bool) → b ≡ (x.0 == k) → AllByRecursion (λ c. name_under (without k es) c ≡ name_under es c) (index_without k xs)
        → AllByRecursion (λ c. name_under (without k es) c ≡ name_under es c) (if not b then x ∷ index_without k xs else index_without k xs)
    by true p r = r
    by false p r = (ap (λ (o : Option Listed). name_in o) (under-without es k x.0 (sym p)), r)

pub indexed-dropped : (d : DirectoryValue) (index : List Cookie) (position : ℕ) (c : Cookie) → IsIndexed d index → slice_get index position ≡ Some c
    → IsIndexed (dropped c.0 d) (remove index position)
indexed-dropped d index position c x g =
    let gone = index-removed d.list index position c x.index.sorted g in
    let there : has d.list c.0 ≡ true = x.index.same c.0 ∙ listed-here index position c g in
    record {
      directory = record { cookies = rises-without 3 d.list d.next c.0 x.directory.cookies; names = differ-without d.list c.0 x.directory.names };
      index = record {
        count =
            let a = length-removed index position c g in let b = length-without 3 d.list d.next c.0 x.directory.cookies there in let s = x.index.count in
            omega (arith, a, b, s);
        same = λ q. has-without d.list c.0 q
            ∙ (ap (λ b. if q == c.0 then false else b) (x.index.same q) ∙ (sym (listed-without index c.0 q) ∙ ap (λ l. is_listed l q) (sym gone)));
        sorted =
            subst (λ l. NamesRise (without c.0 d.list) l) (sym gone)
            (sorted-agree (name_under d.list) (name_under (without c.0 d.list)) (index_without c.0 index) (names-left d.list c.0 index)
            (sorted-filter (name_under d.list) (λ (y : Cookie). not (y.0 == c.0)) index x.index.sorted));
      };
    }

-- the entry of a name is the one that is dropped
pub dropped-removed : (d : DirectoryValue) (index : List Cookie) (position : ℕ) (c : Cookie) (name : List ℕ) → IsIndexed d index
    → name_at d.list index position ≡ Some name
    → slice_get index position ≡ Some c → dropped c.0 d ≡ removed name d
dropped-removed d index position c name x n g = by (under c.0 d.list) refl
  where
    there : has d.list c.0 ≡ true
    there = x.index.same c.0 ∙ listed-here index position c g

    by : (o : Option Listed) → o ≡ under c.0 d.list → dropped c.0 d ≡ removed name d
    by None p = absurd (grind (arith, p, there))
    by (Some e) p =
        let is : e.name ≡ name = name-here d.list index position c e name n g (sym p) in
        let same = without-same 3 d.list d.next c.0 e x.directory.cookies x.directory.names (sym p) in
        ap (λ (l : List Listed). record d { list = l }) (same ∙ ap (λ m. without_name m d.list) is)
