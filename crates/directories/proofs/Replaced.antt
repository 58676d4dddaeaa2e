-- An index after an entry takes the place of another.
use Rattle.std.proofs.Common.{◌≡◌, refl, sym, subst, ◌∙◌, ap, ℕ, zero, suc, ◌<◌, Bool, true, false, ◌==◌, ◌||◌}
use Rattle.std.proofs.Common.{not, List, [], ◌∷◌, ◌++◌, length, take, drop, Some, slice_set, arith, if◌then◌else◌}
use Rattle.std.specs.List.{AllByRecursion, slice_get, insert, remove}
use Rattle.std.specs.List.Sorted.{IsStrictlySortedBy}
use Rattle.std.specs.Ordering.{on}
use Rattle.std.specs.declared.cmp.Ordering.TheVariants.{Less, Greater}
use Rattle.std.proofs.lemmas.Bool.Decides.{nat_tests}
use Rattle.nfs_model.specs.Types.{Listed}
use Rattle.nfs_values.specs.declared.number.Cookie.{Cookie}
use Rattle.nfs_model.specs.volume.Directories.{DirectoryValue, added, removed, entry_added}
use Rattle.directories.specs.Entries.{has, without, dropped}
use Rattle.directories.specs.Index.{name_cmp, name_under, name_at, IsIndexed, IsPosition}
use Rattle.directories.proofs.Orders.{turned-greater, all-at, all-take, all-drop, all-so, all-agree}
use Rattle.directories.proofs.Found.{found-nowhere, known-here}
use Rattle.directories.proofs.Changed.{has-push, none-at-next, names-left, index-removed, indexed-added, dropped-removed}
use Rattle.directories.proofs.Called.{still-indexed}

-- ---- a list with one element set

taken-of-removed : (xs : List Cookie) (i : ℕ) → take i (remove xs i) ≡ take i xs
taken-of-removed [] zero = refl
taken-of-removed [] (suc i) = refl
taken-of-removed (x ∷ xs) zero = refl
taken-of-removed (x ∷ xs) (suc i) = ap (λ l. x ∷ l) (taken-of-removed xs i)

dropped-of-removed : (xs : List Cookie) (i : ℕ) → drop i (remove xs i) ≡ drop (suc i) xs
dropped-of-removed [] zero = refl
dropped-of-removed [] (suc i) = refl
dropped-of-removed (x ∷ xs) zero = refl
dropped-of-removed (x ∷ xs) (suc i) = dropped-of-removed xs i

pub set-is : {K : Type 0} (xs : List K) (i : ℕ) (c : K) → i < length xs → slice_set xs i c ≡ insert (remove xs i) i c
set-is [] i c l = absurd (omega (arith, l))
set-is (x ∷ xs) zero c l = refl
set-is (x ∷ xs) (suc i) c l = ap (λ l. x ∷ l) (set-is xs i c (omega (arith, l)))

-- ---- what stands about an element of a sorted list

module _ (f : Cookie → List ℕ) where
  before-it : (xs : List Cookie) (i : ℕ) (x : Cookie) → IsStrictlySortedBy (on f name_cmp) xs → slice_get xs i ≡ Some x
      → AllByRecursion (λ y. name_cmp (f y) (f x) ≡ Less) (take i xs)
  unfolding IsStrictlySortedBy
  before-it [] i x s g = absurd (grind (arith, g))
  before-it (y ∷ xs) zero x s g = tt
  before-it (y ∷ xs) (suc i) x s g = (all-at (λ z. name_cmp (f y) (f z) ≡ Less) xs i x s.0 g, before-it xs i x s.1 g)

  after-it : (xs : List Cookie) (i : ℕ) (x : Cookie) → IsStrictlySortedBy (on f name_cmp) xs → slice_get xs i ≡ Some x
      → AllByRecursion (λ y. name_cmp (f y) (f x) ≡ Greater) (drop (suc i) xs)
  unfolding IsStrictlySortedBy
  after-it [] i x s g = absurd (grind (arith, g))
  after-it (y ∷ xs) zero x s g =
      let same : y ≡ x = grind (arith, g) in
      subst (λ w. AllByRecursion (λ z. name_cmp (f z) (f w) ≡ Greater) xs) same
      (all-so (λ z. name_cmp (f y) (f z) ≡ Less) (λ z. name_cmp (f z) (f y) ≡ Greater) (λ z p. turned-greater (f y) (f z) p) xs s.0)
  after-it (y ∷ xs) (suc i) x s g = after-it xs i x s.1 g

-- the name at a position of an index
pub name-there : (es : List Listed) (index : List Cookie) (position : ℕ) (c : Cookie) (name : List ℕ) → name_at es index position ≡ Some name
    → slice_get index position ≡ Some c → name_under es c ≡ name
name-there es [] position c name n g = absurd (grind (arith, g))
name-there es (x ∷ index) zero c name n g =
    let same : x ≡ c = grind (arith, g) in let there : name_under es x ≡ name = grind (arith, n) in
    ap (λ (y : Cookie). name_under es y) (sym same) ∙ there
name-there es (x ∷ index) (suc position) c name n g = name-there es index position c name n g

-- where its entry is dropped, a name belongs where it was
position-left : (d : DirectoryValue) (index : List Cookie) (position : ℕ) (c : Cookie) (name : List ℕ) → IsIndexed d index
    → name_at d.list index position ≡ Some name → slice_get index position ≡ Some c → IsPosition (dropped c.0 d) (remove index position) name position
position-left d index position c name x n g = record {
  before = all-agree f h (take position rest) name Less (all-take agrees rest position kept)
      (subst (λ l. AllByRecursion (λ y. name_cmp (f y) name ≡ Less) l) (sym (taken-of-removed index position))
      (subst (λ m. AllByRecursion (λ y. name_cmp (f y) m ≡ Less) (take position index)) named (before-it f index position c x.index.sorted g)));
  after = all-agree f h (drop position rest) name Greater (all-drop agrees rest position kept)
      (subst (λ l. AllByRecursion (λ y. name_cmp (f y) name ≡ Greater) l) (sym (dropped-of-removed index position))
      (subst (λ m. AllByRecursion (λ y. name_cmp (f y) m ≡ Greater) (drop (suc position) index)) named (after-it f index position c x.index.sorted g)));
}
  where
    rest : List Cookie
    rest = remove index position

    f : Cookie → List ℕ
    f = name_under d.list

    h : Cookie → List ℕ
    h = name_under (without c.0 d.list)

    agrees : Cookie → Type 0
    agrees y = h y ≡ f y

    named : f c ≡ name
    named = name-there d.list index position c name n g

    kept : AllByRecursion agrees rest
    kept = subst (λ l. AllByRecursion agrees l) (sym (index-removed d.list index position c x.index.sorted g)) (names-left d.list c.0 index)

-- ---- an entry replaced

without-push : (es : List Listed) (e : Listed) (k : ℕ) → (e.cookie == k) ≡ false → without k (es ++ e ∷ []) ≡ without k es ++ e ∷ []
without-push [] e k o = rw o refl
without-push (x ∷ es) e k o = by (x.cookie == k) (without-push es e k o)
  where
    by : (b : Bool) → without k (es ++ e ∷ []) ≡ without k es ++ e ∷ []
        → (if not b then x ∷ without k (es ++ e ∷ []) else without k (es ++ e ∷ [])) ≡ (if not b then x ∷ without k es else without k es) ++ e ∷ []
    by true r = r
    by false r = ap (λ l. x ∷ l) r

-- a cookie that has an entry isn't the next one
not-next : (d : DirectoryValue) (index : List Cookie) (k : ℕ) → IsIndexed d index → has d.list k ≡ true → (d.next == k) ≡ false
not-next d index k x t = by (d.next == k) refl
  where
    by : (b : Bool) → b ≡ (d.next == k) → b ≡ false
    by true p =
        let same : d.next ≡ k = grind (arith, nat_tests, p) in
        let none = none-at-next 3 d.list d.next x.directory.cookies in
        let there = subst (λ q. has d.list q ≡ true) (sym same) t in absurd (grind (arith, none, there))
    by false p = refl

pub dropped-added : (d : DirectoryValue) (index : List Cookie) (k : ℕ) (name : List ℕ) (fileid : ℕ) → IsIndexed d index → has d.list k ≡ true
    → dropped k (added name fileid d) ≡ added name fileid (dropped k d)
dropped-added d index k name fileid x t =
    ap (λ (l : List Listed). record (added name fileid d) { list = l }) (without-push d.list (entry_added name fileid d) k (not-next d index k x t))

-- the entry that goes is there yet after the other has come
pub still-has : (d : DirectoryValue) (name : List ℕ) (fileid k : ℕ) → has d.list k ≡ true → has (added name fileid d).list k ≡ true
still-has d name fileid k t = has-push d.list (entry_added name fileid d) k ∙ ap (λ b. b || (d.next == k)) t

-- the entry that comes, and then the one that goes
pub replaced : (d : DirectoryValue) (index : List Cookie) (position : ℕ) (c : Cookie) (name : List ℕ) (fileid : ℕ) → IsIndexed d index
    → name_at d.list index position ≡ Some name → slice_get index position ≡ Some c → dropped c.0 (added name fileid d) ≡ added name fileid (removed name d)
replaced d index position c name fileid x n g =
    dropped-added d index c.0 name fileid x (known-here d.list index position c x.index g)
    ∙ ap (λ e. added name fileid e) (dropped-removed d index position c name x n g)

pub indexed-replaced : (d : DirectoryValue) (index : List Cookie) (position : ℕ) (c new : Cookie) (name : List ℕ) (fileid : ℕ) → IsIndexed d index
    → name_at d.list index position ≡ Some name → slice_get index position ≡ Some c → position < length index → new.0 ≡ d.next
    → IsIndexed (dropped c.0 (added name fileid d)) (slice_set index position new)
indexed-replaced d index position c new name fileid x n g l next =
    let less = still-indexed d index position c name x n g in
    let position-of = position-left d index position c name x n g in
    let nowhere = found-nowhere (dropped c.0 d) (remove index position) position name less position-of in
    subst (λ e. IsIndexed e (slice_set index position new)) (sym (dropped-added d index c.0 name fileid x (known-here d.list index position c x.index g)))
    (subst (λ i. IsIndexed (added name fileid (dropped c.0 d)) i) (sym (set-is index position new l))
    (indexed-added (dropped c.0 d) (remove index position) position new name fileid less position-of nowhere next))
