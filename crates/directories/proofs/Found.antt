-- What a search by name finds.
use Rattle.std.proofs.Common.{◌≡◌, refl, sym, subst, ◌∙◌, ap, ℕ, zero, suc, Bool, true, false}
use Rattle.std.proofs.Common.{◌==◌, ◌||◌, List, [], ◌∷◌, take, drop, Option, Some, None, is_some, arith}
use Rattle.std.specs.List.{slice_get}
use Rattle.std.proofs.lemmas.Bool.Decides.{nat_tests}
use Rattle.std.specs.declared.cmp.Ordering.{Ordering}
use Rattle.std.specs.declared.cmp.Ordering.TheVariants.{Less, Equal, Greater}
use Rattle.nfs_model.specs.Types.{Listed}
use Rattle.nfs_model.specs.Names.{find_name}
use Rattle.nfs_values.specs.declared.number.Cookie.{Cookie}
use Rattle.nfs_model.specs.volume.Directories.{DirectoryValue, found}
use Rattle.directories.specs.Entries.{under, has}
use Rattle.directories.specs.Index.{name_cmp, name_in, name_under, name_at, is_listed, AllCompare, IsIndex, IsIndexed, IsPosition}
use Rattle.directories.proofs.Orders.{with-itself}
use Rattle.directories.proofs.Names.{found-under, find-under}

pub listed-here : (index : List Cookie) (i : ℕ) (c : Cookie) → slice_get index i ≡ Some c → is_listed index c.0 ≡ true
listed-here [] i c s = absurd (grind (arith, s))
listed-here (x ∷ index) zero c s = let same : x ≡ c = grind (arith, s) in subst (λ (y : Cookie). is_listed (x ∷ index) y.0 ≡ true) same
    (grind (arith, nat_tests))
listed-here (x ∷ index) (suc i) c s = let r = listed-here index i c s in grind (arith, nat_tests, r)

pub known-here : (es : List Listed) (index : List Cookie) (i : ℕ) (c : Cookie) → IsIndex es index → slice_get index i ≡ Some c → has es c.0 ≡ true
known-here es index i c x s = x.same c.0 ∙ listed-here index i c s

-- a name that each compares otherwise isn't there
not-listed : (es : List Listed) (index : List Cookie) (name : List ℕ) (o : Ordering) (cookie : ℕ) → (o ≡ Equal → ⊥) → name_in (under cookie es) ≡ name
    → AllCompare es name o index → is_listed index cookie ≡ false
not-listed es [] name o cookie n is a = refl
not-listed es (x ∷ index) name o cookie n is a = by (x.0 == cookie) refl (not-listed es index name o cookie n is a.1)
  where
    by : (b : Bool) → b ≡ (x.0 == cookie) → is_listed index cookie ≡ false → (b || is_listed index cookie) ≡ false
    by true p r =
        let same : x.0 ≡ cookie = grind (arith, nat_tests, p) in
        let it : name_under es x ≡ name = ap (λ k. name_in (under k es)) same ∙ is in
        absurd (n (sym a.0 ∙ (ap (λ m. name_cmp m name) it ∙ with-itself name)))
    by false p r = r

-- ---- the end of a search

pub name-here : (es : List Listed) (index : List Cookie) (position : ℕ) (c : Cookie) (e : Listed) (name : List ℕ) → name_at es index position ≡ Some name
    → slice_get index position ≡ Some c → under c.0 es ≡ Some e → e.name ≡ name
name-here es [] position c e name n s u = absurd (grind (arith, s))
name-here es (x ∷ index) zero c e name n s u =
    let same : x ≡ c = grind (arith, s) in
    let at : name_in (under c.0 es) ≡ name_under es x = ap (λ (y : Cookie). name_under es y) (sym same) in
    let there : name_under es x ≡ name = grind (arith, n) in
    ap (λ (o : Option Listed). name_in o) (sym u) ∙ (at ∙ there)
name-here es (x ∷ index) (suc position) c e name n s u = name-here es index position c e name n s u

-- what is at the position where the name is
pub found-there : (d : DirectoryValue) (index : List Cookie) (position : ℕ) (c : Cookie) (e : Listed) (name : List ℕ) → IsIndexed d index
    → name_at d.list index position ≡ Some name → slice_get index position ≡ Some c → under c.0 d.list ≡ Some e → found d name ≡ Some e
found-there d index position c e name x n s u =
    let is : e.name ≡ name = name-here d.list index position c e name n s u in
    subst (λ (m : List ℕ). find_name m d.list ≡ Some e) is (found-under d.list c.0 e x.directory.names u)

join-listed : (index : List Cookie) (position cookie : ℕ) → is_listed (take position index) cookie ≡ false → is_listed (drop position index) cookie ≡ false
    → is_listed index cookie ≡ false
join-listed index zero cookie a b = b
join-listed [] (suc position) cookie a b = refl
join-listed (x ∷ index) (suc position) cookie a b = by (x.0 == cookie) (λ t. join-listed index position cookie t b) a
  where
    by : (t : Bool) → (is_listed (take position index) cookie ≡ false → is_listed index cookie ≡ false) → (t || is_listed (take position index) cookie) ≡ false
        → (t || is_listed index cookie) ≡ false
    by true r p = absurd (grind (arith, p))
    by false r p = r p

pub found-nowhere : (d : DirectoryValue) (index : List Cookie) (position : ℕ) (name : List ℕ) → IsIndexed d index → IsPosition d index name position
    → found d name ≡ None
found-nowhere d index position name x p = by (find_name name d.list) refl
  where
    by : (o : Option Listed) → o ≡ find_name name d.list → o ≡ None
    by None q = refl
    by (Some e) q =
        let u = find-under 3 d.list d.next name e x.directory.cookies (sym q) in
        let named : name_in (under e.cookie d.list) ≡ name = ap (λ (o : Option Listed). name_in o) u.0 ∙ u.1 in
        let before = not-listed d.list (take position index) name Less e.cookie (λ l. grind (arith, l)) named p.before in
        let after = not-listed d.list (drop position index) name Greater e.cookie (λ l. grind (arith, l)) named p.after in
        let gone = join-listed index position e.cookie before after in
        let there : has d.list e.cookie ≡ true = ap (λ (o : Option Listed). is_some o) u.0 in
        let listed = x.index.same e.cookie in absurd (grind (arith, gone, there, listed))
