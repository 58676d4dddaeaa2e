-- Names that are the same, and entries whose names differ.
use Rattle.std.proofs.Common.{◌≡◌, refl, sym, subst, ◌∙◌, ap, ℕ, ◌+◌, Bool, true, false}
use Rattle.std.proofs.Common.{◌==◌, not, List, [], ◌∷◌, ◌++◌, Option, Some, None, is_some, arith, if◌then◌else◌}
use Rattle.std.specs.List.{AllByRecursion}
use Rattle.std.proofs.lemmas.Bool.Decides.{nat_tests}
use Rattle.nfs_model.specs.Types.{Listed}
use Rattle.nfs_model.specs.Names.{same_name, find_name, without_name}
use Rattle.nfs_model.specs.volume.Directories.{Rises, IsOnlyOne, NamesDiffer}
use Rattle.nfs_model.specs.volume.lemmas.Directories.{same-itself, same-turned, same-is}
use Rattle.directories.specs.Entries.{under, has, without}
use Rattle.directories.proofs.Orders.{all-filter}
use Rattle.directories.proofs.Rising.{at-least, without-none}

-- ---- what is under a cookie is in the list

module _ (P : Listed → Type 0) where
  all-under : (es : List Listed) (cookie : ℕ) (e : Listed) → AllByRecursion P es → under cookie es ≡ Some e → P e
  all-under [] cookie e a u = absurd (grind (arith, u))
  all-under (x ∷ es) cookie e a u = by (x.cookie == cookie) (all-under es cookie e a.1) u
    where
      by : (b : Bool) → (under cookie es ≡ Some e → P e) → (if b then Some x else under cookie es) ≡ Some e → P e
      by true r s = let same : x ≡ e = grind (arith, s) in subst P same a.0
      by false r s = r s

-- ---- find

-- an entry is what its name finds
pub found-under : (es : List Listed) (cookie : ℕ) (e : Listed) → NamesDiffer es → under cookie es ≡ Some e → find_name e.name es ≡ Some e
found-under [] cookie e d u = absurd (grind (arith, u))
found-under (x ∷ es) cookie e d u = by (x.cookie == cookie) (all-under (λ (y : Listed). same_name y.name x.name ≡ false) es cookie e d.0)
    (found-under es cookie e d.1) u
  where
    by : (b : Bool) → (under cookie es ≡ Some e → same_name e.name x.name ≡ false) → (under cookie es ≡ Some e → find_name e.name es ≡ Some e)
        → (if b then Some x else under cookie es) ≡ Some e → (if same_name x.name e.name then Some x else find_name e.name es) ≡ Some e
    by true o r s = let same : x ≡ e = grind (arith, s) in subst
        (λ (y : Listed). (if same_name x.name y.name then Some x else find_name y.name es) ≡ Some y) same (rw (same-itself x.name) refl)
    by false o r s = rw (same-turned x.name e.name ∙ o s) (r s)

-- what a name finds is under its cookie, and has the name
pub find-under : (low : ℕ) (es : List Listed) (next : ℕ) (name : List ℕ) (e : Listed) → Rises low es next → find_name name es ≡ Some e
    → (under e.cookie es ≡ Some e) × (e.name ≡ name)
find-under low [] next name e h f = absurd (grind (arith, f))
find-under low (x ∷ es) next name e h f = by (same_name x.name name) refl (find-under (x.cookie + 1) es next name e h.1) f
  where
    by : (b : Bool) → b ≡ same_name x.name name → (find_name name es ≡ Some e → (under e.cookie es ≡ Some e) × (e.name ≡ name))
        → (if b then Some x else find_name name es) ≡ Some e → ((if x.cookie == e.cookie then Some x else under e.cookie es) ≡ Some e) × (e.name ≡ name)
    by true p r s =
        let same : x ≡ e = grind (arith, s) in
        subst (λ (y : Listed). ((if x.cookie == y.cookie then Some x else under y.cookie es) ≡ Some y) × (y.name ≡ name)) same
        (grind (arith, nat_tests), same-is x.name name (sym p))
    by false p r s =
        let u = r s in
        let there : has es e.cookie ≡ true = ap (λ (o : Option Listed). is_some o) u.0 in
        let m = at-least (x.cookie + 1) es next e.cookie h.1 there in
        let u0 = u.0 in (grind (arith, nat_tests, u0), u.1)

-- ---- without a name

pub without-absent : (es : List Listed) (name : List ℕ) → find_name name es ≡ None → without_name name es ≡ es
without-absent [] name f = refl
without-absent (x ∷ es) name f = by (same_name x.name name) (without-absent es name) f
  where
    by : (b : Bool) → (find_name name es ≡ None → without_name name es ≡ es) → (if b then Some x else find_name name es) ≡ None
        → (if not b then x ∷ without_name name es else without_name name es) ≡ x ∷ es
    by true r s = absurd (grind (arith, s))
    by false r s = ap (λ l. x ∷ l) (r s)

without-other : (es : List Listed) (name : List ℕ) → AllByRecursion (λ (y : Listed). same_name y.name name ≡ false) es → without_name name es ≡ es
without-other [] name a = refl
without-other (x ∷ es) name a = rw a.0 (ap (λ l. x ∷ l) (without-other es name a.1))

pub without-same : (low : ℕ) (es : List Listed) (next cookie : ℕ) (e : Listed) → Rises low es next → NamesDiffer es → under cookie es ≡ Some e
    → without cookie es ≡ without_name e.name es
without-same low [] next cookie e h d u = refl
without-same low (x ∷ es) next cookie e h d u =
    by (x.cookie == cookie) refl (all-under (λ (y : Listed). same_name y.name x.name ≡ false) es cookie e d.0)
    (without-same (x.cookie + 1) es next cookie e h.1 d.1) u
  where
    by : (b : Bool) → b ≡ (x.cookie == cookie) → (under cookie es ≡ Some e → same_name e.name x.name ≡ false)
        → (under cookie es ≡ Some e → without cookie es ≡ without_name e.name es) → (if b then Some x else under cookie es) ≡ Some e
        → (if not b then x ∷ without cookie es else without cookie es) ≡
        (if not (same_name x.name e.name) then x ∷ without_name e.name es else without_name e.name es)
    by true p o r s =
        let same : x ≡ e = grind (arith, s) in
        let here : x.cookie ≡ cookie = grind (arith, nat_tests, p) in
        let kept = without-none (x.cookie + 1) es next cookie h.1 (omega (arith, here)) in
        subst (λ (y : Listed). without cookie es ≡ (if not (same_name x.name y.name) then x ∷ without_name y.name es else without_name y.name es)) same
        (rw (same-itself x.name) (kept ∙ sym (without-other es x.name d.0)))
    by false p o r s = rw (same-turned x.name e.name ∙ o s) (ap (λ l. x ∷ l) (r s))

-- ---- names go on to differ

pub differ-without : (es : List Listed) (cookie : ℕ) → NamesDiffer es → NamesDiffer (without cookie es)
differ-without [] cookie d = d
differ-without (x ∷ es) cookie d = by (not (x.cookie == cookie)) (differ-without es cookie d.1)
  where
    by : (b : Bool) → NamesDiffer (without cookie es) → NamesDiffer (if b then x ∷ without cookie es else without cookie es)
    by true r = (all-filter (λ (y : Listed). same_name y.name x.name ≡ false) (λ (e : Listed). not (e.cookie == cookie)) es d.0, r)
    by false r = r

only-push : (es : List Listed) (x e : Listed) → IsOnlyOne x es → same_name e.name x.name ≡ false → IsOnlyOne x (es ++ e ∷ [])
only-push [] x e o n = (n, tt)
only-push (y ∷ es) x e o n = (o.0, only-push es x e o.1 n)

pub differ-push : (es : List Listed) (e : Listed) → NamesDiffer es → find_name e.name es ≡ None → NamesDiffer (es ++ e ∷ [])
differ-push [] e d f = (tt, tt)
differ-push (x ∷ es) e d f = by (same_name x.name e.name) refl (differ-push es e d.1) f
  where
    by : (b : Bool) → b ≡ same_name x.name e.name → (find_name e.name es ≡ None → NamesDiffer (es ++ e ∷ []))
        → (if b then Some x else find_name e.name es) ≡ None
        → NamesDiffer (x ∷ (es ++ e ∷ []))
    by true p r s = absurd (grind (arith, s))
    by false p r s = (only-push es x e d.0 (same-turned e.name x.name ∙ sym p), r s)
