-- What is found after a name is added or removed.
use Rattle.std.proofs.Common.{◌≡◌, refl, sym, subst, ◌∙◌, ap, ℕ, Bool, true, false, ◌==◌, ◌&&◌}
use Rattle.std.proofs.Common.{not, nat_eq, List, [], ◌∷◌, Some, None, if◌then◌else◌}
use Rattle.std.specs.Cmp.Lexicographic.{pointwise, same_text, nat_list_eq_equiv}
use Rattle.nfs_model.specs.Types.{Listed}
use Rattle.nfs_model.specs.Names.{same_name, find_name, without_name}
use Rattle.nfs_model.specs.volume.Directories.{DirectoryValue, found, removed}

-- ---- names that are the same

same-pointwise : (x y : List ℕ) → same_name x y ≡ pointwise nat_eq x y
same-pointwise [] [] = refl
same-pointwise [] (c ∷ y) = refl
same-pointwise (b ∷ x) [] = refl
same-pointwise (b ∷ x) (c ∷ y) = ap (λ t. (b == c) && t) (same-pointwise x y)

pub same-itself : (x : List ℕ) → same_name x x ≡ true
same-itself x = same-pointwise x x ∙ nat_list_eq_equiv.refl x

pub same-turned : (x y : List ℕ) → same_name x y ≡ same_name y x
same-turned x y = same-pointwise x y ∙ (nat_list_eq_equiv.symm x y ∙ sym (same-pointwise y x))

pub same-is : (x y : List ℕ) → same_name x y ≡ true → x ≡ y
same-is x y e = same_text x y (sym e ∙ same-pointwise x y)

-- ---- after `removed`

pub find-gone : (es : List Listed) (name : List ℕ) → find_name name (without_name name es) ≡ None
find-gone [] name = refl
find-gone (x ∷ es) name = by (same_name x.name name) refl (find-gone es name)
  where
    by : (b : Bool) → b ≡ same_name x.name name → find_name name (without_name name es) ≡ None
        → find_name name (if not b then x ∷ without_name name es else without_name name es) ≡ None
    by true p r = r
    by false p r = rw (← p) r

pub find-left : (es : List Listed) (name other : List ℕ) → same_name name other ≡ false
    → find_name other (without_name name es) ≡ find_name other es
find-left [] name other o = refl
find-left (x ∷ es) name other o = by (same_name x.name name) refl (find-left es name other o)
  where
    by : (b : Bool) → b ≡ same_name x.name name → find_name other (without_name name es) ≡ find_name other es
        → find_name other (if not b then x ∷ without_name name es else without_name name es)
        ≡ (if same_name x.name other then Some x else find_name other es)
    by true p r =
        let otherwise : same_name x.name other ≡ false = subst (λ n. same_name n other ≡ false) (sym (same-is x.name name (sym p))) o in
        rw otherwise r
    by false p r = ap (λ t. if same_name x.name other then Some x else t) r

-- a name that is removed isn't found
pub found-removed : (d : DirectoryValue) (name : List ℕ) → found (removed name d) name ≡ None
found-removed d name = find-gone d.list name

-- another name is found as before
pub found-removed-other : (d : DirectoryValue) (name other : List ℕ) → same_name name other ≡ false
    → found (removed name d) other ≡ found d other
found-removed-other d name other o = find-left d.list name other o
