-- Lists of entries with one more at the end.
use Rattle.std.proofs.Common.{◌≡◌, ℕ, ◌+◌, ◌≤◌, not, Bool, true, false, List, [], ◌∷◌, ◌++◌, Some, None, refl, sym, ap, ◌∙◌, arith}
use Rattle.std.specs.Prelude.{if◌then◌else◌}
use Rattle.std.specs.List.{AllByRecursion}
use Rattle.nfs_model.specs.Types.{Listed}
use Rattle.nfs_model.specs.Names.{same_name, find_name, without_name}
use Rattle.nfs_model.specs.Parts.{one_if, count}
use Rattle.nfs_model.specs.volume.Directories.{DirectoryValue, Rises, IsOnlyOne, NamesDiffer, IsDirectory, found, added, entry_added, removed}
use Rattle.nfs_model.specs.volume.lemmas.Directories.{same-turned, same-is}

pub count-more : {A : Type 0} (test : A → Bool) (xs : List A) (x : A) → count test (xs ++ x ∷ []) ≡ count test xs + one_if (test x)
count-more test [] x = omega arith
count-more test (y ∷ xs) x = let others = count-more test xs x in omega (arith, others)

pub all-more : {A : Type 0} (P : A → Type 0) (xs : List A) (x : A) → AllByRecursion P xs → P x → AllByRecursion P (xs ++ x ∷ [])
all-more P [] x all h = (h, tt)
all-more P (y ∷ xs) x all h = (all.0, all-more P xs x all.1 h)

rises-more : (low : ℕ) (list : List Listed) (next : ℕ) (e : Listed) → e.cookie ≡ next → Rises low list next → Rises low (list ++ e ∷ []) (next + 1)
rises-more low [] next e is rises = (omega (arith, is, rises), omega (arith, is))
rises-more low (x ∷ list) next e is rises = (rises.0, rises-more (x.cookie + 1) list next e is rises.1)

-- an entry whose name isn't there differs from all
not-found : (name : List ℕ) (x : Listed) (list : List Listed) → find_name name (x ∷ list) ≡ None
    → (same_name x.name name ≡ false) × (find_name name list ≡ None)
not-found name x list h = by (same_name x.name name) refl h
  where
    by : (b : Bool) → same_name x.name name ≡ b → (if b then Some x else find_name name list) ≡ None
        → (same_name x.name name ≡ false) × (find_name name list ≡ None)
    by true is e = absurd cc
    by false is e = (is, e)

pub differ-more : (list : List Listed) (e : Listed) → find_name e.name list ≡ None → NamesDiffer list → NamesDiffer (list ++ e ∷ [])
differ-more [] e h names = (tt, tt)
differ-more (x ∷ list) e h names =
    let here = not-found e.name x list h in (
      all-more (λ (y : Listed). same_name y.name x.name ≡ false) list e names.0 (same-turned e.name x.name ∙ here.0),
      differ-more list e here.1 names.1,
    )

-- a directory stays one where a name is added that wasn't there
pub added-is : (d : DirectoryValue) (name : List ℕ) (fileid : ℕ) → found d name ≡ None → IsDirectory d → IsDirectory (added name fileid d)
added-is d name fileid absent is = record {
  cookies = rises-more 3 d.list d.next (entry_added name fileid d) refl is.cookies;
  names = differ-more d.list (entry_added name fileid d) absent is.names;
}

-- ---- one less

pub all-without : (P : Listed → Type 0) (name : List ℕ) (list : List Listed) → AllByRecursion P list → AllByRecursion P (without_name name list)
all-without P name [] all = tt
all-without P name (x ∷ list) all = by (same_name x.name name) (all-without P name list all.1)
  where
    by : (b : Bool) → AllByRecursion P (without_name name list) → AllByRecursion P (if not b then x ∷ without_name name list else without_name name list)
    by true others = others
    by false others = (all.0, others)

rises-weaker : (low lower : ℕ) (list : List Listed) (next : ℕ) → lower ≤ low → Rises low list next → Rises lower list next
rises-weaker low lower [] next less rises = omega (arith, less, rises)
rises-weaker low lower (x ∷ list) next less rises = ((let h = rises.0 in omega (arith, less, h)), rises.1)

rises-without : (name : List ℕ) (low : ℕ) (list : List Listed) (next : ℕ) → Rises low list next → Rises low (without_name name list) next
rises-without name low [] next rises = rises
rises-without name low (x ∷ list) next rises = by (same_name x.name name) (rises-without name (x.cookie + 1) list next rises.1)
  where
    by : (b : Bool) → Rises (x.cookie + 1) (without_name name list) next
        → Rises low (if not b then x ∷ without_name name list else without_name name list) next
    by true others = rises-weaker (x.cookie + 1) low (without_name name list) next (let h = rises.0 in omega (arith, h)) others
    by false others = (rises.0, others)

pub differ-without : (name : List ℕ) (list : List Listed) → NamesDiffer list → NamesDiffer (without_name name list)
differ-without name [] names = tt
differ-without name (x ∷ list) names = by (same_name x.name name) (differ-without name list names.1)
  where
    by : (b : Bool) → NamesDiffer (without_name name list) → NamesDiffer (if not b then x ∷ without_name name list else without_name name list)
    by true others = others
    by false others = (all-without (λ (y : Listed). same_name y.name x.name ≡ false) name list names.0, others)

-- a directory stays one where a name is taken
pub removed-is : (d : DirectoryValue) (name : List ℕ) → IsDirectory d → IsDirectory (removed name d)
removed-is d name is = record { cookies = rises-without name 3 d.list d.next is.cookies; names = differ-without name d.list is.names }

-- the others of a list in which the first has the name
without-first : (test : Listed → Bool) (name : List ℕ) (x : Listed) (list : List Listed) → same_name x.name name ≡ true → IsOnlyOne x list
    → count test (without_name name list) ≡ count test list
without-first test name x [] named only = refl
without-first test name x (y ∷ list) named only =
    let is : x.name ≡ name = same-is x.name name named in
    let other : same_name y.name name ≡ false = ap (same_name y.name) (sym is) ∙ only.0 in
    let others = without-first test name x list named only.1 in
    ap (λ (b : Bool). count test (if not b then y ∷ without_name name list else without_name name list)) other
    ∙ (let sum : one_if (test y) + count test (without_name name list) ≡ one_if (test y) + count test list = omega (arith, others) in sum)

-- a count of a list is that of the others, and the one that had the name
pub count-without : (test : Listed → Bool) (name : List ℕ) (list : List Listed) (e : Listed) → NamesDiffer list → find_name name list ≡ Some e
    → count test (without_name name list) + one_if (test e) ≡ count test list
count-without test name [] e names h = absurd cc
count-without test name (x ∷ list) e names h = by (same_name x.name name) refl h (count-without test name list e names.1)
  where
    by : (b : Bool) → same_name x.name name ≡ b → (if b then Some x else find_name name list) ≡ Some e
        → (find_name name list ≡ Some e → count test (without_name name list) + one_if (test e) ≡ count test list)
        → count test (if not b then x ∷ without_name name list else without_name name list) + one_if (test e) ≡ one_if (test x) + count test list
    by true is g others =
        let same : x ≡ e = cc in
        let here : one_if (test x) ≡ one_if (test e) = ap (λ (y : Listed). one_if (test y)) same in
        let rest = without-first test name x list is names.0 in
        omega (arith, here, rest)
    by false is g others = let rest = others g in omega (arith, rest)

-- an entry that is found stands in the list
pub count-found : (test : Listed → Bool) (name : List ℕ) (list : List Listed) (e : Listed) → find_name name list ≡ Some e → test e ≡ true
    → 1 ≤ count test list
count-found test name [] e h is = absurd cc
count-found test name (x ∷ list) e h is = by (same_name x.name name) h (count-found test name list e)
  where
    by : (b : Bool) → (if b then Some x else find_name name list) ≡ Some e
        → (find_name name list ≡ Some e → test e ≡ true → 1 ≤ count test list) → 1 ≤ one_if (test x) + count test list
    by true g others =
        let same : x ≡ e = cc in
        let one : one_if (test x) ≡ 1 = ap (λ (y : Listed). one_if (test y)) same ∙ ap one_if is in
        omega (arith, one)
    by false g others = let some = others g is in omega (arith, some)
