-- What stays of inodes of which one alone, or two, are others.
use Rattle.std.proofs.Common.{◌≡◌, ℕ, ◌+◌, ◌==◌, Bool, true, false, List, [], ◌∷◌, refl, sym, ap, subst, arith}
use Rattle.std.specs.Prelude.{is_some, IfSome}
use Rattle.std.proofs.lemmas.Bool.{eqb-true}
use Rattle.std.specs.List.{AllByRecursion}
use Rattle.std.specs.FinMap.{get}
use Rattle.nfs_model.specs.Types.{Listed}
use Rattle.nfs_model.specs.Parts.{one_if}
use Rattle.filer_state.specs.state.Names.{InodeMap, parent_directory, is_directory, times_in_list, directories_listed}

-- any fact of numbers: at one, and at the others
pub by-one : (a : ℕ) (P : ℕ → Type 0) → P a → ((q : ℕ) → (q == a) ≡ false → P q) → (q : ℕ) → P q
by-one a P one others q = by (q == a) refl
  where
    by : (b : Bool) → (q == a) ≡ b → P q
    by true e = subst P (sym (eqb-true q a e)) one
    by false e = others q e

-- at two, and at the others
pub by-two : (a b : ℕ) (P : ℕ → Type 0) → P a → P b → ((q : ℕ) → (q == a) ≡ false → (q == b) ≡ false → P q) → (q : ℕ) → P q
by-two a b P one two others = by-one a P one (λ q ne. by-one b (λ r. (r == a) ≡ false → P r) (λ _. two) (λ r no_b no_a. others r no_a no_b) q ne)

-- an entry is of a directory's child
abbrev pub IsChildOf : InodeMap → ℕ → Listed → Type 0
IsChildOf inodes fileid e = IfSome (parent_directory (get inodes e.fileid)) (λ parent. parent ≡ fileid)

-- inodes that show the same parents
pub children-alike : (new old : InodeMap) → ((q : ℕ) → parent_directory (get new q) ≡ parent_directory (get old q))
    → (fileid : ℕ) (list : List Listed) → AllByRecursion (IsChildOf old fileid) list → AllByRecursion (IsChildOf new fileid) list
children-alike new old same fileid [] all = tt
children-alike new old same fileid (e ∷ list) all = (
  subst (λ o. IfSome o (λ parent. parent ≡ fileid)) (sym (same e.fileid)) all.0,
  children-alike new old same fileid list all.1,
)

-- inodes of which all but one show the parents that they showed
module _ (new old : InodeMap) (f : ℕ) (same : (q : ℕ) → (q == f) ≡ false → parent_directory (get new q) ≡ parent_directory (get old q)) where
  -- a fileid that doesn't stand in a list is no entry's
  stands-not : (e : Listed) (n : ℕ) → one_if (e.fileid == f) + n ≡ 0 → ((e.fileid == f) ≡ false) × (n ≡ 0)
  stands-not e n h = by (e.fileid == f) refl h
    where
      by : (b : Bool) → (e.fileid == f) ≡ b → one_if b + n ≡ 0 → ((e.fileid == f) ≡ false) × (n ≡ 0)
      by true is h = absurd (omega (arith, h))
      by false is h = (is, omega (arith, h))

  pub directories-same : (list : List Listed) → times_in_list f list ≡ 0 → directories_listed new list ≡ directories_listed old list
  directories-same [] none = refl
  directories-same (e ∷ list) none =
      let parts = stands-not e (times_in_list f list) none in
      let here : one_if (is_directory (get new e.fileid)) ≡ one_if (is_directory (get old e.fileid)) =
      ap (λ o. one_if (is_some o)) (same e.fileid parts.0) in
      let others = directories-same list parts.1 in
      omega (arith, here, others)

  pub children-same : (fileid : ℕ) (list : List Listed) → times_in_list f list ≡ 0
      → AllByRecursion (IsChildOf old fileid) list → AllByRecursion (IsChildOf new fileid) list
  children-same fileid [] none all = tt
  children-same fileid (e ∷ list) none all =
      let parts = stands-not e (times_in_list f list) none in (
        subst (λ o. IfSome o (λ parent. parent ≡ fileid)) (sym (same e.fileid parts.0)) all.0,
        children-same fileid list parts.1 all.1,
      )
