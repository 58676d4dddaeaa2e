-- Whether something is lent that excludes an affinity, found by going over the grants.
use Rattle.std.proofs.Common.{◌≡◌, ℕ, zero, suc, ◌+◌, ◌<◌, ◌≤◌, Bool, true, false, List, [], ◌∷◌, length, map, arith, Option, Some, None, refl, sym}
use Rattle.std.proofs.Common.{ap, ◌∙◌, subst}
use Rattle.std.specs.Prelude.{◌↔◌, option_map, slice_index_or, is_some, not}
use mathlib.Core.Option.{some, some-injective, some-ne-none}
use mathlib.Core.Logic.{dite}
use native.Mathlib.Decide.{ℕ_discrete}
use lib.ListN.{get_elem?}
use Rattle.atomic_table.proofs.Lists.{at_map, at_index}
use Rattle.nfs_model.specs.Tree.{Layout, Affinity, excludes}
use Rattle.depot_rule.specs.declared.view.View.{View}
use Rattle.depot_rule.specs.declared.view.Entry.{Entry}
use Rattle.desk.specs.laws.Books.{Lent, IsIdle, IsTaken}
use Rattle.desk.specs.laws.Backing.{Shows, books_of, excludes_lent, IsTakenIn}
use Rattle.desk.specs.laws.lemmas.Seats.{at-length}

module _ {P G : Type 0} (shows : Shows G P) (L : Layout) (gs : List (Option G)) (a : Affinity) where
  -- whether the worker's grant excludes a
  abbrev excluded : Option G → Bool
  excluded x = excludes_lent L a (option_map (shows L) x)

  -- none of the first n does
  abbrev pub NoneBefore : ℕ → Type 0
  NoneBefore n = (i : ℕ) (x : Option G) → i < n → get_elem? gs i ≡ some x → excluded x ≡ true → ⊥

  pub taken-here : (i : ℕ) (x : Option G) (t : Bool) → i < length gs → x ≡ slice_index_or gs i x → t ≡ excluded x → t ≡ true → IsTakenIn shows L gs a
  taken-here i x t lt is test yes_so = (i, x, at_index gs i x lt is, sym test ∙ yes_so)

  pub none-more : (n : ℕ) (x : Option G) (t : Bool) → n < length gs → x ≡ slice_index_or gs n x → t ≡ excluded x → t ≡ false → NoneBefore n → NoneBefore (n + 1)
  none-more n x t lt is test not_so before i y less at e = dite (ℕ_discrete i n)
      (λ (here : i ≡ n).
      let there = at_index gs n x lt is in
      let same : y ≡ x = some-injective y x (sym (subst (λ (k : ℕ). get_elem? gs k ≡ some y) here at) ∙ there) in
      let bad : false ≡ true = sym not_so ∙ test ∙ ap (λ (z : Option G). excluded z) (sym same) ∙ e in cc)
      (λ ne. before i y (omega arith) at e)

  pub none-taken : (n : ℕ) → length gs ≤ n → NoneBefore n → IsTakenIn shows L gs a → ⊥
  none-taken n most before taken = let room = at-length gs taken.0 taken.1 taken.2 in before taken.0 taken.1 (omega arith) taken.2 taken.3

map-at : {A B : Type 0} (f : A → B) (xs : List (Option A)) (i : ℕ) (y : B) → get_elem? (map (λ x. option_map f x) xs) i ≡ some (Some y)
    → (x : A) × (get_elem? xs i ≡ some (Some x)) × (f x ≡ y)
map-at f [] i y e = absurd (some-ne-none (Some y) (sym e))
map-at f (None ∷ xs) zero y e = absurd (let bad : None ≡ Some y = some-injective None (Some y) e in let no_way : ⊥ = cc in no_way)
map-at f (Some x ∷ xs) zero y e = (x, refl, (let same : Some (f x) ≡ Some y = some-injective (Some (f x)) (Some y) e in cc))
map-at f (x ∷ xs) (suc i) y e = map-at f xs i y e

module _ {P C R G : Type 0} (shows : Shows G P) (L : Layout) (v : View P (Entry P C R)) (gs : List (Option G)) (a : Affinity) where
  found-taken : (i : ℕ) (x : Option G) → get_elem? gs i ≡ some x → excludes_lent L a (option_map (shows L) x) ≡ true → IsTaken (books_of shows L v gs) a
  found-taken i None at e = absurd (let bad : false ≡ true = e in let no_way : ⊥ = cc in no_way)
  found-taken i (Some x) at e = (i, shows L x, at_map (λ g. option_map (shows L) g) gs i (Some x) at, e)

  -- what was found by going over the grants of this layout
  pub taken-books : (K : Layout) (hs : List (Option G)) → K ≡ L → hs ≡ gs → IsTakenIn shows K hs a → IsTaken (books_of shows L v gs) a
  taken-books K hs layout grants taken =
      let here = subst (λ (x : Layout × List (Option G)). IsTakenIn shows x.0 x.1 a) (λ i. (layout i, grants i)) taken in
      found-taken here.0 here.1 here.2 here.3

  pub free-books : (K : Layout) (hs : List (Option G)) (t : Bool) → K ≡ L → hs ≡ gs → (IsTakenIn shows K hs a → t ≡ true) → t ≡ false
      → IsTaken (books_of shows L v gs) a → ⊥
  free-books K hs t layout grants so not_so taken =
      let old = map-at (shows L) gs taken.0 taken.1 taken.2 in
      let here : IsTakenIn shows L gs a = (taken.0, Some old.0, old.1, ap (λ (l : Lent P). excludes L a l.affinity) old.2 ∙ taken.3) in
      let bad : false ≡ true = sym not_so ∙ so (subst (λ (x : Layout × List (Option G)). IsTakenIn shows x.0 x.1 a) (λ i. (sym layout i, sym grants i)) here) in
      cc

  pub said-taken : (K : Layout) (hs : List (Option G)) (t : Bool) → K ≡ L → hs ≡ gs → (t ≡ true) ↔ IsTakenIn shows K hs a
      → (t ≡ true) ↔ IsTaken (books_of shows L v gs) a
  said-taken K hs true layout grants said = (λ e. taken-books K hs layout grants (said.0 e), λ taken. refl)
  said-taken K hs false layout grants said =
      (λ e. taken-books K hs layout grants (said.0 e), λ taken. absurd (free-books K hs false layout grants said.1 refl taken))

module _ {P C R G : Type 0} (shows : Shows G P) (L : Layout) (v : View P (Entry P C R)) (gs : List (Option G)) (i : ℕ) where
  -- an idle worker has no grant
  pub idle-none : (x : G) → IsIdle (books_of shows L v gs) i → get_elem? gs i ≡ some (Some x) → ⊥
  idle-none x idle at =
      let some_one = at_map (λ g. option_map (shows L) g) gs i (Some x) at in
      let bad : None ≡ Some (shows L x) = some-injective None (Some (shows L x)) (sym idle ∙ some_one) in cc

  -- whether the worker's slot has no grant says whether it is idle
  pub said-idle : (x : Option G) (t : Bool) → i < length gs → x ≡ slice_index_or gs i x → is_some x ≡ not t
      → (t ≡ true) ↔ IsIdle (books_of shows L v gs) i
  said-idle None true lt is none = (λ e. at_map (λ g. option_map (shows L) g) gs i None (at_index gs i None lt is), λ idle. refl)
  said-idle None false lt is none = absurd cc
  said-idle (Some x) true lt is none = absurd cc
  said-idle (Some x) false lt is none =
      (λ e. absurd cc, λ idle. absurd (idle-none x idle (at_index gs i (Some x) lt is)))
