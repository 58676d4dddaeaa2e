-- What lies in workers' slots, and the books that tell it.
use Rattle.std.proofs.Common.{◌≡◌, ◌<◌, ℕ, Bool, true, false, List, [], ◌∷◌, ◌++◌, ◌+◌, length, map, set, replicate, Option, Some, None, refl, sym, ap, ◌∙◌}
use Rattle.std.proofs.Common.{subst}
use Rattle.std.specs.Prelude.{◌↔◌, not, is_some, option_map, slice_index_or, IsSomeAnd}
use Rattle.std.proofs.Math.ListN.{get_or-map}
use Rattle.std.proofs.lemmas.List.{set-get_or, map-set, map-append, replicate_more}
use mathlib.Core.Option.{some}
use lib.ListN.{get_elem?}
use Rattle.nfs_model.specs.Tree.{Layout}
use Rattle.depot_rule.specs.declared.view.View.{View}
use Rattle.depot_rule.specs.declared.view.Entry.{Entry}
use Rattle.desk.specs.laws.Books.{Lent, IsIdle, HasLent}
use Rattle.desk.specs.laws.Backing.{Shows, books_of}
use Rattle.desk.specs.laws.lemmas.Ends.{found-at, none-lent}
use Rattle.desk.specs.laws.lemmas.Taken.{idle-none, said-idle}
use Rattle.desk.specs.Slots.{either}

module _ {S B A : Type 0} (f : S → A) (h : B → A) where
  pub in-small : (small : Option S) (large : Option B) (g : S) → small ≡ Some g → either (option_map f small) (option_map h large) ≡ Some (f g)
  in-small small large g is = ap (λ (o : Option S). either (option_map f o) (option_map h large)) is

  pub in-large : (small : Option S) (large : Option B) (g : B) → small ≡ None → large ≡ Some g → either (option_map f small) (option_map h large) ≡ Some (h g)
  in-large small large g none is =
      ap (λ (o : Option S). either (option_map f o) (option_map h large)) none ∙ ap (λ (o : Option B). option_map h o) is

module _ {A : Type 0} (o : Option A) (x : A) (F : A → Type 0) where
  -- what holds of what is there, and back
  pub some-and : o ≡ Some x → F x → IsSomeAnd o F
  some-and is h = subst (λ (p : Option A). IsSomeAnd p F) (sym is) h

  pub and-some : o ≡ Some x → IsSomeAnd o F → F x
  and-some is h = subst (λ (p : Option A). IsSomeAnd p F) is h

module _ {X A : Type 0} (f : X → Option A) (xs : List X) (i : ℕ) where
  -- what is told of a slot that an index found
  pub told-there : (x : X) → x ≡ slice_index_or xs i x → f x ≡ slice_index_or (map f xs) i (f x)
  told-there x is = ap f is ∙ sym (get_or-map f xs i x)

  -- what is told once a slot has another thing
  pub told-set : (x : X) (o : Option A) → f x ≡ o → map f (set xs i x) ≡ set (map f xs) i o
  told-set x o is = map-set f xs i x ∙ ap (λ (p : Option A). set (map f xs) i p) is

  pub told-same : (x y : X) → x ≡ slice_index_or xs i x → f y ≡ f x → map f (set xs i y) ≡ map f xs
  told-same x y is same = told-set y (f x) same ∙ ap (λ (p : Option A). set (map f xs) i p) (told-there x is) ∙ set-get_or (map f xs) i (f x)

-- one idle worker more
pub one-idle : {X A : Type 0} (f : X → Option A) (xs : List X) (x : X) (n : ℕ) → map f xs ≡ replicate n None → f x ≡ None
    → map f (xs ++ x ∷ []) ≡ replicate (n + 1) None
one-idle f xs x n idle is =
    map-append f xs (x ∷ []) ∙ ap (λ ys. ys ++ f x ∷ []) idle ∙ ap (λ o. replicate n None ++ o ∷ []) is ∙ replicate_more n None

as-none : {A : Type 0} (t : Bool) (o : Option A) → (t ≡ true) ↔ (o ≡ None) → is_some o ≡ not t
as-none true None told = refl
as-none false None told = absurd (let bad : false ≡ true = told.1 refl in let no_way : ⊥ = cc in no_way)
as-none true (Some any) told = absurd (let bad : Some any ≡ None = told.0 refl in let no_way : ⊥ = cc in no_way)
as-none false (Some any) told = refl

module _ {P C R A : Type 0} (shows : Shows A P) (L : Layout) (v : View P (Entry P C R)) (gs : List (Option A)) (i : ℕ) where
  pub none-there : IsIdle (books_of shows L v gs) i → (o : Option A) → o ≡ slice_index_or gs i o → o ≡ None
  none-there idle None at = refl
  none-there idle (Some any) at = absurd (idle-none shows L v gs i any idle (found-at shows L v gs i _ idle (Some any) (Some any) (Some any) at refl refl))

  -- what a worker that was lent something has
  pub some-there : (l : Lent P) → HasLent (books_of shows L v gs) i l → (o : Option A) → o ≡ slice_index_or gs i o
      → (lends : A) × (o ≡ Some lends) × (get_elem? gs i ≡ some (Some lends))
  some-there l lent None at = absurd (none-lent shows L v gs i l lent (found-at shows L v gs i _ lent None None None at refl refl))
  some-there l lent (Some any) at = (any, refl, found-at shows L v gs i _ lent (Some any) (Some any) (Some any) at refl refl)

  -- whether a worker has nothing says whether it is idle
  pub told-idle : (t : Bool) (o : Option A) → i < length gs → o ≡ slice_index_or gs i o → (t ≡ true) ↔ (o ≡ None)
      → (t ≡ true) ↔ IsIdle (books_of shows L v gs) i
  told-idle t o lt at told = said-idle shows L v gs i o t lt at (as-none t o told)
