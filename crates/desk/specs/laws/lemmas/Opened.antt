-- A desk at the start, and at the end.
use Rattle.std.proofs.Common.{◌≡◌, ℕ, zero, suc, ◌+◌, ◌<◌, List, [], ◌∷◌, length, map, replicate, Option, Some, None, refl, sym, ap, ◌∙◌, subst}
use Rattle.std.specs.Prelude.{option_map}
use mathlib.Core.Option.{some, some-injective, some-ne-none}
use lib.ListN.{get_elem?}
use Rattle.nfs_model.specs.Tree.{Layout}
use Rattle.affinity.specs.declared.affinity.Kind.{Kind}
use Rattle.affinity.specs.Numbers.{node_count, parents}
use Rattle.depot_rule.specs.declared.view.View.{View}
use Rattle.depot_rule.specs.declared.view.Entry.{Entry}
use Rattle.depot_rule.specs.Shares.{Has, opening_view}
use Rattle.depot_rule.specs.History.{Behaviour, by_number, listed, after, entries_of}
use Rattle.depot.specs.Grants.{IsSeatOf, IsClosed}
use Rattle.desk.specs.laws.Books.{Lent, HasLent, opening_books}
use Rattle.desk.specs.laws.Backing.{Shows, books_of, IsBook}
use Rattle.desk.specs.laws.Calls.{AreIdle, AreSettled}

none-at : {A : Type 0} (n i : ℕ) (x : A) → get_elem? (replicate n None) i ≡ some (Some x) → ⊥
none-at zero i x e = some-ne-none (Some x) (sym e)
none-at (suc n) zero x e = let bad : None ≡ Some x = some-injective None (Some x) e in let no_way : ⊥ = cc in no_way
none-at (suc n) (suc i) x e = none-at n i x e

map-none : {A B : Type 0} (f : A → B) (n : ℕ) → map (λ g. option_map f g) (replicate n None) ≡ replicate n None
map-none f zero = refl
map-none f (suc n) = ap (λ xs. None ∷ xs) (map-none f n)

module _ {P C R G : Type 0} (shows : Shows G P) (kind : P → Kind) (L : Layout) (f : ℕ → Option P) (v : View P (Entry P C R)) (n : ℕ)
    (made : v ≡ opening_view (parents L) (by_number f (1 + node_count L))) where
  opened-so : books_of shows L v (replicate n None) ≡ opening_books L f n
  opened-so = ap (λ (x : View P (Entry P C R)). books_of shows L x (replicate n None)) made
      ∙ ap (λ (ls : List (Option (Lent P))). record { layout = L; first = listed (by_number f (1 + node_count L)); entries = []; lent = ls })
      (map-none (shows L) n)

  none-lent-yet : (i : ℕ) (l : Lent P) → HasLent (books_of shows L v (replicate n None)) i l → ⊥
  none-lent-yet i l at = none-at n i l (ap (λ (ls : List (Option (Lent P))). get_elem? ls i) (sym (map-none (shows L) n)) ∙ at)

  opened-desk : IsSeatOf kind L v → IsBook kind (books_of shows L v (replicate n None)) v
  opened-desk seat = record {
    seat = seat;
    only = ap (λ (x : View P (Entry P C R)). x.parts) made;
    first = refl;
    entries = refl;
    own = subst (λ (x : View P (Entry P C R)). entries_of x ≡ x.seen) (sym made) refl;
    backed = λ i l at. absurd (none-lent-yet i l at);
    all = λ b g has. absurd (none-at (length (parents L)) b g (ap (λ (x : View P (Entry P C R)). get_elem? x.held b) (sym made) ∙ has));
    apart = λ i j l k at there ne. absurd (none-lent-yet i l at);
  }

-- the same of a depot's own layout, and of grants that are none
module _ {P C R G : Type 0} (shows : Shows G P) (kind : P → Kind) (L K : Layout) (f : ℕ → Option P) (v : View P (Entry P C R)) (n : ℕ) (gs : List (Option G))
    (layout : L ≡ K) (made : v ≡ opening_view (parents K) (by_number f (1 + node_count K))) (none : gs ≡ replicate n None) where
  pub opened-kept : IsSeatOf kind L v → IsBook kind (books_of shows L v gs) v
  opened-kept seat =
      subst (λ (x : Layout × List (Option G)). IsBook kind (books_of shows x.0 v x.1) v) (λ i. (sym layout i, sym none i))
      (opened-desk shows kind K f v n made (subst (λ (l : Layout). IsSeatOf kind l v) layout seat))

  pub opened-books : books_of shows L v gs ≡ opening_books K f n
  opened-books = ap (λ (x : Layout × List (Option G)). books_of shows x.0 v x.1) (λ i. (layout i, none i)) ∙ opened-so shows kind K f v n made

module _ {P C R B G : Type 0} (shows : Shows G P) (kind : P → Kind) (m : Behaviour P C R B) (L : Layout) (v : View P (Entry P C R)) (gs : List (Option G))
    (h : IsBook kind (books_of shows L v gs) v) where
  -- where nothing is lent the seat has no grant
  pub none-open : AreIdle (books_of shows L v gs) → (b : ℕ) (g : List (Option P)) → Has v b g → ⊥
  none-open idle b g has = let a = h.all b g has in idle a.0 a.1 a.2

  -- the depot gives the parcels as the finished calls left them
  pub closed-so : (f : ℕ → Option P) → IsClosed m v f → AreSettled (books_of shows L v gs) f
  closed-so f closed k pos lt =
      closed.4 k pos (subst (λ (ps : List ℕ). k < length ps) (sym h.seat.0) lt)
      ∙ ap (λ (ps : List ℕ). after ps (listed v.first) v.seen k) h.seat.0
