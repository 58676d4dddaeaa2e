-- A call on a desk that begins, told by its seat and its grants.
use Rattle.std.proofs.Common.{◌≡◌, ◌<◌, ◌≤◌, ℕ, zero, suc, List, [], ◌∷◌, length, map, set, arith, Option, Some, None, refl, sym, ap, ◌∙◌, subst}
use Rattle.std.specs.Prelude.{option_map}
use mathlib.Core.Option.{some}
use lib.ListN.{get_elem?}
use Rattle.nfs_model.specs.Tree.{Layout, Affinity}
use Rattle.affinity.specs.declared.affinity.Kind.{Kind}
use Rattle.affinity.specs.Fault.{fault_of}
use Rattle.affinity.specs.Tree.{IsNode}
use Rattle.affinity.specs.Ancestors.{Covers}
use Rattle.affinity.specs.Numbers.{number_of}
use Rattle.parcels.specs.Exact.{HasExactly}
use Rattle.depot_rule.specs.declared.view.View.{View}
use Rattle.depot_rule.specs.declared.view.Read.{Read}
use Rattle.depot_rule.specs.declared.view.Entry.{Entry}
use Rattle.depot_rule.specs.Shares.{worn}
use Rattle.depot_rule.specs.History.{Behaviour, listed, after}
use Rattle.depot.specs.Calls.{IsExcluded}
use Rattle.depot.specs.Grants.{HasRead}
use Rattle.depot.specs.Grants as depots
use Rattle.desk.specs.laws.Books.{Lent, Books, stamps, IsIdle, IsTaken, IsUnchanged, IsSame}
use Rattle.desk.specs.laws.Backing.{Shows, books_of, IsBook, IsGranted}
use Rattle.desk.specs.laws.Calls.{HasBegun}
use Rattle.desk.specs.laws.lemmas.Seats.{at-length, begun-book, begun-free, begun-low, begun-same, refused-taken}

pub map-set : {A B : Type 0} (f : A → B) (xs : List A) (i : ℕ) (x : A) → map f (set xs i x) ≡ set (map f xs) i (f x)
map-set f [] i x = refl
map-set f (y ∷ ys) zero x = refl
map-set f (y ∷ ys) (suc i) x = ap (λ zs. f y ∷ zs) (map-set f ys i x)

length-map : {A B : Type 0} (f : A → B) (xs : List A) → length (map f xs) ≡ length xs
length-map f [] = refl
length-map f (x ∷ xs) = ap suc (length-map f xs)

module _ {P C R G : Type 0} (shows : Shows G P) (L : Layout) where
  -- a worker's slot
  pub in-room : (v : View P (Entry P C R)) (gs : List (Option G)) (i : ℕ) (x : Option (Lent P)) → get_elem? (books_of shows L v gs).lent i ≡ some x
      → i < length gs
  in-room v gs i x at =
      let l = at-length (books_of shows L v gs).lent i x at in
      let m = length-map (λ g. option_map (shows L) g) gs in omega arith

  -- the books are those of the seat's view
  pub books-are : (kind : P → Kind) (gs : List (Option G)) (c : Books P C R) (w : View P (Entry P C R)) → IsBook kind c w → c.layout ≡ L
      → c.lent ≡ map (λ g. option_map (shows L) g) gs → c ≡ books_of shows L w gs
  books-are kind gs c w h layout lent = λ i. record { layout = layout i; first = h.first i; entries = h.entries i; lent = lent i }

module _ {P C R B G : Type 0} (shows : Shows G P) (kind : P → Kind) (m : Behaviour P C R B) (L : Layout) (lawful : fault_of L ≡ None)
    (v w : View P (Entry P C R)) (gs : List (Option G)) (h : IsBook kind (books_of shows L v gs) v) (a : Affinity) (node : IsNode L a) where
  module _ (i : ℕ) (idle : IsIdle (books_of shows L v gs) i) (any : G) (granted : IsGranted kind m L v a (shows L any) w) where
    exact-at : HasExactly kind L a (shows L any).parcels
    exact-at = subst (λ (x : Affinity). HasExactly kind L x (shows L any).parcels) granted.affinity granted.exact

    begun-at : depots.IsBegun v (number_of L a) (shows L any).parcels w
    begun-at = subst (λ (x : Affinity). depots.IsBegun v (number_of L x) (shows L any).parcels w) granted.affinity granted.begun

    after-at : depots.IsAfter m v (number_of L a) (shows L any).parcels
    after-at = subst (λ (x : Affinity). depots.IsAfter m v (number_of L x) (shows L any).parcels) granted.affinity granted.after

    same : (k : ℕ) → 0 < k → k < length v.tree → Covers v.tree (number_of L a) k → (shows L any).parcels k ≡ after v.tree (listed v.first) v.seen k
    same k pos lt c = after-at.4 k pos lt c ∙ ap (λ (es : List (Entry P C R)). after v.tree (listed v.first) es k) (after-at.3 h.only)

    as-left : IsUnchanged (books_of shows L v gs) (record { affinity = a; parcels = (shows L any).parcels })
    as-left k pos lt c =
        same k pos (subst (λ (t : List ℕ). k < length t) (sym h.seat.0) lt) (subst (λ (t : List ℕ). Covers t (number_of L a) k) (sym h.seat.0) c)
        ∙ ap (λ (t : List ℕ). after t (listed v.first) v.seen k) h.seat.0

    abbrev new : Books P C R
    new = record (books_of shows L v gs) { lent = set (books_of shows L v gs).lent i (Some (record { affinity = a; parcels = (shows L any).parcels })) }

    lent-is : new.lent ≡ map (λ g. option_map (shows L) g) (set gs i (Some any))
    lent-is = ap (λ (x : Affinity). set (books_of shows L v gs).lent i (Some (record { affinity = x; parcels = (shows L any).parcels })))
        (sym granted.affinity) ∙ sym (map-set (λ g. option_map (shows L) g) gs i (Some any))

    book : IsBook kind new w
    book = begun-book kind (books_of shows L v gs) lawful v h i idle a node (shows L any).parcels exact-at w begun-at same

    new-is : new ≡ books_of shows L w (set gs i (Some any))
    new-is = books-are shows L kind (set gs i (Some any)) new w book refl lent-is

    pub begun-desk : IsBook kind (books_of shows L w (set gs i (Some any))) w
    begun-desk = subst (λ (c : Books P C R). IsBook kind c w) new-is book

    pub begun-so : HasBegun (books_of shows L v gs) i a (books_of shows L w (set gs i (Some any)))
    begun-so = record {
      free = begun-free kind (books_of shows L v gs) lawful v h i idle a node (shows L any).parcels exact-at w begun-at same;
      low = begun-low kind (books_of shows L v gs) lawful v h i idle a node (shows L any).parcels exact-at w begun-at same;
      parcels = (shows L any).parcels;
      unchanged = as-left;
      books = sym new-is;
      same = subst (λ (c : Books P C R). IsSame (books_of shows L v gs) c) new-is
          (begun-same kind (books_of shows L v gs) lawful v h i idle a node (shows L any).parcels exact-at w begun-at same);
    }

  -- a call that is refused adds reads alone
  module _ (looked : ℕ) (more : List Read) (read : HasRead v looked more w) where
    pub read-books : books_of shows L w gs ≡ books_of shows L v gs
    read-books = ap (λ (x : View P (Entry P C R)). books_of shows L x gs) read

    pub read-desk : IsBook kind (books_of shows L w gs) w
    read-desk = subst (λ (x : View P (Entry P C R)). IsBook kind (books_of shows L x gs) x) (sym read) (record {
      seat = h.seat;
      only = h.only;
      first = refl;
      entries = refl;
      own = h.own;
      backed = λ j l at. let back = h.backed j l at in record { node = back.node; exact = back.exact; granted = back.granted };
      all = h.all;
      apart = h.apart;
    })

  pub taken-so : (IsExcluded v (number_of L a)) → IsTaken (books_of shows L v gs) a
  taken-so excluded = refused-taken kind (books_of shows L v gs) lawful v h a node excluded

  -- the ticket of the only seat is worn exactly when 2^62 calls were finished
  pub worn-so : depots.IsWorn v w → worn ≤ stamps (books_of shows L v gs)
  worn-so worn_so = let most = (worn_so.3 h.only).1 in most
