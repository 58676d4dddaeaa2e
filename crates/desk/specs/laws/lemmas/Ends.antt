-- A call on a desk that ends, and work before that, told by the desk's seat and its grants.
use Rattle.std.proofs.Common.{◌≡◌, ◌≢◌, ◌<◌, ℕ, List, [], ◌∷◌, ◌++◌, length, map, set, Option, Some, None, refl, sym, ap, ◌∙◌, subst}
use Rattle.std.specs.Prelude.{option_map, slice_index_or}
use mathlib.Core.Option.{some, some-injective}
use lib.ListN.{get_elem?}
use Rattle.atomic_table.proofs.Lists.{at_map, at_index}
use Rattle.nfs_model.specs.Tree.{Layout, Affinity}
use Rattle.affinity.specs.declared.affinity.Kind.{Kind}
use Rattle.affinity.specs.Fault.{fault_of}
use Rattle.affinity.specs.Numbers.{number_of}
use Rattle.parcels.specs.Exact.{HasExactly}
use Rattle.depot_rule.specs.declared.view.View.{View}
use Rattle.depot_rule.specs.declared.view.Entry.{Entry}
use Rattle.depot_rule.specs.History.{Behaviour}
use Rattle.depot.specs.Grants.{entry_of, IsEnded, IsFinished}
use Rattle.desk.specs.laws.Books.{Lent, Books, settled, now, HasLent, UnderLent, IsSame, IsWorked, IsUnchanged, IsSettled}
use Rattle.desk.specs.laws.Backing.{Shows, books_of, IsBacked, IsBook, CanFinish, CanPutBack}
use Rattle.desk.specs.laws.Calls.{Asks, DoesTask, HasPutBack, MayWork, MayFinish, HasFinished, HasWorked}
use Rattle.desk.specs.laws.lemmas.Seats.{back-book, back-same, finished-book, finished-same, finished-others, finished-settled}
use Rattle.desk.specs.laws.lemmas.Works.{worked-step, in-hand, as-granted, worked-book, worked-now}
use Rattle.desk.specs.laws.lemmas.Begins.{in-room, map-set, books-are}

inside : {A : Type 0} (x y : A) → Some x ≡ Some y → x ≡ y
inside x y e = cc

-- what an index found
found : {G : Type 0} (gs : List (Option G)) (i : ℕ) (there result x : Option G) → i < length gs → there ≡ slice_index_or gs i there → result ≡ there
    → result ≡ x → get_elem? gs i ≡ some x
found gs i there result x room is same e = at_index gs i there room is ∙ ap some (sym same ∙ e)

module _ {P C R G : Type 0} (shows : Shows G P) (L : Layout) (v : View P (Entry P C R)) (gs : List (Option G)) (i : ℕ) where
  -- the same at the slot of a worker
  pub found-at : (o : Option (Lent P)) → get_elem? (books_of shows L v gs).lent i ≡ some o → (there result x : Option G)
      → there ≡ slice_index_or gs i there → result ≡ there → result ≡ x → get_elem? gs i ≡ some x
  found-at o lent there result x = found gs i there result x (in-room shows L v gs i o lent)

  -- what a worker has was lent to it
  pub any-lent : (any : G) → get_elem? gs i ≡ some (Some any) → HasLent (books_of shows L v gs) i (shows L any)
  any-lent any at = at_map (λ g. option_map (shows L) g) gs i (Some any) at

  pub none-lent : (l : Lent P) → HasLent (books_of shows L v gs) i l → get_elem? gs i ≡ some None → ⊥
  none-lent l there at =
      let none : get_elem? (books_of shows L v gs).lent i ≡ some None = at_map (λ g. option_map (shows L) g) gs i None at in
      let bad : None ≡ Some l = some-injective None (Some l) (sym none ∙ there) in cc

module _ {P C R G : Type 0} (shows : Shows G P) (kind : P → Kind) (L : Layout) (lawful : fault_of L ≡ None) (v : View P (Entry P C R))
    (gs : List (Option G)) (h : IsBook kind (books_of shows L v gs) v) (i : ℕ) (any : G) (at : get_elem? gs i ≡ some (Some any)) where
  abbrev b : Books P C R
  b = books_of shows L v gs

  abbrev l : Lent P
  l = shows L any

  abbrev lent : HasLent b i l
  lent = any-lent shows L v gs i any at

  pub any-backed : IsBacked kind L v l
  any-backed = h.backed i l lent

  the-one : (m : Lent P) → HasLent b i m → m ≡ l
  the-one m there = inside m l (some-injective (Some m) (Some l) (sym there ∙ lent))

  lent-is : set b.lent i None ≡ map (λ g. option_map (shows L) g) (set gs i None)
  lent-is = sym (map-set (λ g. option_map (shows L) g) gs i None)

  -- ---- the call is finished

  module _ {B : Type 0} (m : Behaviour P C R B) (call : C) (reply : R) (may : MayFinish m b i call reply) where
    worked : IsWorked m b l call reply
    worked = subst (λ (x : Lent P). IsWorked m b x call reply) (the-one may.lent may.is_lent) may.worked

    pub can-finish : CanFinish kind m L v l call reply
    can-finish = record {
      node = any-backed.node;
      exact = any-backed.exact;
      step = worked-step kind m b lawful v h i l lent call reply worked;
      hand = in-hand kind m b lawful v h i l lent call reply may.hands may.next may.are_hands may.moves;
    }

    module _ (w : View P (Entry P C R)) (finished : IsFinished m v (number_of L l.affinity) (entry_of L l.affinity l.parcels call reply) w) where
      abbrev new : Books P C R
      new = record b { entries = b.entries ++ entry_of L l.affinity l.parcels call reply ∷ []; lent = set b.lent i None }

      book : IsBook kind new w
      book = finished-book kind b lawful v h m i l lent call reply w finished

      new-is : new ≡ books_of shows L w (set gs i None)
      new-is = books-are shows L kind (set gs i None) new w book refl lent-is

      pub finished-desk : IsBook kind (books_of shows L w (set gs i None)) w
      finished-desk = subst (λ (c : Books P C R). IsBook kind c w) new-is book

      pub finished-so : HasFinished m b i call reply (books_of shows L w (set gs i None))
      finished-so = record {
        lent = l;
        is_lent = lent;
        books = sym new-is;
        same = subst (λ (c : Books P C R). IsSame b c) new-is (finished-same kind b lawful v h m i l lent call reply w finished);
        others = subst (λ (c : Books P C R). (j : ℕ) (x : Lent P) → HasLent b j x → j ≢ i → UnderLent b x (λ k. settled c k ≡ settled b k)) new-is
            (finished-others kind b lawful v h m i l lent call reply w finished);
        keeps = subst (λ (c : Books P C R). IsSettled m c) new-is (finished-settled kind b lawful v h m i l lent call reply w finished);
      }

  -- ---- what was lent is put back

  module _ (x : Lent P) (there : HasLent b i x) (unchanged : IsUnchanged b x) where
    still : IsUnchanged b l
    still = subst (λ (y : Lent P). IsUnchanged b y) (the-one x there) unchanged

    nothing : Behaviour P C R (Unit {0})
    nothing = record { steps = λ ps n c f r g. Unit {0}; takes = λ c r. []; gives = λ c r. []; invariant = λ ps f hs n. Unit {0} }

    pub can-put-back : CanPutBack L v l
    can-put-back = record { node = any-backed.node; as_granted = as-granted kind nothing b lawful v h i l lent still }

    module _ (w : View P (Entry P C R)) (ended : IsEnded v (number_of L l.affinity) w) where
      abbrev home : Books P C R
      home = record b { lent = set b.lent i None }

      home-book : IsBook kind home w
      home-book = back-book kind b lawful v h i l lent w ended still

      home-is : home ≡ books_of shows L w (set gs i None)
      home-is = books-are shows L kind (set gs i None) home w home-book refl lent-is

      pub back-desk : IsBook kind (books_of shows L w (set gs i None)) w
      back-desk = subst (λ (c : Books P C R). IsBook kind c w) home-is home-book

      pub back-so : HasPutBack b i (books_of shows L w (set gs i None))
      back-so = record {
        books = sym home-is;
        same = subst (λ (c : Books P C R). IsSame b c) home-is (back-same kind b lawful v h i l lent w ended still);
      }

  -- ---- what was lent is changed

  pub can-work : (asks : Asks P) → MayWork asks b i → asks L l.affinity l.parcels
  can-work asks may = subst (λ (x : Lent P). asks L x.affinity x.parcels) (the-one may.lent may.is_lent) may.fits

  module _ {O : Type 0} (does : DoesTask P O) (outcome : O) (next : G) (same : (shows L next).affinity ≡ l.affinity)
      (exact : HasExactly kind L (shows L next).affinity (shows L next).parcels) where
    exact-so : HasExactly kind L l.affinity (shows L next).parcels
    exact-so = subst (λ (a : Affinity). HasExactly kind L a (shows L next).parcels) same exact

    none : Behaviour P C R (Unit {0})
    none = record { steps = λ ps n c f r g. Unit {0}; takes = λ c r. []; gives = λ c r. []; invariant = λ ps f hs n. Unit {0} }

    abbrev changed : Books P C R
    changed = record b { lent = set b.lent i (Some (record { affinity = l.affinity; parcels = (shows L next).parcels })) }

    changed-book : IsBook kind changed v
    changed-book = worked-book kind none b lawful v h i l lent (shows L next).parcels exact-so

    changed-is : changed ≡ books_of shows L v (set gs i (Some next))
    changed-is = books-are shows L kind (set gs i (Some next)) changed v changed-book refl
        (ap (λ (a : Affinity). set b.lent i (Some (record { affinity = a; parcels = (shows L next).parcels }))) (sym same)
        ∙ sym (map-set (λ g. option_map (shows L) g) gs i (Some next)))

    pub changed-desk : IsBook kind (books_of shows L v (set gs i (Some next))) v
    changed-desk = subst (λ (c : Books P C R). IsBook kind c v) changed-is changed-book

    pub changed-so : does L l.affinity l.parcels outcome (shows L next).parcels → HasWorked does b i outcome (books_of shows L v (set gs i (Some next)))
    changed-so did = record {
      lent = l;
      is_lent = lent;
      parcels = (shows L next).parcels;
      did = did;
      books = sym changed-is;
      now_is = λ k. ap (λ (c : Books P C R). now c k) (sym changed-is) ∙ worked-now kind none b lawful v h i l lent (shows L next).parcels exact-so k;
    }
