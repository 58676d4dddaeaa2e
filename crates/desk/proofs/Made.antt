-- A call of an idle worker that begins, works and ends at once, told by the desk's seat and its grants.
use Rattle.std.proofs.Common.{◌≡◌, ℕ, zero, suc, List, [], ◌∷◌, map, set, Option, Some, None, Result, Ok, Err, refl, sym, ap, ◌∙◌, subst}
use Rattle.std.specs.Prelude.{option_map}
use mathlib.Core.Option.{some, some-injective, some-ne-none}
use lib.ListN.{get_elem?}
use Rattle.atomic_table.proofs.Lists.{set_here, set_again}
use Rattle.nfs_model.specs.Tree.{Layout, Affinity}
use Rattle.affinity.specs.declared.affinity.Kind.{Kind}
use Rattle.affinity.specs.Fault.{fault_of}
use Rattle.affinity.specs.Numbers.{number_of}
use Rattle.affinity.specs.Tree.{IsNode}
use Rattle.depot_rule.specs.declared.view.View.{View}
use Rattle.depot_rule.specs.declared.view.Entry.{Entry}
use Rattle.depot_rule.specs.History.{Behaviour}
use Rattle.depot.specs.Grants.{entry_of, IsEnded, IsFinished}
use Rattle.desk.specs.laws.Books.{Lent, Books, IsIdle}
use Rattle.desk.specs.laws.Backing.{books_of, IsBook, IsGranted, IsWhole, IsDone, CanFinish, CanPutBack}
use Rattle.desk.specs.laws.Calls.{Asks, DoesTask, HasBegun, HasWorked, MayFinish, HasFinished, MayPutBack, HasPutBack, AreApart, MayEnd, HasEnded, MayMake}
use Rattle.desk.specs.laws.Calls.{HasMade}
use Rattle.desk.specs.laws.lemmas.Begins.{in-room, begun-desk, begun-so}
use Rattle.desk.specs.laws.lemmas.Ends.{any-backed, any-lent, can-work, changed-desk, changed-so, can-finish, finished-desk, finished-so}
use Rattle.desk.specs.laws.lemmas.Ends.{can-put-back, back-desk, back-so}
use Rattle.desk.specs.Slots.{shown}

-- ---- a worker's place in a list

idle-at : {A B : Type 0} (f : A → B) (gs : List (Option A)) (i : ℕ) → get_elem? (map (λ g. option_map f g) gs) i ≡ some None → get_elem? gs i ≡ some None
idle-at f [] i at = absurd (some-ne-none None (sym at))
idle-at f (None ∷ gs) zero at = refl
idle-at f (Some g ∷ gs) zero at = absurd (let bad : Some (f g) ≡ None = some-injective (Some (f g)) None at in cc)
idle-at f (g ∷ gs) (suc i) at = idle-at f gs i at

set-twice : {X : Type 0} (xs : List X) (i : ℕ) (x y : X) → set (set xs i x) i y ≡ set xs i y
set-twice [] i x y = refl
set-twice (z ∷ xs) zero x y = refl
set-twice (z ∷ xs) (suc i) x y = ap (λ zs. z ∷ zs) (set-twice xs i x y)

-- ---- the call

module _ {P C R B A U : Type 0} (kind : P → Kind) (m : Behaviour P C R B) (L : Layout) (lawful : fault_of L ≡ None) (v w : View P (Entry P C R))
    (gs : List (Option (Layout → Lent P))) (h : IsBook kind (books_of shown L v gs) v) (a : Affinity) (node : IsNode L a) (i : ℕ)
    (idle : IsIdle (books_of shown L v gs) i) (any : Layout → Lent P) (granted : IsGranted kind m L v a (any L) w) (entered : A → R) (asks : Asks P)
    (does : DoesTask P (Result A U)) (call : C) (may : MayMake m entered asks does (books_of shown L v gs) i a call) where
  abbrev lent : List (Option (Layout → Lent P))
  lent = set gs i (Some any)

  abbrev b : Books P C R
  b = books_of shown L w lent

  kept1 : IsBook kind b w
  kept1 = begun-desk shown kind m L lawful v w gs h a node i idle any granted

  begins : HasBegun (books_of shown L v gs) i a b
  begins = begun-so shown kind m L lawful v w gs h a node i idle any granted

  apart : AreApart b
  apart = record { node = λ j l at. (kept1.backed j l at).node; apart = kept1.apart }

  here : get_elem? lent i ≡ some (Some any)
  here = set_here gs i (Some any) (in-room shown L v gs i None idle)

  -- it may work on what it was lent
  pub asked : asks L (any L).affinity (any L).parcels
  asked = can-work shown kind L lawful w lent kept1 i any here asks (may b begins apart).0

  pub on_node : IsNode L (any L).affinity
  on_node = (any-backed shown kind L lawful w lent kept1 i any here).node

  pub whole : IsWhole kind L (any L)
  whole = record { exact = (any-backed shown kind L lawful w lent kept1 i any here).exact }

  module _ (outcome : Result A U) (next : Layout → Lent P) (done : IsDone does L (any L) outcome (next L)) (is_whole : IsWhole kind L (next L)) where
    abbrev left : List (Option (Layout → Lent P))
    left = set lent i (Some next)

    abbrev c : Books P C R
    c = books_of shown L w left

    kept2 : IsBook kind c w
    kept2 = changed-desk shown kind L lawful w lent kept1 i any here does outcome next done.affinity is_whole.exact

    works : HasWorked does b i outcome c
    works = changed-so shown kind L lawful w lent kept1 i any here does outcome next done.affinity is_whole.exact done.did

    may_end : MayEnd m entered c i call outcome
    may_end = (may b begins apart).1 outcome c works

    there : get_elem? left i ≡ some (Some next)
    there = set_here lent i (Some next) (in-room shown L w lent i (Some (any L)) (any-lent shown L w lent i any here))

    -- once it is home, all that is lent is as it was
    last : set left i None ≡ gs
    last = set-twice lent i (Some next) None ∙ set-twice gs i (Some any) None ∙ set_again gs i None (idle-at (λ g. shown L g) gs i idle)

    made : (d : Books P C R) → HasEnded m entered c i call outcome d → HasMade m entered does (books_of shown L v gs) i a call outcome d
    made d ends = record { begun = b; begins = begins; apart = apart; worked = c; works = works; ends = ends }

    -- ---- it is done

    module _ (reply : A) (is : outcome ≡ Ok reply) where
      may_finish : MayFinish m c i call (entered reply)
      may_finish = subst (λ (o : Result A U). MayEnd m entered c i call o) is may_end

      pub can : CanFinish kind m L w (next L) call (entered reply)
      can = can-finish shown kind L lawful w left kept2 i next there m call (entered reply) may_finish

      module _ (u : View P (Entry P C R))
          (finished : IsFinished m w (number_of L (next L).affinity) (entry_of L (next L).affinity (next L).parcels call (entered reply)) u) where
        pub done-kept : IsBook kind (books_of shown L u gs) u
        done-kept = subst (λ (xs : List (Option (Layout → Lent P))). IsBook kind (books_of shown L u xs) u) last
            (finished-desk shown kind L lawful w left kept2 i next there m call (entered reply) may_finish u finished)

        pub done-made : HasMade m entered does (books_of shown L v gs) i a call (Ok reply) (books_of shown L u gs)
        done-made =
            subst (λ (o : Result A U). HasEnded m entered c i call o (books_of shown L u gs)
            → HasMade m entered does (books_of shown L v gs) i a call o (books_of shown L u gs)) is (made (books_of shown L u gs))
            (subst (λ (xs : List (Option (Layout → Lent P))). HasFinished m c i call (entered reply) (books_of shown L u xs)) last
            (finished-so shown kind L lawful w left kept2 i next there m call (entered reply) may_finish u finished))

    -- ---- it isn't

    module _ (undone : U) (is : outcome ≡ Err undone) where
      may_go_back : MayPutBack c i
      may_go_back = subst (λ (o : Result A U). MayEnd m entered c i call o) is may_end

      pub can-back : CanPutBack L w (next L)
      can-back = can-put-back shown kind L lawful w left kept2 i next there may_go_back.lent may_go_back.is_lent may_go_back.unchanged

      module _ (u : View P (Entry P C R)) (ended : IsEnded w (number_of L (next L).affinity) u) where
        pub back-kept : IsBook kind (books_of shown L u gs) u
        back-kept = subst (λ (xs : List (Option (Layout → Lent P))). IsBook kind (books_of shown L u xs) u) last
            (back-desk shown kind L lawful w left kept2 i next there may_go_back.lent may_go_back.is_lent may_go_back.unchanged u ended)

        pub back-made : HasMade m entered does (books_of shown L v gs) i a call (Err undone) (books_of shown L u gs)
        back-made =
            subst (λ (o : Result A U). HasEnded m entered c i call o (books_of shown L u gs)
            → HasMade m entered does (books_of shown L v gs) i a call o (books_of shown L u gs)) is (made (books_of shown L u gs))
            (subst (λ (xs : List (Option (Layout → Lent P))). HasPutBack c i (books_of shown L u xs)) last
            (back-so shown kind L lawful w left kept2 i next there may_go_back.lent may_go_back.is_lent may_go_back.unchanged u ended))
