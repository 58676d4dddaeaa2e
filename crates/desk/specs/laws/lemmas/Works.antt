-- Work on what is lent, and what the depot asks of a call that ends.
use Rattle.std.proofs.Common.{◌≡◌, ◌≢◌, ℕ, Bool, ◌+◌, ◌<◌, List, length, set, Option, Some, None, refl, sym, ap, ◌∙◌, subst, ⊎_elim}
use mathlib.Core.Option.{some, some-injective}
use mathlib.Core.Logic.{dite}
use native.Mathlib.Decide.{ℕ_discrete}
use lib.ListN.{get_elem?}
use Rattle.atomic_table.proofs.Lists.{at_set, set_here, set_else}
use Rattle.nfs_model.specs.Tree.{Affinity, excludes}
use Rattle.affinity.specs.declared.affinity.Kind.{Kind}
use Rattle.affinity.specs.Fault.{fault_of}
use Rattle.affinity.specs.Numbers.{number_of, parents}
use Rattle.affinity.specs.Ancestors.{Covers}
use Rattle.parcels.specs.Exact.{HasExactly}
use Rattle.depot_rule.specs.declared.view.View.{View}
use Rattle.depot_rule.specs.declared.view.Entry.{Entry}
use Rattle.depot_rule.specs.Sums.{total}
use Rattle.depot_rule.specs.History.{Behaviour, AreHands, patched, listed, after}
use Rattle.depot_rule.specs.lemmas.Covering.{patched-in, patched-out}
use Rattle.depot.specs.Grants.{HasWith, IsStep, HasInHand}
use Rattle.desk.specs.laws.Books.{Lent, Books, settled, now, HasLent, IsWorked, HasHands}
use Rattle.desk.specs.laws.Backing.{IsBacked, IsBook}
use Rattle.desk.specs.laws.lemmas.Overlays.{covers-or-not, overlaid-set, overlaid-here}
use Rattle.desk.specs.laws.lemmas.Seats.{at-length, covered-once}

module _ {P C R B : Type 0} (kind : P → Kind) (m : Behaviour P C R B) (b : Books P C R) (lawful : fault_of b.layout ≡ None) (v : View P (Entry P C R))
    (h : IsBook kind b v) (i : ℕ) (l : Lent P) (lent : HasLent b i l) where
  abbrev ps : List ℕ
  ps = parents b.layout

  the-same : (k : ℕ) → after v.tree (listed v.first) v.seen k ≡ settled b k
  the-same k = ap (λ (x : List ℕ × (ℕ → Option P) × List (Entry P C R)). after x.0 x.1 x.2 k) (λ j. (h.seat.0 j, sym h.first j, sym h.entries j))

  -- what the depot asks of a call that ends
  pub worked-step : (call : C) (reply : R) → IsWorked m b l call reply → IsStep m v (number_of b.layout l.affinity) call reply l.parcels
  worked-step call reply worked =
      let back = h.backed i l lent in (
        worked.0,
        (
          back.granted.0,
          back.granted.1,
          λ k pos lt c.
              back.granted.2 k pos lt c ∙ the-same k ∙ sym (worked.1 k pos (subst (λ (t : List ℕ). k < length t) h.seat.0 lt)
              (subst (λ (t : List ℕ). Covers t (number_of b.layout l.affinity) k) h.seat.0 c)),
        ),
        subst (λ (t : List ℕ). m.steps t (number_of b.layout l.affinity) call worked.0 reply l.parcels) (sym h.seat.0) worked.2,
      )

  pub in-hand : (call : C) (reply : R) (hand next : List B) → HasHands m b hand
      → ((weigh : B → ℕ) → total weigh (m.gives call reply) + total weigh next ≡ total weigh (m.takes call reply) + total weigh hand)
      → HasInHand m v call reply
  in-hand call reply hand next has moves = (
    hand,
    next,
    subst (λ (es : List (Entry P C R)). AreHands m.takes m.gives es hand) (h.entries ∙ sym h.own) has,
    moves,
  )

  -- what is lent as it was granted is what is given back
  pub as-granted : ((k : ℕ) → 0 < k → k < length ps → Covers ps (number_of b.layout l.affinity) k → l.parcels k ≡ settled b k)
      → HasWith v (number_of b.layout l.affinity) l.parcels
  as-granted same =
      let back = h.backed i l lent in (
        back.granted.0,
        back.granted.1,
        λ k pos lt c. back.granted.2 k pos lt c ∙ the-same k
            ∙ sym (same k pos (subst (λ (t : List ℕ). k < length t) h.seat.0 lt)
            (subst (λ (t : List ℕ). Covers t (number_of b.layout l.affinity) k) h.seat.0 c)),
      )

  -- ---- work

  module _ (g : ℕ → Option P) (exact : HasExactly kind b.layout l.affinity g) where
    abbrev l' : Lent P
    l' = record { affinity = l.affinity; parcels = g }

    abbrev pub worked_books : Books P C R
    worked_books = record b { lent = set b.lent i (Some l') }

    inner : (x y : Lent P) → Some x ≡ Some y → x ≡ y
    inner x y e = cc

    -- what was lent before
    was : (j : ℕ) (x : Lent P) → HasLent worked_books j x → (y : Lent P) × HasLent b j y × (y.affinity ≡ x.affinity)
    was j x at = ⊎_elim
        (λ (t : (j ≡ i) × (Some l' ≡ Some x)). (
          l,
          subst (λ (n : ℕ). get_elem? b.lent n ≡ some (Some l)) (sym t.0) lent,
          ap (λ (z : Lent P). z.affinity)
              (inner l' x t.1),
        ))
        (λ (t : (j ≢ i) × (get_elem? b.lent j ≡ some (Some x))). (x, t.1, refl))
        (at_set b.lent i j (Some l') (Some x) at)

    worked-backed : (j : ℕ) (x : Lent P) → HasLent worked_books j x → IsBacked kind b.layout v x
    worked-backed j x at = ⊎_elim
        (λ (t : (j ≡ i) × (Some l' ≡ Some x)). subst (λ (z : Lent P). IsBacked kind b.layout v z) (inner l' x t.1)
        (let back = h.backed i l lent in record { node = back.node; exact = exact; granted = back.granted }))
        (λ (t : (j ≢ i) × (get_elem? b.lent j ≡ some (Some x))). h.backed j x t.1)
        (at_set b.lent i j (Some l') (Some x) at)

    pub worked-book : IsBook kind worked_books v
    worked-book = record {
      seat = h.seat;
      only = h.only;
      first = h.first;
      entries = h.entries;
      own = h.own;
      backed = worked-backed;
      all = λ n g has.
          let old = h.all n g has in
          covers-here old.0 old.1 old.2 n old.3;
      apart = λ j k x y at there ne.
          let s = was j x at in let t = was k y there in
          ap (λ (z : Affinity × Affinity). excludes_of z) (λ q. (sym s.2 q, sym t.2 q)) ∙ h.apart j k s.0 t.0 s.1 t.1 ne;
    }
      where
        excludes_of : Affinity × Affinity → Bool
        excludes_of z = excludes b.layout z.0 z.1

        covers-here : (j : ℕ) (x : Lent P) → HasLent b j x → (n : ℕ) → number_of b.layout x.affinity ≡ n → (k : ℕ) × (y : Lent P) × HasLent worked_books k y
            × (number_of b.layout y.affinity ≡ n)
        covers-here j x at n is = dite (ℕ_discrete j i)
            (λ e. (
              i,
              l',
              set_here b.lent i (Some l') (at-length b.lent i (Some l) lent),
              ap (λ (z : Lent P). number_of b.layout z.affinity)
                  (inner l x (some-injective (Some l) (Some x) (sym lent ∙ subst (λ (q : ℕ). get_elem? b.lent q ≡ some (Some x)) e at))) ∙ is,
            ))
            (λ ne. (j, x, set_else b.lent i j (Some l') ne ∙ at, is))

    -- the parcels are as they were, but for those under the affinity
    pub worked-now : (k : ℕ) → now worked_books k ≡ patched ps (number_of b.layout l.affinity) g (now b) k
    worked-now k = covers-or-not ps (number_of b.layout l.affinity) k
        (λ c. overlaid-here b.layout (set b.lent i (Some l')) i l' (settled b) k (set_here b.lent i (Some l') (at-length b.lent i (Some l) lent)) c
        (λ j x at ne d. ⊎_elim
        (λ (t : (j ≡ i) × (Some l' ≡ Some x)). ne t.0)
        (λ (t : (j ≢ i) × (get_elem? b.lent j ≡ some (Some x))). covered-once kind b lawful v h i j l x lent t.1 t.0 k c d)
        (at_set b.lent i j (Some l') (Some x) at))
        ∙ sym (patched-in ps (number_of b.layout l.affinity) g (now b) k c))
        (λ out. overlaid-set b.layout b.lent i (Some l') (Some l) (settled b) k lent
        (λ x e d. out (subst (λ (z : Lent P). Covers ps (number_of b.layout z.affinity) k) (sym (inner l x e)) d))
        (λ x e d. out (subst (λ (z : Lent P). Covers ps (number_of b.layout z.affinity) k) (sym (inner l' x e)) d))
        ∙ sym (patched-out ps (number_of b.layout l.affinity) g (now b) k out))
