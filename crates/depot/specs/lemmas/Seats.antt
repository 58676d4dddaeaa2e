-- What is known of a seat after each call.
use Rattle.std.proofs.Common.{◌≡◌, ◌≢◌, ℕ, zero, suc, List, [], ◌∷◌, ◌++◌, set, sym, refl, ap, ◌∙◌, subst, arith, ⊎_elim, Option, Some, None}
use mathlib.Core.Option.{some, some-ne-none}
use lib.ListN.{get_elem?}
use Rattle.atomic_table.proofs.Lists.{at_set}
use Rattle.depot_rule.specs.declared.view.View.{View}
use Rattle.depot_rule.specs.declared.view.Entry.{Entry}
use Rattle.depot_rule.specs.Sums.{total}
use Rattle.depot_rule.specs.Shares.{Has}
use Rattle.depot_rule.specs.History.{Behaviour, AreHands, entries_of}
use Rattle.depot.specs.Grants.{ListsAs, HasWith, IsBegun, IsAfter, IsEnded, IsFinished, HasInHand, HasGoneOn}

set-there : {A : Type 0} (xs : List A) (i : ℕ) (x y : A) → get_elem? xs i ≡ some x → get_elem? (set xs i y) i ≡ some y
set-there [] i x y e = absurd (some-ne-none x (sym e))
set-there (z ∷ zs) zero x y e = refl
set-there (z ∷ zs) (suc i) x y e = set-there zs i x y e

module _ {P E : Type 0} where
  -- what was granted is there to be put back
  pub begun-with : (v w : View P E) (b : ℕ) (f : ℕ → Option P) → IsBegun v b f w → HasWith w b f
  begun-with v w b f begun = (
    begun.0,
    ap (λ u. get_elem? u.held b) begun.3 ∙ set-there v.held b None (Some begun.0) begun.5,
    subst (λ (u : View _ _). ListsAs u b begun.0 f) (sym begun.3) begun.4,
  )

  -- ---- the seat's entries

  pub begun-entries : (v w : View P E) (b : ℕ) (f : ℕ → Option P) → IsBegun v b f w → entries_of w ≡ entries_of v
  begun-entries v w b f begun = ap entries_of begun.3

  pub ended-entries : (v w : View P E) (b : ℕ) → IsEnded v b w → entries_of w ≡ entries_of v
  ended-entries v w b ended = ap entries_of ended.2

  -- ---- the seat's grants

  -- a grant that a seat has after one was ended was there before, and isn't that one
  ended-others : (v w : View P E) (b : ℕ) → IsEnded v b w → (c : ℕ) (g : List (Option P)) → Has w c g → (c ≢ b) × Has v c g
  ended-others v w b ended c g has = ⊎_elim
      (λ (t : (c ≡ b) × (None ≡ Some g)). absurd (let bad : None ≡ Some g = t.1 in let no_way : ⊥ = cc in no_way))
      (λ (t : (c ≢ b) × (get_elem? v.held c ≡ some (Some g))). t)
      (at_set v.held b c None (Some g) (sym (ap (λ u. get_elem? u.held c) ended.2) ∙ has))

  -- and one that it has after one was begun was there before, or is that one
  begun-others : (v w : View P E) (b : ℕ) (f : ℕ → Option P) → IsBegun v b f w → (c : ℕ) (g : List (Option P)) → c ≢ b → Has w c g → Has v c g
  begun-others v w b f begun c g ne has = ⊎_elim
      (λ (t : (c ≡ b) × (Some begun.0 ≡ Some g)). absurd (ne t.0))
      (λ (t : (c ≢ b) × (get_elem? v.held c ≡ some (Some g))). t.1)
      (at_set v.held b c (Some begun.0) (Some g) (sym (ap (λ u. get_elem? u.held c) begun.3) ∙ has))

  -- a seat that had no grant has none after one was begun and ended
  pub ended-none : (v w u : View P E) (b : ℕ) (f : ℕ → Option P) → ((c : ℕ) (g : List (Option P)) → Has v c g → ⊥) → IsBegun v b f w → IsEnded w b u
      → (c : ℕ) (g : List (Option P)) → Has u c g → ⊥
  ended-none v w u b f none begun ended c g has =
      let other = ended-others w u b ended c g has in none c g (begun-others v w b f begun c g other.0 other.1)

module _ {P C R B : Type 0} (m : Behaviour P C R B) where
  pub finished-entries : (v w : View P (Entry P C R)) (b : ℕ) (e : Entry P C R) → IsFinished m v b e w → entries_of w ≡ entries_of v ++ e ∷ []
  finished-entries v w b e finished = ap entries_of finished.3 ∙ finished.4.2

  finished-others : (v w : View P (Entry P C R)) (b : ℕ) (e : Entry P C R) → IsFinished m v b e w → (c : ℕ) (g : List (Option P)) → Has w c g
      → (c ≢ b) × Has v c g
  finished-others v w b e finished c g has = ⊎_elim
      (λ (t : (c ≡ b) × (None ≡ Some g)). absurd (let bad : None ≡ Some g = t.1 in let no_way : ⊥ = cc in no_way))
      (λ (t : (c ≢ b) × (get_elem? v.held c ≡ some (Some g))). t)
      (at_set v.held b c None (Some g) (sym (ap (λ u. get_elem? u.held c) finished.3) ∙ has))

  -- a seat that had no grant has none after a call was begun and finished
  pub finished-none : (v w u : View P (Entry P C R)) (b : ℕ) (f : ℕ → Option P) (e : Entry P C R) → ((c : ℕ) (g : List (Option P)) → Has v c g → ⊥)
      → IsBegun v b f w → IsFinished m w b e u → (c : ℕ) (g : List (Option P)) → Has u c g → ⊥
  finished-none v w u b f e none begun finished c g has =
      let other = finished-others w u b e finished c g has in none c g (begun-others v w b f begun c g other.0 other.1)

  -- ---- the seat's hand

  -- a call that moves no batch has all in hand
  pub begun-hand : (v w : View P (Entry P C R)) (b : ℕ) (f : ℕ → Option P) (call : C) (reply : R) → m.takes call reply ≡ [] → m.gives call reply ≡ []
      → IsBegun v b f w → IsAfter m v b f → HasInHand m w call reply
  begun-hand v w b f call reply no_takes no_gives begun seen =
      let own = subst (λ (u : View P (Entry P C R)). AreHands m.takes m.gives (entries_of u) seen.1.hand) (sym begun.3) seen.1.own_hand in (
        seen.1.hand,
        seen.1.hand,
        own,
        λ weigh. let a : total weigh (m.takes call reply) ≡ 0 = ap (total weigh) no_takes in let g : total weigh (m.gives call reply) ≡ 0 = ap
            (total weigh) no_gives in omega arith,
      )

  -- ---- a call that went on

  -- what it left is there to be finished or put back
  pub gone-with : (v w : View P (Entry P C R)) (b : ℕ) (f : ℕ → Option P) (e : Entry P C R) → HasGoneOn m v b f e w → HasWith w b f
  gone-with v w b f e gone = begun-with gone.0 w b f gone.2
