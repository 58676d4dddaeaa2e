-- A seat that is split, and two that become one.
use Rattle.std.proofs.Common.{◌≡◌, ◌⊎◌, ℕ, zero, suc, ◌+◌, ◌-◌, ◌<◌, ◌≤◌, eqb, ltb, nat_lt, Bool, true, false, List, [], ◌∷◌, length}
use Rattle.std.proofs.Common.{replicate, sym, refl, ap, ◌∙◌, arith, Option, Some, None, ⊎_elim, inl, inr}
use Rattle.std.proofs.lemmas.List.{length-replicate}
use mathlib.Core.Option.{some, some-ne-none}
use mathlib.Core.Logic.{dite}
use native.Mathlib.Decide.{ℕ_discrete}
use lib.ListN.{get_elem?}
use Rattle.atomic_table.specs.Table.{Joins, Splits}
use Rattle.depot_rule.specs.declared.view.View.{View}
use Rattle.depot_rule.specs.declared.view.Entry.{Entry}
use Rattle.depot_rule.specs.History.{Behaviour}
use Rattle.affinity.specs.Ancestors.{one_if, tally, ancestors, Covers}
use Rattle.depot_rule.specs.Sums.{over_taken}
use Rattle.depot_rule.specs.Shares.{claims, lower, entered, shares}
use Rattle.depot_rule.specs.Parcels.{has_out}
use Rattle.depot_rule.specs.Rule.{Rule}
use Rattle.depot_rule.specs.Seats.{if_less, put_among, in_order, both_held, merge, fresh, merged, parted, fresh_of, view_of}
use Rattle.depot_rule.specs.lemmas.Sums.{one-other, over-none, tally-append}
use Rattle.depot_rule.proofs.Views.{all-one}
use Rattle.depot_rule.proofs.Grants.{covers-one}
use Rattle.depot_rule.proofs.Dealing.{joined, parted_in, bare-counts}
use Rattle.depot_rule.proofs.Chosen.{tally-in-order}
use Rattle.depot_rule.proofs.Meeting.{both-begin, merged-weigh, merged-own, merged-hand, not-both}
use Rattle.affinity.specs.declared.affinity.Kind.{Kind}

pub none-held : {A : Type 0} (n b : ℕ) (x : A) → get_elem? (replicate n None) b ≡ some (Some x) → ⊥
none-held zero b x e = some-ne-none (Some x) (sym e)
none-held (suc n) zero x e = cc
none-held (suc n) (suc b) x e = none-held n b x e

length-less : (b : Bool) (xs ys : List ℕ) (n : ℕ) → length xs ≡ n → length ys ≡ n → length (if_less b xs ys) ≡ n
length-less true xs ys n e f = e
length-less false xs ys n e f = f

length-put : (x : ℕ) (ys : List ℕ) → length (put_among x ys) ≡ suc (length ys)
length-put x [] = refl
length-put x (y ∷ ys) = length-less (nat_lt y x) (y ∷ put_among x ys) (x ∷ y ∷ ys) (suc (suc (length ys))) (ap suc (length-put x ys)) refl

length-in-order : (xs ys : List ℕ) → length (in_order xs ys) ≡ length xs + length ys
length-in-order [] ys = omega arith
length-in-order (x ∷ xs) ys = let p = length-put x (in_order xs ys) in let r = length-in-order xs ys in omega arith

module _ {A : Type 0} where
  -- no place is taken in both
  abbrev Disjoint : List (Option A) → List (Option A) → Type 0
  Disjoint xs ys = (i : ℕ) (x y : A) → get_elem? xs i ≡ some (Some x) → get_elem? ys i ≡ some (Some y) → ⊥

  later : (u w : Option A) (xs ys : List (Option A)) → Disjoint (u ∷ xs) (w ∷ ys) → Disjoint xs ys
  later u w xs ys d i x y e f = d (suc i) x y e f

  over-both : (f : ℕ → ℕ) (k : ℕ) (xs ys : List (Option A)) → Disjoint xs ys → over_taken f k (both_held xs ys) ≡ over_taken f k xs + over_taken f k ys
  over-both f k [] ys d = omega arith
  over-both f k (x ∷ xs) [] d = omega arith
  over-both f k (None ∷ xs) (None ∷ ys) d = over-both f (suc k) xs ys (later None None xs ys d)
  over-both f k (None ∷ xs) (Some y ∷ ys) d = let r = over-both f (suc k) xs ys (later None (Some y) xs ys d) in omega arith
  over-both f k (Some x ∷ xs) (None ∷ ys) d = let r = over-both f (suc k) xs ys (later (Some x) None xs ys d) in omega arith
  over-both f k (Some x ∷ xs) (Some y ∷ ys) d = absurd (d 0 x y refl refl)

  length-both : (xs ys : List (Option A)) → length xs ≡ length ys → length (both_held xs ys) ≡ length xs
  length-both [] ys e = sym e
  length-both (x ∷ xs) [] e = refl
  length-both (x ∷ xs) (y ∷ ys) e = let r = length-both xs ys (omega arith) in omega arith

  pub held-of : (xs ys : List (Option A)) (i : ℕ) (g : A) → get_elem? (both_held xs ys) i ≡ some (Some g)
      → (get_elem? xs i ≡ some (Some g)) ⊎ (get_elem? ys i ≡ some (Some g))
  held-of [] ys i g e = inr e
  held-of (x ∷ xs) [] i g e = inl e
  held-of (None ∷ xs) (y ∷ ys) zero g e = inr e
  held-of (Some x ∷ xs) (y ∷ ys) zero g e = inl e
  held-of (x ∷ xs) (y ∷ ys) (suc i) g e = held-of xs ys i g e

  pub held-first : (xs ys : List (Option A)) (i : ℕ) (g : A) → get_elem? xs i ≡ some (Some g) → get_elem? (both_held xs ys) i ≡ some (Some g)
  held-first [] ys i g e = absurd (some-ne-none (Some g) (sym e))
  held-first (x ∷ xs) [] i g e = e
  held-first (None ∷ xs) (y ∷ ys) zero g e = absurd (cc)
  held-first (Some x ∷ xs) (y ∷ ys) zero g e = e
  held-first (x ∷ xs) (y ∷ ys) (suc i) g e = held-first xs ys i g e

  pub held-second : (xs ys : List (Option A)) (i : ℕ) (g : A) → Disjoint xs ys → get_elem? ys i ≡ some (Some g) → get_elem? (both_held xs ys) i ≡ some (Some g)
  held-second [] ys i g d e = e
  held-second (x ∷ xs) [] i g d e = absurd (some-ne-none (Some g) (sym e))
  held-second (None ∷ xs) (y ∷ ys) zero g d e = e
  held-second (Some x ∷ xs) (y ∷ ys) zero g d e = absurd (d 0 x g refl e)
  held-second (x ∷ xs) (y ∷ ys) (suc i) g d e = held-second xs ys i g (later x y xs ys d) e

module _ (P C R B : Type 0) (kind_of : P → Kind) (m : Behaviour P C R B) where
  abbrev E : Type 0
  E = Entry P C R

  abbrev G : Type 0
  G = List (Option P)

  -- a seat with a split left gives a second one
  splits-off : (ps : List ℕ) (first : List (Option P)) (id : ℕ) (v : View P E) → 2 ≤ v.parts → Splits (Rule kind_of m ps first) id (v ∷ [])
      (record v { parts = v.parts - 1 } ∷ []) (fresh v ∷ [])
  splits-off ps first id v two = parted_in P C R B kind_of m ps first id (v ∷ []) (record v { parts = v.parts - 1 } ∷ []) (fresh v ∷ []) (λ s whole at.
      let r = whole.base in let h = whole.history in
      let own = h.own id (v ∷ []) at 0 v refl in
      let so = r.shares.sound id (v ∷ []) at 0 v refl in
      let ca = r.parcels.carries id (v ∷ []) at 0 v refl in
      let bare : (a : ℕ) → 0 < a → (shares a (fresh v) ≡ 0) × (claims a (fresh v) ≡ 0) × (entered a (fresh v) ≡ 0)
      × (has_out a (fresh v) ≡ 0) = λ a p. bare-counts P E kind_of (fresh v) a p refl refl refl refl (length v.tree) refl in (
        (
          omega arith,
          (λ a p. let z = bare a p in let q = z.0 in omega arith),
          (λ a p. let z = bare a p in let q = z.1 in omega arith),
          (λ a p. let z = bare a p in let q = z.2 in omega arith),
          (λ k p. let z = bare k p in let q = z.3 in omega arith),
          omega arith,
          (λ p. omega arith),
          (λ weigh. omega arith),
          omega arith,
          (let n = over-none (List (Option P)) (λ b. 1) 0 (length v.tree) in omega arith),
        ),
        all-one _ (record v { parts = v.parts - 1 }) (
          record { some_part = omega arith; tree = so.tree; wide = so.wide; once = so.once; looked = so.looked },
          record { opened = ca.opened; nodes = ca.nodes; single = ca.single; cover = ca.cover; whole = ca.whole; there = ca.there; empty = ca.empty },
          h.current.granted id (v ∷ []) at 0 v refl,
          h.seen id (v ∷ []) at 0 v refl,
          own,
          h.hand id (v ∷ []) at 0 v refl,
        ),
        all-one _ (fresh v) (
          record {
            some_part = omega arith;
            tree = so.tree;
            wide = length-replicate (length v.tree) None ∙ ap (λ (t : List ℕ). length t) so.tree;
            once = λ a. omega arith;
            looked = omega arith;
          },
          record {
            opened = ca.opened;
            nodes = λ b g e. absurd (none-held (length v.tree) b g e);
            single = λ k p. let z = bare k p in let q = z.3 in omega arith;
            cover = λ k p h. let z = bare k p in let q = z.3 in absurd (omega arith);
            whole = λ b k g e. absurd (none-held (length v.tree) b g e);
            there = λ b k g e. absurd (none-held (length v.tree) b g e);
            empty = λ k p h. absurd (omega arith);
          },
          (λ b k g e. absurd (none-held (length v.tree) b g e)),
          h.seen id (v ∷ []) at 0 v refl,
          (tt, (λ p some_p. absurd (omega arith))),
          ([], λ weigh. refl),
        ),
      ))

  -- two seats, of which the second runs no call, become one
  merges : (ps : List ℕ) (first : List (Option P)) (id : ℕ) (v : View P E) (other : ℕ) (w : View P E) → w.path ≡ [] → w.unsure ≡ 0 → w.out ≡ 0
      → w.stamped ≡ 0 → Joins (Rule kind_of m ps first) id (v ∷ []) other (w ∷ []) (merge v w ∷ []) []
  merges ps first id v other w no_path calm idle unstamped = joined P C R B kind_of m ps first id (v ∷ []) other (w ∷ []) (merge v w ∷ []) (λ s whole at at' ne.
      let r = whole.base in let h = whole.history in
      let so = r.shares.sound id (v ∷ []) at 0 v refl in let so' = r.shares.sound other (w ∷ []) at' 0 w refl in
      let ca = r.parcels.carries id (v ∷ []) at 0 v refl in let ca' = r.parcels.carries other (w ∷ []) at' 0 w refl in
      let clash : (b c k : ℕ) (g h : G) → get_elem? v.held b ≡ some (Some g) → get_elem? w.held c ≡ some (Some h) → Covers ps b k → Covers ps c k
      → ⊥ = λ b c k g h e f p q.
      ne (covers-one P E ps s.words s.views r.shares id other 0 0 b c k (v ∷ []) (w ∷ []) v w g h (ca.nodes b g e).0 (ca'.nodes c h f).0 at refl e
      at' refl f p q).0 in
      let apart : Disjoint v.held w.held = λ i x y e f. clash i i i x y e f (inl refl) (inl refl) in
      let tree : w.tree ≡ v.tree = so'.tree ∙ sym so.tree in
      let low : (a : ℕ) → lower a (merge v w) ≡ lower a v + lower a w = λ a.
      over-both (λ b. tally a (ancestors v.tree b)) 0 v.held w.held apart
      ∙ ap (λ (t : List ℕ). over_taken (λ b. tally a (ancestors v.tree b)) 0 v.held + over_taken (λ b. tally a (ancestors t b)) 0 w.held) (sym tree) in
      let own : (a : ℕ) → claims a (merge v w) ≡ claims a v + claims a w = λ a. over-both (λ b. one_if (eqb b a)) 0 v.held w.held apart in
      let unsure : (a : ℕ) → 0 < a → one_if (eqb w.unsure a) ≡ 0 = λ a p. one-other w.unsure a (λ e. omega arith) in
      let path : (a : ℕ) → tally a w.path ≡ 0 = λ a. ap (tally a) no_path in
      let out : (k : ℕ) → 0 < k → one_if (eqb w.out k) ≡ 0 = λ k p. one-other w.out k (λ e. omega arith) in
      let taken : (k : ℕ) → 0 < k → has_out k (merge v w) ≡ has_out k v + has_out k w = λ k p.
      let h = out k p in let t = tally-append k v.gone w.gone in omega arith in
      let not_both : (k : ℕ) → 0 < k → 0 < has_out k v → 0 < has_out k w → ⊥ = λ k p h h'. let c = ca.cover k p h in let c' = ca'.cover k p h'
      in clash c.0 c'.0 k c.1 c'.1 c.2 c'.2 c.3 c'.3 in (
        (
          omega arith,
          (λ a p. let l = low a in let o = own a in let u = unsure a p in let q = path a in omega arith),
          (λ a p. let o = own a in omega arith),
          (λ a p. let l = low a in let q = path a in omega arith),
          (λ k p. let t = taken k p in omega arith),
          (let l = length-in-order v.mine w.mine in omega arith),
          (λ p. let t = tally-in-order p v.mine w.mine in omega arith),
          (λ weigh. let t = merged-weigh P C R B m ps first s h id (v ∷ []) 0 v at refl other (w ∷ []) 0 w at' refl weigh in omega arith),
          (let z : one_if (ltb 0 w.stamped) ≡ 0 = ap (λ n. one_if (ltb 0 n)) unstamped in omega arith),
          (let g = over-both (λ b. 1) 0 v.held w.held apart in let l = length-in-order v.mine w.mine in omega arith),
        ),
        all-one _ (merge v w) (
          record {
            some_part = (let p = so.some_part in omega arith);
            tree = so.tree;
            wide = length-both v.held w.held (so.wide ∙ sym so'.wide)
                ∙ so.wide;
            once = so.once;
            looked = omega arith;
          },
          record {
            opened = ca.opened;
            nodes = λ b g e. ⊎_elim (λ (f : get_elem? v.held b ≡ some (Some g)). ca.nodes b g f)
                (λ (f : get_elem? w.held b ≡ some (Some g)). ca'.nodes b g f) (held-of v.held w.held b g e);
            single = λ k p. let t = taken k p in let m = ca.single k p in let m' = ca'.single k p in
                dite (ℕ_discrete (has_out k v) 0) (λ z. omega arith) (λ nz. dite (ℕ_discrete (has_out k w) 0) (λ z'. omega arith)
                (λ nz'. absurd (not_both k p (omega arith) (omega arith))));
            cover = λ k p h. let t = taken k p in dite (ℕ_discrete (has_out k v) 0)
                (λ z. let c = ca'.cover k p (omega arith) in (c.0, c.1, held-second v.held w.held c.0 c.1 apart c.2, c.3))
                (λ nz. let c = ca.cover k p (omega arith) in (c.0, c.1, held-first v.held w.held c.0 c.1 c.2, c.3));
            whole = λ b k g e c p l. ⊎_elim (λ (f : get_elem? v.held b ≡ some (Some g)). ca.whole b k g f c p l)
                (λ (f : get_elem? w.held b ≡ some (Some g)). ca'.whole b k g f c p l) (held-of v.held w.held b g e);
            there = λ b k g e c p l z. let t = taken k p in ⊎_elim (λ (f : get_elem? v.held b ≡ some (Some g)). ca.there b k g f c p l (omega arith))
                (λ (f : get_elem? w.held b ≡ some (Some g)). ca'.there b k g f c p l (omega arith)) (held-of v.held w.held b g e);
            empty = λ k p h. let t = tally-append k v.gone w.gone in dite (ℕ_discrete (tally k v.gone) 0) (λ z. ca'.empty k p (omega arith))
                (λ nz. ca.empty k p (omega arith));
          },
          (λ b k g e cover pk lk. ⊎_elim (λ (f : get_elem? v.held b ≡ some (Some g)). h.current.granted id (v ∷ []) at 0 v refl b k g f cover pk lk)
              (λ (f : get_elem? w.held b ≡ some (Some g)). h.current.granted other (w ∷ []) at' 0 w refl b k g f cover pk lk) (held-of v.held w.held b g e)),
          both-begin P C R B m ps first s h id (v ∷ []) 0 v at refl other (w ∷ []) 0 w at' refl,
          merged-own P C R B m ps first s h id (v ∷ []) 0 v at refl other (w ∷ []) 0 w at' refl (not-both P C R B m ps first s h id v other w at at' ne),
          merged-hand P C R B m ps first s h id (v ∷ []) 0 v at refl other (w ∷ []) 0 w at' refl,
        ),
      ))

  -- the same of lists of one view
  pub splits-seat : (ps : List ℕ) (first : List (Option P)) (id : ℕ) (vs : List (View P E)) → length vs ≡ 1 → 2 ≤ (view_of vs).parts
      → Splits (Rule kind_of m ps first) id vs (parted vs) (fresh_of vs)
  splits-seat ps first id [] one two = absurd (omega arith)
  splits-seat ps first id (v ∷ []) one two = splits-off ps first id v two
  splits-seat ps first id (v ∷ u ∷ us) one two = absurd (omega arith)

  pub merges-seats : (ps : List ℕ) (first : List (Option P)) (id : ℕ) (vs : List (View P E)) (other : ℕ) (ws : List (View P E)) → length vs ≡ 1 → length ws ≡ 1
      → (view_of ws).path ≡ [] → (view_of ws).unsure ≡ 0 → (view_of ws).out ≡ 0 → (view_of ws).stamped ≡ 0
      → Joins (Rule kind_of m ps first) id vs other ws (merged vs ws) []
  merges-seats ps first id [] other ws one one' path calm idle unstamped = absurd (omega arith)
  merges-seats ps first id (v ∷ []) other [] one one' path calm idle unstamped = absurd (omega arith)
  merges-seats ps first id (v ∷ []) other (w ∷ []) one one' path calm idle unstamped = merges ps first id v other w path calm idle unstamped
  merges-seats ps first id (v ∷ []) other (w ∷ u ∷ us) one one' path calm idle unstamped = absurd (omega arith)
  merges-seats ps first id (v ∷ u ∷ us) other ws one one' path calm idle unstamped = absurd (omega arith)
