-- What follows from the rule.
use Rattle.std.proofs.Common.{◌≡◌, ◌⊎◌, ℕ, ◌<◌, ◌≤◌, eqb, List, length, get_or, sym, refl, ap, ◌∙◌, arith, Some, inl, inr, ⊎_elim}
use mathlib.Core.Option.{some}
use mathlib.Core.Logic.{dite}
use native.Mathlib.Decide.{ℕ_discrete}
use lib.ListN.{get_elem?}
use Rattle.depot_rule.specs.declared.view.View.{View}
use Rattle.affinity.specs.Ancestors.{one_if, tally, ancestors, Covers}
use Rattle.depot_rule.specs.Sums.{total}
use Rattle.depot_rule.specs.Shares.{exclusive, claims, entered, shares, Shares}
use Rattle.depot_rule.specs.Parcels.{has_out}
use Rattle.depot_rule.specs.Laws.{IsOpen, GrantsAreApart, ParcelsArePlaced, ParcelsAreSingle, GrantsHaveEntered, ExclusiveIsGranted}
use Rattle.depot_rule.specs.lemmas.Sums.{one-is, total-at, total-some, total-one, over-some}
use Rattle.depot_rule.specs.lemmas.Trees.{above-smaller}
use Rattle.depot_rule.proofs.Views.{few-in-word}
use Rattle.depot_rule.proofs.Words.{word-is, claimed}
use Rattle.depot_rule.proofs.Grants.{at-length, claims-own, lower-own, covers-one}

module _ (P E : Type 0) where
  pub are-apart : GrantsAreApart P E
  are-apart kind_of ps first s r j i b j' i' b' o o' ex =
      let pb = ((r.parcels.carries j o.0 o.3 i o.1 o.4).nodes b o.2 o.5).0 in
      let pb' = ((r.parcels.carries j' o'.0 o'.3 i' o'.1 o'.4).nodes b' o'.2 o'.5).0 in
      let one : (k : ℕ) → Covers ps b k → Covers ps b' k → (j ≡ j') × (i ≡ i') × (b ≡ b')
      = λ k c c'. covers-one P E ps s.words s.views r.shares j j' i i' b b' k o.0 o'.0 o.1 o'.1 o.2 o'.2 pb pb' o.3 o.4 o.5 o'.3 o'.4 o'.5 c c' in
      ⊎_elim (λ (e : b ≡ b'). one b' (inl e) (inl refl))
      (λ (t : (0 < tally b (ancestors ps b')) ⊎ (0 < tally b' (ancestors ps b))). ⊎_elim (λ (u : 0 < tally b (ancestors ps b')). one b' (inr u)
      (inl refl)) (λ (u : 0 < tally b' (ancestors ps b)). one b (inl refl) (inr u)) t) ex

  pub are-placed : ParcelsArePlaced P E
  are-placed kind_of ps first s r k pk lk = dite (ℕ_discrete (total (total (has_out k)) s.views) 0)
      (λ z. inl (r.parcels.home k pk lk z))
      (λ nz. let a = total-some (total (has_out k)) s.views (omega arith) in let u = total-some (has_out k) a.1 a.3 in
      let c = (r.parcels.carries a.0 a.1 a.2 u.0 u.1 u.2).cover k pk u.3 in
      inr (a.0, u.0, c.0, (a.1, u.1, c.1, a.2, u.2, c.2), c.3))

  pub are-single : ParcelsAreSingle P E
  are-single kind_of ps first s r k pk =
      let open-at : (j : ℕ) (vs : List (View P E)) → get_elem? s.views j ≡ some vs → (i : ℕ) (v : View P E) → get_elem? vs i ≡ some v
      → 0 < has_out k v → (b : ℕ) × IsOpen s.views j i b × Covers ps b k
      = λ j vs at i v in_vs h. let c = (r.parcels.carries j vs at i v in_vs).cover k pk h in (c.0, (vs, v, c.1, at, in_vs, c.2), c.3) in
      let same : (j j' i i' b b' : ℕ) → IsOpen s.views j i b → IsOpen s.views j' i' b' → Covers ps b k → Covers ps b' k → (j ≡ j') × (i ≡ i')
      × (b ≡ b') = λ j j' i i' b b' o o' c c'.
      covers-one P E ps s.words s.views r.shares j j' i i' b b' k o.0 o'.0 o.1 o'.1 o.2 o'.2
      ((r.parcels.carries j o.0 o.3 i o.1 o.4).nodes b o.2 o.5).0 ((r.parcels.carries j' o'.0 o'.3 i' o'.1 o'.4).nodes b' o'.2 o'.5).0 o.3 o.4
      o.5 o'.3 o'.4 o'.5 c c' in
      total-one (total (has_out k)) s.views
      (λ j vs at. total-one (has_out k) vs (λ i v in_vs. (r.parcels.carries j vs at i v in_vs).single k pk)
      (λ i i' v v' e e' h h'. let o = open-at j vs at i v e h in let o' = open-at j vs at i' v' e' h' in (same j j i i' o.0 o'.0 o.1 o'.1 o.2 o'.2).1))
      (λ j j' vs vs' at at' h h'. let u = total-some (has_out k) vs h in let u' = total-some (has_out k) vs' h' in
      let o = open-at j vs at u.0 u.1 u.2 u.3 in let o' = open-at j' vs' at' u'.0 u'.1 u'.2 u'.3 in (same j j' u.0 u'.0 o.0 o'.0 o.1 o'.1 o.2 o'.2).0)

  free-word : (ps ws : List ℕ) (views : List (List (View P E))) (r : Shares ps ws views) (a : ℕ) → 0 < a → a < length ps
      → total (total (claims a)) views ≡ 0 → get_or ws a 0 < exclusive
  free-word ps ws views r a pa lt z = let w = word-is P E ps ws views r a pa lt in let f = few-in-word P E ps ws views r a in omega arith

  pub have-entered : GrantsHaveEntered P E
  have-entered kind_of ps first s r j i b a o up =
      let so = r.shares.sound j o.0 o.3 i o.1 o.4 in
      let small = above-smaller ps r.shares.tree a b up in let pa = small.0 in let ab = small.1 in
      let lb = at-length o.1.held b (Some o.2) o.5 in let wide = so.wide in
      let lt : a < length ps = omega arith in
      let l = lower-own P E ps o.1 so a b o.2 o.5 in
      let e = total-at (entered a) o.0 i o.1 o.4 in let e' = total-at (total (entered a)) s.views j o.0 o.3 in
      let sh = total-at (shares a) o.0 i o.1 o.4 in let sh' = total-at (total (shares a)) s.views j o.0 o.3 in
      let q = r.shares.counted a pa lt in (
        (let p : 0 < get_or s.words a 0 = omega arith in p),
        (dite (ℕ_discrete (total (total (claims a)) s.views) 0)
            (λ z. free-word ps s.words s.views r.shares a pa lt z)
            (λ nz. let n = r.shares.alone a pa lt (omega arith) in let n1 = n.1 in absurd (omega arith))),
      )

  pub is-granted : ExclusiveIsGranted P E
  is-granted kind_of ps first s r a pa lt = (
    (λ full.
        let c = (claimed P E ps s.words s.views r.shares a pa lt full).0 in
        let x = total-some (total (claims a)) s.views (omega arith) in let u = total-some (claims a) x.1 x.3 in
        let o = over-some (λ b. one_if (eqb b a)) u.1.held u.3 in
        (x.0, u.0, (x.1, u.1, o.1, x.2, u.2, ap (get_elem? u.1.held) (sym (one-is o.0 a o.3)) ∙ o.2))),
    (λ j i o.
        let m = claims-own P E o.1 a o.2 o.5 in
        let sh = total-at (shares a) o.0 i o.1 o.4 in let sh' = total-at (total (shares a)) s.views j o.0 o.3 in
        let q = r.shares.counted a pa lt in (let p : exclusive ≤ get_or s.words a 0 = omega arith in p)),
  )
