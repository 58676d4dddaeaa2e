-- The steps on words keep the rule of shares. Each lemma names the next view.
use Rattle.std.proofs.Common.{◌≡◌, ◌≢◌, ℕ, ◌+◌, ◌-◌, ◌*◌, ◌<◌, ◌≤◌, eqb, ltb, List, [], ◌∷◌, length, get_or, set, sym, refl, ap, ◌∙◌, subst}
use Rattle.std.proofs.Common.{arith, Option, Some, None, length-set, get_or-set_other, get_or-set_same}
use mathlib.Core.Option.{some}
use mathlib.Core.Logic.{dite}
use native.Mathlib.Decide.{ℕ_discrete}
use lib.ListN.{get_elem?}
use Rattle.depot_rule.specs.declared.view.View.{View}
use Rattle.depot_rule.specs.declared.view.Read.{Read}
use Rattle.affinity.specs.Ancestors.{one_if, tally, ancestors}
use Rattle.depot_rule.specs.Sums.{total, over_taken}
use Rattle.depot_rule.specs.Shares.{exclusive, parts, made, open_grants, due, unsettled, claims, entered, shares, IsWellFormed, Shares}
use Rattle.depot_rule.specs.lemmas.Sums.{one-same, one-other, one-most, total-set, total-at, total-less, fill-at, clear-at, free-at}
use Rattle.depot_rule.specs.lemmas.Trees.{ancestors-once}
use Rattle.depot_rule.proofs.Views.{all-one, each-set, unsure_in, shares-parts, few-in-word}

module _ (P E : Type 0) where
  abbrev pub Views : Type 0
  Views = List (List (View P E))

  abbrev Bare : ℕ → View P E → ℕ
  Bare a v = entered a v + unsure_in P E a v

  -- what the shares of a word say of its value
  pub word-is : (ps ws : List ℕ) (views : Views) (r : Shares ps ws views) (a : ℕ) → 0 < a → a < length ps
      → get_or ws a 0 ≡ total (total (λ (v : View P E). entered a v + unsure_in P E a v)) views + exclusive * total (total (claims a)) views
  word-is ps ws views r a pos lt = r.counted a pos lt ∙ shares-parts P E a views

  -- a word found below 2^32 has no claim, and one found at 2^32 or more has one
  unclaimed : (ps ws : List ℕ) (views : Views) (r : Shares ps ws views) (a : ℕ) → 0 < a → a < length ps → get_or ws a 0 < exclusive
      → total (total (claims a)) views ≡ 0
  unclaimed ps ws views r a pos lt low = let q = word-is ps ws views r a pos lt in omega arith

  pub claimed : (ps ws : List ℕ) (views : Views) (r : Shares ps ws views) (a : ℕ) → 0 < a → a < length ps → exclusive ≤ get_or ws a 0
      → (total (total (claims a)) views ≡ 1) × (total (total (entered a)) views ≡ 0)
  claimed ps ws views r a pos lt full =
      let q = word-is ps ws views r a pos lt in let f = few-in-word P E ps ws views r a in r.alone a pos lt (omega arith)

  pub word-most : (ps ws : List ℕ) (views : Views) (r : Shares ps ws views) (a : ℕ) → 0 < a → a < length ps → get_or ws a 0 < 18446744073709551615
  word-most ps ws views r a pos lt =
      let q = word-is ps ws views r a pos lt in let f = few-in-word P E ps ws views r a in
      dite (ℕ_discrete (total (total (claims a)) views) 0) (λ z. omega arith) (λ nz. let l = r.alone a pos lt (omega arith) in let one = l.0 in omega arith)

  -- the seat id's step on the word i, which makes it x
  step-keeps : (ps ws : List ℕ) (views : Views) (r : Shares ps ws views) (i x id : ℕ) (v w : View P E) → get_elem? views id ≡ some (v ∷ [])
      → 0 < i → i < length ps
      → w.parts ≡ v.parts → made w ≡ made v → due w + unsettled v ≤ due v + unsettled w → IsWellFormed ps w
      → x + shares i v ≡ get_or ws i 0 + shares i w
      → ((a : ℕ) → 0 < a → a ≢ i → (shares a w ≡ shares a v) × (claims a w ≡ claims a v) × (entered a w ≡ entered a v))
      → (0 < total (total (claims i)) (set views id (w ∷ [])) → (total (total (claims i)) (set views id (w ∷ [])) ≡ 1)
      × (total (total (entered i)) (set views id (w ∷ [])) ≡ 0))
      → Shares ps (set ws i x) (set views id (w ∷ []))
  step-keeps ps ws views r i x id v w at pos lt same as_many_made rights sound here others lone = record {
    tree = r.tree;
    few = r.few;
    as_many = length-set ws i x ∙ r.as_many;
    seats = let t = total-set (total parts) views id (v ∷ []) (w ∷ []) at in let q = r.seats in omega arith;
    counted = λ a p l. dite (ℕ_discrete a i)
        (λ e. subst (λ (z : ℕ). get_or (set ws i x) z 0 ≡ total (total (shares z)) (set views id (w ∷ []))) (sym e)
        (let t = total-set (total (shares i)) views id (v ∷ []) (w ∷ []) at in let q = r.counted i pos lt in
        let n = r.as_many in let g = get_or-set_same ws i x 0 (omega arith) in omega arith))
        (λ ne. let t = total-set (total (shares a)) views id (v ∷ []) (w ∷ []) at in let q = r.counted a p l in let o = others a p ne in let o' = o.0 in
        let g = get_or-set_other ws i a x 0 ne in omega arith);
    ticket = let t = total-set (total made) views id (v ∷ []) (w ∷ []) at in let q = r.ticket in let g = get_or-set_other ws i 0 x 0 (λ e. omega arith) in
        let still : total (total made) (set views id (w ∷ [])) ≡ total (total made) views = omega arith in g ∙ q ∙ sym still;
    bounded = let d = total-set (total due) views id (v ∷ []) (w ∷ []) at in let t = total-set (total unsettled) views id (v ∷ [])
        (w ∷ []) at in let q = r.bounded in omega arith;
    alone = λ a p l. dite (ℕ_discrete a i)
        (λ e. subst (λ (z : ℕ). 0 < total (total (claims z)) (set views id (w ∷ [])) → (total (total (claims z)) (set views id (w ∷ [])) ≡ 1)
        × (total (total (entered z)) (set views id (w ∷ [])) ≡ 0)) (sym e) lone)
        (λ ne some_claim. let t = total-set (total (entered a)) views id (v ∷ []) (w ∷ []) at in let u = total-set (total (claims a)) views id
        (v ∷ []) (w ∷ []) at in
        let o = others a p ne in let o1 = o.1 in let o2 = o.2 in
        let q = r.alone a p l (omega arith) in let q0 = q.0 in let q1 = q.1 in (omega arith, omega arith));
    sound = each-set (IsWellFormed ps) views id (w ∷ []) r.sound (all-one (IsWellFormed ps) w sound);
  }

  -- a word found free of a claim is entered
  pub enter-keeps : (ps ws : List ℕ) (views : Views) (r : Shares ps ws views) (i id : ℕ) (v : View P E) (rs : List Read)
      → get_elem? views id ≡ some (v ∷ []) → 0 < i → i < length ps
      → tally i v.path ≡ 0 → get_or ws i 0 < exclusive
      → Shares ps (set ws i (get_or ws i 0 + 1)) (set views id (record v { path = i ∷ v.path; reads = rs } ∷ []))
  enter-keeps ps ws views r i id v rs at pos lt fresh free =
      let so = r.sound id (v ∷ []) at 0 v refl in
      let w : View P E = record v { path = i ∷ v.path; reads = rs } in
      let one = one-same i i refl in
      let none = unclaimed ps ws views r i pos lt free in
      let c = total-set (total (claims i)) views id (v ∷ []) (w ∷ []) at in
      step-keeps ps ws views r i (get_or ws i 0 + 1) id v w at pos lt refl refl (omega arith)
      (record {
        some_part = so.some_part;
        tree = so.tree;
        wide = so.wide;
        once = λ a. dite (ℕ_discrete i a)
            (λ e. let b = one-same i a e in let f : tally a v.path ≡ 0 = ap (λ (z : ℕ). tally z v.path) (sym e) ∙ fresh in omega arith)
            (λ ne. let b = one-other i a ne in let f = so.once a in omega arith);
        looked = so.looked;
      })
      (omega arith)
      (λ a p ne. let b = one-other i a (λ e. ne (sym e)) in (omega arith, refl, omega arith))
      (λ some_claim. absurd (omega arith))

  -- a word found claimed is entered in vain
  pub vain-keeps : (ps ws : List ℕ) (views : Views) (r : Shares ps ws views) (i id : ℕ) (v : View P E) (rs : List Read)
      → get_elem? views id ≡ some (v ∷ []) → 0 < i → i < length ps
      → v.unsure ≡ 0 → exclusive ≤ get_or ws i 0
      → Shares ps (set ws i (get_or ws i 0 + 1)) (set views id (record v { unsure = i; reads = rs } ∷ []))
  vain-keeps ps ws views r i id v rs at pos lt calm full =
      let so = r.sound id (v ∷ []) at 0 v refl in
      let w : View P E = record v { unsure = i; reads = rs } in
      let one = one-same i i refl in let zero_now : one_if (eqb v.unsure i) ≡ 0 = one-other v.unsure i (λ e. omega arith) in
      let l = claimed ps ws views r i pos lt full in let l0 = l.0 in let l1 = l.1 in
      let c = total-set (total (claims i)) views id (v ∷ []) (w ∷ []) at in let t = total-set (total (entered i)) views id (v ∷ []) (w ∷ []) at in
      step-keeps ps ws views r i (get_or ws i 0 + 1) id v w at pos lt refl refl (omega arith)
      (record { some_part = so.some_part; tree = so.tree; wide = so.wide; once = so.once; looked = so.looked })
      (omega arith)
      (λ a p ne. let b = one-other i a (λ e. ne (sym e)) in let b' = one-other v.unsure a (λ e. omega arith) in (omega arith, refl, refl))
      (λ some_claim. (omega arith, omega arith))

  -- and left
  pub back-out-keeps : (ps ws : List ℕ) (views : Views) (r : Shares ps ws views) (i id : ℕ) (v : View P E) (rs : List Read)
      → get_elem? views id ≡ some (v ∷ []) → 0 < i → i < length ps
      → v.unsure ≡ i
      → (0 < get_or ws i 0) × Shares ps (set ws i (get_or ws i 0 - 1)) (set views id (record v { unsure = 0; reads = rs } ∷ []))
  back-out-keeps ps ws views r i id v rs at pos lt unsure =
      let so = r.sound id (v ∷ []) at 0 v refl in
      let w : View P E = record v { unsure = 0; reads = rs } in
      let one : one_if (eqb v.unsure i) ≡ 1 = one-same v.unsure i unsure in let zero_then : one_if (eqb 0 i) ≡ 0 = one-other 0 i (λ e. omega arith) in
      let q = r.counted i pos lt in let m = total-at (total (shares i)) views id (v ∷ []) at in
      let c = total-set (total (claims i)) views id (v ∷ []) (w ∷ []) at in let t = total-set (total (entered i)) views id (v ∷ []) (w ∷ []) at in (
        omega arith,
        step-keeps ps ws views r i (get_or ws i 0 - 1) id v w at pos lt refl refl (omega arith)
            (record { some_part = so.some_part; tree = so.tree; wide = so.wide; once = so.once; looked = so.looked })
            (omega arith)
            (λ a p ne. let b = one-other 0 a (λ e. omega arith) in let b' = one-other v.unsure a (λ e. ne (sym e ∙ unsure)) in (omega arith, refl, refl))
            (λ some_claim. let l = r.alone i pos lt (omega arith) in let l0 = l.0 in let l1 = l.1 in (omega arith, omega arith)),
      )

  -- the word entered last is left
  pub leave-keeps : (ps ws : List ℕ) (views : Views) (r : Shares ps ws views) (i id : ℕ) (v : View P E) (rest : List ℕ) (rs : List Read)
      → get_elem? views id ≡ some (v ∷ []) → 0 < i → i < length ps
      → v.path ≡ i ∷ rest
      → (0 < get_or ws i 0) × Shares ps (set ws i (get_or ws i 0 - 1)) (set views id (record v { path = rest; reads = rs } ∷ []))
  leave-keeps ps ws views r i id v rest rs at pos lt first =
      let so = r.sound id (v ∷ []) at 0 v refl in
      let w : View P E = record v { path = rest; reads = rs } in
      let one = one-same i i refl in
      let split : (a : ℕ) → tally a v.path ≡ one_if (eqb i a) + tally a rest = λ a. ap (tally a) first in
      let here = split i in
      let q = r.counted i pos lt in let m = total-at (total (shares i)) views id (v ∷ []) at in let m' = total-at (total (entered i)) views id (v ∷ []) at in
      let c = total-set (total (claims i)) views id (v ∷ []) (w ∷ []) at in let t = total-set (total (entered i)) views id (v ∷ []) (w ∷ []) at in (
        omega arith,
        step-keeps ps ws views r i (get_or ws i 0 - 1) id v w at pos lt refl refl (omega arith)
            (record {
              some_part = so.some_part;
              tree = so.tree;
              wide = so.wide;
              once = λ a. let o = so.once a in let e = split a in omega arith;
              looked = so.looked;
            })
            (omega arith)
            (λ a p ne. let b = one-other i a (λ e. ne (sym e)) in let e = split a in (omega arith, refl, omega arith))
            (λ some_claim. let l = r.alone i pos lt (omega arith) in let l0 = l.0 in let l1 = l.1 in (omega arith, omega arith)),
      )

  -- a word found at 0 is claimed, and the shares entered above it become the grant's
  pub claim-keeps : (ps ws : List ℕ) (views : Views) (r : Shares ps ws views) (id : ℕ) (v : View P E) (b : ℕ) (g : List (Option P)) (rs : List Read)
      → get_elem? views id ≡ some (v ∷ []) → 0 < b → b < length ps
      → v.looked ≡ 1 → ((a : ℕ) → tally a v.path ≡ tally a (ancestors ps b)) → get_or ws b 0 ≡ 0
      → (get_elem? v.held b ≡ some None) × Shares ps (set ws b exclusive)
      (set views id (record v { looked = 0; path = []; held = set v.held b (Some g); reads = rs } ∷ []))
  claim-keeps ps ws views r id v b g rs at pos lt ready all free =
      let so = r.sound id (v ∷ []) at 0 v refl in
      let w : View P E = record v { looked = 0; path = []; held = set v.held b (Some g); reads = rs } in
      let one = one-same b b refl in
      let q = word-is ps ws views r b pos lt in
      let mine = total-at (total (claims b)) views id (v ∷ []) at in
      let bare = total-at (total (Bare b)) views id (v ∷ []) at in
      let vacant : get_elem? v.held b ≡ some None = free-at v.held b (let h = so.wide in omega arith) (omega arith) in
      let up : (a : ℕ) → over_taken (λ c. tally a (ancestors v.tree c)) 0 w.held ≡ over_taken (λ c. tally a (ancestors v.tree c)) 0 v.held + tally a
      (ancestors v.tree b) = λ a. fill-at (λ c. tally a (ancestors v.tree c)) v.held b g vacant in
      let own : (a : ℕ) → claims a w ≡ claims a v + one_if (eqb b a) = λ a. fill-at (λ c. one_if (eqb c a)) v.held b g vacant in
      let tree : (a : ℕ) → tally a (ancestors v.tree b) ≡ tally a (ancestors ps b) = λ a. ap (λ (t : List ℕ). tally a (ancestors t b)) so.tree in
      let as_before : (a : ℕ) → entered a w ≡ entered a v = λ a. let u = up a in let t = tree a in let p = all a in omega arith in
      let own_here = own b in let here = as_before b in
      let grants : open_grants w ≡ open_grants v + 1 = fill-at (λ c. 1) v.held b g vacant in
      let c = total-set (total (claims b)) views id (v ∷ []) (w ∷ []) at in let t = total-set (total (entered b)) views id (v ∷ []) (w ∷ []) at in
      let le = total-less (total (entered b)) (total (Bare b)) (λ vs. total-less (entered b) (Bare b) (λ u. omega arith) vs) views in (
        vacant,
        step-keeps ps ws views r b exclusive id v w at pos lt refl refl (omega arith)
            (record { some_part = so.some_part; tree = so.tree; wide = length-set v.held b (Some g) ∙ so.wide; once = λ a. omega arith; looked = omega arith })
            (omega arith)
            (λ a p ne. let o = own a in let z = one-other b a (λ e. ne (sym e)) in let u = as_before a in (omega arith, omega arith, u))
            (λ some_claim. (omega arith, omega arith)),
      )

  -- a grant's claim is released, and its shares are to be left
  pub release-keeps : (ps ws : List ℕ) (views : Views) (r : Shares ps ws views) (id : ℕ) (v : View P E) (b : ℕ) (g : List (Option P))
      (rs : List Read) → get_elem? views id ≡ some (v ∷ []) → 0 < b → b < length ps
      → v.path ≡ [] → get_elem? v.held b ≡ some (Some g)
      → (exclusive ≤ get_or ws b 0) × Shares ps (set ws b (get_or ws b 0 - exclusive))
      (set views id (record v { stamped = 0; path = ancestors v.tree b; held = set v.held b None; reads = rs } ∷ []))
  release-keeps ps ws views r id v b g rs at pos lt no_path held =
      let so = r.sound id (v ∷ []) at 0 v refl in
      let w : View P E = record v { stamped = 0; path = ancestors v.tree b; held = set v.held b None; reads = rs } in
      let grants : open_grants w + 1 ≡ open_grants v = clear-at (λ c. 1) v.held b g held in let some_stamp = one-most (ltb 0 v.stamped) in
      let one = one-same b b refl in
      let down : (a : ℕ) → over_taken (λ c. tally a (ancestors v.tree c)) 0 w.held + tally a (ancestors v.tree b) ≡ over_taken
      (λ c. tally a (ancestors v.tree c)) 0 v.held = λ a. clear-at (λ c. tally a (ancestors v.tree c)) v.held b g held in
      let own : (a : ℕ) → claims a w + one_if (eqb b a) ≡ claims a v = λ a. clear-at (λ c. one_if (eqb c a)) v.held b g held in
      let none_in_path : (a : ℕ) → tally a v.path ≡ 0 = λ a. ap (tally a) no_path in
      let as_before : (a : ℕ) → entered a w ≡ entered a v = λ a. let u = down a in let p = none_in_path a in omega arith in
      let own_here = own b in let here = as_before b in
      let q = r.counted b pos lt in let m = total-at (total (shares b)) views id (v ∷ []) at in
      let mine = total-at (total (claims b)) views id (v ∷ []) at in
      let l = r.alone b pos lt (omega arith) in let l0 = l.0 in
      let c = total-set (total (claims b)) views id (v ∷ []) (w ∷ []) at in (
        omega arith,
        step-keeps ps ws views r b (get_or ws b 0 - exclusive) id v w at pos lt refl refl (omega arith)
            (record {
              some_part = so.some_part;
              tree = so.tree;
              wide = length-set v.held b None ∙ so.wide;
              once = λ a. subst (λ (t : List ℕ). tally a (ancestors t b) ≤ 1) (sym so.tree) (ancestors-once ps r.tree a b);
              looked = so.looked;
            })
            (omega arith)
            (λ a p ne. let o = own a in let z = one-other b a (λ e. ne (sym e)) in let u = as_before a in (omega arith, omega arith, u))
            (λ some_claim. absurd (omega arith)),
      )

  -- a word is read, and the seat's shares stay
  pub read-keeps : (ps ws : List ℕ) (views : Views) (r : Shares ps ws views) (id : ℕ) (v : View P E) (i out : ℕ) (gone : List ℕ) (rs : List Read)
      → get_elem? views id ≡ some (v ∷ []) → 0 < i → i < length ps
      → Shares ps (set ws i (get_or ws i 0)) (set views id (record v { out = out; gone = gone; reads = rs } ∷ []))
  read-keeps ps ws views r id v i out gone rs at pos lt =
      let so = r.sound id (v ∷ []) at 0 v refl in
      let w : View P E = record v { out = out; gone = gone; reads = rs } in
      let c = total-set (total (claims i)) views id (v ∷ []) (w ∷ []) at in let t = total-set (total (entered i)) views id (v ∷ []) (w ∷ []) at in
      step-keeps ps ws views r i (get_or ws i 0) id v w at pos lt refl refl (omega arith)
      (record { some_part = so.some_part; tree = so.tree; wide = so.wide; once = so.once; looked = so.looked })
      (omega arith)
      (λ a p ne. (refl, refl, refl))
      (λ some_claim. let l = r.alone i pos lt (omega arith) in let l0 = l.0 in let l1 = l.1 in (omega arith, omega arith))
