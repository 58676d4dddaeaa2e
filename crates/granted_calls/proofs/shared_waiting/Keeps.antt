-- Each move keeps the balance.
use Rattle.std.proofs.lemmas.Nat.{pow_pos}
use Rattle.std.proofs.Math.Seq.{drop-append_seam}
use Rattle.std.specs.Prelude.{Option, None}
use Rattle.std.proofs.Common.{◌≡◌, ◌≢◌, ℕ, suc, ◌+◌, ◌*◌, ◌-◌, ◌^◌, ◌<◌, List, [], ◌∷◌, ◌++◌, length, drop, set, sym, refl, ap, ◌∙◌, subst, arith}
use Rattle.std.proofs.Common.{⊎_elim, zero-mul, mul-pos}
use mathlib.Core.Option.{some, some-ne-none}
use lib.ListN.{get_elem?}
use Rattle.crossbeam_queue.specs.Fifo.{Pushes, Pops, Forks, Merges, Learns}
use Rattle.crossbeam_queue.proofs.Lists.{at_set, at_snoc}
use Rattle.atomic_table.proofs.Lists.{set_else}
use Rattle.depot_rule.specs.Sums.{total}
use Rattle.depot_rule.specs.lemmas.Sums.{total-append}
use Rattle.granted_calls.specs.declared.shared_waiting.view.View.{View}
use Rattle.granted_calls.specs.shared_waiting.Balance.{part, added, taken, opening, left, right, both, spent, keyed, grown, HasGrown, Balanced, IsWhole, Leaves}
use Rattle.granted_calls.specs.shared_waiting.Balance.{FitsIn, AllFit}
use Rattle.granted_calls.proofs.shared_waiting.Sums.{total-set, total-alone, total-at, power, halves, joined, part-none}

-- what was there of two passes and what came beside it
pub seam : {T : Type 0} (xs ys more all : List T) → all ≡ (xs ++ ys) ++ more → xs ++ drop (length (xs ++ ys)) all ≡ xs ++ more
seam xs ys more all is = ap (λ l. xs ++ l) (ap (λ l. drop (length (xs ++ ys)) l) is ∙ drop-append_seam (xs ++ ys) more)

shared : {T : Type 0} (h : T → ℕ) (xs ys all more : List T) → all ≡ (xs ++ ys) ++ more
    → total h all ≡ total h (xs ++ drop (length (xs ++ ys)) all) + total h ys
shared h xs ys all more is =
    let a = ap (total h) is in
    let b = ap (total h) (seam xs ys more all is) in
    omega (arith, a, b, total-append h (xs ++ ys) more, total-append h xs ys, total-append h xs more)

module _ (T K : Type 0) (Fits : K → T → Type 0) where
  abbrev Idle : List (View T K) → Type 0
  Idle views = (port : ℕ) (v : View T K) → get_elem? views port ≡ some v → v.share ≡ 0 → (v.put ≡ []) × (v.picked ≡ [])

  idle-set : (views : List (View T K)) (port : ℕ) (w : View T K) → (w.share ≡ 0 → (w.put ≡ []) × (w.picked ≡ [])) → Idle views → Idle (set views port w)
  idle-set views port w mine h j u e = ⊎_elim (λ (x : (j ≡ port) × (w ≡ u)). subst (λ (y : View T K). y.share ≡ 0 → (y.put ≡ []) × (y.picked ≡ [])) x.1 mine)
      (λ (x : (j ≢ port) × (get_elem? views j ≡ some u)). h j u x.1) (at_set views port j w u e)

  idle-snoc : (views : List (View T K)) (w : View T K) → (w.share ≡ 0 → (w.put ≡ []) × (w.picked ≡ [])) → Idle views → Idle (views ++ w ∷ [])
  idle-snoc views w mine h j u e = ⊎_elim (λ (x : get_elem? views j ≡ some u). h j u x)
      (λ (x : w ≡ u). subst (λ (y : View T K). y.share ≡ 0 → (y.put ≡ []) × (y.picked ≡ [])) x mine) (at_snoc views w u j e)

  abbrev Same : Option K → List (View T K) → Type 0
  Same key views = (port : ℕ) (v : View T K) → get_elem? views port ≡ some v → 0 < v.share → v.key ≡ key

  same-set : (key : Option K) (views : List (View T K)) (port : ℕ) (w : View T K) → (0 < w.share → w.key ≡ key) → Same key views → Same key (set views port w)
  same-set key views port w mine h j u e = ⊎_elim (λ (x : (j ≡ port) × (w ≡ u)). subst (λ (y : View T K). 0 < y.share → y.key ≡ key) x.1 mine)
      (λ (x : (j ≢ port) × (get_elem? views j ≡ some u)). h j u x.1) (at_set views port j w u e)

  same-snoc : (key : Option K) (views : List (View T K)) (w : View T K) → (0 < w.share → w.key ≡ key) → Same key views → Same key (views ++ w ∷ [])
  same-snoc key views w mine h j u e = ⊎_elim (λ (x : get_elem? views j ≡ some u). h j u x)
      (λ (x : w ≡ u). subst (λ (y : View T K). 0 < y.share → y.key ≡ key) x mine) (at_snoc views w u j e)

  fit-snoc : (key : Option K) (xs : List T) (y : T) → AllFit Fits key xs → FitsIn Fits key y → AllFit Fits key (xs ++ y ∷ [])
  fit-snoc key [] y all one = (one, tt)
  fit-snoc key (x ∷ xs) y all one = (all.0, fit-snoc key xs y all.1 one)

  refit : (key other : Option K) → key ≡ None → (xs : List T) → AllFit Fits key xs → AllFit Fits other xs
  refit key other none [] all = tt
  refit key other none (x ∷ xs) all = absurd (subst (λ (o : Option K). FitsIn Fits o x) none all.0)

  abbrev in_put : (T → ℕ) → View T K → ℕ
  in_put h v = total h v.put

  abbrev in_picked : (T → ℕ) → View T K → ℕ
  in_picked h v = total h v.picked

  pub begins : Balanced Fits [] (opening ∷ [])
  begins = record {
    level = 0;
    whole = λ k le. let z : 2 ^ (k - 0) ≡ 2 ^ k = ap (λ j. 2 ^ j) (omega arith) in omega arith;
    even = λ h. omega arith;
    idle = λ port v e z. idle-snoc [] opening (λ none. absurd (omega arith)) (λ j u e z. absurd (some-ne-none u (sym e))) port v e z;
    key = None;
    same = λ port v e p. same-snoc None [] opening (λ q. refl) (λ j u d p. absurd (some-ne-none u (sym d))) port v e p;
    fit = tt;
  }

  pub puts : (n port : ℕ) (v : View T K) (x : T) → 0 < v.share → FitsIn Fits v.key x → Pushes (Balanced Fits) n port v x (λ w. w ≡ added v x)
  puts n port v x some_part fits items views room b at =
      let w : View T K = added v x in (
        w,
        record {
          level = b.level;
          whole = λ k le. let s = total-set (part k) views port v w at in let p = b.whole k le in omega arith;
          even = λ h.
              let s = total-set (in_put h) views port v w at in
              let t = total-set (in_picked h) views port v w at in
              let p = b.even h in
              omega (arith, total-append h v.put (x ∷ []), total-append h items (x ∷ []));
          idle = idle-set views port w (λ none. absurd (omega arith)) b.idle;
          key = b.key;
          same = same-set b.key views port w (λ p. b.same port v at p) b.same;
          fit = fit-snoc b.key items x b.fit (subst (λ (o : Option K). FitsIn Fits o x) (b.same port v at some_part) fits);
        },
        refl,
      )

  pub picks : (port : ℕ) (v : View T K) → 0 < v.share → Pops (Balanced Fits) port v (λ x w. (w ≡ taken v x) × FitsIn Fits v.key x)
  picks port v some_part x items views b at =
      let w : View T K = taken v x in (
        w,
        record {
          level = b.level;
          whole = λ k le. let s = total-set (part k) views port v w at in let p = b.whole k le in omega arith;
          even = λ h.
              let s = total-set (in_put h) views port v w at in
              let t = total-set (in_picked h) views port v w at in
              let p = b.even h in
              omega (arith, total-append h v.picked (x ∷ []));
          idle = idle-set views port w (λ none. absurd (omega arith)) b.idle;
          key = b.key;
          same = same-set b.key views port w (λ p. b.same port v at p) b.same;
          fit = b.fit.1;
        },
        (refl, subst (λ (o : Option K). FitsIn Fits o x) (sym (b.same port v at some_part)) b.fit.0),
      )

  pub cuts : (port : ℕ) (v : View T K) → 0 < v.share → Forks (Balanced Fits) port v (left v) (right v)
  cuts port v some_part items views b at =
      let l : View T K = left v in
      let r : View T K = right v in
      let vs : List (View T K) = set views port l in
      record {
        level = b.level + suc v.halvings;
        whole = λ k le.
            let s = total-set (part k) views port v l at in
            let t = total-append (part k) vs (r ∷ []) in
            let p = b.whole k (omega arith) in
            let q = halves v.share k v.halvings (omega arith) in
            omega arith;
        even = λ h.
            let s = total-set (in_put h) views port v l at in
            let t = total-set (in_picked h) views port v l at in
            let p = b.even h in
            omega (arith, total-append (in_put h) vs (r ∷ []), total-append (in_picked h) vs (r ∷ []));
        idle = idle-snoc vs r (λ none. absurd (omega arith)) (idle-set views port l (λ none. absurd (omega arith)) b.idle);
        key = b.key;
        same = same-snoc b.key vs r (λ p. b.same port v at some_part) (same-set b.key views port l (λ p. b.same port v at some_part) b.same);
        fit = b.fit;
      }

  pub glues : (port : ℕ) (v : View T K) → 0 < v.share → (other : ℕ) (u : View T K) → Merges (Balanced Fits) port v other u (both v u) spent
  glues port v some_part other u items views b at two at' =
      let w : View T K = both v u in
      let vs : List (View T K) = set views port w in
      let was : get_elem? views other ≡ some u = ⊎_elim (λ (x : (other ≡ port) × (w ≡ u)). absurd (two x.0))
      (λ (x : (other ≢ port) × (get_elem? views other ≡ some u)). x.1) (at_set views port other w u at') in
      let nothing : w.share ≡ 0 → (w.put ≡ []) × (w.picked ≡ []) = λ none.
      let x = b.idle port v at (part-none v.share u.halvings (omega arith)) in
      let y = b.idle other u was (part-none u.share v.halvings (omega arith)) in
      (subst (λ (l : List T). l ++ u.put ≡ []) (sym x.0) y.0, subst (λ (l : List T). l ++ u.picked ≡ []) (sym x.1) y.1) in
      record {
        level = b.level + (v.halvings + u.halvings);
        whole = λ k le.
            let s = total-set (part k) views port v w at in
            let t = total-set (part k) vs other u spent at' in
            let p = b.whole k (omega arith) in
            let q = joined v.share u.share v.halvings u.halvings k (omega arith) in
            let z = zero-mul (2 ^ (k - 0)) in
            omega arith;
        even = λ h.
            let s = total-set (in_put h) views port v w at in
            let t = total-set (in_picked h) views port v w at in
            let s' = total-set (in_put h) vs other u spent at' in
            let t' = total-set (in_picked h) vs other u spent at' in
            let p = b.even h in
            omega (arith, total-append h v.put u.put, total-append h v.picked u.picked);
        idle = idle-set vs other spent (λ none. (refl, refl)) (idle-set views port w (λ none. nothing none) b.idle);
        key = b.key;
        same = same-set b.key vs other spent (λ p. absurd (omega arith)) (same-set b.key views port w (λ p. b.same port v at some_part) b.same);
        fit = b.fit;
      }

  -- a pass gives all that it has to a new one
  pub gives : (port : ℕ) (v : View T K) → Forks (Balanced Fits) port v spent v
  gives port v items views b at =
      let none : View T K = spent in
      let vs : List (View T K) = set views port none in
      record {
        level = b.level;
        whole = λ k le.
            let s = total-set (part k) views port v none at in
            let t = total-append (part k) vs (v ∷ []) in
            let z = zero-mul (2 ^ (k - 0)) in
            let p = b.whole k le in
            omega arith;
        even = λ h.
            let s = total-set (in_put h) views port v none at in
            let t = total-set (in_picked h) views port v none at in
            let p = b.even h in
            omega (arith, total-append (in_put h) vs (v ∷ []), total-append (in_picked h) vs (v ∷ []));
        idle = idle-snoc vs v (λ z. b.idle port v at z) (idle-set views port none (λ z. (refl, refl)) b.idle);
        key = b.key;
        same = same-snoc b.key vs v (λ p. b.same port v at p) (same-set b.key views port none (λ p. absurd (omega arith)) b.same);
        fit = b.fit;
      }

  -- a spent pass takes all that the other has
  pub takes : (port : ℕ) (v : View T K) → v.share ≡ 0 → (other : ℕ) (u : View T K) → Merges (Balanced Fits) port v other u u spent
  takes port v none other u items views b at two at' =
      let vs : List (View T K) = set views port u in
      let was : get_elem? views other ≡ some u = ⊎_elim (λ (x : (other ≡ port) × (u ≡ u)). absurd (two x.0))
      (λ (x : (other ≢ port) × (get_elem? views other ≡ some u)). x.1) (at_set views port other u u at') in
      let empty = b.idle port v at none in
      record {
        level = b.level;
        whole = λ k le.
            let s = total-set (part k) views port v u at in
            let t = total-set (part k) vs other u spent at' in
            let y : part k v ≡ 0 = ap (λ n. n * 2 ^ (k - v.halvings)) none ∙ zero-mul (2 ^ (k - v.halvings)) in
            let z = zero-mul (2 ^ (k - 0)) in
            let p = b.whole k le in
            omega arith;
        even = λ h.
            let s = total-set (in_put h) views port v u at in
            let t = total-set (in_picked h) views port v u at in
            let s' = total-set (in_put h) vs other u spent at' in
            let t' = total-set (in_picked h) vs other u spent at' in
            let x = ap (total h) empty.0 in
            let y = ap (total h) empty.1 in
            let p = b.even h in
            omega arith;
        idle = idle-set vs other spent (λ z. (refl, refl)) (idle-set views port u (λ z. b.idle other u was z) b.idle);
        key = b.key;
        same = same-set b.key vs other spent (λ p. absurd (omega arith)) (same-set b.key views port u (λ p. b.same other u was p) b.same);
        fit = b.fit;
      }

  -- a pass is cut in two that have together what it has
  deals : (port : ℕ) (v l r : View T K) → 0 < l.share → 0 < r.share → v.share ≡ l.share * 2 ^ r.halvings + r.share * 2 ^ l.halvings
      → v.halvings ≡ l.halvings + r.halvings → ((h : T → ℕ) → total h v.put ≡ total h l.put + total h r.put)
      → ((h : T → ℕ) → total h v.picked ≡ total h l.picked + total h r.picked) → l.key ≡ v.key → r.key ≡ v.key
      → Forks (Balanced Fits) port v l r
  deals port v l r some_l some_r share halvings put picked key_l key_r items views b at =
      let vs : List (View T K) = set views port l in
      let half : 0 < l.share * 2 ^ r.halvings = mul-pos some_l (pow_pos r.halvings) in
      let live : 0 < v.share = omega (arith, half, share) in
      record {
        level = b.level + (l.halvings + r.halvings);
        whole = λ k le.
            let s = total-set (part k) views port v l at in
            let t = total-append (part k) vs (r ∷ []) in
            let p = b.whole k (omega arith) in
            let q = joined l.share r.share l.halvings r.halvings k (omega arith) in
            let e : part k v ≡ (l.share * 2 ^ r.halvings + r.share * 2 ^ l.halvings) * 2 ^ (k - (l.halvings + r.halvings)) =
            (λ j. share j * 2 ^ (k - halvings j)) in
            omega arith;
        even = λ h.
            let s = total-set (in_put h) views port v l at in
            let t = total-set (in_picked h) views port v l at in
            let p = b.even h in
            let x = put h in
            let y = picked h in
            omega (arith, total-append (in_put h) vs (r ∷ []), total-append (in_picked h) vs (r ∷ []));
        idle = idle-snoc vs r (λ none. absurd (omega arith)) (idle-set views port l (λ none. absurd (omega arith)) b.idle);
        key = b.key;
        same = same-snoc b.key vs r (λ p. key_r ∙ b.same port v at live) (same-set b.key views port l (λ p. key_l ∙ b.same port v at live) b.same);
        fit = b.fit;
      }

  -- a pass that took in another is parted from it
  pub parts : (port : ℕ) (own other v : View T K) → 0 < own.share → 0 < other.share → other.key ≡ own.key → HasGrown own other v
      → Forks (Balanced Fits) port v (grown own other v) other
  parts port own other v some_own some_other key g =
      deals port v (grown own other v) other some_own some_other g.share g.halvings
      (λ h. shared h own.put other.put v.put g.more_put g.put) (λ h. shared h own.picked other.picked v.picked g.more_picked g.picked)
      (sym g.key) (key ∙ sym g.key)

  -- the only pass: no other has a share
  alone : (items : List T) (views : List (View T K)) (b : Balanced Fits items views) (port : ℕ) (v : View T K) → get_elem? views port ≡ some v → IsWhole v
      → (j : ℕ) (u : View T K) → j ≢ port → get_elem? views j ≡ some u → u.share ≡ 0
  alone items views b port v at whole j u ne there =
      let k : ℕ = b.level + v.halvings in
      let none : View T K = spent in
      let p = b.whole k (omega arith) in
      let mine : part k v ≡ 2 ^ k = ap (λ n. n * 2 ^ (k - v.halvings)) whole ∙ sym (power k v.halvings (omega arith)) in
      let s = total-set (part k) views port v none at in
      let z = zero-mul (2 ^ (k - 0)) in
      let most = total-at (part k) (set views port none) j u (set_else views port j none ne ∙ there) in
      part-none u.share (k - u.halvings) (omega arith)

  pub names : (port : ℕ) (v : View T K) (key : Option K) → IsWhole v → v.key ≡ None → Forks (Balanced Fits) port v (keyed key v) spent
  names port v key whole none items views b at =
      let w : View T K = keyed key v in
      let live : 0 < v.share = (let q : 0 < 2 ^ v.halvings = pow_pos v.halvings in omega arith) in
      let vs : List (View T K) = set views port w in
      record {
        level = b.level;
        whole = λ k le.
            let s = total-set (part k) views port v w at in
            let t = total-append (part k) vs (spent ∷ []) in
            let z = zero-mul (2 ^ (k - 0)) in
            let p = b.whole k le in
            omega arith;
        even = λ h.
            let s = total-set (in_put h) views port v w at in
            let t = total-set (in_picked h) views port v w at in
            let p = b.even h in
            omega (arith, total-append (in_put h) vs (spent ∷ []), total-append (in_picked h) vs (spent ∷ []));
        idle = idle-snoc vs spent (λ z. (refl, refl)) (idle-set views port w (λ z. b.idle port v at z) b.idle);
        key = key;
        same = same-snoc key vs spent (λ p. absurd (omega arith)) (λ j u e p. ⊎_elim (λ (x : (j ≡ port) × (w ≡ u)). sym (ap (λ (y : View T K). y.key) x.1))
            (λ (x : (j ≢ port) × (get_elem? views j ≡ some u)). absurd (let z = alone items views b port v at whole j u x.0 x.1 in omega arith))
            (at_set views port j w u e));
        fit = refit b.key key (sym (b.same port v at live) ∙ none) items b.fit;
      }

  pub leaves : (port : ℕ) (v : View T K) → Learns (Balanced Fits) port v (Leaves v)
  leaves port v items views b at whole h =
      let k : ℕ = b.level + v.halvings in
      let p = b.whole k (omega arith) in
      let mine : part k v ≡ 2 ^ k = ap (λ n. n * 2 ^ (k - v.halvings)) whole ∙ sym (power k v.halvings (omega arith)) in
      let all : part k v ≡ total (part k) views = mine ∙ sym p in
      let a = total-alone (in_put h) (part k) views port v at all (λ j u e z. ap (total h) (b.idle j u e (part-none u.share (k - u.halvings) z)).0) in
      let c = total-alone (in_picked h) (part k) views port v at all (λ j u e z. ap (total h) (b.idle j u e (part-none u.share (k - u.halvings) z)).1) in
      let q = b.even h in
      omega arith
