-- What workers of a filer and who puts messages for them have together.
use Rattle.std.proofs.Common.{◌≡◌, ◌≤◌, ◌∙◌, ℕ, ◌+◌, ◌*◌, ◌-◌, ◌^◌, List, [], ◌∷◌, ap, sym, subst, arith}
use Rattle.std.proofs.lemmas.Nat.{pow-add}
use Rattle.std.proofs.Math.Nat.{mul_assoc, mul_comm}
use Rattle.depot_rule.specs.Sums.{total}
use Rattle.tends.specs.Shares.{share_in, AreAll, FilerPass}
use Rattle.workers.specs.Pools.{filer_of, HasAllWith, HasBetween}
use Rattle.workers.specs.declared.pool.Pool.{Pool}
use Rattle.granted_calls.specs.shared_waiting.Balance.{both, left, part, right}
use Rattle.granted_calls.specs.shared_waiting.Passes.{known}
use Rattle.granted_calls.specs.Balance.{FilerEntry, FilerView, Passed}
use Rattle.granted_calls.specs.declared.shared.Filer.{Filer}
use Rattle.turns.specs.Words.{passed}
use Rattle.turns.specs.declared.worker.Worker.{Worker}
use Rattle.pool_rows.specs.Threads.{IsAlone, IsHalf, IsPart, IsRunning, IsUnstarted, StaysPart}

-- ---- halves

-- a half, in parts of 1 / 2^k
half-part : (k : ℕ) (v : Passed) → v.halvings ≤ k → IsHalf v → 2 * part k v ≡ 2 ^ k
half-part k v le half =
    let h = v.halvings in
    let s : k ≡ h + (k - h) = omega (arith, le) in
    sym (mul_assoc 2 v.share (2 ^ (k - h))) ∙ ap (λ n. n * 2 ^ (k - h)) half ∙ sym (ap (λ n. 2 ^ n) s ∙ pow-add 2 h (k - h))

-- ---- a half that is cut in two, and put together again

-- each part of it is a quarter
quarter : (v : Passed) → IsHalf v → 4 * v.share ≡ 2 ^ (v.halvings + 1)
quarter v half = let e : 2 ^ (v.halvings + 1) ≡ 2 ^ v.halvings * 2 = pow-add 2 v.halvings 1 in omega (arith, half, e)

twice : (x y m n z : ℕ) → 4 * x ≡ m → 4 * y ≡ n → n ≡ m → z ≡ m → 2 * (x + y) ≡ z
twice x y m n z p q c e = omega (arith, p, q, c, e)

-- two quarters are a half
quarters : (a b : Passed) → IsPart 4 a → IsPart 4 b → IsHalf (both a b)
quarters a b p q =
    let A = 2 ^ a.halvings in
    let B = 2 ^ b.halvings in
    twice (a.share * B) (b.share * A) (A * B) (B * A) (2 ^ (a.halvings + b.halvings)) (sym (mul_assoc 4 a.share B) ∙ ap (λ n. n * B) p)
    (sym (mul_assoc 4 b.share A) ∙ ap (λ n. n * A) q) (mul_comm B A) (pow-add 2 a.halvings b.halvings)

pub half-again : (v l r a b w : Passed) → IsHalf v → l ≡ left v → r ≡ right v → StaysPart 4 l a → StaysPart 4 r b → w ≡ both a b → IsHalf w
half-again v l r a b w half is-left is-right a-stays b-stays is =
    let p = subst (λ (x : Passed). StaysPart 4 x a) is-left a-stays (quarter v half) in
    let q = subst (λ (x : Passed). StaysPart 4 x b) is-right b-stays (quarter v half) in
    subst IsHalf (sym is) (quarters a b p q)

-- ---- without threads

module _ (filer : Filer) (worker : Worker) (reader : FilerPass) (o : IsAlone filer worker reader) where
  pub alone-all : (ws : List Worker) (ps : List FilerPass) → ws ≡ worker ∷ [] → ps ≡ reader ∷ [] → AreAll ws ps
  alone-all ws ps w p = subst (λ xs. AreAll xs ps) (sym w) (subst (AreAll (worker ∷ [])) (sym p) (
    (passed worker).halvings + (known reader).halvings,
    λ k le.
        let a = half-part k (passed worker) (omega (arith, le)) o.half in
        let b = half-part k (known reader) (omega (arith, le)) o.other in
        omega (arith, a, b),
  ))

-- ---- running

pub running : (filer : Filer) (view : FilerView) (splits : ℕ) (pass reader : FilerPass) (pool : Pool) (entries : List FilerEntry) (count : ℕ)
    → IsUnstarted filer view splits pass reader → filer_of pool ≡ filer → HasBetween splits entries pass count pool → IsRunning filer pool reader
running filer view splits pass reader pool entries count o same between =
    record {
      same = same;
      level = (known pass).halvings + count;
      half = λ k le.
          let a = between.share k le in
          let b = half-part k (known pass) (omega (arith, le)) o.half in
          omega (arith, a, b);
      one = o.one;
      other = o.other;
    }

-- the pass that is handed in at the stop
module _ (filer : Filer) (pool : Pool) (reader : FilerPass) (r : IsRunning filer pool reader) where
  pub passes-whole : (ps : List FilerPass) → ps ≡ reader ∷ [] → HasAllWith pool ps
  passes-whole ps is = (
    r.level + (known reader).halvings,
    λ k le.
        let e = ap (total (share_in k)) is in
        let a = r.half k (omega (arith, le)) in
        let b = half-part k (known reader) (omega (arith, le)) r.other in
        omega (arith, e, a, b),
  )
