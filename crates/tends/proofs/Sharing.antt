-- Shares of the right to know the queue, as passes are joined and cut.
use Rattle.std.proofs.Common.{◌≡◌, ℕ, ◌+◌, ◌^◌, ◌≤◌, List, [], ◌∷◌, ◌++◌, ap, ◌∙◌, subst, arith}
use Rattle.depot_rule.specs.Sums.{total}
use Rattle.depot_rule.specs.lemmas.Sums.{total-append}
use Rattle.granted_calls.specs.shared_waiting.Balance.{part, both, left, right, IsWhole}
use Rattle.granted_calls.specs.shared_waiting.Passes.{known}
use Rattle.turns.specs.declared.worker.Worker.{Worker}
use Rattle.granted_calls.specs.Balance.{Passed, Weight, by_key}
use Rattle.turns.specs.Words.{passed}
use Rattle.tends.specs.Shares.{FilerPass, AreAll, AreAllWith, share_in, share_of, put_by, picked_by}
use Rattle.tends.proofs.Lists.{total-last, total-none}
use Rattle.tends.proofs.Portions.{halves, joined, whole}

part-both : (k : ℕ) (v u w : Passed) → w ≡ both v u → v.halvings + u.halvings ≤ k → part k w ≡ part k v + part k u
part-both k v u w is le = ap (part k) is ∙ joined v.share u.share v.halvings u.halvings k le

-- a worker's pass is joined
pub share-worker : (v w : Passed) (x : Worker) (all rest : List Worker) (ps : List FilerPass) → all ≡ rest ++ x ∷ [] → w ≡ both v (passed x)
    → AreAllWith v all ps → AreAllWith w rest ps
share-worker v w x all rest ps is joins h = (
  h.0 + (v.halvings + (passed x).halvings),
  λ k le.
      let p = part-both k v (passed x) w joins (omega arith) in
      let q = total-last (share_of k) all rest x is in
      let e = h.1 k (omega arith) in
      omega (arith, p, q, e),
)

-- a pass is joined
pub share-pass : (v w : Passed) (x : FilerPass) (all rest : List FilerPass) → all ≡ rest ++ x ∷ [] → w ≡ both v (known x)
    → AreAllWith v [] all → AreAllWith w [] rest
share-pass v w x all rest is joins h = (
  h.0 + (v.halvings + (known x).halvings),
  λ k le.
      let p = part-both k v (known x) w joins (omega arith) in
      let q = total-last (share_in k) all rest x is in
      let e = h.1 k (omega arith) in
      omega (arith, p, q, e),
)

-- the last is the whole
pub whole-at-last : (v : Passed) (ps : List FilerPass) → ps ≡ [] → AreAllWith v [] ps → IsWhole v
whole-at-last v ps none h =
    let k : ℕ = h.0 + v.halvings in
    let b = total-none (share_in k) ps none in
    let e = h.1 k (omega arith) in
    whole v.share v.halvings k (omega arith) (let m : part k v ≡ 2 ^ k = omega (arith, b, e) in m)

-- the first worker, and the others
pub with-first : (v : Passed) (x : Worker) (all rest : List Worker) (ps : List FilerPass) → all ≡ rest ++ x ∷ [] → v ≡ passed x → AreAll all ps
    → AreAllWith v rest ps
with-first v x all rest ps is same h = (
  h.0,
  λ k le.
      let e = h.1 k le in
      let a = ap (part k) same in
      let b = total-last (share_of k) all rest x is in
      omega (arith, e, a, b),
)

pub none-more : (v : Passed) (ws : List Worker) (ps : List FilerPass) → ws ≡ [] → AreAllWith v ws ps → AreAllWith v [] ps
none-more v ws ps none h = subst (λ (l : List Worker). AreAllWith v l ps) none h

-- ---- messages that were put and picked

pub put-both : (h : Weight) (p q r : FilerPass) → known r ≡ both (known p) (known q) → put_by h r ≡ put_by h p + put_by h q
put-both h p q r is = ap (λ (x : Passed). total (by_key h) x.put) is ∙ total-append (by_key h) (known p).put (known q).put

pub picked-both : (h : Weight) (p q r : FilerPass) → known r ≡ both (known p) (known q) → picked_by h r ≡ picked_by h p + picked_by h q
picked-both h p q r is = ap (λ (x : Passed). total (by_key h) x.picked) is ∙ total-append (by_key h) (known p).picked (known q).picked

-- ---- a worker split

pub halved : (k : ℕ) (v : Passed) (ws more : List Worker) (p q : Worker) → passed p ≡ left v → passed q ≡ right v → more ≡ ws ++ q ∷ []
    → v.halvings + 1 ≤ k → share_of k p + total (share_of k) more ≡ part k v + total (share_of k) ws
halved k v ws more p q first second pushed le =
    let a = ap (part k) first in
    let b = ap (part k) second in
    let c = halves v.share k v.halvings (omega arith) in
    let d = total-last (share_of k) more ws q pushed in
    omega (arith, a, b, c, d)
