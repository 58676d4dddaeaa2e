-- Shares of the right to know the outboxes, as passes are joined and cut.
use Rattle.std.proofs.Common.{◌≡◌, ℕ, ◌+◌, ◌-◌, ◌*◌, ◌^◌, ◌≤◌, ap, ◌∙◌, arith}
use Rattle.granted_calls.specs.SharedOutboxes.{Lent, HasLentShareOf}
use Rattle.granted_calls.specs.shared_waiting.Balance.{part, both, left, right}
use Rattle.tends.proofs.Portions.{halves, joined}

pub lent-both : (k : ℕ) (v u w : Lent) → w ≡ both v u → v.halvings + u.halvings ≤ k → part k w ≡ part k v + part k u
lent-both k v u w is le = ap (part k) is ∙ joined v.share u.share v.halvings u.halvings k le

pub lent-halves : (k : ℕ) (v u w : Lent) → u ≡ left v → w ≡ right v → v.halvings + 1 ≤ k → part k u + part k w ≡ part k v
lent-halves k v u w first second le =
    let a = ap (part k) first in
    let b = ap (part k) second in
    let c = halves v.share k v.halvings (omega arith) in
    omega (arith, a, b, c)

pub lent-same : (k : ℕ) (v w : Lent) → HasLentShareOf v w → part k w ≡ part k v
lent-same k v w same = ap (λ n. n * 2 ^ (k - w.halvings)) same.0 ∙ ap (λ n. v.share * 2 ^ (k - n)) same.1
