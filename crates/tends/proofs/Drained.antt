-- What the only pass picks until nothing waits.
use Rattle.std.proofs.Common.{◌≡◌, ℕ, ◌+◌, List, [], ◌∷◌, ◌++◌, length, ap, arith}
use Rattle.crossbeam_queue.specs.Fifo.{Held}
use Rattle.depot_rule.specs.Sums.{total}
use Rattle.depot_rule.specs.lemmas.Sums.{total-append}
use Rattle.granted_calls.specs.shared_waiting.Balance.{taken, IsWhole, Leaves}
use Rattle.granted_calls.specs.Messages.{Message}
use Rattle.granted_calls.specs.Balance.{Passed}
use Rattle.tends.proofs.Lists.{total-one, none-left}

-- this many wait
pub counted : (v w : Passed) (n : ℕ) → w ≡ v → IsWhole v → Held n (Leaves v) → length v.put ≡ length v.picked + n
counted v w n same whole held =
    let e = held.2 whole (λ (m : Message). 1) in
    let a = total-one v.put in let b = total-one v.picked in let c = total-one held.0 in let d = held.1 in
    omega (arith, e, a, b, c, d)

-- one more was picked
pub more : (h : Message → ℕ) (v w : Passed) (x : Message) (xs ys : List Message) (before was : ℕ) → w ≡ taken v x
    → total h v.picked + before ≡ was + total h xs → ys ≡ xs ++ x ∷ [] → total h w.picked + before ≡ was + total h ys
more h v w x xs ys before was took same is =
    let a = ap (λ (u : Passed). total h u.picked) took in
    let b = total-append h v.picked (x ∷ []) in
    let c = ap (total h) is in
    let d = total-append h xs (x ∷ []) in
    omega (arith, a, b, c, d, same)

pub one-more : (v w : Passed) (x : Message) → w ≡ taken v x → length w.picked ≡ length v.picked + 1
one-more v w x took =
    let a = ap (λ (u : Passed). total (λ (m : Message). 1) u.picked) took in
    let b = total-append (λ (m : Message). 1) v.picked (x ∷ []) in
    let c = total-one v.picked in let d = total-one w.picked in
    omega (arith, a, b, c, d)

-- nothing waits any more
pub all-picked : (h : Message → ℕ) (u v : Passed) (before xs : List Message) → IsWhole v → Held 0 (Leaves v) → v.put ≡ u.put
    → total h v.picked + total h before ≡ total h u.picked + total h xs → total h u.put + total h before ≡ total h u.picked + total h xs
all-picked h u v before xs whole held put picked =
    let e = held.2 whole h in
    let z = ap (total h) (none-left held.0 held.1) in
    let p = ap (total h) put in
    omega (arith, e, z, p, picked)

-- where all that waited were picked, nothing waits
pub nothing-waits : (u v : Passed) (n : ℕ) (items : List Message) → IsWhole v → Leaves v items → length u.put ≡ length u.picked + n → v.put ≡ u.put
    → length v.picked ≡ length u.picked + n → Held 0 (Leaves v)
nothing-waits u v n items whole leaves was put picked =
    let e = leaves whole (λ (m : Message). 1) in
    let a = total-one v.put in let b = total-one v.picked in let c = total-one items in let d = ap (λ l. length l) put in
    (items, omega (arith, e, a, b, c, d, was, picked), leaves)
