-- What is left of a lane, put to what is left of others.
use Rattle.std.proofs.Common.{◌≡◌, ℕ, ◌+◌, List, [], ◌++◌, Option, ap, arith}
use Rattle.std.specs.Prelude.{option_to_list}
use Rattle.depot_rule.specs.Sums.{total}
use Rattle.depot_rule.specs.lemmas.Sums.{total-append}
use Rattle.granted_calls.specs.Balance.{FilerEntry, Passed, Weight, by_entry, by_key, by_kept, IsEven}
use Rattle.granted_calls.specs.Messages.{Message}
use Rattle.granted_calls.specs.shared_waiting.Balance.{both}
use Rattle.tends.proofs.Joins.{kept-once}

-- What a lane admitted, with what waited before, is what its worker finished and keeps, and what waits then.
lane-even : (h : Weight) (a v j : Passed) (es : List FilerEntry) (k : Option Message) (before waiting : List Message) → a.picked ≡ []
    → j ≡ both a v → IsEven v es k
    → total (by_key h) j.put + total (by_key h) before ≡ total (by_key h) j.picked + total (by_key h) waiting
    → total (by_key h) a.put + total (by_key h) before ≡ total (by_entry h) es + (by_kept h k + total (by_key h) waiting)
lane-even h a v j es k before waiting none is even drained =
    let p = ap (λ (x : Passed). total (by_key h) x.put) is in
    let q = ap (λ (x : Passed). total (by_key h) x.picked) is in
    let r = total-append (by_key h) a.put v.put in
    let s = total-append (by_key h) a.picked v.picked in
    let t = ap (total (by_key h)) none in
    let e = even h in
    omega (arith, p, q, r, s, t, e, drained)

-- of the first lane
pub calls-first : (h : Weight) (a v j : Passed) (es : List FilerEntry) (k : Option Message) (none kept nothing waiting : List Message)
    → a.picked ≡ [] → j ≡ both a v → IsEven v es k → none ≡ [] → nothing ≡ [] → kept ≡ none ++ option_to_list k
    → total (by_key h) j.put + total (by_key h) nothing ≡ total (by_key h) j.picked + total (by_key h) waiting
    → total (by_entry h) es + (total (by_key h) kept + total (by_key h) waiting) ≡ total (by_key h) a.put
calls-first h a v j es k none kept nothing waiting picked is even empty blank put drained =
    let l = lane-even h a v j es k nothing waiting picked is even drained in
    let b = ap (total (by_key h)) put in
    let c = total-append (by_key h) none (option_to_list k) in
    let d = ap (total (by_key h)) empty in
    let e = ap (total (by_key h)) blank in
    let f = kept-once h k in
    omega (arith, l, b, c, d, e, f)

-- of one lane more
pub calls-both : (h : Weight) (a v j : Passed) (es ds all : List FilerEntry) (k : Option Message) (kept more before waiting : List Message)
    → a.picked ≡ [] → j ≡ both a v → IsEven v ds k → more ≡ kept ++ option_to_list k
    → ((weight : FilerEntry → ℕ) → total weight all ≡ total weight es + total weight ds)
    → total (by_key h) j.put + total (by_key h) before ≡ total (by_key h) j.picked + total (by_key h) waiting
    → total (by_entry h) all + (total (by_key h) more + total (by_key h) waiting)
    ≡ total (by_entry h) es + (total (by_key h) kept + total (by_key h) before) + total (by_key h) a.put
calls-both h a v j es ds all k kept more before waiting picked is even put sum drained =
    let l = lane-even h a v j ds k before waiting picked is even drained in
    let b = ap (total (by_key h)) put in
    let c = total-append (by_key h) kept (option_to_list k) in
    let d = sum (by_entry h) in
    let f = kept-once h k in
    omega (arith, l, b, c, d, f)
