-- The numbers of a lane's connections.
use Rattle.std.proofs.Common.{◌≡◌, ◌≢◌, ◌<◌, ℕ, ◌+◌, ◌*◌, ◌/◌, sym, ap, ◌∙◌, arith}
use Rattle.std.proofs.Math.Nat.{mul-div_cancel, add-mul}
use Rattle.lanes.specs.Story.{number_at}

same-times : (k j n : ℕ) → 0 < n → k * n ≡ j * n → k ≡ j
same-times k j n some e = sym (mul-div_cancel k some) ∙ ap (λ (x : ℕ). x / n) e ∙ mul-div_cancel j some

-- each is given once
pub numbers-differ : (lane lanes k j : ℕ) → lane < lanes → k ≢ j → number_at lane lanes k ≢ number_at lane lanes j
numbers-differ lane lanes k j within differ e =
    differ (same-times k j lanes (omega (arith, within)) (let a = k * lanes in let b = j * lanes in omega (arith, e)))

pub number-next : (lane lanes k : ℕ) → number_at lane lanes k + lanes ≡ number_at lane lanes (k + 1)
number-next lane lanes k = let e = add-mul k 1 lanes in omega (arith, e)
