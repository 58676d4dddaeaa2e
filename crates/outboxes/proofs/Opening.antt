-- When no connection can be opened, and which number is next.
use Rattle.std.proofs.Common.{◌≡◌, ◌≤◌, ◌<◌, ℕ, ◌^◌, Bool, true, false, List, Result, Ok, Err, refl, sym, ap, ◌∙◌, arith, inl, inr}
use Rattle.std.specs.Prelude.{◌+◌, ◌%◌}
use Rattle.std.proofs.Math.Nat.{add-mod_right}
use Rattle.std.proofs.lemmas.Bool.{false≢true}
use Rattle.std.specs.FinMap.{FinMap, len}
use Rattle.std.specs.Ordering.{nat_cmp}
use Rattle.nfs_values.specs.declared.number.ConnectionNumber.{ConnectionNumber}
use Rattle.outboxes.specs.declared.refusal.OpenRefusal.{OpenRefusal}
use Rattle.outboxes.specs.declared.refusal.OpenRefusal.TheVariants.{Full, NoMemory}
use Rattle.outboxes.specs.Boxes.{Boxes, IsFull}
use Rattle.outboxes.specs.Messages.{ReplyMessage}
use Rattle.outboxes.specs.Tables.{boxes_of}

module _ (most next step : ℕ) (waiting : FinMap nat_cmp (List ReplyMessage)) where
  pub full-by-count : (n : ℕ) → n ≡ len waiting → most ≤ n → IsFull (boxes_of most next step waiting)
  full-by-count n e h = inl (omega (arith, e, h))

  pub not-full : (n : ℕ) → n ≡ len waiting → n < most → next < 2 ^ 62 → IsFull (boxes_of most next step waiting) → ⊥
  not-full n e h m (inl full) = omega (arith, e, h, full)
  not-full n e h m (inr full) = omega (arith, m, full)

abbrev Answered : Type 0
Answered = Result ConnectionNumber OpenRefusal

-- the answer is `Full`
abbrev is_told_full : Answered → Bool
is_told_full (Ok connection) = false
is_told_full (Err Full) = true
is_told_full (Err NoMemory) = false

abbrev full : Answered
full = Err Full

-- it is told and is so, or neither
neither : (b : Boxes) (r : Answered) → is_told_full r ≡ false → (IsFull b → ⊥) → (r ≡ full → IsFull b) × (IsFull b → r ≡ full)
neither b r e n = (λ h. absurd (false≢true (sym e ∙ ap is_told_full h)), λ f. absurd (n f))

pub neither-opened : (b : Boxes) (connection : ConnectionNumber) → (IsFull b → ⊥) → (Ok connection ≡ full → IsFull b) × (IsFull b → Ok connection ≡ full)
neither-opened b connection n = neither b (Ok connection) refl n

pub neither-refused : (b : Boxes) (refusal : OpenRefusal) → refusal ≡ NoMemory → (IsFull b → ⊥)
    → (Err refusal ≡ full → IsFull b) × (IsFull b → Err refusal ≡ full)
neither-refused b refusal e n = neither b (Err refusal) (ap (λ (x : OpenRefusal). is_told_full (Err x)) e) n

-- the number after one of a lane is of that lane too
pub of-lane-after : (next step lane lanes : ℕ) → step ≡ lanes → next % lanes ≡ lane → (next + step) % lanes ≡ lane
of-lane-after next step lane lanes is at = ap (λ (k : ℕ). (next + k) % lanes) is ∙ add-mod_right next lanes ∙ at
