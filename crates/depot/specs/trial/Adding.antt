-- A machine whose calls add to the number of their node.
use Rattle.std.specs.Prelude.{◌≡◌, ◌≢◌, ℕ, ◌+◌, ◌%◌, ◌||◌, nat_lt, List, Option, Some}
use Rattle.std.proofs.Common.{refl, sym, ap, ◌∙◌, inl}
use Rattle.std.proofs.lemmas.Bool.{eq-eqb}
use Rattle.parcels.specs.declared.family.Parcel.{Parcel}
use Rattle.parcels.specs.Exact.{kind_in}
use Rattle.parcels.specs.NumberIn.{number_in}
use Rattle.depot.specs.declared.trial.adding.Change.{Change}
use Rattle.depot.specs.declared.trial.adding.Change.TheVariants.{Touch, Read, Add}
use Rattle.affinity.specs.Ancestors.{tally, ancestors}
use Rattle.depot_rule.specs.History.{covers}
use Rattle.depot_rule.specs.Seats.{if_less}
use Rattle.depot_rule.specs.Machine.{IsLocal}
use Rattle.depot_rule.specs.lemmas.Covering.{covers-true, if-alike}

module _ {P : Type 0} where
  -- each parcel is this number
  abbrev pub AreEach : ℕ → (ℕ → Option (Parcel P ℕ ℕ ℕ ℕ ℕ ℕ ℕ)) → Type 0
  AreEach n f = (k : ℕ) (p : _) → f k ≡ Some p → number_in p ≡ n

  -- the number of the call's node becomes the reply, the sum of what it was and what the call adds modulo 2^64; all others stay
  abbrev pub Adds : List ℕ → ℕ → ℕ → (ℕ → Option (Parcel P ℕ ℕ ℕ ℕ ℕ ℕ ℕ)) → ℕ → (ℕ → Option (Parcel P ℕ ℕ ℕ ℕ ℕ ℕ ℕ)) → Type 0
  Adds parents a n f sum f' = ((p q : _) × (f a ≡ Some p) × (f' a ≡ Some q) × (kind_in q ≡ kind_in p) × (number_in q ≡ sum)
      × ((number_in p + n) % 18446744073709551616 ≡ sum))
      × ((k : ℕ) → k ≢ a → f' k ≡ f k)

-- a call reads and writes the number of its own node alone
adds-local : {P : Type 0} → IsLocal (Adds {P = P})
adds-local parents a n f g sum f' s = (
  λ k no. s.1 k (λ e. no (inl (sym e))),
  λ same. (
    (
      s.0.0,
      s.0.1,
      same a (inl refl) ∙ s.0.2,
      ap (λ b. if_less (b || nat_lt 0 (tally a (ancestors parents a))) (f' a) (g a)) (eq-eqb a a refl) ∙ s.0.3,
      s.0.4,
      s.0.5,
      s.0.6,
    ),
    λ k ne. if-alike (covers parents a k) (f' k) (g k) (λ e. s.1 k ne ∙ sym (same k (covers-true parents a k e))),
  ),
)

-- what a call does
abbrev pub Changes : {P : Type 0} → List ℕ → ℕ → Change → (ℕ → Option (Parcel P ℕ ℕ ℕ ℕ ℕ ℕ ℕ)) → ℕ → (ℕ → Option (Parcel P ℕ ℕ ℕ ℕ ℕ ℕ ℕ)) → Type 0
Changes parents a Touch f reply f' = (reply ≡ 0) × ((k : ℕ) → f' k ≡ f k)
Changes parents a Read f reply f' = ((p : _) × (f a ≡ Some p) × (reply ≡ number_in p)) × ((k : ℕ) → f' k ≡ f k)
Changes parents a (Add n) f reply f' = Adds parents a n f reply f'

-- a call reads and writes what its node covers alone
pub changes-local : {P : Type 0} → IsLocal (Changes {P = P})
changes-local parents a Touch f g reply f' s = (
  λ k out. s.1 k,
  λ same. (
    s.0,
    λ k. if-alike (covers parents a k) (f' k) (g k)
        (λ e. s.1 k ∙ sym (same k (covers-true parents a k e))),
  ),
)
changes-local parents a Read f g reply f' s = (
  λ k out. s.1 k,
  λ same. ((s.0.0, same a (inl refl) ∙ s.0.1, s.0.2), λ k. if-alike (covers parents a k) (f' k) (g k) (λ e. s.1 k ∙ sym (same k (covers-true parents a k e)))),
)
changes-local parents a (Add n) f g reply f' s = adds-local parents a n f g reply f' s
