-- A machine whose calls move tokens between a node and the seat's hand.
use Rattle.std.specs.Prelude.{◌≡◌, ◌≢◌, ℕ, zero, suc, ◌+◌, ◌<◌, ◌||◌, nat_lt, List, [], ◌∷◌, length, Option, Some, None}
use Rattle.std.proofs.Common.{refl, sym, ap, ◌∙◌, arith, inl}
use Rattle.std.proofs.lemmas.Bool.{eq-eqb}
use mathlib.Core.Logic.{dite}
use native.Mathlib.Decide.{ℕ_discrete}
use Rattle.parcels.specs.declared.family.Parcel.{Parcel}
use Rattle.parcels.specs.Exact.{kind_in}
use Rattle.parcels.specs.NumberIn.{number_in}
use Rattle.depot.specs.declared.trial.lending.Move.{Move}
use Rattle.depot.specs.declared.trial.lending.Move.TheVariants.{Take, Give}
use Rattle.depot_rule.specs.declared.view.View.{View}
use Rattle.depot_rule.specs.declared.view.Entry.{Entry}
use Rattle.affinity.specs.Ancestors.{tally, ancestors}
use Rattle.depot_rule.specs.Sums.{total}
use Rattle.depot_rule.specs.Seats.{if_less}
use Rattle.depot_rule.specs.History.{covers, AreHands, entries_of}
use Rattle.depot_rule.specs.Machine.{IsLocal, Keeps}
use Rattle.depot_rule.specs.lemmas.Covering.{covers-true, if-alike}

-- f of each number below n, added up
abbrev pub sum_below : (ℕ → ℕ) → ℕ → ℕ
sum_below f zero = 0
sum_below f (suc n) = sum_below f n + f n

-- how many tokens a batch is of
abbrev pub size : ℕ → ℕ
size n = n

-- the batch that a call takes into the hand, and the one that it gives from it
abbrev pub taken_by : Move → Unit {0} → List ℕ
taken_by (Take n) reply = n ∷ []
taken_by (Give n) reply = []

abbrev pub given_by : Move → Unit {0} → List ℕ
given_by (Take n) reply = []
given_by (Give n) reply = n ∷ []

module _ {P : Type 0} where
  -- the tokens of a node's parcel, if it has one
  abbrev pub tokens_in : Option (Parcel P ℕ ℕ ℕ ℕ ℕ ℕ ℕ) → ℕ
  tokens_in None = 0
  tokens_in (Some p) = number_in p

  -- the tokens of the node's parcel are others, and all other parcels stay
  abbrev pub Becomes : (ℕ → ℕ → Type 0) → List ℕ → ℕ → (ℕ → Option (Parcel P ℕ ℕ ℕ ℕ ℕ ℕ ℕ)) → (ℕ → Option (Parcel P ℕ ℕ ℕ ℕ ℕ ℕ ℕ)) → Type 0
  Becomes Q parents a f f' = ((p q : _) × (f a ≡ Some p) × (f' a ≡ Some q) × (kind_in q ≡ kind_in p) × Q (number_in p) (number_in q))
      × (a < length parents)
      × ((k : ℕ) → k ≢ a → f' k ≡ f k)

  -- what a call does: a Take moves tokens out of its node's parcel, a Give into it
  abbrev pub Moves : List ℕ → ℕ → Move → (ℕ → Option (Parcel P ℕ ℕ ℕ ℕ ℕ ℕ ℕ)) → Unit {0} → (ℕ → Option (Parcel P ℕ ℕ ℕ ℕ ℕ ℕ ℕ)) → Type 0
  Moves parents a (Take n) f reply f' = Becomes (λ before now. now + n ≡ before) parents a f f'
  Moves parents a (Give n) f reply f' = Becomes (λ before now. now ≡ before + n) parents a f f'

  -- the tokens of all nodes and of all hands are together fewer than 2^64
  abbrev pub FewTokens : List ℕ → (ℕ → Option (Parcel P ℕ ℕ ℕ ℕ ℕ ℕ ℕ)) → List ℕ → ℕ → Type 0
  FewTokens parents f hands n = sum_below (λ k. tokens_in (f k)) (length parents) + total size hands < 18446744073709551616

  -- the batches in a seat's hand
  abbrev pub IsHand : View P (Entry P Move (Unit {0})) → List ℕ → Type 0
  IsHand v hand = AreHands taken_by given_by (entries_of v) hand

-- ---- a call reads and writes the tokens of its own node alone

becomes-local : {P : Type 0} (Q : ℕ → ℕ → Type 0) → IsLocal {P = Parcel P ℕ ℕ ℕ ℕ ℕ ℕ ℕ} {C = Unit {0}} {R = Unit {0}}
    (λ parents a c f r f'. Becomes {P = P} Q parents a f f')
becomes-local Q parents a c f g r f' s = (
  λ k no. s.2 k (λ e. no (inl (sym e))),
  λ same. (
    (
      s.0.0,
      s.0.1,
      same a (inl refl) ∙ s.0.2,
      ap (λ b. if_less (b || nat_lt 0 (tally a (ancestors parents a))) (f' a) (g a)) (eq-eqb a a refl) ∙ s.0.3,
      s.0.4,
      s.0.5,
    ),
    s.1,
    λ k ne. if-alike (covers parents a k) (f' k) (g k) (λ e. s.2 k ne ∙ sym (same k (covers-true parents a k e))),
  ),
)

pub moves-local : {P : Type 0} → IsLocal (Moves {P = P})
moves-local parents a (Take n) f g reply f' s = becomes-local (λ before now. now + n ≡ before) parents a tt f g tt f' s
moves-local parents a (Give n) f g reply f' s = becomes-local (λ before now. now ≡ before + n) parents a tt f g tt f' s

-- ---- a call makes and loses no tokens

sum-same : (f g : ℕ → ℕ) (n : ℕ) → ((k : ℕ) → k < n → g k ≡ f k) → sum_below g n ≡ sum_below f n
sum-same f g zero same = refl
sum-same f g (suc n) same = let r = sum-same f g n (λ k lt. same k (omega arith)) in let e = same n (omega arith) in omega arith

-- a function that is another at one number changes the sum by the difference
sum-changed : (f g : ℕ → ℕ) (a n : ℕ) → a < n → ((k : ℕ) → k ≢ a → g k ≡ f k) → sum_below g n + f a ≡ sum_below f n + g a
sum-changed f g a zero lt same = absurd (omega arith)
sum-changed f g a (suc n) lt same = dite (ℕ_discrete n a)
    (λ e. let r = sum-same f g n (λ k less. same k (λ (q : k ≡ a). absurd (omega arith))) in
    let ef : f n ≡ f a = ap f e in let eg : g n ≡ g a = ap g e in omega arith)
    (λ ne. let r = sum-changed f g a n (omega arith) same in let e = same n ne in omega arith)

becomes-sum : {P : Type 0} (Q : ℕ → ℕ → Type 0) (parents : List ℕ) (a : ℕ) (f f' : ℕ → Option (Parcel P ℕ ℕ ℕ ℕ ℕ ℕ ℕ)) → Becomes Q parents a f f'
    → (before now : ℕ) × Q before now × (sum_below (λ k. tokens_in (f' k)) (length parents) + before ≡ sum_below (λ k. tokens_in (f k)) (length parents) + now)
becomes-sum Q parents a f f' s =
    let r = sum-changed (λ k. tokens_in (f k)) (λ k. tokens_in (f' k)) a (length parents) s.1 (λ k ne. ap tokens_in (s.2 k ne)) in
    let b : tokens_in (f a) ≡ number_in s.0.0 = ap tokens_in s.0.2 in
    let n : tokens_in (f' a) ≡ number_in s.0.1 = ap tokens_in s.0.3 in
    (number_in s.0.0, number_in s.0.1, s.0.5, omega arith)

pub moves-keep : {P : Type 0} → Keeps (Moves {P = P}) taken_by given_by FewTokens
moves-keep parents a (Take n) f reply f' hands hands' count few s change =
    let r = becomes-sum (λ before now. now + n ≡ before) parents a f f' s in
    let moved = r.2 in let sum = r.3 in let h = change size in omega arith
moves-keep parents a (Give n) f reply f' hands hands' count few s change =
    let r = becomes-sum (λ before now. now ≡ before + n) parents a f f' s in
    let moved = r.2 in let sum = r.3 in let h = change size in omega arith
