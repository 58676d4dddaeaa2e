-- Scans of more bytes, and of fewer.
use Rattle.std.proofs.Common.{◌≡◌, ℕ, zero, suc, ◌+◌, ◌<◌, List, [], ◌∷◌, ◌++◌, length, take, refl, sym, ap, subst, ◌∙◌, arith}
use Rattle.rpc_record.specs.Machine.{State, Next, Goes, Ends, Faults, Outcome, More, Made, Fault, after, go, scan}

-- the state is in the outcome
state_is : (s u : State) → More s ≡ More u → s ≡ u
state_is s u e = cc

-- past one byte
more_next : (t : ℕ) (n : Next) (xs ys : List ℕ) (u : State)
    → ((v : State) → scan (t + 1) v xs ≡ More u → scan (t + 1) v (xs ++ ys) ≡ scan (t + 1 + length xs) u ys)
    → go (t + 1) n (λ v. scan (t + 1) v xs) ≡ More u → go (t + 1) n (λ v. scan (t + 1) v (xs ++ ys)) ≡ scan (t + suc (length xs)) u ys
more_next t (Goes v) xs ys u f e = f v e ∙ ap (λ (k : ℕ). scan k u ys) (omega arith)
more_next t (Ends m) xs ys u f e = absurd cc
more_next t Faults xs ys u f e = absurd cc

-- a scan that went on goes on from there
pub scan-append : (t : ℕ) (s : State) (xs ys : List ℕ) (u : State) → scan t s xs ≡ More u → scan t s (xs ++ ys) ≡ scan (t + length xs) u ys
scan-append t s [] ys u e = ap (λ (v : State). scan t v ys) (state_is s u e) ∙ ap (λ (k : ℕ). scan k u ys) (omega arith)
scan-append t s (x ∷ xs) ys u e = more_next t (after s x) xs ys u (λ v p. scan-append (t + 1) v xs ys u p) e

-- past one byte, however many were taken before
more_any_next : (t k : ℕ) (n : Next) (xs : List ℕ) (u : State) → ((v : State) → scan (t + 1) v xs ≡ More u → scan (k + 1) v xs ≡ More u)
    → go (t + 1) n (λ v. scan (t + 1) v xs) ≡ More u → go (k + 1) n (λ v. scan (k + 1) v xs) ≡ More u
more_any_next t k (Goes v) xs u f e = f v e
more_any_next t k (Ends m) xs u f e = absurd cc
more_any_next t k Faults xs u f e = absurd cc

-- how many bytes were taken before doesn't matter
pub more_any : (t k : ℕ) (s : State) (xs : List ℕ) (u : State) → scan t s xs ≡ More u → scan k s xs ≡ More u
more_any t k s [] u e = e
more_any t k s (x ∷ xs) u e = more_any_next t k (after s x) xs u (λ v p. more_any (t + 1) (k + 1) v xs u p) e

-- this many bytes come before the end of the record or the fault
abbrev pub IsBefore : ℕ → Outcome → Type 0
IsBefore n (More u) = Unit {0}
IsBefore n (Made taken made) = n < taken
IsBefore n (Fault taken) = n < taken

-- the same count
before_is : (n m : ℕ) (o : Outcome) → n ≡ m → IsBefore n o → IsBefore m o
before_is n m o e h = subst (λ (k : ℕ). IsBefore k o) e h

-- past one byte
before_next : (t j : ℕ) (n : Next) (xs : List ℕ) (o : Outcome) → ((v : State) → scan (t + 1) v xs ≡ o → (u : State) × (scan (t + 1) v (take j xs) ≡ More u))
    → go (t + 1) n (λ v. scan (t + 1) v xs) ≡ o → IsBefore (t + suc j) o
    → (u : State) × (go (t + 1) n (λ v. scan (t + 1) v (take j xs)) ≡ More u)
before_next t j (Goes v) xs o f e h = f v e
before_next t j (Ends m) xs o f e h = let h2 : IsBefore (t + suc j) (Made (t + 1) m) = subst (IsBefore (t + suc j)) (sym e) h in absurd (omega (arith, h2))
before_next t j Faults xs o f e h = let h2 : IsBefore (t + suc j) (Fault (t + 1)) = subst (IsBefore (t + suc j)) (sym e) h in absurd (omega (arith, h2))

-- A scan of fewer bytes goes on.
pub scan-take : (t j : ℕ) (s : State) (xs : List ℕ) (o : Outcome) → scan t s xs ≡ o → IsBefore (t + j) o → (u : State) × (scan t s (take j xs) ≡ More u)
scan-take t zero s xs o e h = (s, refl)
scan-take t (suc j) s [] o e h = (s, refl)
scan-take t (suc j) s (x ∷ xs) o e h =
    before_next t j (after s x) xs o (λ v p. scan-take (t + 1) j v xs o p (before_is (t + suc j) (t + 1 + j) o (omega arith) h)) e h
