-- What bytes would lead to.
use Rattle.std.proofs.Common.{◌≡◌, ℕ, zero, suc, ◌+◌, ◌<◌, ◌≤◌, List, [], ◌∷◌, ◌++◌, length, take, Option, Some, None, refl, sym, ap, subst, arith}
use Rattle.rpc_record.specs.Machine.{State, Next, Goes, Ends, Faults, Outcome, More, Made, Fault, IsMore, after, go, scan, outcome}
use Rattle.rpc_record.specs.Feeds.{look_at}
use Rattle.rpc_record.specs.declared.reassembler.Look.{Look}
use Rattle.rpc_record.specs.declared.reassembler.Look.TheVariants as looks
use Rattle.engine_feed.specs.Sound.{HasNoRecord}

-- ---- looks

pub look-record : (bytes : List ℕ) (o : Outcome) (told : ℕ × Look) → told ≡ look_at bytes o → told.1 ≡ looks.Record → (made : List ℕ) × (o ≡ Made told.0 made)
look-record bytes (More s) told e r = absurd cc
look-record bytes (Made n made) told e r = (made, ap (λ (t : ℕ × Look). Made t.0 made) (sym e))
look-record bytes (Fault n) told e r = absurd cc

later_at : (t n : ℕ) (made bytes : List ℕ) (next : Next) → ((s : State) → scan (t + 1) s bytes ≡ Made n made → t + 1 < n)
    → go (t + 1) next (λ s. scan (t + 1) s bytes) ≡ Made n made → t < n
later_at t n made bytes (Goes s) rest e = let l = rest s e in omega arith
later_at t n made bytes (Ends m) rest e = let same : t + 1 ≡ n = cc in omega arith
later_at t n made bytes Faults rest e = absurd cc

later : (bytes : List ℕ) (s : State) (t n : ℕ) (made : List ℕ) → scan t s bytes ≡ Made n made → t < n
later [] s t n made e = absurd cc
later (b ∷ bytes) s t n made e = later_at t n made bytes (after s b) (λ next k. later bytes next (t + 1) n made k) e

pub made-some : (at : Option State) (bytes : List ℕ) (n : ℕ) (made : List ℕ) → outcome at bytes ≡ Made n made → 0 < n
made-some None bytes n made e = absurd cc
made-some (Some s) bytes n made e = later bytes s 0 n made e

pub more-none : (o : Outcome) → IsMore o → HasNoRecord o
more-none o m = subst HasNoRecord (sym m.1) tt

-- ---- lists

pub take-front : (xs ys : List ℕ) → take (length xs) (xs ++ ys) ≡ xs
take-front [] ys = refl
take-front (x ∷ xs) ys = ap (λ (zs : List ℕ). x ∷ zs) (take-front xs ys)

pub take-within : (n m : ℕ) (xs : List ℕ) → n ≤ m → take n (take m xs) ≡ take n xs
take-within zero m xs h = refl
take-within (suc n) zero xs h = absurd (omega arith)
take-within (suc n) (suc m) [] h = refl
take-within (suc n) (suc m) (x ∷ xs) h = ap (λ (zs : List ℕ). x ∷ zs) (take-within n m xs (omega arith))
