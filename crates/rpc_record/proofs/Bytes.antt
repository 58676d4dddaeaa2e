-- Lists of bytes.
use Rattle.std.proofs.Common.{ℕ, zero, suc, ◌<◌, arith, List, [], ◌∷◌, ◌++◌, get_or}
use Rattle.rpc_record.specs.Stream.{AreBytes}

-- bytes by index
pub are_bytes : (bytes : List ℕ) → ((i : ℕ) → get_or bytes i 0 < 256) → AreBytes bytes
are_bytes [] h = tt
are_bytes (b ∷ bytes) h = (h zero, are_bytes bytes (λ i. h (suc i)))

-- more bytes
pub AreBytes-append : (xs ys : List ℕ) → AreBytes xs → AreBytes ys → AreBytes (xs ++ ys)
AreBytes-append [] ys p q = q
AreBytes-append (x ∷ xs) ys p q = (p.0, AreBytes-append xs ys p.1 q)

-- each is a byte
pub below : (bytes : List ℕ) → AreBytes bytes → (i : ℕ) → get_or bytes i 0 < 256
below [] h i = omega arith
below (b ∷ bytes) h zero = h.0
below (b ∷ bytes) h (suc i) = below bytes h.1 i
