-- Words that are read one after the other.
use Rattle.std.proofs.Common.{◌≡◌, ℕ, suc, ◌+◌, ◌-◌, ◌<◌, List, [], ◌∷◌, ◌++◌, Ok, Err, refl, sym, ap, append_assoc, arith}
use Rattle.xdr.specs.declared.fault.Fault.{Fault}
use Rattle.xdr.specs.Shape.{Word}
use Rattle.xdr.specs.Reading.{◌>>=◌, Reads, items_at, read}

-- what is read behind items that were read before
abbrev pub behind : {A : Type 0} → List A → Reads (List A) → Reads (List A)
behind before (Ok x) = Ok (before ++ x.0, x.1)
behind before (Err fault) = Err fault

abbrev given : List ℕ × List ℕ → Reads (List ℕ)
given x = Ok x

behind-cons : (before : List ℕ) (first : ℕ) (r : Reads (List ℕ))
    → behind before (r >>= λ xs. Ok (first ∷ xs.0, xs.1)) ≡ behind (before ++ (first ∷ [])) r
behind-cons before first (Ok x) = ap (λ (l : List ℕ). given (l, x.1)) (sym (append_assoc before (first ∷ []) x.0))
behind-cons before first (Err fault) = refl

-- one word of those that are left
pub word_read : (before : List ℕ) (n i : ℕ) (bytes : List ℕ) (x : ℕ × List ℕ) → i < n → read Word bytes ≡ Ok x
    → behind before (items_at (λ rest. read Word rest) (n - i) bytes)
    ≡ behind (before ++ (x.0 ∷ [])) (items_at (λ rest. read Word rest) (n - (i + 1)) x.1)
word_read before n i bytes x lt e =
    let left : n - i ≡ suc (n - (i + 1)) = omega arith in
    rw (left, e) (behind-cons before x.0 (items_at (λ rest. read Word rest) (n - (i + 1)) x.1))

-- none is left
pub word_missing : (before : List ℕ) (n i : ℕ) (bytes : List ℕ) (fault : Fault) → i < n → read Word bytes ≡ Err fault
    → behind before (items_at (λ rest. read Word rest) (n - i) bytes) ≡ Err fault
word_missing before n i bytes fault lt e =
    let left : n - i ≡ suc (n - (i + 1)) = omega arith in
    rw (left, e) refl
