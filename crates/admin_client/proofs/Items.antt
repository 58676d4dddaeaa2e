-- Items that are read one after the other.
use Rattle.std.proofs.Common.{◌≡◌, ℕ, suc, ◌+◌, ◌-◌, ◌<◌, List, [], ◌∷◌, ◌++◌, Ok, Err, refl, sym, ap, append_assoc, arith}
use Rattle.xdr.specs.declared.fault.Fault.{Fault}
use Rattle.xdr.specs.Reading.{◌>>=◌, Reads, items_at}

-- what is read behind items that were read before
abbrev pub after : {A : Type 0} → List A → Reads (List A) → Reads (List A)
after before (Ok x) = Ok (before ++ x.0, x.1)
after before (Err fault) = Err fault

abbrev given : {A : Type 0} → List A × List ℕ → Reads (List A)
given x = Ok x

after-cons : {A : Type 0} (before : List A) (first : A) (r : Reads (List A))
    → after before (r >>= λ xs. Ok (first ∷ xs.0, xs.1)) ≡ after (before ++ (first ∷ [])) r
after-cons {A} before first (Ok x) = ap (λ (l : List A). given (l, x.1)) (sym (append_assoc before (first ∷ []) x.0))
after-cons before first (Err fault) = refl

-- one of those that are left
pub item_read : {A : Type 0} (item : List ℕ → Reads A) (before : List A) (n i : ℕ) (bytes : List ℕ) (x : A × List ℕ) → i < n → item bytes ≡ Ok x
    → after before (items_at item (n - i) bytes) ≡ after (before ++ (x.0 ∷ [])) (items_at item (n - (i + 1)) x.1)
item_read item before n i bytes x lt e =
    let left : n - i ≡ suc (n - (i + 1)) = omega arith in
    rw (left, e) (after-cons before x.0 (items_at item (n - (i + 1)) x.1))

-- none is left
pub item_missing : {A : Type 0} (item : List ℕ → Reads A) (before : List A) (n i : ℕ) (bytes : List ℕ) (fault : Fault) → i < n → item bytes ≡ Err fault
    → after before (items_at item (n - i) bytes) ≡ Err fault
item_missing item before n i bytes fault lt e =
    let left : n - i ≡ suc (n - (i + 1)) = omega arith in
    rw (left, e) refl
