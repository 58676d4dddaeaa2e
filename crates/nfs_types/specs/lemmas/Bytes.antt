-- Bytes by index.
use Rattle.std.proofs.Common.{ℕ, ◌<◌, List, length, get_or, inl, inr, arith}
use Rattle.std.proofs.lemmas.Bool.{cases_lt}
use Rattle.std.proofs.lemmas.List.{get_or_past}
use Rattle.xdr.specs.lemmas.Items.{IsBytes}

-- those that there are are bytes
pub are_bytes : (bytes : List ℕ) → ((i : ℕ) → i < length bytes → get_or bytes i 0 < 256) → IsBytes bytes
are_bytes bytes h i =
    elim (cases_lt i (length bytes)) [
      | inl lt ↦ h i lt
      | inr le ↦ rw (get_or_past bytes i 0 le) (omega arith)
    ]
