-- Bytes that are written in two parts, one after the other, at one moment.
use Rattle.std.proofs.Common.{◌≡◌, ℕ, zero, suc, ◌+◌, ◌-◌, ◌<◌, ◌≤◌, Bool, true, false, List, [], ◌∷◌, take, drop, Option, Some, None}
use Rattle.std.proofs.Common.{nat_le, refl, sym, ap, ◌∙◌, arith, ⊎_elim}
use Rattle.std.specs.Prelude.{if◌then◌else◌, slice_index_or}
use Rattle.std.proofs.lemmas.Bool.{cases_lt}
use Rattle.std.proofs.lemmas.Bool.Decides.{nat_tests}
use Rattle.std.proofs.lemmas.List.{length-take}
use Rattle.nfs_model.specs.Types.{Moment}
use Rattle.nfs_model.specs.Shown.{moment_le, touched}
use Rattle.nfs_model.specs.volume.Stripes.{byte_written}
use Rattle.filer_state.specs.bytes.lemmas.Patched.{byte-before, byte-past}

taken-at : (xs : List ℕ) (l i d : ℕ) → i < l → slice_index_or (take l xs) i d ≡ slice_index_or xs i d
taken-at [] zero i d less = absurd (omega (arith, less))
taken-at [] (suc l) i d less = refl
taken-at (x ∷ xs) zero i d less = absurd (omega (arith, less))
taken-at (x ∷ xs) (suc l) zero d less = refl
taken-at (x ∷ xs) (suc l) (suc i) d less = taken-at xs l i d (omega (arith, less))

dropped-at : (xs : List ℕ) (l i d : ℕ) → slice_index_or (drop l xs) i d ≡ slice_index_or xs (l + i) d
dropped-at xs zero i d = let same : i ≡ 0 + i = omega arith in ap (λ (k : ℕ). slice_index_or xs k d) same
dropped-at [] (suc l) i d = refl
dropped-at (x ∷ xs) (suc l) i d =
    dropped-at xs l i d
    ∙ (let same : suc l + i ≡ suc (l + i) = omega arith in ap (λ (k : ℕ). slice_index_or (x ∷ xs) k d) (sym same))

-- at an offset, or past it
written-from : (offset : ℕ) (written : List ℕ) (at old : ℕ) → offset ≤ at → byte_written offset written at old ≡ slice_index_or written (at - offset) old
written-from offset written at old from =
    let test : nat_le offset at ≡ true = grind (arith, nat_tests) in
    ap (λ (b : Bool). if b then slice_index_or written (at - offset) old else old) test

-- a byte after both
pub written-twice : (offset l : ℕ) (written : List ℕ) (k old : ℕ)
    → byte_written (offset + l) (drop l written) k (byte_written offset (take l written) k old) ≡ byte_written offset written k old
written-twice offset l written k old = ⊎_elim
    (λ (below : k < offset).
    byte-before (offset + l) (drop l written) k (byte_written offset (take l written) k old) (omega (arith, below))
    ∙ byte-before offset (take l written) k old below ∙ sym (byte-before offset written k old below))
    (λ (from : offset ≤ k). ⊎_elim
    (λ (first : k < offset + l).
    byte-before (offset + l) (drop l written) k (byte_written offset (take l written) k old) first
    ∙ written-from offset (take l written) k old from ∙ taken-at written l (k - offset) old (omega (arith, first, from))
    ∙ sym (written-from offset written k old from))
    (λ (second : offset + l ≤ k).
    let none : byte_written offset (take l written) k old ≡ old =
    byte-past offset (take l written) k old (let some = length-take l written in omega (arith, some, second)) in
    written-from (offset + l) (drop l written) k (byte_written offset (take l written) k old) second
    ∙ ap (slice_index_or (drop l written) (k - (offset + l))) none
    ∙ dropped-at written l (k - (offset + l)) old
    ∙ (let same : l + (k - (offset + l)) ≡ k - offset = omega (arith, second) in ap (λ (m : ℕ). slice_index_or written m old) same)
    ∙ sym (written-from offset written k old from))
    (cases_lt k (offset + l)))
    (cases_lt k offset)

-- a touch after both
pub touched-twice : (t : Option Moment) (m : Moment) → touched (Some (touched t m)) m ≡ touched t m
touched-twice None m = by (moment_le m m)
  where
    by : (x : Bool) → (if x then m else m) ≡ m
    by true = refl
    by false = refl
touched-twice (Some a) m = by (moment_le a m) refl
  where
    same : (x : Bool) → (if x then m else m) ≡ m
    same true = refl
    same false = refl

    by : (x : Bool) → moment_le a m ≡ x → (if moment_le (if x then m else a) m then m else (if x then m else a)) ≡ (if x then m else a)
    by true e = same (moment_le m m)
    by false e = ap (λ (t : Bool). if t then m else a) e
