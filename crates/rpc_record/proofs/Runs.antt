-- The scan finds the records that a stream spells, and no others.
use Rattle.std.proofs.Common.{◌≡◌, ℕ, suc, ◌+◌, ◌-◌, ◌%◌, ◌^◌, ◌<◌, ◌≤◌, Bool, true, false, cond, eqb, ltb, List, [], ◌∷◌, ◌++◌, length, refl, sym, ap, ◌∙◌}
use Rattle.std.proofs.Common.{append_assoc, arith, length-append}
use Rattle.std.specs.Prelude.{nat_le}
use Rattle.std.specs.List.{concat}
use Rattle.std.specs.Int.{w32, to_be_bytes}
use Rattle.std.proofs.lemmas.Bool.Decides.{nat_tests}
use Rattle.std.proofs.lemmas.List.{append-nil}
use Rattle.std.proofs.lemmas.Nat.{from_be_bytes-to_be_bytes_4}
use Rattle.rpc_record.specs.Records.{limit, last_bit, header, fragment, front, IsRecord, IsAtFault, HasNoRecord, HasNoFault}
use Rattle.rpc_record.specs.Position.{after_data, rest_of}
use Rattle.rpc_record.proofs.Chunks.{data_run}
use Rattle.rpc_record.specs.Machine.{State, InHeader, InData, Next, Goes, Faults, More, Made, Fault, after_fragment, after_header, after, scan}

-- the same rest, counted from the same number
same_at : (t u : ℕ) (n : Next) (bytes : List ℕ) → t ≡ u → rest_of t n bytes ≡ rest_of u n bytes
same_at t u n bytes e = ap (λ (k : ℕ). rest_of k n bytes) e

-- all of a fragment's data
data_ends : (part rest joined : List ℕ) (t : ℕ) (last : Bool) → 0 < length part
    → scan t (InData joined (length part) last) (part ++ rest) ≡ rest_of (t + length part) (after_fragment (joined ++ part) last) rest
data_ends part rest joined t last some =
    let none_left : length part - length part ≡ 0 = omega arith in
    data_run part rest joined t (length part) last some (omega arith)
    ∙ ap (λ (left : ℕ). rest_of (t + length part) (after_data (joined ++ part) left last) rest) none_left

-- a whole header
header_run : (number t : ℕ) (joined rest : List ℕ) → number < 2 ^ 32
    → scan t (InHeader joined []) (to_be_bytes w32 number ++ rest) ≡ rest_of (t + 4) (after_header joined number) rest
header_run number t joined rest lt =
    ap (λ (k : ℕ). rest_of (t + 1 + 1 + 1 + 1) (after_header joined k) rest) (from_be_bytes-to_be_bytes_4 number lt)
    ∙ same_at (t + 1 + 1 + 1 + 1) (t + 4) (after_header joined number) rest (omega arith)

-- the size that a header gives
size_is : (n : ℕ) (last : Bool) → n < 2 ^ 31 → (n + cond last last_bit 0) % last_bit ≡ n
size_is n true h = omega arith
size_is n false h = omega arith

-- whether a header marks the last fragment
last_is : (n : ℕ) (last : Bool) → n < 2 ^ 31 → nat_le last_bit (n + cond last last_bit 0) ≡ last
last_is n true h = grind (arith, nat_tests)
last_is n false h = grind (arith, nat_tests)

-- a header is a word
number_fits : (n : ℕ) (last : Bool) → n < 2 ^ 31 → n + cond last last_bit 0 < 2 ^ 32
number_fits n true h = omega arith
number_fits n false h = omega arith

-- a header within the limit
entered : (joined : List ℕ) (n : ℕ) (last : Bool) → length joined + n ≤ limit
    → after_header joined (n + cond last last_bit 0) ≡ cond (eqb n 0) (after_fragment joined last) (Goes (InData joined n last))
entered joined n last h =
    let small : ltb limit (length joined + n) ≡ false = grind (arith, nat_tests) in
    rw (size_is n last (omega arith), last_is n last (omega arith), small) refl

-- a whole fragment
fragment_run : (p rest : List ℕ) (t : ℕ) (joined : List ℕ) (last : Bool) → length joined + length p ≤ limit
    → scan t (InHeader joined []) (fragment last p ++ rest) ≡ rest_of (t + length (fragment last p)) (after_fragment (joined ++ p) last) rest
fragment_run [] rest t joined last h =
    header_run (0 + cond last last_bit 0) t joined rest (number_fits 0 last (omega arith))
    ∙ ap (λ (n : Next). rest_of (t + 4) n rest) (entered joined 0 last h)
    ∙ ap (λ (j : List ℕ). rest_of (t + 4) (after_fragment j last) rest) (sym (append-nil joined))
fragment_run (b ∷ p) rest t joined last h =
    let number = suc (length p) + cond last last_bit 0 in
    let some : eqb (suc (length p)) 0 ≡ false = grind (arith, nat_tests) in
    let goes : after_header joined number ≡ Goes (InData joined (suc (length p)) last) = entered joined (suc (length p)) last h ∙ rw some refl in
    header_run number t joined (b ∷ (p ++ rest)) (number_fits (suc (length p)) last (omega arith))
    ∙ ap (λ (n : Next). rest_of (t + 4) n (b ∷ (p ++ rest))) goes
    ∙ data_ends (b ∷ p) rest joined (t + 4) last (omega arith)
    ∙ same_at (t + 4 + suc (length p)) (t + length (fragment last (b ∷ p))) (after_fragment (joined ++ b ∷ p) last) rest (omega arith)

-- fragments that are not the last
front_run : (parts : List (List ℕ)) (rest : List ℕ) (t : ℕ) (joined : List ℕ) → length joined + length (concat parts) ≤ limit
    → scan t (InHeader joined []) (front parts ++ rest) ≡ scan (t + length (front parts)) (InHeader (joined ++ concat parts) []) rest
front_run [] rest t joined h =
    ap (λ (j : List ℕ). scan t (InHeader j []) rest) (sym (append-nil joined)) ∙ ap (λ (k : ℕ). scan k (InHeader (joined ++ []) []) rest) (omega arith)
front_run (p ∷ parts) rest t joined h =
    let f = fragment false p in
    let len : length (concat (p ∷ parts)) ≡ length p + length (concat parts) = length-append p (concat parts) in
    ap (scan t (InHeader joined [])) (append_assoc f (front parts) rest)
    ∙ fragment_run p (front parts ++ rest) t joined false (omega arith)
    ∙ front_run parts rest (t + length f) (joined ++ p) (omega (arith, length-append joined p))
    ∙ ap (λ (j : List ℕ). scan (t + length f + length (front parts)) (InHeader j []) rest) (append_assoc joined p (concat parts))
    ∙ ap (λ (k : ℕ). scan k (InHeader (joined ++ concat (p ∷ parts)) []) rest) (omega (arith, length-append f (front parts)))

-- The spelling of a record is found, and no byte after it is taken.
pub found : (made spelled rest : List ℕ) → IsRecord made spelled → scan 0 (InHeader [] []) (spelled ++ rest) ≡ Made (length spelled) made
found made spelled rest r =
    let f = fragment true r.last in
    let room : length (concat r.parts) + length r.last ≤ limit = omega (arith, r.small, ap length r.joined, length-append (concat r.parts) r.last) in
    ap (λ (s : List ℕ). scan 0 (InHeader [] []) (s ++ rest)) r.bytes_are
    ∙ ap (scan 0 (InHeader [] [])) (append_assoc (front r.parts) f rest)
    ∙ front_run r.parts (f ++ rest) 0 [] (omega arith)
    ∙ fragment_run r.last rest (0 + length (front r.parts)) (concat r.parts) true room
    ∙ ap (λ (m : List ℕ). Made (0 + length (front r.parts) + length f) m) (sym r.joined)
    ∙ ap (λ (k : ℕ). Made k made) (omega (arith, length-append (front r.parts) f, ap length r.bytes_are))

-- Where the scan goes on, no beginning of the bytes spells a record.
pub none_yet : (bytes : List ℕ) (s : State) → scan 0 (InHeader [] []) bytes ≡ More s → HasNoRecord bytes
none_yet bytes s e made spelled rest parts r =
    let f = found made spelled rest r in
    let g : scan 0 (InHeader [] []) (spelled ++ rest) ≡ More s = ap (scan 0 (InHeader [] [])) (sym parts) ∙ e in
    let both : Made (length spelled) made ≡ More s = sym f ∙ g in
    absurd cc

-- a header that brings the record above the limit
above_limit : (joined : List ℕ) (n : ℕ) (last : Bool) → n < 2 ^ 31 → limit < length joined + n → after_header joined (n + cond last last_bit 0) ≡ Faults
above_limit joined n last fits h =
    let big : ltb limit (length joined + n) ≡ true = grind (arith, nat_tests) in
    rw (size_is n last fits, big) refl

-- A header at fault is found, and no byte after it is taken.
fault_found : (begun rest : List ℕ) → IsAtFault begun → scan 0 (InHeader [] []) (begun ++ rest) ≡ Fault (length begun)
fault_found begun rest f =
    let h = header f.last f.size in
    let number = f.size + cond f.last last_bit 0 in
    ap (λ (s : List ℕ). scan 0 (InHeader [] []) (s ++ rest)) f.bytes_are
    ∙ ap (scan 0 (InHeader [] [])) (append_assoc (front f.parts) h rest)
    ∙ front_run f.parts (h ++ rest) 0 [] (omega (arith, f.before))
    ∙ header_run number (0 + length (front f.parts)) (concat f.parts) rest (number_fits f.size f.last f.fits)
    ∙ ap (λ (n : Next). rest_of (0 + length (front f.parts) + 4) n rest) (above_limit (concat f.parts) f.size f.last f.fits f.above)
    ∙ ap (λ (k : ℕ). Fault k) (omega (arith, length-append (front f.parts) h, ap length f.bytes_are))

-- Where the scan goes on, no header is at fault.
pub no_fault_yet : (bytes : List ℕ) (s : State) → scan 0 (InHeader [] []) bytes ≡ More s → HasNoFault bytes
no_fault_yet bytes s e begun after parts f =
    let both : Fault (length begun) ≡ More s = sym (fault_found begun after f) ∙ ap (scan 0 (InHeader [] [])) (sym parts) ∙ e in
    absurd cc

-- Before a header at fault no record is whole, nor with what comes after it.
pub no_record_at_fault : (bytes begun after : List ℕ) → bytes ≡ begun ++ after → IsAtFault begun → HasNoRecord bytes
no_record_at_fault bytes begun after parts f made spelled others whole r =
    let both : Fault (length begun) ≡ Made (length spelled) made = sym (fault_found begun after f) ∙ ap (scan 0 (InHeader [] [])) (sym parts ∙ whole)
    ∙ found made spelled others r in
    absurd cc
