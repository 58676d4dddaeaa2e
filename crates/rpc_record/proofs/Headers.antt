-- A header's four bytes, all at once.
use Rattle.std.proofs.Common.{◌≡◌, ℕ, ◌+◌, ◌≤◌, cond, eqb, List, [], ◌∷◌, ◌++◌, length, take, drop, min, sym, ap, ◌∙◌, arith}
use Rattle.std.specs.Int.{w32, from_be_bytes}
use Rattle.std.proofs.lemmas.List.{append-nil}
use Rattle.byteorder.specs.Endian.{big_number}
use Rattle.rpc_record.specs.Machine.{State, InHeader, InData, Next, after_header, scan}
use Rattle.rpc_record.specs.declared.position.Position.{Position}
use Rattle.rpc_record.specs.declared.position.Turn.{Turn}
use Rattle.rpc_record.specs.Position.{state, next_of, rest_of, Turns}

-- four bytes, one after another
header_run : (a b c d : ℕ) (rest joined : List ℕ) (t : ℕ)
    → scan t (InHeader joined []) (a ∷ b ∷ c ∷ d ∷ rest) ≡ rest_of (t + 4) (after_header joined (from_be_bytes w32 (a ∷ b ∷ c ∷ d ∷ []))) rest
header_run a b c d rest joined t =
    let four : t + 1 + 1 + 1 + 1 ≡ t + 4 = omega arith in
    ap (λ (k : ℕ). rest_of k (after_header joined (from_be_bytes w32 (a ∷ b ∷ c ∷ d ∷ []))) rest) four

-- the same, where at least four bytes are there
header_taken : (bytes joined : List ℕ) (t number : ℕ) → 4 ≤ length bytes → number ≡ big_number 4 bytes
    → scan t (InHeader joined []) bytes ≡ rest_of (t + 4) (after_header joined number) (drop 4 bytes)
header_taken [] joined t number h is = absurd (omega arith)
header_taken (a ∷ []) joined t number h is = absurd (omega arith)
header_taken (a ∷ b ∷ []) joined t number h is = absurd (omega arith)
header_taken (a ∷ b ∷ c ∷ []) joined t number h is = absurd (omega arith)
header_taken (a ∷ b ∷ c ∷ d ∷ rest) joined t number h is =
    let read : from_be_bytes w32 (a ∷ b ∷ c ∷ d ∷ []) ≡ number = omega (arith, is) in
    header_run a b c d rest joined t ∙ ap (λ (n : ℕ). rest_of (t + 4) (after_header joined n) rest) read

-- a turn over a header of which no byte has come
pub turns_header : (old new : Position) (bytes : List ℕ) (number : ℕ) (turn : Turn) → old.left ≡ 0 → old.count ≡ 0 → 4 ≤ length bytes
    → number ≡ big_number 4 bytes
    → ((joined : List ℕ) → length joined ≡ old.joined → next_of turn joined new ≡ after_header joined number) → Turns old bytes 4 turn new
turns_header old new bytes number turn left count enough is next joined before size =
    let here : state joined old ≡ InHeader joined (take old.count old.header) =
    ap (λ (n : ℕ). cond (eqb n 0) (InHeader joined (take old.count old.header)) (InData joined old.left old.last)) left in
    let start : InHeader joined (take old.count old.header) ≡ InHeader joined [] = ap (λ (n : ℕ). InHeader joined (take n old.header)) count in
    let none : min old.left (length bytes) ≡ 0 = omega arith in
    let same : joined ++ take (min old.left (length bytes)) bytes ≡ joined = ap (λ (n : ℕ). joined ++ take n bytes) none ∙ append-nil joined in
    ap (λ (s : State). scan before s bytes) (here ∙ start)
    ∙ header_taken bytes joined before number enough is
    ∙ ap (λ (n : Next). rest_of (before + 4) n (drop 4 bytes)) (sym (next joined size))
    ∙ ap (λ (xs : List ℕ). rest_of (before + 4) (next_of turn xs new) (drop 4 bytes)) (sym same)
