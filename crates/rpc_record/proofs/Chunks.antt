-- Bytes of one fragment's data, all at once.
use Rattle.std.proofs.Common.{◌≡◌, ℕ, suc, ◌+◌, ◌-◌, ◌<◌, ◌≤◌, Bool, false, cond, eqb, List, [], ◌∷◌, ◌++◌, length, take, drop, refl, sym, ap, ◌∙◌}
use Rattle.std.proofs.Common.{append_assoc, arith, length-take, min}
use Rattle.std.proofs.lemmas.Bool.Decides.{nat_tests}
use Rattle.std.proofs.lemmas.List.{take-append-drop}
use Rattle.rpc_record.specs.Machine.{State, InData, Next, Goes, after_fragment, after, scan}
use Rattle.rpc_record.specs.declared.position.Position.{Position}
use Rattle.rpc_record.specs.declared.position.Turn.{Turn}
use Rattle.rpc_record.specs.Position.{state, next_of, after_data, rest_of, Turns}

-- where one byte is missing, none is after it
one_left : (left : ℕ) → 1 ≤ left → eqb (left - 1) 0 ≡ eqb left 1
one_left left h = grind (arith, nat_tests)

-- where two bytes are missing, one byte doesn't end the fragment
more_left : (left : ℕ) → 2 ≤ left → eqb left 1 ≡ false
more_left left h = grind (arith, nat_tests)

-- a beginning of the missing data
pub data_run : (part rest joined : List ℕ) (t left : ℕ) (last : Bool) → 0 < length part → length part ≤ left
    → scan t (InData joined left last) (part ++ rest) ≡ rest_of (t + length part) (after_data (joined ++ part) (left - length part) last) rest
data_run [] rest joined t left last some h = absurd (omega arith)
data_run (b ∷ []) rest joined t left last some h =
    ap (λ (v : Bool). rest_of (t + 1) (cond v (after_fragment (joined ++ b ∷ []) last) (Goes (InData (joined ++ b ∷ []) (left - 1) last))) rest)
    (sym (one_left left (omega arith)))
data_run (b ∷ c ∷ part) rest joined t left last some h =
    let turn : after (InData joined left last) b ≡ Goes (InData (joined ++ b ∷ []) (left - 1) last) = rw (more_left left (omega arith)) refl in
    ap (λ (n : Next). rest_of (t + 1) n (c ∷ part ++ rest)) turn
    ∙ data_run (c ∷ part) rest (joined ++ b ∷ []) (t + 1) (left - 1) last (omega arith) (omega arith)
    ∙ ap (λ (j : List ℕ). rest_of (t + 1 + suc (length part)) (after_data j (left - 1 - suc (length part)) last) rest) (append_assoc joined (b ∷ []) (c ∷ part))
    ∙ ap (λ (k : ℕ). rest_of k (after_data (joined ++ b ∷ c ∷ part) (left - 1 - suc (length part)) last) rest) (omega arith)
    ∙ ap (λ (k : ℕ). rest_of (t + suc (suc (length part))) (after_data (joined ++ b ∷ c ∷ part) k last) rest) (omega arith)

-- the same, where the bytes may go on past the fragment
data_taken : (bytes joined : List ℕ) (n t left : ℕ) (last : Bool) → 0 < n → n ≤ left → n ≤ length bytes
    → scan t (InData joined left last) bytes ≡ rest_of (t + n) (after_data (joined ++ take n bytes) (left - n) last) (drop n bytes)
data_taken bytes joined n t left last some h k =
    let len : length (take n bytes) ≡ n = omega (arith, length-take {A = ℕ}) in
    ap (scan t (InData joined left last)) (sym (take-append-drop n bytes))
    ∙ data_run (take n bytes) (drop n bytes) joined t left last (omega arith) (omega arith)
    ∙ ap (λ (k : ℕ). rest_of (t + k) (after_data (joined ++ take n bytes) (left - k) last) (drop n bytes)) len

-- a turn over data
pub turns_data : (old new : Position) (bytes : List ℕ) (n : ℕ) (turn : Turn) → eqb old.left 0 ≡ false → 0 < length bytes → n ≡ min old.left (length bytes)
    → ((joined : List ℕ) → next_of turn joined new ≡ after_data joined (old.left - n) old.last) → Turns old bytes n turn new
turns_data old new bytes n turn some more n_is next joined before size =
    let left : 0 < old.left = grind (arith, nat_tests) in
    let here : state joined old ≡ InData joined old.left old.last = rw some refl in
    ap (λ (s : State). scan before s bytes) here
    ∙ data_taken bytes joined n before old.left old.last (omega arith) (omega arith) (omega arith)
    ∙ ap (λ (x : Next). rest_of (before + n) x (drop n bytes)) (sym (next (joined ++ take n bytes)))
    ∙ ap (λ (k : ℕ). rest_of (before + n) (next_of turn (joined ++ take k bytes) new) (drop n bytes)) n_is
