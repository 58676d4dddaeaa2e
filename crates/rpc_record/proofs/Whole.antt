-- The record that bytes begin with as one fragment.
use Rattle.std.proofs.Common.{◌≡◌, ℕ, zero, suc, ◌+◌, ◌-◌, ◌<◌, ◌≤◌, List, [], ◌∷◌, ◌++◌, length, get_or, take, drop, Bool, true, false, cond, refl, sym, ap, ◌∙◌, arith}
use Rattle.std.proofs.Common.{length-take, Option, Some, None, IfSome, Bor}
use Rattle.std.specs.Int.{w32, from_be_bytes, to_be_bytes}
use Rattle.std.proofs.lemmas.List.{take-append-drop}
use Rattle.std.proofs.lemmas.Nat.{be_bytes_4}
use Rattle.rpc_record.specs.Records.{limit, last_bit, fragment, BeginsWith}
use Rattle.rpc_record.specs.declared.position.Position.{Position}
use Rattle.rpc_record.specs.Machine.{State, InHeader, start, Made, scan}
use Rattle.rpc_record.specs.Position.{state}
use Rattle.rpc_record.specs.Stream.{read_stream}
use Rattle.rpc_record.proofs.Runs.{found}
use Rattle.rpc_record.proofs.Streams.{made_read}

-- the first four bytes of some
four_fit : (a b c d : ℕ) (rest : List ℕ) → ((i : ℕ) → get_or (a ∷ b ∷ c ∷ d ∷ rest) i 0 < 256) → (i : ℕ) → get_or (a ∷ b ∷ c ∷ d ∷ []) i 0 < 256
four_fit a b c d rest fits zero = fits 0
four_fit a b c d rest fits (suc zero) = fits 1
four_fit a b c d rest fits (suc (suc zero)) = fits 2
four_fit a b c d rest fits (suc (suc (suc zero))) = fits 3
four_fit a b c d rest fits (suc (suc (suc (suc i)))) = omega arith

-- a header of a last fragment, and all of its data
pub begins-with : (bytes : List ℕ) (number size : ℕ) → 4 ≤ length bytes → ((i : ℕ) → get_or bytes i 0 < 256) → number ≡ from_be_bytes w32 (take 4 bytes)
    → last_bit ≤ number → size ≡ number - last_bit → size ≤ length bytes - 4 → size ≤ limit → BeginsWith (take size (drop 4 bytes)) bytes
begins-with [] number size h fits is marked size_is within small = absurd (omega (arith, h))
begins-with (a ∷ []) number size h fits is marked size_is within small = absurd (omega (arith, h))
begins-with (a ∷ b ∷ []) number size h fits is marked size_is within small = absurd (omega (arith, h))
begins-with (a ∷ b ∷ c ∷ []) number size h fits is marked size_is within small = absurd (omega (arith, h))
begins-with (a ∷ b ∷ c ∷ d ∷ rest) number size h fits is marked size_is within small =
    let part = take size rest in
    let len : length part ≡ size = omega (arith, length-take size rest) in
    let number_is : length part + last_bit ≡ number = omega (arith, len) in
    let spelled : to_be_bytes w32 (length part + last_bit) ≡ a ∷ b ∷ c ∷ d ∷ [] =
    ap (to_be_bytes w32) number_is ∙ be_bytes_4 (a ∷ b ∷ c ∷ d ∷ []) number refl (four_fit a b c d rest fits) is in (
      omega (arith, len),
      (
        drop size rest,
        sym (ap (λ (h : List ℕ). (h ++ part) ++ drop size rest) spelled ∙ ap (λ (xs : List ℕ). a ∷ b ∷ c ∷ d ∷ xs) (take-append-drop size rest)),
      ),
    )

-- where no fault was told and nothing has come since the last record
pub at-start : (failed : Bool) (joined : List ℕ) (position : Position) (now : Option State) → failed ≡ false → length joined ≡ 0
    → state joined position ≡ InHeader joined [] → cond failed None (Some (state joined position)) ≡ now → now ≡ Some start
at-start true joined position now well none here is = absurd cc
at-start false (b ∷ joined) position now well none here is = absurd (omega (arith, none))
at-start false [] position now well none here is = sym is ∙ ap (λ (s : State). Some s) here

-- it is the next record of a stream that stands before one
whole_read : (stream bytes made : List ℕ) (now : Option State) → now ≡ Some start → BeginsWith made bytes → (read_stream stream).at ≡ now
    → read_stream (stream ++ take (4 + length made) bytes) ≡ record { records = (read_stream stream).records ++ made ∷ []; at = now }
whole_read stream bytes made now is begins at =
    let scanned : scan 0 start bytes ≡ Made (4 + length made) made =
    ap (scan 0 start) begins.1.1
    ∙ found made (fragment true made) begins.1.0 (record { parts = []; last = made; joined = refl; small = begins.0; bytes_are = refl })
    ∙ ap (λ (n : ℕ). Made n made) (omega arith) in
    (made_read stream bytes made start (4 + length made) (at ∙ is) scanned).2
    ∙ ap (λ (o : Option State). record { records = (read_stream stream).records ++ made ∷ []; at = o }) (sym is)

pub reads-whole : (found : Option (Bor (List ℕ))) (bytes : List ℕ) (now : Option State) → now ≡ Some start → IfSome found (λ made. BeginsWith made.now bytes)
    → IfSome found (λ made. (stream : List ℕ) → (read_stream stream).at ≡ now
    → read_stream (stream ++ take (4 + length made.now) bytes) ≡ record { records = (read_stream stream).records ++ made.now ∷ []; at = now })
reads-whole None bytes now is begins = tt
reads-whole (Some made) bytes now is begins = λ stream at. whole_read stream bytes made.now now is begins at
