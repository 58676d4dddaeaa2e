-- Handles of 12 bytes.
use Rattle.std.proofs.Common.{◌≡◌, ℕ, zero, suc, ◌+◌, ◌-◌, ◌<◌, ◌^◌, List, [], ◌∷◌, ◌++◌, length, get_or, take, drop, refl, ap, ◌∙◌, arith, Some}
use Rattle.std.specs.Int.{w32, w64, to_be_bytes, from_be_bytes}
use Rattle.std.proofs.lemmas.Nat.{be_bytes_4, be_bytes_8, from_be_bytes-to_be_bytes_4, from_be_bytes-to_be_bytes_8}
use Rattle.std.proofs.lemmas.List.{length-take-le, length-drop, get_or-drop, take_all, take-append-drop}
use Rattle.nfs_model.specs.Server.{handle_bytes}
use Rattle.nfs_values.specs.Handle.{named_in}

-- the first of bytes are bytes
below-take : (n : ℕ) (bytes : List ℕ) → ((i : ℕ) → get_or bytes i 0 < 256) → (i : ℕ) → get_or (take n bytes) i 0 < 256
below-take zero bytes below i = omega arith
below-take (suc n) [] below i = omega arith
below-take (suc n) (b ∷ bytes) below zero = below zero
below-take (suc n) (b ∷ bytes) below (suc i) = below-take n bytes (λ j. below (suc j)) i

-- the bytes behind the first
below-drop : (n : ℕ) (bytes : List ℕ) → ((i : ℕ) → get_or bytes i 0 < 256) → (i : ℕ) → get_or (drop n bytes) i 0 < 256
below-drop n bytes below i = rw (get_or-drop n bytes i 0) (below (n + i))

-- Bytes name what they are read as.
pub handle_of_read : (bytes : List ℕ) (volume fileid : ℕ) → length bytes ≡ 12 → ((i : ℕ) → get_or bytes i 0 < 256)
    → volume ≡ from_be_bytes w32 (take 4 bytes) → fileid ≡ from_be_bytes w64 (take (length bytes - 4) (drop 4 bytes)) → handle_bytes volume fileid ≡ bytes
handle_of_read bytes volume fileid len below v f =
    let front = be_bytes_4 (take 4 bytes) volume (length-take-le 4 bytes (omega (arith, len))) (below-take 4 bytes below) v in
    let all = take_all (length bytes - 4) (drop 4 bytes) (omega (arith, length-drop 4 bytes)) in
    let back = be_bytes_8 (drop 4 bytes) fileid (omega (arith, len, length-drop 4 bytes)) (below-drop 4 bytes below) (f ∙ ap (from_be_bytes w64) all) in
    ap (λ (l : List ℕ). l ++ to_be_bytes w64 fileid) front ∙ ap (λ (l : List ℕ). take 4 bytes ++ l) back ∙ take-append-drop 4 bytes

-- What a handle names is read from its bytes.
pub named_again : (volume fileid : ℕ) → volume < 2 ^ 32 → fileid < 2 ^ 64
    → named_in (handle_bytes volume fileid) ≡ Some (record { volume = volume; fileid = fileid })
named_again volume fileid v f =
    let front = from_be_bytes-to_be_bytes_4 volume v in
    let back = from_be_bytes-to_be_bytes_8 fileid f in
    simp (front, back) refl
