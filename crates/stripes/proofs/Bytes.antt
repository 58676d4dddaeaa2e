-- Bytes of a part of a file, after what is written to a slice.
use Rattle.std.proofs.Common.{◌≡◌, ℕ, ◌+◌, ◌-◌, ◌*◌, ◌<◌, ◌≤◌, List, length, take, drop, replicate, get_or, sym, ap, ◌∙◌, inl, inr, arith, min, map}
use Rattle.std.specs.List.{range_with_len}
use Rattle.std.proofs.lemmas.List.{places, length-drop, length-take-le, get_or-replicate, length-replicate}
use Rattle.std.proofs.lemmas.List.FromFn.{fill_by_all}
use Rattle.std.proofs.lemmas.Bool.{cases_lt}
use Rattle.std.proofs.lemmas.Bool.Decides.{nat_tests}
use borrow.Rule.Slice.PartMut.{put_mid}
use Rattle.nfs_model.specs.volume.Stripes.{Block, byte_written, byte_cut, block_mapped}
use Rattle.nfs_model.specs.Server.{block_size}
use Rattle.stripes.specs.Bytes.{bytes_mapped}

-- a list with a part put into it, by places
length-put : (a n : ℕ) (xs ys : List ℕ) → length ys ≡ n → a + n ≤ length xs → length (put_mid a n xs ys) ≡ length xs
length-put a n xs ys e h = grind (arith, places)

get-put_before : (a n : ℕ) (xs ys : List ℕ) (k : ℕ) → a + n ≤ length xs → length ys ≡ n → k < a → get_or (put_mid a n xs ys) k 0 ≡ get_or xs k 0
get-put_before a n xs ys k h e l = grind (arith, places)

get-put_within : (a n : ℕ) (xs ys : List ℕ) (k : ℕ) → a + n ≤ length xs → length ys ≡ n → a ≤ k → k < a + n
    → get_or (put_mid a n xs ys) k 0 ≡ get_or ys (k - a) 0
get-put_within a n xs ys k h e l g = grind (arith, places)

get-put_after : (a n : ℕ) (xs ys : List ℕ) (k : ℕ) → a + n ≤ length xs → length ys ≡ n → a + n ≤ k → get_or (put_mid a n xs ys) k 0 ≡ get_or xs k 0
get-put_after a n xs ys k h e l = grind (arith, places)

-- a byte that a write misses, and one that it meets
pub byte_missed : (offset : ℕ) (written : List ℕ) (at old : ℕ) → (offset ≤ at → offset + length written ≤ at) → byte_written offset written at old ≡ old
byte_missed offset written at old h = grind (arith, nat_tests, places)

byte_met : (offset : ℕ) (written : List ℕ) (at old : ℕ) → offset ≤ at → at < offset + length written
    → byte_written offset written at old ≡ get_or written (at - offset) 0
byte_met offset written at old h l = grind (arith, nat_tests, places)

get-taken : (n skipped : ℕ) (written : List ℕ) (k : ℕ) → skipped + n ≤ length written → k < n
    → get_or (take n (drop skipped written)) k 0 ≡ get_or written (skipped + k) 0
get-taken n skipped written k h l = grind (arith, places)

-- what a write leaves in a part of a file
pub part-written : (part written ys : List ℕ) (start offset at skipped n : ℕ) → at ≡ offset - start → skipped ≡ start - offset
    → n ≡ min (length part - at) (length written - skipped) → start < offset + length written → offset < start + length part
    → ys ≡ take n (drop skipped written) → put_mid at n part ys ≡ bytes_mapped (byte_written offset written) start part
part-written part written ys start offset at skipped n a s e met reached is =
    let room : at + n ≤ length part = omega arith in
    let there : skipped + n ≤ length written = omega arith in
    let long : length ys ≡ n = ap length is ∙ length-take-le n (drop skipped written) (omega (arith, length-drop skipped written)) in
    fill_by_all (λ k. byte_written offset written (start + k) (get_or part k 0)) (put_mid at n part ys) (length part) 0 (length-put at n part ys long room)
    (λ k below.
    elim (cases_lt k at) [
      | inl before ↦ get-put_before at n part ys k room long before ∙ sym (byte_missed offset written (start + k) _ (λ g. omega arith))
      | inr from ↦ elim (cases_lt k (at + n)) [
        | inl within ↦ get-put_within at n part ys k room long from within ∙ ap (λ l. get_or l (k - at) 0) is
            ∙ get-taken n skipped written (k - at) there (omega arith)
            ∙ ap (λ i. get_or written i 0) (let same : skipped + (k - at) ≡ start + k - offset = omega arith in same)
            ∙ sym (byte_met offset written (start + k) _ (omega arith) (omega arith))
        | inr after ↦ get-put_after at n part ys k room long after ∙ sym (byte_missed offset written (start + k) _ (λ g. omega arith))
      ]
    ])

pub byte_kept : (size at old : ℕ) → at < size → byte_cut size at old ≡ old
byte_kept size at old h = grind (arith, nat_tests)

byte_zero : (size at old : ℕ) → size ≤ at → byte_cut size at old ≡ 0
byte_zero size at old h = grind (arith, nat_tests)

-- what a cut leaves in a part of a file
pub part-cut : (part ys : List ℕ) (start size at n : ℕ) → at ≡ size - start → start ≤ size → at + n ≡ length part
    → ys ≡ replicate (length (take n (drop at part))) 0 → put_mid at n part ys ≡ bytes_mapped (byte_cut size) start part
part-cut part ys start size at n a within e filled =
    let is : ys ≡ replicate n 0 = filled ∙ ap (λ m. replicate m 0) (length-take-le n (drop at part) (omega (arith, length-drop at part))) in
    let long : length ys ≡ n = ap length is ∙ length-replicate n 0 in
    fill_by_all (λ k. byte_cut size (start + k) (get_or part k 0)) (put_mid at n part ys) (length part) 0 (length-put at n part ys long (omega arith))
    (λ k below.
    elim (cases_lt k at) [
      | inl before ↦ get-put_before at n part ys k (omega arith) long before ∙ sym (byte_kept size (start + k) _ (omega arith))
      | inr from ↦ get-put_within at n part ys k (omega arith) long from (omega arith) ∙ ap (λ l. get_or l (k - at) 0) is
          ∙ get_or-replicate n (k - at) 0 0 (omega arith) ∙ sym (byte_zero size (start + k) _ (omega arith))
    ])

-- the bytes of a block that is mapped
pub block-mapped : (change : ℕ → ℕ → ℕ) (block : ℕ) (b : Block) (bytes : List ℕ) → length b.bytes ≡ block_size
    → bytes ≡ bytes_mapped change (block_size * block) b.bytes → ◌≡◌ {A = Block} (record { number = b.number; bytes = bytes }) (block_mapped change block b)
block-mapped change block b bytes long is = λ i. record {
  number = b.number;
  bytes =
      (is ∙ ap (λ n. map (λ k. change (block_size * block + k) (get_or b.bytes k 0)) (range_with_len 0 n)) long) i;
}
