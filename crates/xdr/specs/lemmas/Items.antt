-- What reading an item takes, and numbers.
use Rattle.std.proofs.Common.{◌≡◌, ℕ, ◌+◌, ◌^◌, ◌<◌, ◌≤◌, Bool, true, false, cond, ltb, eqb, List, ◌++◌, length, get_or, take, drop, Ok, Err, refl, sym, ap}
use Rattle.std.proofs.Common.{subst, ◌∙◌, append_assoc, arith, inl, inr}
use Rattle.std.specs.List.{list_any}
use Rattle.std.specs.Int.{Width, w32, w64, byte_len, from_be_bytes, to_be_bytes}
use Rattle.std.proofs.lemmas.Bool.{cases_lt, ltb-false, le-ltb, eqb-true}
use Rattle.std.proofs.lemmas.List.{take_at, drop_at, take-append-drop, length-append, length-take, get_or-drop, get_or-take, get_or_past}
use Rattle.std.proofs.lemmas.Nat.{be_bytes_4, be_bytes_8, from_be_bytes-to_be_bytes_4, from_be_bytes-to_be_bytes_8}
use Rattle.xdr.specs.declared.fault.Fault.TheVariants.{Short, BadBool, BadEnum, TooLong}
use Rattle.xdr.specs.Shape.{word, flag}
use Rattle.xdr.specs.Reading.{Reads, number_at, boolean_of, boolean_at, choice_at, length_at}
use Rattle.xdr.specs.lemmas.Steps.{bind_ok, guard_ok, chosen, ok_is}

abbrev pub IsBytes : List ℕ → Type 0
IsBytes bytes = (i : ℕ) → get_or bytes i 0 < 256

pub IsBytes-drop : (n : ℕ) (bytes : List ℕ) → IsBytes bytes → IsBytes (drop n bytes)
IsBytes-drop n bytes h i = rw get_or-drop (h (n + i))

IsBytes-take : (n : ℕ) (bytes : List ℕ) → IsBytes bytes → IsBytes (take n bytes)
IsBytes-take n bytes h i =
    elim (cases_lt i n) [
      | inl lt ↦ rw (get_or-take n bytes i 0 lt) (h i)
      | inr le ↦ rw (get_or_past (take n bytes) i 0 (omega (arith, length-take n bytes))) (omega arith)
    ]

-- the bytes are a text and a rest
pub record Splits (bytes text rest : List ℕ) : Type 0 where
  pub parts : bytes ≡ text ++ rest
  pub rest_fits : IsBytes rest

pub Splits-then : (a x b y c : List ℕ) → Splits a x b → Splits b y c → Splits a (x ++ y) c
Splits-then a x b y c p q = record { parts = p.parts ∙ ap (λ (t : List ℕ). x ++ t) q.parts ∙ sym (append_assoc x y c); rest_fits = q.rest_fits }

-- what a reader finds is a spelling
abbrev pub Found : {A : Type 0} → (List ℕ → Reads A) → (A → List ℕ) → (A → Type 0) → Type 0
Found {A} item spell fits = (bytes : List ℕ) (x : A × List ℕ) → IsBytes bytes → item bytes ≡ Ok x → Splits bytes (spell x.0) x.1 × fits x.0

-- a reader finds what is spelled
abbrev pub Again : {A : Type 0} → (List ℕ → Reads A) → (A → List ℕ) → (A → Type 0) → Type 0
Again {A} item spell fits = (v : A) (rest : List ℕ) → fits v → item (spell v ++ rest) ≡ Ok (v, rest)

-- ---- numbers

pub record IsWide (w : Width) (limit : ℕ) : Type 0 where
  pub len : (n : ℕ) → length (to_be_bytes w n) ≡ byte_len w
  pub back : (bytes : List ℕ) → length bytes ≡ byte_len w → IsBytes bytes → to_be_bytes w (from_be_bytes w bytes) ≡ bytes
  pub again : (n : ℕ) → n < limit → from_be_bytes w (to_be_bytes w n) ≡ n
  pub below : (bytes : List ℕ) → IsBytes bytes → from_be_bytes w bytes < limit

wide32 : IsWide w32 (2 ^ 32)
wide32 = record {
  len = λ n. refl;
  back = λ bytes len fits. be_bytes_4 bytes _ len fits refl;
  again = λ n lt. from_be_bytes-to_be_bytes_4 n lt;
  below = λ bytes fits. omega (arith, fits 0, fits 1, fits 2, fits 3);
}

pub wide64 : IsWide w64 (2 ^ 64)
wide64 = record {
  len = λ n. refl;
  back = λ bytes len fits. be_bytes_8 bytes _ len fits refl;
  again = λ n lt. from_be_bytes-to_be_bytes_8 n lt;
  below = λ bytes fits. omega (arith, fits 0, fits 1, fits 2, fits 3, fits 4, fits 5, fits 6, fits 7);
}

pub number_found : (w : Width) (limit : ℕ) (wide : IsWide w limit) → Found (number_at w) (to_be_bytes w) (λ n. n < limit)
number_found w limit wide bytes x fits e =
    let n = x.0 in
    let rest = x.1 in
    let g = guard_ok (ltb (length bytes) (byte_len w)) Short (from_be_bytes w (take (byte_len w) bytes), drop (byte_len w) bytes) (n, rest) e in
    let long : byte_len w ≤ length bytes = ltb-false _ _ g.0 in
    let n-is : from_be_bytes w (take (byte_len w) bytes) ≡ n = ap (λ (p : ℕ × List ℕ). p.0) g.1 in
    let rest-is : drop (byte_len w) bytes ≡ rest = ap (λ (p : ℕ × List ℕ). p.1) g.1 in
    let front : to_be_bytes w n ≡ take (byte_len w) bytes = rw (← n-is)
    (wide.back (take (byte_len w) bytes) (omega (arith, length-take (byte_len w) bytes)) (IsBytes-take (byte_len w) bytes fits)) in (
      record { parts = rw (front, ← rest-is) (sym (take-append-drop (byte_len w) bytes)); rest_fits = rw (← rest-is) (IsBytes-drop (byte_len w) bytes fits) },
      rw (← n-is) (wide.below (take (byte_len w) bytes) (IsBytes-take (byte_len w) bytes fits)),
    )

pub number_again : (w : Width) (limit : ℕ) (wide : IsWide w limit) → Again (number_at w) (to_be_bytes w) (λ n. n < limit)
number_again w limit wide n rest lt =
    let len = wide.len n in
    let long : ltb (length (to_be_bytes w n ++ rest)) (byte_len w) ≡ false = le-ltb _ _ (omega (arith, length-append (to_be_bytes w n) rest)) in
    rw (long, take_at (to_be_bytes w n) rest (byte_len w) len, drop_at (to_be_bytes w n) rest (byte_len w) len, wide.again n lt) refl

pub word_found : Found (number_at w32) word (λ n. n < 2 ^ 32)
word_found = number_found w32 (2 ^ 32) wide32

pub word_again : Again (number_at w32) word (λ n. n < 2 ^ 32)
word_again = number_again w32 (2 ^ 32) wide32

-- ---- booleans, enumerations and lengths

flag_is : (n : ℕ) (rest : List ℕ) (x : Bool × List ℕ) → boolean_of n rest ≡ Ok x → (n ≡ flag x.0) × (rest ≡ x.1)
flag_is n rest x e =
    elim (chosen (eqb n 0) (Ok (false, rest)) (cond (eqb n 1) (Ok (true, rest)) (Err BadBool)) (Ok x) e) [
      | inl h ↦
          let p = ok_is (false, rest) x h.1 in
          (eqb-true n 0 h.0 ∙ ap (λ (p : Bool × List ℕ). flag p.0) p, ap (λ (p : Bool × List ℕ). p.1) p)
      | inr h ↦ elim (chosen (eqb n 1) (Ok (true, rest)) (Err BadBool) (Ok x) h.1) [
        | inl k ↦
            let p = ok_is (true, rest) x k.1 in
            (eqb-true n 1 k.0 ∙ ap (λ (p : Bool × List ℕ). flag p.0) p, ap (λ (p : Bool × List ℕ). p.1) p)
        | inr k ↦ absurd cc
      ]
    ]

pub boolean_found : Found boolean_at (λ b. word (flag b)) (λ b. Unit {0})
unfolding boolean_at
boolean_found bytes x fits e =
    let b = bind_ok (number_at w32 bytes) (λ n. boolean_of n.0 n.1) x e in
    let t = word_found bytes b.0 fits b.1 in
    let f = flag_is b.0.0 b.0.1 x b.2 in
    let one : Splits bytes (word (flag x.0)) b.0.1 = subst (λ (n : ℕ). Splits bytes (word n) b.0.1) f.0 t.0 in
    (subst (λ (r : List ℕ). Splits bytes (word (flag x.0)) r) f.1 one, tt)

pub boolean_again : Again boolean_at (λ b. word (flag b)) (λ b. Unit {0})
unfolding boolean_at
boolean_again true rest fits = rw (word_again 1 rest (omega arith)) refl
boolean_again false rest fits = rw (word_again 0 rest (omega arith)) refl

pub choice_found : (numbers : List ℕ) → Found (choice_at numbers) word (λ n. (list_any (λ m. eqb m n) numbers ≡ true) × (n < 2 ^ 32))
unfolding choice_at
choice_found numbers bytes x fits e =
    let b = bind_ok (number_at w32 bytes) (λ n. cond (list_any (λ m. eqb m n.0) numbers) (Ok n) (Err BadEnum)) x e in
    let t = word_found bytes b.0 fits b.1 in
    elim (chosen (list_any (λ m. eqb m b.0.0) numbers) (Ok b.0) (Err BadEnum) (Ok x) b.2) [
      | inl h ↦
          subst (λ (y : ℕ × List ℕ). Splits bytes (word y.0) y.1 × ((list_any (λ m. eqb m y.0) numbers ≡ true) × (y.0 < 2 ^ 32))) (ok_is b.0 x h.1)
          (t.0, (h.0, t.1))
      | inr h ↦ absurd cc
    ]

pub choice_again : (numbers : List ℕ) → Again (choice_at numbers) word (λ n. (list_any (λ m. eqb m n) numbers ≡ true) × (n < 2 ^ 32))
unfolding choice_at
choice_again numbers n rest fits = rw (word_again n rest fits.1, fits.0) refl

pub length_found : (most : ℕ) → Found (length_at most) word (λ n. (n ≤ most) × (n < 2 ^ 32))
unfolding length_at
length_found most bytes x fits e =
    let b = bind_ok (number_at w32 bytes) (λ n. cond (ltb most n.0) (Err TooLong) (Ok n)) x e in
    let t = word_found bytes b.0 fits b.1 in
    let g = guard_ok (ltb most b.0.0) TooLong b.0 x b.2 in
    let small : b.0.0 ≤ most = ltb-false _ _ g.0 in
    subst (λ (y : ℕ × List ℕ). Splits bytes (word y.0) y.1 × ((y.0 ≤ most) × (y.0 < 2 ^ 32))) g.1 (t.0, (small, t.1))

pub length_again : (most : ℕ) → Again (length_at most) word (λ n. (n ≤ most) × (n < 2 ^ 32))
unfolding length_at
length_again most n rest fits =
    let small : ltb most n ≡ false = le-ltb _ _ fits.0 in
    rw (word_again n rest fits.1, small) refl
