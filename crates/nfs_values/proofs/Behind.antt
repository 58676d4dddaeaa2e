-- The bytes of a READ, in place.
use Rattle.std.proofs.Common.{◌≡◌, ◌⊎◌, ℕ, ◌-◌, ◌%◌, ◌≤◌, ◌==◌, false, List, [], ◌++◌, length, take, drop, replicate, inl, inr, sym, ap, ◌∙◌}
use Rattle.std.proofs.Common.{append_assoc, arith}
use Rattle.std.proofs.lemmas.Bool.Decides.{nat_tests}
use Rattle.std.proofs.lemmas.List.{take-replicate, take_all, take_at, length-append, length-drop}

-- zeros of four
pub padded : (n size : ℕ) → n ≡ size → take {A = ℕ} ((4 - (n - 48) % 4) % 4) (replicate 4 0) ≡ replicate ((4 - (size - 48) % 4) % 4) 0
padded n size e = take-replicate ((4 - (n - 48) % 4) % 4) 4 0 (omega arith) ∙ ap (λ (m : ℕ). replicate ((4 - (m - 48) % 4) % 4) 0) e

-- all that stands behind the head
pub all-behind : (items place self : List ℕ) → items ≡ place → self ≡ drop 48 place → take (length items - 48) (drop 48 items) ≡ self
all-behind items place self same is =
    take_all (length items - 48) (drop 48 items) (omega (arith, length-drop 48 items)) ∙ ap (λ (l : List ℕ). drop 48 l) same ∙ sym is

-- a vector that has something has a head
pub has-head : (place : List ℕ) (n : ℕ) → (place ≡ []) ⊎ (48 ≤ length place) → n ≡ length place → (n == 0) ≡ false → 48 ≤ length place
has-head place n (inl none) len some =
    let zero : length place ≡ 0 = ap (λ (l : List ℕ). length l) none in
    absurd (grind (arith, nat_tests, len, zero, some))
has-head place n (inr head) len some = head

-- what is lent of a vector and given back with a head
pub with-head : (old head new : List ℕ) (len : ℕ) → 48 ≤ length old → length head ≡ 48 → new ≡ head ++ drop 48 old → len ≡ length old
    → take len (new ++ drop (length new) old) ≡ head ++ drop 48 old
with-head old head new len long size e is =
    let sizes : length new ≡ length (head ++ drop 48 old) = ap (λ (l : List ℕ). length l) e in
    take_at new (drop (length new) old) len (omega (arith, sizes, length-append head (drop 48 old), length-drop 48 old, long, size, is)) ∙ e

-- which is as long as before
pub long-still : (old head placed : List ℕ) → length head ≡ 48 → placed ≡ head ++ drop 48 old → 48 ≤ length placed
long-still old head placed size e =
    let sizes : length placed ≡ length (head ++ drop 48 old) = ap (λ (l : List ℕ). length l) e in
    omega (arith, sizes, length-append head (drop 48 old), size)

-- the head and the bytes with their padding
pub moved : (old self head placed out : List ℕ) → self ≡ drop 48 old → length head ≡ 48 → placed ≡ head ++ drop 48 old
    → out ≡ placed ++ replicate ((4 - (length placed - 48) % 4) % 4) 0 → out ≡ head ++ (self ++ replicate ((4 - length self % 4) % 4) 0)
moved old self head placed out is size put end =
    let zeros : List ℕ = replicate ((4 - length self % 4) % 4) 0 in
    let whole : placed ≡ head ++ self = put ∙ ap (λ (l : List ℕ). head ++ l) (sym is) in
    let sizes : length placed ≡ length (head ++ self) = ap (λ (l : List ℕ). length l) whole in
    let count : length placed - 48 ≡ length self = omega (arith, sizes, length-append head self, size) in
    end ∙ ap (λ (n : ℕ). placed ++ replicate ((4 - n % 4) % 4) 0) count ∙ ap (λ (l : List ℕ). l ++ zeros) whole ∙ append_assoc head self zeros
