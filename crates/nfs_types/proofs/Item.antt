-- An entry of a directory behind TRUE, put together in an array with zeros behind it.
use Rattle.std.proofs.Common.{◌≡◌, sym, ap, ◌∙◌, ℕ, ◌+◌, ◌-◌, ◌≤◌, List, ◌++◌, length, take, drop, replicate, append_assoc, arith}
use Rattle.std.proofs.lemmas.List.{take_at, drop_at, length-append, length-replicate, replicate-append-replicate}
use Rattle.std.proofs.Math.Seq.{take-append-add}
use borrow.Rule.Slice.PartMut.{put_mid}
use Rattle.xdr.specs.Shape.{word, hyper, padding, padded, counted}

-- a part in the place of another
put-in : (p m s ys : List ℕ) (a k : ℕ) → length p ≡ a → length m ≡ k → put_mid a k (p ++ (m ++ s)) ys ≡ p ++ (ys ++ s)
put-in p m s ys a k e n =
    ap (λ l. l ++ (ys ++ drop k (drop a (p ++ (m ++ s))))) (take_at p (m ++ s) a e)
    ∙ ap (λ l. p ++ (ys ++ drop k l)) (drop_at p (m ++ s) a e)
    ∙ ap (λ l. p ++ (ys ++ l)) (drop_at m s k n)

zeros-split : (n m all : ℕ) → n + m ≡ all → replicate {A = ℕ} all 0 ≡ replicate n 0 ++ replicate m 0
zeros-split n m all e = ap (λ k. replicate {A = ℕ} k 0) (sym e) ∙ sym (replicate-append-replicate {A = ℕ} n m 0)

pub length-padded : (name : List ℕ) → length (padded name) ≡ length name + padding (length name)
length-padded name = omega
    (arith, length-append name (replicate (padding (length name)) 0), length-replicate {A = ℕ} (padding (length name)) 0)

name-put : (head name : List ℕ) (k : ℕ) → length head ≡ 16 → length name ≤ 32 → k ≡ length name
    → put_mid 16 k (head ++ replicate 40 0) name ≡ head ++ (name ++ replicate (40 - length name) 0)
name-put head name k h l e =
    let n = length name in
    ap (λ zs. put_mid 16 k (head ++ zs) name) (zeros-split n (40 - n) 40 (omega (arith, l)))
    ∙ put-in head (replicate n 0) (replicate (40 - n) 0) name 16 k h (omega (arith, e, length-replicate {A = ℕ} n 0))

cookie-put : (head name tail : List ℕ) (size k : ℕ) → length head ≡ 16 → length name ≤ 32 → size ≡ length (padded name) → k ≡ 8
    → put_mid (16 + size) k (head ++ (name ++ replicate (40 - length name) 0)) tail
    ≡ (head ++ padded name) ++ (tail ++ replicate (32 - length (padded name)) 0)
cookie-put head name tail size k h l s e =
    let n = length name in
    let p = padding n in
    let rest = replicate {A = ℕ} (32 - length (padded name)) 0 in
    let long = length-padded name in
    let first : replicate {A = ℕ} (40 - n) 0 ≡ replicate p 0 ++ replicate (40 - n - p) 0 = zeros-split p (40 - n - p) (40 - n) (omega (arith, l)) in
    let second : replicate {A = ℕ} (40 - n - p) 0 ≡ replicate 8 0 ++ rest =
    zeros-split 8 (32 - length (padded name)) (40 - n - p) (omega (arith, l, long)) in
    let parts : head ++ (name ++ replicate (40 - n) 0) ≡ (head ++ padded name) ++ (replicate 8 0 ++ rest) =
    ap (λ zs. head ++ (name ++ zs)) (first ∙ ap (λ zs. replicate p 0 ++ zs) second)
    ∙ ap (λ zs. head ++ zs) (sym (append_assoc name (replicate p 0) (replicate 8 0 ++ rest)))
    ∙ sym (append_assoc head (padded name) (replicate 8 0 ++ rest)) in
    ap (λ xs. put_mid (16 + size) k xs tail) parts
    ∙ put-in (head ++ padded name) (replicate 8 0) rest tail (16 + size) k (omega (arith, h, s, length-append head (padded name)))
    (omega (arith, e, length-replicate {A = ℕ} 8 0))

joined : (a b c name d zeros : List ℕ) → ((a ++ (b ++ c)) ++ name) ++ (d ++ zeros) ≡ a ++ ((b ++ ((c ++ name) ++ d)) ++ zeros)
joined a b c name d zeros = simp append_assoc

pub item-put : (fileid cookie : ℕ) (name bytes head part tail : List ℕ) (size k m : ℕ) → bytes ≡ replicate 56 0 → head ≡ word 1 ++ (hyper fileid ++ word (length name)) → part ≡ name
    → tail ≡ hyper cookie → length name ≤ 32 → size ≡ length (padded name) → k ≡ length name → m ≡ 8
    → put_mid (16 + size) m (put_mid 16 k (head ++ drop 16 bytes) part) tail
    ≡ word 1 ++ ((hyper fileid ++ (counted name ++ hyper cookie)) ++ replicate (32 - length (padded name)) 0)
item-put fileid cookie name bytes head part tail size k m b h p t l s e f =
    let long : length head ≡ 16 = ap length h in
    let zeros = replicate {A = ℕ} (32 - length (padded name)) 0 in
    ap (λ zs. put_mid (16 + size) m (put_mid 16 k (head ++ drop 16 zs) part) tail) b
    ∙ ap (λ y. put_mid (16 + size) m (put_mid 16 k (head ++ replicate 40 0) y) tail) p
    ∙ ap (λ xs. put_mid (16 + size) m xs tail) (name-put head name k long l e)
    ∙ cookie-put head name tail size m long l s f
    ∙ ap (λ x. (x ++ padded name) ++ (tail ++ zeros)) h
    ∙ ap (λ y. ((word 1 ++ (hyper fileid ++ word (length name))) ++ padded name) ++ (y ++ zeros)) t
    ∙ joined (word 1) (hyper fileid) (word (length name)) (padded name) (hyper cookie) zeros

-- the first of the bytes that were appended
pub first-kept : (out bytes appended kept : List ℕ) (n count : ℕ) → appended ≡ out ++ bytes → kept ≡ take n appended → n ≡ length out + count
    → kept ≡ out ++ take count bytes
first-kept out bytes appended kept n count a k e =
    k ∙ ap (take n) a ∙ ap (λ m. take m (out ++ bytes)) e ∙ take-append-add out bytes count

-- how many bytes an entry takes
pub length-entry : (fileid cookie : ℕ) (name : List ℕ) → length (hyper fileid ++ (counted name ++ hyper cookie)) ≡ 20 + length (padded name)
length-entry fileid cookie name = omega (arith, length-append (padded name) (hyper cookie))

-- an item without the zeros behind it
pub item-kept : (out item spelled zeros new : List ℕ) (count : ℕ) → item ≡ word 1 ++ (spelled ++ zeros) → new ≡ out ++ take count item
    → count ≡ 4 + length spelled → new ≡ out ++ (word 1 ++ spelled)
item-kept out item spelled zeros new count i n e =
    n ∙ ap (λ l. out ++ take count l) i ∙ ap (λ l. out ++ l) (take_at (word 1 ++ spelled) zeros count (omega (arith, e)))

pub length-item : (out one new : List ℕ) → new ≡ out ++ (word 1 ++ one) → length new ≡ length out + (4 + length one)
length-item out one new n = omega (arith, ap length n, length-append out (word 1 ++ one))
