-- A search by hashes, on plain values.
use Rattle.std.proofs.Common.{◌≡◌, sym, subst, ℕ, ◌+◌, ◌/◌, ◌<◌, ◌≤◌, List, [], ◌∷◌, length, drop, Some, arith}
use Rattle.std.specs.List.{AllByRecursion, slice_get}
use Rattle.std.specs.declared.cmp.Ordering.TheVariants.{Less, Greater}
use Rattle.std.proofs.lemmas.Bool.Decides.{nat_tests}
use Rattle.nfs_model.specs.Types.{Listed}
use Rattle.nfs_values.specs.declared.number.Cookie.{Cookie}
use Rattle.directories.specs.declared.spot.Spot.{Spot}
use Rattle.directories.specs.Hash.{name_hash}
use Rattle.directories.specs.Index.{cookies, name_cmp, name_under, AreHashed, IsAround, IsHalf}
use Rattle.directories.proofs.Orders.{all-at}
use Rattle.directories.proofs.Spots.{cookie-at}
use Rattle.directories.proofs.Middle.{less-middle, greater-middle}

lower-hash : (x y : List ℕ) → name_hash x < name_hash y → name_cmp x y ≡ Less
lower-hash x y l = grind (arith, nat_tests, l)

higher-hash : (x y : List ℕ) → name_hash y < name_hash x → name_cmp x y ≡ Greater
higher-hash x y l = grind (arith, nat_tests, l)

hash-at : (es : List Listed) (spots : List Spot) (i : ℕ) (s : Spot) → AreHashed es spots → slice_get spots i ≡ Some s
    → s.hash ≡ name_hash (name_under es s.cookie)
hash-at es spots i s h g = all-at (λ s. s.hash ≡ name_hash (name_under es s.cookie)) spots i s h g

none-behind : (P : Cookie → Type 0) (spots : List Spot) → AllByRecursion P (drop (length spots) (cookies spots))
none-behind P [] = tt
none-behind P (s ∷ spots) = none-behind P spots

pub around-all : (spots : List Spot) (hash : ℕ) → IsAround spots hash 0 (length spots)
around-all spots hash = record {
  ordered = omega arith;
  within = omega arith;
  before = λ es name r h e. tt;
  after = λ es name r h e. none-behind (λ c. name_cmp (name_under es c) name ≡ Greater) spots;
}

pub around-above : (spots : List Spot) (hash low high i : ℕ) (s : Spot) → IsAround spots hash low high → i < high → slice_get spots i ≡ Some s
    → s.hash < hash → IsAround spots hash (i + 1) high
around-above spots hash low high i s a l g less = record {
  ordered = omega (arith, l);
  within = a.within;
  before = λ es name r h e.
      let is = hash-at es spots i s h g in
      less-middle es (cookies spots) name i s.cookie r (cookie-at spots i s g) (lower-hash (name_under es s.cookie) name (omega (arith, is, e, less)));
  after = a.after;
}

pub around-below : (spots : List Spot) (hash low high i : ℕ) (s : Spot) → IsAround spots hash low high → low ≤ i → i < high → slice_get spots i ≡ Some s
    → hash < s.hash → IsAround spots hash low i
around-below spots hash low high i s a b l g more = record {
  ordered = b;
  within = let w = a.within in omega (arith, w, l);
  before = a.before;
  after = λ es name r h e.
      let is = hash-at es spots i s h g in
      greater-middle es (cookies spots) name i s.cookie r (cookie-at spots i s g) (higher-hash (name_under es s.cookie) name (omega (arith, is, e, more)));
}

-- ---- the half that a hash in the middle leaves

pub half-above : (spots : List Spot) (hash size : ℕ) (s : Spot) → size ≡ length spots → size / 2 < size → slice_get spots (size / 2) ≡ Some s → s.hash < hash
    → IsHalf spots hash (size / 2 + 1) size
half-above spots hash size s is some g less =
    let around = around-above spots hash 0 (length spots) (size / 2) s (around-all spots hash) (omega (arith, is, some)) g less in
    record {
      around = subst (λ k. IsAround spots hash (size / 2 + 1) k) (sym is) around;
      half = omega (arith, is);
      some = omega (arith, is, some);
    }

pub half-below : (spots : List Spot) (hash size : ℕ) (s : Spot) → size ≡ length spots → size / 2 < size → slice_get spots (size / 2) ≡ Some s → hash < s.hash
    → IsHalf spots hash 0 (size / 2)
half-below spots hash size s is some g more = record {
  around = around-below spots hash 0 (length spots) (size / 2) s (around-all spots hash) (omega arith) (omega (arith, is, some)) g more;
  half = omega (arith, is);
  some = omega (arith, is, some);
}
