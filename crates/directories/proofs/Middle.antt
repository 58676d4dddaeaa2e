-- A step of a search by halving.
use Rattle.std.proofs.Common.{◌≡◌, refl, ◌∙◌, ap, ℕ, zero, suc, ◌+◌, ◌/◌, ◌<◌, ◌≤◌, List, [], ◌∷◌, length, take, drop, Option, Some, get_or, arith, add-one}
use Rattle.std.specs.List.{slice_get}
use Rattle.std.specs.Option.{option_map}
use Rattle.std.specs.declared.cmp.Ordering.TheVariants.{Less, Equal, Greater}
use Rattle.nfs_model.specs.Types.{Listed}
use Rattle.nfs_values.specs.declared.number.Cookie.{Cookie}
use Rattle.directories.specs.Digits.{binary_digits}
use Rattle.directories.specs.Index.{name_cmp, name_under, name_at, NamesRise, AllCompare}
use Rattle.directories.proofs.Halved.{digit-less}
use Rattle.directories.proofs.Orders.{all-before, all-after, same-names}

-- the element at a position, as code reads it
abbrev pub read_at : List Cookie → ℕ → Cookie
read_at index i = get_or index i (record { 0 = 0 })

pub at-position : (index : List Cookie) (i : ℕ) → i < length index → slice_get index i ≡ Some (read_at index i)
at-position [] i l = absurd (omega (arith, l))
at-position (x ∷ index) zero l = refl
at-position (x ∷ index) (suc i) l = at-position index i (omega (arith, l))

pub less-middle : (es : List Listed) (index : List Cookie) (name : List ℕ) (i : ℕ) (c : Cookie) → NamesRise es index → slice_get index i ≡ Some c
    → name_cmp (name_under es c) name ≡ Less → AllCompare es name Less (take (i + 1) index)
less-middle es index name i c s g h = rw add-one (all-before (name_under es) index i c name s g h)

pub greater-middle : (es : List Listed) (index : List Cookie) (name : List ℕ) (i : ℕ) (c : Cookie) → NamesRise es index → slice_get index i ≡ Some c
    → name_cmp (name_under es c) name ≡ Greater → AllCompare es name Greater (drop i index)
greater-middle es index name i c s g h = all-after (name_under es) index i c name s g h

pub equal-middle : (es : List Listed) (index : List Cookie) (name : List ℕ) (i : ℕ) (c : Cookie) → slice_get index i ≡ Some c
    → name_cmp (name_under es c) name ≡ Equal → name_at es index i ≡ Some name
equal-middle es index name i c g h =
    ap (λ (o : Option Cookie). option_map (name_under es) o) g ∙ ap (λ (n : List ℕ). Some n) (same-names (name_under es c) name h)

-- one more name compared, and at most half is left
pub one-more : (compared size rest most : ℕ) → 0 < size → rest ≤ size / 2 → compared + binary_digits size ≤ most → compared + 1 + binary_digits rest ≤ most
one-more compared size rest most l h c = let less = digit-less rest size l h in omega (arith, less, c)
