-- What is done to one chunk, seen by fileids, and how many values it has then. Lemmas alone.
use Rattle.std.proofs.Common.{◌≡◌, ◌≢◌, ℕ, zero, suc, ◌+◌, ◌%◌, ◌<◌, ◌≤◌, ◌==◌, Bool, true, false, cond, List, [], ◌∷◌, map, length, get_or, set, replicate}
use Rattle.std.proofs.Common.{Option, Some, None, is_some, refl, sym, ap, ◌∙◌, inl, inr, arith, eq-eqb}
use Rattle.std.proofs.lemmas.Bool.{cases_eq}
use Rattle.std.proofs.lemmas.Bool.Decides.{nat_tests}
use Rattle.std.proofs.lemmas.List.{map-set, get_or-map, get_or-set_same, get_or-set_other, length-map, length-set, length-replicate, get_or-replicate}
use Rattle.chunk_maps.specs.Chunks.{chunk_size, Slots, slot_of, used_in, one_if}

pub unlike : (a b : ℕ) → a ≢ b → (a == b) ≡ false
unlike a b h = grind (arith, nat_tests)

-- ---- one chunk

at-most-one : (b : Bool) → one_if b ≤ 1
at-most-one true = omega arith
at-most-one false = omega arith

module _ {V : Type 0} where
  used-most : (slots : Slots V) → used_in slots ≤ length slots
  used-most [] = omega arith
  used-most (slot ∷ slots) = let rest = used-most slots in let one = at-most-one (is_some slot) in omega (arith, rest, one)

  -- one place set
  used-set : (slots : Slots V) (i : ℕ) (o : Option V) → i < length slots
      → used_in (set slots i o) + one_if (is_some (get_or slots i None)) ≡ used_in slots + one_if (is_some o)
  used-set [] i o h = absurd (omega arith)
  used-set (slot ∷ slots) zero o h = omega arith
  used-set (slot ∷ slots) (suc i) o h = let rest = used-set slots i o (omega arith) in omega (arith, rest)

  none-used : (slots : Slots V) → used_in slots ≡ 0 → (i : ℕ) → get_or slots i None ≡ None
  none-used [] h i = refl
  none-used (None ∷ slots) h zero = refl
  none-used (Some value ∷ slots) h zero = absurd (omega (arith, h))
  none-used (slot ∷ slots) h (suc i) = none-used slots (omega (arith, h)) i

-- values as they are stored, and how a slot without one is
module _ {S V : Type 0} (stored : S → Option V) (vacant : S) (none : stored vacant ≡ None) where
  -- a value stored at a place
  set-slot : (values : List S) (i f : ℕ) (x : S) → length values ≡ chunk_size → i ≡ f % chunk_size → (q : ℕ)
      → slot_of (map stored (set values i x)) q ≡ cond (q % chunk_size == f % chunk_size) (stored x) (slot_of (map stored values) q)
  set-slot values i f x long is q =
      let slots = map stored values in
      ap (λ l. slot_of l q) (map-set stored values i x) ∙ elim (cases_eq (q % chunk_size) (f % chunk_size)) [
        | inl e ↦ ap (λ j. get_or (set slots i (stored x)) j None) (e ∙ sym is)
            ∙ get_or-set_same slots i (stored x) None (omega (arith, is, long, length-map values stored))
            ∙ sym (ap (λ b. cond b (stored x) (slot_of slots q)) (eq-eqb _ _ e))
        | inr apart ↦ get_or-set_other slots i (q % chunk_size) (stored x) None (λ e. apart (e ∙ is))
            ∙ sym (ap (λ b. cond b (stored x) (slot_of slots q)) (unlike _ _ apart))
      ]

  -- ---- one chunk, as the code reads and writes it

  -- how many values there are once one is stored at a place
  used-stored : (values : List S) (i : ℕ) (x : S) → length values ≡ chunk_size → i < chunk_size
      → used_in (map stored (set values i x)) + one_if (is_some (stored (get_or values i vacant)))
      ≡ used_in (map stored values) + one_if (is_some (stored x))
  used-stored values i x long below =
      let slots = map stored values in
      let here : get_or slots i None ≡ stored (get_or values i vacant) =
      get_or-map stored values i vacant None (omega (arith, long, below)) in
      let sum = used-set slots i (stored x) (omega (arith, length-map values stored, long, below)) in
      let written : used_in (map stored (set values i x)) ≡ used_in (set slots i (stored x)) = ap used_in (map-set stored values i x) in
      let one : one_if (is_some (get_or slots i None)) ≡ one_if (is_some (stored (get_or values i vacant))) =
      ap (λ o. one_if (is_some o)) here in
      omega (arith, sum, written, one)

  pub used-written : (values seen written : List S) (i : ℕ) (x : S) → length values ≡ chunk_size → i < chunk_size → seen ≡ values → written ≡ values
      → used_in (map stored (set written i x)) + one_if (is_some (stored (get_or seen i vacant)))
      ≡ used_in (map stored values) + one_if (is_some (stored x))
  used-written values seen written i x long below e f =
      let sum = used-stored values i x long below in
      let left = ap (λ l. used_in (map stored (set l i x))) f in
      let former = ap (λ l. one_if (is_some (stored (get_or l i vacant)))) e in omega (arith, sum, left, former)

  pub long-written : (values written : List S) (i : ℕ) (x : S) → length values ≡ chunk_size → written ≡ values → length (set written i x) ≡ chunk_size
  long-written values written i x long f = length-set written i x ∙ ap length f ∙ long

  -- no more than a chunk has places
  pub used-few : (values : List S) → length values ≡ chunk_size → used_in (map stored values) ≤ chunk_size
  used-few values long = let most = used-most (map stored values) in omega (arith, most, length-map values stored, long)

  -- what is under each fileid once a value is stored at a place
  pub slots-written : (values written : List S) (i f : ℕ) (x : S) (o : Option V) (slots : Slots V) → length values ≡ chunk_size
      → i ≡ f % chunk_size → written ≡ values → stored x ≡ o → map stored values ≡ slots → (q : ℕ)
      → slot_of (map stored (set written i x)) q ≡ cond (q % chunk_size == f % chunk_size) o (slot_of slots q)
  slots-written values written i f x o slots long is w e v q =
      ap (λ l. slot_of (map stored (set l i x)) q) w ∙ set-slot values i f x long is q
      ∙ ap (λ p. cond (q % chunk_size == f % chunk_size) p (slot_of (map stored values) q)) e
      ∙ ap (λ l. cond (q % chunk_size == f % chunk_size) o (slot_of l q)) v

  -- no value at any place
  none-stored : (n : ℕ) → used_in (map stored (replicate n vacant)) ≡ 0
  none-stored zero = refl
  none-stored (suc n) = let rest = none-stored n in let one = ap (λ o. one_if (is_some o)) none in omega (arith, rest, one)

  pub none-in : (values : List S) → used_in (map stored values) ≡ 0 → (q : ℕ) → slot_of (map stored values) q ≡ None
  none-in values unused q = none-used (map stored values) unused (q % chunk_size)

  abbrev blank : List S
  blank = replicate 32 vacant

  -- one value among none
  pub used-first : (written : List S) (i : ℕ) (x : S) (value : V) → i < chunk_size → written ≡ blank → stored x ≡ Some value
      → 1 ≡ used_in (map stored (set written i x))
  used-first written i x value below w e =
      let sum = used-written blank blank written i x (length-replicate 32 vacant) below refl w in
      let nothing = none-stored 32 in
      let former = ap (λ p. one_if (is_some (stored p))) (get_or-replicate 32 i vacant vacant below) ∙ ap (λ o. one_if (is_some o)) none in
      let one = ap (λ o. one_if (is_some o)) e in omega (arith, sum, nothing, former, one)

  pub long-first : (written : List S) (i : ℕ) (x : S) → written ≡ blank → length (set written i x) ≡ chunk_size
  long-first written i x w = long-written blank written i x (length-replicate 32 vacant) w

  pub slots-first : (written : List S) (i f : ℕ) (x : S) (value : V) → i ≡ f % chunk_size → written ≡ blank → stored x ≡ Some value → (q : ℕ)
      → slot_of (map stored (set written i x)) q ≡ cond (q % chunk_size == f % chunk_size) (Some value) None
  slots-first written i f x value is w e q =
      slots-written blank written i f x (Some value) (map stored blank) (length-replicate 32 vacant) is w e refl q
      ∙ ap (cond (q % chunk_size == f % chunk_size) (Some value)) (none-in blank (none-stored 32) q)
