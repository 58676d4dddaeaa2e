-- Of the entries whose names fit, those that fit whole.
use Rattle.std.proofs.Common.{◌≡◌, ℕ, ◌+◌, ◌-◌, ◌<◌, ◌≤◌, Bool, true, false, List, [], ◌∷◌, length, refl, sym, ap, arith}
use Rattle.std.proofs.lemmas.Bool.Decides.{nat_tests}
use Rattle.std.specs.Prelude.{◌&&◌, ◌==◌, nat_le, if◌then◌else◌}
use Rattle.nfs_model.specs.Types.{Listed}
use Rattle.nfs_model.specs.Serial.Readdir.{entry_size, fitting}
use Rattle.nfs_model.specs.Serial.Readdirplus.{entry_plus_size, fitting_plus}

-- ---- one entry more

pub plus-one : (room : ℕ) (e : Listed) (es : List Listed) → entry_plus_size e ≤ room
    → fitting_plus room (e ∷ es) ≡ e ∷ fitting_plus (room - entry_plus_size e) es
plus-one room e es fits = by (nat_le (entry_plus_size e) room) refl
  where
    by : (b : Bool) → nat_le (entry_plus_size e) room ≡ b
        → (if b then e ∷ fitting_plus (room - entry_plus_size e) es else []) ≡ e ∷ fitting_plus (room - entry_plus_size e) es
    by true is = refl
    by false is = absurd (grind (arith, nat_tests, is, fits))

pub plus-none : (room : ℕ) (e : Listed) (es : List Listed) → room < entry_plus_size e → fitting_plus room (e ∷ es) ≡ []
plus-none room e es less = by (nat_le (entry_plus_size e) room) refl
  where
    by : (b : Bool) → nat_le (entry_plus_size e) room ≡ b → (if b then e ∷ fitting_plus (room - entry_plus_size e) es else []) ≡ []
    by true is = absurd (grind (arith, nat_tests, is, less))
    by false is = refl

-- ---- names that are cut where no entry fits whole

-- one count lets no entry pass that the other doesn't
abbrev IsCut : ℕ → ℕ → ℕ → Type 0
IsCut room names cut = (x : ℕ) → x ≤ names → x + 116 ≤ room → x ≤ cut

-- by what holds of the entries behind the first
cut-first : (e : Listed) (es : List Listed)
    → ((room names cut : ℕ) → cut ≤ names → IsCut room names cut → fitting_plus room (fitting cut es) ≡ fitting_plus room (fitting names es))
    → (room names cut : ℕ) → cut ≤ names → IsCut room names cut
    → fitting_plus room (fitting cut (e ∷ es)) ≡ fitting_plus room (fitting names (e ∷ es))
cut-first e es behind room names cut less enough = by (nat_le (entry_size e) cut) refl (nat_le (entry_size e) names) refl
  where
    both : (b : Bool) → nat_le (entry_plus_size e) room ≡ b → entry_size e ≤ names
        → (if b then e ∷ fitting_plus (room - entry_plus_size e) (fitting (cut - entry_size e) es) else [])
        ≡ (if b then e ∷ fitting_plus (room - entry_plus_size e) (fitting (names - entry_size e) es) else [])
    both true fits here =
        let whole : entry_plus_size e ≤ room = grind (arith, nat_tests, fits) in
        ap (λ (l : List Listed). e ∷ l)
        (behind (room - entry_plus_size e) (names - entry_size e) (cut - entry_size e) (omega (arith, less))
        (λ x few left.
        let more : x + entry_size e ≤ cut = enough (x + entry_size e) (omega (arith, few, here)) (omega (arith, whole, left)) in
        omega (arith, more)))
    both false fits here = refl

    by : (b : Bool) → nat_le (entry_size e) cut ≡ b → (c : Bool) → nat_le (entry_size e) names ≡ c
        → fitting_plus room (if b then e ∷ fitting (cut - entry_size e) es else [])
        ≡ fitting_plus room (if c then e ∷ fitting (names - entry_size e) es else [])
    by false small false longer = refl
    by true small false longer = absurd (grind (arith, nat_tests, small, longer, less))
    by true small true longer = both (nat_le (entry_plus_size e) room) refl (grind (arith, nat_tests, longer))
    by false small true longer = sym (plus-none room e (fitting (names - entry_size e) es) (whole (nat_le (entry_plus_size e) room) refl))
      where
        whole : (b : Bool) → nat_le (entry_plus_size e) room ≡ b → room < entry_plus_size e
        whole true fits =
            let more : entry_size e ≤ cut = enough (entry_size e) (grind (arith, nat_tests, longer)) (grind (arith, nat_tests, fits)) in
            absurd (grind (arith, nat_tests, small, more))
        whole false fits = grind (arith, nat_tests, fits)

pub cut-fits : (es : List Listed) (room names cut : ℕ) → cut ≤ names → IsCut room names cut
    → fitting_plus room (fitting cut es) ≡ fitting_plus room (fitting names es)
cut-fits [] room names cut less enough = refl
cut-fits (e ∷ es) room names cut less enough = cut-first e es (cut-fits es) room names cut less enough

-- one that fits by its name fits whole
pub some-plus : (es : List Listed) (room cut : ℕ) → cut ≤ room - 116 → 0 < length (fitting cut es) → 0 < length (fitting_plus room (fitting cut es))
some-plus [] room cut less some = some
some-plus (e ∷ es) room cut less some = by (nat_le (entry_size e) cut) refl some
  where
    by : (b : Bool) → nat_le (entry_size e) cut ≡ b → 0 < length (if b then e ∷ fitting (cut - entry_size e) es else [])
        → 0 < length (fitting_plus room (if b then e ∷ fitting (cut - entry_size e) es else []))
    by true is some =
        rw (plus-one room e (fitting (cut - entry_size e) es) (grind (arith, nat_tests, is, less)))
        (omega arith)
    by false is some = some

pub none-fits-whole : (es : List Listed) (room : ℕ) → room < 116 → fitting_plus room es ≡ []
none-fits-whole [] room less = refl
none-fits-whole (e ∷ es) room less = plus-none room e es (omega (arith, less))

-- ---- how many

one-more : (e : Listed) (l es : List Listed) (b : Bool) → length l ≤ length es → length (if b then e ∷ l else []) ≤ length (e ∷ es)
one-more e l es true few = omega (arith, few)
one-more e l es false few = omega arith

pub fitting-few : (es : List Listed) (room : ℕ) → length (fitting room es) ≤ length es
fitting-few [] room = omega arith
fitting-few (e ∷ es) room =
    one-more e (fitting (room - entry_size e) es) es (nat_le (entry_size e) room) (fitting-few es (room - entry_size e))

pub plus-few : (es : List Listed) (room : ℕ) → length (fitting_plus room es) ≤ length es
plus-few [] room = omega arith
plus-few (e ∷ es) room =
    one-more e (fitting_plus (room - entry_plus_size e) es) es (nat_le (entry_plus_size e) room) (plus-few es (room - entry_plus_size e))

-- all remain to the end where all of those that all are remain
pub same-end : (a b c : ℕ) → a ≤ b → b ≤ c → ((b == c) && (a == b)) ≡ (a == c)
same-end a b c few less = by (b == c) refl (a == b) refl (a == c) refl
  where
    by : (p : Bool) → (b == c) ≡ p → (q : Bool) → (a == b) ≡ q → (r : Bool) → (a == c) ≡ r → (p && q) ≡ r
    by true is true same true end = refl
    by true is true same false end = absurd (grind (arith, nat_tests, is, same, end))
    by true is false same true end = absurd (grind (arith, nat_tests, is, same, end))
    by true is false same false end = refl
    by false is q same true end = absurd (grind (arith, nat_tests, is, end, few, less))
    by false is q same false end = refl
