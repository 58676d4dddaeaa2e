-- A page of entries that fit by their names, and of these a page that fits whole.
use Rattle.std.proofs.Common.{◌≡◌, ℕ, ◌-◌, ◌<◌, ◌≤◌, Bool, true, false, Result, Ok, Err, List, length, map, sym, ap, ◌∙◌, subst, arith}
use Rattle.std.proofs.lemmas.Bool.Decides.{nat_tests}
use Rattle.std.proofs.lemmas.List.{length-map}
use Rattle.std.specs.Prelude.{OnErr, min, ◌&&◌, ◌==◌}
use Rattle.nfs_model.specs.Types.{Listed, ListedPlus}
use Rattle.nfs_model.specs.Serial.Readdir.{fitting}
use Rattle.nfs_model.specs.Serial.Readdirplus.{fitting_plus}
use Rattle.nfs_model.specs.volume.Directories.{Page, page_of}
use Rattle.service_names.specs.Listing.{PageWithNodes, page_plus_of}
use Rattle.service_names.proofs.Fitted.{cut-fits, some-plus, fitting-few, plus-few, same-end}

pub on-error : {X E : Type 0} {P : Type 0} (r : Result X E) → P → OnErr r P
on-error (Ok x) p = tt
on-error (Err e) p = p

-- it is the end where it was, and as many are told
pub end-told : (last was : Bool) (n a b : ℕ) → was ≡ true → last ≡ (n == b) → n ≡ a → last ≡ (was && (a == b))
end-told last was n a b is same long = same ∙ ap (λ (m : ℕ). m == b) long ∙ ap (λ (w : Bool). w && (a == b)) (sym is)

pub end-cut : (last was : Bool) (a b : ℕ) → was ≡ false → last ≡ was → last ≡ (was && (a == b))
end-cut last was a b is same = same ∙ is ∙ ap (λ (w : Bool). w && (a == b)) (sym is)

pub as-many : {X Y : Type 0} (f : X → Y) (xs : List X) (n : ℕ) → n ≡ length xs → n ≡ length (map f xs)
as-many f xs n same = let m = length-map xs f in omega (arith, m, same)

min-left : (a b : ℕ) → min a b ≤ a
min-left a b = grind (arith, nat_tests)

min-right : (a b : ℕ) → min a b ≤ b
min-right a b = grind (arith, nat_tests)

min-both : (x a b : ℕ) → x ≤ a → x ≤ b → x ≤ min a b
min-both x a b left right = grind (arith, nat_tests, left, right)

module _ (names cut room : ℕ) (is : cut ≡ min names (room - 116)) (remaining : List Listed) where
  few : cut ≤ room - 116
  few = subst (λ (n : ℕ). n ≤ room - 116) (sym is) (min-right names (room - 116))

  whole : fitting_plus room (fitting cut remaining) ≡ fitting_plus room (fitting names remaining)
  whole =
      cut-fits remaining room names cut (subst (λ (n : ℕ). n ≤ names) (sym is) (min-left names (room - 116)))
      (λ x less fits. subst (λ (n : ℕ). x ≤ n) (sym is) (min-both x names (room - 116) less (omega (arith, fits))))

  -- where a name fits
  pub some-whole : 0 < length (fitting cut remaining) → 0 < length (fitting_plus room (fitting names remaining))
  some-whole some = subst (λ (es : List Listed). 0 < length es) whole (some-plus remaining room cut few some)

  module _ (p : Page) (made : p ≡ page_of cut remaining) where
    pub some-there : (n : ℕ) → n ≡ length p.entries → 0 < n → 0 < length (fitting_plus room (fitting names remaining))
    some-there n same some =
        some-whole (subst (λ (es : List Listed). 0 < length es) (ap (λ (q : Page). q.entries) made) (omega (arith, same, some)))

    -- the page with nodes
    pub page-whole : (f : Listed → ListedPlus) (told : List ListedPlus) → told ≡ map f (fitting_plus room p.entries)
        → (a b : ℕ) → a ≡ length told → b ≡ length p.entries → (last : Bool) → last ≡ (p.is_last && (a == b))
        → (let made : PageWithNodes = record { entries = told; is_last = last } in made) ≡ page_plus_of f names room remaining
    page-whole f told is_told a b long many last end = λ j. record { entries = same j; is_last = (end ∙ ends) j }
      where
        page : List Listed
        page = fitting_plus room (fitting names remaining)

        fits : p.entries ≡ fitting cut remaining
        fits = ap (λ (q : Page). q.entries) made

        same : told ≡ map f page
        same = is_told ∙ ap (λ (es : List Listed). map f (fitting_plus room es)) fits ∙ ap (map f) whole

        told_length : a ≡ length page
        told_length = long ∙ ap (λ (l : List ListedPlus). length l) same ∙ length-map page f

        few_told : length page ≤ length (fitting cut remaining)
        few_told = subst (λ (es : List Listed). length es ≤ length (fitting cut remaining)) whole (plus-few (fitting cut remaining) room)

        named : b ≡ length (fitting cut remaining)
        named = many ∙ ap (λ (es : List Listed). length es) fits

        ends : (p.is_last && (a == b)) ≡ (length page == length remaining)
        ends =
            ap (λ (q : Page). q.is_last && (a == b)) made
            ∙ ap (λ (n : ℕ). (length (fitting cut remaining) == length remaining) && (n == b)) told_length
            ∙ ap (λ (n : ℕ). (length (fitting cut remaining) == length remaining) && (length page == n)) named
            ∙ same-end (length page) (length (fitting cut remaining)) (length remaining) few_told (fitting-few remaining cut)
