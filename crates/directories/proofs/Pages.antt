-- A page is copied entry by entry.
use Rattle.std.proofs.Common.{◌≡◌, refl, sym, subst, ◌∙◌, ap, ℕ, zero, suc, ◌+◌, ◌-◌, ◌<◌, ◌≤◌, Bool}
use Rattle.std.proofs.Common.{true, false, nat_le, List, [], ◌∷◌, ◌++◌, length, take, drop, Option, None, Some, is_some, arith, add-one, append_assoc}
use Rattle.std.proofs.Common.{length-append, if◌then◌else◌, Result, Ok, Err}
use Rattle.std.proofs.lemmas.Bool.Decides.{nat_tests}
use Rattle.std.proofs.lemmas.List.{append-nil, drop-map, take-map, drop-drop, take-append-drop, drop_at, length-map}
use Rattle.std.specs.Prelude.{OnErr}
use Rattle.std.specs.List.{AllByRecursion, slice_get}
use Rattle.nfs_model.specs.Types.{Listed}
use Rattle.nfs_model.specs.Serial.Readdir.{entry_size, fitting}
use Rattle.nfs_values.specs.Answer.{entry_of}
use Rattle.nfs_values.specs.declared.answer.DirectoryEntry.{DirectoryEntry}
use Rattle.directories.specs.Entries.{listed, fitting_in}
use Rattle.directories.specs.Slots.{in_slot, entry_or_none, in_order}
use Rattle.directories.specs.declared.slot.Slot.{Slot}
use Rattle.directories.proofs.Orders.{all-take, all-drop}
use Rattle.directories.proofs.Places.{listed-append}

drop-at : (es : List Listed) (i : ℕ) (e : Listed) → slice_get es i ≡ Some e → drop i es ≡ e ∷ drop (suc i) es
drop-at [] i e g = absurd (grind (arith, g))
drop-at (x ∷ es) zero e g = let same : x ≡ e = grind (arith, g) in ap (λ (y : Listed). y ∷ es) same
drop-at (x ∷ es) (suc i) e g = drop-at es i e g

drop-all : (es : List Listed) (i : ℕ) → length es ≤ i → drop i es ≡ []
drop-all [] zero l = refl
drop-all [] (suc i) l = refl
drop-all (x ∷ es) zero l = absurd (omega (arith, l))
drop-all (x ∷ es) (suc i) l = drop-all es i (omega (arith, l))

fits-one : (left : ℕ) (e : Listed) (es : List Listed) → entry_size e ≤ left → fitting left (e ∷ es) ≡ e ∷ fitting (left - entry_size e) es
fits-one left e es l = by (nat_le (entry_size e) left) refl
  where
    by : (b : Bool) → b ≡ nat_le (entry_size e) left → (if b then e ∷ fitting (left - entry_size e) es else []) ≡ e ∷ fitting (left - entry_size e) es
    by true p = refl
    by false p = absurd (grind (arith, nat_tests, p, l))

fits-none : (left : ℕ) (e : Listed) (es : List Listed) → left < entry_size e → fitting left (e ∷ es) ≡ []
fits-none left e es l = by (nat_le (entry_size e) left) refl
  where
    by : (b : Bool) → b ≡ nat_le (entry_size e) left → (if b then e ∷ fitting (left - entry_size e) es else []) ≡ []
    by true p = absurd (grind (arith, nat_tests, p, l))
    by false p = refl

-- copied so far, and what fits of the rest
abbrev pub SoFar : List DirectoryEntry → ℕ → ℕ → List Listed → List Listed → Type 0
SoFar copied left i es whole = listed copied ++ fitting left (drop i es) ≡ whole

pub one-copied : (copied : List DirectoryEntry) (left i : ℕ) (es whole : List Listed) (e : Listed) (x : DirectoryEntry) (size : ℕ)
    → SoFar copied left i es whole
    → slice_get es i ≡ Some e → size ≡ entry_size e → size ≤ left → entry_of x ≡ e → SoFar (copied ++ x ∷ []) (left - size) (i + 1) es whole
one-copied copied left i es whole e x size h g s f same =
    let rest = drop (suc i) es in
    let head : fitting left (drop i es) ≡ e ∷ fitting (left - size) rest =
    ap (λ d. fitting left d) (drop-at es i e g) ∙ (fits-one left e rest (omega (arith, s, f)) ∙ ap (λ n. e ∷ fitting (left - n) rest) (sym s)) in
    rw (add-one, listed-append copied (x ∷ []), append_assoc)
    (ap (λ y. listed copied ++ y ∷ fitting (left - size) rest) same ∙ (ap (λ l. listed copied ++ l) (sym head) ∙ h))

-- some fit at all where some fit after others
some-after : (initial copied : List DirectoryEntry) (fit page : List Listed) → listed copied ++ fit ≡ listed initial ++ page
    → length initial ≤ length copied → 0 < length fit → 0 < length page
some-after initial copied fit page e n l =
    let whole : length (listed copied ++ fit) ≡ length (listed initial ++ page) = ap (λ (l : List Listed). length l) e in
    let a = length-append (listed copied) fit in
    let b = length-append (listed initial) page in
    let c = length-map copied entry_of in
    let d = length-map initial entry_of in omega (arith, whole, a, b, c, d, n, l)

-- one that fits after some is of those that fit
pub some-fit : (old copied : List DirectoryEntry) (left i : ℕ) (es : List Listed) (room : ℕ) (e : Listed) (size : ℕ)
    → SoFar copied left i es (listed old ++ fitting room es) → length old ≤ length copied → slice_get es i ≡ Some e → size ≡ entry_size e → size ≤ left
    → 0 < length (fitting room es)
some-fit old copied left i es room e size h n g s f =
    let rest = fitting (left - entry_size e) (drop (suc i) es) in
    let head : fitting left (drop i es) ≡ e ∷ rest = ap (λ d. fitting left d) (drop-at es i e g) ∙ fits-one left e (drop (suc i) es) (omega (arith, s, f)) in
    let whole : length (listed copied ++ e ∷ rest) ≡ length (listed old ++ fitting room es) =
    ap (λ (l : List Listed). length l) (ap (λ l. listed copied ++ l) (sym head) ∙ h) in
    let a = length-append (listed copied) (e ∷ rest) in
    let b = length-append (listed old) (fitting room es) in
    let c = length-map copied entry_of in
    let d = length-map old entry_of in omega (arith, whole, a, b, c, d, n)

pub on-error : {A E P : Type 0} (r : Result A E) → P → OnErr r P
on-error (Ok x) p = tt
on-error (Err x) p = p

pub full-page : (copied : List DirectoryEntry) (left i : ℕ) (es whole : List Listed) (e : Listed) (size : ℕ) → SoFar copied left i es whole
    → slice_get es i ≡ Some e → size ≡ entry_size e → left < size → listed copied ≡ whole
full-page copied left i es whole e size h g s f =
    let none : fitting left (drop i es) ≡ [] =
    ap (λ d. fitting left d) (drop-at es i e g) ∙ fits-none left e (drop (suc i) es) (omega (arith, s, f)) in
    sym (append-nil (listed copied)) ∙ (ap (λ l. listed copied ++ l) (sym none) ∙ h)

pub last-page : (copied : List DirectoryEntry) (left i : ℕ) (es whole : List Listed) → SoFar copied left i es whole → length es ≤ i → listed copied ≡ whole
last-page copied left i es whole h l =
    let none : fitting left (drop i es) ≡ [] = ap (λ d. fitting left d) (drop-all es i l) in
    sym (append-nil (listed copied)) ∙ (ap (λ l. listed copied ++ l) (sym none) ∙ h)

-- ---- a run of the order

pub in-front : (es more : List Listed) (i : ℕ) (e : Listed) → slice_get es i ≡ Some e → slice_get (es ++ more) i ≡ Some e
in-front [] more i e g = absurd (grind (arith, g))
in-front (x ∷ es) more zero e g = g
in-front (x ∷ es) more (suc i) e g = in-front es more i e g

abbrev entry_in_slot : List Slot → ℕ → Listed
entry_in_slot slots s = entry_or_none (in_slot slots s)

-- a run, and what comes behind it
run-ahead : (slots : List Slot) (order run : List ℕ) (position : ℕ) → take (length run) (drop position order) ≡ run
    → in_order slots run ++ drop (position + length run) (in_order slots order) ≡ drop position (in_order slots order)
run-ahead slots order run position e =
    let all = in_order slots order in
    let front : take (length run) (drop position all) ≡ in_order slots run =
    ap (λ l. take (length run) l) (drop-map (entry_in_slot slots) position order)
    ∙ (take-map (entry_in_slot slots) (length run) (drop position order) ∙ ap (λ l. in_order slots l) e) in
    ap (λ l. l ++ drop (position + length run) all) (sym front)
    ∙ (ap (λ l. take (length run) (drop position all) ++ l) (sym (drop-drop (length run) position all)) ∙ take-append-drop (length run) (drop position all))

-- where a run ends all of it is copied
pub run-copied : (copied : List DirectoryEntry) (left : ℕ) (es more whole : List Listed) (n : ℕ) → SoFar copied left n (es ++ more) whole → length es ≡ n
    → listed copied ++ fitting left more ≡ whole
run-copied copied left es more whole n h l = ap (λ d. listed copied ++ fitting left d) (sym (drop_at es more n l)) ∙ h

-- the slots of a run are filled
pub run-filled : (slots : List Slot) (order run : List ℕ) (position : ℕ) → AllByRecursion (λ s. is_some (in_slot slots s) ≡ true) order
    → take (length run) (drop position order) ≡ run → AllByRecursion (λ s. is_some (in_slot slots s) ≡ true) run
run-filled slots order run position a e =
    subst (λ l. AllByRecursion (λ s. is_some (in_slot slots s) ≡ true) l) e
    (all-take (λ s. is_some (in_slot slots s) ≡ true) (drop position order) (length run) (all-drop (λ s. is_some (in_slot slots s) ≡ true) order position a))

-- what a run leaves to be copied
pub run-next : (old new : List DirectoryEntry) (left position : ℕ) (rest : Option ℕ) (slots : List Slot) (order run : List ℕ) (whole : List Listed)
    → SoFar old left position (in_order slots order) whole → take (length run) (drop position order) ≡ run
    → ((more : List Listed) → listed new ++ fitting_in rest more ≡ listed old ++ fitting left (in_order slots run ++ more))
    → listed new ++ fitting_in rest (drop (position + length run) (in_order slots order)) ≡ whole
run-next old new left position rest slots order run whole h e f =
    f (drop (position + length run) (in_order slots order)) ∙ (ap (λ l. listed old ++ fitting left l) (run-ahead slots order run position e) ∙ h)

-- where one of a run fits, some fit of all
pub run-fits : (initial old : List DirectoryEntry) (left position : ℕ) (slots : List Slot) (order run : List ℕ) (page : List Listed)
    → SoFar old left position (in_order slots order) (listed initial ++ page) → length initial ≤ length old → take (length run) (drop position order) ≡ run
    → ((more : List Listed) → 0 < length (fitting left (in_order slots run ++ more))) → 0 < length page
run-fits initial old left position slots order run page h n e f =
    some-after initial old (fitting left (drop position (in_order slots order))) page h n
    (subst (λ (l : List Listed). 0 < length (fitting left l)) (run-ahead slots order run position e) (f (drop (position + length run) (in_order slots order))))

none-in-none : (rest : Option ℕ) → length (fitting_in rest []) ≡ 0
none-in-none None = refl
none-in-none (Some left) = refl

-- a run takes nothing away
pub run-longer : (initial old new : List DirectoryEntry) (left : ℕ) (rest : Option ℕ) (es : List Listed) → length initial ≤ length old
    → ((more : List Listed) → listed new ++ fitting_in rest more ≡ listed old ++ fitting left (es ++ more)) → length initial ≤ length new
run-longer initial old new left rest es n f =
    let whole : length (listed new ++ fitting_in rest []) ≡ length (listed old ++ fitting left (es ++ [])) = ap (λ (l : List Listed). length l) (f []) in
    let a = length-append (listed new) (fitting_in rest []) in
    let b = length-append (listed old) (fitting left (es ++ [])) in
    let c = length-map new entry_of in
    let d = length-map old entry_of in
    let none = none-in-none rest in omega (arith, whole, a, b, c, d, n, none)

-- the first of what is left fits
pub first-fits : (es : List Listed) (i room size : ℕ) (e : Listed) → slice_get es i ≡ Some e → size ≡ entry_size e → size ≤ room
    → 0 < length (fitting room (drop i es))
first-fits es i room size e g s f =
    let rest = fitting (room - entry_size e) (drop (suc i) es) in
    let head : fitting room (drop i es) ≡ e ∷ rest = ap (λ d. fitting room d) (drop-at es i e g) ∙ fits-one room e (drop (suc i) es) (omega (arith, s, f)) in
    let whole : length (fitting room (drop i es)) ≡ length (e ∷ rest) = ap (λ (l : List Listed). length l) head in omega (arith, whole)
