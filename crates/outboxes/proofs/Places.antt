-- Outboxes in a list by number: where one is found, and what waits for each connection once one is added, changed or removed.
use Rattle.std.proofs.Common.{◌≡◌, ◌≢◌, ℕ, zero, suc, ◌+◌, ◌<◌, ◌≤◌, ◌==◌, false, cond, List, [], ◌∷◌, ◌++◌, length, get_or, set}
use Rattle.std.proofs.Common.{Option, Some, None, is_some, Result, Ok, Err, IfOk, OnErr, IsTrue, refl, sym, ap, subst, ◌∙◌, inl, inr, arith, eq-eqb}
use Rattle.std.proofs.Common.{if◌then◌else◌}
use Rattle.std.specs.List.{remove}
use Rattle.std.specs.List.Sorted.{IsSearchInRange, IsBinarySearchResult, IsNonDecreasingBy}
use Rattle.std.specs.Ordering.{nat_cmp, ordering_index}
use Rattle.std.specs.Cmp.{nat_cmp_total, unsigned_tied}
use Rattle.std.specs.FinMap as maps
use Rattle.std.specs.FinMap.{FinMap, find, get, insert, len, get-from_entries, len-empty, len-insert, from_entries_push, nat_cmp-IsAntisymmetric}
use Rattle.std.proofs.lemmas.Cmp.{ranked}
use Rattle.std.proofs.lemmas.Bool.{cases_eq}
use Rattle.std.proofs.lemmas.Bool.Decides.{nat_tests}
use Rattle.std.proofs.lemmas.Option.{none-some}
use Rattle.nfs_model.specs.volume.Maps.{changed_value, changed_at}
use Rattle.nfs_model.specs.volume.lemmas.Numbered.{same-answers, get-insert_at, get-remove_at, remove-absent}
use Rattle.outboxes.specs.Boxes.{first_in, first_of}
use Rattle.outboxes.specs.Messages.{ReplyMessage}
use Rattle.outboxes.specs.Places.{waiting_of, number_at, IsAt, Rise}

abbrev Entry : Type 0
Entry = ℕ × List ReplyMessage

-- what waits for a connection
abbrev found : List Entry → ℕ → Option (List ReplyMessage)
found [] q = None
found (e ∷ es) q = if q == e.0 then Some e.1 else found es q

find-found : (q : ℕ) (es : List Entry) → find nat_cmp q es ≡ found es q
find-found q [] = refl
find-found q (e ∷ es) = ap (λ b. cond b (Some e.1) (find nat_cmp q es)) (unsigned_tied q e.0) ∙ ap (cond (q == e.0) (Some e.1)) (find-found q es)

get-found : (es : List Entry) (q : ℕ) → get (waiting_of es) q ≡ found es q
get-found es q = get-from_entries nat_cmp_total es q ∙ find-found q es

same : (es : List Entry) (m : FinMap nat_cmp (List ReplyMessage)) → ((q : ℕ) → found es q ≡ get m q) → waiting_of es ≡ m
same es m h = same-answers (waiting_of es) m (λ q. get-found es q ∙ h q)

unlike : (a b : ℕ) → a ≢ b → (a == b) ≡ false
unlike a b h = grind (arith, nat_tests)

-- ---- numbers at their places

number-read : (es : List Entry) (i : ℕ) (d : Entry) → i < length es → number_at es i ≡ (get_or es i d).0
number-read [] i d within = absurd (omega arith)
number-read (e ∷ es) zero d within = refl
number-read (e ∷ es) (suc i) d within = number-read es i d (omega arith)

any-entry : (es : List Entry) (i : ℕ) → i < length es → Entry
any-entry [] i within = absurd (omega arith)
any-entry (e ∷ es) i within = e

at-least : (least : ℕ) (es : List Entry) (i : ℕ) → Rise least es → i < length es → least ≤ number_at es i
at-least least [] i rise within = absurd (omega arith)
at-least least (e ∷ es) zero rise within = rise.0
at-least least (e ∷ es) (suc i) rise within =
    let first = rise.0 in
    let rest = at-least (e.0 + 1) es i rise.1 (omega arith) in omega (arith, first, rest)

no-fall : (least : ℕ) (es : List Entry) (i j : ℕ) → Rise least es → i ≤ j → j < length es → number_at es i ≤ number_at es j
no-fall least [] i j rise le within = absurd (omega arith)
no-fall least (e ∷ es) zero zero rise le within = omega arith
no-fall least (e ∷ es) zero (suc j) rise le within =
    let rest = at-least (e.0 + 1) es j rise.1 (omega arith) in omega (arith, rest)
no-fall least (e ∷ es) (suc i) zero rise le within = absurd (omega arith)
no-fall least (e ∷ es) (suc i) (suc j) rise le within = no-fall (e.0 + 1) es i j rise.1 (omega arith) (omega arith)

from-less : (least more : ℕ) (es : List Entry) → Rise more es → least ≤ more → Rise least es
from-less least more [] rise le = tt
from-less least more (e ∷ es) rise le = (let first = rise.0 in omega (arith, first), rise.1)

-- ---- what is found

first-found : (e : Entry) (es : List Entry) (q : ℕ) → q ≡ e.0 → found (e ∷ es) q ≡ Some e.1
first-found e es q is = ap (λ b. cond b (Some e.1) (found es q)) (eq-eqb q e.0 is)

not-first : (e : Entry) (es : List Entry) (q : ℕ) → q ≢ e.0 → found (e ∷ es) q ≡ found es q
not-first e es q apart = ap (λ b. cond b (Some e.1) (found es q)) (unlike q e.0 apart)

none-of : (q : ℕ) (es : List Entry) → ((j : ℕ) → j < length es → q ≢ number_at es j) → found es q ≡ None
none-of q [] others = refl
none-of q (e ∷ es) others =
    not-first e es q (others zero (omega arith)) ∙ none-of q es (λ j within. others (suc j) (omega arith))

none-less : (least q : ℕ) (es : List Entry) → Rise least es → q < least → found es q ≡ None
none-less least q es rise less = none-of q es (λ j within e. let more = at-least least es j rise within in omega (arith, more, e))

at-tail : (e : Entry) (es : List Entry) (number i : ℕ) → IsAt (e ∷ es) number (suc i) → IsAt es number i
at-tail e es number i at = let within = at.within in record { within = omega (arith, within); has = at.has }

-- a number behind the first
above-first : (least : ℕ) (e : Entry) (es : List Entry) (number i : ℕ) → Rise least (e ∷ es) → IsAt (e ∷ es) number (suc i) → e.0 < number
above-first least e es number i rise at =
    let within = at.within in
    let more = at-least (e.0 + 1) es i rise.1 (omega (arith, within)) in
    let has = at.has in omega (arith, more, has)

found-at : (least number i : ℕ) (es : List Entry) (d : Entry) → Rise least es → IsAt es number i → found es number ≡ Some (get_or es i d).1
found-at least number i [] d rise at = let within = at.within in absurd (omega (arith, within))
found-at least number zero (e ∷ es) d rise at = first-found e es number (sym at.has)
found-at least number (suc i) (e ∷ es) d rise at =
    let above = above-first least e es number i rise at in
    not-first e es number (λ is. omega (arith, above, is)) ∙ found-at (e.0 + 1) number i es d rise.1 (at-tail e es number i at)

-- whether the outbox at a place has a number
pub is-there : (number i : ℕ) (es : List Entry) (e : Entry) → i < length es → e ≡ get_or es i e → IsTrue (e.0 == number) → IsAt es number i
is-there number i es e within read equal = record {
  within = within;
  has = number-read es i e within ∙ ap (λ p. p.0) (sym read) ∙ (let is : e.0 ≡ number = grind (arith, nat_tests, equal) in is);
}

-- a search by halving ends at the outbox of a number, or where there is none
pub searched : (number : ℕ) (es : List Entry) (r : Result ℕ ℕ) → Rise 0 es → IsSearchInRange r (length es)
    → IsBinarySearchResult (λ e. nat_cmp e.0 number) es r
    → record { place : IfOk r (IsAt es number); none : OnErr r (get (waiting_of es) number ≡ None) }
searched number es (Ok i) rise within equal =
    let d = any-entry es i within in
    record { place = record { within = within; has = number-read es i d within ∙ ranked _ number _ (sym (equal d)) }; none = tt }
searched number es (Err i) rise within parted =
    let order : IsNonDecreasingBy (λ e. ordering_index (nat_cmp e.0 number)) es = λ j k d le l.
    let a = number-read es j d (omega arith) in
    let b = number-read es k d l in
    let c = no-fall 0 es j k rise le l in grind (arith, nat_tests, a, b, c) in
    let less : (j : ℕ) → j < i → number_at es j < number = λ j l.
    let d = any-entry es j (omega arith) in
    subst (λ n. n < number) (sym (number-read es j d (omega arith))) (ranked _ number _ (sym ((parted order).0 j d (omega arith) l))) in
    let greater : (j : ℕ) → i ≤ j → j < length es → number < number_at es j = λ j le l.
    let d = any-entry es j l in
    subst (λ n. number < n) (sym (number-read es j d l)) (ranked _ number _ (sym ((parted order).1 j d le l))) in
    record { place = tt; none = get-found es number ∙ none-of number es (λ j l e. grind (arith, less j, greater j)) }

-- ---- how many

len-from : (least : ℕ) (es : List Entry) → Rise least es → len (waiting_of es) ≡ length es
len-from least [] rise = len-empty nat_cmp (List ReplyMessage)
len-from least (e ∷ es) rise =
    let absent : get (waiting_of es) e.0 ≡ None = get-found es e.0 ∙ none-less (e.0 + 1) e.0 es rise.1 (omega arith) in
    let rest = len-from (e.0 + 1) es rise.1 in
    let before = len (waiting_of es) in
    let all = len-insert nat_cmp_total (waiting_of es) e.0 e.1 ∙ ap (λ o. cond (is_some o) before (before + 1)) absent in
    omega (arith, rest, all)

-- ---- one set at its place

set-rises : (least number i : ℕ) (es : List Entry) (new : List ReplyMessage) → Rise least es → IsAt es number i → Rise least (set es i (number, new))
set-rises least number i [] new rise at = let within = at.within in absurd (omega (arith, within))
set-rises least number zero (e ∷ es) new rise at =
    (subst (λ n. least ≤ n) at.has rise.0, subst (λ n. Rise (n + 1) es) at.has rise.1)
set-rises least number (suc i) (e ∷ es) new rise at =
    (rise.0, set-rises (e.0 + 1) number i es new rise.1 (at-tail e es number i at))

set-finds : (least number i : ℕ) (es : List Entry) (new : List ReplyMessage) → Rise least es → IsAt es number i → (q : ℕ)
    → found (set es i (number, new)) q ≡ cond (q == number) (Some new) (found es q)
set-finds least number i [] new rise at q = let within = at.within in absurd (omega (arith, within))
set-finds least number zero (e ∷ es) new rise at q = grind (arith, nat_tests, at.has)
set-finds least number (suc i) (e ∷ es) new rise at q =
    let above = above-first least e es number i rise at in
    let rest = set-finds (e.0 + 1) number i es new rise.1 (at-tail e es number i at) q in grind (arith, nat_tests, above, rest)

-- ---- one removed

remove-rises : (least number i : ℕ) (es : List Entry) → Rise least es → IsAt es number i → Rise least (remove es i)
remove-rises least number i [] rise at = let within = at.within in absurd (omega (arith, within))
remove-rises least number zero (e ∷ es) rise at = let first = rise.0 in from-less least (e.0 + 1) es rise.1 (omega (arith, first))
remove-rises least number (suc i) (e ∷ es) rise at =
    (rise.0, remove-rises (e.0 + 1) number i es rise.1 (at-tail e es number i at))

remove-finds : (least number i : ℕ) (es : List Entry) → Rise least es → IsAt es number i → (q : ℕ)
    → found (remove es i) q ≡ cond (q == number) None (found es q)
remove-finds least number i [] rise at q = let within = at.within in absurd (omega (arith, within))
remove-finds least number zero (e ∷ es) rise at q =
    let has = at.has in
    elim (cases_eq q number) [
      | inl is ↦ none-less (e.0 + 1) q es rise.1 (omega (arith, has, is))
          ∙ sym (ap (λ b. cond b None (found (e ∷ es) q)) (eq-eqb q number is))
      | inr apart ↦ sym (ap (λ b. cond b None (found (e ∷ es) q)) (unlike q number apart)
          ∙ not-first e es q (λ is. apart (is ∙ has)))
    ]
remove-finds least number (suc i) (e ∷ es) rise at q =
    let above = above-first least e es number i rise at in
    let rest = remove-finds (e.0 + 1) number i es rise.1 (at-tail e es number i at) q in grind (arith, nat_tests, above, rest)

-- ---- one more at the end

-- the first is below a number from which on there is none
first-below : (number : ℕ) (e : Entry) (es : List Entry) → ((q : ℕ) → number ≤ q → found (e ∷ es) q ≡ None) → e.0 < number
first-below number e es none =
    let not : number ≤ e.0 → ⊥ = λ le. none-some e.1 (sym (none e.0 le) ∙ first-found e es e.0 refl) in grind (arith, not)

push-rises : (least number : ℕ) (es : List Entry) (new : List ReplyMessage) → least ≤ number → Rise least es
    → ((q : ℕ) → number ≤ q → found es q ≡ None) → Rise least (es ++ (number, new) ∷ [])
push-rises least number [] new low rise none = (low, tt)
push-rises least number (e ∷ es) new low rise none =
    let below = first-below number e es none in (
      rise.0,
      push-rises (e.0 + 1) number es new (omega (arith, below)) rise.1
          (λ q le. sym (not-first e es q (λ is. omega (arith, below, le, is))) ∙ none q le),
    )

-- ---- the list as it is stored, and what it shows

pub count : (es : List Entry) (m : FinMap nat_cmp (List ReplyMessage)) → Rise 0 es → waiting_of es ≡ m → length es ≡ len m
count es m rise is = sym (len-from 0 es rise) ∙ ap (λ w. len w) is

module _ (es : List Entry) (m : FinMap nat_cmp (List ReplyMessage)) (number : ℕ) (rise : Rise 0 es) (is : waiting_of es ≡ m) where
  module _ (seen : List Entry) (alike : seen ≡ es) (i : ℕ) (has : IsAt seen number i) where
    at : IsAt es number i
    at = subst (λ l. IsAt l number i) alike has

    pub fewer-rise : (after : List Entry) → after ≡ remove es i → Rise 0 after
    fewer-rise after e = subst (λ l. Rise 0 l) (sym e) (remove-rises 0 number i es rise at)

    pub fewer-wait : (after : List Entry) → after ≡ remove es i → waiting_of after ≡ maps.remove m number
    fewer-wait after e = ap (λ l. waiting_of l) e ∙ same (remove es i) (maps.remove m number) (λ q.
        remove-finds 0 number i es rise at q ∙ ap (cond (q == number) None) (sym (get-found es q) ∙ ap (λ w. get w q) is)
        ∙ sym (get-remove_at m number q))

    module _ (old : Entry) (read : old ≡ get_or es i old) where
      is-number : old.0 ≡ number
      is-number = ap (λ e. e.0) read ∙ sym (number-read es i old at.within) ∙ at.has

      waited : get m number ≡ Some old.1
      waited = sym (ap (λ w. get w number) is) ∙ get-found es number ∙ found-at 0 number i es old rise at ∙ ap (λ e. Some e.1) (sym read)

      pub first-there : first_of old.1 ≡ first_in (get m number)
      first-there = ap first_in (sym waited)

      pub set-rise : (new : List ReplyMessage) → Rise 0 (set es i (old.0, new))
      set-rise new = subst (λ n. Rise 0 (set es i (n, new))) (sym is-number) (set-rises 0 number i es new rise at)

      pub set-waits : (g : List ReplyMessage → List ReplyMessage) (new : List ReplyMessage) → new ≡ g old.1
          → waiting_of (set es i (old.0, new)) ≡ changed_at g number m
      set-waits g new e = ap (λ n. waiting_of (set es i (n, new))) is-number
          ∙ same (set es i (number, new)) (insert m number new) (λ q.
          set-finds 0 number i es new rise at q ∙ ap (cond (q == number) (Some new)) (sym (get-found es q) ∙ ap (λ w. get w q) is)
          ∙ sym (get-insert_at m number new q))
          ∙ ap (insert m number) e ∙ sym (ap (λ o. changed_value g o number m) waited)

  pub none-removed : (seen : List Entry) → seen ≡ es → get (waiting_of seen) number ≡ None → waiting_of es ≡ maps.remove m number
  none-removed seen alike none =
      is ∙ sym (remove-absent m number (ap (λ w. get w number) (sym is) ∙ ap (λ l. get (waiting_of l) number) (sym alike) ∙ none))

  module _ (above : (q : ℕ) → number ≤ q → get m q ≡ None) where
    none-above : (q : ℕ) → number ≤ q → found es q ≡ None
    none-above q le = sym (get-found es q) ∙ ap (λ w. get w q) is ∙ above q le

    module _ (box : List ReplyMessage) (blank : box ≡ []) (after : List Entry) (e : after ≡ es ++ (number, box) ∷ []) where
      pub more-rise : Rise 0 after
      more-rise = subst (λ l. Rise 0 l) (sym e) (push-rises 0 number es box (omega arith) rise none-above)

      pub more-wait : waiting_of after ≡ insert m number []
      more-wait = ap (λ l. waiting_of l) e
          ∙ from_entries_push nat_cmp_total nat_cmp-IsAntisymmetric es number box (find-found number es ∙ none-above number (omega arith))
          ∙ ap (λ w. insert w number box) is ∙ ap (insert m number) blank
