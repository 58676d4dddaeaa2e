-- Lists without doubles as sets.
use Rattle.std.proofs.Common.{◌≡◌, refl, sym, ap, subst, ◌∙◌, ℕ, ◌+◌, ◌<◌, ◌≤◌, Bool, true, false, not, ◌||◌, ◌&&◌, nat_eq, cond, if◌then◌else◌}
use Rattle.std.proofs.Common.{List, [], ◌∷◌, ◌++◌, length, Option, Some, None, Result, Ok, Err, is_ok, ⊎_elim, arith}
use Rattle.std.proofs.lemmas.List.{append-nil}
use Rattle.std.specs.Result.{OnOk}
use Rattle.std.specs.declared.alloc.AllocError.{AllocError}
use Rattle.std.specs.List.{AllByRecursion}
use Rattle.std.specs.Option.{IsSome, IsNone, IfSome, option_to_list}
use Rattle.std.specs.Ordering.{nat_cmp}
use Rattle.std.specs.Cmp.{nat_cmp_total}
use Rattle.std.specs.FinSet as sets
use Rattle.std.specs.FinSet.{contains, len, from_list, len-empty, len-insert, contains-empty, contains-union, contains-difference}
use Rattle.std.specs.FinSet.{contains-from_list_nat, same_set}
use Rattle.std.specs.FinSet.{nat_cmp-IsAntisymmetric}
use Rattle.std.proofs.lemmas.Bool.Decides.{nat_tests}
use Rattle.std.proofs.lemmas.List.{map-append}
use Rattle.std.proofs.lemmas.List.Folds.{list_any-append}
use Rattle.nfs_values.specs.declared.number.BlockNumber.{BlockNumber}
use Rattle.nfs_model.specs.Parts.{IsAscending}
use Rattle.nfs_model.specs.volume.Ranges.{with_numbers, without_numbers}
use Rattle.vbn_ranges.specs.Batch.{numbers, AreCarried}
use Rattle.vbn_ranges.specs.Stock.{AreApart}
use Rattle.vbn_ranges.specs.Words.{members, set_of}
use Rattle.vbn_ranges.proofs.Rising.{is_in, in-head, in-tail, ascending}
use Rattle.vbn_ranges.proofs.Bits.{members-rising}
use Rattle.vbn_ranges.proofs.Single.{same}
use Rattle.vbn_ranges.proofs.Ranged.{not-both}

neither-left : (s t : Bool) → (s || t) ≡ false → s ≡ false
neither-left true t e = e
neither-left false t e = refl

neither-right : (s t : Bool) → (s || t) ≡ false → t ≡ false
neither-right true t e = absurd (not-both true refl e)
neither-right false t e = e

turned : (a b : ℕ) → nat_eq a b ≡ false → nat_eq b a ≡ false
turned a b e = grind (arith, nat_tests)

-- ---- without doubles

above : (b : ℕ) (bs : List ℕ) (q : ℕ) → IsAscending (b ∷ bs) → q ≤ b → is_in bs q ≡ false
above b [] q h l = refl
above b (c ∷ cs) q h l = let a = h.0 in in-tail c cs q (λ e. omega arith) ∙ above c cs q h.1 (omega arith)

pub ascending-apart : (bs : List ℕ) → IsAscending bs → AreApart bs
ascending-apart [] h = tt
ascending-apart (b ∷ []) h = (refl, tt)
ascending-apart (b ∷ (c ∷ cs)) h = (above b (c ∷ cs) b h (omega arith), ascending-apart (c ∷ cs) h.1)

not-head : (b : ℕ) (bs cs : List ℕ) → AllByRecursion (λ c. is_in (b ∷ bs) c ≡ false) cs → is_in cs b ≡ false
not-head b bs [] h = refl
not-head b bs (c ∷ cs) h = λ i. turned b c (neither-left (nat_eq b c) (is_in bs c) h.0) i || not-head b bs cs h.1 i

not-tail : (b : ℕ) (bs cs : List ℕ) → AllByRecursion (λ c. is_in (b ∷ bs) c ≡ false) cs → AllByRecursion (λ c. is_in bs c ≡ false) cs
not-tail b bs [] h = tt
not-tail b bs (c ∷ cs) h = (neither-right (nat_eq b c) (is_in bs c) h.0, not-tail b bs cs h.1)

apart-append : (bs cs : List ℕ) → AreApart bs → AreApart cs → AllByRecursion (λ c. is_in bs c ≡ false) cs → AreApart (bs ++ cs)
apart-append [] cs h k n = k
apart-append (b ∷ bs) cs h k n =
    (list_any-append (λ x. nat_eq x b) bs cs ∙ (λ i. h.0 i || not-head b bs cs n i), apart-append bs cs h.1 k (not-tail b bs cs n))

apart-front : (bs cs : List ℕ) → AreApart (bs ++ cs) → AreApart bs
apart-front [] cs h = tt
apart-front (b ∷ bs) cs h =
    (neither-left (is_in bs b) (is_in cs b) (sym (list_any-append (λ x. nat_eq x b) bs cs) ∙ h.0), apart-front bs cs h.1)

apart-last : (bs : List ℕ) (c : ℕ) → AreApart (bs ++ c ∷ []) → is_in bs c ≡ false
apart-last [] c h = refl
apart-last (b ∷ bs) c h =
    let last = neither-right (is_in bs b) (is_in (c ∷ []) b) (sym (list_any-append (λ x. nat_eq x b) bs (c ∷ [])) ∙ h.0) in
    λ i. turned c b (neither-left (nat_eq c b) false last) i || apart-last bs c h.1 i

pub len-apart : (bs : List ℕ) → AreApart bs → length bs ≡ len (from_list {R = nat_cmp} bs)
len-apart [] h = sym (len-empty nat_cmp)
len-apart (b ∷ bs) h =
    let rest = len-apart bs h.1 in
    let more : len (from_list {R = nat_cmp} bs) + 1 ≡ len (from_list {R = nat_cmp} (b ∷ bs)) =
    sym (len-insert nat_cmp_total (from_list bs) b
    ∙ ap (λ t. cond t (len (from_list {R = nat_cmp} bs)) (len (from_list {R = nat_cmp} bs) + 1)) (contains-from_list_nat bs b ∙ h.0)) in
    omega arith

pub len-members : (first : ℕ) (words : List ℕ) → length (members first words) ≡ len (set_of first words)
len-members first words =
    len-apart (members first words) (ascending-apart (members first words) (ascending first _ (members first words) (members-rising first _ words refl)))

-- ---- more of them

set-append : (bs cs : List ℕ) → from_list {R = nat_cmp} (bs ++ cs) ≡ with_numbers cs (from_list bs)
set-append bs cs =
    same_set nat_cmp_total nat_cmp-IsAntisymmetric _ _
    (λ q. contains-from_list_nat (bs ++ cs) q
    ∙ list_any-append (λ b. nat_eq b q) bs cs
    ∙ sym (contains-union nat_cmp_total (from_list bs) (from_list cs) q
    ∙ (λ i. contains-from_list_nat bs q i || contains-from_list_nat cs q i)))

none-there : (bs cs : List ℕ) → AllByRecursion (λ c. contains (from_list {R = nat_cmp} bs) c ≡ false) cs → AllByRecursion (λ c. is_in bs c ≡ false) cs
none-there bs [] h = tt
none-there bs (c ∷ cs) h = (sym (contains-from_list_nat bs c) ∙ h.0, none-there bs cs h.1)

pub put-apart : (r : Bool) (old other new : List BlockNumber) (batch : List ℕ) → new ≡ (if r then old ++ other else old) → AreApart (numbers old)
    → numbers other ≡ batch → AreCarried batch → AllByRecursion (λ c. contains (from_list {R = nat_cmp} (numbers old)) c ≡ false) batch
    → AreApart (numbers new)
put-apart false old other new batch e h is one n = subst (λ (bs : List BlockNumber). AreApart (numbers bs)) (sym e) h
put-apart true old other new batch e h is one n =
    subst (λ (bs : List BlockNumber). AreApart (numbers bs)) (sym e)
    (subst AreApart (sym (map-append (λ (b : BlockNumber). b.0) old other ∙ ap (λ bs. numbers old ++ bs) is))
    (apart-append (numbers old) batch h (ascending-apart batch one.ascending) (none-there (numbers old) batch n)))

pub put-there : (r : Result (Unit {0}) AllocError) (old other new : List BlockNumber) (batch : List ℕ) → new ≡ (if is_ok r then old ++ other else old)
    → numbers other ≡ batch → OnOk r (from_list {R = nat_cmp} (numbers new) ≡ with_numbers batch (from_list (numbers old)))
put-there (Err e) old other new batch is n = tt
put-there (Ok u) old other new batch is n =
    ap (λ (bs : List BlockNumber). from_list {R = nat_cmp} (numbers bs)) is
    ∙ ap from_list (map-append (λ (b : BlockNumber). b.0) old other ∙ ap (λ bs. numbers old ++ bs) n)
    ∙ set-append (numbers old) batch

-- ---- one less

or-true : (a : Bool) → (a || true) ≡ true
or-true true = refl
or-true false = refl

last-there : (bs : List ℕ) (c : ℕ) → contains (from_list {R = nat_cmp} (bs ++ c ∷ [])) c ≡ true
last-there bs c =
    contains-from_list_nat (bs ++ c ∷ []) c
    ∙ list_any-append (λ b. nat_eq b c) bs (c ∷ [])
    ∙ ap (λ t. is_in bs c || t) (in-head c [] c refl) ∙ or-true (is_in bs c)

kept-in : (t : Bool) → t ≡ ((t || false) && true)
kept-in true = refl
kept-in false = refl

dropped-in : (s : Bool) → s ≡ false → s ≡ ((s || true) && false)
dropped-in true e = e
dropped-in false e = refl

less-in : (bs : List ℕ) (c q : ℕ) → is_in bs c ≡ false → is_in bs q ≡ ((is_in bs q || is_in (c ∷ []) q) && not (is_in (c ∷ []) q))
less-in bs c q e =
    ⊎_elim
    (λ is. dropped-in (is_in bs q) (ap (is_in bs) (sym is) ∙ e) ∙ sym (λ i. (is_in bs q || in-head c [] q is i) && not (in-head c [] q is i)))
    (λ is. kept-in (is_in bs q) ∙ sym (λ i. (is_in bs q || in-tail c [] q is i) && not (in-tail c [] q is i))) (same c q)

set-less : (bs : List ℕ) (c : ℕ) → AreApart (bs ++ c ∷ []) → from_list {R = nat_cmp} bs ≡ without_numbers (c ∷ []) (from_list (bs ++ c ∷ []))
set-less bs c h =
    same_set nat_cmp_total nat_cmp-IsAntisymmetric _ _
    (λ q. contains-from_list_nat bs q
    ∙ less-in bs c q (apart-last bs c h)
    ∙ ap (λ t. t && not (is_in (c ∷ []) q)) (sym (list_any-append (λ b. nat_eq b q) bs (c ∷ [])))
    ∙ sym (contains-difference nat_cmp_total (from_list (bs ++ c ∷ [])) (from_list (c ∷ [])) q
    ∙ (λ i. contains-from_list_nat (bs ++ c ∷ []) q i && not (contains-from_list_nat (c ∷ []) q i))))

numbers-push : (old new : List BlockNumber) (b : BlockNumber) → old ≡ new ++ b ∷ [] → numbers old ≡ numbers new ++ b.0 ∷ []
numbers-push old new b e = ap numbers e ∙ map-append (λ (b : BlockNumber). b.0) new (b ∷ [])

pub pop-apart : (old new : List BlockNumber) (r : Option BlockNumber) → old ≡ new ++ option_to_list r → AreApart (numbers old) → AreApart (numbers new)
pop-apart old new None e h = subst (λ (bs : List BlockNumber). AreApart (numbers bs)) (e ∙ append-nil new) h
pop-apart old new (Some b) e h = apart-front (numbers new) (b.0 ∷ []) (subst AreApart (numbers-push old new b e) h)

pub pop-there : (old new : List BlockNumber) (r : Option BlockNumber) → old ≡ new ++ option_to_list r
    → IfSome r (λ b. contains (from_list {R = nat_cmp} (numbers old)) b.0 ≡ true)
pop-there old new None e = tt
pop-there old new (Some b) e = ap (λ bs. contains (from_list {R = nat_cmp} bs) b.0) (numbers-push old new b e) ∙ last-there (numbers new) b.0

pub pop-left : (old new : List BlockNumber) (r : Option BlockNumber) → old ≡ new ++ option_to_list r → AreApart (numbers old)
    → IfSome r (λ b. from_list {R = nat_cmp} (numbers new) ≡ without_numbers (b.0 ∷ []) (from_list (numbers old)))
pop-left old new None e h = tt
pop-left old new (Some b) e h =
    let is = numbers-push old new b e in
    set-less (numbers new) b.0 (subst AreApart is h) ∙ ap (λ bs. without_numbers (b.0 ∷ []) (from_list bs)) (sym is)

pub pop-empty : (old new : List BlockNumber) (r : Option BlockNumber) → old ≡ new ++ option_to_list r → (0 < length old → IsSome r)
    → (IsNone r → from_list {R = nat_cmp} (numbers old) ≡ sets.empty) × (from_list {R = nat_cmp} (numbers old) ≡ sets.empty → IsNone r)
pop-empty [] new None e v = (λ n. refl, λ n. refl)
pop-empty (b ∷ old) new None e v = absurd (let some = v (omega arith) in cc)
pop-empty old new (Some b) e v =
    (λ n. absurd cc, λ n. absurd (not-both _ (pop-there old new (Some b) e) (ap (λ s. contains s b.0) n ∙ contains-empty nat_cmp b.0)))
