-- What is told of a place, and what is kept there.
use Rattle.std.proofs.Common.{◌≡◌, ℕ, zero, suc, ◌<◌, ◌&&◌, Bool, true, false, cond, if◌then◌else◌, List, ◌∷◌, length, replicate}
use Rattle.std.proofs.Common.{slice_index_or, slice_set, Option, Some, None, option_map, is_some, refl, sym, ap, ◌∙◌}
use Rattle.std.proofs.lemmas.List.{get_or-map, length-map, map-set}
use Rattle.nfs_model.specs.Types.{Moment, Caller, Call, Answer}
use Rattle.nfs_model.specs.Memo.{Change, Told, Memo}
use Rattle.nfs_model.specs.Serial.Same.{same_caller, same_change}
use Rattle.nfs_model.specs.Serial.Once.{change_of, is_recent, memos_after, memos_with, place, told_among, told_before, told_in, told_of}
use Rattle.nfs_values.specs.Caller.{caller_of}
use Rattle.nfs_values.specs.Moment.{moment_of}
use Rattle.memos.specs.declared.place.Place.{Place}
use Rattle.memos.specs.Kept.{asks, change_kept, memo_kept, memo_with, memos_kept, told_kept, Keeps}

-- ---- what is told

-- what a place tells of a call, if it is of that call
abbrev told_if : Bool → Place → Option Told
told_if b p = cond b (Some (told_kept p.results)) None

both : (p : Place) (a b c : Bool) → (if◌then◌else◌ ((a && c) && b) (Some (told_kept p.results)) None) ≡ told_if ((a && b) && c) p
both p true true true = refl
both p true true false = refl
both p true false true = refl
both p true false false = refl
both p false true true = refl
both p false true false = refl
both p false false true = refl
both p false false false = refl

neither : (p : Place) (b : Bool) → None ≡ told_if (b && false) p
neither p true = refl
neither p false = refl

-- of the change that a place keeps, if any, and that a call is, if any
told-of : (p : Place) (caller : Caller) (kept change : Option Change) (moment : Moment) (memos : List (Option Memo))
    → slice_index_or memos (place (length memos) caller) None ≡ option_map (memo_with p) kept
    → told_among memos caller change moment
    ≡ told_if ((same_caller (caller_of p.caller) caller && is_recent (moment_of p.moment) moment) && asks kept change) p
told-of p caller None None moment memos there = neither p (same_caller (caller_of p.caller) caller && is_recent (moment_of p.moment) moment)
told-of p caller (Some kept) None moment memos there = neither p (same_caller (caller_of p.caller) caller && is_recent (moment_of p.moment) moment)
told-of p caller None (Some change) moment memos there =
    ap (told_in caller change moment) there ∙ neither p (same_caller (caller_of p.caller) caller && is_recent (moment_of p.moment) moment)
told-of p caller (Some kept) (Some change) moment memos there =
    ap (told_in caller change moment) there
    ∙ both p (same_caller (caller_of p.caller) caller) (is_recent (moment_of p.moment) moment) (same_change kept change)

-- what is in a place
in-place : (places : List Place) (at : ℕ) (caller : Caller) (d : Place) → at < length places → at ≡ place (length places) caller
    → slice_index_or (memos_kept places) (place (length (memos_kept places)) caller) None ≡ memo_kept (slice_index_or places at d)
in-place places at caller d within is =
    ap (λ (n : ℕ). slice_index_or (memos_kept places) (place n caller) None) (length-map places memo_kept)
    ∙ ap (λ (n : ℕ). slice_index_or (memos_kept places) n None) (sym is)
    ∙ get_or-map memo_kept places at d None within

-- what was told before, by what was found in the place
told-there : (places : List Place) (caller : Caller) (call : Call) (moment : Moment) (at : ℕ) (d : Place) (b : Bool)
    → at < length places → at ≡ place (length places) caller
    → b ≡ ((same_caller (caller_of (slice_index_or places at d).caller) caller && is_recent (moment_of (slice_index_or places at d).moment) moment)
    && asks (change_kept (slice_index_or places at d).change) (change_of call))
    → told_before (memos_kept places) caller call moment ≡ told_if b (slice_index_or places at d)
told-there places caller call moment at d b within is found =
    let p : Place = slice_index_or places at d in
    told-of p caller (change_kept p.change) (change_of call) moment (memos_kept places) (in-place places at caller d within is)
    ∙ ap (λ (t : Bool). told_if t p) (sym found)

-- where the place isn't of the call
pub none-told : (places : List Place) (caller : Caller) (call : Call) (moment : Moment) (at : ℕ) (d : Place) (b : Bool)
    → at < length places → at ≡ place (length places) caller
    → b ≡ ((same_caller (caller_of (slice_index_or places at d).caller) caller && is_recent (moment_of (slice_index_or places at d).moment) moment)
    && asks (change_kept (slice_index_or places at d).change) (change_of call))
    → b ≡ false → None ≡ told_before (memos_kept places) caller call moment
none-told places caller call moment at d b within is found not =
    sym (told-there places caller call moment at d b within is found ∙ ap (λ (t : Bool). told_if t (slice_index_or places at d)) not)

-- where it is
pub some-told : (told : Told) (places : List Place) (caller : Caller) (call : Call) (moment : Moment) (at : ℕ) (d : Place) (b : Bool)
    → at < length places → at ≡ place (length places) caller
    → b ≡ ((same_caller (caller_of (slice_index_or places at d).caller) caller && is_recent (moment_of (slice_index_or places at d).moment) moment)
    && asks (change_kept (slice_index_or places at d).change) (change_of call))
    → b ≡ true → told ≡ told_kept (slice_index_or places at d).results → Some told ≡ told_before (memos_kept places) caller call moment
some-told told places caller call moment at d b within is found so same =
    ap Some same ∙ sym (told-there places caller call moment at d b within is found ∙ ap (λ (t : Bool). told_if t (slice_index_or places at d)) so)

-- ---- what is kept

kept-if : (places : List Place) (new : Place) (at : ℕ) (change : Option Change) (told : Option Told) → at ≡ place (length places) (caller_of new.caller)
    → Some (told_kept new.results) ≡ told → is_some change ≡ true → change_kept new.change ≡ change
    → memos_kept (slice_set places at new) ≡ memos_with (memos_kept places) (caller_of new.caller) change (moment_of new.moment) told
kept-if places new at None told is same there kept = absurd cc
kept-if places new at (Some change) told is same there kept =
    map-set memo_kept places at new
    ∙ ap (λ (n : ℕ). slice_set (memos_kept places) n (memo_kept new)) is
    ∙ ap (λ (n : ℕ). slice_set (memos_kept places) (place n (caller_of new.caller)) (memo_kept new)) (sym (length-map places memo_kept))
    ∙ ap (λ (k : Option Change). slice_set (memos_kept places) (place (length (memos_kept places)) (caller_of new.caller)) (option_map (memo_with new) k)) kept
    ∙ ap (memos_with (memos_kept places) (caller_of new.caller) (Some change) (moment_of new.moment)) same

-- a place that keeps a call with its results
pub kept-there : (places : List Place) (new : Place) (at : ℕ) (call : Call) (answer : Answer) → at ≡ place (length places) (caller_of new.caller)
    → Some (told_kept new.results) ≡ told_of answer → is_some (change_of call) ≡ true → change_kept new.change ≡ change_of call
    → memos_kept (slice_set places at new) ≡ memos_after (memos_kept places) (caller_of new.caller) call (moment_of new.moment) answer
kept-there places new at call answer is same there kept = kept-if places new at (change_of call) (told_of answer) is same there kept

-- results that are to be kept, once they are
pub told-kept : (told : Option Told) (kept : Told) → Keeps told kept → is_some told ≡ true → Some kept ≡ told
told-kept None kept keeps is = absurd cc
told-kept (Some told) kept keeps is = ap Some keeps

-- ---- as they begin

pub none-kept : (n : ℕ) (p : Place) → memo_kept p ≡ None → memos_kept (replicate n p) ≡ replicate n None
none-kept zero p none = refl
none-kept (suc n) p none =
    ap (λ (m : Option Memo). m ∷ memos_kept (replicate n p)) none ∙ ap (λ (l : List (Option Memo)). None ∷ l) (none-kept n p none)
