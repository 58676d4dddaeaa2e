-- Spans that a cut takes with all their blocks.
use Rattle.std.proofs.Common.{◌≡◌, ℕ, ◌%◌, ◌<◌, ◌&&◌, Bool, true, List, length, replicate, sym, ap, ◌∙◌, arith, subst, Option, Some, None, nat_le, nat_lt}
use Rattle.std.specs.Prelude.{if◌then◌else◌}
use Rattle.std.proofs.lemmas.Bool.Decides.{nat_tests}
use Rattle.std.proofs.lemmas.Option.{same_Some}
use Rattle.nfs_model.specs.volume.Stripes.{FileBlock, span_blocks}
use Rattle.stripes.specs.Spans.{Places, Spans, place_of, span_at, AllFilled, ChangesSpan, Drops, TakesFrom, TakesRest, numbers_from}
use Rattle.stripes.proofs.Places.{none_here, nothing-there}
use Rattle.stripes.proofs.Rests.{numbers-some}

-- what is left of an array
abbrev left : Places
left = replicate 64 none_here

all-places : (b : ℕ) → (nat_le 0 (b % span_blocks) && nat_lt (b % span_blocks) span_blocks) ≡ true
all-places b = let below : b % span_blocks < span_blocks = omega arith in grind (arith, nat_tests, below)

-- all blocks are taken out of an array that has one
rest-of : (numbers : List ℕ) (old : Places) → numbers ≡ numbers_from 0 old → 0 < length (numbers_from 0 old) → TakesRest 0 numbers true old left
rest-of numbers old told some = record {
  some = let long = ap length told in omega (arith, long, some);
  told = told;
  taken = λ b. nothing-there 64 (b % span_blocks) ∙ sym (ap (λ (t : Bool). if t then None else place_of old b) (all-places b));
  empty = λ e i from below. nothing-there 64 (i % span_blocks);
  filled = λ e. absurd (cc);
}

-- a span goes with all its blocks
pub whole-taken : (k : FileBlock) (numbers : List ℕ) (places : Places) (old new : Spans) → AllFilled old → Some places ≡ span_at old k
    → numbers ≡ numbers_from 0 places → ChangesSpan Drops k old new → ChangesSpan (TakesFrom 0 numbers) k old new
whole-taken k numbers places old new filled there told drops =
    let block = filled k places (sym there) in
    let some = numbers-some (place_of places) 0 span_blocks block.0 (omega arith) (omega (arith, block.1)) block.2 in
    record {
      here = by (span_at old k) (span_at new k) there drops.here (rest-of numbers places told some);
      others = drops.others;
    }
  where
    by : (o n : Option Places) → Some places ≡ o → n ≡ None → TakesRest 0 numbers true places left → TakesFrom 0 numbers o n
    by None n e gone rest = absurd (cc)
    by (Some p) None e gone rest = (left, subst (λ (q : Places). TakesRest 0 numbers true q left) (same_Some _ _ e) rest)
    by (Some p) (Some q) e gone rest = absurd (cc)
