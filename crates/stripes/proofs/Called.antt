-- What the calls on the spans say of the blocks of all spans.
use Rattle.std.proofs.Common.{◌≡◌, ℕ, zero, suc, ◌+◌, ◌-◌, ◌/◌, ◌%◌, ◌<◌, ◌≤◌, ◌&&◌, Bool, true, false, IsTrue, List, length, replicate, refl, sym, ap, ◌∙◌}
use Rattle.std.proofs.Common.{arith, Some, None, is_some, Result, Ok, Err, OnOk, OnErr}
use Rattle.std.proofs.lemmas.List.{get_or-replicate, length-replicate}
use Rattle.std.proofs.lemmas.List.FromFn.{fill_by_all}
use Rattle.std.specs.List.{range_with_len, list_all}
use Rattle.std.specs.FinMap.{get}
use Rattle.nfs_model.specs.Server.{block_size}
use Rattle.nfs_model.specs.Home.{span_bytes}
use Rattle.nfs_model.specs.Serial.Write.{blocks_met}
use Rattle.nfs_model.specs.volume.Stripes.{Block, span_blocks, byte_of}
use Rattle.stripes.specs.Spans.{Places, Spans, place_in, span_at, span_read, span_byte, span_is_filled, last_met, blocks_of, blocks_read, IsSpans, IsLong}
use Rattle.stripes.specs.Spans.{SameSpans, ChangesSpan, Where, Stays, WritesSpan, CutsSpan, Puts, HasNoneFrom, cut_blocks, IsFirstPast}
use Rattle.stripes.proofs.Ranges.{same-maps, blocks-met}
use Rattle.stripes.proofs.Law.{get-blocks_of, same-blocks_of}
use Rattle.stripes.proofs.Takes.{same-blocks, stays-same, block-in-span}
use Rattle.stripes.proofs.Words.{written-spans}
use Rattle.stripes.proofs.Inserted.{put-spans}
use Rattle.stripes.proofs.Cut.{tail-spans, tail-cut}

pub long-blocks : (spans : Spans) → IsSpans spans → IsLong (blocks_of spans)
long-blocks spans is p b e = is.long p b (sym (get-blocks_of spans p) ∙ e)

pub same-is : (old new : Spans) → SameSpans old new → IsSpans old → IsSpans new
same-is old new same is = record {
  long = λ p b e. is.long p b (sym (same-blocks old new same p) ∙ e);
  filled = λ k places e. is.filled k places (sym (same k) ∙ e);
}

pub same-of : (old new : Spans) → SameSpans old new → blocks_of new ≡ blocks_of old
same-of old new same = same-blocks_of old new (same-blocks old new same)

-- ---- bytes read

pub reads-some : (spans : Spans) (f offset n : ℕ) (a : Places) → offset % span_bytes + n ≤ span_bytes → span_at spans (f, offset / span_bytes) ≡ Some a
    → span_read a offset n ≡ blocks_read (blocks_of spans) f offset n
reads-some spans f offset n a span e =
    same-maps (span_byte a) (λ at. byte_of (get (blocks_of spans) (f, at / block_size)) (at % block_size)) offset offset n (λ i below.
    ap (λ o. byte_of o ((offset + i) % block_size)) (sym (get-blocks_of spans (f, (offset + i) / block_size)
    ∙ block-in-span spans f (offset / span_bytes) ((offset + i) / block_size) (Some a) (omega arith) e)))

pub reads-none : (spans : Spans) (f offset n : ℕ) → offset % span_bytes + n ≤ span_bytes → span_at spans (f, offset / span_bytes) ≡ None
    → replicate n 0 ≡ blocks_read (blocks_of spans) f offset n
reads-none spans f offset n span e =
    fill_by_all (λ _. 0) (replicate n 0) n 0 (length-replicate n 0) (λ k below. get_or-replicate n k 0 0 below)
    ∙ same-maps (λ _. 0) (λ at. byte_of (get (blocks_of spans) (f, at / block_size)) (at % block_size)) 0 offset n (λ i below.
    ap (λ o. byte_of o ((offset + i) % block_size)) (sym (get-blocks_of spans (f, (offset + i) / block_size)
    ∙ block-in-span spans f (offset / span_bytes) ((offset + i) / block_size) None (omega arith) e)))

-- ---- bytes written

all-same : (p q : ℕ → Bool) (a n : ℕ) → ((b : ℕ) → a ≤ b → b < a + n → p b ≡ q b) → list_all p (range_with_len a n) ≡ list_all q (range_with_len a n)
all-same p q a zero same = refl
all-same p q a (suc n) same = λ i. same a (omega arith) (omega arith) i && all-same p q (a + 1) n (λ b from below. same b (omega arith) (omega arith)) i

pub filled-answer : (spans : Spans) (f offset n : ℕ) → 0 < n → offset % span_bytes + n ≤ span_bytes
    → span_is_filled offset n (span_at spans (f, offset / span_bytes)) ≡ list_all (λ b. is_some (get (blocks_of spans) (f, b))) (blocks_met offset n)
filled-answer spans f offset n some span =
    ap (list_all (λ b. is_some (place_in (span_at spans (f, offset / span_bytes)) b))) (blocks-met offset n some)
    ∙ all-same _ _ (offset / block_size) (last_met offset n + 1 - offset / block_size) (λ b from below.
    ap is_some (sym (get-blocks_of spans (f, b) ∙ block-in-span spans f (offset / span_bytes) b (span_at spans (f, offset / span_bytes)) (omega arith) refl)))
    ∙ sym (ap (list_all (λ b. is_some (get (blocks_of spans) (f, b)))) (blocks-met offset n some))

-- what is left, whether or not it was written
pub write-spans : (r : Bool) (f offset : ℕ) (written : List ℕ) (old new : Spans) → 0 < length written → offset % span_bytes + length written ≤ span_bytes
    → IsSpans old
    → (IsTrue r → ChangesSpan (Where (WritesSpan offset written)) (f, offset / span_bytes) old new)
    → (r ≡ false → ChangesSpan (Where Stays) (f, offset / span_bytes) old new) → IsSpans new
write-spans true f offset written old new some span is yes_ no_ = written-spans f offset written old new some span is (yes_ refl)
write-spans false f offset written old new some span is yes_ no_ = same-is old new (stays-same _ old new (no_ refl)) is

-- ---- a block filled

pub put-is : {E : Type 0} (r : Result (Unit {0}) E) (f number : ℕ) (block : Block) (old new : Spans) → length block.bytes ≡ block_size → IsSpans old
    → OnOk r (ChangesSpan (Puts number block) (f, number / span_blocks) old new) → OnErr r (SameSpans old new) → IsSpans new
put-is (Ok x) f number block old new long is ok err = put-spans f number block old new long is ok
put-is (Err e) f number block old new long is ok err = same-is old new err is

pub on_ok : {T E P Q : Type 0} → (P → Q) → (r : Result T E) → OnOk r P → OnOk r Q
on_ok f (Ok x) p = f p
on_ok f (Err e) p = p

pub on_err : {T E P Q : Type 0} → (P → Q) → (r : Result T E) → OnErr r P → OnErr r Q
on_err f (Ok x) p = p
on_err f (Err e) p = f p

-- ---- a cut's last step

none-still : (f first : ℕ) (old mid : Spans) → SameSpans old mid → HasNoneFrom f first old → HasNoneFrom f first mid
none-still f first old mid same none b from = same-blocks old mid same (f, b) ∙ none b from

pub last-spans : (f size first : ℕ) (old mid new : Spans) → IsSpans old → IsFirstPast size first → SameSpans old mid → HasNoneFrom f first old
    → ChangesSpan (Where (CutsSpan size)) (f, size / span_bytes) mid new → IsSpans new
last-spans f size first old mid new is past same none changes =
    tail-spans f size first mid new (same-is old mid same is) past (none-still f first old mid same none) changes

pub last-cut : (f size first : ℕ) (old mid new : Spans) → IsSpans old → IsFirstPast size first → SameSpans old mid → HasNoneFrom f first old
    → ChangesSpan (Where (CutsSpan size)) (f, size / span_bytes) mid new → blocks_of new ≡ cut_blocks f size (blocks_of old)
last-cut f size first old mid new is past same none changes =
    tail-cut f size first mid new (same-is old mid same is) past (none-still f first old mid same none) changes
    ∙ ap (cut_blocks f size) (same-of old mid same)
