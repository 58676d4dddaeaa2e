-- Bytes over the spans in which they lie.
use Rattle.std.proofs.Common.{◌≡◌, ℕ, zero, suc, ◌+◌, ◌-◌, ◌/◌, ◌%◌, ◌<◌, ◌≤◌, true, false, List, [], ◌∷◌, ◌++◌, map, length, Option, Some, None}
use Rattle.std.proofs.Common.{vec_len, vec_capacity, Vec, length-append, refl, sym, ap, ◌∙◌, arith, inl, inr, ⊎_elim, append_assoc}
use Rattle.std.proofs.lemmas.Bool.{cases_eq}
use Rattle.std.proofs.Math.Nat.{add-mod}
use Rattle.std.proofs.lemmas.List.FromFn.{length-map-range_with_len}
use Rattle.std.specs.Prelude.{slice_get, slice_index_or, is_some}
use Rattle.std.specs.List.{range_with_len}
use Rattle.std.specs.FinMap.{get-empty}
use Rattle.nfs_model.specs.Server.{block_size}
use Rattle.nfs_model.specs.Home.{span_bytes}
use Rattle.nfs_model.specs.volume.Stripes.{StripeValue, Block, file_block_cmp, stripe_of, bytes_read, is_filled}
use Rattle.filer_state.specs.state.Contents.{VolumeContents}
use Rattle.filer_state.specs.state.Tree.{stripe_at, file_byte}
use Rattle.filer_state.specs.state.Parcels.{no_stripe}
use Rattle.filer_state.specs.state.Sets.{FilerStripe, FilerLogical, stripe_value, placed, in_one, logical_before}
use Rattle.filer_state.specs.state.Lenses.{LogicalSet}
use Rattle.filer_state.specs.state.Calls.{LieIn}
use Rattle.filer_state.specs.laws.lemmas.Each.{each-index, each-length}
use Rattle.filer_state.specs.bytes.Reading.{bytes_under}
use Rattle.filer_state.specs.bytes.lemmas.Spans.{bytes-here}
use Rattle.service_data.specs.Promises.{IsHeld}
use Rattle.service_data.specs.Stripes.{HasStripes}

-- ---- an empty place

-- no block is filled there
pub vacant-block : {P : Type 0} (o : Option (FilerStripe P)) (fileid block : ℕ) → o ≡ None → false ≡ is_filled (stripe_value o) fileid block
vacant-block None fileid block e = ap is_some (sym (get-empty {X = Block} file_block_cmp (fileid, block)))
vacant-block (Some s) fileid block e = absurd cc

pub vacant-place : {H : Type 0} (o : Option H) → o ≡ None → is_some o ≡ true → ⊥
vacant-place None e some = absurd cc
vacant-place (Some s) e some = absurd cc

-- ---- two spans

-- a range in two parts
map-append : {X : Type 0} (f : ℕ → X) (a n m : ℕ)
    → map f (range_with_len a (n + m)) ≡ map f (range_with_len a n) ++ map f (range_with_len (a + n) m)
map-append f a zero m =
    let count : 0 + m ≡ m = omega arith in let from : a ≡ a + 0 = omega arith in λ j. map f (range_with_len (from j) (count j))
map-append f a (suc n) m =
    let count : suc n + m ≡ suc (n + m) = omega arith in
    let from : a + 1 + n ≡ a + suc n = omega arith in
    ap (λ k. map f (range_with_len a k)) count ∙ ap (λ l. f a ∷ l) (map-append f (a + 1) n m)
    ∙ ap (λ b. f a ∷ (map f (range_with_len (a + 1) n) ++ map f (range_with_len b m))) from

-- bytes of a span, and of the next after them
pub two-spans : (stripes : List StripeValue) (fileid offset first n : ℕ) (old one two : List ℕ) → first ≤ n
    → one ≡ old ++ bytes_under stripes fileid offset first → two ≡ one ++ bytes_under stripes fileid (offset + first) (n - first)
    → two ≡ old ++ bytes_under stripes fileid offset n
two-spans stripes fileid offset first n old one two within here more =
    let all : first + (n - first) ≡ n = omega arith in
    more ∙ ap (λ (l : List ℕ). l ++ bytes_under stripes fileid (offset + first) (n - first)) here
    ∙ append_assoc old (bytes_under stripes fileid offset first) (bytes_under stripes fileid (offset + first) (n - first))
    ∙ ap (λ (l : List ℕ). old ++ l) (sym (map-append (file_byte stripes fileid) offset first (n - first)) ∙ ap (bytes_under stripes fileid offset) all)

-- room that is left after the first
pub room-left : {Z : Type 0} (old one : Vec ℕ Z) (stripes : List StripeValue) (fileid offset first n : ℕ) → first ≤ n
    → one.items ≡ old.items ++ bytes_under stripes fileid offset first → vec_capacity old ≤ vec_capacity one
    → vec_len old + n ≤ vec_capacity old → vec_len one + (n - first) ≤ vec_capacity one
room-left old one stripes fileid offset first n within here more room =
    let long : vec_len one ≡ vec_len old + first =
    one.ok.0 ∙ ap (λ (l : List ℕ). length l) here ∙ length-append old.items (bytes_under stripes fileid offset first)
    ∙ (λ j. sym old.ok.0 j + length-map-range_with_len (file_byte stripes fileid) offset first j) in
    omega (arith, within, long, more, room)

-- ---- the stripe of a span

-- what is in a place that there is
place-found : {A : Type 0} (xs : List A) (i : ℕ) (x : A) → i < length xs → slice_get xs i ≡ Some (slice_index_or xs i x)
place-found [] i x less = absurd (omega arith)
place-found (y ∷ ys) zero x less = refl
place-found (y ∷ ys) (suc i) x less = place-found ys i x (omega arith)

module _ {P : Type 0} (held : FilerLogical P) (stripes : HasStripes held) where
  abbrev at_place : ℕ → StripeValue
  at_place i = stripe_value (placed held.stripes.at i)

  in-place : (i : ℕ) (place : Option (FilerStripe P)) → i < length held.stripes.at
      → placed held.stripes.at i ≡ slice_index_or held.stripes.at i place
  in-place i place less = ap in_one (place-found held.stripes.at i place less)

  -- there is a stripe in the place of a span
  pub span-there : (fileid offset k : ℕ) (place : Option (FilerStripe P)) → length held.stripes.at ≡ 16
      → k ≡ (fileid % held.own.stripes + offset / span_bytes % held.own.stripes) % held.own.stripes
      → is_some (slice_index_or held.stripes.at k place) ≡ true
  span-there fileid offset k place long is =
      let some = stripes.some in
      let few = stripes.few in
      let below : k < held.own.stripes = omega (arith, some, is) in
      ap is_some (sym (in-place k place (omega (arith, few, below, long)))) ∙ stripes.there k below

  -- the stripe of n bytes of one span
  pub span-read : (fileid offset n k : ℕ) (place : Option (FilerStripe P)) → length held.stripes.at ≡ 16
      → k ≡ (fileid % held.own.stripes + offset / span_bytes % held.own.stripes) % held.own.stripes
      → offset % span_bytes + n ≤ span_bytes
      → bytes_read (stripe_value (slice_index_or held.stripes.at k place)) fileid offset n ≡ bytes_under (logical_before held).stripes fileid offset n
  span-read fileid offset n k place long is span =
      let few = stripes.few in
      ap (λ (s : StripeValue). bytes_read s fileid offset n) (sym (ap stripe_value (in-place k place (omega (arith, few, below, long)))) ∙ sym here)
      ∙ bytes-here (logical_before held).stripes k fileid offset n lies n (omega arith)
    where
      home : stripe_of held.own.stripes fileid (offset / block_size) ≡ k
      home =
          let one : offset / block_size / 64 ≡ offset / span_bytes = omega arith in
          ap (λ (b : ℕ). (fileid + b) % held.own.stripes) one
          ∙ add-mod fileid (offset / span_bytes) held.own.stripes ∙ sym is

      below : k < held.own.stripes
      below = let some = stripes.some in omega (arith, some, is)

      here : stripe_at (logical_before held).stripes k ≡ at_place k
      here = each-index at_place no_stripe held.own.stripes k below

      many : length (logical_before held).stripes ≡ held.own.stripes
      many = each-length at_place 0 held.own.stripes

      lies : LieIn (length (logical_before held).stripes) k fileid offset n
      lies = record {
        span = elim (cases_eq n 0) [ inl none ↦ inl none | inr some ↦ inr (omega (arith, some, span)) ];
        stripe = ap (λ (m : ℕ). stripe_of m fileid (offset / block_size)) many ∙ home;
      }

-- ---- what is held under Logical of a sound volume has its stripes

module _ {P : Type 0} (held : FilerLogical P) (whole : IsHeld (logical_before held)) where
  abbrev volume : VolumeContents
  volume = whole.1.0

  own-same : volume.logical.stripes ≡ held.own.stripes
  own-same = ap (λ (s : LogicalSet). s.own.stripes) whole.1.4

  some-striped : (0 < held.own.stripes) × (held.own.stripes ≤ 16)
  some-striped =
      let same = own-same in
      ⊎_elim (λ (e : volume.logical.stripes ≡ 8). (omega (arith, e, same), omega (arith, e, same)))
      (λ (e : volume.logical.stripes ≡ 16). (omega (arith, e, same), omega (arith, e, same))) whole.1.8.well_formed.striped

  stripe-there : (i : ℕ) → i < held.own.stripes → (o : Option (FilerStripe P)) → placed held.stripes.at i ≡ o → is_some o ≡ true
  stripe-there i below (Some s) e = refl
  stripe-there i below None e =
      let well = whole.1.8.well_formed in
      let same = own-same in
      let many = well.as_many in
      let here : stripe_at volume.stripes i ≡ stripe_value (placed held.stripes.at i) =
      ap (λ (s : LogicalSet). stripe_at s.stripes i) whole.1.4
      ∙ each-index (λ k. stripe_value (placed held.stripes.at k)) no_stripe held.own.stripes i below in
      let none : (stripe_at volume.stripes i).stripes ≡ 0 = ap (λ (s : StripeValue). s.stripes) (here ∙ ap stripe_value e) in
      let fits = (well.stripes i (omega (arith, same, many, below))).stripes in
      let some = some-striped.0 in
      absurd (omega (arith, none, fits, same, some))

  pub stripes-held : HasStripes held
  stripes-held = record {
    some = some-striped.0;
    few = some-striped.1;
    there = λ i below. stripe-there i below (placed held.stripes.at i) refl;
  }
