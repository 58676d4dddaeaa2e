-- WRITE in a stripe, as its checks come out.
use Rattle.std.proofs.Common.{◌≡◌, ◌≢◌, ℕ, ◌+◌, ◌<◌, ◌==◌, min, not, Bool, true, false, List, length, take, Option, Some, None, Result, Ok, Err, nat_lt}
use Rattle.std.proofs.Common.{refl, sym, ap, ◌∙◌, subst, arith, ne_eqb}
use Rattle.std.specs.Prelude.{if◌then◌else◌}
use Rattle.std.proofs.lemmas.Bool.{eqb-true}
use Rattle.std.proofs.lemmas.Bool.Decides.{nat_tests}
use Rattle.std.proofs.lemmas.List.{length-take, take_min}
use Rattle.std.specs.FinMap.{get}
use Rattle.nfs_model.specs.Types.{Ownership, WriteDone, Success}
use Rattle.nfs_model.specs.Tree.{Logical, Stripe}
use Rattle.nfs_model.specs.Server.{most_bytes}
use Rattle.nfs_model.specs.Serial.Write.{Writing, bytes_kept}
use Rattle.nfs_model.specs.Work.{Replied, Moved, Starved}
use Rattle.nfs_values.specs.Status.{status_of}
use Rattle.nfs_values.specs.declared.answer.WriteResults.{WriteResults}
use Rattle.nfs_values.specs.declared.status.Status.{Status}
use Rattle.nfs_values.specs.declared.verifier.Verifier.{Verifier}
use Rattle.nfs_values.specs.declared.status.Status.TheVariants.{Invalid, TooBig}
use Rattle.nfs_model.specs.volume.Stripes.{Card, OfFile, OfDirectory, StripeValue, stays_within, overwritten}
use Rattle.filer_state.specs.state.Lenses.{stripe_lens}
use Rattle.filer_state.specs.state.Calls.{LieIn}
use Rattle.filer_state.specs.state.Running.{RunsOn}
use Rattle.filer_state.specs.bytes.Writing.{StripeOutcome, tells, fails, some_written, card_written, stripe_write}
use Rattle.filer_state.specs.bytes.WritingLaws.{write_call}
use Rattle.filer_state.specs.bytes.Permitted.{owner_on, write_refused, clears_owned, has_written, write_by}
use Rattle.filer_state.specs.bytes.lemmas.Writes.{stripe-writes}
use Rattle.filer_state.specs.bytes.lemmas.Clears.{stripe-write-refused, stripe-write-permitted, stripe-write-clears}
use Rattle.service_data.specs.Writing.{bytes_to_write, writing_outcome, WritesInStripe}

-- ---- what the checks leave

module _ (v fileid : ℕ) (w : Writing) (s : StripeValue) where
  -- this many bytes
  abbrev bytes_come_to : ℕ → StripeOutcome
  bytes_come_to n =
      if stays_within fileid w.offset n s then record {
        outcome = Replied (Success (WriteDone n s.verifier));
        stripe = overwritten fileid w.offset (bytes_kept w) w.moment s;
      }
      else record { outcome = Moved (Logical v); stripe = s }

  -- a failure, none, or this many
  abbrev comes_to : Result ℕ Status → StripeOutcome
  comes_to (Err status) = fails (status_of status) s
  comes_to (Ok n) = if n == 0 then tells (WriteDone 0 s.verifier) s else bytes_come_to n

  some-come : (w.count == length w.written) ≡ true → (w.count == 0) ≡ false
      → some_written v fileid w (length (bytes_kept w)) s
      ≡ comes_to (if nat_lt s.largest (w.offset + min w.count most_bytes) then Err TooBig else Ok (min w.count most_bytes))
  some-come same some =
      by (nat_lt s.largest (w.offset + length (bytes_kept w)))
      ∙ ap (λ (n : ℕ). comes_to (if nat_lt s.largest (w.offset + n) then Err TooBig else Ok n)) many
    where
      many : length (bytes_kept w) ≡ min w.count most_bytes
      many =
          let is : w.count ≡ length w.written = eqb-true w.count (length w.written) same in
          let kept = length-take most_bytes w.written in
          omega (arith, is, kept)

      not-none : (n : ℕ) → n ≡ min w.count most_bytes → (n == 0) ≡ false
      not-none n is = grind (arith, nat_tests, is, some)

      by : (b : Bool) → (if b then fails (status_of TooBig) s else bytes_come_to (length (bytes_kept w)))
          ≡ comes_to (if b then Err TooBig else Ok (length (bytes_kept w)))
      by true = refl
      by false = sym (ap (λ (t : Bool). if t then tells (WriteDone 0 s.verifier) s else bytes_come_to (length (bytes_kept w)))
          (not-none (length (bytes_kept w)) many))

  as-checked : (card : Option Card) → card_written v fileid w card s ≡ comes_to (bytes_to_write card s.largest w.offset w.count (length w.written))
  as-checked None = refl
  as-checked (Some OfDirectory) = refl
  as-checked (Some (OfFile size touch owner)) = by (w.count == length w.written) refl (w.count == 0) refl
    where
      by : (b : Bool) → (w.count == length w.written) ≡ b → (t : Bool) → (w.count == 0) ≡ t
          → (if not b then fails (status_of Invalid) s
          else if t then tells (WriteDone 0 s.verifier) s else some_written v fileid w (length (bytes_kept w)) s)
          ≡ comes_to (if not b then Err Invalid else if t then Ok 0
          else if nat_lt s.largest (w.offset + min w.count most_bytes) then Err TooBig else Ok (min w.count most_bytes))
      by false e t h = refl
      by true e true h = refl
      by true e false h = some-come e h

-- how many are given, where any are
pub given-some : (card : Option Card) (largest offset count long given : ℕ) → Ok given ≡ bytes_to_write card largest offset count long → (given ≡ 0 → ⊥)
    → (count ≡ long) × (given ≡ min count most_bytes)
given-some None largest offset count long given is some = absurd cc
given-some (Some OfDirectory) largest offset count long given is some = absurd cc
given-some (Some (OfFile size touch owner)) largest offset count long given is some =
    by (count == long) refl (count == 0) (nat_lt largest (offset + min count most_bytes)) is
  where
    by : (b : Bool) → (count == long) ≡ b → (t u : Bool)
        → Ok given ≡ (if not b then Err Invalid else if t then Ok 0 else if u then Err TooBig else Ok (min count most_bytes))
        → (count ≡ long) × (given ≡ min count most_bytes)
    by false e t u is = absurd cc
    by true e true u is = let none : given ≡ 0 = cc in absurd (some none)
    by true e false true is = absurd cc
    by true e false false is = let same : given ≡ min count most_bytes = cc in (eqb-true count long e, same)

-- ---- what is done is right

module _ (fileid : ℕ) (w : Writing) (old now : StripeValue) (held : now ≡ old) (card : Option Card) (found : card ≡ get now.cards fileid)
    (owner : Option Ownership) (owns : owner ≡ owner_on card) where
  of-owner : {A : Type 0} (f : Option Ownership → A) → f owner ≡ f (owner_on (get old.cards fileid))
  of-owner f = ap f (owns ∙ ap owner_on found ∙ ap (λ (x : StripeValue). owner_on (get x.cards fileid)) held)

  -- where the caller is refused
  pub right-refused : (refusal : Status) → Some (status_of refusal) ≡ write_refused w.caller owner → WritesInStripe fileid w old (Some (Err refusal)) now
  right-refused refusal refuses = subst (WritesInStripe fileid w old (Some (Err refusal))) (sym held) (λ v i handle some lies.
      stripe-write-refused v i fileid handle w old some (status_of refusal)
      (sym (of-owner (write_refused w.caller)) ∙ sym refuses))

  -- where it isn't
  module _ (permits : None ≡ write_refused w.caller owner) (largest : ℕ) (limit : largest ≡ now.largest) where
    abbrev checked : Result ℕ Status
    checked = bytes_to_write card largest w.offset w.count (length w.written)

    permitted : write_refused w.caller (owner_on (get old.cards fileid)) ≡ None
    permitted = sym (of-owner (write_refused w.caller)) ∙ sym permits

    -- what comes of it where nothing is asked
    plainly : (v i : ℕ) (handle : List ℕ) → i < old.stripes → LieIn old.stripes i fileid w.offset (min w.count most_bytes)
        → (told : StripeOutcome) → comes_to v fileid w now checked ≡ told
        → RunsOn v (stripe_lens i) (write_call handle (Stripe v i) fileid w) old told.outcome told.stripe
    plainly v i handle some lies told is =
        subst (λ (told : StripeOutcome). RunsOn v (stripe_lens i) (write_call handle (Stripe v i) fileid w) old told.outcome told.stripe)
        (ap (stripe_write v fileid w) (sym held) ∙ ap (λ o. card_written v fileid w o now) (sym found) ∙ as-checked v fileid w now card
        ∙ ap (λ (n : ℕ). comes_to v fileid w now (bytes_to_write card n w.offset w.count (length w.written))) (sym limit) ∙ is)
        (λ p hands hands' made has numbered sound moved.
        let r = stripe-writes v i fileid handle w old some lies p hands hands' made has numbered sound moved in (r.0, r.1))

    -- where the mode changes it moves in place of an answer
    instead : clears_owned w.caller owner ≡ true → (v i : ℕ) (handle : List ℕ) → i < old.stripes
        → LieIn old.stripes i fileid w.offset (min w.count most_bytes) → (told : StripeOutcome) → told.outcome ≢ Starved
        → comes_to v fileid w now checked ≡ told → (b : Bool) → has_written told.outcome ≡ b
        → RunsOn v (stripe_lens i) (write_by handle (Stripe v i) fileid w) old
        (if b then record { outcome = Moved (Logical v); stripe = old } else told).outcome
        (if b then record { outcome = Moved (Logical v); stripe = old } else told).stripe
    instead clears v i handle some lies told answered is b wrote =
        subst (λ (b : Bool). RunsOn v (stripe_lens i) (write_by handle (Stripe v i) fileid w) old
        (if b then record { outcome = Moved (Logical v); stripe = old } else told).outcome
        (if b then record { outcome = Moved (Logical v); stripe = old } else told).stripe) wrote
        (stripe-write-clears v i fileid handle w old some permitted told (sym (of-owner (clears_owned w.caller)) ∙ clears) answered
        (plainly v i handle some lies told is))

    right-by : (result : Option (Result WriteResults Status)) (new : StripeValue)
        → ((v : ℕ) → comes_to v fileid w now checked ≡ record { outcome = writing_outcome v result; stripe = new })
        → clears_owned w.caller owner ≡ false → WritesInStripe fileid w old result new
    right-by result new is stays v i handle some lies =
        stripe-write-permitted v i fileid handle w old some permitted (writing_outcome v result) new
        (sym (of-owner (clears_owned w.caller)) ∙ stays)
        (plainly v i handle some lies (record { outcome = writing_outcome v result; stripe = new }) (is v))

    -- nothing written
    right-idle : (result : Option (Result WriteResults Status)) (new : StripeValue)
        → ((v : ℕ) → comes_to v fileid w now checked ≡ record { outcome = writing_outcome v result; stripe = new })
        → ((v : ℕ) → has_written (writing_outcome v result) ≡ false) → ((v : ℕ) → writing_outcome v result ≢ Starved)
        → WritesInStripe fileid w old result new
    right-idle result new is idle answered = by (clears_owned w.caller owner) refl
      where
        by : (b : Bool) → clears_owned w.caller owner ≡ b → WritesInStripe fileid w old result new
        by false e = right-by result new is e
        by true e = λ v i handle some lies.
            instead e v i handle some lies (record { outcome = writing_outcome v result; stripe = new }) (answered v) (is v) false (idle v)

    pub right-failed : (status : Status) → Err status ≡ checked → WritesInStripe fileid w old (Some (Err status)) now
    right-failed status is = right-idle (Some (Err status)) now (λ v. ap (comes_to v fileid w now) (sym is)) (λ v. refl) (λ v e. absurd cc)

    pub right-none : (given : ℕ) → Ok given ≡ checked → given ≡ 0 → (verifier : Verifier) → verifier.0 ≡ now.verifier
        → WritesInStripe fileid w old (Some (Ok (record { count = 0; verifier = verifier }))) now
    right-none given is none verifier same = right-idle (Some (Ok (record { count = 0; verifier = verifier }))) now
        (λ v. ap (comes_to v fileid w now) (sym is ∙ ap Ok none) ∙ ap (λ (bytes : List ℕ). tells (WriteDone 0 bytes) now) (sym same))
        (λ v. refl) (λ v e. absurd cc)

    module _ (given : ℕ) (is : Ok given ≡ checked) (some : given ≡ 0 → ⊥) where
      bytes-come : (v : ℕ) → comes_to v fileid w now checked ≡ bytes_come_to v fileid w now given
      bytes-come v =
          ap (comes_to v fileid w now) (sym is)
          ∙ ap (λ (t : Bool). if t then tells (WriteDone 0 now.verifier) now else bytes_come_to v fileid w now given) (ne_eqb given 0 some)

      -- this many, where all is there or not
      abbrev come_if : ℕ → Bool → StripeOutcome
      come_if v stays =
          if stays then record {
            outcome = Replied (Success (WriteDone given now.verifier));
            stripe = overwritten fileid w.offset (bytes_kept w) w.moment now;
          }
          else record { outcome = Moved (Logical v); stripe = now }

      -- where the mode changes it moves
      pub right-cleared : true ≡ clears_owned w.caller owner → WritesInStripe fileid w old None now
      right-cleared clears = subst (WritesInStripe fileid w old None) (sym held) (λ v i handle some lies.
          by v i handle some lies (stays_within fileid w.offset given now) refl)
        where
          by : (v i : ℕ) (handle : List ℕ) → i < old.stripes → LieIn old.stripes i fileid w.offset (min w.count most_bytes) → (b : Bool)
              → stays_within fileid w.offset given now ≡ b
              → RunsOn v (stripe_lens i) (write_by handle (Stripe v i) fileid w) old (Moved (Logical v)) old
          by v i handle there lies true e =
              instead (sym clears) v i handle there lies (come_if v true) (λ e. absurd cc) (bytes-come v ∙ ap (come_if v) e) true
              (ap not (ne_eqb given 0 some))
          by v i handle there lies false e =
              subst (RunsOn v (stripe_lens i) (write_by handle (Stripe v i) fileid w) old (Moved (Logical v))) held
              (instead (sym clears) v i handle there lies (come_if v false) (λ e. absurd cc) (bytes-come v ∙ ap (come_if v) e) false refl)

      kept-long : length (take given w.written) ≡ given
      kept-long =
          let all = given-some card largest w.offset w.count (length w.written) given is some in
          let long = length-take given w.written in
          omega (arith, all.0, all.1, long)

      kept-same : take given w.written ≡ bytes_kept w
      kept-same =
          let all = given-some card largest w.offset w.count (length w.written) given is some in
          let least : given ≡ min most_bytes (length w.written) = omega (arith, all.0, all.1) in
          ap (λ (n : ℕ). take n w.written) least ∙ take_min most_bytes w.written

      pub right-moved : (new : StripeValue) → new ≡ now → false ≡ stays_within fileid w.offset (length (take given w.written)) now
          → WritesInStripe fileid w old None new
      right-moved new same leaves = right-idle None new
          (λ v.
          bytes-come v
          ∙ ap (come_if v) (ap (λ (n : ℕ). stays_within fileid w.offset n now) (sym kept-long) ∙ sym leaves)
          ∙ (λ j. record { outcome = Moved (Logical v); stripe = sym same j }))
          (λ v. refl) (λ v e. absurd cc)

      pub right-written : (new : StripeValue) (verifier : Verifier) → new ≡ overwritten fileid w.offset (take given w.written) w.moment now
          → true ≡ stays_within fileid w.offset (length (take given w.written)) now → verifier.0 ≡ now.verifier
          → false ≡ clears_owned w.caller owner
          → WritesInStripe fileid w old (Some (Ok (record { count = given; verifier = verifier }))) new
      right-written new verifier done stays same unchanged = right-by (Some (Ok (record { count = given; verifier = verifier }))) new
          (λ v.
          bytes-come v
          ∙ ap (come_if v) (ap (λ (n : ℕ). stays_within fileid w.offset n now) (sym kept-long) ∙ sym stays)
          ∙ (λ j. record {
            outcome = Replied (Success (WriteDone given (sym same j)));
            stripe = (ap (λ (bytes : List ℕ). overwritten fileid w.offset bytes w.moment now) (sym kept-same) ∙ sym done) j;
          }))
          (sym unchanged)
