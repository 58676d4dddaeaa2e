-- READ of a set, as its checks come out.
use Rattle.std.proofs.Common.{◌≡◌, ℕ, zero, suc, ◌+◌, ◌-◌, ◌<◌, min, Bool, true, false, List, [], ◌++◌, map, length, drop, Option, Some, None, Result, Ok, Err}
use Rattle.std.proofs.Common.{◌≤◌, vec_len, vec_capacity, Vec, length-append, refl, sym, ap, ◌∙◌, subst, arith}
use Rattle.std.proofs.lemmas.Bool.Decides.{nat_tests}
use Rattle.std.proofs.lemmas.List.{drop_at}
use Rattle.std.proofs.lemmas.List.FromFn.{length-map-range_with_len}
use Rattle.std.specs.Prelude.{nat_le, if◌then◌else◌}
use Rattle.std.specs.List.{range_with_len}
use Rattle.std.specs.Result.{IsErr}
use Rattle.std.specs.FinMap.{get}
use Rattle.std.specs.declared.alloc.AllocError.{AllocError}
use Rattle.nfs_model.specs.Types as types
use Rattle.nfs_model.specs.Types.{Answer, Caller, Ownership, ReadDone, Success}
use Rattle.nfs_model.specs.Tree.{Logical, Stripe}
use Rattle.nfs_model.specs.Server.{most_bytes}
use Rattle.nfs_model.specs.Work.{Replied, Starved}
use Rattle.nfs_values.specs.Answer as answers
use Rattle.nfs_values.specs.Status.{status_of}
use Rattle.nfs_values.specs.Answer.{result_of}
use Rattle.nfs_values.specs.declared.answer.Answer.TheVariants.{Read}
use Rattle.nfs_values.specs.declared.answer.ReadResults.{ReadResults}
use Rattle.nfs_values.specs.declared.status.Status.{Status}
use Rattle.nfs_model.specs.volume.Inodes.{Inode}
use Rattle.nfs_model.specs.volume.Stripes.{Card, StripeValue, byte_at, bytes_read}
use Rattle.filer_state.specs.state.Lenses.{LogicalSet, logical_lens, stripe_lens}
use Rattle.filer_state.specs.state.Running.{RunsOn}
use Rattle.filer_state.specs.state.Tree.{file_byte}
use Rattle.filer_state.specs.bytes.Reading.{some_told, read_told, on_card, on_inode, stripe_read, logical_read, bytes_under}
use Rattle.filer_state.specs.bytes.Laws.{read_call}
use Rattle.filer_state.specs.bytes.Permitted.{owner_on, owner_at, owner_held, read_refused}
use Rattle.filer_state.specs.bytes.lemmas.Reads.{stripe-reads, stripe-starves, logical-reads, logical-starves}
use Rattle.filer_state.specs.bytes.lemmas.ReadsBy.{stripe-read-refused, stripe-read-permitted, logical-read-refused, logical-read-permitted}
use Rattle.service_data.specs.Promises.{ReadsInStripe, ReadsInLogical}

-- ---- what is told of a file whose byte at k is f k

module _ (f : ℕ → ℕ) (offset most size : ℕ) where
  abbrev bytes : ℕ → List ℕ
  bytes n = map f (range_with_len offset n)

  -- at or past the end of a file no bytes are given, and they reach it
  told-some : read_told bytes offset most size ≡ some_told bytes offset size (min most (size - offset))
  told-some = by (nat_le size offset) refl
    where
      by : (past : Bool) → nat_le size offset ≡ past
          → (if past then ReadDone 0 true [] else some_told bytes offset size (min most (size - offset)))
          ≡ some_told bytes offset size (min most (size - offset))
      by false e = refl
      by true e =
          let none : 0 ≡ min most (size - offset) = grind (arith, nat_tests, e) in
          let eof : true ≡ nat_le size (offset + 0) = grind (arith, nat_tests, e) in
          (λ j. ReadDone 0 (eof j) []) ∙ ap (some_told bytes offset size) none

  -- this many of its bytes
  told-these : (given : ℕ) (eof : Bool) (items : List ℕ) → given ≡ min most (size - offset)
      → eof ≡ nat_le size (offset + min most (size - offset)) → items ≡ bytes given
      → ReadDone (length items) eof items ≡ read_told bytes offset most size
  told-these given eof items count ends is =
      let these : items ≡ bytes (min most (size - offset)) = is ∙ ap bytes count in
      let long : length items ≡ min most (size - offset) =
      ap (λ (l : List ℕ). length l) these ∙ length-map-range_with_len f offset (min most (size - offset)) in
      (λ j. ReadDone (long j) (ends j) (these j)) ∙ sym told-some

  -- none
  pub told-none : (given : ℕ) (eof : Bool) → given ≡ min most (size - offset)
      → eof ≡ nat_le size (offset + min most (size - offset)) → given ≡ 0
      → ReadDone 0 eof [] ≡ read_told bytes offset most size
  told-none given eof count ends none = told-these given eof [] count ends (ap bytes (sym none))

  -- what was read behind the first 48 bytes of a vector
  pub told-read : (given : ℕ) (eof : Bool) (head place read : List ℕ) → given ≡ min most (size - offset)
      → eof ≡ nat_le size (offset + min most (size - offset)) → length head ≡ 48 → place ≡ head ++ bytes given → read ≡ drop 48 place
      → ReadDone (length read) eof read ≡ read_told bytes offset most size
  told-read given eof head place read count ends size is behind =
      told-these given eof read count ends (behind ∙ ap (λ (l : List ℕ). drop 48 l) is ∙ drop_at head (bytes given) 48 size)

-- room that is left behind what was read
pub room-behind : {Z : Type 0} (old new : Vec ℕ Z) (f : ℕ → ℕ) (offset n : ℕ) → new.items ≡ old.items ++ map f (range_with_len offset n)
    → vec_capacity old ≤ vec_capacity new → vec_len old + n + 3 ≤ vec_capacity old → vec_len new + 3 ≤ vec_capacity new
room-behind old new f offset n is more room =
    let long : vec_len new ≡ vec_len old + n =
    new.ok.0 ∙ ap (λ (l : List ℕ). length l) is ∙ length-append old.items (map f (range_with_len offset n))
    ∙ (λ j. sym old.ok.0 j + length-map-range_with_len f offset n j) in
    omega (arith, long, more, room)

-- ---- by a stripe

module _ (fileid offset count : ℕ) (s : StripeValue) where
  -- the size on its card
  pub stripe-told : (t : StripeValue) (card : Option Card) (r : Result ℕ Status) → t ≡ s → card ≡ get t.cards fileid
      → ((told : ℕ → Answer) → on_card card told ≡ result_of told 1 r)
      → stripe_read fileid offset count s ≡ result_of (read_told (bytes_read s fileid offset) offset (min count most_bytes)) 1 r
  stripe-told t card r same is tells =
      ap (λ (o : Option Card). on_card o (read_told (bytes_read s fileid offset) offset (min count most_bytes)))
      (sym (is ∙ ap (λ (x : StripeValue). get x.cards fileid) same))
      ∙ tells (read_told (bytes_read s fileid offset) offset (min count most_bytes))

  -- what is asked of the caller by who owns the file, as its card tells
  pub stripe-asked : (t : StripeValue) (card : Option Card) (owner : Option Ownership) (caller : Caller) (o : Option types.Status) → t ≡ s
      → card ≡ get t.cards fileid → owner ≡ owner_on card → o ≡ read_refused caller owner → read_refused caller (owner_on (get s.cards fileid)) ≡ o
  stripe-asked t card owner caller o same is owns asked =
      ap (λ (x : StripeValue). read_refused caller (owner_on (get x.cards fileid))) (sym same)
      ∙ ap (λ (x : Option Card). read_refused caller (owner_on x)) (sym is)
      ∙ ap (read_refused caller) (sym owns) ∙ sym asked

  pub stripe-refused : (caller : Caller) (refusal : Status) → read_refused caller (owner_on (get s.cards fileid)) ≡ Some (status_of refusal)
      → ReadsInStripe caller fileid offset count s (Ok (Err refusal))
  stripe-refused caller refusal refuses v i handle some lies =
      stripe-read-refused v i fileid offset count handle (Stripe v i) caller s some (status_of refusal) refuses

  -- a result is right where it tells what the card and the bytes do, and the caller isn't refused
  pub stripe-right : (caller : Caller) → read_refused caller (owner_on (get s.cards fileid)) ≡ None
      → (told : Result ReadResults Status) → answers.answer_of (Read told) ≡ stripe_read fileid offset count s
      → ReadsInStripe caller fileid offset count s (Ok told)
  stripe-right caller permits told is v i handle some lies =
      stripe-read-permitted v i fileid offset count handle (Stripe v i) caller s some (Replied (Success (answers.answer_of (Read told)))) s permits
      (subst (λ (a : Answer). RunsOn v (stripe_lens i) (read_call handle (Stripe v i) fileid offset count) s (Replied (Success a)) s) (sym is)
      (λ p hands hands' made has numbered sound moved.
      let r = stripe-reads v i fileid offset count handle (Stripe v i) s some lies p hands hands' made has numbered sound moved in
      (r.0.0, r.1)))

  -- and memory may run out where it would give bytes
  pub stripe-starved : (caller : Caller) → read_refused caller (owner_on (get s.cards fileid)) ≡ None
      → (r : Result (Result ReadResults Status) AllocError) → IsErr r → (size n : ℕ) → 0 < n
      → n ≡ min (min count most_bytes) (size - offset)
      → stripe_read fileid offset count s ≡ read_told (bytes_read s fileid offset) offset (min count most_bytes) size
      → ReadsInStripe caller fileid offset count s r
  stripe-starved caller permits (Ok told) failed size n more is tells v i handle some lies = absurd cc
  stripe-starved caller permits (Err e) failed size zero more is tells v i handle some lies = absurd (omega arith)
  stripe-starved caller permits (Err e) failed size (suc n) more is tells v i handle some lies =
      stripe-read-permitted v i fileid offset count handle (Stripe v i) caller s some Starved s permits
      (stripe-starves v i fileid offset count handle (Stripe v i) s (suc n) (nat_le size (offset + suc n)) (byte_at s fileid offset)
      (map (byte_at s fileid) (range_with_len (offset + 1) n)) some lies
      (tells ∙ told-some (byte_at s fileid) offset (min count most_bytes) size ∙ ap (some_told (bytes_read s fileid offset) offset size) (sym is)))

-- ---- by what is under Logical

module _ (fileid offset count : ℕ) (set : LogicalSet) where
  pub logical-told : (inode : Option Inode) (r : Result ℕ Status) → inode ≡ get set.own.inodes.inodes fileid
      → ((told : ℕ → Answer) → on_inode inode told ≡ result_of told 1 r)
      → logical_read fileid offset count set ≡ result_of (read_told (bytes_under set.stripes fileid offset) offset (min count most_bytes)) 1 r
  logical-told inode r is tells =
      ap (λ (o : Option Inode). on_inode o (read_told (bytes_under set.stripes fileid offset) offset (min count most_bytes))) (sym is)
      ∙ tells (read_told (bytes_under set.stripes fileid offset) offset (min count most_bytes))

  pub logical-asked : (inode : Option Inode) (owner : Option Ownership) (caller : Caller) (o : Option types.Status)
      → inode ≡ get set.own.inodes.inodes fileid → owner ≡ owner_at inode → o ≡ read_refused caller owner
      → read_refused caller (owner_held set fileid) ≡ o
  logical-asked inode owner caller o is owns asked =
      ap (λ (x : Option Inode). read_refused caller (owner_at x)) (sym is) ∙ ap (read_refused caller) (sym owns) ∙ sym asked

  pub logical-refused : (caller : Caller) (refusal : Status) → read_refused caller (owner_held set fileid) ≡ Some (status_of refusal)
      → ReadsInLogical caller fileid offset count set (Ok (Err refusal))
  logical-refused caller refusal refuses v handle =
      logical-read-refused v fileid offset count handle (Logical v) caller set (status_of refusal) refuses

  pub logical-right : (caller : Caller) → read_refused caller (owner_held set fileid) ≡ None
      → (told : Result ReadResults Status) → answers.answer_of (Read told) ≡ logical_read fileid offset count set
      → ReadsInLogical caller fileid offset count set (Ok told)
  logical-right caller permits told is v handle =
      logical-read-permitted v fileid offset count handle (Logical v) caller set (Replied (Success (answers.answer_of (Read told)))) set permits
      (subst (λ (a : Answer). RunsOn v logical_lens (read_call handle (Logical v) fileid offset count) set (Replied (Success a)) set) (sym is)
      (λ p hands hands' made has numbered sound moved.
      let r = logical-reads v fileid offset count handle (Logical v) set p hands hands' made has numbered sound moved in
      (r.0.0, r.1)))

  pub logical-starved : (caller : Caller) → read_refused caller (owner_held set fileid) ≡ None
      → (r : Result (Result ReadResults Status) AllocError) → IsErr r → (size n : ℕ) → 0 < n
      → n ≡ min (min count most_bytes) (size - offset)
      → logical_read fileid offset count set ≡ read_told (bytes_under set.stripes fileid offset) offset (min count most_bytes) size
      → ReadsInLogical caller fileid offset count set r
  logical-starved caller permits (Ok told) failed size n more is tells v handle = absurd cc
  logical-starved caller permits (Err e) failed size zero more is tells v handle = absurd (omega arith)
  logical-starved caller permits (Err e) failed size (suc n) more is tells v handle =
      logical-read-permitted v fileid offset count handle (Logical v) caller set Starved set permits
      (logical-starves v fileid offset count handle (Logical v) set (suc n) (nat_le size (offset + suc n)) (file_byte set.stripes fileid offset)
      (map (file_byte set.stripes fileid) (range_with_len (offset + 1) n))
      (tells ∙ told-some (file_byte set.stripes fileid) offset (min count most_bytes) size
      ∙ ap (some_told (bytes_under set.stripes fileid offset) offset size) (sym is)))
