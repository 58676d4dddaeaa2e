-- One write to a connection, by its answer.
use Rattle.std.proofs.Common.{◌≡◌, ◌==◌, ◌+◌, ◌<◌, ◌≤◌, ℕ, Bool, false, true≢false, ne_eqb, List, [], ◌∷◌, ◌++◌, length, length-append, take}
use Rattle.std.proofs.Common.{drop, Option, Some, None, refl, sym, ap, subst, ◌∙◌, append-nil, append_assoc, take-append-drop, inl, inr, arith}
use Rattle.std.specs.Prelude.{IsTrue}
use Rattle.std.proofs.lemmas.List.{drop-append-le, length-take-le}
use Rattle.std.proofs.KnownBytes.{Appends-kept, Appends-nil}
use Rattle.std.specs.FinMap.{get}
use Rattle.std.specs.Io.KnownBytes.{Appends, Keeps}
use Rattle.outboxes.specs.Boxes.{Boxes, oldest, taken}
use Rattle.outboxes.specs.Messages.{ReplyMessage, record_of}
use Rattle.tcp_front.specs.Writing.{records_of}
use Rattle.connections.specs.declared.due.Due.{Due}
use Rattle.connections.specs.declared.told.Told.{Told}
use Rattle.connections.specs.declared.told.Told.TheVariants as tolds
use Rattle.connections.specs.declared.watched.Watched.{Watched}
use Rattle.connections.specs.declared.writing.Sent.{Sent}
use Rattle.connections.specs.declared.writing.Sent.TheVariants as sents
use Rattle.connections.specs.Told.{device_of, HasCalled, HasGiven, MovesAtMost}
use Rattle.connections.specs.Rests.{list_of}
use Rattle.connections.specs.Incoming.{Incoming, GivesNone}
use Rattle.connections.specs.Taking.{Takes}
use Rattle.connections.specs.Connections.{without_reply}
use Rattle.connections.specs.Joining.{HasJoined}
use Rattle.connections.specs.Owing.{Pays}
use Rattle.connections.specs.Writing.{ComesTo, HasSent, HasWrittenParts, IsOutcome, TellsSent}
use Rattle.connections.specs.lemmas.Owing.{pays-first, pays-more}
use Rattle.connections.specs.lemmas.Taking.{takes-first, takes-more, takes-none, takes-out}
use Rattle.connections.specs.lemmas.Writing.{record-some, records-append}

-- ---- what is offered

pub first-some : (first rest : List ℕ) → (first ≡ [] → rest ≡ []) → 0 < length rest → 0 < length first
first-some [] rest h some = let e : length rest ≡ 0 = ap (λ (l : List ℕ). length l) (h refl) in absurd (omega (arith, e, some))
first-some (x ∷ xs) rest h some = omega arith

pub rest-left : (first others rest rest' : List ℕ) (moved : ℕ) → rest ≡ first ++ others → moved ≤ length first
    → rest' ≡ drop moved rest → rest' ≡ drop moved first ++ others
rest-left first others rest rest' moved is within e = e ∙ ap (drop moved) is ∙ drop-append-le moved first others within

-- a rest is empty where what it offers first is
pub empty-is : (xs first others : List ℕ) (b : Bool) → xs ≡ first ++ others → (first ≡ [] → xs ≡ []) → b ≡ (length first == 0)
    → (IsTrue b → xs ≡ []) × (xs ≡ [] → IsTrue b)
empty-is xs [] others b is some e = (λ t. some refl, λ n. e)
empty-is xs (y ∷ ys) others b is some e =
    let none : (length (y ∷ ys) == 0) ≡ false = ne_eqb (length (y ∷ ys)) 0 (λ z. omega (arith, z)) in
    let size : length xs ≡ length ((y ∷ ys) ++ others) = ap (λ (l : List ℕ). length l) is in (
      λ t. absurd (true≢false (sym t ∙ e ∙ none)),
      λ n. let zero : length xs ≡ 0 = ap (λ (l : List ℕ). length l) n in absurd (omega (arith, size, zero)),
    )

-- ---- the device's answer

module _ {D : Type 0} (unread : D → Incoming) (written : D → Option (List ℕ)) (old new : Watched D) (waiting piece behind : List ℕ)
    (is : waiting ≡ piece ++ behind) (apart : GivesNone (unread (device_of old)) (unread (device_of new))) (some : 0 < length piece)
    (moved : ℕ) (rest' : List ℕ) (rest_is : rest' ≡ drop moved piece ++ behind) where
  -- some went out
  split-at : waiting ≡ take moved piece ++ rest'
  split-at =
      is ∙ ap (λ (l : List ℕ). l ++ behind) (sym (take-append-drop moved piece))
      ∙ append_assoc (take moved piece) (drop moved piece) behind ∙ ap (λ (l : List ℕ). take moved piece ++ l) (sym rest_is)

  -- none did
  unmoved : moved ≡ 0 → waiting ≡ rest'
  unmoved e = is ∙ sym (rest_is ∙ ap (λ (k : ℕ). drop k piece ++ behind) e)

  kept-out : Keeps (written (device_of old)) (written (device_of new)) → Appends (written (device_of old)) (written (device_of new)) []
  kept-out k = Appends-kept (written (device_of old)) (written (device_of old)) (written (device_of new)) []
      (Appends-nil (written (device_of old))) k

  pub sent-by : (told : Told) (result : Sent) → IsOutcome told (length piece) moved result → MovesAtMost told piece
      → HasGiven (written (device_of old)) (written (device_of new)) told piece → HasCalled old (length piece) told new
      → HasSent unread written old waiting result new rest'
  sent-by (tolds.Moved n) sents.All o bound out called = absurd o
  sent-by (tolds.Moved n) sents.More o bound out called =
      let m = o.0 in
      let at_least = o.1 in
      let positive = o.2 in
      let at_most = bound.0 in
      let n-is : n ≡ moved = omega (arith, m, at_least, at_most) in
      let within : moved ≤ length piece = omega (arith, m) in
      let size : length (take moved piece) ≡ moved = length-take-le moved piece within in
      let told-is : n ≡ length (take moved piece) = n-is ∙ sym size in
      let offered-is : length piece ≡ length (take moved piece) = sym m ∙ sym size in
      record {
        sent = take moved piece;
        split = split-at;
        went_out = subst (λ (k : ℕ). Appends (written (device_of old)) (written (device_of new)) (take k piece)) n-is out;
        apart = apart;
        comes_to = (
          subst (λ (k : ℕ). HasCalled old k (tolds.Moved (length (take moved piece))) new) offered-is
              (subst (λ (k : ℕ). HasCalled old (length piece) (tolds.Moved k) new) told-is called),
          omega (arith, told-is, positive),
        );
      }
  sent-by (tolds.Moved n) sents.Blocked o bound out called =
      let m = o.0 in
      let fewer = o.1 in
      let positive = o.2 in
      let within : moved ≤ length piece = omega (arith, m, fewer) in
      let size : length (take moved piece) ≡ moved = length-take-le moved piece within in
      let told-is : n ≡ length (take moved piece) = sym m ∙ sym size in
      record {
        sent = take moved piece;
        split = split-at;
        went_out = subst (λ (k : ℕ). Appends (written (device_of old)) (written (device_of new)) (take k piece)) (sym m) out;
        apart = apart;
        comes_to = (
          length piece,
          omega (arith, told-is, fewer),
          inl (subst (λ (k : ℕ). HasCalled old (length piece) (tolds.Moved k) new) told-is called, omega (arith, told-is, positive)),
        );
      }
  sent-by (tolds.Moved n) sents.Failed o bound out called = record {
    sent = [];
    split = unmoved o.0;
    went_out = subst (λ (k : ℕ). Appends (written (device_of old)) (written (device_of new)) (take k piece)) o.1 out;
    apart = apart;
    comes_to = (refl, (length piece, inl (subst (λ (k : ℕ). HasCalled old (length piece) (tolds.Moved k) new) o.1 called)));
  }
  sent-by tolds.Blocked sents.All o bound out called = absurd o
  sent-by tolds.Blocked sents.More o bound out called = absurd o
  sent-by tolds.Blocked sents.Blocked o bound out called = record {
    sent = [];
    split = unmoved o;
    went_out = kept-out out;
    apart = apart;
    comes_to = (length piece, some, inr (called, refl));
  }
  sent-by tolds.Blocked sents.Failed o bound out called = absurd o
  sent-by tolds.Failed sents.All o bound out called = absurd o
  sent-by tolds.Failed sents.More o bound out called = absurd o
  sent-by tolds.Failed sents.Blocked o bound out called = absurd o
  sent-by tolds.Failed sents.Failed o bound out called = record {
    sent = [];
    split = unmoved o;
    went_out = kept-out out;
    apart = apart;
    comes_to = (refl, (length piece, inr called));
  }

-- ---- what is taken, and written once

module _ {D : Type 0} (unread : D → Incoming) (written : D → Option (List ℕ)) (number : ℕ) (old new : Watched D) (boxes boxes' : Boxes)
    (owed owed' : Due) (alone : Option ReplyMessage) (before buffer : List ℕ) (rest rest' : List ℕ)
    (h : HasJoined number boxes before owed alone boxes' buffer owed') (blank : before ≡ []) (none : rest ≡ []) where
  all-joined : rest ++ records_of (h.joined ++ list_of alone) ≡ buffer ++ records_of (list_of alone)
  all-joined =
      ap (λ (l : List ℕ). l ++ records_of (h.joined ++ list_of alone)) none ∙ records-append h.joined (list_of alone)
      ∙ ap (λ (l : List ℕ). l ++ records_of (list_of alone)) (sym (h.bytes_are ∙ ap (λ (l : List ℕ). l ++ records_of h.joined) blank))

  tells-of : (r : Sent) (sent : List ℕ) → (r ≡ sents.All → ⊥) → ComesTo r old sent rest' new
      → TellsSent r old sent rest' (get boxes'.waiting number) new
  tells-of sents.All sent n c = absurd (n refl)
  tells-of sents.More sent n c = c
  tells-of sents.Blocked sent n c = c
  tells-of sents.Failed sent n c = c

  pub parts : (result : Sent) (waiting : List ℕ) → waiting ≡ buffer ++ records_of (list_of alone)
      → HasSent unread written old waiting result new rest' → (result ≡ sents.All → ⊥)
      → HasWrittenParts unread written number old rest boxes owed result new rest' boxes' owed'
  parts result waiting w s n = record {
    taken = h.joined ++ list_of alone;
    sent = s.sent;
    takes = h.takes;
    pays = h.pays;
    split = all-joined ∙ sym w ∙ s.split;
    went_out = s.went_out;
    apart = s.apart;
    tells = tells-of result s.sent n s.comes_to;
  }

pub some-waits : (rest buffer : List ℕ) (m : ReplyMessage) → rest ≡ drop 0 buffer ++ records_of (m ∷ []) → 0 < length rest
some-waits rest buffer m e =
    let first = record-some m in
    let size : length rest ≡ length buffer + length (records_of (m ∷ [])) =
    ap (λ (l : List ℕ). length l) e ∙ length-append buffer (records_of (m ∷ [])) in
    let record_size : length (records_of (m ∷ [])) ≡ length (record_of m) + 0 = length-append (record_of m) [] in
    omega (arith, first, size, record_size)

-- what waited already
pub parts-rest : {D : Type 0} (unread : D → Incoming) (written : D → Option (List ℕ)) (number : ℕ) (old new : Watched D) (boxes : Boxes)
    (owed : Due) (rest rest' : List ℕ) (result : Sent) → HasSent unread written old rest result new rest' → (result ≡ sents.All → ⊥)
    → HasWrittenParts unread written number old rest boxes owed result new rest' boxes owed
parts-rest unread written number old new boxes owed rest rest' result s n = record {
  taken = [];
  sent = s.sent;
  takes = takes-none number boxes;
  pays = refl;
  split = append-nil rest ∙ s.split;
  went_out = s.went_out;
  apart = s.apart;
  tells = by result n s.comes_to;
}
  where
    by : (r : Sent) → (r ≡ sents.All → ⊥) → ComesTo r old s.sent rest' new → TellsSent r old s.sent rest' (get boxes.waiting number) new
    by sents.All n c = absurd (n refl)
    by sents.More n c = c
    by sents.Blocked n c = c
    by sents.Failed n c = c

-- ---- records that are joined

module _ (number : ℕ) (first last : Boxes) (before mid : List ℕ) (owed due : Due) (ms : List ReplyMessage) (so : Takes number ms first last)
    (paid : Pays ms owed due) (are : mid ≡ before ++ records_of ms) where
  pub joined-more : (m : ReplyMessage) (bytes new : List ℕ) → Some m ≡ oldest number last → bytes ≡ record_of m → new ≡ mid ++ bytes
      → Takes number (ms ++ m ∷ []) first (taken number last) × (new ≡ before ++ records_of (ms ++ m ∷ []))
  joined-more m bytes new e b n = (
    takes-more number ms (m ∷ []) first last (taken number last) so (takes-first number last m e),
    n ∙ ap (λ (l : List ℕ). l ++ bytes) are ∙ append_assoc before (records_of ms) bytes
        ∙ ap (λ (l : List ℕ). before ++ (records_of ms ++ l)) (b ∙ sym (append-nil (record_of m)))
        ∙ ap (λ (l : List ℕ). before ++ l) (sym (records-append ms (m ∷ []))),
  )

  -- the room of a record is paid with it
  pub paid-more : (m : ReplyMessage) (room : ℕ) (due' : Due) → length (record_of m) ≤ room → due' ≡ without_reply room due
      → Pays (ms ++ m ∷ []) owed due'
  paid-more m room due' fits e = pays-more ms (m ∷ []) owed due due' paid (pays-first m room due due' fits e)

  pub joined-alone : (m : ReplyMessage) (room : ℕ) (due' : Due) → Some m ≡ oldest number last → length (record_of m) ≤ room
      → due' ≡ without_reply room due → HasJoined number first before owed (Some m) (taken number last) mid due'
  joined-alone m room due' e fits less = record {
    joined = ms;
    pays = paid-more m room due' fits less;
    takes = takes-more number ms (m ∷ []) first last (taken number last) so (takes-first number last m e);
    bytes_are = are;
    out = tt;
  }

  pub joined-all : None ≡ oldest number last → HasJoined number first before owed None (taken number last) mid due
  joined-all e =
      let o = takes-out number last e in record {
        joined = ms;
        pays = pays-more ms [] owed due due paid refl;
        takes = takes-more number ms [] first last (taken number last) so o.0;
        bytes_are = are;
        out = o.1;
      }
