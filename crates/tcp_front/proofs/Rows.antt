-- Records that go out one after another.
use Rattle.std.proofs.Common.{◌≡◌, ℕ, ◌+◌, List, [], ◌∷◌, ◌++◌, length, length-append, Option, sym, ap, subst, ◌∙◌}
use Rattle.std.proofs.Common.{append_assoc, append-nil, arith}
use Rattle.std.proofs.KnownBytes.{Appends-trans}
use Rattle.std.specs.Io.KnownBytes.{Appends}
use Rattle.outboxes.specs.Messages.{ReplyMessage, record_of}
use Rattle.tcp_front.specs.Writing.{records_of, counted}

records-push : (ms : List ReplyMessage) (m : ReplyMessage) → records_of (ms ++ m ∷ []) ≡ records_of ms ++ record_of m
records-push [] m = append-nil (record_of m)
records-push (x ∷ ms) m = ap (λ (l : List ℕ). record_of x ++ l) (records-push ms m)
    ∙ sym (append_assoc (record_of x) (records_of ms) (record_of m))

pub row-went-out : (a b c : Option (List ℕ)) (ms : List ReplyMessage) (m : ReplyMessage) → Appends a b (records_of ms)
    → Appends b c (record_of m)
    → Appends a c (records_of (ms ++ m ∷ []))
row-went-out a b c ms m h k = subst (Appends a c) (sym (records-push ms m)) (Appends-trans a b c _ _ h k)

pub counted-row : (ms : List ReplyMessage) (m : ReplyMessage) (old new size : ℕ)
    → old ≡ counted (length (records_of ms)) → size ≡ length (record_of m)
    → new ≡ counted (old + size) → new ≡ counted (length (records_of (ms ++ m ∷ [])))
counted-row ms m old new size e s h =
    let all : length (records_of (ms ++ m ∷ [])) ≡ length (records_of ms) + length (record_of m) =
    ap (λ (l : List ℕ). length l) (records-push ms m) ∙ length-append (records_of ms) (record_of m) in
    omega (arith, e, s, h, all)
