-- Records that go out many at once.
use Rattle.std.proofs.Common.{◌≡◌, ℕ, ◌+◌, ◌<◌, List, [], ◌∷◌, ◌++◌, length, length-append, take, Option, refl, sym, ap}
use Rattle.std.proofs.Common.{subst, ◌∙◌, append_assoc, arith}
use Rattle.std.proofs.lemmas.List.{append-nil, take-append-le}
use Rattle.std.proofs.Math.Seq.{take-append-add}
use Rattle.std.proofs.KnownBytes.{Appends-trans}
use Rattle.std.specs.Io.KnownBytes.{Appends}
use Rattle.outboxes.specs.Messages.{ReplyMessage, record_of}
use Rattle.tcp_front.specs.Writing.{records_of, counted}

records-append : (ms ks : List ReplyMessage) → records_of (ms ++ ks) ≡ records_of ms ++ records_of ks
records-append [] ks = refl
records-append (m ∷ ms) ks =
    ap (λ (l : List ℕ). record_of m ++ l) (records-append ms ks)
    ∙ sym (append_assoc (record_of m) (records_of ms) (records_of ks))

-- ---- in a buffer

pub joined-more : (ms : List ReplyMessage) (m : ReplyMessage) (old mid new bytes : List ℕ) → mid ≡ old ++ records_of ms
    → bytes ≡ record_of m
    → new ≡ mid ++ bytes → new ≡ old ++ records_of (ms ++ m ∷ [])
joined-more ms m old mid new bytes e b h =
    h ∙ ap (λ (l : List ℕ). l ++ bytes) e ∙ append_assoc old (records_of ms) bytes
    ∙ ap (λ (l : List ℕ). old ++ (records_of ms ++ l)) (b ∙ sym (append-nil (record_of m)))
    ∙ ap (λ (l : List ℕ). old ++ l) (sym (records-append ms (m ∷ [])))

-- ---- to a writer

module _ (a b : Option (List ℕ)) (ms : List ReplyMessage) (went : Appends a b (records_of ms)) (ks : List ReplyMessage)
    (bytes : List ℕ)
    (are : bytes ≡ records_of ks) where
  -- all of them
  pub all-went : (c : Option (List ℕ)) → Appends b c bytes → Appends a c (records_of (ms ++ ks))
  all-went c h =
      subst (Appends a c) (sym (records-append ms ks))
      (Appends-trans a b c _ _ went (subst (Appends b c) are h))

  pub all-counted : (before after : ℕ) → before ≡ counted (length (records_of ms)) → after ≡ counted (before + length bytes)
      → after ≡ counted (length (records_of (ms ++ ks)))
  all-counted before after e h =
      let size = ap (λ (l : List ℕ). length l) are in
      let both : length (records_of (ms ++ ks)) ≡ length (records_of ms) + length (records_of ks) =
      ap (λ (l : List ℕ). length l) (records-append ms ks) ∙ length-append (records_of ms) (records_of ks) in
      omega (arith, e, h, size, both)

  -- a beginning, with others behind that aren't begun
  module _ (others : List ReplyMessage) (begun : ℕ) (some : begun < length bytes) where
    all-are : records_of (ms ++ (ks ++ others)) ≡ records_of ms ++ (bytes ++ records_of others)
    all-are = records-append ms (ks ++ others) ∙ ap (λ (l : List ℕ). records_of ms ++ l) (records-append ks others)
        ∙ ap (λ (l : List ℕ). records_of ms ++ (l ++ records_of others)) (sym are)

    pub part-within : length (records_of ms) + begun < length (records_of (ms ++ (ks ++ others)))
    part-within =
        let size = ap (λ (l : List ℕ). length l) all-are in
        let outer = length-append (records_of ms) (bytes ++ records_of others) in
        let inner = length-append bytes (records_of others) in
        omega (arith, size, outer, inner, some)

    pub part-went : (c : Option (List ℕ)) → Appends b c (take begun bytes)
        → Appends a c (take (length (records_of ms) + begun) (records_of (ms ++ (ks ++ others))))
    part-went c h =
        let is : take (length (records_of ms) + begun) (records_of (ms ++ (ks ++ others))) ≡ records_of ms ++ take begun bytes =
        ap (take (length (records_of ms) + begun)) all-are ∙ take-append-add (records_of ms) (bytes ++ records_of others) begun
        ∙ ap (λ (l : List ℕ). records_of ms ++ l) (take-append-le begun bytes (records_of others) (omega (arith, some))) in
        subst (Appends a c) (sym is) (Appends-trans a b c _ _ went h)

    pub part-counted : (before told : ℕ) → before ≡ counted (length (records_of ms)) → told ≡ counted (before + begun)
        → told ≡ counted (length (records_of ms) + begun)
    part-counted before told e h = omega (arith, e, h)
