-- Places as keys.
use Rattle.std.proofs.Common.{◌≡◌, ◌⊎◌, ℕ, ◌+◌, ◌*◌, ◌/◌, ◌%◌, ◌<◌, ◌≤◌, ◌==◌, ◌&&◌, Bool, true, false, refl, sym, ap, ◌∙◌, inl, inr, arith, Ordering, eq-eqb}
use Rattle.std.proofs.Common.{Option, Some, None, IsSome}
use Rattle.std.specs.declared.cmp.Ordering.TheVariants.{Less, Equal, Greater}
use Rattle.std.specs.Ordering.{nat_cmp, is_eq, is_gt, eq_by_cmp, ordering_then}
use Rattle.std.specs.Cmp.{unsigned_tied, eq_by_cmp_equiv, nat_cmp_is}
use Rattle.std.specs.BTreeMap.{is_at}
use Rattle.nfs_model.specs.volume.Stripes.{FileBlock, file_block_cmp, span_blocks}
use Rattle.nfs_model.specs.volume.lemmas.Entries.{place_total, place_same}
use Rattle.stripes.specs.Spans.{Places, span_of}
use Rattle.stripes.proofs.Places.{unlike}
use Rattle.std.proofs.lemmas.Bool.{cases_eq, cases_lt}

equal : (r : Ordering) → is_eq r ≡ true → r ≡ Equal
equal Less e = absurd (let no : false ≡ true = e in cc)
equal Equal e = refl
equal Greater e = absurd (let no : false ≡ true = e in cc)

then-equal : (r s : Ordering) → is_eq (ordering_then r s) ≡ (is_eq r && is_eq s)
then-equal Less s = refl
then-equal Equal s = refl
then-equal Greater s = refl

-- a key is at a place exactly where both numbers are the same
pub key-test : (k p : FileBlock) → is_at (file_block_cmp k) p ≡ ((k.0 == p.0) && (k.1 == p.1))
key-test k p =
    then-equal (nat_cmp k.0 p.0) (nat_cmp k.1 p.1) ∙ ap (λ b. b && is_eq (nat_cmp k.1 p.1)) (unsigned_tied k.0 p.0)
    ∙ ap (λ b. (k.0 == p.0) && b) (unsigned_tied k.1 p.1)

pub key-same : (k p : FileBlock) → is_at (file_block_cmp k) p ≡ true → k ≡ p
key-same k p e = place_same k p (equal (file_block_cmp k p) e)

-- the order of the two doesn't matter
pub key-turned : (k p : FileBlock) → is_at (file_block_cmp k) p ≡ eq_by_cmp file_block_cmp p k
key-turned k p = (eq_by_cmp_equiv place_total).symm k p

pub key-cases : (k p : FileBlock) → (k ≡ p) ⊎ (is_at (file_block_cmp k) p ≡ false)
key-cases k p = by (is_at (file_block_cmp k) p) refl
  where
    by : (b : Bool) → is_at (file_block_cmp k) p ≡ b → (k ≡ p) ⊎ (is_at (file_block_cmp k) p ≡ false)
    by true e = inl (key-same k p e)
    by false e = inr e

pub key-itself : (k : FileBlock) → is_at (file_block_cmp k) k ≡ true
key-itself k = key-test k k ∙ ap (λ b. b && (k.1 == k.1)) (eq-eqb k.0 k.0 refl) ∙ eq-eqb k.1 k.1 refl

-- a block of another span is another block
pub key-other : (fileid number : ℕ) (p : FileBlock) → is_at (file_block_cmp (span_of (fileid, number))) (span_of p) ≡ false
    → is_at (file_block_cmp (fileid, number)) p ≡ false
key-other fileid number p apart = by (is_at (file_block_cmp (fileid, number)) p) refl
  where
    by : (b : Bool) → is_at (file_block_cmp (fileid, number)) p ≡ b → is_at (file_block_cmp (fileid, number)) p ≡ false
    by true e = absurd (let same = key-same (fileid, number) p e in
        let no : true ≡ false = sym (key-itself (span_of p)) ∙ sym (ap (λ q. is_at (file_block_cmp (span_of q)) (span_of p)) same) ∙ apart in cc)
    by false e = e

-- in one span, a block is known by its place
pub key-within : (fileid span i : ℕ) (p : FileBlock) → i < span_blocks → (fileid, span) ≡ span_of p
    → is_at (file_block_cmp (fileid, span_blocks * span + i)) p ≡ (p.1 % span_blocks == i)
key-within fileid span i p within same =
    let file : fileid ≡ p.0 = ap (λ (q : FileBlock). q.0) same in
    let number : span ≡ p.1 / span_blocks = ap (λ (q : FileBlock). q.1) same in
    key-test (fileid, span_blocks * span + i) p
    ∙ ap (λ b. b && (span_blocks * span + i == p.1)) (eq-eqb fileid p.0 file)
    ∙ elim (cases_eq (p.1 % span_blocks) i) [
      | inl e ↦ eq-eqb _ _ (omega arith) ∙ sym (eq-eqb _ _ e)
      | inr n ↦ unlike _ _ (λ h. n (omega arith)) ∙ sym (unlike _ _ n)
    ]

-- ---- the order of keys

abbrev le-key : FileBlock → FileBlock → Type 0
le-key a b = is_gt (file_block_cmp a b) ≡ false

after-file : (a b : FileBlock) → b.0 < a.0 → le-key a b → ⊥
after-file a b h le =
    let e : nat_cmp a.0 b.0 ≡ Greater = sym (nat_cmp_is a.0 b.0 Greater h) in
    let no : true ≡ false = sym (ap (λ r. is_gt (ordering_then r (nat_cmp a.1 b.1))) e) ∙ le in cc

after-span : (a b : FileBlock) → a.0 ≡ b.0 → b.1 < a.1 → le-key a b → ⊥
after-span a b same h le =
    let e : nat_cmp a.0 b.0 ≡ Equal = sym (nat_cmp_is a.0 b.0 Equal same) in
    let g : nat_cmp a.1 b.1 ≡ Greater = sym (nat_cmp_is a.1 b.1 Greater h) in
    let no : true ≡ false = sym (ap is_gt g) ∙ sym (ap (λ r. is_gt (ordering_then r (nat_cmp a.1 b.1))) e) ∙ le in cc

pub upto-span : (f s t : ℕ) → s ≤ t → is_gt (file_block_cmp (f, s) (f, t)) ≡ false
upto-span f s t h =
    let e : nat_cmp f f ≡ Equal = sym (nat_cmp_is f f Equal refl) in
    ap (λ r. is_gt (ordering_then r (nat_cmp s t))) e ∙ elim (cases_eq s t) [
      | inl same ↦ ap is_gt (sym (nat_cmp_is s t Equal same))
      | inr other ↦ ap is_gt (sym (nat_cmp_is s t Less (omega arith)))
    ]

not-some : {A : Type 0} (o : Option A) → (IsSome o → ⊥) → o ≡ None
not-some None h = refl
not-some (Some x) h = absurd (h refl)

-- before the first key of a range there is no span
pub none-before : (o : Option Places) (k : FileBlock) (f t : ℕ) → (IsSome o → is_gt (file_block_cmp k (f, t)) ≡ false) → k.0 ≡ f → t < k.1 → o ≡ None
none-before o k f t first same below = not-some o (λ some. after-span k (f, t) same below (first some))

-- nor is there one of a file before it
pub none-of-file : (o : Option Places) (k : FileBlock) (f from t : ℕ) → is_gt (file_block_cmp (f, from) k) ≡ false
    → (IsSome o → is_gt (file_block_cmp k (f, t)) ≡ false) → (k.0 ≡ f → ⊥) → o ≡ None
none-of-file o k f from t within first other = not-some o (λ some. elim (cases_lt f k.0) [
  | inl h ↦ after-file k (f, t) h (first some)
  | inr h ↦ after-file (f, from) k (let g : k.0 < f = omega arith in g) within
])

pub key-apart : (k q : FileBlock) → is_at (file_block_cmp k) q ≡ false → k.0 ≡ q.0 → k.1 ≡ q.1 → ⊥
key-apart k q other a b =
    let is : is_at (file_block_cmp k) q ≡ true = key-test k q ∙ ap (λ t. t && (k.1 == q.1)) (eq-eqb _ _ a) ∙ eq-eqb _ _ b in
    let no : true ≡ false = sym is ∙ other in cc
