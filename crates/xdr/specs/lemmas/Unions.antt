-- The number before a union's arm.
use Rattle.std.proofs.Common.{◌≡◌, ◌≢◌, ℕ, ◌<◌, ◌^◌, true, false, if◌then◌else◌, eqb, List, ◌++◌, ◌⊎◌, Option, Some, None, Ok, Err, refl, sym, ap, subst, ◌∙◌}
use Rattle.std.proofs.Common.{append_assoc, inl, inr}
use Rattle.std.specs.Option.{IsSomeAnd}
use Rattle.std.specs.Int.{w32}
use Rattle.std.proofs.lemmas.Bool.{eqb-true, eqb-false, eq-eqb, ne_eqb}
use Rattle.xdr.specs.declared.fault.Fault.TheVariants.{BadEnum}
use Rattle.xdr.specs.Shape.{Shape, Case, NoCase, Value, word, spelling, discriminant, Fits}
use Rattle.xdr.specs.Reading.{◌>>=◌, Reads, number_at, is_union, read}
use Rattle.xdr.specs.lemmas.Steps.{bind_ok, chosen, ok_is}
use Rattle.xdr.specs.lemmas.Items.{Splits, Splits-then, Found, Again, word_found, word_again}

-- the value of an option of which a fact holds
some_and : (o : Option ℕ) (P : ℕ → Type 0) → IsSomeAnd o P → (x : ℕ) × (o ≡ Some x) × P x
some_and None P h = absurd h
some_and (Some x) P h = (x, refl, h)

-- what stands behind the number of a union
abbrev arm_of : (number : ℕ) (arm others : Shape) → List ℕ → ℕ × List ℕ → Reads (Value arm ⊎ Value others)
arm_of number arm others bytes n =
    if eqb n.0 number then (read arm n.1 >>= λ x. Ok (inl x.0, x.1))
    else if is_union others then (read others bytes >>= λ x. Ok (inr x.0, x.1))
    else Err BadEnum

-- the first arm, or one of the others
arm_is : (number : ℕ) (arm others : Shape) (bytes : List ℕ) (n : ℕ × List ℕ) (x : Value (Case number arm others) × List ℕ)
    → arm_of number arm others bytes n ≡ Ok x
    → ((n.0 ≡ number) × ((y : Value arm × List ℕ) × (read arm n.1 ≡ Ok y) × (x ≡ (inl y.0, y.1)))) ⊎
    ((n.0 ≢ number) × (is_union others ≡ true) × ((y : Value others × List ℕ) × (read others bytes ≡ Ok y) × (x ≡ (inr y.0, y.1))))
arm_is number arm others bytes n x e =
    elim (chosen (eqb n.0 number) (read arm n.1 >>= λ x. Ok (inl x.0, x.1))
    (if is_union others then (read others bytes >>= λ x. Ok (inr x.0, x.1)) else Err BadEnum) (Ok x) e) [
      | inl h ↦
          let q = bind_ok (read arm n.1) (λ x. Ok (inl x.0, x.1)) x h.1 in
          let made : Value (Case number arm others) × List ℕ = (inl q.0.0, q.0.1) in
          inl (eqb-true _ _ h.0, (q.0, q.1, sym (ok_is made x q.2)))
      | inr h ↦ elim (chosen (is_union others) (read others bytes >>= λ x. Ok (inr x.0, x.1)) (Err BadEnum) (Ok x) h.1) [
        | inl k ↦
            let q = bind_ok (read others bytes) (λ x. Ok (inr x.0, x.1)) x k.1 in
            let made : Value (Case number arm others) × List ℕ = (inr q.0.0, q.0.1) in
            inr (eqb-false _ _ h.0, k.0, (q.0, q.1, sym (ok_is made x q.2)))
        | inr k ↦ absurd cc
      ]
    ]

-- what is read behind a number has that number
discriminant_is : (shape : Shape) (bytes : List ℕ) (n : ℕ × List ℕ) (x : Value shape × List ℕ) → is_union shape ≡ true → number_at w32 bytes ≡ Ok n
    → read shape bytes ≡ Ok x → discriminant shape x.0 ≡ Some n.0
discriminant_is (Case number arm others) bytes n x u at e =
    let p = bind_ok (number_at w32 bytes) (arm_of number arm others bytes) x e in
    let same : n ≡ p.0 = ok_is n p.0 (sym at ∙ p.1) in
    let D : Value (Case number arm others) × List ℕ → Type 0 = λ y. discriminant (Case number arm others) y.0 ≡ Some n.0 in
    elim (arm_is number arm others bytes p.0 x p.2) [
      | inl h ↦ subst D (sym h.1.2) (ap (λ (m : ℕ). Some m) (sym (ap (λ (n : ℕ × List ℕ). n.0) same ∙ h.0)))
      | inr h ↦ subst D (sym h.2.2) (discriminant_is others bytes n h.2.0 h.1 at h.2.1)
    ]
discriminant_is NoCase bytes n x u at e =
    let p = bind_ok (number_at w32 bytes) (λ m. Err BadEnum) x e in absurd cc
discriminant_is shape bytes n x u at e = absurd cc

-- a union's spelling begins with its number
number_before : (shape : Shape) (v : Value shape) (rest : List ℕ) (n : ℕ) → discriminant shape v ≡ Some n → Fits shape v
    → (after : List ℕ) × (number_at w32 (spelling shape v ++ rest) ≡ Ok (n, after)) × (is_union shape ≡ true)
number_before (Case number arm others) (inl v) rest n e fits =
    let same : number ≡ n = cc in (
      spelling arm v ++ rest,
      ap (number_at w32) (append_assoc (word number) (spelling arm v) rest) ∙ word_again number (spelling arm v ++ rest) fits.0
          ∙ ap (λ (m : ℕ). Ok (m, spelling arm v ++ rest)) same,
      refl,
    )
number_before (Case number arm others) (inr v) rest n e fits =
    let b = number_before others v rest n e fits.1 in (b.0, b.1, refl)
number_before NoCase v rest n e fits = absurd fits
number_before shape v rest n e fits = absurd cc

pub case_found : (number : ℕ) (arm others : Shape) → Found (read arm) (spelling arm) (Fits arm) → Found (read others) (spelling others) (Fits others)
    → Found (read (Case number arm others)) (spelling (Case number arm others)) (Fits (Case number arm others))
case_found number arm others one more bytes x fits e =
    let p = bind_ok (number_at w32 bytes) (arm_of number arm others bytes) x e in
    let t = word_found bytes p.0 fits p.1 in
    let G : Value (Case number arm others) × List ℕ
    → Type 0 = λ y. Splits bytes (spelling (Case number arm others) y.0) y.1 × Fits (Case number arm others) y.0 in
    elim (arm_is number arm others bytes p.0 x p.2) [
      | inl h ↦
          let s = one p.0.1 h.1.0 t.0.rest_fits h.1.1 in
          let front : Splits bytes (word number) p.0.1 = subst (λ (n : ℕ). Splits bytes (word n) p.0.1) h.0 t.0 in
          subst G (sym h.1.2) (Splits-then bytes (word number) p.0.1 (spelling arm h.1.0.0) h.1.0.1 front s.0, (subst (λ (n : ℕ). n < 2 ^ 32) h.0 t.1, s.1))
      | inr h ↦
          let s = more bytes h.2.0 fits h.2.1 in
          let d = discriminant_is others bytes p.0 h.2.0 h.1 p.1 h.2.1 in
          subst G (sym h.2.2) (s.0, (subst (λ (o : Option ℕ). IsSomeAnd o (λ n. n ≢ number)) (sym d) h.0, s.1))
    ]

pub case_again : (number : ℕ) (arm others : Shape) → Again (read arm) (spelling arm) (Fits arm) → Again (read others) (spelling others) (Fits others)
    → Again (read (Case number arm others)) (spelling (Case number arm others)) (Fits (Case number arm others))
case_again number arm others one more (inl v) rest fits =
    let same : eqb number number ≡ true = eq-eqb number number refl in
    ap (read (Case number arm others)) (append_assoc (word number) (spelling arm v) rest)
    ∙ rw (word_again number (spelling arm v ++ rest) fits.0, same, one v rest fits.1) refl
case_again number arm others one more (inr v) rest fits =
    let d = some_and (discriminant others v) (λ n. n ≢ number) fits.0 in
    let b = number_before others v rest d.0 d.1 fits.1 in
    let differ : eqb d.0 number ≡ false = ne_eqb d.0 number d.2 in
    rw (b.1, differ, b.2, more v rest fits.1) refl
