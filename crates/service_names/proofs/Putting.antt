-- Cards of a new node put into the places of stripes, from the last down to the first, or taken out of them.
use Rattle.std.proofs.Common.{◌≡◌, ◌≢◌, ℕ, zero, suc, ◌+◌, ◌-◌, ◌<◌, ◌≤◌, ◌==◌, Bool, true, false, List, [], ◌∷◌, length, Option, Some, None}
use Rattle.std.proofs.Common.{Result, Ok, Err, refl, sym, ap, ◌∙◌, subst, arith, ⊎_elim}
use Rattle.std.proofs.lemmas.Bool.{cases_eq, cases_lt}
use Rattle.std.specs.Prelude.{slice_get, slice_set, slice_index_or, OnOk, OnErr, if◌then◌else◌}
use Rattle.std.specs.FinMap.{FinMap, get, insert, remove}
use Rattle.std.specs.Ordering.{nat_cmp}
use Rattle.nfs_model.specs.Types.{Ownership}
use Rattle.nfs_model.specs.volume.Inodes.{InodeKind, RegularFile, DirectoryKind, SpecialFile}
use Rattle.nfs_model.specs.volume.Stripes.{StripeValue, OfFile, OfDirectory, touch_of, card_dropped}
use Rattle.nfs_model.specs.volume.lemmas.Numbered.{same-answers, get-insert_at, get-remove_at}
use Rattle.filer_state.specs.changes.NodesMade.{card_made}
use Rattle.service_names.specs.Cards.{InFirst}

-- ---- one card

-- whatever was put in under a key, the map without the key is the same
pub remove-put : {X : Type 0} (m : FinMap nat_cmp X) (k : ℕ) (x : X) → remove (insert m k x) k ≡ remove m k
remove-put m k x = same-answers (remove (insert m k x) k) (remove m k) (λ q.
    get-remove_at (insert m k x) k q ∙ ap (λ o. if q == k then None else o) (get-insert_at m k x q) ∙ by (q == k) (get m q)
    ∙ sym (get-remove_at m k q))
  where
    by : (b : Bool) (o : Option _) → (if b then None else (if b then Some x else o)) ≡ (if b then None else o)
    by true o = refl
    by false o = refl

module _ (f : ℕ) (owner : Ownership) (s : StripeValue) where
  made-else : (k : InodeKind) → card_dropped f (card_made owner k f s) ≡ card_dropped f s
  made-else (RegularFile size filled verifier) =
      ap (λ cards. record s { cards = cards }) (remove-put s.cards f (OfFile size (touch_of (get s.cards f)) owner))
  made-else (DirectoryKind parent subdirectories) = ap (λ cards. record s { cards = cards }) (remove-put s.cards f OfDirectory)
  made-else (SpecialFile special size) = ap (λ cards. record s { cards = cards }) (remove-put s.cards f OfDirectory)

  -- by what came of it
  pub put-else : {A E : Type 0} (k : InodeKind) (new : StripeValue) (r : Result A E) → OnOk r (new ≡ card_made owner k f s) → OnErr r (new ≡ s)
      → card_dropped f new ≡ card_dropped f s
  put-else k new (Ok x) ok err = ap (card_dropped f) ok ∙ made-else k
  put-else k new (Err e) ok err = ap (card_dropped f) err

-- ---- all places

module _ {A : Type 0} where
  set-here : (xs : List A) (i : ℕ) (x : A) → i < length xs → slice_get (slice_set xs i x) i ≡ Some x
  set-here [] i x less = absurd (omega arith)
  set-here (y ∷ ys) zero x less = refl
  set-here (y ∷ ys) (suc i) x less = set-here ys i x (omega arith)

  set-else : (xs : List A) (i k : ℕ) (x : A) → k ≢ i → slice_get (slice_set xs i x) k ≡ slice_get xs k
  set-else [] i k x ne = refl
  set-else (y ∷ ys) zero zero x ne = absurd (ne refl)
  set-else (y ∷ ys) zero (suc k) x ne = refl
  set-else (y ∷ ys) (suc i) zero x ne = refl
  set-else (y ∷ ys) (suc i) (suc k) x ne = set-else ys i k x (λ e. ne (ap suc e))

  set-long : (xs : List A) (i : ℕ) (x : A) → length (slice_set xs i x) ≡ length xs
  set-long [] i x = refl
  set-long (y ∷ ys) zero x = refl
  set-long (y ∷ ys) (suc i) x = ap suc (set-long ys i x)

  here-is : (xs : List A) (i : ℕ) (d x : A) → slice_get xs i ≡ Some x → slice_index_or xs i d ≡ x
  here-is [] i d x e = absurd cc
  here-is (y ∷ ys) zero d x e = cc
  here-is (y ∷ ys) (suc i) d x e = here-is ys i d x e

  same-some : (o : Option A) (x y : A) → o ≡ Some x → o ≡ Some y → y ≡ x
  same-some None x y e h = absurd cc
  same-some (Some z) x y e h = cc

  pub there : (xs : List A) (i : ℕ) → i < length xs → (x : A) × (slice_get xs i ≡ Some x)
  there [] i l = absurd (omega arith)
  there (y ∷ ys) zero l = (y, refl)
  there (y ∷ ys) (suc i) l = there ys i (omega arith)

  pub same-places : (xs ys : List A) → length ys ≡ length xs
      → ((i : ℕ) (x y : A) → slice_get xs i ≡ Some x → slice_get ys i ≡ Some y → y ≡ x) → ys ≡ xs
  same-places [] [] long same = refl
  same-places [] (y ∷ ys) long same = absurd (omega arith)
  same-places (x ∷ xs) [] long same = absurd (omega arith)
  same-places (x ∷ xs) (y ∷ ys) long same =
      let rest = same-places xs ys (omega arith) (λ i a b. same (suc i) a b) in
      λ j. same 0 x y refl refl j ∷ rest j

  module _ (Q : A → A → Type 0) (n : ℕ) (old : List A) where
    -- from a place on they are related to what they were; those before are as they were
    pub record AreFrom (left : ℕ) (now : List A) : Type 0 where
      pub long : length now ≡ length old
      pub first : (i : ℕ) (x y : A) → left ≤ i → i < n → slice_get old i ≡ Some x → slice_get now i ≡ Some y → Q x y
      pub before : (i : ℕ) (x y : A) → i < left → slice_get old i ≡ Some x → slice_get now i ≡ Some y → y ≡ x
      pub others : (i : ℕ) (x y : A) → n ≤ i → slice_get old i ≡ Some x → slice_get now i ≡ Some y → y ≡ x

    one-more : (i : ℕ) (now : List A) (d was here : A) → i < n → i < length now → slice_index_or now i d ≡ was → Q was here
        → AreFrom (i + 1) now → AreFrom i (slice_set now i here)
    one-more i now d was here less long is related t =
        let else_same : (k : ℕ) → k ≢ i → slice_get (slice_set now i here) k ≡ slice_get now k = λ k ne. set-else now i k here ne in
        record {
          long = set-long now i here ∙ t.long;
          first = λ k x y on below e h. ⊎_elim
              (λ (s : k ≡ i).
              let at_old : slice_get old i ≡ Some x = ap (slice_get old) (sym s) ∙ e in
              let at_new : slice_get (slice_set now i here) i ≡ Some y = ap (slice_get (slice_set now i here)) (sym s) ∙ h in
              let found = there now i long in
              let was_is : was ≡ found.0 = sym is ∙ here-is now i d found.0 found.1 in
              let kept : found.0 ≡ x = t.before i x found.0 (omega arith) at_old found.1 in
              let put : y ≡ here = same-some (slice_get (slice_set now i here) i) here y (set-here now i here long) at_new in
              subst (λ (b : A). Q x b) (sym put) (subst (λ (a : A). Q a here) (was_is ∙ kept) related))
              (λ (ne : k ≢ i). t.first k x y (omega (arith, ne)) below e (sym (else_same k ne) ∙ h))
              (cases_eq k i);
          before = λ k x y below e h. t.before k x y (omega arith) e (sym (else_same k (λ s. omega arith)) ∙ h);
          others = λ k x y on e h. t.others k x y on e (sym (else_same k (λ s. omega arith)) ∙ h);
        }

    -- one place more, by what comes into it
    pub place-more : (left : ℕ) (now : List A) (d was here : A) → 0 < left → left ≤ n → n ≤ length now → slice_index_or now (left - 1) d ≡ was → Q was here
        → AreFrom left now → AreFrom (left - 1) (slice_set now (left - 1) here)
    place-more zero now d was here some below long is related t = absurd (omega arith)
    place-more (suc i) now d was here some below long is related t =
        let down : suc i - 1 ≡ i = omega arith in
        let up : suc i ≡ i + 1 = omega arith in
        subst (λ (m : ℕ). AreFrom m (slice_set now m here)) (sym down)
        (one-more i now d was here (omega arith) (omega arith) (ap (λ (m : ℕ). slice_index_or now m d) (sym down) ∙ is) related
        (subst (λ (m : ℕ). AreFrom m now) up t))

    -- where what stays is related too, all are, wherever it ends
    pub in-first : ((x : A) → Q x x) → (left : ℕ) (now : List A) → AreFrom left now → InFirst Q n old now
    in-first same left now t = record {
      long = t.long;
      first = λ i x y less e h. ⊎_elim
          (λ (below : i < left). subst (Q x) (sym (t.before i x y below e h)) (same x))
          (λ (on : left ≤ i). t.first i x y on less e h)
          (cases_lt i left);
      others = t.others;
    }

    -- all of them
    pub all-first : (left : ℕ) (now : List A) → left ≤ 0 → AreFrom left now → InFirst Q n old now
    all-first left now none t = record {
      long = t.long;
      first = λ i x y less e h. t.first i x y (omega arith) less e h;
      others = t.others;
    }
