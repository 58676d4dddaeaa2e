-- Takings and givings, one after another.
use Rattle.std.proofs.Common.{◌≡◌, ◌≢◌, ℕ, ◌+◌, Bool, List, Option, Some, None, refl, sym, ◌∙◌, ap, subst, arith, slice_get, ⊎_elim}
use Rattle.std.specs.Prelude.{if◌then◌else◌}
use Rattle.std.proofs.lemmas.Bool.{cases_eq}
use Rattle.parcels.specs.Slots.{alone, or_else, in_slot, in_places}
use Rattle.parcels.specs.Moved.{Moved}
use Rattle.parcels.proofs.PlaceLemmas.{alone-there, alone-none, in_places-same, in_places-any}

module _ {T : Type 0} where
  pub moved-same : (a s b : Option T) → s ≡ None → Moved a s b → b ≡ a
  moved-same a s b e m = subst (λ o. Moved a o b) e m

  -- what isn't there before isn't there after
  pub moved-stays : (a s b : Option T) → a ≡ None → Moved a s b → b ≡ None
  moved-stays a None b e m = m ∙ e
  moved-stays a (Some x) b e m = m.1

  -- two takings
  moved-both : (a s b t c : Option T) → Moved a s b → Moved b t c → Moved a (or_else s t) c
  moved-both a None b t c m n = subst (λ o. Moved o t c) m n
  moved-both a (Some x) b None c m n = (m.0, n ∙ m.1)
  moved-both a (Some x) b (Some y) c m n = absurd (let no : None ≡ Some y = sym m.1 ∙ n.0 in cc)

  -- two givings
  given-both : (a s b t c : Option T) → Moved b s a → Moved c t b → Moved c (or_else s t) a
  given-both a None b t c m n = subst (λ o. Moved c t o) (sym m) n
  given-both a (Some x) b None c m n = (sym n ∙ m.0, m.1)
  given-both a (Some x) b (Some y) c m n = absurd (let no : None ≡ Some x = sym n.1 ∙ m.0 in cc)

  -- one parcel is taken
  moved-alone : (f g : ℕ → Option T) (n : ℕ) (x : T) → f n ≡ Some x → g n ≡ None → ((k : ℕ) → k ≢ n → g k ≡ f k) → (k : ℕ) → Moved (f k) (alone n x k) (g k)
  moved-alone f g n x there gone others k =
      ⊎_elim
      (λ (e : k ≡ n). subst (λ j. Moved (f j) (alone n x j) (g j)) (sym e) (subst (λ o. Moved (f n) o (g n)) (sym (alone-there n x)) (there, gone)))
      (λ (e : k ≡ n → ⊥). subst (λ o. Moved (f k) o (g k)) (sym (alone-none n x k e)) (others k e))
      (cases_eq k n)

  -- one parcel is given
  given-alone : (f g : ℕ → Option T) (n : ℕ) (x : T) → f n ≡ None → g n ≡ Some x → ((k : ℕ) → k ≢ n → g k ≡ f k) → (k : ℕ) → Moved (g k) (alone n x k) (f k)
  given-alone f g n x vacant there others = moved-alone g f n x there vacant (λ k e. sym (others k e))

  -- a parcel that was taken is gone
  pub gone-alone : (f g : ℕ → Option T) (n : ℕ) (x : T) → ((k : ℕ) → Moved (f k) (alone n x k) (g k)) → g n ≡ None
  gone-alone f g n x m = (let both : Moved (f n) (Some x) (g n) = subst (λ o. Moved (f n) o (g n)) (alone-there n x) (m n) in both).1

  -- all else is as before
  pub taken-others : (f g : ℕ → Option T) (n : ℕ) (x : T) → ((k : ℕ) → Moved (f k) (alone n x k) (g k)) → (k : ℕ) → k ≢ n → g k ≡ f k
  taken-others f g n x m k e = moved-same (f k) (alone n x k) (g k) (alone-none n x k e) (m k)

  pub given-others : (f g : ℕ → Option T) (n : ℕ) (x : T) → ((k : ℕ) → Moved (g k) (alone n x k) (f k)) → (k : ℕ) → k ≢ n → g k ≡ f k
  given-others f g n x m k e = sym (taken-others g f n x m k e)

  module _ {H : Type 0} (u : ℕ → Bool) (p : ℕ → H → ℕ → Option T) where
    -- no slot yet
    pub moved-none : (xs : List (Option H)) (f : ℕ → Option T) (k : ℕ) → Moved (f k) (in_places u (λ j held. p j held k) xs 0) (f k)
    unfolding in_places
    moved-none xs f k = refl

-- a parcel was taken at a number, told in two ways
pub taken-at : {T : Type 0} (f g : ℕ → Option T) (n m : ℕ) (x : T) → n ≡ m → f n ≡ Some x → g n ≡ None → ((k : ℕ) → k ≢ n → g k ≡ f k) → (k : ℕ)
    → Moved (f k) (alone m x k) (g k)
taken-at f g n m x e there gone others k = subst (λ j. Moved (f k) (alone j x k) (g k)) e (moved-alone f g n x there gone others k)

pub given-at : {T : Type 0} (f g : ℕ → Option T) (n m : ℕ) (x : T) → n ≡ m → f m ≡ None → g n ≡ Some x → ((k : ℕ) → k ≢ n → g k ≡ f k) → (k : ℕ)
    → Moved (g k) (alone m x k) (f k)
given-at f g n m x e vacant there others k = subst (λ j. Moved (g k) (alone j x k) (f k)) e (given-alone f g n x (ap f e ∙ vacant) there others k)

module _ {T : Type 0} (f g h : ℕ → Option T) (s t : ℕ → Option T) where
  -- a taking by the shelf as a whole, and one after it
  pub taken-both : ((k : ℕ) → Moved (f k) (s k) (g k)) → ((k : ℕ) → Moved (g k) (t k) (h k)) → (k : ℕ) → Moved (f k) (or_else (s k) (t k)) (h k)
  taken-both m n k = moved-both (f k) (s k) (g k) (t k) (h k) (m k) (n k)

  -- a giving, and one after it
  pub put-both : ((k : ℕ) → Moved (g k) (s k) (f k)) → ((k : ℕ) → Moved (h k) (t k) (g k)) → (k : ℕ) → Moved (h k) (or_else (s k) (t k)) (f k)
  put-both m n k = given-both (f k) (s k) (g k) (t k) (h k) (m k) (n k)

module _ {T H : Type 0} (u : ℕ → Bool) (p : ℕ → H → ℕ → Option T) where
  -- what is in a slot more, if it is in use, was taken and put there
  pub gathered-step : (xs ys : List (Option H)) (i : ℕ) (slot : Option H) (f g h : ℕ → Option T)
      → slice_get ys i ≡ Some slot → ((j : ℕ) → j ≢ i → slice_get ys j ≡ slice_get xs j)
      → ((k : ℕ) → Moved (f k) (in_places u (λ j held. p j held k) xs i) (g k))
      → ((k : ℕ) → Moved (g k) (if u i then in_slot (λ held. p i held k) (Some slot) else None) (h k))
      → (k : ℕ) → Moved (f k) (in_places u (λ j held. p j held k) ys (i + 1)) (h k)
  gathered-step xs ys i slot f g h there others before step k =
      subst (λ o. Moved (f k) o (h k))
      (sym (in_places-any u (λ j held. p j held k) ys i slot there
      ∙ ap (λ o. or_else o (if u i then in_slot (λ held. p i held k) (Some slot) else None))
      (in_places-same u (λ j held. p j held k) xs ys i (λ j l. others j (λ (same : j ≡ i). let no : ⊥ = omega arith in no)))))
      (moved-both (f k) (in_places u (λ j held. p j held k) xs i) (g k) (if u i then in_slot (λ held. p i held k) (Some slot) else None) (h k)
      (before k) (step k))

  -- what is in a slot more was given back, if the slot is in use
  pub scattered-any : (xs : List (Option H)) (i : ℕ) (slot : Option H) (f g h : ℕ → Option T)
      → slice_get xs i ≡ Some slot
      → ((k : ℕ) → Moved (g k) (in_places u (λ j held. p j held k) xs i) (f k))
      → ((k : ℕ) → Moved (h k) (if u i then in_slot (λ held. p i held k) (Some slot) else None) (g k))
      → (k : ℕ) → Moved (h k) (in_places u (λ j held. p j held k) xs (i + 1)) (f k)
  scattered-any xs i slot f g h there before step k =
      subst (λ o. Moved (h k) o (f k)) (sym (in_places-any u (λ j held. p j held k) xs i slot there))
      (given-both (f k) (in_places u (λ j held. p j held k) xs i) (g k) (if u i then in_slot (λ held. p i held k) (Some slot) else None) (h k)
      (before k) (step k))
