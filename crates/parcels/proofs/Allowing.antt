-- What may be given to a shelf, part by part of a set.
use Rattle.std.proofs.Common.{◌≡◌, ℕ, zero, suc, ◌<◌, Bool, true, List, Option, Some, None, sym, ◌∙◌, ap, subst, arith, slice_get, ◌⊎◌, inl, inr, ⊎_elim}
use Rattle.std.specs.Prelude.{IfSome, if◌then◌else◌}
use Rattle.std.proofs.lemmas.Bool.{cases_eq}
use Rattle.parcels.specs.Slots.{alone, or_else, in_slot, in_used_place, in_places}
use Rattle.parcels.proofs.PlaceLemmas.{alone-there, alone-none, slot-none, used-none, in_places-none}

module _ {T : Type 0} where
  first : (a b : Option T) (Q : T → Type 0) → IfSome (or_else a b) Q → IfSome a Q
  first None b Q h = tt
  first (Some x) b Q h = h

  second : (a b : Option T) (Q : T → Type 0) → (a ≡ None) ⊎ (b ≡ None) → IfSome (or_else a b) Q → IfSome b Q
  second a b Q (inl e) h = subst (λ o. IfSome (or_else o b) Q) e h
  second a b Q (inr e) h = subst (λ o. IfSome o Q) (sym e) tt

  weaker : (a : Option T) (Q Z : T → Type 0) → ((x : T) → Q x → Z x) → IfSome a Q → IfSome a Z
  weaker None Q Z over h = tt
  weaker (Some x) Q Z over h = over x h

  -- what is allowed on one shelf is so on another
  pub allowed-over : (s : ℕ → Option T) (Q Z : ℕ → T → Type 0) → ((k : ℕ) (x : T) → Q k x → Z k x) → ((k : ℕ) → IfSome (s k) (Q k)) → (k : ℕ)
      → IfSome (s k) (Z k)
  allowed-over s Q Z over h k = weaker (s k) (Q k) (Z k) (over k) (h k)

  pub allowed-alone : (Q : ℕ → T → Type 0) (n : ℕ) (x : T) → ((k : ℕ) → IfSome (alone n x k) (Q k)) → Q n x
  allowed-alone Q n x h = subst (λ o. IfSome o (Q n)) (alone-there n x) (h n)

  pub allowed-first : (Q : ℕ → T → Type 0) (s t : ℕ → Option T) → ((k : ℕ) → IfSome (or_else (s k) (t k)) (Q k)) → (k : ℕ) → IfSome (s k) (Q k)
  allowed-first Q s t h k = first (s k) (t k) (Q k) (h k)

  pub allowed-second : (Q : ℕ → T → Type 0) (s t : ℕ → Option T) → ((k : ℕ) → (s k ≡ None) ⊎ (t k ≡ None))
      → ((k : ℕ) → IfSome (or_else (s k) (t k)) (Q k)) → (k : ℕ) → IfSome (t k) (Q k)
  allowed-second Q s t apart h k = second (s k) (t k) (Q k) (apart k) (h k)

  -- a node's own parcel stands before the others
  pub allowed-own : (Q : ℕ → T → Type 0) (n : ℕ) (x : T) (t : ℕ → Option T) → ((k : ℕ) → IfSome (or_else (alone n x k) (t k)) (Q k)) → Q n x
  allowed-own Q n x t h = allowed-alone Q n x (allowed-first Q (alone n x) t h)

  pub allowed-rest : (Q : ℕ → T → Type 0) (n : ℕ) (x : T) (t : ℕ → Option T) → t n ≡ None → ((k : ℕ) → IfSome (or_else (alone n x k) (t k)) (Q k))
      → (k : ℕ) → IfSome (t k) (Q k)
  allowed-rest Q n x t none h =
      allowed-second Q (alone n x) t
      (λ k. ⊎_elim
      (λ (e : k ≡ n). inr (ap t e ∙ none))
      (λ (d : k ≡ n → ⊥). inl (alone-none n x k d))
      (cases_eq k n))
      h

module _ {T H : Type 0} (u : ℕ → Bool) (f : ℕ → H → Option T) (Q : T → Type 0) (xs : List (Option H)) where
  place_within : (n i : ℕ) → i < n → u i ≡ true → ((j : ℕ) → j < i → (held : H) → f j held ≡ None) ⊎ ((held : H) → f i held ≡ None)
      → IfSome (in_places u f xs n) Q → IfSome (in_slot (f i) (slice_get xs i)) Q
  unfolding in_places
  place_within zero i l used apart h = absurd (let no : ⊥ = omega arith in no)
  place_within (suc n) i l used apart h =
      ⊎_elim
      (λ (e : n ≡ i).
      subst (λ b. IfSome (if b then in_slot (f i) (slice_get xs i) else None) Q) used
      (second (in_places u f xs i) (in_used_place u f xs i) Q
      (⊎_elim
      (λ (before : (j : ℕ) → j < i → (held : H) → f j held ≡ None). inl (in_places-none u f xs i (λ j m w held. before j m held)))
      (λ (here : (held : H) → f i held ≡ None). inr (used-none (u i) (in_slot (f i) (slice_get xs i)) (λ w. slot-none (f i) (slice_get xs i) here)))
      apart)
      (subst (λ m. IfSome (or_else (in_places u f xs m) (in_used_place u f xs m)) Q) e h)))
      (λ (d : n ≡ i → ⊥). place_within n i (omega arith) used apart (first (in_places u f xs n) (in_used_place u f xs n) Q h))
      (cases_eq n i)

module _ {T H : Type 0} (p : ℕ → H → ℕ → Option T) where
  -- of the slots in use, what one has
  pub allowed-slot : (u : ℕ → Bool) (Q : ℕ → T → Type 0) (xs : List (Option H)) (n i : ℕ) → i < n → u i ≡ true
      → ((k : ℕ) → ((j : ℕ) → j < i → (held : H) → p j held k ≡ None) ⊎ ((held : H) → p i held k ≡ None))
      → ((k : ℕ) → IfSome (in_places u (λ j held. p j held k) xs n) (Q k)) → (k : ℕ) → IfSome (in_slot (λ held. p i held k) (slice_get xs i)) (Q k)
  allowed-slot u Q xs n i l used apart h k = place_within u (λ j held. p j held k) (Q k) xs n i l used (apart k) (h k)

-- what is allowed of a slot is so of what was taken from it, and on a later shelf
pub allowed-taken : {T H : Type 0} (f : H → ℕ → Option T) (Q Z : ℕ → T → Type 0) (o : Option (Option H)) (slot : Option H) → o ≡ Some slot
    → ((k : ℕ) (x : T) → Q k x → Z k x) → ((k : ℕ) → IfSome (in_slot (λ held. f held k) o) (Q k)) → (k : ℕ)
    → IfSome (in_slot (λ held. f held k) (Some slot)) (Z k)
allowed-taken f Q Z o slot e over h k =
    subst (λ o. IfSome (in_slot (λ held. f held k) o) (Z k)) e (weaker (in_slot (λ held. f held k) o) (Q k) (Z k) (over k) (h k))
