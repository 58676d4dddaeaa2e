-- A pass that took in another, and what it has beside when it is parted from it.
use Rattle.std.proofs.Common.{◌≡◌, ◌*◌, ◌^◌, ◌<◌, List, [], ◌∷◌, ◌++◌, Option, Some, None, Result, Ok, Err, sym, refl, ap, ◌∙◌, subst, arith, mul-pos}
use Rattle.std.specs.Prelude.{MatchOption, MatchResult}
use Rattle.std.proofs.lemmas.Nat.{pow_pos}
use Rattle.std.proofs.lemmas.List.{append-nil}
use Rattle.granted_calls.specs.declared.shared_waiting.view.View.{View}
use Rattle.granted_calls.specs.shared_waiting.Balance.{added, taken, both, grown, HasGrown, FitsIn}
use Rattle.granted_calls.proofs.shared_waiting.Keeps.{seam}

module _ {T K : Type 0} where
  -- two passes in one have a share, if the first has
  pub both-live : (own other : View T K) → 0 < own.share → 0 < (both own other).share
  both-live own other some = let half : 0 < own.share * 2 ^ other.halvings = mul-pos some (pow_pos other.halvings) in omega (arith, half)

  pub as-both : (own other v : View T K) → v ≡ both own other → HasGrown own other v
  as-both own other v is = subst (λ (x : View T K). HasGrown own other x) (sym is) (record {
    share = refl;
    halvings = refl;
    key = refl;
    more_put = [];
    put = sym (append-nil (own.put ++ other.put));
    more_picked = [];
    picked = sym (append-nil (own.picked ++ other.picked));
  })

  as-taken : (own other v : View T K) (x : T) → v ≡ taken (both own other) x → HasGrown own other v
  as-taken own other v x is = subst (λ (y : View T K). HasGrown own other y) (sym is) (record {
    share = refl;
    halvings = refl;
    key = refl;
    more_put = [];
    put = sym (append-nil (own.put ++ other.put));
    more_picked = x ∷ [];
    picked = refl;
  })

  as-added : (own other v : View T K) (x : T) → v ≡ added (both own other) x → HasGrown own other v
  as-added own other v x is = subst (λ (y : View T K). HasGrown own other y) (sym is) (record {
    share = refl;
    halvings = refl;
    key = refl;
    more_put = x ∷ [];
    put = refl;
    more_picked = [];
    picked = sym (append-nil (own.picked ++ other.picked));
  })

  -- what is left to a pass that is parted again
  left-by : (own other v : View T K) (put picked : List T) → v.put ≡ (own.put ++ other.put) ++ put → v.picked ≡ (own.picked ++ other.picked) ++ picked
      → grown own other v ≡ record own { put = own.put ++ put; picked = own.picked ++ picked }
  left-by own other v put picked is_put is_picked = λ j. record own {
    put = seam own.put other.put put v.put is_put j;
    picked = seam own.picked other.picked picked v.picked is_picked j;
  }

  pub was-both : (own other v : View T K) → v ≡ both own other → grown own other v ≡ own
  was-both own other v is =
      left-by own other v [] [] (ap (λ (x : View T K). x.put) is ∙ sym (append-nil (own.put ++ other.put)))
      (ap (λ (x : View T K). x.picked) is ∙ sym (append-nil (own.picked ++ other.picked)))
      ∙ (λ j. record own { put = append-nil own.put j; picked = append-nil own.picked j })

  was-taken : (own other v : View T K) (x : T) → v ≡ taken (both own other) x → grown own other v ≡ taken own x
  was-taken own other v x is =
      left-by own other v [] (x ∷ []) (ap (λ (y : View T K). y.put) is ∙ sym (append-nil (own.put ++ other.put))) (ap (λ (y : View T K). y.picked) is)
      ∙ (λ j. record own { put = append-nil own.put j; picked = own.picked ++ x ∷ [] })

  was-added : (own other v : View T K) (x : T) → v ≡ added (both own other) x → grown own other v ≡ added own x
  was-added own other v x is =
      left-by own other v (x ∷ []) [] (ap (λ (y : View T K). y.put) is) (ap (λ (y : View T K). y.picked) is ∙ sym (append-nil (own.picked ++ other.picked)))
      ∙ (λ j. record own { put = own.put ++ x ∷ []; picked = append-nil own.picked j })

  module _ (own other u v : View T K) (in_one : u ≡ both own other) where
    -- ---- a pick

    module _ (Fits : K → T → Type 0) (Empty : View T K → Type 0) where
      pub picked-grown : (r : Option T) → MatchOption r ((v ≡ u) × Empty u) (λ x. (v ≡ taken u x) × FitsIn Fits u.key x) → HasGrown own other v
      picked-grown None did = as-both own other v (did.0 ∙ in_one)
      picked-grown (Some x) did = as-taken own other v x (did.0 ∙ ap (λ (y : View T K). taken y x) in_one)

      pub picked-beside : (w : View T K) → w ≡ grown own other v → (r : Option T)
          → MatchOption r ((v ≡ u) × Empty u) (λ x. (v ≡ taken u x) × FitsIn Fits u.key x)
          → MatchOption r ((w ≡ own) × Empty (both own other)) (λ x. (w ≡ taken own x) × FitsIn Fits own.key x)
      picked-beside w after None did = (after ∙ was-both own other v (did.0 ∙ in_one), subst Empty in_one did.1)
      picked-beside w after (Some x) did = (
        after ∙ was-taken own other v x (did.0 ∙ ap (λ (y : View T K). taken y x) in_one),
        subst (λ (y : View T K). FitsIn Fits y.key x) in_one did.1,
      )

    -- ---- a put

    module _ (m : T) (Full : View T K → Type 0) where
      pub put-grown : (r : Result Unit T) → MatchResult r (λ _. v ≡ added u m) (λ back. (back ≡ m) × (v ≡ u) × Full u) → HasGrown own other v
      put-grown (Ok done) did = as-added own other v m (did ∙ ap (λ (y : View T K). added y m) in_one)
      put-grown (Err back) did = as-both own other v (did.1 ∙ in_one)

      pub put-beside : (w : View T K) → w ≡ grown own other v → (r : Result Unit T) → MatchResult r (λ _. v ≡ added u m) (λ back. (back ≡ m) × (v ≡ u) × Full u)
          → MatchResult r (λ _. w ≡ added own m) (λ back. (back ≡ m) × (w ≡ own) × Full (both own other))
      put-beside w after (Ok done) did = after ∙ was-added own other v m (did ∙ ap (λ (y : View T K). added y m) in_one)
      put-beside w after (Err back) did = (did.0, after ∙ was-both own other v (did.1 ∙ in_one), subst Full in_one did.2)
