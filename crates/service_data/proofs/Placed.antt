-- Stripes in their places, as one of them changes, or all.
use Rattle.std.proofs.Common.{◌≡◌, ◌≢◌, ℕ, zero, suc, ◌+◌, ◌/◌, ◌%◌, ◌<◌, true, List, [], ◌∷◌, map, length, Option}
use Rattle.std.proofs.Common.{Some, None, refl, sym, ap, subst, ◌∙◌, arith}
use Rattle.std.specs.Prelude.{slice_get, slice_set, slice_index_or, is_some}
use Rattle.std.proofs.Math.Nat.{add-mod}
use Rattle.parcels.specs.Filled.{is_filled}
use Rattle.nfs_model.specs.volume.Stripes.{StripeValue, stripe_of, span_blocks}
use Rattle.filer_state.specs.state.Contents.{each}
use Rattle.filer_state.specs.state.Parcels.{no_stripe}
use Rattle.filer_state.specs.state.Tree.{stripe_at, home_stripe}
use Rattle.filer_state.specs.state.Sets.{FilerStripe, FilerLogical, stripe_value, placed, logical_before}
use Rattle.filer_state.specs.laws.lemmas.Each.{each-same, each-set, each-index, each-length, each-map}
use Rattle.filer_state.specs.bytes.Extending.{home_changed}
use Rattle.service_data.specs.Stripes.{HasStripes}
use Rattle.service_data.specs.Places.{place_changed, one_changed, first_changed, with_places, home_held, StripesChanged}

-- ---- a place

module _ {P : Type 0} where
  placed-is : (places : List (Option (FilerStripe P))) (i : ℕ) → placed places i ≡ slice_index_or places i None
  placed-is [] i = refl
  placed-is (p ∷ ps) zero = refl
  placed-is (p ∷ ps) (suc i) = placed-is ps i

  default-is : (places : List (Option (FilerStripe P))) (i : ℕ) (d : Option (FilerStripe P)) → i < length places
      → slice_index_or places i d ≡ slice_index_or places i None
  default-is [] i d less = absurd (omega arith)
  default-is (p ∷ ps) zero d less = refl
  default-is (p ∷ ps) (suc i) d less = default-is ps i d (omega arith)

  module _ (change : StripeValue → StripeValue) where
    value-changed : (place : Option (FilerStripe P)) → is_some place ≡ true → stripe_value (place_changed change place) ≡ change (stripe_value place)
    value-changed None e = absurd cc
    value-changed (Some s) e = refl

    filled-same : (place : Option (FilerStripe P)) → is_filled (Some place) ≡ is_filled (Some (place_changed change place))
    filled-same None = refl
    filled-same (Some s) = refl

    some-same : (place : Option (FilerStripe P)) → is_some (place_changed change place) ≡ is_some place
    some-same None = refl
    some-same (Some s) = refl

    -- ---- one changed

    one-alike : (places : List (Option (FilerStripe P))) (i k : ℕ) → is_filled (slice_get places k) ≡ is_filled (slice_get (one_changed i change places) k)
    one-alike [] i k = refl
    one-alike (p ∷ ps) zero zero = filled-same p
    one-alike (p ∷ ps) zero (suc k) = refl
    one-alike (p ∷ ps) (suc i) zero = refl
    one-alike (p ∷ ps) (suc i) (suc k) = one-alike ps i k

    one-some : (places : List (Option (FilerStripe P))) (i k : ℕ) → is_some (placed (one_changed i change places) k) ≡ is_some (placed places k)
    one-some [] i k = refl
    one-some (p ∷ ps) zero zero = some-same p
    one-some (p ∷ ps) zero (suc k) = refl
    one-some (p ∷ ps) (suc i) zero = refl
    one-some (p ∷ ps) (suc i) (suc k) = one-some ps i k

    one-here : (places : List (Option (FilerStripe P))) (i : ℕ) → placed (one_changed i change places) i ≡ place_changed change (placed places i)
    one-here [] i = refl
    one-here (p ∷ ps) zero = refl
    one-here (p ∷ ps) (suc i) = one-here ps i

    one-other : (places : List (Option (FilerStripe P))) (i k : ℕ) → k ≢ i → placed (one_changed i change places) k ≡ placed places k
    one-other [] i k ne = refl
    one-other (p ∷ ps) zero zero ne = absurd (ne refl)
    one-other (p ∷ ps) zero (suc k) ne = refl
    one-other (p ∷ ps) (suc i) zero ne = refl
    one-other (p ∷ ps) (suc i) (suc k) ne = one-other ps i k (λ e. ne (ap suc e))

    -- ---- the first ones changed

    first-alike : (n : ℕ) (places : List (Option (FilerStripe P))) (k : ℕ)
        → is_filled (slice_get places k) ≡ is_filled (slice_get (first_changed n change places) k)
    first-alike zero places k = refl
    first-alike (suc n) [] k = refl
    first-alike (suc n) (p ∷ ps) zero = filled-same p
    first-alike (suc n) (p ∷ ps) (suc k) = first-alike n ps k

    first-some : (n : ℕ) (places : List (Option (FilerStripe P))) (k : ℕ) → is_some (placed (first_changed n change places) k) ≡ is_some (placed places k)
    first-some zero places k = refl
    first-some (suc n) [] k = refl
    first-some (suc n) (p ∷ ps) zero = some-same p
    first-some (suc n) (p ∷ ps) (suc k) = first-some n ps k

    first-placed : (n : ℕ) (places : List (Option (FilerStripe P))) (k : ℕ) → k < n
        → placed (first_changed n change places) k ≡ place_changed change (placed places k)
    first-placed zero places k less = absurd (omega arith)
    first-placed (suc n) [] k less = refl
    first-placed (suc n) (p ∷ ps) zero less = refl
    first-placed (suc n) (p ∷ ps) (suc k) less = first-placed n ps k (omega arith)

    first-long : (n : ℕ) (places : List (Option (FilerStripe P))) → length (first_changed n change places) ≡ length places
    first-long zero places = refl
    first-long (suc n) [] = refl
    first-long (suc n) (p ∷ ps) = ap suc (first-long n ps)

    first-next : (n : ℕ) (places : List (Option (FilerStripe P))) (d : Option (FilerStripe P)) → n < length places
        → slice_set (first_changed n change places) n (place_changed change (slice_index_or (first_changed n change places) n d))
        ≡ first_changed (suc n) change places
    first-next n [] d less = absurd (omega arith)
    first-next zero (p ∷ ps) d less = refl
    first-next (suc n) (p ∷ ps) d less = ap (λ (l : List (Option (FilerStripe P))). place_changed change p ∷ l) (first-next n ps d (omega arith))

    -- one more
    first-more : (n : ℕ) (places now : List (Option (FilerStripe P))) (d was here : Option (FilerStripe P)) → n < length places
        → now ≡ first_changed n change places → slice_index_or now n d ≡ was → here ≡ place_changed change was
        → slice_set now n here ≡ first_changed (n + 1) change places
    first-more n places now d was here less so is changed =
        let one : suc n ≡ n + 1 = omega arith in
        ap (slice_set now n) (changed ∙ ap (place_changed change) (sym is))
        ∙ ap (λ (l : List (Option (FilerStripe P))). slice_set l n (place_changed change (slice_index_or l n d))) so ∙ first-next n places d less
        ∙ ap (λ (m : ℕ). first_changed m change places) one

-- ---- a block's stripe

pub home-is : (fileid block n k : ℕ) → k ≡ (fileid % n + block / span_blocks % n) % n → k ≡ stripe_of n fileid block
home-is fileid block n k is = is ∙ sym (add-mod fileid (block / span_blocks) n)

module _ {P : Type 0} (held : FilerLogical P) (has : HasStripes held) (fileid block : ℕ) where
  abbrev n : ℕ
  n = held.own.stripes

  abbrev home : ℕ
  home = stripe_of n fileid block

  abbrev now_at : ℕ → StripeValue
  now_at k = stripe_value (placed held.stripes.at k)

  home-below : home < n
  home-below = let some = has.some in omega (arith, some)

  -- what is found of a block
  pub home-value : home_stripe (logical_before held).stripes fileid block ≡ stripe_value (slice_index_or held.stripes.at home None)
  home-value =
      ap (λ (m : ℕ). stripe_at (logical_before held).stripes (stripe_of m fileid block)) (each-length now_at 0 n)
      ∙ each-index now_at no_stripe n home home-below ∙ ap stripe_value (placed-is held.stripes.at home)

  pub home-found : (d : Option (FilerStripe P)) (i : ℕ) → i ≡ home → length held.stripes.at ≡ 16
      → stripe_value (slice_index_or held.stripes.at i d) ≡ home_stripe (logical_before held).stripes fileid block
  home-found d i is long =
      ap stripe_value (default-is held.stripes.at i d (let few = has.few in let below = home-below in omega (arith, is, few, below, long)))
      ∙ ap (λ (k : ℕ). stripe_value (slice_index_or held.stripes.at k None)) is ∙ sym home-value

  module _ (change : StripeValue → StripeValue) where
    -- what is set in its place
    pub home-set : (i : ℕ) (d was here : Option (FilerStripe P)) → i ≡ home → length held.stripes.at ≡ 16 → slice_index_or held.stripes.at i d ≡ was
        → here ≡ place_changed change was → with_places (slice_set held.stripes.at i here) held ≡ home_held fileid block change held
    home-set i d was here is long found changed =
        ap (λ (l : List (Option (FilerStripe P))). with_places l held)
        (ap (slice_set held.stripes.at i) (changed ∙ ap (place_changed change) (sym found
        ∙ default-is held.stripes.at i d (let few = has.few in let below = home-below in omega (arith, is, few, below, long))))
        ∙ ap (λ (k : ℕ). one_changed k change held.stripes.at) is)

    home-stripes : (logical_before (home_held fileid block change held)).stripes ≡ home_changed fileid block change (logical_before held).stripes
    home-stripes =
        each-set now_at (λ k. stripe_value (placed (one_changed home change held.stripes.at) k)) n home home-below
        (λ k below ne. ap stripe_value (one-other change held.stripes.at home k ne))
        ∙ ap (slice_set (each now_at 0 n) home)
        (ap stripe_value (one-here change held.stripes.at home)
        ∙ value-changed change (placed held.stripes.at home) (has.there home home-below)
        ∙ ap change (sym (each-index now_at no_stripe n home home-below)))
        ∙ ap (λ (m : ℕ). slice_set (each now_at 0 n) (stripe_of m fileid block) (change (stripe_at (each now_at 0 n) (stripe_of m fileid block))))
        (sym (each-length now_at 0 n))

    pub home-changes : StripesChanged (home_changed fileid block change) held (home_held fileid block change held)
    home-changes = record {
      own = refl;
      stripes = home-stripes;
      alike = one-alike change held.stripes.at home;
      there = record {
        some = has.some;
        few = has.few;
        there = λ k below. one-some change held.stripes.at home k ∙ has.there k below;
      };
    }

-- all of them
all-changes : {P : Type 0} (held : FilerLogical P) → HasStripes held → (change : StripeValue → StripeValue)
    → StripesChanged (map change) held (with_places (first_changed held.own.stripes change held.stripes.at) held)
all-changes {P} held has change = record {
  own = refl;
  stripes =
      each-same (λ k. stripe_value (placed (first_changed held.own.stripes change held.stripes.at) k))
      (λ k. change (stripe_value (placed held.stripes.at k))) 0 held.own.stripes
      (λ k from below. ap stripe_value (first-placed change held.own.stripes held.stripes.at k (omega arith))
      ∙ value-changed change (placed held.stripes.at k) (has.there k (omega arith)))
      ∙ sym (each-map change (λ k. stripe_value (placed held.stripes.at k)) 0 held.own.stripes);
  alike = first-alike change held.own.stripes held.stripes.at;
  there = record {
    some = has.some;
    few = has.few;
    there = λ k below. first-some change held.own.stripes held.stripes.at k ∙ has.there k below;
  };
}

module _ {P : Type 0} (held now : FilerLogical P) (change : StripeValue → StripeValue) (n : ℕ)
    (so : now ≡ with_places (first_changed n change held.stripes.at) held) where
  pub one-more : (d was here : Option (FilerStripe P)) → n < length now.stripes.at → slice_index_or now.stripes.at n d ≡ was
      → here ≡ place_changed change was → with_places (slice_set now.stripes.at n here) now ≡ with_places (first_changed (n + 1) change held.stripes.at) held
  one-more d was here less found changed =
      let long : length now.stripes.at ≡ length held.stripes.at =
      ap (λ (h : FilerLogical P). length h.stripes.at) so ∙ first-long change n held.stripes.at in
      let places = first-more change n held.stripes.at now.stripes.at d was here (omega (arith, less, long)) (ap (λ (h : FilerLogical P). h.stripes.at) so)
      found changed in
      λ j. record { own = (so j).own; stripes = record { at = places j } }

  pub all-done : HasStripes held → n ≡ held.own.stripes → StripesChanged (map change) held now
  all-done has all = subst (StripesChanged (map change) held)
      (sym (so ∙ ap (λ (m : ℕ). with_places (first_changed m change held.stripes.at) held) all)) (all-changes held has change)

-- ---- one change after another

module _ {P : Type 0} where
  pub changed-then : (g h : List StripeValue → List StripeValue) (a b c : FilerLogical P) → StripesChanged g a b → StripesChanged h b c
      → StripesChanged (λ s. h (g s)) a c
  changed-then g h a b c first next = record {
    own = next.own ∙ first.own;
    stripes = next.stripes ∙ ap h first.stripes;
    alike = λ i. first.alike i ∙ next.alike i;
    there = next.there;
  }

  -- two changes of one place that undo each other
  pub one-restored : (g h : StripeValue → StripeValue) (places : List (Option (FilerStripe P))) (i : ℕ)
      → ((s : FilerStripe P) → slice_index_or places i None ≡ Some s → h (g s.own) ≡ s.own)
      → one_changed i h (one_changed i g places) ≡ places
  one-restored g h [] i same = refl
  one-restored g h (None ∷ ps) zero same = refl
  one-restored g h (Some s ∷ ps) zero same = λ j. Some (record s { own = same s refl j }) ∷ ps
  one-restored g h (p ∷ ps) (suc i) same = ap (λ (l : List (Option (FilerStripe P))). p ∷ l) (one-restored g h ps i same)
