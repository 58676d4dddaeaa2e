-- Two affinities exclude each other where a parcel is under both.
use Rattle.std.proofs.Common.{◌≡◌, ℕ, zero, suc, Bool, true, false, not, List, [], ◌∷◌, refl, sym, ◌∙◌, ap, subst, rules, ◌⊎◌, inl, inr, ⊎_elim}
use Rattle.std.specs.Prelude.{IsTrue, ◌↔◌}
use Rattle.std.proofs.lemmas.Bool.{and_parts, and_from, or_cases, cases_Bool, not_from_false}
use Rattle.nfs_model.specs.Tree.{Layout, Affinity, Serial, Aggregate, Volume, Logical, Stripe, Vbn, Range, path, excludes}
use Rattle.affinity.specs.Tree.{IsNode, is_above, covers}
use Rattle.affinity.specs.Under.{IsUnder, ShareParcel}
use Rattle.affinity.specs.lemmas.Ways.{begins-self, begins-both, begins-either}

-- the affinity at the end of a way
abbrev reached : List ℕ → Affinity
reached [] = Serial
reached (a ∷ []) = Aggregate a
reached (a ∷ v ∷ []) = Volume v
reached (a ∷ v ∷ zero ∷ []) = Logical v
reached (a ∷ v ∷ zero ∷ i ∷ more) = Stripe v i
reached (a ∷ v ∷ suc n ∷ []) = Vbn v
reached (a ∷ v ∷ suc n ∷ r ∷ more) = Range v r

reached-path : (layout : Layout) (a : Affinity) → reached (path layout a) ≡ a
reached-path layout Serial = refl
reached-path layout (Aggregate a) = refl
reached-path layout (Volume v) = refl
reached-path layout (Logical v) = refl
reached-path layout (Stripe v i) = refl
reached-path layout (Vbn v) = refl
reached-path layout (Range v r) = refl

-- no two affinities have one way
pub same_way : (layout : Layout) (a b : Affinity) → path layout a ≡ path layout b → a ≡ b
same_way layout a b e = sym (reached-path layout a) ∙ ap reached e ∙ reached-path layout b

-- one that covers another is it or above it
pub covers-cases : (layout : Layout) (a b : Affinity) → covers layout a b ≡ true → (b ≡ a) ⊎ (is_above layout a b ≡ true)
covers-cases layout a b h =
    ⊎_elim
    (λ (e : covers layout b a ≡ true). inl (same_way layout b a (begins-both (path layout b) (path layout a) e h)))
    (λ (e : covers layout b a ≡ false). inr (and_from (covers layout a b) (not (covers layout b a)) h (not_from_false (covers layout b a) e)))
    (cases_Bool (covers layout b a))

-- and the other way round
pub covers_from : (layout : Layout) (a b : Affinity) → (b ≡ a) ⊎ (is_above layout a b ≡ true) → covers layout a b ≡ true
covers_from layout a b h =
    ⊎_elim
    (λ (e : b ≡ a). subst (λ (x : Affinity). covers layout a x ≡ true) (sym e) (begins-self (path layout a)))
    (λ (e : is_above layout a b ≡ true). (and_parts (covers layout a b) (not (covers layout b a)) e).0)
    h

-- a node is under itself
own : (layout : Layout) (a : Affinity) → IsNode layout a → IsUnder layout a a
own layout a h = (h, inl refl)

pub shares_from : (layout : Layout) (a b : Affinity) → IsNode layout a → IsNode layout b → excludes layout a b ≡ true → ShareParcel layout a b
shares_from layout a b m n h =
    ⊎_elim
    (λ (e : covers layout a b ≡ true). (b, (n, covers-cases layout a b e), own layout b n))
    (λ (e : covers layout b a ≡ true). (a, own layout a m, (m, covers-cases layout b a e)))
    (or_cases (covers layout a b) (covers layout b a) h)

pub excludes_from : (layout : Layout) (a b : Affinity) → ShareParcel layout a b → excludes layout a b ≡ true
excludes_from layout a b h =
    begins-either (path layout a) (path layout b) (path layout h.0) (covers_from layout a h.0 h.1.1) (covers_from layout b h.0 h.2.1)

-- a test that says whether they exclude each other says whether they share a parcel
pub tells : (layout : Layout) (a b : Affinity) (test : Bool) → IsNode layout a → IsNode layout b → test ≡ excludes layout a b
    → (IsTrue test ↔ ShareParcel layout a b)
tells layout a b test m n e = (
  (λ (h : IsTrue test). shares_from layout a b m n (let yes : test ≡ true = search rules in sym e ∙ yes)),
  (λ (h : ShareParcel layout a b). let yes : test ≡ true = e ∙ excludes_from layout a b h in search rules),
)
