-- A seat between two calls: what has to hold of its views.
use Rattle.std.proofs.Common.{◌≡◌, ℕ, ◌+◌, List, [], ◌∷◌, length, ap, ◌∙◌}
use Rattle.depot_rule.specs.declared.view.View.{View}
use Rattle.depot.specs.Calls.{own_views, known}
use Rattle.depot.specs.Holds.{IsGathered, IsApart}
use Rattle.depot.proofs.Apart.{apart-of}
use Rattle.depot.proofs.Seated.{gathered-of}

module _ {P E : Type 0} where
  pub record IsBetween (views : List (List (View P E))) (splits : ℕ) : Type 0 where
    pub one : (length views ≡ 1) × (length (own_views views) ≡ 1)
    pub idle : ((known views).unsure ≡ 0) × ((known views).out ≡ 0) × (length (known views).path ≡ 0) × ((known views).stamped ≡ 0)
    pub parts : (known views).parts ≡ splits + 1
    pub gathered : IsGathered (known views)
    pub apart : IsApart (known views)

  -- of a seat whose one view is known
  pub between : (w : View P E) (views : List (List (View P E))) (splits : ℕ) → views ≡ (w ∷ []) ∷ []
      → (w.unsure ≡ 0) × (w.out ≡ 0) × (length w.path ≡ 0) × (w.stamped ≡ 0) → w.parts ≡ splits + 1 → IsGathered w → IsApart w → IsBetween views splits
  between w views splits is idle parts gathered apart = record {
    one = (ap length is, ap (λ l. length (own_views l)) is);
    idle = (
      ap (λ l. (known l).unsure) is ∙ idle.0,
      ap (λ l. (known l).out) is ∙ idle.1,
      ap (λ l. length (known l).path) is ∙ idle.2,
      ap (λ l. (known l).stamped) is ∙ idle.3,
    );
    parts = ap (λ l. (known l).parts) is ∙ parts;
    gathered = gathered-of w is gathered;
    apart = apart-of w is apart;
  }
