-- Holes filled one after another, and given numbers.
use Rattle.std.proofs.Common.{◌≡◌, ℕ, suc, ◌+◌, ◌≤◌, true, List, ◌∷◌, [], length, Option, sym, ap, subst, ◌∙◌, arith}
use Rattle.std.specs.Ordering.{nat_cmp}
use Rattle.std.specs.FinSet.{FinSet, contains, len}
use Rattle.nfs_model.specs.volume.Logical.{LogicalValue}
use Rattle.nfs_model.specs.volume.Ranges.{without_numbers}
use Rattle.nfs_model.specs.volume.Stripes.{StripeValue, stripe_of, is_filled, block_inserted, block_taken, block_numbered}
use Rattle.filer_state.specs.state.Sets.{FilerStripe, FilerLogical, logical_before, stripe_value}
use Rattle.filer_state.specs.bytes.Extending.{home_changed}
use Rattle.filer_state.specs.bytes.WritingUp.{Leave}
use Rattle.service_data.specs.Stripes.{HasStripes}
use Rattle.service_data.specs.Places.{home_held, with_places, StripesChanged}
use Rattle.service_data.specs.Holes.{Rise, AreHoles, zeroed, renumbered, stock_held, TakesNumbers}
use Rattle.service_data.proofs.Placed.{home-value, home-changes, changed-then, one-restored}
use Rattle.service_data.proofs.Holed.{rise-lower, holes-kept, zero-taken}
use Rattle.service_data.proofs.Stocked.{len-less}

module _ {P : Type 0} (fileid b : ℕ) (blocks rest : List ℕ) (is : blocks ≡ b ∷ rest) where
  -- ---- a hole filled with zeros, and then the rest

  module _ (old mid : FilerLogical P) (has : HasStripes old) (rise : Rise 0 blocks) (are : AreHoles fileid (logical_before old).stripes blocks)
      (filled : mid ≡ home_held fileid b (block_inserted fileid b 0) old) where
    rises : Rise 0 (b ∷ rest)
    rises = subst (Rise 0) is rise

    all-are : AreHoles fileid (logical_before old).stripes (b ∷ rest)
    all-are = subst (AreHoles fileid (logical_before old).stripes) is are

    one-filled : StripesChanged (home_changed fileid b (block_inserted fileid b 0)) old mid
    one-filled = subst (StripesChanged (home_changed fileid b (block_inserted fileid b 0)) old) (sym filled)
        (home-changes old has fileid b (block_inserted fileid b 0))

    pub rest-there : HasStripes mid
    rest-there = one-filled.there

    pub rest-rises : Rise 0 rest
    rest-rises = rise-lower fileid 0 (b + 1) rest (omega arith) rises.1

    pub rest-are : AreHoles fileid (logical_before mid).stripes rest
    rest-are = subst (λ (s : List StripeValue). AreHoles fileid s rest) (sym one-filled.stripes)
        (holes-kept fileid b rest (logical_before old).stripes rises.1 all-are.1)

    pub all-filled : (new : FilerLogical P) → StripesChanged (zeroed fileid rest) mid new → StripesChanged (zeroed fileid blocks) old new
    all-filled new next = subst (λ (l : List ℕ). StripesChanged (zeroed fileid l) old new) (sym is)
        (changed-then (home_changed fileid b (block_inserted fileid b 0)) (zeroed fileid rest) old mid new one-filled next)

    back : home_held fileid b (block_taken fileid b) (home_held fileid b (block_inserted fileid b 0) old) ≡ old
    back = ap (λ (l : List (Option (FilerStripe P))). with_places l old)
        (one-restored (block_inserted fileid b 0) (block_taken fileid b) old.stripes.at (stripe_of old.own.stripes fileid b)
        (λ s found. zero-taken fileid b s.own
        (ap (λ (x : StripeValue). is_filled x fileid b) (sym (home-value old has fileid b ∙ ap stripe_value found)) ∙ all-are.0)))

    pub undone : (again new : FilerLogical P) → again ≡ mid → new ≡ home_held fileid b (block_taken fileid b) again → new ≡ old
    undone again new same taken = taken ∙ ap (home_held fileid b (block_taken fileid b)) (same ∙ filled) ∙ back

  -- ---- a number, and then the rest

  module _ (old taken mid : FilerLogical P) (has : HasStripes old) (n : ℕ) (there : contains old.own.stock n ≡ true)
      (own : taken.own ≡ stock_held (without_numbers (n ∷ []) old.own.stock) old.own) (stripes : taken.stripes ≡ old.stripes)
      (numbered : mid ≡ home_held fileid b (block_numbered fileid b n) taken) where
    abbrev left : FinSet nat_cmp
    left = without_numbers (n ∷ []) old.own.stock

    abbrev base : FilerLogical P
    base = record { own = stock_held left old.own; stripes = old.stripes }

    base-is : taken ≡ base
    base-is = λ j. record { own = own j; stripes = stripes j }

    base-has : HasStripes base
    base-has = record { some = has.some; few = has.few; there = has.there }

    one-numbered : StripesChanged (home_changed fileid b (block_numbered fileid b n)) base mid
    one-numbered = subst (StripesChanged (home_changed fileid b (block_numbered fileid b n)) base)
        (sym (numbered ∙ ap (home_held fileid b (block_numbered fileid b n)) base-is))
        (home-changes base base-has fileid b (block_numbered fileid b n))

    pub mid-has : HasStripes mid
    mid-has = one-numbered.there

    pub mid-enough : length blocks ≤ len old.own.stock → length rest ≤ len mid.own.stock
    mid-enough enough =
        let many : length blocks ≡ suc (length rest) = ap length is in
        let less : len left + 1 ≡ len old.own.stock = len-less old.own.stock n there in
        let same : len mid.own.stock ≡ len left = ap (λ (l : LogicalValue). len l.stock) one-numbered.own in
        omega (arith, enough, many, less, same)

    pub all-numbered : (new : FilerLogical P) → TakesNumbers fileid rest mid new → TakesNumbers fileid blocks old new
    all-numbered new r = record {
      numbers = n ∷ r.numbers;
      as_many = ap suc r.as_many ∙ sym (ap length is);
      leave = (there, subst (λ (s : FinSet nat_cmp). Leave r.numbers s new.own.stock) (ap (λ (l : LogicalValue). l.stock) one-numbered.own) r.leave);
      own = r.own ∙ ap (stock_held new.own.stock) one-numbered.own;
      stripes = r.stripes ∙ ap (renumbered fileid rest r.numbers) one-numbered.stripes
          ∙ ap (λ (l : List ℕ). renumbered fileid l (n ∷ r.numbers) (logical_before old).stripes) (sym is);
      alike = λ i. one-numbered.alike i ∙ r.alike i;
      there = r.there;
    }
