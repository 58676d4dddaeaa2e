-- What is under Logical, as a file is extended step by step.
use Rattle.std.proofs.Common.{◌≡◌, ℕ, ◌+◌, ◌/◌, ◌<◌, ◌≤◌, List, [], ◌∷◌, length, take, Option, sym, ap, subst, ◌∙◌, arith}
use Rattle.std.proofs.lemmas.Bool.Decides.{nat_tests}
use Rattle.std.proofs.lemmas.List.{length-take-le}
use Rattle.std.specs.Prelude.{slice_set, slice_index_or, map, false, nat_lt}
use Rattle.std.specs.Ordering.{nat_cmp}
use Rattle.std.specs.FinSet.{FinSet}
use Rattle.nfs_model.specs.Server.{block_size}
use Rattle.nfs_model.specs.Types.{Moment}
use Rattle.nfs_model.specs.volume.Logical.{LogicalValue}
use Rattle.nfs_model.specs.volume.Stripes.{stripe_of, overwritten}
use Rattle.filer_state.specs.state.Contents.{each}
use Rattle.filer_state.specs.state.Sets.{FilerStripe, FilerLogical, stripe_value, placed, logical_before, logical_after}
use Rattle.filer_state.specs.bytes.Extending.{holes, filled_with, stripe_grown, span_written, spans_written, stripes_extended}
use Rattle.filer_state.specs.bytes.WritingUp.{Leave}
use Rattle.service_data.specs.Stripes.{HasStripes}
use Rattle.service_data.specs.Places.{place_changed, with_places, StripesChanged}
use Rattle.service_data.specs.Holes.{Rise, zeroed, renumbered, stock_held, TakesNumbers, inode_extended_in, extending_by, ExtendsFile}
use Rattle.service_data.proofs.Placed.{home-set, home-changes}
use Rattle.service_data.proofs.Holed.{holes-rise, numbered-filled}

module _ {P : Type 0} where
  -- bytes of a span
  pub span-changes : (held : FilerLogical P) → HasStripes held → (fileid offset : ℕ) (written : List ℕ) (moment : Moment) → 0 < length written
      → (i : ℕ) (d was here : Option (FilerStripe P)) → i ≡ stripe_of held.own.stripes fileid (offset / block_size) → length held.stripes.at ≡ 16
      → slice_index_or held.stripes.at i d ≡ was → here ≡ place_changed (overwritten fileid offset written moment) was
      → StripesChanged (span_written fileid offset written moment) held (with_places (slice_set held.stripes.at i here) held)
  span-changes held has fileid offset [] moment some i d was here is long found changed = absurd (omega arith)
  span-changes held has fileid offset (x ∷ written) moment some i d was here is long found changed =
      subst (StripesChanged (span_written fileid offset (x ∷ written) moment) held)
      (sym (home-set held has fileid (offset / block_size) (overwritten fileid offset (x ∷ written) moment) i d was here is long found changed))
      (home-changes held has fileid (offset / block_size) (overwritten fileid offset (x ∷ written) moment))

-- ---- all of it

module _ {P : Type 0} (old filled numbered extended grown new : FilerLogical P) (fileid offset : ℕ) (written : List ℕ) (moment : Moment) (bs : List ℕ)
    (is : bs ≡ holes (logical_before old).stripes fileid offset (length written)) (more : ℕ) (many : more ≡ length bs)
    (fills : StripesChanged (zeroed fileid bs) old filled) (numbers : TakesNumbers fileid bs filled numbered)
    (own : extended.own ≡ inode_extended_in fileid (offset + length written) more numbered.own) (stripes : extended.stripes ≡ numbered.stripes)
    (grows : StripesChanged (map (stripe_grown fileid (offset + length written))) extended grown)
    (writes : StripesChanged (spans_written fileid offset written moment) grown new) where
  abbrev stock : FinSet nat_cmp
  stock = numbered.own.stock

  own-after : new.own ≡ inode_extended_in fileid (offset + length written) (length numbers.numbers) (stock_held stock old.own)
  own-after =
      let as_many : more ≡ length numbers.numbers = many ∙ sym numbers.as_many in
      writes.own ∙ grows.own ∙ own
      ∙ ap (inode_extended_in fileid (offset + length written) more) (numbers.own ∙ ap (stock_held stock) fills.own)
      ∙ ap (λ (m : ℕ). inode_extended_in fileid (offset + length written) m (stock_held stock old.own)) as_many

  stripes-kept : (logical_before extended).stripes ≡ (logical_before numbered).stripes
  stripes-kept = λ j. each (λ i. stripe_value (placed (stripes j).at i)) 0 (own j).stripes

  stripes-filled : (logical_before numbered).stripes
      ≡ filled_with fileid (holes (logical_before old).stripes fileid offset (length written)) numbers.numbers (logical_before old).stripes
  stripes-filled =
      numbers.stripes ∙ ap (renumbered fileid bs numbers.numbers) fills.stripes
      ∙ numbered-filled fileid 0 bs numbers.numbers (logical_before old).stripes
      (subst (Rise 0) (sym is) (holes-rise fileid (logical_before old).stripes offset (length written))) numbers.as_many
      ∙ ap (λ (l : List ℕ). filled_with fileid l numbers.numbers (logical_before old).stripes) is

  stripes-after : (logical_after old new).stripes
      ≡ stripes_extended (extending_by fileid offset written moment numbers.numbers) (logical_before old).stripes
  stripes-after =
      ap (λ (l : LogicalValue). each (λ i. stripe_value (placed new.stripes.at i)) 0 l.stripes) (sym own-after)
      ∙ writes.stripes
      ∙ ap (spans_written fileid offset written moment)
      (grows.stripes ∙ ap (map (stripe_grown fileid (offset + length written))) (stripes-kept ∙ stripes-filled))

  pub extends-file : ExtendsFile fileid offset written moment (logical_before old) (logical_after old new)
  extends-file = record {
    numbers = numbers.numbers;
    stock = stock;
    as_many = numbers.as_many ∙ ap length is;
    leave = subst (λ (s : FinSet nat_cmp). Leave numbers.numbers s stock) (ap (λ (l : LogicalValue). l.stock) fills.own) numbers.leave;
    set = λ j. record { own = own-after j; stripes = stripes-after j };
  }

-- as many as there are in the stock
pub enough-there : (found wanted : List ℕ) (count there stock : ℕ) → count ≤ length found → take count found ≡ wanted → count ≤ there → there ≡ stock
    → nat_lt stock (length wanted) ≡ false
enough-there found wanted count there stock few is enough same =
    let long : length wanted ≡ count = sym (ap length is) ∙ length-take-le count found few in
    grind (arith, nat_tests, long, enough, same)

pub as-many : (found : List ℕ) (count : ℕ) → count ≤ length found → count ≡ length (take count found)
as-many found count few = sym (length-take-le count found few)
