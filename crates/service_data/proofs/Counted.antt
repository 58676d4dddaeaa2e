-- How many numbers of ranges are free.
use Rattle.std.proofs.Common.{◌≡◌, ◌+◌, ◌<◌, ◌≤◌, ◌*◌, ℕ, suc, Bool, true, false, List, [], ◌∷◌, length, filter, cond, Option, sym, ap, ◌∙◌, arith}
use Rattle.std.proofs.Math.Nat.{zero-add}
use Rattle.std.specs.Prelude.{slice_index_or}
use Rattle.std.specs.List.{range_with_len}
use Rattle.std.proofs.lemmas.List.FromFn.{length-range_with_len}
use Rattle.std.specs.FinSet.{contains, len}
use Rattle.nfs_model.specs.Moves.{in_range}
use Rattle.nfs_model.specs.volume.Ranges.{IsRangeSize, RangeValue, free_numbers}
use Rattle.filer_state.specs.state.Contents.{each}
use Rattle.filer_state.specs.state.Sets.{FilerRange, range_value, placed}
use Rattle.filer_state.specs.bytes.WritingUp.{free_count}
use Rattle.service_data.proofs.Parted.{at-found}

fewer : {A : Type 0} (test : A → Bool) (xs : List A) → length (filter test xs) ≤ length xs
fewer test [] = omega arith
fewer {A} test (x ∷ xs) = by (test x) (fewer test xs)
  where
    by : (b : Bool) → length (filter test xs) ≤ length xs → length (cond b (x ∷ filter test xs) (filter test xs)) ≤ length (x ∷ xs)
    by true h = omega (arith, h)
    by false h = omega (arith, h)

-- a range has at most its numbers free
pub few-free : (r : RangeValue) → IsRangeSize r.range_blocks → length (free_numbers r) ≤ 16777216
unfolding in_range
few-free r size =
    let few = fewer (contains r.free) (range_with_len (r.range_blocks * r.number) r.range_blocks) in
    let all = length-range_with_len (r.range_blocks * r.number) r.range_blocks in
    let most = size.most in
    omega (arith, few, all, most)

-- ---- places, counted one after another

module _ (f : ℕ → RangeValue) (all : ℕ) where
  -- this many numbers are free before one, and all with those from it on
  abbrev pub FreeSoFar : ℕ → ℕ → Type 0
  FreeSoFar at free = (free ≤ 16777216 * at) × ((m : ℕ) → at + m ≡ 16 → free + free_count (each f at m) ≡ all)

  pub free-all : (at free : ℕ) → FreeSoFar at free → 16 ≤ at → at ≤ 16 → free ≡ all
  free-all at free sofar past most = let rest = sofar.1 0 (omega (arith, past, most)) in omega (arith, rest)

pub free-first : (f : ℕ → RangeValue) → FreeSoFar f (free_count (each f 0 16)) 0 0
free-first f = (
  omega arith,
  λ m all. zero-add (free_count (each f 0 m)) ∙ ap (λ (n : ℕ). free_count (each f 0 n)) (sym (zero-add m) ∙ all),
)

-- one place more
module _ {P : Type 0} (places : List (Option (FilerRange P))) (all at : ℕ) (less : at < length places) (d : Option (FilerRange P)) where
  abbrev value_at : ℕ → RangeValue
  value_at r = range_value (placed places r)

  here-is : range_value (slice_index_or places at d) ≡ value_at at
  here-is = ap range_value (at-found places at d less)

  pub free-more : (free here : ℕ) → FreeSoFar value_at all at free → here ≡ len (range_value (slice_index_or places at d)).free → here ≤ 16777216
      → FreeSoFar value_at all (at + 1) (free + here)
  free-more free here sofar is few =
      let same : here ≡ len (value_at at).free = is ∙ ap (λ (r : RangeValue). len r.free) here-is in (
        let most = sofar.0 in omega (arith, most, few),
        λ m rest.
            let from = sofar.1 (suc m) (omega (arith, rest)) in
            omega (arith, from, same),
      )
