-- Stripes that change, but not their blocks: files have the bytes that they had.
use Rattle.std.proofs.Common.{◌≡◌, ℕ, zero, suc, ◌<◌, ◌/◌, ◌%◌, List, [], ◌∷◌, length, map, refl, ap, ◌∙◌, arith}
use Rattle.std.specs.Prelude.{is_some}
use Rattle.std.proofs.lemmas.List.{length-map}
use Rattle.std.specs.List.{range_with_len}
use Rattle.std.specs.FinMap.{get}
use Rattle.std.specs.FinSet as sets
use Rattle.nfs_model.specs.Server.{block_size}
use Rattle.depot_rule.specs.Sums.{total}
use Rattle.nfs_model.specs.volume.Stripes.{StripeValue, byte_of, stripe_of}
use Rattle.filer_state.specs.state.Tree.{stripe_at, home_stripe, file_bytes, file_filled, most_file_blocks}

module _ (g : StripeValue → StripeValue) where
  pub stripe-mapped : (stripes : List StripeValue) (i : ℕ) → i < length stripes → stripe_at (map g stripes) i ≡ g (stripe_at stripes i)
  stripe-mapped [] i less = absurd (omega arith)
  stripe-mapped (s ∷ stripes) zero less = refl
  stripe-mapped (s ∷ stripes) (suc i) less = stripe-mapped stripes i (omega arith)

  pub total-mapped : (f : StripeValue → ℕ) → ((s : StripeValue) → f (g s) ≡ f s) → (stripes : List StripeValue) → total f (map g stripes) ≡ total f stripes
  total-mapped f same [] = refl
  total-mapped f same (s ∷ stripes) = let here = same s in let others = total-mapped f same stripes in omega arith

  module _ (same : (s : StripeValue) → (g s).blocks ≡ s.blocks) where
    blocks-stay : (stripes : List StripeValue) (i : ℕ) → (stripe_at (map g stripes) i).blocks ≡ (stripe_at stripes i).blocks
    blocks-stay [] i = refl
    blocks-stay (s ∷ stripes) zero = same s
    blocks-stay (s ∷ stripes) (suc i) = blocks-stay stripes i

    pub homes-stay : (stripes : List StripeValue) (fileid block : ℕ)
        → (home_stripe (map g stripes) fileid block).blocks ≡ (home_stripe stripes fileid block).blocks
    homes-stay stripes fileid block =
        ap (λ (n : ℕ). (stripe_at (map g stripes) (stripe_of n fileid block)).blocks) (length-map stripes g)
        ∙ blocks-stay stripes (stripe_of (length stripes) fileid block)

    pub bytes-stay : (stripes : List StripeValue) (fileid size : ℕ) → file_bytes (map g stripes) fileid size ≡ file_bytes stripes fileid size
    bytes-stay stripes fileid size = λ j. map
        (λ k. byte_of (get (homes-stay stripes fileid (k / block_size) j) (fileid, k / block_size)) (k % block_size)) (range_with_len 0 size)

    pub filled-stays : (stripes : List StripeValue) (fileid : ℕ) → file_filled (map g stripes) fileid ≡ file_filled stripes fileid
    filled-stays stripes fileid =
        λ j. sets.retain (sets.from_list (range_with_len 0 most_file_blocks)) (λ b. is_some (get (homes-stay stripes fileid b j) (fileid, b)))
