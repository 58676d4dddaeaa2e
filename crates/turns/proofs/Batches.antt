-- Batches that inner calls take into a hand.
use Rattle.std.proofs.Common.{◌≡◌, ℕ, zero, suc, ◌+◌, ◌/◌, ◌<◌, List, [], ◌∷◌, map, refl, sym, ap, ◌∙◌, subst, arith}
use Rattle.std.specs.List.{range_with_len}
use Rattle.std.specs.Ordering.{nat_cmp}
use Rattle.std.specs.FinSet.{FinSet}
use Rattle.nfs_model.specs.Tree.{Layout, range_blocks_of}
use Rattle.nfs_model.specs.Parts.{Parts, most_ranges, IsBatch}
use Rattle.nfs_model.specs.Moves.{Carrying, batch, first_filled, lowest_batch, fresh_hand, dead_hand}
use Rattle.affinity.specs.Tree.{IsNode}
use Rattle.filer_state.specs.state.Jobs.{InnerCall, Fetch, Deliver, Cull, Free, Survey, JobReply, Took, Gave, Surveyed, Replied}
use Rattle.filer_state.specs.state.Jobs.{inner_node, inner_volume, InnerMoves}
use Rattle.turns.specs.Carries.{hand_after}
use Rattle.turns.specs.Words.{IsHandIn}

-- a batch is of one range
abbrev pub OfOneRange : Type 0
OfOneRange = (size range : ℕ) (blocks : FinSet nat_cmp) → IsBatch size range (batch size range blocks)

-- it is of the range of its first number
of-first : (size range b : ℕ) (bs : List ℕ) → IsBatch size range (b ∷ bs) → IsBatch size (b / size) (b ∷ bs)
of-first size range b bs is = subst (λ (r : ℕ). IsBatch size r (b ∷ bs)) (sym is.of_range.0) is

module _ (one : OfOneRange) (size : ℕ) where
  -- of the first of some ranges that has any
  among : (blocks : FinSet nat_cmp) (from n b : ℕ) (bs : List ℕ) → first_filled (map (λ r. batch size r blocks) (range_with_len from n)) ≡ b ∷ bs
      → (b / size < from + n) × IsBatch size (b / size) (b ∷ bs)
  among blocks from zero b bs e = absurd (nothing e)
    where
      nothing : [] ≡ b ∷ bs → ⊥
      nothing e = absurd cc
  among blocks from (suc n) b bs e = by (batch size from blocks) refl e (λ later. among blocks (from + 1) n b bs later)
    where
      by : (xs : List ℕ) → batch size from blocks ≡ xs → first_filled (xs ∷ map (λ r. batch size r blocks) (range_with_len (from + 1) n)) ≡ b ∷ bs
          → (first_filled (map (λ r. batch size r blocks) (range_with_len (from + 1) n)) ≡ b ∷ bs
          → (b / size < from + 1 + n) × IsBatch size (b / size) (b ∷ bs))
          → (b / size < from + suc n) × IsBatch size (b / size) (b ∷ bs)
      by [] is e others = let later = others e in let below = later.0 in (omega (arith, below), later.1)
      by (x ∷ xs) is e others =
          let here : IsBatch size from (b ∷ bs) = subst (λ (ys : List ℕ). IsBatch size from ys) (is ∙ e) (one size from blocks) in
          let at = here.of_range.0 in
          (omega (arith, at), of-first size from b bs here)

  lowest : (blocks : FinSet nat_cmp) (b : ℕ) (bs : List ℕ) → lowest_batch size blocks ≡ b ∷ bs
      → (b / size < most_ranges) × IsBatch size (b / size) (b ∷ bs)
  unfolding lowest_batch
  lowest blocks b bs e = among blocks 0 16 b bs e

module _ (one : OfOneRange) where
  -- what comes into the hand is of the layout
  pub hand-in : (layout : Layout) (call : InnerCall) (used : ℕ) (before after : Parts) (reply : JobReply) → IsNode layout (inner_node call)
      → InnerMoves (range_blocks_of layout (inner_volume call)) call used before reply after → IsHandIn layout (hand_after reply)
  hand-in layout call used before after (Gave hand) node moves = tt
  hand-in layout call used before after (Surveyed told) node moves = tt
  hand-in layout call used before after (Replied reply) node moves = tt
  hand-in layout (Fetch v r) used before after (Took hand) node moves =
      subst (λ h. IsHandIn layout h) (sym (ap (λ (c : Carrying). c.hand) moves.1.1))
      (fresh (batch (range_blocks_of layout v) r before.free) (one (range_blocks_of layout v) r before.free))
    where
      fresh : (xs : List ℕ) → IsBatch (range_blocks_of layout v) r xs → IsHandIn layout (fresh_hand v xs)
      fresh [] is = tt
      fresh (b ∷ bs) is = (node.0, omega arith, of-first (range_blocks_of layout v) r b bs is)
  hand-in layout (Cull v) used before after (Took hand) node moves =
      subst (λ h. IsHandIn layout h) (sym (ap (λ (c : Carrying). c.hand) moves.1)) (dead (lowest_batch (range_blocks_of layout v) before.dead) refl)
    where
      dead : (xs : List ℕ) → lowest_batch (range_blocks_of layout v) before.dead ≡ xs → IsHandIn layout (dead_hand v xs)
      dead [] is = tt
      dead (b ∷ bs) is = let first = lowest one (range_blocks_of layout v) before.dead b bs is in ((node, first.0), omega arith, first.1)
  hand-in layout (Deliver v) used before after (Took hand) node moves = absurd moves
  hand-in layout (Free v r) used before after (Took hand) node moves = absurd moves
  hand-in layout (Survey v) used before after (Took hand) node moves = absurd moves
