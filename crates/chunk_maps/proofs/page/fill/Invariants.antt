use Rattle.std.proofs.Common.{◌≡◌, ℕ, ◌-◌, ◌≤◌, length}
use Rattle.chunk_maps.specs.Chunks.{chunk_at}
use Rattle.chunk_maps.proofs.page.fill.Given as goal

abbrev pub invariant-loop-page : goal.invariant-loop-page
invariant-loop-page g l = record {
  within : length l.page.items ≤ l.place;
  same : (other : ℕ) → chunk_at l.page.items other ≡ chunk_at l.fn.page.items other;
}

abbrev pub decreases-loop-page : goal.decreases-loop-page
decreases-loop-page g l = l.place - length l.page.items
