use Rattle.std.proofs.Common.{◌≡◌, None, replicate}
use Rattle.parcels.proofs.vec_shelf.VecShelf.new.Given as goal

abbrev pub invariant-loop-done : goal.invariant-loop-done
invariant-loop-done g l = l.parcels.items ≡ replicate l._done None
