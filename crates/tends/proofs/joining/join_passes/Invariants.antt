use Rattle.std.proofs.Common.{◌≡◌, ◌+◌, [], All}
use Rattle.depot_rule.specs.Sums.{total}
use Rattle.granted_calls.specs.shared_waiting.Passes.{known, IsOf}
use Rattle.granted_calls.specs.Balance.{Weight}
use Rattle.tends.specs.Shares.{AreAllWith, put_by, picked_by}
use Rattle.tends.proofs.joining.join_passes.Given as goal

abbrev pub invariant-loop-next : goal.invariant-loop-next
invariant-loop-next l = record {
  of : IsOf l.waiting l.pass;
  each : All (IsOf l.waiting) l.passes.items;
  put : (weight : Weight) → put_by weight l.pass + total (put_by weight) l.passes.items
      ≡ put_by weight l.fn.pass + total (put_by weight) l.fn.passes.items;
  picked : (weight : Weight) → picked_by weight l.pass + total (picked_by weight) l.passes.items
      ≡ picked_by weight l.fn.pass + total (picked_by weight) l.fn.passes.items;
  share : AreAllWith (known l.fn.pass) [] l.fn.passes.items → AreAllWith (known l.pass) [] l.passes.items;
}

abbrev pub decreases-loop-next : goal.decreases-loop-next
decreases-loop-next l = l.passes.len
