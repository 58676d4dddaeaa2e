use Rattle.std.proofs.Common.{◌≡◌, ℕ, ◌≤◌, ◌-◌, List, length, drop}
use Rattle.rpc_record.specs.Machine.{scan}
use Rattle.rpc_record.specs.declared.position.Position.{Position}
use Rattle.rpc_record.specs.Position.{state, IsPosition}
use Rattle.rpc_record.proofs.position.Position.walk.Given as goal

-- Whatever data was joined before, with some data the walk stands here.
abbrev HasWalked : Position → List ℕ → ℕ → Position → Type 0
HasWalked old bytes taken new =
    (joined : List ℕ) → length joined ≡ old.joined
    → (now : List ℕ) × (length now ≡ new.joined) × (scan 0 (state joined old) bytes ≡ scan taken (state now new) (drop taken bytes))

abbrev pub invariant-loop-taken : goal.invariant-loop-taken
invariant-loop-taken l = record {
  walked : HasWalked l.fn.self l.bytes l.taken l.self;
  within : l.taken ≤ length l.bytes;
  sound : IsPosition l.self;
}

abbrev pub decreases-loop-taken : goal.decreases-loop-taken
decreases-loop-taken l = length l.bytes - l.taken
