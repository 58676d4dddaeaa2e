use Rattle.std.proofs.Common.{◌≡◌, ◌≤◌, ◌-◌, length, take, drop, vec_len}
use Rattle.rpc_record.specs.Machine.{scan}
use Rattle.rpc_record.specs.Position.{state, IsPosition}
use Rattle.rpc_record.proofs.join.join.Given as goal

abbrev pub invariant-loop-taken : goal.invariant-loop-taken
invariant-loop-taken l = record {
  so_far : scan 0 (state l.fn.joined.items l.fn.position) l.bytes ≡ scan l.taken (state l.joined.items l.position) (drop l.taken l.bytes);
  within : l.taken ≤ length l.bytes;
  kept : take (vec_len l.fn.joined) l.joined.items ≡ l.fn.joined.items;
  size : vec_len l.joined ≡ l.position.joined;
  sound : IsPosition l.position;
}

abbrev pub decreases-loop-taken : goal.decreases-loop-taken
decreases-loop-taken l = length l.bytes - l.taken
