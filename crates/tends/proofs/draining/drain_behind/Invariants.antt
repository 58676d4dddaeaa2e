use Rattle.std.proofs.Common.{◌≡◌, ◌≤◌, ◌+◌, ℕ, length, vec_len, vec_capacity}
use Rattle.depot_rule.specs.Sums.{total}
use Rattle.granted_calls.specs.shared_waiting.Balance.{IsWhole}
use Rattle.granted_calls.specs.shared_waiting.Passes.{known, IsOf}
use Rattle.granted_calls.specs.Messages.{Message}
use Rattle.tends.proofs.draining.drain_behind.Given as goal

abbrev pub invariant-loop : goal.invariant-loop
invariant-loop g l = record {
  of : IsOf l.waiting l.pass;
  whole : IsWhole (known l.pass);
  wide : vec_len l.fn.into + 1024 ≤ vec_capacity l.into;
  room : vec_capacity l.into ≡ vec_capacity l.fn.into;
  most : l.most ≤ 1024;
  counted : length (known l.fn.pass).put ≡ length (known l.fn.pass).picked + l.most;
  count : vec_len l.into ≡ vec_len l.fn.into + l.counter;
  picked : length (known l.pass).picked ≡ length (known l.fn.pass).picked + l.counter;
  put : (known l.pass).put ≡ (known l.fn.pass).put;
  taken : (weigh : Message → ℕ)
      → total weigh (known l.pass).picked + total weigh l.fn.into.items ≡ total weigh (known l.fn.pass).picked + total weigh l.into.items;
}
