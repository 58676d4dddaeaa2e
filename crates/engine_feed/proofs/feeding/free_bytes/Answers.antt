use Rattle.std.proofs.Common.{◌≡◌, ℕ, ◌+◌, ◌-◌, ◌∙◌, ap, arith}
use Rattle.rpc_record.specs.Machine.{Made, outcome}
use Rattle.engine_feed.proofs.Looks.{look-record, made-some, more-none}
use Rattle.engine_feed.proofs.feeding.free_bytes.Goals as goal

pub overflow_sub-result : goal.overflow_sub-result
overflow_sub-result c =
    let at = c.args.connection.now.reassembler in
    let m = look-record c.args.bytes.now (outcome at c.args.bytes.now) c.look-taken.result c.look-taken.ensures.looks c.in-Record.is in
    made-some at c.args.bytes.now c.look-taken.result.0 m.0 m.1

pub returns-in-Record : goal.returns-in-Record
returns-in-Record c =
    let at = c.args.connection.now.reassembler in
    let m = look-record c.args.bytes.now (outcome at c.args.bytes.now) c.look-taken.result c.look-taken.ensures.looks c.in-Record.is in
    let some = made-some at c.args.bytes.now c.look-taken.result.0 m.0 m.1 in
    let count : c.look-taken.result.0 ≡ c.look-taken.result.0 - 1 + 1 = omega (arith, some) in
    record {
      within = omega (arith, c.look-taken.ensures.within);
      none = more-none _ (c.look-taken.ensures.fewer (c.look-taken.result.0 - 1) (omega (arith, some)));
      next = λ lt. (m.0, m.1 ∙ ap (λ (n : ℕ). Made n m.0) count);
    }
