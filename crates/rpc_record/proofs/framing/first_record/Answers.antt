use Rattle.std.proofs.Common.{arith, rules, refl, take, drop, ap, subst, ◌+◌, ◌-◌, ℕ}
use Rattle.rpc_record.specs.Records.{BeginsWith}
use Rattle.rpc_record.proofs.Whole.{begins-with}
use Rattle.rpc_record.proofs.framing.first_record.Goals as goal

pub returns-clause-begins : goal.returns-clause-begins
returns-clause-begins c =
    let bytes = c.args.bytes.now in
    let number = c.from_be_bytes-number.result in
    let size = number - 2147483648 in
    subst (λ (n : ℕ). BeginsWith (take n (drop 4 bytes)) bytes) (omega arith)
    (begins-with bytes number size c.if-bytes-lt4.false (λ i. omega (arith, c.type_inv.bytes i)) (search rules)
    c.if-number-lt-LAST_FRAGMENT.false refl c.if-bytes-size.false c.if-size-gt-RECORD_LIMIT.false)
