use Rattle.std.proofs.Common.{arith}
use Rattle.std.proofs.lemmas.Bool.Decides.{nat_tests}
use Rattle.rpc_record.proofs.Chunks.{turns_data}
use Rattle.rpc_record.proofs.Headers.{turns_header}
use Rattle.rpc_record.proofs.position.Position.take.Goals as goal

pub returns-then-bytes-ge4-clause-turns : goal.returns-then-bytes-ge4-clause-turns
returns-then-bytes-ge4-clause-turns c =
    turns_header c.args.self.now c.end_header.new.self c.args.bytes.now c.read_u32-number.result c.end_header.result
    (grind (arith, nat_tests)) (grind (arith, nat_tests)) (omega arith) c.read_u32-number.ensures c.end_header.ensures.next

pub returns-clause-turns : goal.returns-clause-turns
returns-clause-turns c =
    turns_data c.args.self.now c.take_data.new.self c.args.bytes.now c.min-size.result c.take_data.result
    (grind (arith, nat_tests)) c.requires.some c.min-size.ensures c.take_data.ensures.next
