use Rattle.std.proofs.Common.{◌≡◌, Some, length, arith, rules}
use Rattle.rpc_record.specs.Machine.{start}
use Rattle.rpc_record.proofs.Whole.{at-start, reads-whole}
use Rattle.rpc_record.proofs.reassembler.Reassembler.whole.Goals as goal

pub returns-clause-reads : goal.returns-clause-reads
returns-clause-reads c =
    let inside = c.self.inside in
    let none : length inside.joined.items ≡ 0 = search rules in
    let here : c.args.self.now ≡ Some start =
    at-start inside.failed inside.joined.items inside.position c.args.self.now c.if-self.false none
    ((c.is_start.ensures inside.joined.items).0 c.if-not-is_start.false) c.self.view_is in
    reads-whole c.first_record.result c.args.bytes.now c.args.self.now here c.first_record.ensures.begins
