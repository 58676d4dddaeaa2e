use Rattle.std.proofs.Common.{◌≡◌, subst}
use Rattle.rpc_record.specs.Machine.{scan, More}
use Rattle.rpc_record.specs.declared.position.Turn.{Turn}
use Rattle.rpc_record.specs.Position.{state, outcome_of}
use Rattle.rpc_record.proofs.Feeding.{feeds_more}
use Rattle.rpc_record.proofs.reassembler.Reassembler.advance.Goals as goal

pub returns-in-Goes : goal.returns-in-Goes
returns-in-Goes c =
    let here = state c.self.inside.joined.items c.self.inside.position in
    let there = state c.join.new.joined.items c.join.new.position in
    let bytes = c.args.bytes.now in
    let scanned : scan 0 here bytes ≡ More there = subst
    (λ (turn : Turn). scan 0 here bytes ≡ outcome_of c.in-Ok.taken turn c.join.new.joined.items c.join.new.position) c.in-Goes.is c.in-Ok.ensures.scanned in
    feeds_more c.self.inside.failed here there c.args.self.now bytes c.in-Ok.taken c.requires c.self.view_is scanned (c.in-Ok.ensures.all c.in-Goes.is)
