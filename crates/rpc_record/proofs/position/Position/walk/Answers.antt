use Rattle.std.proofs.Common.{rules}
use Rattle.rpc_record.proofs.Walks.{left-is, walked-on, walked-to-end, walked-to-fault, walked-all}
use Rattle.rpc_record.proofs.position.Position.walk.Goals as goal

pub loop-taken-preserved : goal.loop-taken-preserved
loop-taken-preserved c = record {
  walked = walked-on c.args.self c.loop-taken.self c.take-size.new.self c.args.bytes.now _ c.loop-taken.taken c.take-size.result.0 c.take-size.result.1
      c.loop-taken.invariant.walked (left-is c.loop-taken.taken c.args.bytes.now) c.take-size.ensures.turns c.in-Goes.is c.take-size.ensures.joined;
  within = search rules;
  sound = c.take-size.ensures.sound;
}

pub returns-in-Ends : goal.returns-in-Ends
returns-in-Ends c =
    walked-to-end c.args.self c.loop-taken.self c.take-size.new.self c.args.bytes.now _ c.loop-taken.taken c.take-size.result.0 c.take-size.result.1
    c.loop-taken.invariant.walked (left-is c.loop-taken.taken c.args.bytes.now) c.take-size.ensures.turns c.in-Ends.is

pub returns-in-Faults : goal.returns-in-Faults
returns-in-Faults c =
    walked-to-fault c.args.self c.loop-taken.self c.take-size.new.self c.args.bytes.now _ c.loop-taken.taken c.take-size.result.0 c.take-size.result.1
    c.loop-taken.invariant.walked (left-is c.loop-taken.taken c.args.bytes.now) c.take-size.ensures.turns c.in-Faults.is

pub returns : goal.returns
returns c =
    walked-all c.args.self c.loop-taken.self c.args.bytes.now c.loop-taken.taken c.loop-taken.invariant.walked c.loop-taken-test.false
    c.loop-taken.invariant.within
