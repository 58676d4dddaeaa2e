use Rattle.std.proofs.Common.{rules, arith}
use Rattle.rpc_record.specs.declared.position.Turn.TheVariants as turns
use Rattle.rpc_record.proofs.Walks.{left-is, grown-by, joins-on, joins-all, kept-before, kept-still}
use Rattle.rpc_record.proofs.join.join.Goals as goal

pub loop-taken-preserved : goal.loop-taken-preserved
loop-taken-preserved c = record {
  so_far = joins-on _ c.loop-taken.position c.take-size.new.self c.loop-taken.joined.items c.append.new.joined.items c.args.bytes.now _
      c.loop-taken.taken c.take-size.result.0 c.take-size.result.1 c.loop-taken.invariant.so_far (omega (arith, c.loop-taken.joined.ok.0))
      (left-is c.loop-taken.taken c.args.bytes.now)
      (grown-by c.loop-taken.position c.loop-taken.joined.items _ _ _ c.min-data.ensures c.in_ok-append.ensures.items) c.take-size.ensures.turns
      turns.Goes c.in-Goes.is;
  within = search rules;
  kept = kept-before _ _ c.loop-taken.joined.items _ _ c.loop-taken.invariant.kept (omega (arith, c.args.joined.now.ok.0))
      c.in_ok-append.ensures.items;
  size = search rules;
  sound = c.take-size.ensures.sound;
}

pub returns-in-Ends-clause-scanned : goal.returns-in-Ends-clause-scanned
returns-in-Ends-clause-scanned c =
    joins-on _ c.loop-taken.position c.take-size.new.self c.loop-taken.joined.items c.append.new.joined.items c.args.bytes.now _
    c.loop-taken.taken c.take-size.result.0 c.take-size.result.1 c.loop-taken.invariant.so_far (omega (arith, c.loop-taken.joined.ok.0))
    (left-is c.loop-taken.taken c.args.bytes.now)
    (grown-by c.loop-taken.position c.loop-taken.joined.items _ _ _ c.min-data.ensures c.in_ok-append.ensures.items) c.take-size.ensures.turns
    turns.Ends c.in-Ends.is

pub returns-in-Ends-clause-kept : goal.returns-in-Ends-clause-kept
returns-in-Ends-clause-kept c =
    kept-before _ _ c.loop-taken.joined.items _ _ c.loop-taken.invariant.kept (omega (arith, c.args.joined.now.ok.0))
    c.in_ok-append.ensures.items

pub returns-in-Faults-clause-scanned : goal.returns-in-Faults-clause-scanned
returns-in-Faults-clause-scanned c =
    joins-on _ c.loop-taken.position c.take-size.new.self c.loop-taken.joined.items c.append.new.joined.items c.args.bytes.now _
    c.loop-taken.taken c.take-size.result.0 c.take-size.result.1 c.loop-taken.invariant.so_far (omega (arith, c.loop-taken.joined.ok.0))
    (left-is c.loop-taken.taken c.args.bytes.now)
    (grown-by c.loop-taken.position c.loop-taken.joined.items _ _ _ c.min-data.ensures c.in_ok-append.ensures.items) c.take-size.ensures.turns
    turns.Faults c.in-Faults.is

pub returns-in-Faults-clause-kept : goal.returns-in-Faults-clause-kept
returns-in-Faults-clause-kept c =
    kept-before _ _ c.loop-taken.joined.items _ _ c.loop-taken.invariant.kept (omega (arith, c.args.joined.now.ok.0))
    c.in_ok-append.ensures.items

pub returns-clause-scanned : goal.returns-clause-scanned
returns-clause-scanned c =
    joins-all _ c.loop-taken.position c.loop-taken.joined.items c.args.bytes.now c.loop-taken.taken c.loop-taken.invariant.so_far c.loop-taken-test.false

pub returns-in_err-append-clause-kept : goal.returns-in_err-append-clause-kept
returns-in_err-append-clause-kept c =
    kept-still _ _ c.loop-taken.joined.items _ c.loop-taken.invariant.kept c.in_err-append.ensures.err
