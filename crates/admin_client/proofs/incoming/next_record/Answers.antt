use Rattle.std.proofs.Common.{◌≡◌, ℕ, ◌<◌, ◌++◌, length, take, Option, Vec, Global, sym, subst, arith}
use Rattle.rpc_record.specs.Machine.{State}
use Rattle.admin_client.specs.Incoming.{IsOpen}
use Rattle.admin_client.proofs.Pieces.{consumed_end, consumed_kept, consumed_more, end_known, failure_known, read_ended, taken_known, taken_fault}
use Rattle.admin_client.proofs.incoming.next_record.Goals as goal
use Rattle.admin_client.proofs.incoming.next_record.Goals.{in-Ok+in-None, in-Err+else-ne}

pub returns-in-Ok-eq0-clause-next : goal.returns-in-Ok-eq0-clause-next
returns-in-Ok-eq0-clause-next g c =
    let i = c.loop-turn.invariant in
    let remaining = g.R.Read.remaining in
    let some : 0 < length c.read.new.buf = omega arith in
    let none : c.in-Ok-eq0.field-0 ≡ 0 = omega arith in
    let ended = read_ended (remaining c.loop-turn.stream) (remaining c.read.new.self) c.in-Ok-eq0.field-0 c.read.new.buf none some
    c.in-Ok-eq0.ensures.bytes in
    end_known (remaining c.args.stream.now) (remaining c.read.new.self) i.0
    (consumed_end (remaining c.args.stream.now) (remaining c.loop-turn.stream) (remaining c.read.new.self) i.0 i.2 ended.0) ended.1 i.1.0 i.1.1

pub returns-in-Some-clause-next : goal.returns-in-Some-clause-next
returns-in-Some-clause-next g c =
    let i = c.loop-turn.invariant in
    let remaining = g.R.Read.remaining in
    let piece = take c.in-Ok.size c.read.new.buf in
    let gone = consumed_more (remaining c.args.stream.now) (remaining c.loop-turn.stream) (remaining c.read.new.self) i.0 piece i.2 c.in-Ok.ensures.bytes.0 in
    taken_known (λ (made : Vec ℕ Global). made.items) (remaining c.args.stream.now)
    (remaining c.read.new.self) i.0 piece c.in-Some.ended c.take.new.records gone
    (c.in-Some.ensures i.0 i.1)

pub returns-in-Some-clause-faults : goal.returns-in-Some-clause-faults
returns-in-Some-clause-faults g c =
    let i = c.loop-turn.invariant in
    taken_fault (λ (made : Vec ℕ Global). made.items) i.0 (take c.in-Ok.size c.read.new.buf) c.in-Some.ended c.take.new.records (c.in-Some.ensures i.0 i.1)

pub returns-then-ne-clause-next : goal.returns-then-ne-clause-next
returns-then-ne-clause-next g c =
    failure_known (λ (made : Vec ℕ Global). made.items) (g.R.Read.remaining c.args.stream.now) c.of_stream.result c.of_stream.ensures.failed

pub loop-turn-preserved : goal.loop-turn-preserved
loop-turn-preserved g c =
    let i = c.loop-turn.invariant in
    let remaining = g.R.Read.remaining in
    elim c.match-read.branch [
      | in-Ok+in-None w ↦
          let piece = take w.in-Ok.size c.read.new.buf in (
            i.0 ++ piece,
            subst (λ (s : Option State). IsOpen (i.0 ++ piece) s) (sym w.records-is) (w.in-None.ensures i.0 i.1),
            consumed_more (remaining c.args.stream.now) (remaining c.loop-turn.stream) (remaining c.read.new.self) i.0 piece i.2 w.in-Ok.ensures.bytes.0,
          )
      | in-Err+else-ne w ↦ (
        i.0,
        subst (λ (s : Option State). IsOpen i.0 s) (sym w.records-is) i.1,
        consumed_kept (remaining c.args.stream.now) (remaining c.loop-turn.stream) (remaining c.read.new.self) i.0 i.2 w.in-Err.ensures.bytes,
      )
    ]
