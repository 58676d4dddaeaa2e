use Rattle.outboxes.specs.Boxes.{Boxes, oldest}
use Rattle.connections.specs.Joining.{HasJoined}
use Rattle.connections.specs.Taking.{Takes}
use Rattle.connections.specs.lemmas.Taking.{takes-fewer, waits}
use Rattle.connections.proofs.OneWrite.{joined-all, joined-alone, joined-more, paid-more}
use Rattle.std.proofs.Common.{◌∷◌, ◌++◌, [], Some, None, sym, ◌≡◌, ◌∙◌, rules, subst, ◌<◌}
use Rattle.connections.proofs.joining.join.Goals as goal

pub returns-then-size-gt-MOST_COPIED : goal.returns-then-size-gt-MOST_COPIED
returns-then-size-gt-MOST_COPIED c =
    let so = c.loop-record.invariant in
    subst (λ (b : Boxes). HasJoined c.args.connection.0 c.args.outboxes.now c.args.buffer.now.items c.args.owed.now (Some c.in-Some.record) b
    c.loop-record.buffer.items c.take-in-Some.new.self) (sym c.take.ensures.rest)
    (joined-alone c.args.connection.0 c.args.outboxes.now c.loop-record.outboxes c.args.buffer.now.items c.loop-record.buffer.items
    c.args.owed.now c.loop-record.owed so.0 so.1 so.2 so.3 c.in-Some.record c.room.result c.take-in-Some.new.self c.in-Some.ensures.record
    c.room.ensures c.take-in-Some.ensures)

pub loop-record-smaller : goal.loop-record-smaller
loop-record-smaller c =
    subst (λ (b : Boxes). waits c.args.connection.0 b < waits c.args.connection.0 c.loop-record.outboxes) (sym (c.give_back.ensures ∙ c.take.ensures.rest))
    (takes-fewer c.args.connection.0 c.loop-record.outboxes c.in-Some.record c.in-Some.ensures.record)

pub loop-record-preserved : goal.loop-record-preserved
loop-record-preserved c =
    let so = c.loop-record.invariant in
    let m = c.in-Some.record in
    let more = joined-more c.args.connection.0 c.args.outboxes.now c.loop-record.outboxes c.args.buffer.now.items
    c.loop-record.buffer.items c.args.owed.now c.loop-record.owed so.0 so.1 so.2 so.3 m _ _ c.in-Some.ensures.record c.as_slice.ensures
    c.keep.ensures in (
      so.0 ++ m ∷ [],
      subst (λ (b : Boxes). Takes c.args.connection.0 (so.0 ++ m ∷ []) c.args.outboxes.now b) (sym (c.give_back.ensures ∙ c.take.ensures.rest)) more.0,
      paid-more c.args.connection.0 c.args.outboxes.now c.loop-record.outboxes c.args.buffer.now.items c.loop-record.buffer.items
          c.args.owed.now c.loop-record.owed so.0 so.1 so.2 so.3 m c.room.result c.take-in-Some.new.self c.room.ensures c.take-in-Some.ensures,
      more.1,
    )

pub returns : goal.returns
returns c =
    let so = c.loop-record.invariant in
    let out : None ≡ oldest c.args.connection.0 c.loop-record.outboxes = search rules in
    subst (λ (b : Boxes). HasJoined c.args.connection.0 c.args.outboxes.now c.args.buffer.now.items c.args.owed.now None b
    c.loop-record.buffer.items c.loop-record.owed) (sym c.take.ensures.rest)
    (joined-all c.args.connection.0 c.args.outboxes.now c.loop-record.outboxes c.args.buffer.now.items c.loop-record.buffer.items
    c.args.owed.now c.loop-record.owed so.0 so.1 so.2 so.3 out)
