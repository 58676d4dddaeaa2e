use Rattle.std.proofs.Common.{◌≤◌, length, sym, subst}
use Rattle.nfs_model.specs.Types as types
use Rattle.outboxes.specs.Boxes.{most_bytes}
use Rattle.outboxes.specs.Messages.{message, record_of}
use Rattle.lanes.proofs.intake.IntakeRecordSink.answer.Goals as goal

pub put_at_once-requires : goal.put_at_once-requires
put_at_once-requires g c =
    subst (λ (x : types.Reply). length (record_of (message c.args.xid x)) ≤ most_bytes) (sym c.tell.ensures) (c.requires c.args.self.now.handles)
