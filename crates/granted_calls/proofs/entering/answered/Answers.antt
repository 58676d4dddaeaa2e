use Rattle.std.proofs.Common.{◌≤◌, length, sym, subst}
use Rattle.nfs_model.specs.Types as types
use Rattle.outboxes.specs.Messages as replies
use Rattle.outboxes.specs.Messages.{record_of}
use Rattle.granted_calls.proofs.entering.answered.Goals as goal

pub new-requires : goal.new-requires
new-requires c =
    subst (λ (x : types.Reply). length (record_of (replies.message c.args.entry.origin.xid x)) ≤ c.args.entry.room) (sym c.tell.ensures)
    (c.requires c.args.handles)
