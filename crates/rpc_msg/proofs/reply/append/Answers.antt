use Rattle.std.proofs.Common.{append_assoc}
use Rattle.rpc_msg.proofs.reply.append.Goals as goal

pub returns-in-Success-clause-items : goal.returns-in-Success-clause-items
returns-in-Success-clause-items c =
    rw (c.in-Success.is, c.write_result.ensures.items, c.write_accepted.ensures.items) (simp append_assoc)
