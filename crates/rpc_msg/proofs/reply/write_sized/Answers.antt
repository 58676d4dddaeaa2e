use Rattle.std.proofs.Common.{◌≡◌, length, arith}
use Rattle.nfs_values.specs.Reply.{reply_of}
use Rattle.rpc_msg.specs.Replies.{reply_bytes}
use Rattle.rpc_msg.proofs.Framed.{record-put}
use Rattle.rpc_msg.proofs.reply.write_sized.Goals as goal

pub returns-clause-ok : goal.returns-clause-ok
returns-clause-ok c =
    let bytes = reply_bytes c.args.xid (reply_of c.args.reply.now) in
    let size : c.args.size ≡ length bytes = omega (arith, c.requires.size) in
    record-put c.args.out.now.items c.try_reserve.new.self.items c.put_header.new.out.items bytes c.append.new.out.items c.args.size
    c.try_reserve.ensures.items c.in_ok-put_header.ensures.ok size c.append.ensures.items
