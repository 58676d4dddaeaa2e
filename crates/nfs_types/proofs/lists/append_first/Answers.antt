use Rattle.std.proofs.Common.{arith}
use Rattle.nfs_types.proofs.Item.{first-kept}
use Rattle.nfs_types.proofs.lists.append_first.Goals as goal

pub returns-clause-items : goal.returns-clause-items
returns-clause-items c =
    first-kept c.args.out.now.items c.args.bytes.now c.append.new.out.items c.truncate.new.self.items _ c.args.count c.append.ensures.items
    c.truncate.ensures.items (omega arith)
