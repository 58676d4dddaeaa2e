use Rattle.std.proofs.Common.{append_assoc}
use Rattle.nfs_types.proofs.encode.PriorAttributesEncode.write.Goals as goal

pub returns-clause-items : goal.returns-clause-items
returns-clause-items c =
    rw (
      c.append.ensures.items,
      c.join.ensures,
      c.join-times.ensures,
      c.moment_bytes-ctime.ensures,
      c.moment_bytes-mtime.ensures,
      c.to_be_bytes-size.ensures,
    ) (simp append_assoc)
